-- Dependencies have to hold, and a port with all of `from` has to have all of `to`: the counts by a don't split by k where k isn't determined by a.
use Rattle.std.proofs.Common.{◌≡◌, refl, ℕ, zero, suc, Bool, true, false, cond, pos, List, [], ◌∷◌, codes, ◌∙◌, sym, subst, inl, inr}
use Rattle.std.specs.Ordering.{eq_by_cmp}
use Rattle.std.proofs.lemmas.Bool.{true≢false}
use Rattle.blz_value.specs.declared.value.Value.TheVariants.{Int}
use Rattle.blz_value.specs.Members.{Has}
use Rattle.blz_value.specs.Record.{Row, record_cmp}
use Rattle.blz_value.specs.declared.attrs.Fd.{Fd}
use Rattle.blz_value.specs.Bits.{bit_of, meets}
use Rattle.blz_value.specs.Closure.{within, step, closure}
use Rattle.blz_value.proofs.Members.{one_number, member_small}
use Rattle.bloom_forms.specs.declared.expr.NamedAgg.TheVariants.{Count}
use Rattle.bloom_forms.specs.declared.module.Kind.TheVariants.{Input, Output, Table}
use Rattle.bloom_forms.specs.declared.program.Program.TheVariants.{Module}
use Rattle.bloom_forms.specs.Form.{RuleForm, Accepted}
use Rattle.bloom_forms.specs.ProgramStep.{empty_tables}
use Rattle.bloom_forms.specs.Query.{Name}
use Rattle.bloom_forms.specs.Query.Query.{base, group}
use Rattle.blz_value.specs.Arrows.{arrow_from}
use Rattle.bloom_forms.specs.Step.{Sets, set_at}
use Rattle.bloom_forms.specs.Annotation.{rule_gate}
use Rattle.bloom_forms.specs.Attributes.{has_attribute}
use Rattle.bloom_forms.specs.Classes.{columns_at, has_key, IsInClosure, Arriving, HasAll, AgreeOn, of_class}
use Rattle.bloom_forms.specs.Runs.{query_rows}
use Rattle.bloom_forms.proofs.Split.ClassesLemmas.{same_row}

abbrev a : Name
a = codes "a"

abbrev b : Name
b = codes "b"

abbrev k : Name
k = codes "k"

abbrev names : List Name
names = a ∷ b ∷ k ∷ []

abbrev counts : RuleForm
counts = (codes "sums", group (base (codes "seen")) (a ∷ []) Count (codes "n"))

abbrev sums : Accepted
sums = record {
  form = record {
    name = codes "sums";
    collections = record { kind = Input; name = codes "clicks"; columns = a ∷ k ∷ [] } ∷ record { kind = Table; name = codes "seen"; columns = a ∷ k ∷ [] } ∷ record { kind = Output; name = codes "sums"; columns = a ∷ codes "n" ∷ [] } ∷ [];
    rules = (codes "seen", base (codes "clicks")) ∷ counts ∷ [];
  };
  heads = 1 ∷ 2 ∷ [];
}

abbrev two : ℕ → ℕ → Row
two m n = Int (pos m) ∷ Int (pos n) ∷ []

-- (1, 5) and (1, 6)
abbrev now : Sets
now = (two 1 5 ∷ two 1 6 ∷ []) ∷ []

-- the key k, the attribute 2
abbrev key : List ℕ
key = 2 ∷ []

abbrev part : Row → Sets
part class = of_class names (Module sums) key (λ values. values) class now

abbrev rows : Sets → List Row
rows arriving = query_rows sums counts.1 (empty_tables (Module sums)) arriving

-- ---- the rows don't split

pub all_rows : rows now ≡ two 1 2 ∷ []
all_rows = refl

-- the records of a class, told which of the two records it has
abbrev chosen : Bool → Bool → List Row
chosen first second = cond first (two 1 5 ∷ cond second (two 1 6 ∷ []) []) (cond second (two 1 6 ∷ []) [])

both_chosen : (first second : Bool) → Has (two 1 2) (rows (chosen first second ∷ [])) → (first ≡ true) × (second ≡ true)
both_chosen true true h = (refl, refl)
both_chosen true false (inl e) = cc
both_chosen true false (inr never) = absurd never
both_chosen false true (inl e) = cc
both_chosen false true (inr never) = absurd never
both_chosen false false h = absurd h

pub no_class : (class : Row) → Has (two 1 2) (rows (part class)) → ⊥
no_class class h =
    let both = both_chosen (eq_by_cmp record_cmp (Int (pos 5) ∷ []) class) (eq_by_cmp record_cmp (Int (pos 6) ∷ []) class) h in
    let first = same_row (Int (pos 5) ∷ []) class both.0 in
    let second = same_row (Int (pos 6) ∷ []) class both.1 in
    let bad : Int (pos 5) ∷ [] ≡ Int (pos 6) ∷ [] = first ∙ sym second in
    cc

-- ---- what does hold

abbrev all_ports : ℕ → Bool
all_ports port = true

abbrev X : Type 0
X = Arriving (Module sums) (now ∷ []) all_ports

first_port : (port : ℕ) (row : Row) → Has row (set_at now port) → port ≡ 0
first_port zero row h = refl
first_port (suc port) row h = absurd h

port_of : (x : X) → x.port ≡ 0
port_of x = elim x.came [ inl e ↦ first_port x.port x.row (subst (λ (n : Sets). Has x.row (set_at n x.port)) (sym e) x.stands) | inr never ↦ absurd never ]

pub has_k : (x : X) → has_key names (columns_at (Module sums) x.port) key ≡ true
has_k x = subst (λ (port : ℕ). has_key names (columns_at (Module sums) port) key ≡ true) (sym (port_of x)) refl

-- no port has b
no_b : (x : X) → has_attribute names (columns_at (Module sums) x.port) 1 ≡ false
no_b x = subst (λ (port : ℕ). has_attribute names (columns_at (Module sums) port) 1 ≡ false) (sym (port_of x)) refl

-- ---- from a to b and from b to k: they hold where no port has b, and k is in the closure of a

abbrev through_b : List Fd
through_b = arrow_from 1 2 ∷ arrow_from 2 4 ∷ []

pub in_closure : IsInClosure key (rule_gate names sums counts) through_b
unfolding bit_of meets closure step within
in_closure attribute (inl e) = subst (λ (n : ℕ). meets (bit_of n) (closure (rule_gate names sums counts) through_b) ≡ true) e refl
in_closure attribute (inr never) = absurd never

b_in : meets (bit_of 1) 2 ≡ true
unfolding bit_of meets
b_in = refl

pub hold : (x y : X) (fd : Fd) → Has fd through_b → HasAll names (Module sums) x fd.from.bits
    → HasAll names (Module sums) x fd.to.bits → HasAll names (Module sums) y fd.from.bits
    → HasAll names (Module sums) y fd.to.bits
    → AgreeOn names (Module sums) x y fd.from.bits → AgreeOn names (Module sums) x y fd.to.bits
hold x y fd (inl e) from to = absurd (true≢false (sym (subst (λ (d : Fd). HasAll names (Module sums) x d.to.bits) (sym e) to 1 b_in) ∙ no_b x))
hold x y fd (inr (inl e)) from to = absurd (true≢false (sym (subst (λ (d : Fd). HasAll names (Module sums) x d.from.bits) (sym e) from 1 b_in) ∙ no_b x))
hold x y fd (inr (inr never)) from to = absurd never

-- ---- from a to k: the one port has both, and k is in the closure of a; but it doesn't hold

abbrev to_k : List Fd
to_k = arrow_from 1 4 ∷ []

pub in_closure_of_a : IsInClosure key (rule_gate names sums counts) to_k
unfolding bit_of meets closure step within
in_closure_of_a attribute (inl e) = subst (λ (n : ℕ). meets (bit_of n) (closure (rule_gate names sums counts) to_k) ≡ true) e refl
in_closure_of_a attribute (inr never) = absurd never

four : bit_of 2 ≡ 4
unfolding bit_of
four = refl

only_k : (n : ℕ) → meets (bit_of n) 4 ≡ true → n ≡ 2
only_k n h = let inside : meets (bit_of n) (bit_of 2) ≡ true = subst (λ (s : ℕ). meets (bit_of n) s ≡ true) (sym four) h in sym (one_number n 2 (member_small n 4 h) inside)

pub whole : (x : X) (fd : Fd) → Has fd to_k → HasAll names (Module sums) x fd.from.bits → HasAll names (Module sums) x fd.to.bits
whole x fd (inl e) from n h =
    let there : meets (bit_of n) 4 ≡ true = subst (λ (d : Fd). meets (bit_of n) d.to.bits ≡ true) (sym e) h in
    let own : has_attribute names (columns_at (Module sums) x.port) 2 ≡ true = subst (λ (port : ℕ). has_attribute names (columns_at (Module sums) port) 2 ≡ true) (sym (port_of x)) refl in
    subst (λ (m : ℕ). has_attribute names (columns_at (Module sums) x.port) m ≡ true) (sym (only_k n there)) own
whole x fd (inr never) from n h = absurd never
