-- A worked module has the rows, uses, classes and copies that the laws say: `seen` keeps what arrives at `p`, `out` has the keys of `seen`, and `sums` counts the rows of each key.
use Rattle.std.proofs.Common.{◌≡◌, refl, ℕ, zero, suc, true, Some, pos, List, [], ◌∷◌, map, codes, sym, subst, inl, inr}
use Rattle.std.specs.Prelude.{is_some}
use Rattle.blz_value.specs.declared.value.Value.TheVariants.{Int}
use Rattle.blz_value.specs.Members.{Has}
use Rattle.blz_value.specs.Record.{Row}
use Rattle.blz_value.specs.Bits.{bit_of, meets}
use Rattle.blz_value.specs.Closure.{within, step, closure}
use Rattle.bloom_forms.specs.declared.expr.NamedAgg.TheVariants.{Count}
use Rattle.bloom_forms.specs.declared.module.Kind.TheVariants.{Input, Output, Table}
use Rattle.bloom_forms.specs.declared.program.Program.TheVariants.{Module}
use Rattle.bloom_forms.specs.Form.{RuleForm, Accepted}
use Rattle.bloom_forms.specs.ProgramStep.{answer_of}
use Rattle.bloom_forms.specs.Query.{Name}
use Rattle.bloom_forms.specs.Query.Query.{base, project, group}
use Rattle.bloom_forms.specs.Step.{Sets, set_at}
use Rattle.bloom_forms.specs.declared.note.Note.TheVariants.{CW, OW}
use Rattle.bloom_forms.specs.Annotation.{rule_gate, rule_use}
use Rattle.bloom_forms.specs.Classes.{columns_at, has_key, IsInClosure, AreKeyed, of_class}
use Rattle.bloom_forms.specs.Runs.{query_over, at_once}
use Rattle.bloom_forms.specs.Shards.{from_bound, below_bound, buckets, copied}

abbrev k : Name
k = codes "k"

abbrev x : Name
x = codes "x"

abbrev n : Name
n = codes "n"

abbrev names : List Name
names = k ∷ x ∷ []

abbrev keeps : RuleForm
keeps = (codes "seen", base (codes "p"))

abbrev shows : RuleForm
shows = (codes "out", project (base (codes "seen")) ((k, k) ∷ []))

abbrev counts : RuleForm
counts = (codes "sums", group (base (codes "seen")) (k ∷ []) Count n)

abbrev tally : Accepted
tally = record {
  form = record {
    name = codes "tally";
    collections = record { kind = Input; name = codes "p"; columns = k ∷ x ∷ [] }
        ∷ record { kind = Table; name = codes "seen"; columns = k ∷ x ∷ [] }
        ∷ record { kind = Output; name = codes "out"; columns = k ∷ [] }
        ∷ record { kind = Output; name = codes "sums"; columns = k ∷ n ∷ [] } ∷ [];
    rules = keeps ∷ shows ∷ counts ∷ [];
  };
  heads = 1 ∷ 2 ∷ 3 ∷ [];
}

abbrev one : ℕ → Row
one a = Int (pos a) ∷ []

abbrev two : ℕ → ℕ → Row
two a b = Int (pos a) ∷ Int (pos b) ∷ []

-- (1, 1), and (1, 2) and (2, 5) one timestep later
abbrev nows : List Sets
nows = ((two 1 1 ∷ []) ∷ []) ∷ ((two 1 2 ∷ two 2 5 ∷ []) ∷ []) ∷ []

pub all_at_once : at_once (Module tally) nows ≡ (two 1 1 ∷ two 1 2 ∷ two 2 5 ∷ []) ∷ []
all_at_once = refl

-- the keys are the same however the records are spread over timesteps
pub shown : query_over tally shows.1 nows ≡ one 1 ∷ one 2 ∷ []
shown = refl

pub shown_at_once : query_over tally shows.1 (at_once (Module tally) nows ∷ []) ≡ one 1 ∷ one 2 ∷ []
shown_at_once = refl

-- the counts aren't: 1 was counted in the first timestep
pub counted : query_over tally counts.1 nows ≡ two 1 1 ∷ two 1 2 ∷ two 2 1 ∷ []
counted = refl

pub counted_at_once : query_over tally counts.1 (at_once (Module tally) nows ∷ []) ≡ two 1 2 ∷ two 2 1 ∷ []
counted_at_once = refl

-- the uses say so, and k is the gate of the counts
pub shows_use : rule_use names tally shows 0 ≡ Some CW
unfolding bit_of meets closure step within
shows_use = refl

pub counts_use : rule_use names tally counts 0 ≡ Some (OW (record { bits = 1 }))
unfolding bit_of meets closure step within
counts_use = refl

-- ---- by the key k

abbrev key : List ℕ
key = 0 ∷ []

abbrev same : Row → Row
same row = row

-- the records with k = 1
pub first_part : of_class names (Module tally) key same (one 1) ((two 1 2 ∷ two 2 5 ∷ []) ∷ []) ≡ (two 1 2 ∷ []) ∷ []
first_part = refl

-- no class of two values has records
pub no_part : of_class names (Module tally) key same (two 1 2) ((two 1 2 ∷ two 2 5 ∷ []) ∷ []) ≡ [] ∷ []
no_part = refl

-- k lies in the gate of the counts
pub key_in_gate : IsInClosure key (rule_gate names tally counts) []
unfolding bit_of meets closure step within
key_in_gate attribute (inl e) = subst (λ (a : ℕ). meets (bit_of a) (closure (rule_gate names tally counts) []) ≡ true) e refl
key_in_gate attribute (inr h) = absurd h

k_at : (port : ℕ) (now : Sets) (row : Row) → Has now nows → Has row (set_at now port)
    → has_key names (columns_at (Module tally) port) key ≡ true
k_at zero now row came h = refl
k_at (suc port) now row (inl e) h = absurd (subst (λ (m : Sets). Has row (set_at m (suc port))) (sym e) h)
k_at (suc port) now row (inr (inl e)) h = absurd (subst (λ (m : Sets). Has row (set_at m (suc port))) (sym e) h)
k_at (suc port) now row (inr (inr never)) h = absurd never

-- what arrives is keyed by k, without any dependency
pub keyed : AreKeyed names (Module tally) nows (λ port. is_some (rule_use names tally counts port)) [] key
keyed = record {
  keyed = λ r. k_at r.port r.now r.row r.came r.stands;
  whole = λ r fd stands. absurd stands;
  hold = λ r s fd stands. absurd stands;
}

-- so the counts are those of each k by itself
pub counted_apart : query_over tally counts.1 (map (of_class names (Module tally) key same (one 1)) nows) ≡ two 1 1 ∷ two 1 2 ∷ []
counted_apart = refl

pub counted_other : query_over tally counts.1 (map (of_class names (Module tally) key same (one 2)) nows) ≡ two 2 1 ∷ []
counted_other = refl

-- ---- by the buckets below 2 and from 2 on

abbrev all : Sets
all = (two 1 1 ∷ two 1 2 ∷ two 2 5 ∷ []) ∷ []

pub tests : buckets k (pos 2) [] ≡ below_bound k (pos 2) ∷ from_bound k (pos 2) ∷ []
tests = refl

pub whole_answer : set_at (answer_of (Module tally) all) 1 ≡ two 1 2 ∷ two 2 1 ∷ []
whole_answer = refl

pub first_answer : set_at (answer_of (Module (copied tally (below_bound k (pos 2)))) all) 1 ≡ two 1 2 ∷ []
first_answer = refl

pub last_answer : set_at (answer_of (Module (copied tally (from_bound k (pos 2)))) all) 1 ≡ two 2 1 ∷ []
last_answer = refl
