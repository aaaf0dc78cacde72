-- The split law wants distinct columns: Latest by the second of two columns k doesn't split by k, whose value is that of the first.
use Rattle.std.proofs.Common.{◌≡◌, ◌<◌, refl, ℕ, zero, suc, true, pos, List, [], ◌∷◌, length, get_or, codes, ap, ◌∙◌, sym, subst, inl, inr, arith}
use Rattle.std.specs.List.{All}
use Rattle.blz_value.specs.declared.value.Value.TheVariants.{Int}
use Rattle.blz_value.specs.Members.{Has}
use Rattle.blz_value.specs.Record.{Row}
use Rattle.blz_value.proofs.Membership.{Has-get_or}
use Rattle.blz_value.specs.Bits.{bit_of, meets}
use Rattle.blz_value.specs.Closure.{closure}
use Rattle.bloom_forms.specs.declared.program.Program.{Program}
use Rattle.bloom_forms.specs.declared.program.Program.TheVariants.{Latest}
use Rattle.bloom_forms.specs.Program.{port_columns}
use Rattle.bloom_forms.specs.Proper.{IsProper}
use Rattle.bloom_forms.specs.Query.{Name}
use Rattle.bloom_forms.specs.Step.{Sets, set_at}
use Rattle.bloom_forms.specs.StockSteps.{latest_kept}
use Rattle.bloom_forms.specs.Widths.{AreWide, AreSetsOf}
use Rattle.bloom_forms.specs.Steps.{AreArrivals}
use Rattle.bloom_forms.specs.Annotation.{key_set}
use Rattle.bloom_forms.specs.Classes.{columns_at, has_key, IsInClosure, AreKeyed, of_class}
use Rattle.bloom_forms.specs.Runs.{output_rows}
use Rattle.bloom_forms.specs.Splitting.{SplitOutputs}
use Rattle.bloom_forms.proofs.Split.ClassesLemmas.{from_class}
use Rattle.bloom_forms.proofs.Split.Latest.{from_latest, from_asked}

abbrev k : Name
k = codes "k"

abbrev names : List Name
names = k ∷ []

abbrev program : Program
program = Latest (k ∷ k ∷ []) (1 ∷ [])

abbrev one : ℕ → Row
one a = Int (pos a) ∷ []

abbrev two : ℕ → ℕ → Row
two a b = Int (pos a) ∷ Int (pos b) ∷ []

-- (5, 1) and (6, 1) are put, and 1 is asked
abbrev now : Sets
now = (two 5 1 ∷ two 6 1 ∷ []) ∷ (one 1 ∷ []) ∷ []

abbrev key : List ℕ
key = 0 ∷ []

-- the greater is put out
pub all_out : output_rows program 0 ([] ∷ []) now ≡ two 6 1 ∷ []
all_out = refl

all_of : {X : Type 0} (P : X → Type 0) (xs : List X) → ((x : X) → Has x xs → P x) → All P xs
all_of P xs each i d lt = each (get_or xs i d) (Has-get_or xs i d lt)

wide : (count : ℕ) (rows : List Row) → ((row : Row) → Has row rows → length row ≡ count) → AreWide count rows
wide count rows each = all_of (λ (row : Row). length row ≡ count) rows each

arrivals : AreArrivals program (now ∷ [])
arrivals = all_of (AreSetsOf (port_columns program)) (now ∷ []) (λ other h. elim h [
  | inl e ↦ subst (λ (n : Sets). AreSetsOf (port_columns program) n) e (
    wide 2 (two 5 1 ∷ two 6 1 ∷ []) (λ row g. elim g [ inl e ↦ ap length (sym e) | inr rest ↦ elim rest [ inl e ↦ ap length (sym e) | inr never ↦ absurd never ] ]),
    (wide 1 (one 1 ∷ []) (λ row g. elim g [ inl e ↦ ap length (sym e) | inr never ↦ absurd never ]), tt),
  )
  | inr never ↦ absurd never
])

keyed_at : (port : ℕ) (row : Row) → Has row (set_at now port) → has_key names (columns_at program port) key ≡ true
keyed_at zero row h = refl
keyed_at (suc zero) row h = refl
keyed_at (suc (suc port)) row h = absurd h

keyed : AreKeyed names program (now ∷ []) (λ port. true) [] key
keyed = record {
  keyed = λ x. elim x.came [ inl e ↦ keyed_at x.port x.row (subst (λ (n : Sets). Has x.row (set_at n x.port)) (sym e) x.stands) | inr never ↦ absurd never ];
  whole = λ x fd stands. absurd stands;
  hold = λ x y fd stands. absurd stands;
}

in_gate : IsInClosure key (key_set names (k ∷ k ∷ []) (1 ∷ [])) []
unfolding bit_of meets closure
in_gate attribute (inl e) = subst (λ (a : ℕ). meets (bit_of a) (closure (key_set names (k ∷ k ∷ []) (1 ∷ [])) []) ≡ true) e refl
in_gate attribute (inr never) = absurd never

-- no class has both the record and its keys
no_class : (class : Row) → Has (two 6 1) (output_rows program 0 ([] ∷ []) (of_class names program key (λ row. row) class now)) → ⊥
no_class class h =
    let part = of_class names program key (λ row. row) class now in
    let m = from_asked (1 ∷ []) (latest_kept (1 ∷ []) [] (set_at part 0)) (set_at part 1) (two 6 1) h in
    let asked : one 1 ≡ class = (from_class names program key (λ row. row) class now 1 (one 1) m.1).is in
    elim (from_latest (1 ∷ []) [] (set_at part 0) (two 6 1) m.0) [
      | inl never ↦ absurd never.0
      | inr put ↦ (let stands : one 6 ≡ class = (from_class names program key (λ row. row) class now 0 (two 6 1) put.0).is in let bad : one 1 ≡ one 6 = asked ∙ sym stands in cc)
    ]

pub twice_fails : SplitOutputs names program → ⊥
twice_fails splits =
    let law = (splits 0).steps [] now [] key (λ row. row) arrivals keyed in_gate (two 6 1) in
    let found = law.0 (inl refl) in
    no_class found.0 found.1

-- and it is proper: two columns, of which its key is one
pub proper : IsProper program
proper = (omega arith, below, λ i j d lt lj. absurd (omega (arith, lt, lj)))
  where
    below : All (λ key. key < 2) (1 ∷ [])
    below zero d lt = omega arith
    below (suc i) d lt = absurd (omega (arith, lt))
