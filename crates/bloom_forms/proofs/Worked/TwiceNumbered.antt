-- The keys law wants distinct columns: of two columns k only the first has the value of k, and Number puts out both.
use Rattle.std.proofs.Common.{◌≡◌, refl, ℕ, zero, suc, pos, List, [], ◌∷◌, codes, inl, arith}
use Rattle.blz_value.specs.declared.value.Value.TheVariants.{Int}
use Rattle.blz_value.specs.Members.{Has}
use Rattle.blz_value.specs.Record.{Row}
use Rattle.bloom_forms.specs.declared.program.Program.{Program}
use Rattle.bloom_forms.specs.declared.program.Program.TheVariants.{Number}
use Rattle.bloom_forms.specs.Annotation.{roots_of_output}
use Rattle.bloom_forms.specs.Classes.{of_class}
use Rattle.bloom_forms.specs.Proper.{IsProper}
use Rattle.bloom_forms.specs.Query.{Name}
use Rattle.bloom_forms.specs.Runs.{output_rows}
use Rattle.bloom_forms.specs.Splitting.{AreKeyColumns, OutputsKeepKeys}
use Rattle.bloom_forms.specs.Step.{Sets}
use Rattle.bloom_forms.specs.Steps.{AreArrivals}
use Rattle.bloom_forms.specs.Widths.{AreWide}

abbrev k : Name
k = codes "k"

abbrev names : List Name
names = k ∷ []

abbrev program : Program
program = Number (k ∷ k ∷ [])

abbrev one : ℕ → Row
one a = Int (pos a) ∷ []

-- (1, 2) arrives, whose value in k is 1
abbrev now : Sets
now = ((Int (pos 1) ∷ Int (pos 2) ∷ []) ∷ []) ∷ []

abbrev put_out : Row
put_out = Int (pos 1) ∷ Int (pos 2) ∷ Int (pos 1) ∷ []

-- (1, 2, 1) is put out over the records of that value
put_out_there : Has put_out (output_rows program 0 ([] ∷ []) (of_class names program (0 ∷ []) (λ values. values) (one 1) now))
put_out_there = inl refl

-- the attribute of the second column is k as well
second_is_key : AreKeyColumns (roots_of_output names program 0) (1 ∷ []) (0 ∷ [])
second_is_key = (refl, tt)

arrivals : AreArrivals program (now ∷ [])
arrivals zero d lt = (wide, tt)
  where
    wide : AreWide 2 ((Int (pos 1) ∷ Int (pos 2) ∷ []) ∷ [])
    wide zero e lt_row = refl
    wide (suc i) e lt_row = absurd (omega (arith, lt_row))
arrivals (suc i) d lt = absurd (omega (arith, lt))

-- and has the value 2
pub twice_fails : OutputsKeepKeys names program → ⊥
twice_fails keeps = let bad : one 2 ≡ one 1 = keeps 0 [] now (0 ∷ []) (1 ∷ []) (one 1) put_out arrivals second_is_key put_out_there in cc

-- it is proper for all that
pub proper : IsProper program
proper = omega arith
