-- Where nothing arrives at the ports that pass a test, the port of a name that passes it is empty.
use Rattle.std.proofs.Common.{◌≡◌, ℕ, Bool, true, List, Some, subst}
use Rattle.blz_value.specs.Members.{Has}
use Rattle.blz_value.specs.Record.{Row}
use Rattle.bloom_forms.specs.declared.module.Kind.TheVariants.{Input}
use Rattle.bloom_forms.specs.declared.module.Collection.{Collection}
use Rattle.bloom_forms.specs.declared.program.Program.TheVariants.{Module}
use Rattle.bloom_forms.specs.Checks.{IsChecked}
use Rattle.bloom_forms.specs.Form.{Accepted}
use Rattle.bloom_forms.specs.Kinds.{kind_at, place_in_kind}
use Rattle.bloom_forms.specs.Query.{Name}
use Rattle.bloom_forms.specs.Step.{Sets, set_at}
use Rattle.bloom_forms.proofs.Collections.KindNumbersLemmas.{place_within}
use Rattle.bloom_forms.proofs.Reach.ReadsLemmas.{number_of}
use Rattle.bloom_forms.specs.Ports.{AreSilentAt}

module _ (a : Accepted) (checked : IsChecked a.form a.heads) where
  abbrev cs : List Collection
  cs = a.form.collections

  -- nothing arrives in the port of a name that passes a test
  pub silent_port : (test : ℕ → Bool) (nows : List Sets) → AreSilentAt (Module a) test nows → (arriving : Sets)
      → Has arriving nows → (n : Name) → kind_at cs (number_of a checked n) ≡ Some Input
      → test (place_in_kind Input cs (number_of a checked n)) ≡ true
      → (row : Row) → Has row (set_at arriving (place_in_kind Input cs (number_of a checked n))) → ⊥
  silent_port test nows silent arriving came n is t row h =
      let k = number_of a checked n in
      subst (λ (x : List Row). Has row x) (silent arriving came (place_in_kind Input cs k) (place_within Input cs k is) t) h
