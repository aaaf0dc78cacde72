-- What holds of all planned topologies.
use Rattle.std.specs.Prelude.{ℕ, IsTrue, ◌≡◌, ◌≢◌, ◌≤◌, ◌<◌, None, Some, List, length}
use Rattle.topo_forms.specs.Valid.{IsValid}
use Rattle.topo_forms.specs.View.{View, End, origin_of, mode_of, mode_key, is_order}
use Rattle.label_rules.specs.declared.label.Label.{Label}
use Rattle.label_rules.specs.Label.{severity}
use Rattle.label_walk.specs.LabelLaws.{DifferInModes}
use Rattle.label_walk.specs.Labels.{AreLabels}
use Rattle.label_walk.specs.Paths.{label_at}
use Rattle.coord_modes.specs.declared.steps.Steps.{Steps}
use Rattle.coord_modes.specs.Plan.{planned, planned_by}

-- ---- whichever steps are taken

-- a plan of a valid topology is valid
abbrev pub PlansKeepValid : Type 0
PlansKeepValid = (steps : Steps) (v : View) → IsValid v → IsValid (planned_by steps v)

-- a planned topology differs in modes alone
abbrev pub PlansSetModes : Type 0
PlansSetModes = (steps : Steps) (v : View) → IsValid v → DifferInModes v (planned_by steps v)

-- a component that is written Order stays so
abbrev pub PlansKeepOrder : Type 0
PlansKeepOrder = (steps : Steps) (v : View) (component : ℕ) → IsValid v → IsTrue (is_order v component) → IsTrue (is_order (planned_by steps v) component)

-- ---- after planning

-- the component from which a stream comes has the mode Pass or Seal
abbrev pub IsFromSealed : View → ℕ → Type 0
IsFromSealed v s = (output : End) × (origin_of v s ≡ Some output) × (mode_key (mode_of v output.0) ≢ None)

-- no stream is worse than Run, and each stream of a component in mode Pass or Seal is Seal or Async
pub record IsCoordinated (v : View) (labels : List Label) (s : ℕ) : Type 0 where
  pub all : severity (label_at labels s) ≤ 3
  pub sealed : IsFromSealed v s → severity (label_at labels s) ≤ 2

-- this holds of each stream, whatever labels the rules allow
abbrev pub AreCoordinated : View → Type 0
AreCoordinated v = (labels : List Label) → AreLabels v labels → (s : ℕ) → s < length v.streams → IsCoordinated v labels s

-- after planning it holds
abbrev pub AfterPlanning : Type 0
AfterPlanning = (v : View) → IsValid v → AreCoordinated (planned v)
