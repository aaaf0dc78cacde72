-- The label of an output over the labels of its paths.
use Rattle.std.specs.Prelude.{◌≡◌, ◌<◌, ◌≤◌, Bool, false, ◌==◌, nat_lt, if◌then◌else◌, List, [], ◌∷◌, ◌++◌, map, fold}
use Rattle.std.specs.List.{All, list_all}
use Rattle.blz_value.specs.Closure.{compatible}
use Rattle.blz_value.specs.declared.attrs.Attrs.{Attrs}
use Rattle.blz_value.specs.declared.attrs.Fd.{Fd}
use Rattle.bloom_forms.specs.declared.mode.Mode.{Mode}
use Rattle.bloom_forms.specs.declared.mode.Mode.TheVariants as mode
use Rattle.label_rules.specs.declared.label.Label.{Label}
use Rattle.label_rules.specs.declared.label.Label.TheVariants.{Seal, Async, Run, Inst, Diverge}
use Rattle.label_rules.specs.declared.label.Base.{Base}
use Rattle.label_rules.specs.declared.label.Base.TheVariants as base
use Rattle.label_rules.specs.declared.label.PathLabel.{PathLabel}
use Rattle.label_rules.specs.declared.label.PathLabel.TheVariants as path
use Rattle.label_rules.specs.Label.{severity}

-- the path label is Seal of this key, or an NdRead with whose gate the key is compatible
abbrev pub is_covered : Attrs → List Fd → PathLabel → Bool
is_covered key fds (path.Seal own) = own.bits == key.bits
is_covered key fds path.Async = false
is_covered key fds path.Run = false
is_covered key fds path.Inst = false
is_covered key fds path.Diverge = false
is_covered key fds path.Taint = false
is_covered key fds (path.NdRead gate label) = compatible gate.bits key.bits fds

-- the mode is Seal, and its key covers each path label
abbrev pub is_protected : List PathLabel → Mode → List Fd → Bool
is_protected paths mode.Free fds = false
is_protected paths (mode.Pass key) fds = false
is_protected paths (mode.Seal key) fds = list_all (is_covered key fds) paths
is_protected paths mode.Order fds = false

-- the label that a read has as its base
abbrev pub base_label : Base → Label
base_label (base.Seal key) = Seal key
base_label base.Async = Async
base_label base.Run = Run

-- Taint becomes Diverge where the component is replicated, else Run
abbrev pub settled_taint : Bool → Label
settled_taint replicated = if replicated then Diverge else Run

-- an NdRead becomes its base where the output is protected, else Inst where the component is replicated, else Run
abbrev pub settled_read : Bool → Bool → Base → Label
settled_read protected replicated label = if protected then base_label label else (if replicated then Inst else Run)

-- what a path label becomes, told whether the output is protected and whether the component is replicated
abbrev pub settled : Bool → Bool → PathLabel → Label
settled protected replicated (path.Seal key) = Seal key
settled protected replicated path.Async = Async
settled protected replicated path.Run = Run
settled protected replicated path.Inst = Inst
settled protected replicated path.Diverge = Diverge
settled protected replicated path.Taint = settled_taint replicated
settled protected replicated (path.NdRead gate label) = settled_read protected replicated label

-- what the path labels of an output become
abbrev pub all_settled : List PathLabel → Mode → Bool → List Fd → List Label
all_settled paths mode replicated fds = map (settled (is_protected paths mode fds) replicated) paths

-- the label stands in the list, all labels before it are less severe, and none after it is more severe
pub record StandsFirstWorst (labels : List Label) (label : Label) : Type 0 where
  pub before : List Label
  pub after : List Label
  pub stands : labels ≡ before ++ label ∷ after
  pub first : All (λ other. severity other < severity label) before
  pub worst : All (λ other. severity other ≤ severity label) after

-- the first label of greatest severity, and Async where there is none
abbrev pub IsFirstWorst : List Label → Label → Type 0
IsFirstWorst [] label = label ≡ Async
IsFirstWorst (first ∷ rest) label = StandsFirstWorst (first ∷ rest) label

-- the first label of greatest severity among what the path labels become
abbrev pub IsReconciled : List PathLabel → Mode → Bool → List Fd → Label → Type 0
IsReconciled paths mode replicated fds label = IsFirstWorst (all_settled paths mode replicated fds) label

-- the worse of two labels, and the first where neither is
abbrev pub worse : Label → Label → Label
worse a b = if nat_lt (severity a) (severity b) then b else a

-- the first label of greatest severity, computed
abbrev pub first_worst : List Label → Label
first_worst [] = Async
first_worst (label ∷ labels) = fold worse label labels

-- the label of the output, computed
abbrev pub reconcile : List PathLabel → Mode → Bool → List Fd → Label
reconcile paths mode replicated fds = first_worst (all_settled paths mode replicated fds)
