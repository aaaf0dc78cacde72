-- What holds of all labels, paths and outputs.
use Rattle.std.specs.Prelude.{◌≡◌, ◌<◌, ◌≤◌, ◌↔◌, ◌⊎◌, Bool, true, false, ◌&&◌, not, if◌then◌else◌, IsTrue, List, ◌∷◌, ◌++◌, map}
use Rattle.std.specs.List.{Contains}
use Rattle.blz_value.specs.declared.attrs.Attrs.{Attrs}
use Rattle.blz_value.specs.declared.attrs.Fd.{Fd}
use Rattle.bloom_forms.specs.declared.note.Note.{Note}
use Rattle.bloom_forms.specs.Note.{is_write}
use Rattle.bloom_forms.specs.declared.mode.Mode.{Mode}
use Rattle.label_rules.specs.declared.label.Label.{Label}
use Rattle.label_rules.specs.declared.label.Label.TheVariants.{Seal, Async, Run, Inst, Diverge}
use Rattle.label_rules.specs.declared.label.PathLabel.{PathLabel}
use Rattle.label_rules.specs.declared.label.PathLabel.TheVariants as path
use Rattle.label_rules.specs.Label.{severity}
use Rattle.label_rules.specs.PathTable.{label_read, pass_path}
use Rattle.label_rules.specs.Reconciliation.{IsFirstWorst, first_worst, reconcile}

-- the label is Seal of some key
abbrev pub is_seal : Label → Bool
is_seal (Seal key) = true
is_seal Async = false
is_seal Run = false
is_seal Inst = false
is_seal Diverge = false

-- two labels have equal severity exactly where they are equal or both are Seal
abbrev pub SeverityLaw : Type 0
SeverityLaw = (a b : Label) → (severity a ≡ severity b) ↔ ((a ≡ b) ⊎ (IsTrue (is_seal a) × IsTrue (is_seal b)))

-- of all labels exactly the one that is computed is the first of greatest severity
abbrev pub FirstWorstLaw : Type 0
FirstWorstLaw = (labels : List Label) (label : Label) → IsFirstWorst labels label ↔ (label ≡ first_worst labels)

-- a path into which Diverge goes is Diverge
abbrev pub DivergesAlongPaths : Type 0
DivergesAlongPaths = (note : Note) (columns : Attrs) (mode : Mode) (fds : List Fd) →
    pass_path Diverge note columns mode fds ≡ path.Diverge

-- an output with a path that is Diverge is Diverge
abbrev pub DivergesAtOutputs : Type 0
DivergesAtOutputs = (paths : List PathLabel) (mode : Mode) (replicated : Bool) (fds : List Fd) →
    Contains paths path.Diverge → reconcile paths mode replicated fds ≡ Diverge

-- a path to an output: the label that goes in, the note, and the columns of the port
pub record Incoming : Type 0 where
  pub label : Label
  pub note : Note
  pub columns : Attrs

-- the label of this path
abbrev pub path_label : Mode → List Fd → Incoming → PathLabel
path_label mode fds incoming = pass_path incoming.label incoming.note incoming.columns mode fds

-- the label of an output with these paths
abbrev pub output_label : List Incoming → Mode → Bool → List Fd → Label
output_label incoming mode replicated fds = reconcile (map (path_label mode fds) incoming) mode replicated fds

-- the best that an output can be of a label that goes in: Run of Inst over CW or OW at one replica, else the label
abbrev pub best_of : Label → Note → Bool → Label
best_of (Seal key) note replicated = Seal key
best_of Async note replicated = Async
best_of Run note replicated = Run
best_of Inst note replicated = if is_write note && not replicated then Run else Inst
best_of Diverge note replicated = Diverge

-- no output is better than the best that it can be of each label that goes in
abbrev pub NoBetterThanGiven : Type 0
NoBetterThanGiven = (incoming : List Incoming) (mode : Mode) (replicated : Bool) (fds : List Fd) (one : Incoming) →
    Contains incoming one →
    severity (best_of one.label one.note replicated) ≤ severity (output_label incoming mode replicated fds)

-- nor than the best that it can be of each such label as it is read
abbrev pub NoBetterThanRead : Type 0
NoBetterThanRead = (incoming : List Incoming) (mode : Mode) (replicated : Bool) (fds : List Fd) (one : Incoming) →
    Contains incoming one →
    severity (best_of (label_read mode one.label) one.note replicated) ≤ severity (output_label incoming mode replicated fds)

-- the label of an output over one path into which this label goes, with other path labels before and after it
abbrev pub output_around : List PathLabel → List PathLabel → Label → Note → Attrs → Mode → Bool → List Fd → Label
output_around before after label note columns mode replicated fds =
    reconcile (before ++ pass_path label note columns mode fds ∷ after) mode replicated fds

-- all else the same, a less severe label that goes in never gives a more severe output
abbrev pub MonotoneInGiven : Type 0
MonotoneInGiven =
    (before after : List PathLabel) (a b : Label) (note : Note) (columns : Attrs) (mode : Mode) (replicated : Bool) (fds : List Fd) →
    severity a < severity b →
    severity (output_around before after a note columns mode replicated fds)
    ≤ severity (output_around before after b note columns mode replicated fds)

-- nor does a label that is no more severe as it is read
abbrev pub MonotoneInRead : Type 0
MonotoneInRead =
    (before after : List PathLabel) (a b : Label) (note : Note) (columns : Attrs) (mode : Mode) (replicated : Bool) (fds : List Fd) →
    severity (label_read mode a) ≤ severity (label_read mode b) →
    severity (output_around before after a note columns mode replicated fds)
    ≤ severity (output_around before after b note columns mode replicated fds)
