-- The label of a path: a row for each note, a line for each label.
use Rattle.std.specs.Prelude.{Bool, false, ◌==◌, ◌&&◌, if◌then◌else◌, List}
use Rattle.blz_value.specs.Closure.{within, compatible}
use Rattle.blz_value.specs.declared.attrs.Attrs.{Attrs}
use Rattle.blz_value.specs.declared.attrs.Fd.{Fd}
use Rattle.bloom_forms.specs.declared.note.Note.{Note}
use Rattle.bloom_forms.specs.declared.note.Note.TheVariants.{CR, CW, OR, OW}
use Rattle.bloom_forms.specs.declared.mode.Mode.{Mode}
use Rattle.bloom_forms.specs.declared.mode.Mode.TheVariants as mode
use Rattle.label_rules.specs.declared.label.Label.{Label}
use Rattle.label_rules.specs.declared.label.Label.TheVariants.{Seal, Async, Run, Inst, Diverge}
use Rattle.label_rules.specs.declared.label.Base.TheVariants as base
use Rattle.label_rules.specs.declared.label.PathLabel.{PathLabel}
use Rattle.label_rules.specs.declared.label.PathLabel.TheVariants as path

-- the mode is Pass or Seal with this key
abbrev pub is_mode_key : Mode → Attrs → Bool
is_mode_key mode.Free key = false
is_mode_key (mode.Pass own) key = own.bits == key.bits
is_mode_key (mode.Seal own) key = own.bits == key.bits
is_mode_key mode.Order key = false

-- the mode is Seal with this key
abbrev pub is_awaited : Mode → Attrs → Bool
is_awaited mode.Free key = false
is_awaited (mode.Pass own) key = false
is_awaited (mode.Seal own) key = own.bits == key.bits
is_awaited mode.Order key = false

-- a label Seal is read as Async unless the mode is Pass or Seal with its key
abbrev pub label_read : Mode → Label → Label
label_read mode (Seal key) = if is_mode_key mode key then Seal key else Async
label_read mode Async = Async
label_read mode Run = Run
label_read mode Inst = Inst
label_read mode Diverge = Diverge

-- where the mode is Seal and its key isn't within the columns of the port, the gate is read as empty
abbrev pub gate_read : Mode → Attrs → Attrs → Attrs
gate_read mode.Free columns gate = gate
gate_read (mode.Pass key) columns gate = gate
gate_read (mode.Seal key) columns gate = if within key.bits columns.bits then gate else record { bits = 0 }
gate_read mode.Order columns gate = gate

-- the row CR
abbrev pub over_confluent_read : Label → PathLabel
over_confluent_read (Seal key) = path.Seal key
over_confluent_read Async = path.Async
over_confluent_read Run = path.Run
over_confluent_read Inst = path.Inst
over_confluent_read Diverge = path.Diverge

-- the row CW
abbrev pub over_confluent_write : Label → PathLabel
over_confluent_write (Seal key) = path.Seal key
over_confluent_write Async = path.Async
over_confluent_write Run = path.Run
over_confluent_write Inst = path.Taint
over_confluent_write Diverge = path.Diverge

-- the row OR with this gate
abbrev pub over_ordered_read : Attrs → Label → PathLabel
over_ordered_read gate (Seal key) = path.NdRead gate (base.Seal key)
over_ordered_read gate Async = path.NdRead gate base.Async
over_ordered_read gate Run = path.NdRead gate base.Run
over_ordered_read gate Inst = path.Inst
over_ordered_read gate Diverge = path.Diverge

-- the row OW with this gate
abbrev pub over_ordered_write : Mode → List Fd → Attrs → Label → PathLabel
over_ordered_write mode fds gate (Seal key) =
    if is_awaited mode key && compatible gate.bits key.bits fds then path.NdRead gate (base.Seal key) else path.Taint
over_ordered_write mode fds gate Async = path.Taint
over_ordered_write mode fds gate Run = path.Taint
over_ordered_write mode fds gate Inst = path.Taint
over_ordered_write mode fds gate Diverge = path.Diverge

-- the cell of the note and the label, with the gate as it is read
abbrev pub over : Mode → List Fd → Attrs → Note → Label → PathLabel
over mode fds columns CR label = over_confluent_read label
over mode fds columns CW label = over_confluent_write label
over mode fds columns (OR gate) label = over_ordered_read (gate_read mode columns gate) label
over mode fds columns (OW gate) label = over_ordered_write mode fds (gate_read mode columns gate) label

-- the cell of the note and the label, with both as they are read
abbrev pub pass_path : Label → Note → Attrs → Mode → List Fd → PathLabel
pass_path label note columns mode fds = over mode fds columns note (label_read mode label)
