-- Uses of ports, told what the rules read.
use Rattle.std.specs.Prelude.{ℕ, ◌&&◌, ◌==◌, not, Bool, if◌then◌else◌, Option, None, List, map}
use Rattle.blz_value.specs.Bits.{bit_of, meets}
use Rattle.bloom_forms.specs.declared.note.Note.{Note}
use Rattle.bloom_forms.specs.declared.note.Note.TheVariants.{CR, OR}
use Rattle.path_facts.specs.declared.readings.Reading.{Reading}
use Rattle.path_facts.specs.declared.readings.Readings.{Readings}
use Rattle.bloom_forms.specs.Gates.{in_all}
use Rattle.bloom_forms.specs.Uses.{both_uses, all_uses, use_if, writes}

-- all tables that a rule reads are good
abbrev pub are_good : Readings → Reading → Bool
are_good rules rule = not (meets rules.bad.bits rule.behind.bits)

-- what a rule gives to the one port of a set, where it feeds a table that the rule reads
abbrev pub feeding_use : Bool → Reading → (port : ℕ) → Option Note
feeding_use confluent rule port = use_if (meets port rule.behind.bits) (writes confluent rule.gate.bits)

-- what a rule gives to the one port of a set
abbrev pub use_from : Readings → Reading → (port : ℕ) → Option Note
use_from rules rule port =
    if rule.is_momentary
    then (if meets rules.tables.bits rule.direct.bits then both_uses (use_if (meets port rule.direct.bits) (OR rule.gate)) (feeding_use (are_good rules rule) rule port) else use_if (meets port rule.direct.bits) CR)
    else feeding_use (rule.is_free && are_good rules rule) rule port

-- what a rule gives to a port towards an output: nothing where it is a rule of another head
abbrev pub use_towards : Readings → (port output : ℕ) → Reading → Option Note
use_towards rules port output rule = if rule.head == output then use_from rules rule (bit_of port) else None

-- what all rules of an output give to a port
abbrev pub path_note_from : Readings → (port output : ℕ) → Option Note
path_note_from rules port output = all_uses (map (use_towards rules port output) rules.rules)

-- the attributes that are in the gates of all rules of an output
abbrev pub gate_towards : (all output : ℕ) → List Reading → ℕ
gate_towards all output rules = in_all all (map (λ rule. if rule.head == output then rule.gate.bits else all) rules)
