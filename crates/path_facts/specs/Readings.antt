-- What the rules of a module read, told what each rule says by itself.
use Rattle.std.specs.Prelude.{ℕ, ◌&&◌, not, if◌then◌else◌, List, map, bit_and}
use Rattle.blz_value.specs.declared.attrs.Fd.{Fd}
use Rattle.blz_value.specs.Bits.{bit_of, meets}
use Rattle.blz_value.specs.Closure.{closure}
use Rattle.bloom_forms.specs.declared.module.Kind.TheVariants.{Input, Table, Scratch}
use Rattle.bloom_forms.specs.declared.module.Collection.{Collection}
use Rattle.bloom_forms.specs.Kinds.{same_kind}
use Rattle.bloom_forms.specs.Reads.{kind_set}
use Rattle.blz_value.specs.Arrows.{arrow_from, bit_if, with_all}
use Rattle.bloom_forms.specs.Gates.{in_all}
use Rattle.bloom_forms.specs.Good.{all_tables}
use Rattle.path_facts.specs.declared.readings.Graph.{Graph}
use Rattle.path_facts.specs.declared.readings.Reading.{Reading}
use Rattle.path_facts.specs.declared.readings.Readings.{Readings}
use Rattle.path_facts.specs.declared.readings.RuleFacts.{RuleFacts}

-- who reads a rule's head reads what its body names
abbrev pub rule_arrow : RuleFacts → Fd
rule_arrow rule = arrow_from (bit_of rule.head) rule.named.bits

-- the same through some scratches alone: other heads lead to nothing
abbrev pub arrow_through : (scratches : ℕ) → RuleFacts → Fd
arrow_through scratches rule = arrow_from (bit_of rule.head) (if meets (bit_of rule.head) scratches then rule.named.bits else 0)

-- the scratches that have a rule with a group or a notin
abbrev pub stopped : (scratches : ℕ) → List RuleFacts → ℕ
stopped scratches rules = with_all 0 (map (λ rule. bit_if (meets (bit_of rule.head) scratches && not rule.is_plain) rule.head) rules)

abbrev pub graph_of : List Collection → List RuleFacts → Graph
graph_of cs rules = record {
  arrows = map rule_arrow rules;
  scratch_arrows = map (arrow_through (kind_set (same_kind Scratch) cs)) rules;
  inputs = record { bits = kind_set (same_kind Input) cs };
  tables = record { bits = kind_set (same_kind Table) cs };
  stopped = record { bits = stopped (kind_set (same_kind Scratch) cs) rules };
}

-- the attributes that are in the gates of all rules whose heads are among some collections
abbrev pub gate_among : (all heads : ℕ) → List RuleFacts → ℕ
gate_among all heads rules = in_all all (map (λ rule. if meets (bit_of rule.head) heads then rule.gate.bits else all) rules)

-- what a rule reads, and its gate, where these are all rules
abbrev pub reading_from : Graph → (all : ℕ) → List RuleFacts → RuleFacts → Reading
reading_from graph all rules rule = record {
  head = rule.head;
  direct = record { bits = closure rule.named.bits graph.scratch_arrows };
  behind = record { bits = closure (bit_and graph.tables.bits (closure rule.named.bits graph.scratch_arrows)) graph.arrows };
  is_momentary = meets graph.inputs.bits (closure rule.named.bits graph.scratch_arrows);
  is_free = rule.is_plain && not (meets graph.stopped.bits (closure rule.named.bits graph.scratch_arrows));
  gate = record { bits = bit_and rule.gate.bits (gate_among all (closure rule.named.bits graph.arrows) rules) };
}

-- the tables that have a rule which no good table has, whatever tables are good
abbrev pub bad_among : (tables : ℕ) → List Reading → ℕ
bad_among tables readings = with_all 0 (map (λ reading. bit_if (meets (bit_of reading.head) tables && (if reading.is_momentary then meets tables reading.direct.bits else not reading.is_free)) reading.head) readings)

-- what all rules read, and the tables that have a rule which no good table has
abbrev pub readings_from : List Collection → (all : ℕ) → List RuleFacts → Readings
readings_from cs all rules = record {
  rules = map (reading_from (graph_of cs rules) all rules) rules;
  tables = record { bits = all_tables cs };
  bad = record { bits = bad_among (all_tables cs) (map (reading_from (graph_of cs rules) all rules) rules) };
}
