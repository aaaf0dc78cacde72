-- What the rules of a module read, as the notes of its paths want it.
use Rattle.std.specs.Prelude.{List, map}
use Rattle.bloom_forms.specs.Form.{RuleForm, Accepted}
use Rattle.bloom_forms.specs.Lookup.{collection_number, declared}
use Rattle.bloom_forms.specs.Query.{Name}
use Rattle.bloom_forms.specs.Reads as reads
use Rattle.bloom_forms.specs.Plain.{is_free, is_plain}
use Rattle.bloom_forms.specs.ClosedForms.{behind, bad_tables}
use Rattle.bloom_forms.specs.Gates.{all_attributes, in_all, operator_sets, query_gate}
use Rattle.bloom_forms.specs.Good.{all_tables}
use Rattle.bloom_forms.specs.HeadRoots.{roots_named, roots_table}
use Rattle.path_facts.specs.declared.readings.Reading.{Reading}
use Rattle.path_facts.specs.declared.readings.Readings.{Readings}
use Rattle.path_facts.specs.declared.readings.RuleFacts.{RuleFacts}

-- what a rule says by itself
abbrev pub facts_of : (names : List Name) → Accepted → RuleForm → RuleFacts
facts_of names a rule = record {
  head = collection_number a.form.collections rule.0;
  named = record { bits = reads.named a.form.collections rule.1 };
  is_plain = is_plain rule.1;
  gate = record { bits = in_all (all_attributes names) (operator_sets (declared a.form.collections) (roots_named a.form.collections (roots_table names a)) rule.1) };
}

-- what a rule reads, and its gate
abbrev pub rule_reading : (names : List Name) → Accepted → RuleForm → Reading
rule_reading names a rule = record {
  head = collection_number a.form.collections rule.0;
  direct = record { bits = reads.direct a.form.collections a.form.rules rule.1 };
  behind = record { bits = behind a.form.collections a.form.rules rule.1 };
  is_momentary = reads.is_momentary a.form.collections a.form.rules rule.1;
  is_free = is_free a.form.collections a.form.rules rule.1;
  gate = record { bits = query_gate names a.form (roots_table names a) rule.1 };
}

-- what all rules read, and the tables that have a rule which no good table has
abbrev pub readings_of : (names : List Name) → Accepted → Readings
readings_of names a = record {
  rules = map (rule_reading names a) a.form.rules;
  tables = record { bits = all_tables a.form.collections };
  bad = record { bits = bad_tables a.form.collections a.form.rules };
}
