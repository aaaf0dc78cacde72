-- A rule splits by what lies in the closure of its gate, and so does an output of each program.
use Rattle.std.proofs.Common.{List, []}
use Rattle.std.specs.Prelude.{is_some}
use Rattle.bloom_forms.specs.declared.program.Program.{Program}
use Rattle.bloom_forms.specs.declared.program.Program.TheVariants.{Module, Split, Latest, Number}
use Rattle.bloom_forms.specs.Checks.{IsChecked}
use Rattle.bloom_forms.specs.Form.{Accepted}
use Rattle.bloom_forms.specs.Query.{Name}
use Rattle.bloom_forms.specs.Proper.{IsProper, HasDistinctColumns}
use Rattle.bloom_forms.proofs.Reach.ProperLemmas.{own_columns}
use Rattle.bloom_forms.specs.Annotation.{note_of, gate_of_output, rule_gate, rule_use}
use Rattle.bloom_forms.specs.Runs.{query_rows, output_rows}
use Rattle.bloom_forms.specs.Splitting.{SplitRules, SplitOutputs, AnswersByKey}
use Rattle.bloom_forms.proofs.Split.Latest.{latest_split}
use Rattle.bloom_forms.proofs.Split.Outputs.{outputs_split}
use Rattle.bloom_forms.proofs.Split.SplittingLemmas.{OutputsSplitByStep, by_class}
use Rattle.bloom_forms.proofs.Split.Rules.{rules_split}
use Rattle.bloom_forms.proofs.Split.Stock.{split_split, number_split}

pub all_rules_split : (names : List Name) (a : Accepted) → IsChecked a.form a.heads → SplitRules names a
all_rules_split names a checked rule stands = by_class names (Module a) (query_rows a rule.1) (λ port. is_some (rule_use names a rule port)) (rule_gate names a rule) (rules_split names a checked rule stands)

steps_split : (names : List Name) (program : Program) → IsProper program → HasDistinctColumns program → OutputsSplitByStep names program
steps_split names (Module a) proper distinct = outputs_split names a proper
steps_split names (Split columns split) proper distinct = split_split names columns split
steps_split names (Latest columns keys) proper distinct = latest_split names columns keys (own_columns (Latest columns keys) proper distinct)
steps_split names (Number columns) proper distinct = number_split names columns

pub all_split : (names : List Name) (program : Program) → IsProper program → HasDistinctColumns program → SplitOutputs names program
all_split names program proper distinct output = by_class names program (output_rows program output) (λ port. is_some (note_of names program port output)) (gate_of_output names program output) (steps_split names program proper distinct output)

pub answers_split : (names : List Name) (program : Program) → IsProper program → HasDistinctColumns program → AnswersByKey names program
answers_split names program proper distinct output now fds key arrivals keyed closed row = steps_split names program proper distinct output [] now fds key (λ values. values) arrivals keyed closed row
