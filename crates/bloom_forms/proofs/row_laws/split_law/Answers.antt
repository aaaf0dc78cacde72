use Rattle.bloom_forms.proofs.Split.KeySetsLemmas.{answers_by_set, has_set_by_members, set_by_members}
use Rattle.bloom_forms.proofs.Split.SplitLaw.{all_rules_split, all_split, answers_split}
use Rattle.bloom_forms.proofs.row_laws.split_law.Goals as goal

pub returns-clause-rules : goal.returns-clause-rules
returns-clause-rules c = all_rules_split

pub returns-clause-outputs : goal.returns-clause-outputs
returns-clause-outputs c = all_split

pub returns-clause-answers : goal.returns-clause-answers
returns-clause-answers c = answers_split

pub returns-clause-sets : goal.returns-clause-sets
returns-clause-sets c = answers_by_set

pub returns-clause-columns : goal.returns-clause-columns
returns-clause-columns c = has_set_by_members

pub returns-clause-closure : goal.returns-clause-closure
returns-clause-closure c = set_by_members
