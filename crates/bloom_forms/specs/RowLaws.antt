-- The laws of rows, each statement in one word: of all checked modules and all proper programs, with any attributes.
use Rattle.std.specs.Prelude.{List}
use Rattle.bloom_forms.specs.declared.program.Program.{Program}
use Rattle.bloom_forms.specs.Checks.{IsChecked}
use Rattle.bloom_forms.specs.Form.{Accepted}
use Rattle.bloom_forms.specs.Proper.{IsProper, HasDistinctColumns}
use Rattle.bloom_forms.specs.Query.{Name}
use Rattle.bloom_forms.specs.Confluence.{ConfluentRules, ConfluentOutputs}
use Rattle.bloom_forms.specs.KeySets.{HasSetByMembers, SetIsInClosureByMembers, AnswersBySet}
use Rattle.bloom_forms.specs.Ports.{RulesSeePorts, OutputsSeePorts, StockIsSilent}
use Rattle.bloom_forms.specs.Runs.{OneStepAnswers, OutputsByRules}
use Rattle.bloom_forms.specs.Shards.{AnswersByBucket}
use Rattle.bloom_forms.specs.Splitting.{SplitRules, SplitOutputs, AnswersByKey, RulesKeepKeys, OutputsKeepKeys}

-- what is said of each module that was checked
abbrev pub OfModules : ((names : List Name) → Accepted → Type 0) → Type 0
OfModules Holds = (names : List Name) (a : Accepted) → IsChecked a.form a.heads → Holds names a

-- what is said of each module that was checked and each stock body that fits its columns
abbrev pub OfPrograms : ((names : List Name) → Program → Type 0) → Type 0
OfPrograms Holds = (names : List Name) (program : Program) → IsProper program → Holds names program

-- what is said of each of them that has no column twice
abbrev pub OfDistinct : ((names : List Name) → Program → Type 0) → Type 0
OfDistinct Holds = (names : List Name) (program : Program) → IsProper program → HasDistinctColumns program → Holds names program

-- ---- rows

-- over one timestep each output has its one-step answer
abbrev pub OneStepLaw : Type 0
OneStepLaw = (program : Program) → IsProper program → OneStepAnswers program

-- over any timesteps an output of a module has the rows of its rules
abbrev pub OutputsByRulesLaw : Type 0
OutputsByRulesLaw = (a : Accepted) → IsChecked a.form a.heads → OutputsByRules a

-- ---- confluent rules and outputs

-- a rule whose uses are all CR or CW is confluent
abbrev pub ConfluentRulesLaw : Type 0
ConfluentRulesLaw = OfModules ConfluentRules

-- an output towards which all notes are CR or CW is confluent
abbrev pub ConfluentOutputsLaw : Type 0
ConfluentOutputsLaw = OfPrograms ConfluentOutputs

-- ---- rows by the values of a key

-- a rule splits by what lies in the closure of its gate
abbrev pub SplitRulesLaw : Type 0
SplitRulesLaw = OfModules SplitRules

-- an output splits by what lies in the closure of its gate
abbrev pub SplitOutputsLaw : Type 0
SplitOutputsLaw = OfDistinct SplitOutputs

-- the one-step answer of an output is that of the records of each key value by themselves
abbrev pub AnswersByKeyLaw : Type 0
AnswersByKeyLaw = OfDistinct AnswersByKey

-- the same, where the key is a set of attributes
abbrev pub AnswersBySetLaw : Type 0
AnswersBySetLaw = OfDistinct AnswersBySet

-- some columns have the members of a set exactly where the set lies in the attributes that they have
abbrev pub KeyColumnsLaw : Type 0
KeyColumnsLaw = HasSetByMembers

-- the members of a set lie in a closure exactly where the set does
abbrev pub KeyClosureLaw : Type 0
KeyClosureLaw = SetIsInClosureByMembers

-- each row of a rule over the records of one key value has that value, in columns whose roots are the key
abbrev pub RulesKeepKeysLaw : Type 0
RulesKeepKeysLaw = OfModules RulesKeepKeys

-- so has each row of an output
abbrev pub OutputsKeepKeysLaw : Type 0
OutputsKeepKeysLaw = OfDistinct OutputsKeepKeys

-- ---- ports

-- a rule sees no more than the ports that it uses, and is silent without records where it gives O
abbrev pub RulesSeePortsLaw : Type 0
RulesSeePortsLaw = OfModules RulesSeePorts

-- an output sees no more than the ports with a note towards it
abbrev pub OutputsSeePortsLaw : Type 0
OutputsSeePortsLaw = OfPrograms OutputsSeePorts

-- the output of a stock body is silent, as a rule is
abbrev pub StockIsSilentLaw : Type 0
StockIsSilentLaw = (names : List Name) (program : Program) → StockIsSilent names program

-- ---- shards

-- the one-step answer of an output is that of the copies for the buckets of a column in its gate together
abbrev pub ShardLaw : Type 0
ShardLaw = OfModules AnswersByBucket
