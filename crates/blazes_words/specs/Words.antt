-- What the words of a command line ask for: a row for each command.
use Rattle.std.specs.Prelude.{ℕ, ℤ, Bool, nat_lt, length, ◌<◌, ◌^◌, ◌-◌, ◌||◌, true, if◌then◌else◌, List, [], ◌∷◌, Option, Some, None, is_some, option_map, option_and_then, find, codes}
use Rattle.std.specs.Option.{option_map_or}
use Rattle.std.specs.Str.{bytes_eq}
use Rattle.clap.specs.Kinds.{Kinds}
use Rattle.clap.specs.Words.{App, Rule, Row, Text, new_app, new_rule, with_rule, fault_of, matches_of, first_of, all_of}
use Rattle.blazes_words.specs.Numbers.{IsCount, AreFew, seed_of, count_of, place_of, bounds_of, ◌>>=◌}
use Rattle.clap.specs.declared.builder.ArgAction.TheVariants.{Set, Append}

-- COMMAND, which is required
abbrev pub command_rule : Rule
command_rule = record (new_rule (codes "command")) { required = true; action = Some Set }

-- any number of FILE
abbrev pub file_rule : Rule
file_rule = record (new_rule (codes "file")) { action = Some Append; range = Some (record { start_inclusive = 0; end_inclusive = 2 ^ 64 - 1 }) }

-- an option with one value
abbrev pub option_rule : Text → Rule
option_rule name = record (new_rule name) { long = Some name; action = Some Set }

-- a command with neither a help flag nor a word for the program itself
abbrev pub bare_command : App
bare_command = record (new_app (codes "blazes")) { top = record (new_app (codes "blazes")).top { no_binary_name = true; disable_help_flag = true } }

-- the simple command as which all words are read: COMMAND, FILE .., --seed and --count
abbrev pub simple_command : App
simple_command =
    with_rule (with_rule (with_rule (with_rule bare_command command_rule) file_rule) (option_rule (codes "seed"))) (option_rule (codes "count"))

-- the names of the files of a run
pub record RunFiles : Type 0 where
  pub topology : Text
  -- the data
  pub given : Text
  pub schedule : Text

-- the names of the files of a schedule that is to be made, and its seed
pub record MakeWords : Type 0 where
  pub topology : Text
  -- the data
  pub given : Text
  pub seed : ℕ

-- the seed of a run of the built-in topology, and its count of batches
pub record SoakWords : Type 0 where
  pub seed : ℕ
  pub count : ℕ

-- the component that is to be split, with the column and the bounds of its buckets
pub record ShardWords : Type 0 where
  pub topology : Text
  pub component : Text
  pub column : Text
  pub bounds : List ℤ

-- the names of the files of two runs of one topology over the same data
pub record WitnessFiles : Type 0 where
  pub topology : Text
  -- the data
  pub given : Text
  -- the schedules
  pub first : Text
  pub second : Text

-- the names of the files of a run, and the place of a record in an emitted list
pub record WhyWords : Type 0 where
  pub topology : Text
  -- the data
  pub given : Text
  pub schedule : Text
  pub stream : Text
  pub replica : ℕ
  pub index : ℕ

-- what a command line asks for, with the names of its files
pub data Asked : Type 0 where
  -- the labels of the topology in this file
  label : Text → Asked
  -- how they come about
  derive : Text → Asked
  -- its plan
  plan : Text → Asked
  -- what its instances emit under a schedule over data
  run : RunFiles → Asked
  -- a schedule over data that leaves nothing to deliver
  make : MakeWords → Asked
  -- a summary of a run of the built-in topology
  soak : SoakWords → Asked
  -- the topology with copies of a component
  shard : ShardWords → Asked
  -- what its instances emit under a schedule over data in which they may forget
  restart : RunFiles → Asked
  -- where what they emit differs between two schedules over data
  witness : WitnessFiles → Asked
  -- which events of a schedule over data a record needs
  why : WhyWords → Asked

-- its numbers are in their ranges
abbrev pub IsWithin : Asked → Type 0
IsWithin (Asked.label topology) = Unit {0}
IsWithin (Asked.derive topology) = Unit {0}
IsWithin (Asked.plan topology) = Unit {0}
IsWithin (Asked.run files) = Unit {0}
IsWithin (Asked.make words) = words.seed < 2 ^ 64
IsWithin (Asked.soak words) = (words.seed < 2 ^ 64) × IsCount words.count
IsWithin (Asked.shard words) = AreFew words.bounds
IsWithin (Asked.restart files) = Unit {0}
IsWithin (Asked.witness files) = Unit {0}
IsWithin (Asked.why words) = (words.replica < 2 ^ 32) × (words.index < 2 ^ 32)

-- the words of a command line, taken apart: COMMAND, the words after it, and the values of the options
pub record Line : Type 0 where
  pub command : Text
  pub words : List Text
  pub seed : Option Text
  pub count : Option Text

-- the line that matching words make; they always have a COMMAND
abbrev pub line_of : List Row → Option Line
line_of rows =
    option_map (λ command. record {
      command = command;
      words = option_map_or (λ words. words) (all_of (codes "file") rows) [];
      seed = first_of (codes "seed") rows;
      count = first_of (codes "count") rows;
    }) (first_of (codes "command") rows)

-- the one text of a list of one
abbrev pub only : List Text → Option Text
only [] = None
only (text ∷ []) = Some text
only (text ∷ next ∷ more) = None

-- the three texts of a list of three: TOPOLOGY DATA SCHEDULE
abbrev pub three : List Text → Option RunFiles
three (topology ∷ given ∷ schedule ∷ []) = Some (record { topology = topology; given = given; schedule = schedule })
three texts = None

-- what the words after a command without options stand for
abbrev pub without_options : {A : Type 0} → (List Text → Option A) → Line → Option A
without_options meaning line = if is_some line.seed || is_some line.count then None else meaning line.words

-- the one word after a command without options
abbrev pub only_word : Line → Option Text
only_word line = without_options only line

-- the three words after a command without options
abbrev pub run_files : Line → Option RunFiles
run_files line = without_options three line

-- the two texts of a list of two, with a seed: TOPOLOGY DATA
abbrev pub two : (seed : ℕ) → List Text → Option MakeWords
two seed (topology ∷ given ∷ []) = Some (record { topology = topology; given = given; seed = seed })
two seed texts = None

-- the two words after a command with a seed alone
abbrev pub make_words : Line → Option MakeWords
make_words line = if is_some line.count then None else (do
  seed ← seed_of line.seed
  two seed line.words)

-- words stand after the command
abbrev pub has_words : Line → Bool
has_words line = nat_lt 0 (length line.words)

-- the seed and the count of a command without words after it
abbrev pub soak_words : Line → Option SoakWords
soak_words line = if has_words line then None else (do
  seed ← seed_of line.seed
  count ← count_of line.count
  Some (record { seed = seed; count = count }))

-- the texts of a list of four to ten: TOPOLOGY COMPONENT COLUMN BOUND..
abbrev pub three_and_bounds : List Text → Option ShardWords
three_and_bounds (topology ∷ component ∷ column ∷ others) =
    option_map (λ bounds. record { topology = topology; component = component; column = column; bounds = bounds }) (bounds_of others)
three_and_bounds texts = None

-- the words after a command without options of which the last are bounds
abbrev pub shard_words : Line → Option ShardWords
shard_words line = without_options three_and_bounds line

-- the four texts of a list of four: TOPOLOGY DATA SCHEDULE SCHEDULE
abbrev pub four : List Text → Option WitnessFiles
four (topology ∷ given ∷ first ∷ second ∷ []) = Some (record { topology = topology; given = given; first = first; second = second })
four texts = None

-- the four words after a command without options
abbrev pub witness_files : Line → Option WitnessFiles
witness_files line = without_options four line

-- the texts of a list of six: TOPOLOGY DATA SCHEDULE STREAM REPLICA INDEX
abbrev pub four_and_place : List Text → Option WhyWords
four_and_place (topology ∷ given ∷ schedule ∷ stream ∷ replica ∷ index ∷ []) = do
  r ← place_of replica
  i ← place_of index
  Some (record { topology = topology; given = given; schedule = schedule; stream = stream; replica = r; index = i })
four_and_place texts = None

-- the six words after a command without options, of which the last two are numbers
abbrev pub why_words : Line → Option WhyWords
why_words line = without_options four_and_place line

-- a command: its name, and what a line with it asks for
pub record Command : Type 0 where
  pub name : Text
  pub asks : Line → Option Asked

-- the commands that are built
abbrev pub commands : List Command
commands =
    record { name = codes "label"; asks = λ line. option_map Asked.label (only_word line) }
    ∷ record { name = codes "derive"; asks = λ line. option_map Asked.derive (only_word line) }
    ∷ record { name = codes "plan"; asks = λ line. option_map Asked.plan (only_word line) }
    ∷ record { name = codes "run"; asks = λ line. option_map Asked.run (run_files line) }
    ∷ record { name = codes "make"; asks = λ line. option_map Asked.make (make_words line) }
    ∷ record { name = codes "soak"; asks = λ line. option_map Asked.soak (soak_words line) }
    ∷ record { name = codes "shard"; asks = λ line. option_map Asked.shard (shard_words line) }
    ∷ record { name = codes "restart"; asks = λ line. option_map Asked.restart (run_files line) }
    ∷ record { name = codes "witness"; asks = λ line. option_map Asked.witness (witness_files line) }
    ∷ record { name = codes "why"; asks = λ line. option_map Asked.why (why_words line) }
    ∷ []

-- what a line asks for
abbrev pub asked : Line → Option Asked
asked line = option_and_then (λ command. command.asks line) (find (λ command. bytes_eq command.name line.command) commands)

-- what words ask for: without a fault, what their line does
abbrev pub asked_without : Kinds → List Row → Option Asked
asked_without [] rows = option_and_then asked (line_of rows)
asked_without (fault ∷ faults) rows = None

abbrev pub request_of : List Text → Option Asked
request_of words = asked_without (fault_of simple_command words) (matches_of simple_command words)
