-- Requests beside what they ask for.
use Rattle.std.specs.Prelude.{◌≡◌, ◌≢◌, List, [], Option, Some, None, map, option_map}
use Rattle.std.specs.Option.{option_map_or}
use Rattle.clap.specs.Words.{Text, fault_of, matches_of, found_of, rows_of}
use Rattle.clap.specs.declared.parser.matches.ArgMatches.{ArgMatches}
use Rattle.blazes_words.specs.Words.{Asked, simple_command}
use Rattle.blazes_words.specs.Words as spec
use Rattle.blazes_words.specs.declared.words.Line.{Line}
use Rattle.blazes_words.specs.declared.words.MakeWords.{MakeWords}
use Rattle.blazes_words.specs.declared.words.Request.{Request}
use Rattle.blazes_words.specs.declared.words.Request.TheVariants.{Label, Derive, Plan, Run, Make, Soak, Shard, Restart, Witness, Why}
use Rattle.blazes_words.specs.declared.words.RunFiles.{RunFiles}
use Rattle.blazes_words.specs.declared.words.ShardWords.{ShardWords}
use Rattle.blazes_words.specs.declared.words.SoakWords.{SoakWords}
use Rattle.blazes_words.specs.declared.words.WhyWords.{WhyWords}
use Rattle.blazes_words.specs.declared.words.WitnessFiles.{WitnessFiles}

-- the words match the simple command
abbrev pub Match : List Text → Type 0
Match words = fault_of simple_command words ≡ []

-- these are the matches of the words; there are none where the words don't match
abbrev pub AreMatches : List Text → Option ArgMatches → Type 0
AreMatches words (Some matches) = Match words × (rows_of (found_of matches) ≡ matches_of simple_command words)
AreMatches words None = fault_of simple_command words ≢ []

-- a line without its references
abbrev pub line_shown : Line → spec.Line
line_shown line = record {
  command = line.command.now;
  words = option_map_or (λ words. map (λ word. word.now) words.now) line.words [];
  seed = option_map (λ value. value.now) line.seed;
  count = option_map (λ value. value.now) line.count;
}

-- the names of the files of a run
abbrev pub files_shown : RunFiles → spec.RunFiles
files_shown files = record { topology = files.topology.now; given = files.given.now; schedule = files.schedule.now }

abbrev pub make_shown : MakeWords → spec.MakeWords
make_shown words = record { topology = words.topology.now; given = words.given.now; seed = words.seed }

abbrev pub soak_shown : SoakWords → spec.SoakWords
soak_shown words = record { seed = words.seed; count = words.count }

abbrev pub shard_shown : ShardWords → spec.ShardWords
shard_shown words = record { topology = words.topology.now; component = words.component.now; column = words.column.now; bounds = words.bounds.items }

abbrev pub witness_shown : WitnessFiles → spec.WitnessFiles
witness_shown files = record { topology = files.topology.now; given = files.given.now; first = files.first.now; second = files.second.now }

abbrev pub why_shown : WhyWords → spec.WhyWords
why_shown words = record { topology = words.topology.now; given = words.given.now; schedule = words.schedule.now; stream = words.stream.now; replica = words.replica; index = words.index }

-- what a request asks for
abbrev pub asked_by : Request → Asked
asked_by (Label topology) = Asked.label topology.now
asked_by (Derive topology) = Asked.derive topology.now
asked_by (Plan topology) = Asked.plan topology.now
asked_by (Run files) = Asked.run (files_shown files)
asked_by (Make words) = Asked.make (make_shown words)
asked_by (Soak words) = Asked.soak (soak_shown words)
asked_by (Shard words) = Asked.shard (shard_shown words)
asked_by (Restart files) = Asked.restart (files_shown files)
asked_by (Witness files) = Asked.witness (witness_shown files)
asked_by (Why words) = Asked.why (why_shown words)
