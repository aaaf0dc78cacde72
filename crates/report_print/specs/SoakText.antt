-- The text of `soak`: a run summed up.
use Rattle.std.specs.Prelude.{ℕ, List, [], ◌∷◌, ◌++◌, map, length, codes}
use Rattle.std.specs.Fmt.{decimal}
use Rattle.std.specs.List.{flat_map}
use Rattle.topo_forms.specs.Data.{Data}
use Rattle.blz_value.specs.NumberSets.{below}
use Rattle.topo_forms.specs.View.{View, stream_at, stream_numbers, stream_replicas}
use Rattle.label_rules.specs.declared.label.Label.{Label}
use Rattle.label_walk.specs.Paths.{label_at}
use Rattle.inbox.specs.Completeness.{left_count}
use Rattle.inbox.specs.Executions.{Execution, contents}
use Rattle.inbox.specs.Wiring.{wiring_of}
use Rattle.inbox.specs.Limits.{all_messages}
use Rattle.sched_net.specs.Reading.{is_complete}
use Rattle.report_print.specs.RunText.{end_lines}
use Rattle.report_lines.specs.Words.{Text, label_word, line}

abbrev pub batches_line : (batches : ℕ) → Text
batches_line batches = line (codes "batches" ∷ decimal batches ∷ [])

-- how many records the contents of a sending replica of a stream have
abbrev pub count_word : View → Data → Execution → (stream replica : ℕ) → Text
count_word v given x s r = decimal (length (contents (wiring_of v) given x s r))

-- a stream with its label, and with such a count of each sending replica
abbrev pub stream_line : View → List Label → Data → Execution → (stream : ℕ) → Text
stream_line v labels given x s = line ((stream_at v s).name ∷ label_word v.attributes (label_at labels s) ∷ map (count_word v given x s) (below (stream_replicas v s)))

-- the length of all emitted lists together
abbrev pub messages_line : View → Data → Execution → Text
messages_line v given x = line (codes "messages" ∷ decimal (all_messages (wiring_of v) given x) ∷ [])

-- the number of batches, each stream in order, the messages, and then whether the execution is complete
abbrev pub soak_text : (batches : ℕ) → View → List Label → Data → Execution → Text
soak_text batches v labels given x =
    batches_line batches
    ++ flat_map (stream_line v labels given x) (stream_numbers v)
    ++ messages_line v given x
    ++ end_lines (is_complete v given x) (left_count (wiring_of v) given x)
