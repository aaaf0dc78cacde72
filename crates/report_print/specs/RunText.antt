-- The text of `run`.
use Rattle.std.specs.Prelude.{ℕ, Bool, List, [], ◌∷◌, ◌++◌, ◌==◌, if◌then◌else◌, length, codes}
use Rattle.std.specs.Fmt.{decimal}
use Rattle.std.specs.List.{flat_map}
use Rattle.blz_value.specs.Record.{Row}
use Rattle.blz_value.specs.Text.{record_text}
use Rattle.topo_forms.specs.Data.{Data}
use Rattle.blz_value.specs.NumberSets.{below}
use Rattle.topo_forms.specs.View.{View, component_at, component_numbers, replicas_of, stream_at, stream_numbers, stream_replicas}
use Rattle.inbox.specs.Completeness.{held_count_at, left_count}
use Rattle.inbox.specs.Executions.{Execution, contents}
use Rattle.inbox.specs.Wiring.{wiring_of}
use Rattle.sched_net.specs.Reading.{is_complete}
use Rattle.report_lines.specs.Words.{Text, line, inner_line}

-- ---- contents

-- a sending replica of a stream with the number of its records, and then each of them
abbrev pub rows_lines : View → (stream replica : ℕ) → List Row → Text
rows_lines v s r rows = line ((stream_at v s).name ∷ decimal r ∷ decimal (length rows) ∷ []) ++ flat_map (λ row. inner_line (record_text row ∷ [])) rows

abbrev pub contents_lines : View → Data → Execution → (stream replica : ℕ) → Text
contents_lines v given x s r = rows_lines v s r (contents (wiring_of v) given x s r)

-- each sending replica of a stream
abbrev pub stream_lines : View → Data → Execution → (stream : ℕ) → Text
stream_lines v given x s = flat_map (contents_lines v given x s) (below (stream_replicas v s))

-- ---- what is held

-- an instance, where it holds something
abbrev pub held_line : View → (component replica held : ℕ) → Text
held_line v c r held = if held == 0 then [] else line (codes "held" ∷ (component_at v c).name ∷ decimal r ∷ decimal held ∷ [])

-- each replica of a component
abbrev pub held_lines : View → Execution → (component : ℕ) → Text
held_lines v x c = flat_map (λ r. held_line v c r (held_count_at (wiring_of v) x c r)) (below (replicas_of v c))

-- ---- what is left

abbrev pub end_lines : (complete : Bool) → (left : ℕ) → Text
end_lines complete left = if complete then line (codes "complete" ∷ []) else line (codes "left" ∷ decimal left ∷ []) ++ line (codes "incomplete" ∷ [])

-- ---- the whole

-- each stream in order, then what is held, and then whether the execution is complete
abbrev pub run_text : View → Data → Execution → Text
run_text v given x =
    flat_map (stream_lines v given x) (stream_numbers v)
    ++ flat_map (held_lines v x) (component_numbers v)
    ++ end_lines (is_complete v given x) (left_count (wiring_of v) given x)
