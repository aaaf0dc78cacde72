-- A net whose text is printed.
use Rattle.std.specs.Prelude.{◌≡◌, ◌++◌, ℕ, List}
use Rattle.std.specs.List.{flat_map}
use Rattle.topo_forms.specs.Data.{Data}
use Rattle.topo_forms.specs.View.{View, component_numbers, stream_numbers}
use Rattle.label_rules.specs.declared.label.Label.{Label}
use Rattle.inbox.specs.Completeness.{left_count}
use Rattle.inbox.specs.Executions.{Execution}
use Rattle.inbox.specs.Wiring.{wiring_of}
use Rattle.sched_net.specs.Net.{BooksRun}
use Rattle.sched_net.specs.Reading.{is_complete}
use Rattle.sched_net.specs.declared.books.Books.{Books}
use Rattle.report_lines.specs.Words.{Text}
use Rattle.report_print.specs.RunText.{stream_lines, held_lines, end_lines}
use Rattle.report_print.specs.SoakText.{batches_line, stream_line, messages_line}

-- a net of this topology that isn't ended, by the view and the books that it has
pub record IsNetOf (v own : View) (b : Books) : Type 0 where
  pub runs : BooksRun v b
  pub same : own ≡ v

-- the text of `run` behind another
abbrev pub run_after : Text → View → Data → Execution → Text
run_after text v given x =
    text
    ++ flat_map (stream_lines v given x) (stream_numbers v)
    ++ flat_map (held_lines v x) (component_numbers v)
    ++ end_lines (is_complete v given x) (left_count (wiring_of v) given x)

-- that of `soak`
abbrev pub soak_after : Text → (batches : ℕ) → View → List Label → Data → Execution → Text
soak_after text batches v labels given x =
    text
    ++ batches_line batches
    ++ flat_map (stream_line v labels given x) (stream_numbers v)
    ++ messages_line v given x
    ++ end_lines (is_complete v given x) (left_count (wiring_of v) given x)
