-- The text of `witness`: where two executions differ, and whether each is complete.
use Rattle.std.specs.Prelude.{Bool, if◌then◌else◌, Option, None, Some, [], ◌∷◌, ◌++◌, codes}
use Rattle.std.specs.Fmt.{decimal}
use Rattle.blz_value.specs.Text.{record_text}
use Rattle.topo_forms.specs.Data.{Data}
use Rattle.topo_forms.specs.View.{View, stream_at}
use Rattle.inbox.specs.Executions.{Execution}
use Rattle.sched_net.specs.Reading.{is_complete}
use Rattle.witness_check.specs.Difference.{difference, snapshot}
use Rattle.witness_check.specs.declared.difference.Difference.{Difference}
use Rattle.witness_check.specs.declared.difference.Which.{Which}
use Rattle.witness_check.specs.declared.difference.Which.TheVariants.{First, Second}
use Rattle.report_lines.specs.Words.{Text, line}

abbrev pub which_word : Which → Text
which_word First = codes "first"
which_word Second = codes "second"

-- the first difference, if any
abbrev pub difference_line : View → Option Difference → Text
difference_line v None = line (codes "same" ∷ [])
difference_line v (Some d) = line (codes "differ" ∷ (stream_at v d.stream).name ∷ decimal d.replica ∷ which_word d.held_by ∷ record_text d.row ∷ [])

abbrev pub complete_word : (complete : Bool) → Text
complete_word complete = if complete then codes "complete" else codes "incomplete"

-- whether an execution is complete
abbrev pub end_line : Which → (complete : Bool) → Text
end_line which complete = line (which_word which ∷ complete_word complete ∷ [])

-- of two executions over the same data
abbrev pub witness_text : View → Data → (first second : Execution) → Text
witness_text v given x y =
    difference_line v (difference (snapshot v given x) (snapshot v given y))
    ++ end_line First (is_complete v given x)
    ++ end_line Second (is_complete v given y)
