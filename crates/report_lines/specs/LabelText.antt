-- The text of `label`.
use Rattle.std.specs.Prelude.{ℕ, List, [], ◌∷◌}
use Rattle.std.specs.List.{flat_map}
use Rattle.topo_forms.specs.View.{View, stream_at, stream_numbers}
use Rattle.label_rules.specs.declared.label.Label.{Label}
use Rattle.label_walk.specs.Paths.{label_at}
use Rattle.report_lines.specs.Words.{Text, label_word, line}

-- a stream with its label
abbrev pub label_line : View → List Label → (stream : ℕ) → Text
label_line v labels s = line ((stream_at v s).name ∷ label_word v.attributes (label_at labels s) ∷ [])

-- each stream in order
abbrev pub label_text : View → List Label → Text
label_text v labels = flat_map (label_line v labels) (stream_numbers v)
