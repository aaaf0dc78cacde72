-- The labels with those of one region made anew.
use Rattle.std.specs.Prelude.{ℕ, if◌then◌else◌, List, map, Option, None, Some}
use Rattle.blz_value.specs.Graph.{is_in}
use Rattle.topo_forms.specs.Regions.{is_cyclic}
use Rattle.topo_forms.specs.View.{View, End, origin_of, is_order, stream_numbers}
use Rattle.label_rules.specs.declared.label.Label.{Label}
use Rattle.label_rules.specs.declared.label.Label.TheVariants.{Run}
use Rattle.label_walk.specs.Paths.{label_at, region_at}
use Rattle.label_walk.specs.Labels.{region_label, outside_label}

-- the label of a region where it is cyclic
abbrev pub cycle_label : View → List Label → (region : ℕ) → Option Label
cycle_label v labels r = if is_cyclic v r then Some (region_label v labels (region_at v r)) else None

-- the label of an output stream outside cycles
abbrev pub alone_label : View → List Label → (stream : ℕ) → End → Label
alone_label v labels s output = if is_order v output.0 then Run else outside_label v labels s output

-- the label of a stream from a region, which is that of the region where it has one
abbrev pub member_label : View → List Label → Option Label → (stream : ℕ) → End → Label
member_label v labels None s output = alone_label v labels s output
member_label v labels (Some label) s output = label

-- the label of a stream, made anew where it comes from the region
abbrev pub remade_label : View → List Label → (set : ℕ) → Option Label → (stream : ℕ) → Option End → Label
remade_label v labels set cycle s None = label_at labels s
remade_label v labels set cycle s (Some output) = if is_in output.0 set then member_label v labels cycle s output else label_at labels s

abbrev pub remade_labels : View → List Label → (set : ℕ) → Option Label → List Label
remade_labels v labels set cycle = map (λ s. remade_label v labels set cycle s (origin_of v s)) (stream_numbers v)
