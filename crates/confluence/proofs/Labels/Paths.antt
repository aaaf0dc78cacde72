-- Each path to an output has its path label, and the label of an output outside cycles is reconciled of them.
use Rattle.std.proofs.Common.{◌≡◌, ℕ, Bool, Option, Some, List, length, sym, subst}
use Rattle.std.specs.Bool.{MatchBool}
use Rattle.blz_value.specs.Members.{Has}
use Rattle.blz_value.proofs.Membership.{Has-map, Has-flat_map}
use Rattle.bloom_forms.specs.declared.note.Note.{Note}
use Rattle.topo_forms.specs.Regions.{region_set, is_in_cycle}
use Rattle.topo_forms.specs.Valid.{IsValid}
use Rattle.topo_forms.specs.View.{View, End, note_at, component_at, port_numbers, streams_to}
use Rattle.topo_forms.proofs.Regions.Spreading.{in_below}
use Rattle.label_rules.specs.declared.label.Label.{Label}
use Rattle.label_rules.specs.declared.label.Label.TheVariants.{Run}
use Rattle.label_walk.specs.Labels.{AreLabels, IsLabel, IsRegionLabel, IsOutsideLabel}
use Rattle.label_walk.specs.Paths.{label_at, path_label, port_paths, output_paths}
use Rattle.inbox.proofs.Streams.IntoPorts.{leads, has_some, end_there}
use Rattle.confluence.specs.LabelMeaning.{IsOutside, IsPath}

-- the path label of a path is in the list
pub has_path : (v : View) → IsValid v → (labels : List Label) (output : End) (p : ℕ) (note : Note) (s : ℕ) → IsPath v output p note s → Has (path_label v labels output.0 p note s) (output_paths v labels output.0 output.1)
has_path v valid labels output p note s is =
    let there = (end_there v valid output.0 p (has_some v output.0 p s (leads v output.0 p s is.leads))).1 in
    let one : Has (path_label v labels output.0 p note s) (port_paths v labels output.0 p (note_at v output.0 p output.1)) =
    subst (λ (n : Option Note). Has (path_label v labels output.0 p note s) (port_paths v labels output.0 p n)) (sym is.noted) (Has-map (path_label v labels output.0 p note) s (streams_to v output.0 p) is.leads) in
    Has-flat_map (λ (q : ℕ). port_paths v labels output.0 q (note_at v output.0 q output.1)) p (path_label v labels output.0 p note s) (port_numbers v output.0) (in_below (length (component_at v output.0).ports) p there) one

-- the label of an output outside cycles
pub outside_is : (v : View) (labels : List Label) (s : ℕ) (output : End) → AreLabels v labels → IsOutside v s output → IsOutsideLabel v labels s output (label_at labels s)
outside_is v labels s output are out =
    let at : IsLabel v labels s (Some output) (label_at labels s) = subst (λ (o : Option End). IsLabel v labels s o (label_at labels s)) out.origin (are.are s out.stands) in
    let free : MatchBool (is_in_cycle v output.0) (IsRegionLabel v labels (region_set v output.0) (label_at labels s)) (IsOutsideLabel v labels s output (label_at labels s)) =
    subst (λ (b : Bool). MatchBool b (label_at labels s ≡ Run) (MatchBool (is_in_cycle v output.0) (IsRegionLabel v labels (region_set v output.0) (label_at labels s)) (IsOutsideLabel v labels s output (label_at labels s)))) out.unordered at in
    subst (λ (b : Bool). MatchBool b (IsRegionLabel v labels (region_set v output.0) (label_at labels s)) (IsOutsideLabel v labels s output (label_at labels s))) out.acyclic free
