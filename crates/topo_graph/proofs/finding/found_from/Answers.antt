use Rattle.std.proofs.Common.{◌≡◌, map, length, ◌∙◌}
use Rattle.std.specs.List.{enumerate_from}
use Rattle.topo_forms.specs.Carried.{carries}
use Rattle.topo_forms.specs.Found.{into_ports, usable_at}
use Rattle.topo_graph.specs.Code.Lines.{all_into, lines_by, holding_by}
use Rattle.topo_graph.specs.Code.Paths.{paths_by}
use Rattle.blz_value.specs.Carried.{carried_by}
use Rattle.topo_forms.specs.Dependencies.{upholders}
use Rattle.topo_forms.specs.Kept.{view_kept}
use Rattle.topo_forms.specs.Regions.{regions, region_of, is_cyclic}
use Rattle.blz_value.specs.NumberSets.{below}
use Rattle.topo_forms.specs.View.{View, component_numbers, stream_numbers}
use Rattle.topo_graph.proofs.AllFound.{upheld_found, usable_found, carried_found}
use Rattle.topo_graph.proofs.PortsFound.{rows_found}
use Rattle.topo_graph.proofs.finding.found_from.Goals as goal

pub returns : goal.returns
returns c =
    let v : View = view_kept c.args.kept.now in
    let into : c.args.into.now ≡ all_into v = c.requires.into in
    let lines : c.in_ok-lines.lines.items ≡ lines_by v c.args.regions.cycles.items c.args.into.now = rw c.deref.ensures.value at c.in_ok-lines.ensures in
    let held : c.in_ok-held.held.items ≡ map (holding_by c.in_ok-lines.lines.items c.args.into.now) c.args.kept.now.fds = rw (c.deref-2.ensures.value, c.as_slice.ensures) at c.in_ok-held.ensures in
    let upheld : c.in_ok-upheld.upheld.items ≡ map (λ h. h.upheld) c.in_ok-held.held.items = rw c.deref-3.ensures.value at c.in_ok-upheld.ensures in
    let usable : c.in_ok-usable.usable.items ≡ map (λ h. h.usable) c.in_ok-held.held.items = rw c.deref-4.ensures.value at c.in_ok-usable.ensures in
    let paths : c.in_ok-paths.paths.items ≡ paths_by v c.args.rows c.in_ok-usable.usable.items = rw (c.as_slice-2.ensures, c.deref-5.ensures.value) at c.in_ok-paths.ensures in
    let carried : c.in_ok-carried.carried.items ≡ map (carried_by c.in_ok-paths.paths.items) (enumerate_from 0 c.in_ok-paths.paths.items) = rw c.deref-6.ensures.value at c.in_ok-carried.ensures in
    let fed : c.args.rows ≡ map (into_ports v) (component_numbers v) = c.requires.rows ∙ rows_found v in
    let one : c.from_vec.result ≡ regions v = c.from_vec.ensures ∙ c.requires.regions in
    let two : c.from_vec-2.result ≡ map (is_cyclic v) (below (length (regions v))) = c.from_vec-2.ensures ∙ c.requires.cyclic in
    let three : c.from_vec-3.result ≡ map (region_of v) (component_numbers v) = c.from_vec-3.ensures ∙ c.requires.numbers in
    let four : c.from_vec-4.result ≡ map (upholders v) c.args.kept.now.fds = c.from_vec-4.ensures ∙ upheld_found v c.requires.ends c.args.regions.cycles.items c.args.into.now c.in_ok-lines.lines.items c.in_ok-held.held.items c.in_ok-upheld.upheld.items c.requires.cycles into lines held upheld in
    let used : c.in_ok-usable.usable.items ≡ map (usable_at v) c.args.kept.now.fds = usable_found v c.requires.ends c.args.regions.cycles.items c.args.into.now c.in_ok-lines.lines.items c.in_ok-held.held.items c.in_ok-usable.usable.items c.requires.cycles into lines held usable in
    let five : c.from_vec-5.result ≡ map (usable_at v) c.args.kept.now.fds = c.from_vec-5.ensures ∙ used in
    let six : c.from_vec-6.result ≡ map (carries v) (stream_numbers v) = c.from_vec-6.ensures ∙ carried_found v c.requires.ends c.args.rows c.in_ok-usable.usable.items c.in_ok-paths.paths.items c.in_ok-carried.carried.items c.requires.rows used paths carried in
    λ i. record { into = fed i; regions = one i; cyclic = two i; numbers = three i; upheld = four i; usable = five i; carried = six i }
