-- All components were gone through.
use Rattle.std.proofs.Common.{◌≡◌, length, arith, ap, sym, subst, ◌∙◌}
use Rattle.topo_forms.specs.Valid.{Validated}
use Rattle.coord_synth.specs.Code.Start.{free_component}
use Rattle.coord_synth.specs.Code.Written.{IsWritten}
use Rattle.coord_synth.proofs.StartLemmas.{freed_so_far, one_more, start_view, start_written, start_count}
use Rattle.coord_synth.proofs.start.freed.Goals as goal

pub loop-component-init : goal.loop-component-init
loop-component-init c = c.in_ok-now.ensures

pub free_component-requires : goal.free_component-requires
free_component-requires c =
    let many : length (freed_so_far c.args.valid.now c.loop-component.component).view.components ≡ length c.args.valid.now.view.components = start_count c.args.valid.now c.whole.ensures c.loop-component.component (omega arith) in
    let same = ap (λ (x : Validated). length x.view.components) c.loop-component.invariant in
    omega (arith, many, same)

pub loop-component-preserved : goal.loop-component-preserved
loop-component-preserved c = c.in_ok-now-2.ensures ∙ ap (λ (x : Validated). free_component x c.loop-component.component) c.loop-component.invariant ∙ sym (one_more c.args.valid.now c.loop-component.component)

pub returns : goal.returns
returns c =
    let all : c.loop-component.component ≡ length c.args.valid.now.view.components = omega arith in
    let is : c.loop-component.now ≡ freed_so_far c.args.valid.now (length c.args.valid.now.view.components) = c.loop-component.invariant ∙ ap (freed_so_far c.args.valid.now) all in
    record {
      view = ap (λ (x : Validated). x.view) is ∙ start_view c.args.valid.now c.whole.ensures;
      written = subst (IsWritten c.args.valid.now.topology) (sym is) (start_written c.args.valid.now c.whole.ensures);
    }
