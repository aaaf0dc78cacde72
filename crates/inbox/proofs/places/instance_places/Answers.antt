use Rattle.std.proofs.Common.{◌+◌, ◌<◌, ℕ, List, length, subst, sym, arith}
use Rattle.topo_forms.specs.View.{replicas_of}
use Rattle.inbox.proofs.PlacesMade.{few_replicas, HasPlaces, places_more}
use Rattle.inbox.proofs.places.instance_places.Goals as goal

pub loop-component-preserved : goal.loop-component-preserved
loop-component-preserved c =
    let v = c.args.valid.now.view in
    let there : c.loop-component.component < length v.components = omega (arith, c.loop-component-test.true, c.component_count-component-end.ensures) in
    subst (λ (l : List ℕ). HasPlaces (replicas_of v) (c.loop-component.component + 1) l (c.loop-component.next + c.replicas.result)) (sym c.in_ok-push.ensures.items)
    (places_more (replicas_of v) c.loop-component.component c.loop-component.places.items c.loop-component.next c.replicas.result c.loop-component.invariant c.replicas.ensures
    (omega (arith, c.replicas.ensures, few_replicas v c.known.ensures c.loop-component.component there)))
