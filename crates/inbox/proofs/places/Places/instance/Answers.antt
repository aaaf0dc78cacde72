use Rattle.std.proofs.Common.{◌+◌, ◌<◌, ap, ◌∙◌, subst, sym, arith, length, get_or}
use Rattle.inbox.proofs.PlacesFound.{instance_found}
use Rattle.inbox.proofs.places.Places.instance.Goals as goal

pub bounds-as_slice-component : goal.bounds-as_slice-component
bounds-as_slice-component c =
    let found = instance_found c.args.valid.now.view c.args.self.now c.args.component c.args.replica c.known.ensures c.requires.places c.requires.component c.requires.replica in
    subst (λ l. c.args.component < length l) (sym c.as_slice.ensures) found.within

pub overflow_add-result : goal.overflow_add-result
overflow_add-result c =
    let found = instance_found c.args.valid.now.view c.args.self.now c.args.component c.args.replica c.known.ensures c.requires.places c.requires.component c.requires.replica in
    let small = found.small in
    let same = ap (λ l. get_or l c.args.component 0) c.as_slice.ensures in
    omega (arith, small, same)

pub returns : goal.returns
returns c =
    let found = instance_found c.args.valid.now.view c.args.self.now c.args.component c.args.replica c.known.ensures c.requires.places c.requires.component c.requires.replica in
    ap (λ l. get_or l c.args.component 0 + c.args.replica) c.as_slice.ensures ∙ found.is
