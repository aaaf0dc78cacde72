use Rattle.std.proofs.Common.{◌+◌, ◌<◌, ap, ◌∙◌, subst, sym, arith, length, get_or}
use Rattle.inbox.proofs.PlacesFound.{list_found}
use Rattle.inbox.proofs.places.Places.list.Goals as goal

pub bounds-as_slice-stream : goal.bounds-as_slice-stream
bounds-as_slice-stream c =
    let found = list_found c.args.valid.now.view c.args.self.now c.args.stream c.args.replica c.known.ensures c.requires.places c.requires.stream c.requires.replica in
    subst (λ l. c.args.stream < length l) (sym c.as_slice.ensures) found.within

pub overflow_add-result : goal.overflow_add-result
overflow_add-result c =
    let found = list_found c.args.valid.now.view c.args.self.now c.args.stream c.args.replica c.known.ensures c.requires.places c.requires.stream c.requires.replica in
    let small = found.small in
    let same = ap (λ l. get_or l c.args.stream 0) c.as_slice.ensures in
    omega (arith, small, same)

pub returns : goal.returns
returns c =
    let found = list_found c.args.valid.now.view c.args.self.now c.args.stream c.args.replica c.known.ensures c.requires.places c.requires.stream c.requires.replica in
    ap (λ l. get_or l c.args.stream 0 + c.args.replica) c.as_slice.ensures ∙ found.is
