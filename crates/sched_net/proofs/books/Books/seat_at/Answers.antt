use Rattle.std.proofs.Common.{◌∙◌, ap, sym, refl, length, slice_get, arith}
use Rattle.std.proofs.lemmas.Option.{slice_get_read}
use Rattle.sched_net.proofs.Found.{instance_within}
use Rattle.sched_net.proofs.books.Books.seat_at.Goals as goal

pub index-requires : goal.index-requires
index-requires c =
    let inside = instance_within c.args.valid.now.view c.args.self.now c.requires.runs c.args.component c.args.replica c.requires.component c.requires.replica in
    omega (arith, inside, c.instance-place.ensures)

pub returns : goal.returns
returns c =
    let seats = c.args.self.now.seats.items in
    let inside = instance_within c.args.valid.now.view c.args.self.now c.requires.runs c.args.component c.args.replica c.requires.component c.requires.replica in
    ap (slice_get seats) (sym c.instance-place.ensures)
    ∙ slice_get_read seats (length seats) c.instance-place.result c.index.result.now refl (omega (arith, inside, c.instance-place.ensures)) c.index.ensures
