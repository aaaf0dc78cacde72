use Rattle.std.proofs.Common.{arith}
use Rattle.sched_net.proofs.Found.{list_within}
use Rattle.sched_net.proofs.books.Books.messages.Goals as goal

pub list-requires : goal.list-requires
list-requires c =
    let inside = list_within c.args.valid.now.view c.args.self.now c.requires c.args.stream c.args.replica (omega (arith, c.stream_count.ensures, c.if-stream-stream_count.false)) (omega (arith, c.stream_replicas.ensures, c.if-replica-stream_replicas.false)) in
    omega (arith, inside, c.list-place.ensures)
