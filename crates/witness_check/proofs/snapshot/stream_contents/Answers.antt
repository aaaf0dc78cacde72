use Rattle.std.proofs.Common.{◌∙◌, arith}
use Rattle.topo_forms.specs.View.{stream_replicas}
use Rattle.inbox.specs.Executions.{contents}
use Rattle.inbox.specs.Wiring.{wiring_of}
use Rattle.witness_check.proofs.Readings.{one_more, all_of, contents_read}
use Rattle.witness_check.proofs.snapshot.stream_contents.Goals as goal

pub loop-replica-preserved : goal.loop-replica-preserved
loop-replica-preserved g c =
    let v = c.args.valid.now.view in
    one_more v c.args.net.now.books (λ given x. contents (wiring_of v) given x c.args.stream) c.loop-replica.replica c.loop-replica.replicas.items c.push.new.self.items c.in_ok-contents.field-0 c.in_ok-push.ensures.items
    (contents_read v c.args.net.now.valid.now.view c.args.net.now.books c.requires.same c.args.stream c.loop-replica.replica c.in_ok-contents.field-0 (omega (arith, c.stream_replicas-replica-end.ensures)) c.in_ok-contents.ensures.contents)
    c.loop-replica.invariant

pub returns : goal.returns
returns g c given steps stand =
    let v = c.args.valid.now.view in
    c.from_vec.ensures
    ∙ all_of v c.args.net.now.books (λ given x. contents (wiring_of v) given x c.args.stream) c.loop-replica.replica (stream_replicas v c.args.stream) c.loop-replica.replicas.items
    (omega (arith, c.loop-replica-test.false, c.loop-replica.auto.replica-end, c.stream_replicas-replica-end.ensures)) c.loop-replica.invariant given steps stand
