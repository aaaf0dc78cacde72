use Rattle.std.proofs.Common.{subst, arith}
use Rattle.sched_run.specs.Code.Looking.{IsLane}
use Rattle.sched_run.specs.Code.Works.{HasNames}
use Rattle.sched_run.proofs.TablesLemmas.{instance_inside}
use Rattle.sched_run.proofs.tables.Tables.opening.Goals as goal

pub list-requires : goal.list-requires
list-requires c =
    let v = c.args.valid.now.view in
    let own = subst (IsLane v) c.in-Deliver.is (subst (HasNames v) c.in-Message.is c.requires.names) in
    let inside = instance_inside v c.in-Deliver.component c.in-Deliver.replica own.is.there own.within in
    omega (arith, inside, c.instance.ensures, c.requires.counts.readers)

pub list-requires-in-Take : goal.list-requires-in-Take
list-requires-in-Take c =
    let v = c.args.valid.now.view in
    let own = subst (HasNames v) c.in-Take.is c.requires.names in
    let inside = instance_inside v c.in-Take.taker.component c.in-Take.taker.replica own.there own.within in
    omega (arith, inside, c.instance-instance.ensures, c.requires.counts.readers)
