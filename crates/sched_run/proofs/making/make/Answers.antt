use Rattle.std.proofs.Common.{[], ap}
use Rattle.sched_run.proofs.MakingWhole.{fault_answers, fault_leaves, named_answers, named_leaves}
use Rattle.sched_run.proofs.WrittenLemmas.{written_there}
use Rattle.sched_run.proofs.making.make.Goals as goal

pub returns-in_err-made-clause-made : goal.returns-in_err-made-clause-made
returns-in_err-made-clause-made g c = fault_answers _ _ _ _ [] _ c.args.net.now.books c.make_numbered.result c.from_residual.result c.in_err-made.field-0.0 c.make_numbered.ensures.made c.in_err-made.was c.from_residual.ensures.1

pub returns-in_err-made-clause-leaves : goal.returns-in_err-made-clause-leaves
returns-in_err-made-clause-leaves g c = fault_leaves _ c.args.seed _ _ _ _ _ c.make_numbered.result c.from_residual.result c.in_err-made.field-0.0 c.make_numbered.ensures.leaves c.in_err-made.was c.from_residual.ensures.1

pub schedule_of-requires : goal.schedule_of-requires
schedule_of-requires g c = written_there _ _ (ap (λ valid. valid.now.view) c.make_numbered.ensures.valid) c.in_ok-made.made c.in_ok-made.ensures.written

pub returns-in-Ok-clause-made : goal.returns-in-Ok-clause-made
returns-in-Ok-clause-made g c = named_answers _ _ _ _ [] _ c.args.net.now.books c.make_numbered.result _ (ap (λ valid. valid.now.view) c.make_numbered.ensures.valid) c.in_ok-made.made c.in_ok-made.was c.in-Ok.schedule c.in-Ok.ensures.events c.make_numbered.ensures.made

pub returns-in-Ok-clause-leaves : goal.returns-in-Ok-clause-leaves
returns-in-Ok-clause-leaves g c = named_leaves _ c.args.seed _ _ _ _ _ c.make_numbered.result _ (ap (λ valid. valid.now.view) c.make_numbered.ensures.valid) c.in_ok-made.made c.in_ok-made.was c.in-Ok.schedule c.in-Ok.ensures.events c.make_numbered.ensures.leaves
