use Rattle.sched_net.specs.Net.{BooksRun}
use Rattle.sched_run.specs.Code.Works.{AreWorksOf, AreShown, HasNames, IsOpenWork}
use Rattle.sched_run.proofs.NetRead.{of_own, of_read}
use Rattle.sched_run.proofs.making.work_at.Goals as goal

pub find-work-requires-clause-runs : goal.find-work-requires-clause-runs
find-work-requires-clause-runs g c = of_read BooksRun _ _ _ _ c.valid.ensures c.books.ensures c.requires.runs

pub find-work-requires-clause-works : goal.find-work-requires-clause-works
find-work-requires-clause-works g c = of_read (λ v b. AreWorksOf v c.args.watch.now.works) _ _ _ _ c.valid.ensures c.books.ensures c.requires.works

pub find-work-requires-clause-shown : goal.find-work-requires-clause-shown
find-work-requires-clause-shown g c = of_read (λ v b. AreShown v b c.args.watch.now.works) _ _ _ _ c.valid.ensures c.books.ensures c.requires.shown

pub returns-clause-numbered : goal.returns-clause-numbered
returns-clause-numbered g c = of_own (λ v b. IsOpenWork v b c.args.number c.find-work.result.1) _ _ _ _ c.valid.ensures c.books.ensures c.find-work.ensures.numbered

pub returns-clause-names : goal.returns-clause-names
returns-clause-names g c = of_own (λ v b. HasNames v c.find-work.result.1) _ _ _ _ c.valid.ensures c.books.ensures c.find-work.ensures.names
