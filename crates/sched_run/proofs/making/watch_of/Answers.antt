use Rattle.std.specs.Prelude.{IfOk}
use Rattle.sched_net.specs.Net.{BooksRun}
use Rattle.sched_run.specs.Code.Watch.{IsWatched}
use Rattle.sched_run.specs.Code.Works.{AreWorksOf, AreShown}
use Rattle.sched_run.proofs.NetRead.{of_own, of_read}
use Rattle.sched_run.proofs.making.watch_of.Goals as goal

pub of-requires : goal.of-requires
of-requires g c = of_read BooksRun _ _ _ _ c.valid.ensures c.books.ensures c.requires

pub returns-clause-works : goal.returns-clause-works
returns-clause-works g c = of_own (λ v b. IfOk c.of.result (λ watch. AreWorksOf v watch.works)) _ _ _ _ c.valid.ensures c.books.ensures c.of.ensures.works

pub returns-clause-shown : goal.returns-clause-shown
returns-clause-shown g c = of_own (λ v b. IfOk c.of.result (λ watch. AreShown v b watch.works)) _ _ _ _ c.valid.ensures c.books.ensures c.of.ensures.shown

pub returns-clause-watched : goal.returns-clause-watched
returns-clause-watched g c = of_own (λ v b. IfOk c.of.result (IsWatched v)) _ _ _ _ c.valid.ensures c.books.ensures c.of.ensures.watched
