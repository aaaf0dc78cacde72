use Rattle.std.proofs.Common.{ℕ}
use Rattle.std.specs.Prelude.{OnOk}
use Rattle.sched_net.specs.Net.{BooksRun}
use Rattle.sched_run.specs.Code.Watch.{IsUntouched, IsWatched, StillShows}
use Rattle.sched_run.specs.Code.Works.{AreWorksOf, AreShown, HasNames, MayLookAt}
use Rattle.sched_run.proofs.NetRead.{of_own, of_read}
use Rattle.sched_run.proofs.making.look_after.Goals as goal

pub look_after-requires-clause-runs : goal.look_after-requires-clause-runs
look_after-requires-clause-runs g c = of_read BooksRun _ _ _ _ c.valid.ensures c.books.ensures c.requires.runs

pub look_after-requires-clause-works : goal.look_after-requires-clause-works
look_after-requires-clause-works g c = of_read (λ v b. AreWorksOf v c.args.watch.now.works) _ _ _ _ c.valid.ensures c.books.ensures c.requires.works

pub look_after-requires-clause-may : goal.look_after-requires-clause-may
look_after-requires-clause-may g c = of_read (λ v b. (place : ℕ) → MayLookAt v b c.args.watch.now.works c.args.work.now place) _ _ _ _ c.valid.ensures c.books.ensures c.requires.may

pub look_after-requires-clause-watched : goal.look_after-requires-clause-watched
look_after-requires-clause-watched g c = of_read (λ v b. IsWatched v c.args.watch.now) _ _ _ _ c.valid.ensures c.books.ensures c.requires.watched

pub look_after-requires-clause-names : goal.look_after-requires-clause-names
look_after-requires-clause-names g c = of_read (λ v b. HasNames v c.args.work.now) _ _ _ _ c.valid.ensures c.books.ensures c.requires.names

pub look_after-requires-clause-rest : goal.look_after-requires-clause-rest
look_after-requires-clause-rest g c =
    of_read (λ v b. (place : ℕ) → IsUntouched v c.args.watch.now.works c.args.work.now place → StillShows v b c.args.watch.now.works place) _ _ _ _ c.valid.ensures c.books.ensures c.requires.rest

pub returns-clause-watched : goal.returns-clause-watched
returns-clause-watched g c = of_own (λ v b. OnOk c.look_after.result (IsWatched v c.look_after.new.self)) _ _ _ _ c.valid.ensures c.books.ensures c.look_after.ensures.watched

pub returns-clause-works : goal.returns-clause-works
returns-clause-works g c = of_own (λ v b. OnOk c.look_after.result (AreWorksOf v c.look_after.new.self.works)) _ _ _ _ c.valid.ensures c.books.ensures c.look_after.ensures.works

pub returns-clause-shown : goal.returns-clause-shown
returns-clause-shown g c = of_own (λ v b. OnOk c.look_after.result (AreShown v b c.look_after.new.self.works)) _ _ _ _ c.valid.ensures c.books.ensures c.look_after.ensures.shown
