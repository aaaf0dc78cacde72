use Rattle.std.proofs.Common.{refl}
use Rattle.sched_run.proofs.WorksLemmas.{still_fits, looked_works, looked_at}
use Rattle.sched_run.proofs.works.Works.look.Goals as goal

pub set-requires-clause-few : goal.set-requires-clause-few
set-requires-clause-few c =
    still_fits c.args.valid.now.view c.args.books.now c.args.self.now c.size_at.new.self c.args.place c.in_ok-size.size c.requires.works c.in_ok-size.ensures

pub returns-clause-looked : goal.returns-clause-looked
returns-clause-looked c =
    looked_at c.args.valid.now.view c.args.books.now c.args.self.now c.size_at.new.self c.args.place c.in_ok-size.size c.requires.works c.in_ok-size.ensures _ refl refl refl c.set.ensures

pub returns-clause-works : goal.returns-clause-works
returns-clause-works c =
    looked_works c.args.valid.now.view c.args.books.now c.args.self.now c.size_at.new.self c.args.place c.in_ok-size.size c.requires.works c.in_ok-size.ensures _ refl refl refl c.set.ensures
