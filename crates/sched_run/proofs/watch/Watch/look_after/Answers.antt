use Rattle.std.proofs.Common.{◌<◌, ℕ, List, length, sym, subst}
use Rattle.std.specs.List.{All}
use Rattle.sched_run.proofs.LookingLemmas.{on_ok_so}
use Rattle.sched_run.proofs.TablesLemmas.{counted}
use Rattle.sched_run.proofs.WatchLemmas.{closing_there, looked_equal, opening_there, shown_after, watched_after}
use Rattle.sched_run.proofs.WorksLemmas.{sizes_stay_many, still_may}
use Rattle.sched_run.proofs.watch.Watch.look_after.Goals as goal

pub closing-closing-requires-clause-counts : goal.closing-closing-requires-clause-counts
closing-closing-requires-clause-counts c = counted c.args.valid.now.view c.args.self.now.works c.args.self.now.tables c.requires.watched

pub opening-opening-requires-clause-counts : goal.opening-opening-requires-clause-counts
opening-opening-requires-clause-counts c = counted c.args.valid.now.view c.args.self.now.works c.args.self.now.tables c.requires.watched

pub look_at-requires-clause-there : goal.look_at-requires-clause-there
look_at-requires-clause-there c =
    subst (λ (ns : List ℕ). All (λ p. p < length c.args.self.now.works.sizes) ns) (sym c.closing-closing.ensures)
    (closing_there c.args.valid.now.view c.args.self.now.works c.args.self.now.tables c.requires.watched c.requires.works c.args.work.now)

pub look_at-requires-2-clause-there : goal.look_at-requires-2-clause-there
look_at-requires-2-clause-there c =
    subst (λ n. All (λ p. p < n) c.opening-opening.result.now) (sym (sizes_stay_many c.args.valid.now.view c.args.self.now.works c.look_at.new.self c.requires.works c.in_ok-look_at.ensures.works))
    (subst (λ (ns : List ℕ). All (λ p. p < length c.args.self.now.works.sizes) ns) (sym c.opening-opening.ensures)
    (opening_there c.args.valid.now.view c.args.self.now.works c.args.self.now.tables c.requires.watched c.requires.works c.args.work.now))

pub look_at-requires-2-clause-may : goal.look_at-requires-2-clause-may
look_at-requires-2-clause-may c =
    still_may c.args.valid.now.view c.args.books.now c.args.self.now.works c.look_at.new.self c.args.work.now c.closing-closing.result.now c.requires.runs c.in_ok-look_at.ensures c.requires.may

pub returns-clause-watched : goal.returns-clause-watched
returns-clause-watched c =
    on_ok_so c.look_at-2.result _ _
    (λ last. watched_after c.args.valid.now.view c.args.self.now.works c.args.self.now.tables c.requires.watched c.requires.works c.args.books.now c.look_at.new.self c.look_at-2.new.self c.args.work.now
    (looked_equal c.args.valid.now.view c.args.books.now c.args.self.now.works c.look_at.new.self _ _ c.closing-closing.ensures c.in_ok-look_at.ensures)
    (looked_equal c.args.valid.now.view c.args.books.now c.look_at.new.self c.look_at-2.new.self _ _ c.opening-opening.ensures last))
    c.look_at-2.ensures

pub returns-clause-shown : goal.returns-clause-shown
returns-clause-shown c =
    on_ok_so c.look_at-2.result _ _
    (λ last. shown_after c.args.valid.now.view c.args.self.now.works c.args.self.now.tables c.requires.watched c.requires.works c.args.books.now c.look_at.new.self c.look_at-2.new.self c.args.work.now
    (looked_equal c.args.valid.now.view c.args.books.now c.args.self.now.works c.look_at.new.self _ _ c.closing-closing.ensures c.in_ok-look_at.ensures)
    (looked_equal c.args.valid.now.view c.args.books.now c.look_at.new.self c.look_at-2.new.self _ _ c.opening-opening.ensures last)
    c.requires.rest)
    c.look_at-2.ensures
