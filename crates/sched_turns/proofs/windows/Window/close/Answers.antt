use Rattle.std.proofs.Common.{rules, ℕ, filter, ap, subst, ◌∙◌, ◌==◌, ◌||◌, not}
use Rattle.std.proofs.lemmas.Fn.{filter_same}
use Rattle.sched_turns.specs.Windows.{OthersAreOpen}
use Rattle.sched_turns.proofs.WindowsLemmas.{none_stale, one_stale}
use Rattle.sched_turns.proofs.windows.Window.close.Goals as goal

pub returns-in-Nothing-clause-places : goal.returns-in-Nothing-clause-places
returns-in-Nothing-clause-places g c =
    let is_open = g.L.OpenPlaces.is_open c.args.list.now in
    none_stale is_open c.args.self.now.places (subst (λ stale. OthersAreOpen is_open stale c.args.self.now.places) c.in-Nothing.is c.requires)

pub returns-in-Place-clause-places : goal.returns-in-Place-clause-places
returns-in-Place-clause-places g c =
    let is_open = g.L.OpenPlaces.is_open c.args.list.now in
    let test : ℕ → _ = λ k. not (k == c.in-Place.one) || is_open k in
    filter_same {X = ℕ} _ test _ (λ x b f' k. search rules) c.self.inside.places.items c.retain.new.self.items c.retain.ensures.filtered
    ∙ ap (λ w. filter test w.places) c.self.view_is
    ∙ one_stale is_open c.in-Place.one c.args.self.now.places (subst (λ stale. OthersAreOpen is_open stale c.args.self.now.places) c.in-Place.is c.requires)

pub returns-in-Everything-clause-places : goal.returns-in-Everything-clause-places
returns-in-Everything-clause-places g c =
    filter_same {X = ℕ} _ (g.L.OpenPlaces.is_open c.args.list.now) _ (λ x b f' k. search rules) c.self.inside.places.items c.retain-in-Everything.new.self.items c.retain-in-Everything.ensures.filtered
    ∙ ap (λ w. filter (g.L.OpenPlaces.is_open c.args.list.now) w.places) c.self.view_is
