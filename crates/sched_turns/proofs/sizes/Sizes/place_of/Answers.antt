use Rattle.std.proofs.Common.{◌<◌, ◌-◌, ℕ, List, sym, subst, ◌∙◌, arith}
use Rattle.std.specs.List.{sum}
use Rattle.sched_turns.specs.Code.Levels.{level_of}
use Rattle.sched_turns.specs.Sizes.{IsPlaceOf}
use Rattle.sched_turns.proofs.LevelsLemmas.{stands_above, stands_below, rest_below}
use Rattle.sched_turns.proofs.sizes.Sizes.place_of.Goals as goal

pub loop-k-init : goal.loop-k-init
loop-k-init c =
    subst (λ (xs : List ℕ). IsPlaceOf (level_of xs c.len-k.result) c.args.number 0 c.args.number) c.self.view_is
    (stands_above c.self.inside.levels.items c.self.invariant c.len-k.result c.args.number (c.len-k.ensures ∙ c.self.inside.levels.ok.0)
    (subst (λ (xs : List ℕ). c.args.number < sum xs) (sym c.self.view_is) c.requires))

pub down-requires : goal.down-requires
down-requires c =
    rest_below c.self.inside.levels.items c.self.invariant c.loop-k.k c.args.number c.loop-k.place c.loop-k.rest c.index.result.now (omega (arith, c.loop-k-test.true)) (omega (arith, c.loop-k.auto.k, c.len-k.ensures, c.self.inside.levels.ok.0)) c.index.ensures
    (subst (λ (xs : List ℕ). IsPlaceOf (level_of xs c.loop-k.k) c.args.number c.loop-k.place c.loop-k.rest) (sym c.self.view_is) c.loop-k.invariant)

pub loop-k-preserved : goal.loop-k-preserved
loop-k-preserved c =
    subst (λ (xs : List ℕ). IsPlaceOf (level_of xs (c.loop-k.k - 1)) c.args.number c.down.result.0 c.down.result.1) c.self.view_is
    (stands_below c.self.inside.levels.items c.self.invariant c.loop-k.k c.args.number c.loop-k.place c.loop-k.rest c.down.result.0 c.down.result.1 c.index.result.now (omega (arith, c.loop-k-test.true)) (omega (arith, c.loop-k.auto.k, c.len-k.ensures, c.self.inside.levels.ok.0)) c.index.ensures
    (subst (λ (xs : List ℕ). IsPlaceOf (level_of xs c.loop-k.k) c.args.number c.loop-k.place c.loop-k.rest) (sym c.self.view_is) c.loop-k.invariant)
    c.down.ensures)
