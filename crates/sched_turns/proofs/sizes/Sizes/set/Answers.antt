use Rattle.std.proofs.Common.{◌≡◌, ◌<◌, ◌/◌, ℕ, List, length, set, get_or, ap, ◌∙◌, arith}
use Rattle.std.specs.List.{sum}
use Rattle.std.proofs.lemmas.List.{length-set, get_or-set_same}
use Rattle.sched_turns.specs.Code.Levels.{level_of, halved}
use Rattle.sched_turns.proofs.LevelsLemmas.{found_left, found_set, sets_more, all_set, sum-level, sets_first}
use Rattle.sched_turns.proofs.sizes.Sizes.set.Goals as goal

pub loop-k-init : goal.loop-k-init
loop-k-init c = sets_first c.self.inside.levels.items c.self.invariant c.args.self.now c.args.place c.args.size c.self.view_is c.requires.place

pub set-requires : goal.set-requires
set-requires c =
    let many = length c.self.inside.levels.items in
    let within : c.loop-k.k < many = omega (arith, c.loop-k-test.true, c.len-k-end.ensures, c.self.inside.levels.ok.0) in
    let level = found_left c.args.self.now (set c.args.self.now c.args.place c.args.size) c.loop-k.self-inside.levels.items many c.loop-k.k c.loop-k.place c.loop-k.size c.loop-k.invariant c.index_mut.result.now within c.index_mut.ensures.value in
    omega (arith, c.loop-k.invariant.within, ap (λ (l : List ℕ). length l) level)

pub pair_at-size-requires-clause-fits : goal.pair_at-size-requires-clause-fits
pair_at-size-requires-clause-fits c =
    let many : ℕ = length c.self.inside.levels.items in
    let within : c.loop-k.k < many = omega (arith, c.loop-k-test.true, c.len-k-end.ensures, c.self.inside.levels.ok.0) in
    let new : List ℕ = set c.args.self.now c.args.place c.args.size in
    let changed : c.set.new.self ≡ level_of new c.loop-k.k = found_set c.args.self.now new c.loop-k.self-inside.levels.items many c.loop-k.k c.loop-k.place c.loop-k.size c.loop-k.invariant c.index_mut.result.now c.set.new.self within c.index_mut.ensures.value c.set.ensures in
    let found : c.index-in-loop-k.result.now ≡ c.set.new.self = c.index-in-loop-k.ensures ∙ get_or-set_same c.loop-k.self-inside.levels.items c.loop-k.k c.set.new.self c.index-in-loop-k.result.now (omega (arith, within, c.loop-k.invariant.count)) in
    omega (arith, ap (λ (l : List ℕ). sum l) (found ∙ changed), sum-level new c.loop-k.k, c.requires.few)

pub loop-k-preserved : goal.loop-k-preserved
loop-k-preserved c =
    let many : ℕ = length c.self.inside.levels.items in
    let within : c.loop-k.k < many = omega (arith, c.loop-k-test.true, c.len-k-end.ensures, c.self.inside.levels.ok.0) in
    let new : List ℕ = set c.args.self.now c.args.place c.args.size in
    let changed : c.set.new.self ≡ level_of new c.loop-k.k = found_set c.args.self.now new c.loop-k.self-inside.levels.items many c.loop-k.k c.loop-k.place c.loop-k.size c.loop-k.invariant c.index_mut.result.now c.set.new.self within c.index_mut.ensures.value c.set.ensures in
    let found : c.index-in-loop-k.result.now ≡ c.set.new.self = c.index-in-loop-k.ensures ∙ get_or-set_same c.loop-k.self-inside.levels.items c.loop-k.k c.set.new.self c.index-in-loop-k.result.now (omega (arith, within, c.loop-k.invariant.count)) in
    sets_more c.args.self.now new c.loop-k.self-inside.levels.items many c.loop-k.k c.loop-k.place c.loop-k.size c.loop-k.invariant c.set.new.self c.pair_at-size.result within changed
    (c.pair_at-size.ensures ∙ ap (λ (l : List ℕ). get_or (halved l) (c.loop-k.place / 2) 0) found)

pub invariant_of-self : goal.invariant_of-self
invariant_of-self c =
    (all_set c.loop-k.self-inside.levels.items c.self.inside.levels.items c.args.self.now (set c.args.self.now c.args.place c.args.size) c.loop-k.k c.loop-k.place c.loop-k.size c.self.invariant c.self.view_is c.loop-k.invariant
    (omega (arith, c.loop-k-test.false, c.len-k-end.ensures, c.self.inside.levels.ok.0)) c.requires.few (length-set c.args.self.now c.args.place c.args.size)).0

pub returns : goal.returns
returns c =
    (all_set c.loop-k.self-inside.levels.items c.self.inside.levels.items c.args.self.now (set c.args.self.now c.args.place c.args.size) c.loop-k.k c.loop-k.place c.loop-k.size c.self.invariant c.self.view_is c.loop-k.invariant
    (omega (arith, c.loop-k-test.false, c.len-k-end.ensures, c.self.inside.levels.ok.0)) c.requires.few (length-set c.args.self.now c.args.place c.args.size)).1
