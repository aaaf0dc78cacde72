use Rattle.std.proofs.Common.{◌∙◌, ◌≡◌, ◌∷◌, [], length-append, ◌+◌, List, ℕ, length, ap, sym, subst, arith}
use Rattle.std.specs.List.{sum}
use Rattle.sched_turns.specs.Code.Levels.{level_of, halved}
use Rattle.sched_turns.proofs.LevelsLemmas.{Leads, sum-level, length-halved, leads_none, leads_more, level-more, levels_made}
use Rattle.sched_turns.proofs.sizes.Sizes.of.Goals as goal

pub above-requires : goal.above-requires
above-requires c =
    omega (arith, ap (λ (l : List ℕ). sum l) c.loop-alloc.invariant.next, sum-level c.args.sizes.items (length c.loop-alloc.levels.items), c.requires)

pub loop-alloc-init : goal.loop-alloc-init
loop-alloc-init c = record {
  leads = subst (Leads c.args.sizes.items) (sym c.new-levels.ensures.items) (leads_none c.args.sizes.items);
  next = c.of-level.ensures ∙ ap (λ (ls : List (List ℕ)). level_of c.args.sizes.items (length ls)) (sym c.new-levels.ensures.items);
}

pub loop-alloc-smaller : goal.loop-alloc-smaller
loop-alloc-smaller c =
    omega (arith, (length-halved c.loop-alloc.level).1, ap (λ (l : List ℕ). length l) c.in_ok-above.ensures, c.len.ensures, c.loop-alloc-test.true)

pub loop-alloc-preserved : goal.loop-alloc-preserved
loop-alloc-preserved c =
    let longer : length c.loop-alloc.levels.items + 1 ≡ length c.push.new.self.items = omega (arith, ap (λ (ls : List (List ℕ)). length ls) c.in_ok-push.ensures.items, length-append c.loop-alloc.levels.items (c.loop-alloc.level ∷ [])) in record {
      leads = leads_more c.args.sizes.items c.loop-alloc.levels.items c.push.new.self.items c.loop-alloc.level c.loop-alloc.invariant.leads c.loop-alloc.invariant.next c.in_ok-push.ensures.items;
      next = c.in_ok-above.ensures
          ∙ ap halved c.loop-alloc.invariant.next
          ∙ sym (level-more c.args.sizes.items (length c.loop-alloc.levels.items))
          ∙ ap (level_of c.args.sizes.items) longer;
    }

pub invariant_of-result : goal.invariant_of-result
invariant_of-result c =
    (levels_made c.args.sizes.items c.loop-alloc.levels.items c.push-2.new.self.items c.loop-alloc.level c.loop-alloc.invariant.leads c.loop-alloc.invariant.next c.in_ok-push-2.ensures.items (omega (arith, c.len.ensures, c.loop-alloc-test.false)) c.requires).0

pub returns : goal.returns
returns c =
    (levels_made c.args.sizes.items c.loop-alloc.levels.items c.push-2.new.self.items c.loop-alloc.level c.loop-alloc.invariant.leads c.loop-alloc.invariant.next c.in_ok-push-2.ensures.items (omega (arith, c.len.ensures, c.loop-alloc-test.false)) c.requires).1
