use Rattle.std.proofs.Common.{arith}
use Rattle.messages.proofs.PlacingLemmas.{emptied_none, emptied_more, emptied_all}
use Rattle.messages.proofs.placing.empty_from.Goals as goal

pub loop-place-init : goal.loop-place-init
loop-place-init c = record {
  first = omega arith;
  emptied = emptied_none c.args.first c.args.lists.now.items c.args.tallies.now.items;
  count = c.requires.count;
  fewer = omega arith;
}

pub loop-place-preserved : goal.loop-place-preserved
loop-place-preserved c =
    let i = c.loop-place.invariant in
    record {
      first = omega (arith, i.first);
      emptied = emptied_more c.args.first c.loop-place.place c.args.lists.now.items c.loop-place.lists.items c.empty_at.new.lists.items c.args.tallies.now.items c.loop-place.tallies.items c.empty_at.new.tallies.items
          i.emptied i.first (omega (arith, c.loop-place-test.true, c.len-place-end.ensures, i.emptied.count)) (omega (arith, c.loop-place-test.true, c.len-place-end.ensures, i.emptied.many, c.requires.many))
          c.empty_at.ensures.lists c.empty_at.ensures.tallies;
      count = c.empty_at.ensures.count;
      fewer = omega (arith, i.fewer, c.empty_at.ensures.fewer);
    }

pub returns-clause-emptied : goal.returns-clause-emptied
returns-clause-emptied c =
    let i = c.loop-place.invariant in
    emptied_all c.args.first c.loop-place.place c.args.lists.now.items c.loop-place.lists.items c.args.tallies.now.items c.loop-place.tallies.items i.emptied (omega (arith, c.loop-place-test.false, c.len-place-end.ensures)) c.requires.many
