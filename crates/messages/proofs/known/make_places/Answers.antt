use Rattle.messages.proofs.KnownLemmas.{place_more}
use Rattle.messages.proofs.known.make_places.Goals as goal

pub loop-alloc-preserved : goal.loop-alloc-preserved
loop-alloc-preserved c = place_more c.args.places.now.items c.loop-alloc.places.items c.push.new.self.items c.new.result c.in_ok-push.ensures.items c.new.ensures c.loop-alloc.invariant
