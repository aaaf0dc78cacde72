use Rattle.std.proofs.Common.{◌∙◌, ◌++◌, ◌∷◌, [], ◌≡◌, None, refl, ap, arith, length, length-append}
use Rattle.messages.specs.PartitionCounts.{have_in, need_in, have_at, need_at}
use Rattle.messages.specs.declared.counter.Counter.{Counter}
use Rattle.messages.proofs.CountersLemmas.{reads_more}
use Rattle.messages.proofs.counter.make_room.Goals as goal

pub loop-counts-preserved : goal.loop-counts-preserved
loop-counts-preserved c =
    let i = c.loop-counts.invariant in
    let nothing : Counter = record { have = 0; need = None } in
    let items : c.push.new.self.items ≡ c.loop-counts.counts.items ++ nothing ∷ [] = c.in_ok-push.ensures.items in
    let long = ap length items in
    let one = length-append c.loop-counts.counts.items (nothing ∷ []) in
    let test = c.loop-counts-test.true in
    let len = c.len.ensures in
    record {
      have = λ n. ap (λ l. have_at l n) items ∙ reads_more have_in nothing refl c.loop-counts.counts.items n ∙ i.have n;
      need = λ n. ap (λ l. need_at l n) items ∙ reads_more need_in nothing refl c.loop-counts.counts.items n ∙ i.need n;
      few = λ most below less. omega (arith, long, one, test, len, below);
    }
