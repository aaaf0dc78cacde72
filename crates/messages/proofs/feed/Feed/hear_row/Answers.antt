use Rattle.std.proofs.Common.{◌≡◌, ◌≤◌, ◌∙◌, false, arith, sym}
use Rattle.std.proofs.lemmas.Bool.{not-true}
use Rattle.messages.specs.Numbers.{has_number}
use Rattle.messages.specs.PartitionCounts.{have_at}
use Rattle.messages.proofs.FewLemmas.{few_more, one_more}
use Rattle.messages.proofs.feed.Feed.hear_row.Goals as goal

pub count_row-requires : goal.count_row-requires
count_row-requires c =
    let few : have_at c.args.self.now.counts.items c.args.number ≤ c.count-heard.result = c.args.self.now.few c.args.number c.count-heard.result c.count-heard.ensures.count in
    let small = c.count-heard.ensures.few in
    omega (arith, few, small)

pub invariant_of-self-then-branch : goal.invariant_of-self-then-branch
invariant_of-self-then-branch c =
    let was = c.args.self.now in
    let absent : has_number was.known c.args.id ≡ false = not-true (has_number was.known c.args.id) (sym c.in_ok-add.ensures.new ∙ c.if-branch.true) in
    record {
      few = λ number count is.
          few_more was.known c.add.new.self c.args.id c.count-heard.result (have_at was.counts.items number) (have_at c.count_row.new.counts.items number)
          (was.few number c.count-heard.result c.count-heard.ensures.count)
          (one_more c.count_row.result (have_at c.count_row.new.counts.items) (have_at was.counts.items) c.args.number c.count_row.ensures.have c.count_row.ensures.err number)
          c.count-heard.ensures.count absent c.in_ok-add.ensures.also count is;
    }
