use Rattle.std.proofs.Common.{◌∙◌, List, take, subst, sym, arith}
use Rattle.blz_value.specs.Record.{Row}
use Rattle.messages.specs.EmittedCounts.{AreTallied}
use Rattle.messages.specs.Lists.{Listed, AllAreGiven, IsExact, KeepsFirst, read_lists}
use Rattle.messages.specs.Code.Placing.{HaveFirst}
use Rattle.messages.specs.declared.message.Message.{Message as IdMessage}
use Rattle.messages.proofs.PlacingLemmas.{keeps, exact_left, left_given, left_tallied}
use Rattle.messages.proofs.lists.Lists.keep_first.Goals as goal
use Rattle.messages.proofs.lists.Lists.keep_first.Goals.{After-truncate}

-- the lists that were walked over are the first
have : (c : After-truncate) → HaveFirst (take c.args.first c.self.inside.lists.items) c.in-Some.records
have c = subst (λ (lists : List (List IdMessage)). HaveFirst (take c.args.first lists) c.in-Some.records) c.deref.ensures.value c.in-Some.ensures

pub invariant_of-self : goal.invariant_of-self
invariant_of-self c =
    let i = c.self.invariant in
    let old = c.self.inside in
    let lists = c.empty_from.new.lists.items in
    let tallies = c.empty_from.new.tallies.items in (
      subst (λ (records : List Row). AllAreGiven (record { records = records; lists = lists })) (sym c.truncate.ensures)
          (left_given old.pool c.in-Some.records c.args.first old.lists.items lists old.tallies.items tallies i.0 (have c) c.empty_from.ensures.emptied),
      c.empty_from.ensures.count,
      omega (arith, c.empty_from.ensures.fewer, i.2),
      c.empty_from.ensures.emptied.many ∙ i.3 ∙ sym c.empty_from.ensures.emptied.count,
      subst (λ (records : List Row). AreTallied tallies (read_lists (record { records = records; lists = lists }))) (sym c.truncate.ensures)
          (left_tallied old.pool c.in-Some.records c.args.first old.lists.items lists old.tallies.items tallies i.0 (have c) c.empty_from.ensures.emptied i.4),
    )

pub returns-clause-lists : goal.returns-clause-lists
returns-clause-lists c done =
    let old = c.self.inside in
    let lists = c.empty_from.new.lists.items in
    subst (λ (l : Listed). KeepsFirst c.args.first (read_lists l) (read_lists (record { records = c.truncate.new.self; lists = lists }))) c.self.view_is
    (subst (λ (records : List Row). KeepsFirst c.args.first (read_lists (record { records = old.pool; lists = old.lists.items })) (read_lists (record { records = records; lists = lists }))) (sym c.truncate.ensures)
    (keeps old.pool c.in-Some.records c.args.first old.lists.items lists old.tallies.items c.empty_from.new.tallies.items c.self.invariant.0 (have c) c.empty_from.ensures.emptied))

pub returns-clause-exact : goal.returns-clause-exact
returns-clause-exact c done =
    let old = c.self.inside in
    let lists = c.empty_from.new.lists.items in
    subst (λ (records : List Row). IsExact (record { records = records; lists = lists })) (sym c.truncate.ensures)
    (exact_left old.pool c.in-Some.records c.args.first old.lists.items lists old.tallies.items c.empty_from.new.tallies.items c.self.invariant.0 (have c) c.empty_from.ensures.emptied)
