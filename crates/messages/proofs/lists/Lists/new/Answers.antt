use Rattle.std.proofs.Common.{◌≡◌, ◌∙◌, ap, map, replicate, [], arith}
use Rattle.messages.specs.Lists.{read_list}
use Rattle.messages.proofs.Ids.{empty_keeps}
use Rattle.messages.proofs.ListsLemmas.{read-empty}
use Rattle.messages.proofs.Tallies.{none_tallied, none_many}
use Rattle.messages.proofs.lists.Lists.new.Goals as goal

pub invariant_of-result : goal.invariant_of-result
invariant_of-result c =
    let empty = empty_keeps c.with_key.result c.loop.lists.items c.loop.counter c.loop.invariant.lists in (
      empty.0,
      empty.1,
      empty.2,
      none_many c.loop.tallies.items c.loop.lists.items c.loop.counter c.loop.invariant.tallies c.loop.invariant.lists,
      none_tallied c.loop.tallies.items c.loop.counter (map (read_list c.with_key.result) c.loop.lists.items) c.loop.invariant.tallies,
    )

pub returns-clause-lists : goal.returns-clause-lists
returns-clause-lists c =
    let all : c.loop.counter ≡ c.args.count = omega (arith, c.loop-test.false, c.loop.auto.counter-end) in
    ap (map (read_list c.with_key.result)) c.loop.invariant.lists ∙ read-empty c.with_key.result c.loop.counter ∙ ap (λ n. replicate n []) all
