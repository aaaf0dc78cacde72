use Rattle.std.proofs.Common.{[], ap, arith, length}
use Rattle.std.proofs.lemmas.List.{get_or_default}
use Rattle.std.proofs.lemmas.List.Sums.{get_or-le-sum_by, sum_by-set}
use Rattle.messages.proofs.placing.empty_at.Goals as goal

pub overflow_sub-count : goal.overflow_sub-count
overflow_sub-count c = omega (arith, c.requires.count, c.len.ensures, ap length c.index.ensures, ap length (get_or_default c.args.lists.now.items c.args.place c.index.result.now [] c.requires.place), get_or-le-sum_by length c.args.lists.now.items c.args.place [] c.requires.place)

pub returns-clause-count : goal.returns-clause-count
returns-clause-count c =
    let whole = sum_by-set length c.args.lists.now.items c.args.place c.clear.new.self [] c.requires.place in
    omega (arith, whole, c.requires.count, c.len.ensures, ap length c.clear.ensures, ap length c.index.ensures, ap length (get_or_default c.args.lists.now.items c.args.place c.index.result.now [] c.requires.place))
