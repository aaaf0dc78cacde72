use Rattle.std.proofs.Common.{◌≡◌, ◌++◌, Bor, refl, ap, arith, length, rules}
use Rattle.std.proofs.lemmas.Bool.{le-leb, leb-true}
use Rattle.std.proofs.lemmas.List.{length-map, length-append}
use Rattle.blz_value.specs.Record.{Row}
use Rattle.blz_value.proofs.RowSets.{length-set_of-le}
use Rattle.blz_set.proofs.Unions.{length_union}
use Rattle.blz_set.proofs.set.RecordSet.has_room.Goals as goal

pub returns-then-rows-le-ROW_LIMIT-clause-room : goal.returns-then-rows-le-ROW_LIMIT-clause-room
returns-then-rows-le-ROW_LIMIT-clause-room c =
    let old = c.args.self.now in
    let others = c.args.other.now in (
      λ _. omega (arith, length-set_of-le (old ++ others), length-append old others, c.if-rows-le-ROW_LIMIT.true, ap length c.rows.ensures.all, ap length c.rows-2.ensures.all),
      λ _. refl,
    )

pub returns-clause-room : goal.returns-clause-room
returns-clause-room c =
    let both = length_union c.args.self.now c.args.other.now c.rows.ensures.set.sorted c.rows-2.ensures.set.sorted in
    let missing = ap length c.in_ok-missing.ensures.rows in
    let as_many = length-map c.in_ok-missing.missing.items (λ (r : Bor Row). r.now) in
    let held = ap length c.self.view_is in (
      λ yes. omega (arith, leb-true _ _ yes, both, missing, as_many, held, c.len.ensures, c.len-2.ensures, c.self.invariant.small),
      λ few. le-leb _ _ (omega (arith, few, both, missing, as_many, held, c.len.ensures, c.len-2.ensures)),
    )
