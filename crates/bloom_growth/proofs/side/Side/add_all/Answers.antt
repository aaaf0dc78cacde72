use Rattle.std.proofs.Common.{◌≡◌, ◌++◌, Ok, Err, sym, subst, rules}
use Rattle.blz_value.specs.Sets.{set_of}
use Rattle.blz_set.proofs.Unions.{handed_on}
use Rattle.bloom_growth.specs.ByKey.{MakesByKey}
use Rattle.bloom_growth.proofs.MergedLemmas.{side_begun, side_flooded, side_merged}
use Rattle.bloom_growth.proofs.side.Side.add_all.Goals as goal

pub returns-in_err-add_each-clause-side : goal.returns-in_err-add_each-clause-side
returns-in_err-add_each-clause-side c = λ rows sorted side.
    let columns = c.args.self.now.columns.items in
    let more = c.args.more.now in
    let come = c.add_each-2.new.self.sets in
    let fault = c.in_err-add_each.field-0.0 in
    let own : c.in_ok-columns.columns.items ≡ columns = search rules in
    subst (MakesByKey columns (set_of (rows ++ more)) c.args.self.now.sets) (sym (handed_on _ c.from_residual-in_err-add_each.result fault c.from_residual-in_err-add_each.ensures.1))
    (side_flooded columns rows more sorted come c.args.self.now.sets fault (side_begun columns c.in_ok-columns.columns.items more c.new-come.result come (Err fault) own c.new-come.ensures c.in_err-add_each.ensures.side))

pub returns-clause-side : goal.returns-clause-side
returns-clause-side c = λ rows sorted side.
    let columns = c.args.self.now.columns.items in
    let more = c.args.more.now in
    let come = c.add_each-2.new.self.sets in
    let own : c.in_ok-columns.columns.items ≡ columns = search rules in
    side_merged columns rows more sorted c.args.self.now.sets come c.merge.new.self.sets side
    (side_begun columns c.in_ok-columns.columns.items more c.new-come.result come (Ok c.in_ok-add_each.field-0) own c.new-come.ensures c.in_ok-add_each.ensures.side) c.merge.result c.merge.ensures.rows
