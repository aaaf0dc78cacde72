use Rattle.std.proofs.Common.{sym, subst}
use Rattle.bloom_growth.proofs.PartnersLemmas.{union_grows, made_fault}
use Rattle.blz_set.proofs.Unions.{handed_on}
use Rattle.blz_set.specs.Growth.{Grows}
use Rattle.bloom_growth.proofs.partners.add_rows.Goals as goal

pub returns-in_err-more : goal.returns-in_err-more
returns-in_err-more c =
    subst (Grows c.args.set.now c.args.rows.items c.args.set.now) (sym (handed_on _ c.from_residual.result c.in_err-more.field-0.0 c.from_residual.ensures.1))
    (made_fault c.args.set.now c.args.rows.items c.args.set.now c.in_err-more.field-0.0 c.in_err-more.ensures)

pub returns : goal.returns
returns c = union_grows c.args.set.now c.args.rows.items c.in_ok-more.more c.take_in.new.self c.take_in.result c.in_ok-more.ensures.0 c.take_in.ensures
