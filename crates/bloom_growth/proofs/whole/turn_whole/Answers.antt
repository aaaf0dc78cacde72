use Rattle.std.proofs.Common.{List, sym, subst}
use Rattle.blz_value.specs.Operators.{project_rows}
use Rattle.blz_value.specs.Record.{Row}
use Rattle.blz_value.specs.Sets.{set_of}
use Rattle.blz_set.proofs.Unions.{handed_on}
use Rattle.bloom_growth.specs.Turned.{Turned, TurnsInto}
use Rattle.bloom_growth.proofs.BagsLemmas.{turn_no_fault}
use Rattle.bloom_growth.proofs.WholeLemmas.{whole_turned, few_more, few_gone, few_new}
use Rattle.bloom_growth.proofs.whole.turn_whole.Goals as goal

pub returns-in_err-more : goal.returns-in_err-more
returns-in_err-more c = λ old new t.
    let columns = c.args.columns.now in
    let before = set_of (project_rows columns old) in
    let after = set_of (project_rows columns new) in
    let more = c.args.part.more.now in
    subst (TurnsInto before after) (sym (handed_on _ c.from_residual.result c.in_err-more.field-0.0 c.from_residual.ensures.1))
    (turn_no_fault before after (set_of (project_rows columns more)) c.in_err-more.field-0.0 (few_more columns old new more c.args.part.gone.now t) c.in_err-more.ensures)

pub returns-in_err-gone : goal.returns-in_err-gone
returns-in_err-gone c = λ old new t.
    let columns = c.args.columns.now in
    let before = set_of (project_rows columns old) in
    let after = set_of (project_rows columns new) in
    let gone = c.args.part.gone.now in
    subst (TurnsInto before after) (sym (handed_on _ c.from_residual-in_err-gone.result c.in_err-gone.field-0.0 c.from_residual-in_err-gone.ensures.1))
    (turn_no_fault before after (set_of (project_rows columns gone)) c.in_err-gone.field-0.0 (few_gone columns old new c.args.part.more.now gone t) c.in_err-gone.ensures)

pub returns : goal.returns
returns c = λ old new t.
    let columns = c.args.columns.now in
    let before = set_of (project_rows columns old) in
    let after = set_of (project_rows columns new) in
    let more = c.args.part.more.now in
    let gone = c.args.part.gone.now in (
      subst (λ (l : List Row). Turned before after l c.in_ok-gone.gone) (sym c.in_ok-more.ensures.0)
          (subst (λ (l : List Row). Turned before after (set_of (project_rows columns more)) l) (sym c.in_ok-gone.ensures.0) (whole_turned columns old new more gone t.turned t.wide.width t.wide.wide t.more_whole t.gone_whole)),
      few_new columns old new more gone t,
    )
