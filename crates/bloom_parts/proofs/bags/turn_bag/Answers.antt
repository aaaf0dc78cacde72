use Rattle.std.proofs.Common.{◌∙◌, ◌++◌, List, sym, subst}
use Rattle.blz_value.specs.Record.{Row}
use Rattle.blz_value.specs.Sets.{set_of}
use Rattle.blz_value.proofs.SetLaws.{sorted_set_of}
use Rattle.blz_set.proofs.Unions.{handed_on}
use Rattle.bloom_growth.specs.Bags.{entered_rows, left_rows}
use Rattle.bloom_growth.specs.Growth.{Extends}
use Rattle.bloom_growth.specs.Turned.{TurnsInto}
use Rattle.bloom_growth.proofs.BagRows.{on_ok, alike_bag, alike_rows}
use Rattle.bloom_growth.proofs.BagsLemmas.{extends_none}
use Rattle.bloom_parts.specs.Bodies.{olds_of, news_of}
use Rattle.bloom_parts.specs.Code.Passing.{more_of}
use Rattle.bloom_parts.proofs.BodiesLemmas.{mids_of, bodies_start, start_rows, bodies_end, few_bodies, bodies_fault}
use Rattle.bloom_parts.proofs.bags.turn_bag.Goals as goal

pub returns-in_err-put_all-clause-rows : goal.returns-in_err-put_all-clause-rows
returns-in_err-put_all-clause-rows c = λ bodies t is.
    let changes = c.args.changes.now in
    let kept = mids_of bodies changes in
    let fault = c.in_err-put_all.field-0.0 in
    let middle = c.in_ok-take_all.ensures.bag kept (bodies_start bodies changes t c.args.bag.now is) in
    subst (TurnsInto (set_of (olds_of bodies)) (set_of (news_of bodies))) (sym (handed_on _ c.from_residual-in_err-put_all.result fault c.from_residual-in_err-put_all.ensures.1))
    (bodies_fault bodies changes t c.put_all.new.bag fault (c.in_err-put_all.ensures.bag kept (few_bodies bodies changes t) middle))

pub returns-clause-bag : goal.returns-clause-bag
returns-clause-bag c = on_ok c.turn.result (λ bodies t is.
    let changes = c.args.changes.now in
    let kept = mids_of bodies changes in
    let middle = c.in_ok-take_all.ensures.bag kept (bodies_start bodies changes t c.args.bag.now is) in
    alike_bag (more_of changes ++ kept) (news_of bodies) c.put_all.new.bag (bodies_end bodies changes t) (c.in_ok-put_all.ensures.bag kept (few_bodies bodies changes t) middle))

pub returns-clause-rows : goal.returns-clause-rows
returns-clause-rows c = λ bodies t is.
    let changes = c.args.changes.now in
    let kept = mids_of bodies changes in
    let start = bodies_start bodies changes t c.args.bag.now is in
    let small = few_bodies bodies changes t in
    let middle = c.in_ok-take_all.ensures.bag kept start in
    let fresh = c.new-passing.ensures in
    let left = c.in_ok-take_all.ensures.left (set_of (olds_of bodies)) kept start (start_rows bodies changes t (left_rows c.new-passing.result) fresh.left) in
    let entered = c.in_ok-put_all.ensures.entered (set_of kept) kept small middle (extends_none (set_of kept) (entered_rows c.take_all.new.passing) (sorted_set_of kept) (c.take_all.ensures.entered ∙ fresh.entered)) in
    let all = alike_rows (more_of changes ++ kept) (news_of bodies) (bodies_end bodies changes t) in
    let ended = alike_bag (more_of changes ++ kept) (news_of bodies) c.put_all.new.bag (bodies_end bodies changes t) (c.in_ok-put_all.ensures.bag kept small middle) in
    c.turn.ensures (set_of (olds_of bodies)) (set_of kept) (set_of (news_of bodies)) (record {
      left = subst (λ (l : List Row). Extends (set_of kept) (set_of (olds_of bodies)) l) (sym c.put_all.ensures.left) left;
      entered = subst (λ (l : List Row). Extends (set_of kept) l (entered_rows c.put_all.new.passing)) all entered;
      few_old = is.few;
      few_new = ended.few;
    })
