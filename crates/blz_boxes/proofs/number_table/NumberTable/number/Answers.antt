use Rattle.std.proofs.Common.{rules, ◌≡◌, ◌∙◌, ◌++◌, ℤ, ap, sym, subst, length, arith}
use Rattle.std.specs.BTreeMap.{BTreeMap, get}
use Rattle.std.proofs.lemmas.List.{length-map}
use Rattle.blz_value.specs.Members.{Has}
use Rattle.blz_value.specs.Record.{Row, record_cmp}
use Rattle.blz_value.specs.Sets.{set_of, IsRowSet}
use Rattle.blz_set.specs.References.{shown}
use Rattle.bloom_forms.specs.StockSteps.{numbered, number_kept}
use Rattle.blz_boxes.specs.Code.Numbers.{numbered_records}
use Rattle.blz_boxes.proofs.NumberRows.{fresh_sorted, fresh_absent, numbered_by, count_kept, over_from, out_within}
use Rattle.blz_boxes.proofs.number_table.NumberTable.number.Goals as goal

pub returns-then-len-count-clause-too_many : goal.returns-then-len-count-clause-too_many
returns-then-len-count-clause-too_many c =
    let count = count_kept c.args.self.now.numbers c.args.rows.now c.len-count.ensures.ordered c.requires in
    let fresh = ap (length {A = Row}) c.in_ok-fresh.ensures in
    λ _. omega (arith, count, fresh, length-map c.in_ok-fresh.fresh.items (λ r. r.now))

pub returns-in_err-out-clause-too_many : goal.returns-in_err-out-clause-too_many
returns-in_err-out-clause-too_many c =
    let fresh = ap shown c.deref.ensures.value ∙ c.in_ok-fresh.ensures in
    let made : c.in_ok-numbered.field-0.items ≡ numbered (numbered_records c.args.self.now.numbers) c.args.rows.now =
    c.in_ok-numbered.ensures ∙ numbered_by c.args.self.now.numbers c.args.rows.now (shown c.deref.result.now) c.len-count.result c.len-count.ensures.ordered c.requires fresh c.len-count.ensures.len in
    over_from _ c.from_residual-in_err-out.result c.in_err-out.field-0.0 (set_of c.in_ok-numbered.field-0.items) (number_kept (numbered_records c.args.self.now.numbers) c.args.rows.now) c.from_residual-in_err-out.ensures.1 c.in_err-out.ensures
    (λ over. out_within (numbered_records c.args.self.now.numbers) c.args.rows.now (rw made at over))

pub keep_all-requires-clause-sorted : goal.keep_all-requires-clause-sorted
keep_all-requires-clause-sorted c =
    let fresh = ap shown c.deref-2.ensures.value ∙ c.in_ok-fresh.ensures in
    subst IsRowSet (sym fresh) (fresh_sorted c.args.self.now.numbers c.args.rows.now c.requires)

pub keep_all-requires-clause-fresh : goal.keep_all-requires-clause-fresh
keep_all-requires-clause-fresh c =
    let fresh = ap shown c.deref-2.ensures.value ∙ c.in_ok-fresh.ensures in
    let taken : c.replace-numbers.result ≡ c.args.self.now.numbers = search rules in
    λ row h. ap (λ (m : BTreeMap Row ℤ). get record_cmp m row) taken ∙ fresh_absent c.args.self.now.numbers c.args.rows.now row (subst (λ rows. Has row rows) fresh h)

pub returns-clause-kept : goal.returns-clause-kept
returns-clause-kept c =
    let fresh = ap shown c.deref-2.ensures.value ∙ c.in_ok-fresh.ensures in
    let made = numbered_by c.args.self.now.numbers c.args.rows.now (shown c.deref-2.result.now) c.len-count.result c.len-count.ensures.ordered c.requires fresh c.len-count.ensures.len in
    let taken : c.replace-numbers.result ≡ c.args.self.now.numbers = search rules in
    c.in_ok-keep_all.ensures.kept ∙ (λ i. set_of (numbered_records (taken i) ++ made i))

pub returns-clause-out : goal.returns-clause-out
returns-clause-out c =
    let fresh = ap shown c.deref.ensures.value ∙ c.in_ok-fresh.ensures in
    c.in_ok-out.ensures.0 ∙ ap set_of (c.in_ok-numbered.ensures ∙ numbered_by c.args.self.now.numbers c.args.rows.now (shown c.deref.result.now) c.len-count.result c.len-count.ensures.ordered c.requires fresh c.len-count.ensures.len)

pub returns-clause-few : goal.returns-clause-few
returns-clause-few c =
    let count = count_kept c.args.self.now.numbers c.args.rows.now c.len-count.ensures.ordered c.requires in
    let fresh = ap (length {A = Row}) c.in_ok-fresh.ensures in
    omega (arith, count, fresh, length-map c.in_ok-fresh.fresh.items (λ r. r.now), c.args.self.now.small)
