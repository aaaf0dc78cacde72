use Rattle.std.proofs.Common.{Bool, ◌≤◌, ◌++◌, ◌∷◌, ◌∙◌, refl, sym, ap, subst, arith, length, List, Bor}
use Rattle.std.proofs.lemmas.List.{length-map}
use Rattle.blz_value.specs.Record.{Row}
use Rattle.blz_value.specs.Sets.{IsRowSet, set_of}
use Rattle.blz_set.specs.RecordSet.{IsRecordSet, row_limit}
use Rattle.blz_set.specs.References.{shown}
use Rattle.blz_set.specs.Answers.{Becomes}
use Rattle.blz_set.proofs.RecordSets.{set_is_set}
use Rattle.blz_set.proofs.Unions.{missing_sorted, length_union, union_missing, one_missing, only_one, handed_on, becomes_as}
use Rattle.blz_set.proofs.set.RecordSet.union_in.Goals as goal

pub returns-then-len-room : goal.returns-then-len-room
returns-then-len-room c =
    let both = length_union c.args.self.now c.args.other.now c.rows.ensures.set.sorted c.missing.ensures.set.sorted in
    (refl, omega (arith, both, ap length c.in_ok-missing.ensures.rows, length-map c.in_ok-missing.missing.items (λ (r : Bor Row). r.now), ap length c.rows.ensures.all))

pub returns-in_err-insert : goal.returns-in_err-insert
returns-in_err-insert c =
    let old = c.args.self.now in
    let all = set_of (old ++ c.args.other.now) in
    let same =
    ap (λ row. set_of (row ∷ old)) c.in_ok-copy.ensures
    ∙ one_missing old c.args.other.now c.row-item.result.now (only_one c.as_slice.result.now c.row-item.result (omega arith) (omega arith) c.row-item.is ∙ ap shown c.as_slice.ensures.value ∙ c.in_ok-missing.ensures.rows) in
    subst (Becomes old all c.insert.new.self) (sym (handed_on _ c.from_residual-in_err-insert.result c.in_err-insert.field-0.0 c.from_residual-in_err-insert.ensures.1))
    (becomes_as Bool (Unit {0}) old (set_of (c.in_ok-copy.field-0 ∷ old)) all c.insert.new.self c.in_err-insert.field-0.0 same c.in_err-insert.ensures.rows)

pub returns-in-len1 : goal.returns-in-len1
returns-in-len1 c =
    let old = c.args.self.now in
    let same =
    ap (λ row. set_of (row ∷ old)) c.in_ok-copy.ensures
    ∙ one_missing old c.args.other.now c.row-item.result.now (only_one c.as_slice.result.now c.row-item.result (omega arith) (omega arith) c.row-item.is ∙ ap shown c.as_slice.ensures.value ∙ c.in_ok-missing.ensures.rows) in
    (c.in_ok-insert.ensures.rows.0 ∙ same, subst (λ (l : List Row). length l ≤ row_limit) same c.in_ok-insert.ensures.rows.1)

pub merge_in-requires : goal.merge_in-requires
merge_in-requires c =
    let old = c.args.self.now in
    let others = c.args.other.now in
    let copies = c.in_ok-copies.ensures ∙ ap shown c.as_slice-2.ensures.value ∙ c.in_ok-missing.ensures.rows in
    record {
      rows = c.self.invariant.sorted;
      more = subst IsRowSet (sym copies) (missing_sorted old others c.missing.ensures.set.sorted);
    }

pub invariant_of-self-2 : goal.invariant_of-self-2
invariant_of-self-2 c =
    let both = length_union c.args.self.now c.args.other.now c.rows.ensures.set.sorted c.missing.ensures.set.sorted in
    let copies = c.in_ok-copies.ensures ∙ ap shown c.as_slice-2.ensures.value ∙ c.in_ok-missing.ensures.rows in
    let made =
    c.in_ok-merge_in.ensures.ok ∙ ap (λ rows. set_of (rows ++ c.in_ok-copies.copies.items)) c.self.view_is ∙ ap (λ more. set_of (c.args.self.now ++ more)) copies ∙ union_missing c.args.self.now c.args.other.now in
    set_is_set (c.args.self.now ++ c.args.other.now) c.merge_in.new.rows.items made
    (omega (arith, both, ap length made, ap length c.in_ok-missing.ensures.rows, length-map c.in_ok-missing.missing.items (λ (r : Bor Row). r.now), ap length c.rows.ensures.all))

pub returns : goal.returns
returns c =
    let both = length_union c.args.self.now c.args.other.now c.rows.ensures.set.sorted c.missing.ensures.set.sorted in
    let copies = c.in_ok-copies.ensures ∙ ap shown c.as_slice-2.ensures.value ∙ c.in_ok-missing.ensures.rows in (
      c.in_ok-merge_in.ensures.ok ∙ ap (λ rows. set_of (rows ++ c.in_ok-copies.copies.items)) c.self.view_is ∙ ap (λ more. set_of (c.args.self.now ++ more)) copies ∙ union_missing c.args.self.now c.args.other.now,
      omega (arith, both, ap length c.in_ok-missing.ensures.rows, length-map c.in_ok-missing.missing.items (λ (r : Bor Row). r.now), ap length c.rows.ensures.all),
    )
