use Rattle.std.proofs.Common.{◌≡◌, ◌∙◌, ◌≤◌, ◌++◌, List, length, ap, sym, subst, arith}
use Rattle.blz_value.specs.Record.{Row}
use Rattle.blz_value.specs.Sets.{set_of}
use Rattle.blz_set.proofs.Unions.{handed_on}
use Rattle.blz_set.specs.RecordSet.{row_limit}
use Rattle.bloom_parts.specs.Bodies.{AddsGiven}
use Rattle.bloom_parts.proofs.BodiesLemmas.{given_count, whole_fault, some_fault, given_all, given_some, all_given}
use Rattle.bloom_parts.proofs.bags.with_bag.Goals as goal
use Rattle.bloom_parts.proofs.bags.with_bag.Goals.{then-whole+in_ok-to_set+in_ok-put_into, else-whole+in_ok-put_into-2}

pub returns-then-missing-saturating_sub : goal.returns-then-missing-saturating_sub
returns-then-missing-saturating_sub c = λ given is within.
    omega (arith, c.if-missing-saturating_sub.true, c.missing.ensures given is, c.len.ensures given is, given_count c.args.set given c.rows-rows.ensures.set.sorted, is.few)

pub returns-in_err-put_into : goal.returns-in_err-put_into
returns-in_err-put_into c = λ given is within.
    let all = c.in_ok-to_set.ensures given is in
    let fault = c.in_err-put_into.field-0.0 in
    subst (AddsGiven c.args.whole c.args.set given c.args.more) (sym (handed_on _ c.from_residual-in_err-put_into.result fault c.from_residual-in_err-put_into.ensures.1))
    (whole_fault c.args.set given c.args.more c.args.whole fault _ c.in_ok-to_set.field-0 all.0 c.in_err-put_into.ensures)

pub returns-in_err-put_into-2 : goal.returns-in_err-put_into-2
returns-in_err-put_into-2 c = λ given is within.
    let fault = c.in_err-put_into-2.field-0.0 in
    subst (AddsGiven c.args.whole c.args.set given c.args.more) (sym (handed_on _ c.from_residual-in_err-put_into-2.result fault c.from_residual-in_err-put_into-2.ensures.1))
    (some_fault c.args.set given c.args.more c.args.whole fault _ within c.in_err-put_into-2.ensures)

pub returns : goal.returns
returns c = λ given is within.
    let set = c.args.set in
    let more = c.args.more in
    elim c.if-whole.branch [
      | then-whole+in_ok-to_set+in_ok-put_into w ↦
          let own = w.in_ok-to_set.ensures given is in
          let put = w.in_ok-put_into.ensures in
          let all : c.if-whole.set ≡ set_of (set ++ given) = w.set-is ∙ put.0 ∙ ap (λ (l : List Row). set_of (set ++ l)) own.0 ∙ all_given set given more in
          given_all set given more c.args.whole c.if-whole.set w.if-whole.true all (subst (λ (l : List Row). length l ≤ row_limit) (sym (w.set-is ∙ put.0)) put.1)
      | else-whole+in_ok-put_into-2 w ↦
          let some = w.set-is ∙ w.in_ok-put_into-2.ensures.0 in
          let few : length (set_of (set ++ given)) ≤ row_limit = omega (arith, c.if-missing-saturating_sub.false, c.missing.ensures given is, c.len.ensures given is, given_count set given c.rows-rows.ensures.set.sorted, is.few) in
          given_some set given more c.args.whole c.if-whole.set w.if-whole.false some few
    ]
