use Rattle.std.proofs.Common.{◌≡◌, ◌∙◌, ◌++◌, ◌∷◌, [], Some, ap, sym, arith, rules}
use Rattle.std.proofs.lemmas.Result.{err_from_is_err_and}
use Rattle.sched_text.proofs.PartsLemmas.{one_more, all_read, fails_so, too_many}
use Rattle.sched_text.proofs.reading.parts.Goals as goal

pub loop-alloc-preserved : goal.loop-alloc-preserved
loop-alloc-preserved c =
    let items : c.push.new.self.items ≡ c.loop-alloc.parts.items ++ c.in_ok-part.field-0 ∷ [] = search rules in
    rw items (one_more c.args.fields.now c.loop-alloc.fields c.loop-alloc.parts.items c.loop-alloc.invariant c.in_ok-part.field-0 c.part.new.fields c.in_ok-part.ensures (search rules))

pub returns-then-is_empty : goal.returns-then-is_empty
returns-then-is_empty c =
    let items : c.push.new.self.items ≡ c.loop-alloc.parts.items ++ c.in_ok-part.field-0 ∷ [] = search rules in
    all_read c.args.fields.now c.loop-alloc.fields c.loop-alloc.parts.items c.loop-alloc.invariant c.in_ok-part.field-0 c.part.new.fields c.in_ok-part.ensures (search rules) (omega arith) ∙ ap Some (sym (c.from_vec.ensures ∙ items))

pub returns : goal.returns
returns c = too_many c.args.fields.now c.loop-alloc.fields c.loop-alloc.parts.items c.loop-alloc.invariant (search rules)

pub returns-in_err-part : goal.returns-in_err-part
returns-in_err-part c =
    let p = err_from_is_err_and c.from_residual.result c.from_residual.ensures.1 in
    fails_so c.args.fields.now c.loop-alloc.fields c.part.new.fields c.loop-alloc.parts.items c.loop-alloc.invariant c.in_err-part.field-0.0 c.from_residual.result (rw (p.2) at (p.1)) c.in_err-part.ensures
