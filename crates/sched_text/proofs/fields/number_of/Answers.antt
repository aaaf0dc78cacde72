use Rattle.std.proofs.Common.{◌≡◌, true, get_or, arith, rules}
use Rattle.std.specs.Char.{is_ascii_digit}
use Rattle.sched_text.proofs.BytesLemmas.{digits_fit, one_more_digit, one_more_value}
use Rattle.sched_text.proofs.fields.number_of.Goals as goal

pub overflow_mul-number : goal.overflow_mul-number
overflow_mul-number c =
    let small = digits_fit c.args.field.now c.loop-byte.byte-index c.loop-byte-test.true c.loop-byte.invariant.1 (omega arith) in
    omega arith

pub overflow_add-number : goal.overflow_add-number
overflow_add-number c =
    let small = digits_fit c.args.field.now c.loop-byte.byte-index c.loop-byte-test.true c.loop-byte.invariant.1 (omega arith) in
    omega arith

pub loop-byte-preserved : goal.loop-byte-preserved
loop-byte-preserved c =
    let digit : is_ascii_digit (get_or c.args.field.now c.loop-byte.byte-index 0) ≡ true = search rules in
    let more = one_more_value c.args.field.now c.loop-byte.byte-index c.loop-byte-test.true c.loop-byte.invariant.1 digit in
    (omega arith, one_more_digit c.args.field.now c.loop-byte.byte-index c.loop-byte-test.true c.loop-byte.invariant.1 digit)
