use Rattle.std.proofs.Common.{◌-◌, ◌+◌, sym, ap, ◌∙◌, arith}
use Rattle.bloom_parse.specs.Tokens.{bytes_front, with_bytes}
use Rattle.bloom_parse.proofs.Texts.ByteLemmas.{bytes_turn, bytes_bad, bytes_done, bytes_over}
use Rattle.bloom_parse.proofs.lexing.front.bytes_front.Goals as goal

pub returns-in-Some : goal.returns-in-Some
returns-in-Some c = bytes_done (64 - c.loop.counter) c.loop.bytes.items c.loop.rest.now c.in-Some.after.now _ (sym c.in-Some.ensures) c.loop.invariant

pub returns-in_default-byte_front : goal.returns-in_default-byte_front
returns-in_default-byte_front c = bytes_bad c.loop.counter c.loop.bytes.items c.loop.rest.now _ (omega arith) (sym c.in_default.ensures) (sym c.in_default-byte_front.ensures) c.loop.invariant

pub loop-preserved : goal.loop-preserved
loop-preserved c =
    ap (λ bytes. with_bytes bytes (bytes_front (64 - (c.loop.counter + 1)) c.in-Some-byte_front.after.now)) c.in_ok-push.ensures.items
    ∙ bytes_turn c.loop.counter c.loop.bytes.items c.loop.rest.now c.in-Some-byte_front.after.now c.in-Some-byte_front.byte _ (omega arith) (sym c.in_default.ensures) (sym c.in-Some-byte_front.ensures) c.loop.invariant

pub returns-in-Some-closing_front : goal.returns-in-Some-closing_front
returns-in-Some-closing_front c = bytes_done (64 - c.loop.counter) c.loop.bytes.items c.loop.rest.now c.in-Some-closing_front.after.now _ (sym c.in-Some-closing_front.ensures) c.loop.invariant

pub returns : goal.returns
returns c = bytes_over c.loop.counter c.loop.bytes.items c.loop.rest.now _ (omega arith) (sym c.in-None.ensures) c.loop.invariant
