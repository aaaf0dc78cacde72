use Rattle.std.proofs.Common.{◌∙◌}
use Rattle.bloom_parse.proofs.Texts.ByteLemmas.{literal_read, literal_bad}
use Rattle.bloom_parse.proofs.lexing.front.literal.Goals as goal

pub returns-in_ok-from_text-in-Ok : goal.returns-in_ok-from_text-in-Ok
returns-in_ok-from_text-in-Ok c = literal_read c.args.bytes.now c.args.rest.now c.in_ok-from_text-in-Ok.field-0 c.in-Ok.ensures.cases.1 (c.in_ok-from_text-in-Ok.ensures ∙ c.in-Ok.ensures.cases.0)

pub returns-in-Err : goal.returns-in-Err
returns-in-Err c = literal_bad c.args.bytes.now c.args.rest.now c.in-Err.ensures.cases.0
