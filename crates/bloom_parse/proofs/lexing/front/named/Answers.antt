use Rattle.bloom_parse.proofs.Texts.NamedRuns.{named_long, named_word, named_name}
use Rattle.bloom_parse.proofs.Texts.RunLemmas.{utf8_of_name_bytes}
use Rattle.bloom_parse.proofs.lexing.front.named.Goals as goal

pub returns-then-run-gt64 : goal.returns-then-run-gt64
returns-then-run-gt64 c = named_long c.args.run.now c.if-run-gt64.true

pub returns-in_default : goal.returns-in_default
returns-in_default c = absurd (c.in_default.ensures.cases.0 (utf8_of_name_bytes c.args.run.now c.requires))

pub returns-in-Some : goal.returns-in-Some
returns-in-Some c = named_word c.args.run.now c.in-Ok.name.now c.in-Some.word c.if-run-gt64.false c.in-Ok.ensures.cases.0 c.in-Some.ensures

pub returns-in_ok-from_text-in-None : goal.returns-in_ok-from_text-in-None
returns-in_ok-from_text-in-None c =
    named_name c.args.run.now c.in-Ok.name.now c.in_ok-from_text-in-None.field-0 c.if-run-gt64.false c.in-Ok.ensures.cases.0 c.in-None.ensures c.in_ok-from_text-in-None.ensures
