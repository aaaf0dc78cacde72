use Rattle.bloom_parse.proofs.Texts.NumberLemmas.{number_ok, number_err, number_not}
use Rattle.bloom_parse.proofs.lexing.front.numbered.Goals as goal

pub returns-in-Ok-parse : goal.returns-in-Ok-parse
returns-in-Ok-parse c = number_ok c.in-Ok.text.now c.args.run.now c.in-Ok-parse.number c.in-Ok.ensures.cases.0 c.in-Ok-parse.ensures.value.0

pub returns-in-Err-parse : goal.returns-in-Err-parse
returns-in-Err-parse c = number_err c.in-Ok.text.now c.args.run.now c.in-Ok.ensures.cases.0 c.in-Err-parse.ensures.value.0

pub returns-in-Err : goal.returns-in-Err
returns-in-Err c = number_not c.args.run.now c.in-Err.ensures.cases.0
