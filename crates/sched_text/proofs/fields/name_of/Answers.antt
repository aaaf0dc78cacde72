use Rattle.sched_text.proofs.BytesLemmas.{no_name}
use Rattle.sched_text.proofs.fields.name_of.Goals as goal

pub returns-in-Err : goal.returns-in-Err
returns-in-Err c = no_name c.args.field.now c.in-Err.ensures.cases.0
