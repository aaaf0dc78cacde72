use Rattle.std.proofs.lemmas.List.{map-set}
use Rattle.bloom_eval.specs.Code.Held.{rows_in}
use Rattle.bloom_eval.specs.declared.rows.Rows.TheVariants.{Own}
use Rattle.bloom_eval.proofs.step.put_set.Goals as goal

pub returns : goal.returns
returns c = map-set rows_in c.args.held.now.items c.args.number (Own c.args.set)
