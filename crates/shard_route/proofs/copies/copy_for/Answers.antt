-- The check finds no fault but that a rule is too deep.
use Rattle.bloom_forms.specs.Form.{form_of, formula_of}
use Rattle.shard_route.proofs.Checking.{has_own_names, good_copy, refused_copy}
use Rattle.shard_route.proofs.copies.copy_for.Goals as goal

pub check-requires : goal.check-requires
check-requires c = record { names = has_own_names c.args.checked.now (formula_of c.args.test.now) (form_of c.module.result.now) (form_of c.in_ok-copied.copied) c.module.ensures.form c.in_ok-copied.ensures c.args.column.now c.requires.test c.requires.ports c.module.ensures.checked }

pub returns-in-Ok : goal.returns-in-Ok
returns-in-Ok c = good_copy c.args.checked.now (formula_of c.args.test.now) (form_of c.module.result.now) (form_of c.in_ok-copied.copied) c.module.ensures.form c.in_ok-copied.ensures c.in-Ok.copy c.in-Ok.ensures.checked.0 c.in-Ok.ensures.checked.1 c.in-Ok.ensures.heads

pub returns : goal.returns
returns c = refused_copy c.args.checked.now (formula_of c.args.test.now) (form_of c.module.result.now) (form_of c.in_ok-copied.copied) c.module.ensures.form c.in_ok-copied.ensures c.args.column.now c.requires.test c.requires.ports c.module.ensures.checked c.in-Err.fault c.in-Err.ensures.checked c.refused.result c.refused.ensures
