use Rattle.std.proofs.Common.{◌∙◌, [], length, ap, sym, subst, arith}
use Rattle.std.proofs.lemmas.List.{length-map}
use Rattle.bloom_forms.specs.Step.{Sets}
use Rattle.bloom_eval.specs.Code.Held.{rows_in, sets_in}
use Rattle.bloom_eval.specs.Taken.{AreSetsOfAll}
use Rattle.bloom_eval.proofs.Rules.{head_taken}
use Rattle.bloom_eval.proofs.Widths.{columns_at, none_wide, set_wide}
use Rattle.bloom_eval.proofs.step.take_head.Goals as goal

pub add_rules-requires : goal.add_rules-requires
add_rules-requires c =
    let cs = c.args.program.now.form.collections in
    let old = sets_in c.args.held.now.items in
    subst (λ (sets : Sets). AreSetsOfAll cs sets) (sym (ap sets_in c.deref.ensures.value ∙ c.take_set.ensures.left)) (set_wide cs old c.args.head [] c.requires.wide (none_wide (length (columns_at cs c.args.head))))

pub returns : goal.returns
returns c =
    let cs = c.args.program.now.form.collections in
    let rules = c.args.program.now.form.rules in
    head_taken (Unit {0}) cs rules c.args.head (sets_in c.args.held.now.items) (sets_in c.take_set.new.held.items) (sets_in c.deref.result.now) (sets_in c.put_set.new.held.items) c.in_ok-set.set c.add_rules.new.set (tt {0})
    (omega (arith, c.requires.within, length-map c.args.held.now.items rows_in)) c.take_set.ensures.left (ap sets_in c.deref.ensures.value) c.put_set.ensures c.in_ok-set.ensures.taken c.in_ok-add_rules.ensures
