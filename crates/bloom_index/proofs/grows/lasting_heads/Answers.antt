use Rattle.std.proofs.Common.{Bool, false, List, ℕ, replicate, length, get_or, ◌≤◌, ◌∙◌, ap, sym, subst, arith}
use Rattle.std.proofs.lemmas.List.{drop_all}
use Rattle.bloom_forms.specs.declared.module.Collection.{Collection}
use Rattle.bloom_forms.specs.Form.{Form}
use Rattle.bloom_index.specs.Code.Lasting.{rules_last, AreLastingBelow}
use Rattle.bloom_index.proofs.Marking.{marked_first, marked_below, head_within, marked_more, marked_all}
use Rattle.bloom_index.proofs.grows.lasting_heads.Goals as goal

pub loop-head-init : goal.loop-head-init
loop-head-init c =
    marked_first c.args.program.now c.module.ensures.checked (rules_last c.args.program.now.form) c.in_ok-lasting.lasting.items
    (c.in_ok-lasting.ensures ∙ ap (λ (l : List Collection). replicate (length l) false) (c.as_slice-collections.ensures ∙ ap (λ (f : Form). f.collections) c.module.ensures.form))

pub head_lasts-here-requires-clause-within : goal.head_lasts-here-requires-clause-within
head_lasts-here-requires-clause-within c =
    head_within c.args.program.now c.module.ensures.checked (rules_last c.args.program.now.form) c.loop-head.lasting.items c.heads-head-items.result.now c.heads-head-items.ensures c.loop-head.head-index c.loop-head-test.true c.loop-head.invariant

pub head_lasts-here-requires-clause-marked : goal.head_lasts-here-requires-clause-marked
head_lasts-here-requires-clause-marked c =
    subst (λ (l : List Bool). AreLastingBelow c.args.program.now.form l (get_or c.heads-head-items.result.now c.loop-head.head-index 0)) (sym c.deref.ensures.value)
    (marked_below c.args.program.now c.module.ensures.checked (rules_last c.args.program.now.form) c.loop-head.lasting.items c.heads-head-items.result.now c.heads-head-items.ensures c.loop-head.head-index c.loop-head-test.true c.loop-head.invariant)

pub index_mut-requires : goal.index_mut-requires
index_mut-requires c =
    omega (arith, c.loop-head.lasting.ok.0, c.loop-head.invariant.many, head_within c.args.program.now c.module.ensures.checked (rules_last c.args.program.now.form) c.loop-head.lasting.items c.heads-head-items.result.now c.heads-head-items.ensures c.loop-head.head-index c.loop-head-test.true c.loop-head.invariant)

pub loop-head-preserved : goal.loop-head-preserved
loop-head-preserved c =
    marked_more c.args.program.now c.module.ensures.checked (rules_last c.args.program.now.form) c.loop-head.lasting.items c.heads-head-items.result.now c.heads-head-items.ensures c.loop-head.head-index c.loop-head-test.true c.loop-head.invariant c.head_lasts-here.result c.head_lasts-here.ensures

pub returns : goal.returns
returns c =
    let none : length c.args.program.now.heads ≤ c.loop-head.head-index = subst (λ (l : List ℕ). length l ≤ c.loop-head.head-index) c.heads-head-items.ensures c.loop-head-test.false in
    record {
      many = c.loop-head.invariant.many;
      each = marked_all c.args.program.now c.module.ensures.checked (rules_last c.args.program.now.form) c.loop-head.lasting.items _ (drop_all c.loop-head.head-index c.args.program.now.heads none) c.loop-head.invariant;
    }
