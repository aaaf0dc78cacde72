use Rattle.std.proofs.Common.{◌≡◌, ◌<◌, ◌∙◌, [], List, Bool, length, sym, ap, subst}
use Rattle.std.specs.Prelude.{slice_set}
use Rattle.std.proofs.lemmas.List.{get_or_read, get_or-set_same}
use Rattle.blz_value.specs.Record.{Row}
use Rattle.bloom_forms.specs.Step.{set_at}
use Rattle.bloom_growth.specs.declared.bag.Bag.{Bag}
use Rattle.bloom_index.specs.Code.Growth.{grows_at}
use Rattle.bloom_index.specs.Code.HeadRules.{HasOldHead, HasGiven, GrowsHead, TurnsHead, MakesHead}
use Rattle.bloom_index.specs.Code.Lasting.{lasts_at}
use Rattle.bloom_index.proofs.HeadRulesLemmas.{got_other}
use Rattle.bloom_index.proofs.StepLoops.{read_is, put_is}
use Rattle.bloom_index.proofs.step.head_change.Goals as goal

pub returns-then-index-clause-grown : goal.returns-then-index-clause-grown
returns-then-index-clause-grown c = λ can same has grow.
    let rules = can.rules in
    let ready = can.ready in
    let head = c.args.head in
    let plans = c.args.parts.now.plans.items in
    let held = c.args.held.now in
    let rows = c.args.parts.now.rows.items in
    let old = c.index_mut-rows.result.now in
    let new = c.grow_head.new.rows in
    let lt : head < length rows = c.requires.rows in
    let old_is : old ≡ set_at rows head = get_or_read rows head old lt c.index_mut-rows.ensures.value [] in
    let new_is : new ≡ set_at (slice_set rows head new) head = sym (get_or-set_same rows head new [] lt) in
    subst (λ (X : Type 0). X) (λ i. GrowsHead rules head plans held ready (old_is i) (new_is i) c.grow_head.new.plans.items c.grow_head.result)
    (c.grow_head.ensures can (subst (λ (l : List Row). HasOldHead rules head plans held ready l) (sym old_is) has) (ap (λ (l : List Bool). grows_at l head) same ∙ grow))

pub returns-then-index-2-clause-others : goal.returns-then-index-2-clause-others
returns-then-index-2-clause-others c = λ number differ. got_other c.args.parts.now.bags.items c.args.head number c.turn_head.new.bag differ

pub returns-then-index-2-clause-turned : goal.returns-then-index-2-clause-turned
returns-then-index-2-clause-turned c = λ can old new at put same given all none last.
    let rules = can.rules in
    let ready = can.ready in
    let head = c.args.head in
    let bags = c.args.parts.now.bags.items in
    let old_is : c.index_mut-bag.result.now ≡ old = read_is bags head c.index_mut-bag.result.now old c.requires.bags c.index_mut-bag.ensures.value at in
    let new_is : c.turn_head.new.bag ≡ new = put_is bags head c.turn_head.new.bag new c.requires.bags put in
    subst (λ (bag : Bag). TurnsHead rules head c.args.parts.now.plans.items c.args.held.now ready bag c.turn_head.new.plans.items c.turn_head.result) new_is
    (c.turn_head.ensures can (subst (HasGiven ready.lasting ready.old rules head) (sym old_is) given) all (ap (λ (l : List Bool). lasts_at l head) same ∙ last))

pub returns-else-index-2-clause-others : goal.returns-else-index-2-clause-others
returns-else-index-2-clause-others c = λ number differ. got_other c.args.parts.now.bags.items c.args.head number c.make_head.new.bag differ

pub returns-else-index-2-clause-made : goal.returns-else-index-2-clause-made
returns-else-index-2-clause-made c = λ can old new at put same given none passing.
    let rules = can.rules in
    let ready = can.ready in
    let head = c.args.head in
    let bags = c.args.parts.now.bags.items in
    let old_is : c.index_mut-bag.result.now ≡ old = read_is bags head c.index_mut-bag.result.now old c.requires.bags c.index_mut-bag.ensures.value at in
    let new_is : c.make_head.new.bag ≡ new = put_is bags head c.make_head.new.bag new c.requires.bags put in
    subst (λ (bag : Bag). MakesHead rules head c.args.parts.now.plans.items c.args.held.now ready c.args.whole bag c.make_head.new.plans.items c.make_head.result) new_is
    (c.make_head.ensures can (subst (HasGiven ready.lasting ready.old rules head) (sym old_is) given) (ap (λ (l : List Bool). lasts_at l head) same ∙ passing))
