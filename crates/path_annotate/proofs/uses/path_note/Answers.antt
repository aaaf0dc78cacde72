use Rattle.std.proofs.Common.{◌∙◌, ◌+◌, List, false, drop, map, ap, sym, arith}
use Rattle.std.proofs.lemmas.List.{drop_more}
use Rattle.path_facts.specs.declared.readings.Reading.{Reading}
use Rattle.path_annotate.specs.Code.ReadingUses.{use_towards}
use Rattle.bloom_forms.specs.Uses.{both_uses, all_uses}
use Rattle.path_annotate.proofs.UsesLemmas.{both_uses_assoc}
use Rattle.path_annotate.proofs.uses.path_note.Goals as goal

-- what is read past the end
past : Reading
past = record { head = 0; direct = record { bits = 0 }; behind = record { bits = 0 }; is_momentary = false; is_free = false; gate = record { bits = 0 } }

pub loop-rule-preserved : goal.loop-rule-preserved
unfolding past
loop-rule-preserved c =
    let all = c.as_slice-all.result.now in
    let i = c.loop-rule.rule-index in
    let use_of = use_towards c.args.rules.now c.args.port c.args.output in
    let note = c.loop-rule.note in
    let rest = all_uses (map use_of (drop (i + 1) all)) in
    let left = ap (λ (l : List Reading). all_uses (map use_of l)) (drop_more all i past (omega (arith, c.loop-rule-test.true))) in
    ap (λ u. both_uses u rest) (c.both_uses-note.ensures ∙ ap (both_uses note) c.use_towards.ensures) ∙ both_uses_assoc note (use_of _) rest ∙ ap (both_uses note) (sym left) ∙ c.loop-rule.invariant
