use Rattle.std.proofs.Common.{◌+◌, ◌∙◌, ℕ, List, length, drop, get_or, slice_set, length-set, arith, ap, sym, subst}
use Rattle.std.specs.List.{fold}
use Rattle.std.proofs.lemmas.List.{drop_more}
use Rattle.blz_value.specs.Members.{Has}
use Rattle.blz_value.proofs.Membership.{Has-get_or}
use Rattle.bloom_forms.proofs.Collections.Numbers.{get-within}
use Rattle.bloom_forms.specs.HeadRoots.{head_roots, with_head_roots}
use Rattle.bloom_forms.specs.Roots.{Roots}
use Rattle.path_annotate.proofs.ByNumberCorrect.{head-same}
use Rattle.path_annotate.proofs.collection_roots.roots_table.Goals as goal

pub take_head-requires : goal.take_head-requires
take_head-requires c =
    let heads = c.heads-heads.result.now in
    let i = c.loop-head.head-index in
    let stands = subst (λ (hs : List ℕ). Has (get_or heads i 0) hs) c.heads-heads.ensures (Has-get_or heads i 0 (omega (arith, c.loop-head-test.true))) in
    let derived = c.module.ensures.checked.ordered.none_else (get_or heads i 0) stands in
    omega (arith, get-within c.args.checked.now.form.collections (get_or heads i 0) derived.collection derived.stands, c.loop-head.invariant.0)

pub loop-head-preserved : goal.loop-head-preserved
loop-head-preserved c =
    let form = c.args.checked.now.form in
    let heads = c.heads-heads.result.now in
    let i = c.loop-head.head-index in
    let head = get_or heads i 0 in
    let table = c.loop-head.table.items in
    let taken = c.in_ok-take_head.ensures ∙ ap (λ (roots : Roots). slice_set table head roots) (head-same form table c.rules-rules.result.now head c.rules-rules.ensures.numbered) in
    let left = drop_more heads i 0 (omega (arith, c.loop-head-test.true)) in (
      ap (λ (t : List Roots). length t) taken ∙ length-set table head (head_roots form table head) ∙ c.loop-head.invariant.0,
      ap (λ (t : List Roots). fold (with_head_roots form) t (drop (i + 1) heads)) taken ∙ ap (λ (l : List ℕ). fold (with_head_roots form) table l) (sym left) ∙ c.loop-head.invariant.1,
    )
