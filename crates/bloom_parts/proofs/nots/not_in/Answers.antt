use Rattle.std.proofs.Common.{◌∙◌}
use Rattle.std.proofs.lemmas.Result.{on_ok_weaker}
use Rattle.blz_value.specs.Operators.{notin_rows}
use Rattle.blz_value.specs.Sets.{set_of}
use Rattle.bloom_parts.proofs.Settling.{notin_settled, notin_stands_settled}
use Rattle.bloom_parts.proofs.Turning.{flagged}
use Rattle.bloom_parts.proofs.nots.not_in.Goals as goal

pub not_in_sets-requires-clause-kept : goal.not_in_sets-requires-clause-kept
not_in_sets-requires-clause-kept c = c.in_ok-left.ensures.right.kept ∙ c.requires

pub returns-clause-turned : goal.returns-clause-turned
returns-clause-turned c = λ rg lo ln ro rn changes.
    let pairs = c.args.pairs.now in
    let l = c.in_ok-left.ensures.left in
    let r = c.in_ok-left.ensures.right in
    let left = c.in_ok-left.left in
    let right = c.in_ok-left.right in
    flagged left.kept c.args.left.kept (set_of (notin_rows pairs lo ro)) (set_of (notin_rows pairs ln rn)) c.not_in_sets.result l.kept
    (c.not_in_sets.ensures.turned rg lo ln ro rn (notin_settled c.args.left left c.args.right right l r pairs rg lo ln ro rn c.args.memo.now changes))

pub returns-clause-kept : goal.returns-clause-kept
returns-clause-kept c =
    let pairs = c.args.pairs.now in
    let l = c.in_ok-left.ensures.left in
    let r = c.in_ok-left.ensures.right in
    let left = c.in_ok-left.left in
    let right = c.in_ok-left.right in
    on_ok_weaker c.not_in_sets.result (λ k rg lo ln ro rn changes. notin_stands_settled c.args.left left c.args.right right l r pairs rg ln rn c.not_in_sets.new.memo (k rg lo ln ro rn (notin_settled c.args.left left c.args.right right l r pairs rg lo ln ro rn c.args.memo.now changes))) c.not_in_sets.ensures.kept
