use Rattle.std.specs.Prelude.{◌&&◌, ◌||◌}
use Rattle.std.proofs.Common.{◌∙◌, Bool, ap}
use Rattle.std.proofs.lemmas.Result.{on_ok_weaker}
use Rattle.blz_value.specs.Operators.{join_rows}
use Rattle.blz_value.specs.Sets.{set_of}
use Rattle.bloom_parts.proofs.Settling.{join_settled, join_stands_settled}
use Rattle.bloom_parts.proofs.Turning.{flagged}
use Rattle.bloom_parts.proofs.joins.join.Goals as goal

pub join_sets-requires-clause-one : goal.join_sets-requires-clause-one
join_sets-requires-clause-one c =
    let left = c.in_ok-left.ensures.left.kept in
    let right = c.in_ok-left.ensures.right.kept in
    ap (λ (b : Bool). b || c.in_ok-left.right.kept) left ∙ ap (λ (b : Bool). c.args.left.kept || b) right ∙ c.requires

pub returns-clause-turned : goal.returns-clause-turned
returns-clause-turned c = λ lg rg lo ln ro rn changes.
    let pairs = c.args.pairs.now in
    let l = c.in_ok-left.ensures.left in
    let r = c.in_ok-left.ensures.right in
    let left = c.in_ok-left.left in
    let right = c.in_ok-left.right in
    flagged (left.kept && right.kept) (c.args.left.kept && c.args.right.kept) (set_of (join_rows pairs lo ro)) (set_of (join_rows pairs ln rn)) c.join_sets.result (ap (λ (b : Bool). b && right.kept) l.kept ∙ ap (λ (b : Bool). c.args.left.kept && b) r.kept)
    (c.join_sets.ensures.turned lg rg lo ln ro rn (join_settled c.args.left left c.args.right right l r pairs lg rg lo ln ro rn c.args.memo.now changes))

pub returns-clause-kept : goal.returns-clause-kept
returns-clause-kept c =
    let pairs = c.args.pairs.now in
    let l = c.in_ok-left.ensures.left in
    let r = c.in_ok-left.ensures.right in
    let left = c.in_ok-left.left in
    let right = c.in_ok-left.right in
    on_ok_weaker c.join_sets.result (λ k lg rg lo ln ro rn changes. join_stands_settled c.args.left left c.args.right right l r pairs lg rg ln rn c.join_sets.new.memo (k lg rg lo ln ro rn (join_settled c.args.left left c.args.right right l r pairs lg rg lo ln ro rn c.args.memo.now changes))) c.join_sets.ensures.kept
