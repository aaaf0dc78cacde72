use Rattle.std.proofs.Common.{◌≡◌, ◌∙◌, ℕ, Bool, List, length, ap}
use Rattle.std.proofs.lemmas.Result.{IfOk-weaker}
use Rattle.bloom_index.specs.Code.SideParts.{rules_sides}
use Rattle.bloom_index.specs.Sides.{module_sides}
use Rattle.bloom_index.proofs.SideLemmas.{sides_counted}
use Rattle.bloom_index.proofs.body.sides_of.Goals as goal

pub returns : goal.returns
returns c =
    let program = c.args.program.now in
    let rules = c.rules.result.now in
    let counted = sides_counted program c.module-written.ensures.checked c.in_ok-growing.growing.items c.in_ok-growing.ensures rules c.rules.ensures.numbered in
    IfOk-weaker c.side_count.result (λ (sides : ℕ). sides ≡ length (rules_sides c.deref.result.now rules)) (λ (sides : ℕ). sides ≡ length (module_sides program.form))
    (λ sides is. is ∙ ap (λ (growing : List Bool). length (rules_sides growing rules)) c.deref.ensures.value ∙ counted) c.side_count.ensures
