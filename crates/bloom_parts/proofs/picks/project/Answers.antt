use Rattle.std.proofs.Common.{◌∙◌, sym}
use Rattle.std.proofs.lemmas.Result.{on_ok_weaker}
use Rattle.blz_value.specs.Operators.{project_rows}
use Rattle.blz_value.specs.Sets.{set_of}
use Rattle.bloom_parts.proofs.Settling.{turns_settled}
use Rattle.bloom_parts.proofs.Turning.{flagged}
use Rattle.bloom_parts.proofs.picks.project.Goals as goal

pub returns-clause-turned : goal.returns-clause-turned
returns-clause-turned c = λ old new turns wide stands.
    let columns = c.args.columns.now in
    let s = c.in_ok-part.ensures in
    let part = c.in_ok-part.part in
    flagged part.kept c.args.part.kept (set_of (project_rows columns old)) (set_of (project_rows columns new)) c.project_sets.result s.kept
    (c.project_sets.ensures.turned old new (turns_settled c.args.part part s old new turns) wide (λ k. stands (sym s.kept ∙ k)))

pub returns-clause-kept : goal.returns-clause-kept
returns-clause-kept c =
    let s = c.in_ok-part.ensures in
    on_ok_weaker c.project_sets.result (λ k old new turns wide stands is. k old new (turns_settled c.args.part c.in_ok-part.part s old new turns) wide (λ own. stands (sym s.kept ∙ own)) (s.kept ∙ is)) c.project_sets.ensures.kept
