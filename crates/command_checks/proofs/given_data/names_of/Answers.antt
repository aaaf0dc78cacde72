use Rattle.std.proofs.Common.{ℕ, List, [], map, get_or, ap, ◌∙◌}
use Rattle.command_checks.proofs.given_data.names_of.Goals as goal

pub returns : goal.returns
returns c =
    c.from_vec.ensures ∙ c.in_ok-held.ensures
    ∙ ap (λ (attributes : List ℕ). map (λ attribute. get_or c.args.names.now attribute []) attributes) (c.deref.ensures.value ∙ c.in_ok-members.ensures)
