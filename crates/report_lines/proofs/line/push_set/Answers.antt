-- The names are those at the members of the set.
use Rattle.std.proofs.Common.{◌≡◌, ◌++◌, ℕ, List, [], OnOk, map, get_or, ap, subst, ◌∙◌}
use Rattle.topo_forms.specs.Modes.{names_in}
use Rattle.report_lines.specs.Lines.{shown}
use Rattle.report_lines.specs.Words.{Text, names_text, set_text}
use Rattle.report_lines.proofs.line.push_set.Goals as goal

pub returns : goal.returns
unfolding set_text
returns c =
    let held : shown c.deref-2.result.now ≡ names_in c.args.names.now c.args.set.bits =
    ap shown c.deref-2.ensures.value ∙ c.in_ok-held.ensures
    ∙ ap (λ (attributes : List ℕ). map (λ attribute. get_or c.args.names.now attribute []) attributes) (c.deref.ensures.value ∙ c.in_ok-members.ensures) in
    subst (λ (names : List Text). OnOk c.push_names.result (c.push_names.new.into.items ≡ c.args.into.now.items ++ names_text names)) held c.push_names.ensures
