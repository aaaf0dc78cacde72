-- The names are those of the region's members.
use Rattle.std.proofs.Common.{◌≡◌, ◌∷◌, ◌++◌, ℕ, List, OnOk, map, codes, ap, subst, ◌∙◌}
use Rattle.topo_forms.specs.Regions.{region_members}
use Rattle.topo_forms.specs.View.{component_at}
use Rattle.report_lines.specs.Lines.{word_text}
use Rattle.report_lines.specs.DeriveText.{cycle_line}
use Rattle.report_lines.specs.Words.{Text, inner_line}
use Rattle.report_lines.specs.declared.line.Word.{Word}
use Rattle.report_lines.proofs.component.push_cycle_line.Goals as goal

pub returns : goal.returns
unfolding cycle_line
returns c =
    let v = c.args.report.now.valid.now.view in
    let members = c.deref.ensures.value ∙ c.in_ok-members.ensures.members in
    let names : map word_text c.deref-2.result.now ≡ codes "cycle" ∷ map (λ m. (component_at v m).name) (region_members v c.args.region) =
    ap (λ (words : List Word). map word_text words) c.deref-2.ensures.value ∙ c.in_ok-push_component_names.ensures
    ∙ (λ i. map word_text (c.in_ok-words.ensures.items i) ++ map (λ m. (component_at v m).name) (members i)) in
    subst (λ (words : List Text). OnOk c.push_inner_line.result (c.push_inner_line.new.into.items ≡ c.args.text.now.items ++ inner_line words)) names c.push_inner_line.ensures
