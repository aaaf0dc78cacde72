-- the names of the components so far
use Rattle.std.proofs.Common.{◌≡◌, ◌++◌, map, take}
use Rattle.topo_forms.specs.View.{component_at}
use Rattle.report_lines.specs.Lines.{word_text}
use Rattle.report_lines.proofs.component.push_component_names.Given as goal

abbrev pub invariant-loop-component : goal.invariant-loop-component
invariant-loop-component l = map word_text l.words.items ≡ map word_text l.initial.words.items ++ map (λ c. (component_at l.report.valid.now.view c).name) (take l.component-index l.components)
