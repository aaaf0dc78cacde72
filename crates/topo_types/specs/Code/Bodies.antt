-- What is found of a component's body.
use Rattle.std.specs.Prelude.{ℕ, ◌≡◌, List, map}
use Rattle.std.specs.Option.{option_map}
use Rattle.blz_value.specs.declared.attrs.Attrs.{Attrs}
use Rattle.bloom_forms.specs.Query.{Name}
use Rattle.bloom_forms.specs.Annotation.{notes_of}
use Rattle.path_annotate.specs.Outputs.{roots_of_outputs, gates_of_outputs}
use Rattle.topo_types.specs.declared.view.components.BodyFacts.{BodyFacts}
use Rattle.topo_forms.specs.Sites.{Site}

-- gates as sets of attributes
abbrev pub gates_seen : List Attrs → List ℕ
gates_seen gates = map (λ gate. gate.bits) gates

-- they are those of the program, where there is one
pub record AreFound (names : List Name) (site : Site) (found : BodyFacts) : Type 0 where
  pub notes : found.notes ≡ option_map (notes_of names) site.program
  pub roots : found.roots ≡ option_map (roots_of_outputs names) site.program
  pub gates : option_map gates_seen found.gates ≡ option_map (gates_of_outputs names) site.program
