-- What a module has to have so that its text gives it back.
use Rattle.std.specs.Prelude.{◌≢◌, []}
use Rattle.std.specs.List.{AllByRecursion}
use Rattle.bloom_forms.specs.Form.{Form}
use Rattle.bloom_forms.specs.Query.{Query}
use Rattle.bloom_forms.specs.Query.Query.{base, select, project, join, notin, group, at_least}
use Rattle.bloom_parse.specs.Spelling.{IsTerminal}
use Rattle.bloom_parse.specs.Trees.{ModuleFits, module_text}
use Rattle.bloom_parse.specs.Layout.{module_tree}

-- each project has a column
abbrev pub HasItems : Query → Type 0
HasItems (base name) = Unit {0}
HasItems (select q f) = HasItems q
HasItems (project q items) = HasItems q × (items ≢ [])
HasItems (join a b pairs) = HasItems a × HasItems b
HasItems (notin a b pairs) = HasItems a × HasItems b
HasItems (group q keys agg name) = HasItems q
HasItems (at_least q keys bound) = HasItems q

-- its names, numbers and texts are those of terminals, it is within the bounds of the grammar, and each collection and each project has a column
pub record IsPrintable (m : Form) : Type 0 where
  pub terminals : AllByRecursion IsTerminal (module_text (module_tree m))
  pub fits : ModuleFits (module_tree m)
  pub columns : AllByRecursion (λ c. c.columns ≢ []) m.collections
  pub items : AllByRecursion (λ rule. HasItems rule.1) m.rules
