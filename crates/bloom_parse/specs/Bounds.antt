-- When the text of a rule is within the bounds of the grammar.
use Rattle.std.specs.Prelude.{◌≡◌, ◌≤ℤ◌, ℤ, pos, IsFalse, List}
use Rattle.std.specs.List.{list_any}
use Rattle.bloom_forms.specs.Bounds.{formulas_of, has_long_literal}
use Rattle.bloom_forms.specs.Query.{Query}
use Rattle.bloom_forms.specs.Query.Query.{base, select, project, join, notin, group, at_least}
use Rattle.bloom_parse.specs.declared.lexing.terminal.Terminal.{Terminal}
use Rattle.bloom_parse.specs.Trees.{RuleTree, ExprFits, rule_text}

-- the grammar gives these tokens as a rule: at most 32 levels are open at once, and each select has at most 32 comparisons
pub record IsRuleText (ts : List Terminal) : Type 0 where
  pub tree : RuleTree
  pub fits : ExprFits 32 tree.body
  pub text : rule_text tree ≡ ts

-- no text literal has more than 64 bytes
abbrev pub HasShortLiterals : Query → Type 0
HasShortLiterals q = IsFalse (list_any has_long_literal (formulas_of q))

-- the integer of each atleast is 1 or more
abbrev pub HasPositiveBounds : Query → Type 0
HasPositiveBounds (base name) = Unit {0}
HasPositiveBounds (select q f) = HasPositiveBounds q
HasPositiveBounds (project q items) = HasPositiveBounds q
HasPositiveBounds (join a b pairs) = HasPositiveBounds a × HasPositiveBounds b
HasPositiveBounds (notin a b pairs) = HasPositiveBounds a × HasPositiveBounds b
HasPositiveBounds (group q keys agg name) = HasPositiveBounds q
HasPositiveBounds (at_least q keys bound) = HasPositiveBounds q × (pos 1 ≤ℤ bound)
