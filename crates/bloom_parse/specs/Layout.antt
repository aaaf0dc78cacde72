-- How a module is printed: the tokens of its tree, each with the white space that belongs to it.
use Rattle.std.specs.Prelude.{ℕ, if◌then◌else◌, List, [], ◌∷◌, ◌++◌, map, drop, codes}
use Rattle.std.specs.List.{flat_map}
use Rattle.std.specs.Str.{bytes_eq}
use Rattle.bloom_forms.specs.declared.module.Collection.{Collection}
use Rattle.bloom_forms.specs.Form.{RuleForm, Form}
use Rattle.bloom_forms.specs.Query.{Name, Formula, Query}
use Rattle.bloom_forms.specs.Query.Formula.{compare, both, either, not_so}
use Rattle.bloom_forms.specs.Query.Query.{base, select, project, join, notin, group, at_least}
use Rattle.bloom_parse.specs.declared.lexing.terminal.Terminal.{Terminal}
use Rattle.bloom_parse.specs.declared.lexing.terminal.Terminal.TheVariants as terminals
use Rattle.bloom_parse.specs.declared.lexing.terminal.Word.TheVariants as words
use Rattle.bloom_parse.specs.declared.lexing.terminal.Mark.TheVariants as marks
use Rattle.bloom_parse.specs.Spelling.{spelled}
use Rattle.bloom_parse.specs.Trees.{UnitTree, AndsTree, OrsTree, Item, ExprTree, CollectionTree, RuleTree, ModuleTree, module_text}

-- ---- white space

-- one space before `as`, `and`, `or` and an operator
abbrev pub before : Terminal → List ℕ
before (terminals.Word words.As) = codes " "
before (terminals.Word words.And) = codes " "
before (terminals.Word words.Or) = codes " "
before (terminals.Sign op) = codes " "
before t = []

-- one space behind these too, behind a comma, `module`, `not` and the word that begins a declaration; and the line ends behind a semicolon
abbrev pub behind : Terminal → List ℕ
behind (terminals.Word words.As) = codes " "
behind (terminals.Word words.And) = codes " "
behind (terminals.Word words.Or) = codes " "
behind (terminals.Sign op) = codes " "
behind (terminals.Mark marks.Comma) = codes " "
behind (terminals.Word words.Module) = codes " "
behind (terminals.Word words.Not) = codes " "
behind (terminals.Word words.Input) = codes " "
behind (terminals.Word words.Output) = codes " "
behind (terminals.Word words.Table) = codes " "
behind (terminals.Word words.Scratch) = codes " "
behind (terminals.Mark marks.Semicolon) = 10 ∷ []
behind t = []

abbrev pub laid : Terminal → List ℕ
laid t = before t ++ (spelled t ++ behind t)

-- the terminals, one after another
abbrev pub text_of : List Terminal → List ℕ
text_of ts = flat_map laid ts

-- ---- the tree of a predicate, with the parentheses that the grammar needs

-- one predicate as each of the three sorts of trees
pub record Levels : Type 0 where
  pub ors : OrsTree
  pub ands : AndsTree
  pub unit : UnitTree

abbrev pub from_unit : UnitTree → Levels
from_unit u = record { ors = OrsTree.one_ands (AndsTree.one_unit u); ands = AndsTree.one_unit u; unit = u }

abbrev pub from_ands : AndsTree → Levels
from_ands a = record { ors = OrsTree.one_ands a; ands = a; unit = UnitTree.in_parens (OrsTree.one_ands a) }

abbrev pub from_ors : OrsTree → Levels
from_ors o = record { ors = o; ands = AndsTree.one_unit (UnitTree.in_parens o); unit = UnitTree.in_parens o }

-- what stands on the left of `or` and `and` needs none, since they associate to the left
abbrev pub levels : Formula → Levels
levels (compare l o r) = from_unit (UnitTree.comparison l o r)
levels (not_so f) = from_unit (UnitTree.not_tree (levels f).unit)
levels (both f g) = from_ands (AndsTree.and_then (levels f).ands (levels g).unit)
levels (either f g) = from_ors (OrsTree.or_then (levels f).ors (levels g).ands)

-- ---- the tree of a module

-- `as` only where the two names differ
abbrev pub item_of : Name × Name → Item
item_of pair = if bytes_eq pair.0 pair.1 then Item.plain pair.0 else Item.renamed pair.0 pair.1

abbrev pub project_tree : ExprTree → List (Name × Name) → ExprTree
project_tree e [] = ExprTree.of_project e (Item.plain []) []
project_tree e (pair ∷ pairs) = ExprTree.of_project e (item_of pair) (map item_of pairs)

abbrev pub tree_of : Query → ExprTree
tree_of (base name) = ExprTree.of_base name
tree_of (select q f) = ExprTree.of_select (tree_of q) (levels f).ors
tree_of (project q items) = project_tree (tree_of q) items
tree_of (join a b pairs) = ExprTree.of_join (tree_of a) (tree_of b) pairs
tree_of (notin a b pairs) = ExprTree.of_notin (tree_of a) (tree_of b) pairs
tree_of (group q keys agg name) = ExprTree.of_group (tree_of q) keys agg name
tree_of (at_least q keys bound) = ExprTree.of_at_least (tree_of q) keys bound

abbrev pub first_name : List Name → Name
first_name [] = []
first_name (name ∷ names) = name

abbrev pub collection_tree : Collection → CollectionTree
collection_tree c = record { kind = c.kind; name = c.name; first = first_name c.columns; more = drop 1 c.columns }

abbrev pub rule_tree : RuleForm → RuleTree
rule_tree rule = record { head = rule.0; body = tree_of rule.1 }

abbrev pub module_tree : Form → ModuleTree
module_tree m = record { name = m.name; collections = map collection_tree m.collections; rules = map rule_tree m.rules }

-- the text of a module
abbrev pub printed : Form → List ℕ
printed m = text_of (module_text (module_tree m))
