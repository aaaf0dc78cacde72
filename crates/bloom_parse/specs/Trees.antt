-- The grammar: each tree is one way in which the grammar gives a list of terminals.
use Rattle.std.specs.Prelude.{ℕ, zero, suc, ℤ, pos, ◌+◌, ◌≤◌, ◌≤ℤ◌, List, [], ◌∷◌, ◌++◌, map}
use Rattle.std.specs.List.{All, flat_map}
use Rattle.blz_value.specs.declared.test.Op.{Op}
use Rattle.blz_value.specs.declared.test.Op.TheVariants.{Eq, Le}
use Rattle.blz_value.specs.declared.value.Value.TheVariants.{Int, Text}
use Rattle.bloom_forms.specs.declared.expr.Term.{Term}
use Rattle.bloom_forms.specs.declared.expr.Term.TheVariants.{Column, Literal}
use Rattle.bloom_forms.specs.declared.expr.NamedAgg.{NamedAgg}
use Rattle.bloom_forms.specs.declared.expr.NamedAgg.TheVariants.{Count, Sum, Min, Max}
use Rattle.bloom_forms.specs.declared.module.Kind.{Kind}
use Rattle.bloom_forms.specs.declared.module.Kind.TheVariants.{Input, Output, Table, Scratch}
use Rattle.bloom_forms.specs.declared.module.Collection.{Collection}
use Rattle.bloom_forms.specs.Form.{RuleForm, Form}
use Rattle.bloom_forms.specs.Query.{Name, Formula, Query}
use Rattle.bloom_forms.specs.Query.Formula.{compare, both, either, not_so}
use Rattle.bloom_forms.specs.Query.Query.{base, select, project, join, notin, group, at_least}
use Rattle.bloom_parse.specs.declared.lexing.terminal.Terminal.{Terminal}
use Rattle.bloom_parse.specs.declared.lexing.terminal.Terminal.TheVariants as terminals
use Rattle.bloom_parse.specs.declared.lexing.terminal.Word.{Word}
use Rattle.bloom_parse.specs.declared.lexing.terminal.Mark.{Mark}
use Rattle.bloom_parse.specs.declared.lexing.terminal.Word.TheVariants as words
use Rattle.bloom_parse.specs.declared.lexing.terminal.Mark.TheVariants as marks

abbrev pub word : Word → Terminal
word w = terminals.Word w

abbrev pub mark : Mark → Terminal
mark m = terminals.Mark m

-- ---- predicates

mutual
  -- unit = "not" unit | "(" pred ")" | operand op operand
  pub data UnitTree : Type 0 where
    not_tree : UnitTree → UnitTree
    in_parens : OrsTree → UnitTree
    comparison : Term → Op → Term → UnitTree

  -- both = unit { "and" unit }
  pub data AndsTree : Type 0 where
    one_unit : UnitTree → AndsTree
    and_then : AndsTree → UnitTree → AndsTree

  -- pred = both { "or" both }
  pub data OrsTree : Type 0 where
    one_ands : AndsTree → OrsTree
    or_then : OrsTree → AndsTree → OrsTree

-- operand = name | integer | text
abbrev pub term_token : Term → Terminal
term_token (Column n) = terminals.Name n
term_token (Literal (Int i)) = terminals.Integer i
term_token (Literal (Text t)) = terminals.Text t

-- the tokens of a predicate
abbrev mutual
  pub unit_text : UnitTree → List Terminal
  unit_text (UnitTree.not_tree u) = word words.Not ∷ unit_text u
  unit_text (UnitTree.in_parens p) = mark marks.Open ∷ (ors_text p ++ mark marks.Close ∷ [])
  unit_text (UnitTree.comparison l o r) = term_token l ∷ terminals.Sign o ∷ term_token r ∷ []

  pub ands_text : AndsTree → List Terminal
  ands_text (AndsTree.one_unit u) = unit_text u
  ands_text (AndsTree.and_then a u) = ands_text a ++ word words.And ∷ unit_text u

  pub ors_text : OrsTree → List Terminal
  ors_text (OrsTree.one_ands a) = ands_text a
  ors_text (OrsTree.or_then o a) = ors_text o ++ word words.Or ∷ ands_text a

-- what it means; or and and associate to the left
abbrev mutual
  pub unit_formula : UnitTree → Formula
  unit_formula (UnitTree.not_tree u) = not_so (unit_formula u)
  unit_formula (UnitTree.in_parens p) = ors_formula p
  unit_formula (UnitTree.comparison l o r) = compare l o r

  pub ands_formula : AndsTree → Formula
  ands_formula (AndsTree.one_unit u) = unit_formula u
  ands_formula (AndsTree.and_then a u) = both (ands_formula a) (unit_formula u)

  pub ors_formula : OrsTree → Formula
  ors_formula (OrsTree.one_ands a) = ands_formula a
  ors_formula (OrsTree.or_then o a) = either (ors_formula o) (ands_formula a)

-- how many comparisons it has
abbrev mutual
  pub unit_size : UnitTree → ℕ
  unit_size (UnitTree.not_tree u) = unit_size u
  unit_size (UnitTree.in_parens p) = ors_size p
  unit_size (UnitTree.comparison l o r) = 1

  pub ands_size : AndsTree → ℕ
  ands_size (AndsTree.one_unit u) = unit_size u
  ands_size (AndsTree.and_then a u) = ands_size a + unit_size u

  pub ors_size : OrsTree → ℕ
  ors_size (OrsTree.one_ands a) = ands_size a
  ors_size (OrsTree.or_then o a) = ors_size o + ands_size a

-- no more than so many levels are open in it at once
abbrev mutual
  pub UnitFits : ℕ → UnitTree → Type 0
  UnitFits zero (UnitTree.not_tree u) = ⊥
  UnitFits (suc room) (UnitTree.not_tree u) = UnitFits room u
  UnitFits zero (UnitTree.in_parens p) = ⊥
  UnitFits (suc room) (UnitTree.in_parens p) = OrsFit room p
  UnitFits room (UnitTree.comparison l o r) = Unit {0}

  pub AndsFit : ℕ → AndsTree → Type 0
  AndsFit room (AndsTree.one_unit u) = UnitFits room u
  AndsFit room (AndsTree.and_then a u) = AndsFit room a × UnitFits room u

  pub OrsFit : ℕ → OrsTree → Type 0
  OrsFit room (OrsTree.one_ands a) = AndsFit room a
  OrsFit room (OrsTree.or_then o a) = OrsFit room o × AndsFit room a

-- ---- expressions

-- item = name [ "as" name ]
pub data Item : Type 0 where
  plain : Name → Item
  renamed : Name → Name → Item

pub data ExprTree : Type 0 where
  of_base : Name → ExprTree
  of_select : ExprTree → OrsTree → ExprTree
  of_project : ExprTree → Item → List Item → ExprTree
  of_join : ExprTree → ExprTree → List (Name × Name) → ExprTree
  of_notin : ExprTree → ExprTree → List (Name × Name) → ExprTree
  of_group : ExprTree → List Name → NamedAgg → Name → ExprTree
  of_at_least : ExprTree → List Name → ℤ → ExprTree

abbrev pub item_text : Item → List Terminal
item_text (Item.plain n) = terminals.Name n ∷ []
item_text (Item.renamed n m) = terminals.Name n ∷ word words.As ∷ terminals.Name m ∷ []

abbrev pub item_pair : Item → Name × Name
item_pair (Item.plain n) = (n, n)
item_pair (Item.renamed n m) = (n, m)

-- { "," item }
abbrev pub more_items_text : List Item → List Terminal
more_items_text [] = []
more_items_text (i ∷ items) = mark marks.Comma ∷ (item_text i ++ more_items_text items)

-- { "," pair }
abbrev pub more_pairs_text : List (Name × Name) → List Terminal
more_pairs_text [] = []
more_pairs_text (p ∷ pairs) = mark marks.Comma ∷ terminals.Name p.0 ∷ terminals.Sign Eq ∷ terminals.Name p.1 ∷ more_pairs_text pairs

-- { "," name }
abbrev pub more_names_text : List Name → List Terminal
more_names_text [] = []
more_names_text (n ∷ names) = mark marks.Comma ∷ terminals.Name n ∷ more_names_text names

-- keys = "[" [ name { "," name } ] "]"
abbrev pub keys_text : List Name → List Terminal
keys_text [] = mark marks.OpenKeys ∷ mark marks.CloseKeys ∷ []
keys_text (n ∷ names) = mark marks.OpenKeys ∷ terminals.Name n ∷ (more_names_text names ++ mark marks.CloseKeys ∷ [])

-- agg = "count" | ( "sum" | "min" | "max" ) "(" name ")"
abbrev pub agg_text : NamedAgg → List Terminal
agg_text Count = word words.Count ∷ []
agg_text (Sum n) = word words.Sum ∷ mark marks.Open ∷ terminals.Name n ∷ mark marks.Close ∷ []
agg_text (Min n) = word words.Min ∷ mark marks.Open ∷ terminals.Name n ∷ mark marks.Close ∷ []
agg_text (Max n) = word words.Max ∷ mark marks.Open ∷ terminals.Name n ∷ mark marks.Close ∷ []

-- the tokens of an expression
abbrev pub expr_text : ExprTree → List Terminal
expr_text (ExprTree.of_base n) = terminals.Name n ∷ []
expr_text (ExprTree.of_select e p) = word words.Select ∷ mark marks.Open ∷ (expr_text e ++ mark marks.Comma ∷ (ors_text p ++ mark marks.Close ∷ []))
expr_text (ExprTree.of_project e i items) = word words.Project ∷ mark marks.Open ∷ (expr_text e ++ mark marks.Comma ∷ (item_text i ++ (more_items_text items ++ mark marks.Close ∷ [])))
expr_text (ExprTree.of_join a b pairs) = word words.Join ∷ mark marks.Open ∷ (expr_text a ++ mark marks.Comma ∷ (expr_text b ++ (more_pairs_text pairs ++ mark marks.Close ∷ [])))
expr_text (ExprTree.of_notin a b pairs) = word words.NotIn ∷ mark marks.Open ∷ (expr_text a ++ mark marks.Comma ∷ (expr_text b ++ (more_pairs_text pairs ++ mark marks.Close ∷ [])))
expr_text (ExprTree.of_group e keys agg n) = word words.Group ∷ mark marks.Open ∷ (expr_text e ++ mark marks.Comma ∷ (keys_text keys ++ mark marks.Comma ∷ (agg_text agg ++ word words.As ∷ terminals.Name n ∷ mark marks.Close ∷ [])))
expr_text (ExprTree.of_at_least e keys bound) = word words.AtLeast ∷ mark marks.Open ∷ (expr_text e ++ mark marks.Comma ∷ (keys_text keys ++ mark marks.Comma ∷ terminals.Integer bound ∷ mark marks.Close ∷ []))

-- what it means
abbrev pub expr_query : ExprTree → Query
expr_query (ExprTree.of_base n) = base n
expr_query (ExprTree.of_select e p) = select (expr_query e) (ors_formula p)
expr_query (ExprTree.of_project e i items) = project (expr_query e) (map item_pair (i ∷ items))
expr_query (ExprTree.of_join a b pairs) = join (expr_query a) (expr_query b) pairs
expr_query (ExprTree.of_notin a b pairs) = notin (expr_query a) (expr_query b) pairs
expr_query (ExprTree.of_group e keys agg n) = group (expr_query e) keys agg n
expr_query (ExprTree.of_at_least e keys bound) = at_least (expr_query e) keys bound

-- no more than so many levels are open in it at once, each select has at most 32 comparisons, and the integer of each atleast is 1 or more
abbrev pub ExprFits : ℕ → ExprTree → Type 0
ExprFits room (ExprTree.of_base n) = Unit {0}
ExprFits zero (ExprTree.of_select e p) = ⊥
ExprFits (suc room) (ExprTree.of_select e p) = ExprFits room e × OrsFit room p × (ors_size p ≤ 32)
ExprFits zero (ExprTree.of_project e i items) = ⊥
ExprFits (suc room) (ExprTree.of_project e i items) = ExprFits room e
ExprFits zero (ExprTree.of_join a b pairs) = ⊥
ExprFits (suc room) (ExprTree.of_join a b pairs) = ExprFits room a × ExprFits room b
ExprFits zero (ExprTree.of_notin a b pairs) = ⊥
ExprFits (suc room) (ExprTree.of_notin a b pairs) = ExprFits room a × ExprFits room b
ExprFits zero (ExprTree.of_group e keys agg n) = ⊥
ExprFits (suc room) (ExprTree.of_group e keys agg n) = ExprFits room e
ExprFits zero (ExprTree.of_at_least e keys bound) = ⊥
ExprFits (suc room) (ExprTree.of_at_least e keys bound) = ExprFits room e × (pos 1 ≤ℤ bound)

-- ---- modules

-- the word before a collection
abbrev pub kind_word : Kind → Word
kind_word Input = words.Input
kind_word Output = words.Output
kind_word Table = words.Table
kind_word Scratch = words.Scratch

-- collection = ( "input" | "output" | "table" | "scratch" ) name "(" name { "," name } ")" ";"
pub record CollectionTree : Type 0 where
  pub kind : Kind
  pub name : Name
  pub first : Name
  pub more : List Name

abbrev pub collection_text : CollectionTree → List Terminal
collection_text c = word (kind_word c.kind) ∷ terminals.Name c.name ∷ mark marks.Open ∷ terminals.Name c.first ∷ (more_names_text c.more ++ mark marks.Close ∷ mark marks.Semicolon ∷ [])

abbrev pub collection_form : CollectionTree → Collection
collection_form c = record { kind = c.kind; name = c.name; columns = c.first ∷ c.more }

-- rule = name "<=" expr ";"
pub record RuleTree : Type 0 where
  pub head : Name
  pub body : ExprTree

abbrev pub rule_text : RuleTree → List Terminal
rule_text r = terminals.Name r.head ∷ terminals.Sign Le ∷ (expr_text r.body ++ mark marks.Semicolon ∷ [])

abbrev pub tree_rule : RuleTree → RuleForm
tree_rule r = (r.head, expr_query r.body)

-- module = "module" name ";" { collection } { rule }
pub record ModuleTree : Type 0 where
  pub name : Name
  pub collections : List CollectionTree
  pub rules : List RuleTree

abbrev pub module_text : ModuleTree → List Terminal
module_text m = word words.Module ∷ terminals.Name m.name ∷ mark marks.Semicolon ∷ (flat_map collection_text m.collections ++ flat_map rule_text m.rules)

abbrev pub module_form : ModuleTree → Form
module_form m = record { name = m.name; collections = map collection_form m.collections; rules = map tree_rule m.rules }

-- at most 32 levels are open at once in each rule
abbrev pub ModuleFits : ModuleTree → Type 0
ModuleFits m = All (λ r. ExprFits 32 r.body) m.rules
