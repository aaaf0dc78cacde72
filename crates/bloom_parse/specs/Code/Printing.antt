-- What the printer's functions write.
use Rattle.std.specs.Prelude.{ℤ, Bool, true, false, List, [], ◌∷◌, ◌++◌, map}
use Rattle.bloom_forms.specs.Query.{Name, Formula}
use Rattle.bloom_parse.specs.declared.lexing.terminal.Terminal.{Terminal}
use Rattle.bloom_parse.specs.declared.lexing.terminal.Terminal.TheVariants as terminals
use Rattle.bloom_forms.specs.declared.expr.NamedAgg.{NamedAgg}
use Rattle.bloom_parse.specs.declared.lexing.terminal.Word.TheVariants as words
use Rattle.bloom_parse.specs.declared.lexing.terminal.Mark.TheVariants as marks
use Rattle.bloom_parse.specs.declared.printer.Place.{Place}
use Rattle.bloom_parse.specs.declared.printer.Place.TheVariants.{Whole, Side, Single}
use Rattle.bloom_parse.specs.Trees.{word, mark, keys_text, agg_text, unit_text, ands_text, ors_text, item_text, more_items_text, more_names_text, more_pairs_text}
use Rattle.bloom_parse.specs.Layout.{Levels, item_of, levels}

-- a predicate where it stands
abbrev pub placed : Place → Levels → List Terminal
placed Whole l = ors_text l.ors
placed Side l = ands_text l.ands
placed Single l = unit_text l.unit

-- `and` needs parentheses there
abbrev pub encloses_and : Place → Bool
encloses_and Whole = false
encloses_and Side = false
encloses_and Single = true

-- `or` needs parentheses there
abbrev pub encloses_or : Place → Bool
encloses_or Whole = false
encloses_or Side = true
encloses_or Single = true

-- names that commas divide
abbrev pub names_text : List Name → List Terminal
names_text [] = []
names_text (name ∷ names) = terminals.Name name ∷ more_names_text names

-- items that commas divide
abbrev pub items_text : List (Name × Name) → List Terminal
items_text [] = []
items_text (pair ∷ pairs) = item_text (item_of pair) ++ more_items_text (map item_of pairs)

-- the end of a select, behind its part
abbrev pub test_text : Formula → List Terminal
test_text f = mark marks.Comma ∷ (ors_text (levels f).ors ++ mark marks.Close ∷ [])

-- the end of a project, behind its part
abbrev pub projected_text : List (Name × Name) → List Terminal
projected_text items = mark marks.Comma ∷ (items_text items ++ mark marks.Close ∷ [])

-- the end of a join or a notin, behind its second part
abbrev pub matched_text : List (Name × Name) → List Terminal
matched_text pairs = more_pairs_text pairs ++ mark marks.Close ∷ []

-- the end of a group, behind its part
abbrev pub named_agg_text : List Name → NamedAgg → Name → List Terminal
named_agg_text keys agg name = mark marks.Comma ∷ (keys_text keys ++ mark marks.Comma ∷ (agg_text agg ++ word words.As ∷ terminals.Name name ∷ mark marks.Close ∷ []))

-- the end of an atleast, behind its part
abbrev pub bound_text : List Name → ℤ → List Terminal
bound_text keys bound = mark marks.Comma ∷ (keys_text keys ++ mark marks.Comma ∷ terminals.Integer bound ∷ mark marks.Close ∷ [])
