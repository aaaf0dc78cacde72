-- Reading modules.
use Rattle.std.specs.Prelude.{ℕ, List, [], ◌∷◌, length, drop, Option, Some, None, is_some, Result, Ok, Err, Bool}
use Rattle.bloom_forms.specs.declared.module.Kind.{Kind}
use Rattle.bloom_forms.specs.declared.module.Kind.TheVariants.{Input, Output, Table, Scratch}
use Rattle.bloom_forms.specs.declared.module.Collection.{Collection}
use Rattle.bloom_forms.specs.Form.{RuleForm, Form}
use Rattle.bloom_forms.specs.Query.{Name}
use Rattle.bloom_parse.specs.declared.lexing.terminal.Terminal.{Terminal}
use Rattle.bloom_parse.specs.declared.lexing.terminal.Terminal.TheVariants as terminals
use Rattle.bloom_parse.specs.declared.lexing.terminal.Word.TheVariants as words
use Rattle.bloom_parse.specs.declared.lexing.terminal.Mark.TheVariants as marks
use Rattle.bloom_parse.specs.Code.ReadingSingle.{◌>>=◌, mark_at, name_at, arrow_at, module_word_at, has_name}
use Rattle.bloom_parse.specs.Code.ReadingLists.{many_at, names_at}
use Rattle.bloom_parse.specs.Code.ReadingExprs.{expr_at}

-- the kind whose word comes first
abbrev pub kind_at : List Terminal → Option Kind
kind_at (terminals.Word words.Input ∷ rest) = Some Input
kind_at (terminals.Word words.Output ∷ rest) = Some Output
kind_at (terminals.Word words.Table ∷ rest) = Some Table
kind_at (terminals.Word words.Scratch ∷ rest) = Some Scratch
kind_at ts = None

-- whether the word for a kind comes first
abbrev pub has_kind : List Terminal → Bool
has_kind ts = is_some (kind_at ts)

-- the collection with these parts
abbrev pub collection_of : Kind → Name → List Name → Collection
collection_of kind name columns = record { kind = kind; name = name; columns = columns }

-- a collection, behind its first word
unfoldable pub declared_at : Kind → List Terminal → Result (Collection × List Terminal) ℕ
declared_at kind ts = do
  name ← name_at ts
  open_ ← mark_at marks.Open name.1
  first ← name_at open_
  columns ← names_at first.0 first.1
  close ← mark_at marks.Close columns.1
  after ← mark_at marks.Semicolon close
  Ok (collection_of kind name.0 columns.0, after)

-- a collection by the kind whose word comes first
abbrev pub by_kind : Option Kind → List Terminal → Result (Collection × List Terminal) ℕ
by_kind (Some kind) ts = declared_at kind (drop 1 ts)
by_kind None ts = Err (length ts)

-- a collection
unfoldable pub collection_at : List Terminal → Result (Collection × List Terminal) ℕ
collection_at ts = by_kind (kind_at ts) ts

-- name "<=" expr ";"
unfoldable pub rule_at : List Terminal → Result (RuleForm × List Terminal) ℕ
rule_at ts = do
  head ← name_at ts
  arrow ← arrow_at head.1
  body ← expr_at 32 arrow
  after ← mark_at marks.Semicolon body.1
  Ok ((head.0, body.0), after)

-- { collection }
abbrev pub collections_at : List Terminal → Result (List Collection × List Terminal) ℕ
collections_at ts = many_at has_kind collection_at (length ts) ts

-- { rule }
abbrev pub rules_at : List Terminal → Result (List RuleForm × List Terminal) ℕ
rules_at ts = many_at has_name rule_at (length ts) ts

-- the end of the text
abbrev pub end_at : List Terminal → Result (List Terminal) ℕ
end_at [] = Err 0
end_at (terminals.End ∷ []) = Ok []
end_at (terminals.End ∷ t ∷ rest) = Err (length (t ∷ rest))
end_at (t ∷ rest) = Err (length (t ∷ rest))

-- the module with these parts
abbrev pub form_from : Name → List Collection → List RuleForm → Form
form_from name collections rules = record { name = name; collections = collections; rules = rules }

-- the module of a whole text
unfoldable pub module_at : List Terminal → Result Form ℕ
module_at ts = do
  word ← module_word_at ts
  name ← name_at word
  behind ← mark_at marks.Semicolon name.1
  collections ← collections_at behind
  rules ← rules_at collections.1
  after ← end_at rules.1
  Ok (form_from name.0 collections.0 rules.0)
