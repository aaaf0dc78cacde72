-- Reading expressions.
use Rattle.std.specs.Prelude.{ℕ, zero, suc, List, ◌∷◌, drop, Result, Ok}
use Rattle.bloom_forms.specs.Query.{Name, Query}
use Rattle.bloom_forms.specs.Query.Query.{base, select, project, join, notin, group, at_least}
use Rattle.bloom_parse.specs.declared.lexing.terminal.Terminal.{Terminal}
use Rattle.bloom_parse.specs.declared.lexing.terminal.Terminal.TheVariants as terminals
use Rattle.bloom_parse.specs.declared.lexing.terminal.Word.TheVariants as words
use Rattle.bloom_parse.specs.declared.lexing.terminal.Mark.TheVariants as marks
use Rattle.bloom_parse.specs.declared.reading.expressions.Operator.{Operator}
use Rattle.bloom_parse.specs.declared.reading.expressions.Operator.TheVariants as operators
use Rattle.bloom_parse.specs.Code.ReadingSingle.{◌>>=◌, mark_at, name_at, as_at, bound_at}
use Rattle.bloom_parse.specs.Code.ReadingPredicates.{pred_by, unit_at}
use Rattle.bloom_parse.specs.Code.ReadingLists.{item_at, items_at, pairs_at, keys_at, agg_at}

-- an expression, and what is behind it
abbrev pub ReadQuery : Type 0
ReadQuery = Result (Query × List Terminal) ℕ

-- "(" expr ","
unfoldable pub opened_by : (List Terminal → ReadQuery) → List Terminal → ReadQuery
opened_by inner ts = do
  open_ ← mark_at marks.Open ts
  e ← inner open_
  after ← mark_at marks.Comma e.1
  Ok (e.0, after)

-- a select behind its word
unfoldable pub select_by : (List Terminal → ReadQuery) → ℕ → List Terminal → ReadQuery
select_by inner room ts = do
  e ← opened_by inner ts
  p ← pred_by (unit_at room) 31 e.1
  after ← mark_at marks.Close p.2
  Ok (select e.0 p.0, after)

-- a project behind its word
unfoldable pub project_by : (List Terminal → ReadQuery) → List Terminal → ReadQuery
project_by inner ts = do
  e ← opened_by inner ts
  i ← item_at e.1
  items ← items_at i.0 i.1
  after ← mark_at marks.Close items.1
  Ok (project e.0 items.0, after)

-- two parts and their pairs
unfoldable pub parts_by : (List Terminal → ReadQuery) → List Terminal → Result (Query × Query × List (Name × Name) × List Terminal) ℕ
parts_by inner ts = do
  a ← opened_by inner ts
  b ← inner a.1
  pairs ← pairs_at b.1
  after ← mark_at marks.Close pairs.1
  Ok (a.0, b.0, pairs.0, after)

-- a part, its keys and the comma behind them
unfoldable pub keyed_by : (List Terminal → ReadQuery) → List Terminal → Result (Query × List Name × List Terminal) ℕ
keyed_by inner ts = do
  e ← opened_by inner ts
  keys ← keys_at e.1
  after ← mark_at marks.Comma keys.1
  Ok (e.0, keys.0, after)

-- a group behind its word
unfoldable pub group_by : (List Terminal → ReadQuery) → List Terminal → ReadQuery
group_by inner ts = do
  e ← keyed_by inner ts
  agg ← agg_at e.2
  named ← as_at agg.1
  name ← name_at named
  after ← mark_at marks.Close name.1
  Ok (group e.0 e.1 agg.0 name.0, after)

-- an atleast behind its word
unfoldable pub at_least_by : (List Terminal → ReadQuery) → List Terminal → ReadQuery
at_least_by inner ts = do
  e ← keyed_by inner ts
  bound ← bound_at e.2
  after ← mark_at marks.Close bound.1
  Ok (at_least e.0 e.1 bound.0, after)

-- the word before an expression
abbrev pub operator_of : List Terminal → Operator
operator_of (terminals.Word words.Select ∷ rest) = operators.Select
operator_of (terminals.Word words.Project ∷ rest) = operators.Project
operator_of (terminals.Word words.Join ∷ rest) = operators.Join
operator_of (terminals.Word words.NotIn ∷ rest) = operators.NotIn
operator_of (terminals.Word words.Group ∷ rest) = operators.Group
operator_of (terminals.Word words.AtLeast ∷ rest) = operators.AtLeast
operator_of ts = operators.Plain

-- the name of a collection
abbrev pub base_at : List Terminal → ReadQuery
base_at ts = name_at ts >>= λ n. Ok (base n.0, n.1)

-- an expression by the word before it, where one more level may open
abbrev pub by_operator : (List Terminal → ReadQuery) → ℕ → Operator → List Terminal → ReadQuery
by_operator inner room operators.Select ts = select_by inner room (drop 1 ts)
by_operator inner room operators.Project ts = project_by inner (drop 1 ts)
by_operator inner room operators.Join ts = parts_by inner (drop 1 ts) >>= λ p. Ok (join p.0 p.1 p.2, p.3)
by_operator inner room operators.NotIn ts = parts_by inner (drop 1 ts) >>= λ p. Ok (notin p.0 p.1 p.2, p.3)
by_operator inner room operators.Group ts = group_by inner (drop 1 ts)
by_operator inner room operators.AtLeast ts = at_least_by inner (drop 1 ts)
by_operator inner room operators.Plain ts = base_at ts

-- with so many levels that may still open
unfoldable pub expr_at : ℕ → List Terminal → ReadQuery
expr_at zero ts = base_at ts
expr_at (suc room) ts = by_operator (expr_at room) room (operator_of ts) ts
