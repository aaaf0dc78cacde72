-- Reading lists and aggregates.
use Rattle.std.specs.Prelude.{ℕ, zero, suc, List, [], ◌∷◌, ◌++◌, length, drop, Result, Ok, Err, Bool, if◌then◌else◌}
use Rattle.bloom_forms.specs.declared.expr.NamedAgg.{NamedAgg}
use Rattle.bloom_forms.specs.declared.expr.NamedAgg.TheVariants.{Count, Sum, Min, Max}
use Rattle.bloom_forms.specs.Query.{Name}
use Rattle.bloom_parse.specs.declared.lexing.terminal.Terminal.{Terminal}
use Rattle.bloom_parse.specs.declared.lexing.terminal.Terminal.TheVariants as terminals
use Rattle.bloom_parse.specs.declared.lexing.terminal.Word.TheVariants as words
use Rattle.bloom_parse.specs.declared.lexing.terminal.Mark.TheVariants as marks
use Rattle.bloom_parse.specs.declared.reading.lists.Measure.{Measure}
use Rattle.bloom_parse.specs.declared.reading.lists.Measure.TheVariants as measures
use Rattle.bloom_parse.specs.Code.ReadingSingle.{◌>>=◌, mark_at, name_at, equals_at, has_comma, has_close_keys, has_as}

-- { one }, where one begins as starts says
unfoldable pub many_at : {X : Type 0} → (List Terminal → Bool) → (List Terminal → Result (X × List Terminal) ℕ) → ℕ → List Terminal → Result (List X × List Terminal) ℕ
many_at starts one zero ts = Ok ([], ts)
many_at starts one (suc turns) ts = if starts ts then (one ts >>= λ x. many_at starts one turns x.1 >>= λ xs. Ok (x.0 ∷ xs.0, xs.1)) else Ok ([], ts)

-- what is left of a list, behind what was read of it
abbrev pub with_front : {X : Type 0} → List X → Result (List X × List Terminal) ℕ → Result (List X × List Terminal) ℕ
with_front front (Ok x) = Ok (front ++ x.0, x.1)
with_front front (Err n) = Err n

-- behind the first terminal
abbrev pub past : {X : Type 0} → (List Terminal → Result (X × List Terminal) ℕ) → List Terminal → Result (X × List Terminal) ℕ
past one ts = one (drop 1 ts)

-- name [ "as" name ]
unfoldable pub item_at : List Terminal → Result ((Name × Name) × List Terminal) ℕ
item_at ts = name_at ts >>= λ n. if has_as n.1 then (name_at (drop 1 n.1) >>= λ m. Ok ((n.0, m.0), m.1)) else Ok ((n.0, n.0), n.1)

-- name "=" name
unfoldable pub pair_at : List Terminal → Result ((Name × Name) × List Terminal) ℕ
pair_at ts = do
  a ← name_at ts
  behind ← equals_at a.1
  b ← name_at behind
  Ok ((a.0, b.0), b.1)

-- a first item, and { "," item }
abbrev pub items_at : Name × Name → List Terminal → Result (List (Name × Name) × List Terminal) ℕ
items_at first ts = with_front (first ∷ []) (many_at has_comma (past item_at) (length ts) ts)

-- { "," pair }
abbrev pub pairs_at : List Terminal → Result (List (Name × Name) × List Terminal) ℕ
pairs_at ts = many_at has_comma (past pair_at) (length ts) ts

-- a first name, and { "," name }
abbrev pub names_at : Name → List Terminal → Result (List Name × List Terminal) ℕ
names_at first ts = with_front (first ∷ []) (many_at has_comma (past name_at) (length ts) ts)

-- one name or more, and the mark behind them
unfoldable pub key_names_at : List Terminal → Result (List Name × List Terminal) ℕ
key_names_at ts = do
  first ← name_at ts
  names ← names_at first.0 first.1
  after ← mark_at marks.CloseKeys names.1
  Ok (names.0, after)

-- "[" [ name { "," name } ] "]"
unfoldable pub keys_at : List Terminal → Result (List Name × List Terminal) ℕ
keys_at ts = mark_at marks.OpenKeys ts >>= λ o. if has_close_keys o then Ok ([], drop 1 o) else key_names_at o

-- which aggregate begins
abbrev pub measure_of : List Terminal → Measure
measure_of (terminals.Word words.Count ∷ rest) = measures.Count
measure_of (terminals.Word words.Sum ∷ rest) = measures.Sum
measure_of (terminals.Word words.Min ∷ rest) = measures.Min
measure_of (terminals.Word words.Max ∷ rest) = measures.Max
measure_of ts = measures.Other

-- "(" name ")"
unfoldable pub column_at : List Terminal → Result (Name × List Terminal) ℕ
column_at ts = do
  open_ ← mark_at marks.Open ts
  column ← name_at open_
  after ← mark_at marks.Close column.1
  Ok (column.0, after)

-- an aggregate by what it begins with
abbrev pub by_measure : Measure → List Terminal → Result (NamedAgg × List Terminal) ℕ
by_measure measures.Count ts = Ok (Count, drop 1 ts)
by_measure measures.Sum ts = column_at (drop 1 ts) >>= λ c. Ok (Sum c.0, c.1)
by_measure measures.Min ts = column_at (drop 1 ts) >>= λ c. Ok (Min c.0, c.1)
by_measure measures.Max ts = column_at (drop 1 ts) >>= λ c. Ok (Max c.0, c.1)
by_measure measures.Other ts = Err (length ts)

-- an aggregate
abbrev pub agg_at : List Terminal → Result (NamedAgg × List Terminal) ℕ
agg_at ts = by_measure (measure_of ts) ts
