-- Each row of an expression is a copy of a row of a collection that the expression names.
use Rattle.std.proofs.Common.{ℕ, not, List, [], ◌∷◌, ◌++◌, length, filter, map, subst, inl, refl, None}
use Rattle.std.specs.Prelude.{nat_le}
use Rattle.std.specs.List.{list_any}
use Rattle.blz_value.specs.Groups.{aggregate, with_key, group_rows, at_least_rows}
use Rattle.blz_value.specs.Members.{Has}
use Rattle.blz_value.specs.Operators.{cells, unpaired, agree, joined, select_rows, project_rows, join_rows, notin_rows}
use Rattle.blz_value.specs.Record.{Row}
use Rattle.blz_value.proofs.Membership.{Has-append_left, Has-from_filter, Has-from_map, Has-from_flat_map}
use Rattle.blz_value.proofs.SetLaws.{Has-from_set_of}
use Rattle.bloom_forms.specs.Columns.{columns_of, pair_numbers}
use Rattle.bloom_forms.specs.Equations.{Env}
use Rattle.bloom_forms.specs.Heads.{names_of}
use Rattle.bloom_forms.specs.Query.{Name, Query}
use Rattle.bloom_forms.specs.Query.Query.{base, select, project, join, notin, group, at_least}
use Rattle.bloom_forms.specs.Rows.{formula_holds, item_numbers, column_numbers, numbered_agg, row_bound, rows_of}
use Rattle.bloom_forms.specs.Roots.{Roots, roots_at, joined_roots, roots_of}
use Rattle.bloom_forms.proofs.Copies.Copying.{AreCopies, IsFull, copies-self, copies-trans, copies-more, full-more, copies-cells, full-cells, rootless-none, keeps-append, keeps-joined}

-- a row with roots is a copy of a row of one of the collections of these names
pub record IsCopied (env : Env) (roots : Name → Roots) (read : List Name) (given : Roots) (row : Row) : Type 0 where
  pub name : Name
  pub named : Has name read
  pub source : Row
  pub stands : Has source (env name)
  pub are : AreCopies (roots name) source given row
  pub full : IsFull given row

module _ (columns : Name → List Name) (env : Env) (roots : Name → Roots) where
  -- the rows of these collections have all columns with roots
  abbrev pub AreFull : List Name → Type 0
  AreFull read = (name : Name) → Has name read → (row : Row) → Has row (env name) → IsFull (roots name) row

  -- a copy of a copy
  copied_on : (read more : List Name) (given other : Roots) (row copy : Row) → IsCopied env roots read given row → ((name : Name) → Has name read → Has name more) → AreCopies given row other copy → IsFull other copy → IsCopied env roots more other copy
  copied_on read more given other row copy copied inside are full = record {
    name = copied.name;
    named = inside copied.name copied.named;
    source = copied.source;
    stands = copied.stands;
    are = copies-trans (roots copied.name) copied.source given row other copy copied.are are;
    full = full;
  }

  -- the columns with these numbers
  copied_cells : (read : List Name) (given : Roots) (row : Row) (numbers : List ℕ) → IsCopied env roots read given row → IsCopied env roots read (roots_at given numbers) (cells numbers row)
  copied_cells read given row numbers copied = copied_on read read given (roots_at given numbers) row (cells numbers row) copied (λ name h. h) (copies-cells given row numbers) (full-cells given row numbers)

  pub copied : (q : Query) → AreFull (names_of q) → (row : Row) → Has row (rows_of columns env q) → IsCopied env roots (names_of q) (roots_of columns roots q) row
  copied (base name) full row h = record { name = name; named = inl refl; source = row; stands = h; are = copies-self (roots name) row; full = full name (inl refl) row h }
  copied (select q f) full row h = copied q full row (Has-from_filter (formula_holds (columns_of columns q) f) row (rows_of columns env q) (Has-from_set_of row (select_rows (formula_holds (columns_of columns q) f) (rows_of columns env q)) h)).0
  copied (project q items) full row h =
      let numbers = item_numbers (columns_of columns q) items in
      let m = Has-from_map (cells numbers) row (rows_of columns env q) (Has-from_set_of row (project_rows numbers (rows_of columns env q)) h) in
      subst (λ (r : Row). IsCopied env roots (names_of q) (roots_at (roots_of columns roots q) numbers) r) m.2 (copied_cells (names_of q) (roots_of columns roots q) m.0 numbers (copied q full m.0 m.1))
  copied (join a b pairs) full row h =
      let numbers = pair_numbers (columns_of columns a) (columns_of columns b) pairs in
      let lefts = rows_of columns env a in
      let rights = rows_of columns env b in
      let left = roots_of columns roots a in
      let both = joined_roots numbers left (roots_of columns roots b) in
      let m = Has-from_flat_map (λ (l : Row). map (joined numbers l) (filter (agree numbers l) rights)) row lefts (Has-from_set_of row (join_rows numbers lefts rights) h) in
      let n = Has-from_map (joined numbers m.0) row (filter (agree numbers m.0) rights) m.2 in
      let inside : (name : Name) → Has name (names_of a) → Has name (names_of a ++ names_of b) = λ name g. Has-append_left name (names_of a) (names_of b) g in
      let part : IsCopied env roots (names_of a) left m.0 = copied a (λ name g. full name (inside name g)) m.0 m.1 in
      let keeps = keeps-joined numbers left (roots_of columns roots b) in
      subst (λ (r : Row). IsCopied env roots (names_of a ++ names_of b) both r) n.2
      (copied_on (names_of a) (names_of a ++ names_of b) left both m.0 (joined numbers m.0 n.0) part inside (copies-more left both m.0 (unpaired numbers n.0) part.full keeps) (full-more left both m.0 (unpaired numbers n.0) part.full keeps))
  copied (notin a b pairs) full row h =
      let numbers = pair_numbers (columns_of columns a) (columns_of columns b) pairs in
      let given = roots_of columns roots a in
      let inside : (name : Name) → Has name (names_of a) → Has name (names_of a ++ names_of b) = λ name g. Has-append_left name (names_of a) (names_of b) g in
      let left = (Has-from_filter (λ (l : Row). not (list_any (agree numbers l) (rows_of columns env b))) row (rows_of columns env a) (Has-from_set_of row (notin_rows numbers (rows_of columns env a) (rows_of columns env b)) h)).0 in
      let part : IsCopied env roots (names_of a) given row = copied a (λ name g. full name (inside name g)) row left in
      copied_on (names_of a) (names_of a ++ names_of b) given given row row part inside (copies-self given row) part.full
  copied (group q keys agg name) full row h =
      let numbers = column_numbers (columns_of columns q) keys in
      let by_number = numbered_agg (columns_of columns q) agg in
      let rows = rows_of columns env q in
      let given = roots_at (roots_of columns roots q) numbers in
      let with_value : Row → Row = λ (key : Row). key ++ aggregate by_number (with_key numbers key rows) ∷ [] in
      let m = Has-from_map with_value row (project_rows numbers rows) (Has-from_set_of row (group_rows numbers by_number rows) h) in
      let n = Has-from_map (cells numbers) m.0 rows m.1 in
      let key : IsCopied env roots (names_of q) given m.0 = subst (λ (r : Row). IsCopied env roots (names_of q) given r) n.2 (copied_cells (names_of q) (roots_of columns roots q) n.0 numbers (copied q full n.0 n.1)) in
      let value = aggregate by_number (with_key numbers m.0 rows) ∷ [] in
      let keeps = keeps-append given given (None ∷ []) (λ number attribute is. is) (rootless-none (name ∷ [])) in
      subst (λ (r : Row). IsCopied env roots (names_of q) (given ++ None ∷ []) r) m.2
      (copied_on (names_of q) (names_of q) given (given ++ None ∷ []) m.0 (m.0 ++ value) key (λ n g. g) (copies-more given (given ++ None ∷ []) m.0 value key.full keeps) (full-more given (given ++ None ∷ []) m.0 value key.full keeps))
  copied (at_least q keys bound) full row h =
      let numbers = column_numbers (columns_of columns q) keys in
      let rows = rows_of columns env q in
      let m = (Has-from_filter (λ (key : Row). nat_le (row_bound bound) (length (with_key numbers key rows))) row (project_rows numbers rows) (Has-from_set_of row (at_least_rows numbers (row_bound bound) rows) h)).0 in
      let n = Has-from_map (cells numbers) row rows m in
      subst (λ (r : Row). IsCopied env roots (names_of q) (roots_at (roots_of columns roots q) numbers) r) n.2 (copied_cells (names_of q) (roots_of columns roots q) n.0 numbers (copied q full n.0 n.1))
