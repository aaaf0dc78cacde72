-- What is emitted of a source, its records and then a seal of each partition, is what the source emits.
use Rattle.std.proofs.Common.{◌≡◌, ◌≤◌, ◌*◌, ◌||◌, ℕ, Bool, true, false, not, Option, None, Some, List, [], ◌∷◌, ◌++◌, length, map, filter, refl, ap, ◌∙◌, sym, subst, inl, inr, arith, append-nil, append_assoc, length-append}
use Rattle.std.specs.Prelude.{if◌then◌else◌}
use Rattle.std.specs.List.{list_any}
use Rattle.std.proofs.lemmas.Bool.{cases_Bool}
use Rattle.std.proofs.lemmas.List.{map-append, length-map}
use Rattle.blz_value.specs.Members.{Has}
use Rattle.blz_value.specs.Operators.{cells}
use Rattle.blz_value.specs.Record.{Row}
use Rattle.blz_value.specs.Sets.{set_of}
use Rattle.blz_value.proofs.Membership.{Has-filter, Has-from_any, any_from_Has}
use Rattle.blz_value.proofs.RowSets.{length-set_of-le}
use Rattle.blz_value.specs.declared.attrs.Attrs.{Attrs}
use Rattle.blz_value.proofs.Booleans.{same_truth}
use Rattle.topo_forms.specs.Data.{SourceData, key_places, rows_with_key}
use Rattle.topo_forms.specs.Messages.{row, seal, is_same_row, distinct_rows, rows_in, partitions, source_seals, source_messages}
use Rattle.topo_forms.specs.View.{Stream}
use Rattle.inbox.specs.Emission.{with_row, with_rows}
use Rattle.messages.specs.Emitted.{has_seal}
use Rattle.messages.specs.Messages.{is_same_message, sealed_in}
use Rattle.messages.proofs.MessagesLemmas.{is_same_row-is, is_same_row-itself}
use Rattle.topo_forms.specs.DataCounts.{count_of}
use Rattle.topo_forms.proofs.DistinctRows.{no_more_rows}
use Rattle.topo_forms.proofs.DistinctRows.{is_among, distinct_rows-more, Has-from_distinct}
use Rattle.messages.specs.EmittedCounts.{seals_of}

-- ---- records

no_key_sealed : (rows : List Row) → sealed_in (map row rows) ≡ []
no_key_sealed [] = refl
no_key_sealed (r ∷ rows) = no_key_sealed rows

-- no partition has a seal among records
pub no_seal : (rows : List Row) (key : Row) → has_seal (map row rows) key ≡ false
no_seal rows key = ap (list_any (is_same_row key)) (no_key_sealed rows)

-- each record of a list is one of the distinct ones
Has-distinct : (q : Row) (xs : List Row) → Has q xs → Has q (distinct_rows xs)
Has-distinct q [] h = h
Has-distinct q (x ∷ xs) (inl e) = inl e
Has-distinct q (x ∷ xs) (inr h) = elim (cases_Bool (is_same_row x q)) [
  | inl same ↦ inl (is_same_row-is x q same)
  | inr other ↦ inr (Has-filter (λ y. not (is_same_row x y)) q (distinct_rows xs) (Has-distinct q xs h) (ap not other))
]

any_row : (y : Row) (rows : List Row) → list_any (is_same_message (row y)) (map row rows) ≡ list_any (is_same_row y) rows
any_row y [] = refl
any_row y (x ∷ rows) = ap (λ b. is_same_row y x || b) (any_row y rows)

known_row : (y : Row) (xs : List Row) → list_any (is_same_row y) (distinct_rows xs) ≡ is_among xs y
known_row y xs =
    same_truth (list_any (is_same_row y) (distinct_rows xs)) (is_among xs y)
    (λ e.
    let m = Has-from_any (is_same_row y) (distinct_rows xs) e in
    let same : y ≡ m.0 = is_same_row-is y m.0 m.2 in
    any_from_Has (λ z. is_same_row z y) m.0 xs (Has-from_distinct m.0 xs m.1) (subst (λ z. is_same_row m.0 z ≡ true) (sym same) (is_same_row-itself m.0)))
    (λ e.
    let m = Has-from_any (λ z. is_same_row z y) xs e in
    let same : m.0 ≡ y = is_same_row-is m.0 y m.2 in
    any_from_Has (is_same_row y) m.0 (distinct_rows xs) (Has-distinct m.0 xs m.1) (subst (λ z. is_same_row y z ≡ true) (sym same) (is_same_row-itself y)))

one_row : (xs : List Row) (y : Row) → with_row (map row (distinct_rows xs)) y ≡ map row (distinct_rows (xs ++ y ∷ []))
one_row xs y =
    ap (λ b. if b then map row (distinct_rows xs) else map row (distinct_rows xs) ++ row y ∷ []) (any_row y (distinct_rows xs) ∙ known_row y xs)
    ∙ go (is_among xs y)
    ∙ sym (ap (map row) (distinct_rows-more xs y))
  where
    go : (b : Bool) → (if b then map row (distinct_rows xs) else map row (distinct_rows xs) ++ row y ∷ []) ≡ map row (distinct_rows xs ++ (if b then [] else y ∷ []))
    go true = sym (ap (map row) (append-nil (distinct_rows xs)))
    go false = sym (map-append row (distinct_rows xs) (y ∷ []))

rows_from : (xs ys : List Row) → with_rows (map row (distinct_rows xs)) ys ≡ map row (distinct_rows (xs ++ ys))
rows_from xs [] = ap (λ l. map row (distinct_rows l)) (sym (append-nil xs))
rows_from xs (y ∷ ys) =
    ap (λ l. with_rows l ys) (one_row xs y)
    ∙ rows_from (xs ++ y ∷ []) ys
    ∙ ap (λ l. map row (distinct_rows l)) (append_assoc xs (y ∷ []) ys)

-- the records of a source, each once
pub all_rows : (rows : List Row) → with_rows [] rows ≡ map row (distinct_rows rows)
all_rows rows = rows_from [] rows

pub rows_of : (rows : List Row) → rows_in (map row rows) ≡ rows
rows_of [] = refl
rows_of (r ∷ rows) = ap (λ l. r ∷ l) (rows_of rows)

-- ---- seals

-- the seals behind the records
pub all_messages_are : (line : Stream) (d : SourceData) (key : Attrs) (columns : List ℕ) (keys : List Row) → line.key ≡ Some key → columns ≡ key_places line.columns key.bits → keys ≡ set_of (map (cells columns) d.rows ++ d.parts)
    → map row (distinct_rows d.rows) ++ seals_of columns (map row (distinct_rows d.rows)) keys ≡ source_messages line d
all_messages_are line d key columns keys own at are =
    let rows : List Row = distinct_rows d.rows in
    ap (λ (cs : List ℕ). map row rows ++ seals_of cs (map row rows) keys) at
    ∙ ap (λ (l : List Row). map row rows ++ map (λ k. seal k (length (filter (λ r. is_same_row (cells (key_places line.columns key.bits) r) k) l))) keys) (rows_of rows)
    ∙ ap (λ (l : List Row). map row rows ++ map (λ k. seal k (length (rows_with_key line.columns key.bits k rows))) l) (are ∙ ap (λ (cs : List ℕ). set_of (map (cells cs) d.rows ++ d.parts)) at)
    ∙ ap (λ o. map row rows ++ source_seals line.columns o d) (sym own)

-- the partitions, by the columns and the lists from which they are read
pub keys_are : (columns : List ℕ) (rows parts keys : List Row) (d : SourceData) → rows ≡ d.rows → parts ≡ d.parts → keys ≡ set_of (map (cells columns) rows ++ parts) → keys ≡ set_of (map (cells columns) d.rows ++ d.parts)
keys_are columns rows parts keys d same_rows same_parts are = are ∙ ap (λ (l : List Row). set_of (map (cells columns) l ++ parts)) same_rows ∙ ap (λ (l : List Row). set_of (map (cells columns) d.rows ++ l)) same_parts

-- ---- sizes

pub few_rows : (rows : List Row) → length (map row (distinct_rows rows)) ≤ length rows
few_rows rows = omega (arith, length-map (distinct_rows rows) row, no_more_rows rows)

-- there are no more partitions than records and parts
pub few_keys : (columns : List ℕ) (keys : List Row) (d : SourceData) → keys ≡ set_of (map (cells columns) d.rows ++ d.parts) → length keys ≤ count_of d
few_keys columns keys d are =
    omega (arith, ap length are, length-set_of-le (map (cells columns) d.rows ++ d.parts), length-append (map (cells columns) d.rows) d.parts, length-map d.rows (cells columns))

few_seals : (line : Stream) (d : SourceData) (o : Option Attrs) → length (source_seals line.columns o d) ≤ count_of d
few_seals line d None = omega arith
few_seals line d (Some key) =
    omega (arith, length-map (partitions line.columns key.bits d) (λ value. seal value (length (rows_with_key line.columns key.bits value (distinct_rows d.rows)))), few_keys (key_places line.columns key.bits) (partitions line.columns key.bits d) d refl)

pub few_messages : (line : Stream) (d : SourceData) → length (source_messages line d) ≤ 2 * count_of d
few_messages line d = omega (arith, length-append (map row (distinct_rows d.rows)) (source_seals line.columns line.key d), few_rows d.rows, few_seals line d line.key)
