-- The records of some entries, read in a pool.
use Rattle.std.proofs.Common.{◌≡◌, refl, ap, subst, ◌∙◌, ℕ, ◌<◌, ◌≤◌, ◌==◌, Bool, true, false, cond, List, [], ◌∷◌, ◌++◌, map, filter, length, arith, inl, inr}
use Rattle.std.specs.List.{All}
use Rattle.std.proofs.lemmas.List.{map-append}
use Rattle.std.proofs.lemmas.List.Elements.{filter-append}
use Rattle.blz_value.specs.Members.{Has}
use Rattle.blz_value.specs.Record.{Row}
use Rattle.blz_value.specs.Sets.{set_of}
use Rattle.blz_value.proofs.Membership.{Has-append_cases, Has-append_right, Has-from_map, Has-from_filter, Has-get_or, All-of_member}
use Rattle.blz_value.proofs.RowSets.{same_set_of, length-set_of-append_left, length-set_of-le}
use Rattle.blz_pool.specs.Entries.{EntryId, row_with_id, entry_with_id, entries_with_ids}

-- the records at a port, of one entry more
pub rows_more : (records : List Row) (port : ℕ) (entries : List EntryId) (entry : EntryId)
    → map (λ (e : ℕ × Row). e.1) (filter (λ (e : ℕ × Row). e.0 == port) (entries_with_ids records (entries ++ entry ∷ []))) ≡ map (λ (e : ℕ × Row). e.1) (filter (λ (e : ℕ × Row). e.0 == port) (entries_with_ids records entries)) ++ cond (entry.0 == port) (row_with_id records entry.1 ∷ []) []
rows_more records port entries entry =
    let own : ℕ × Row → Bool = λ e. e.0 == port in
    let last : ℕ × Row = entry_with_id records entry in
    ap (λ l. map (λ (e : ℕ × Row). e.1) (filter own l)) (map-append (entry_with_id records) entries (entry ∷ []))
    ∙ ap (map (λ (e : ℕ × Row). e.1)) (filter-append own (entries_with_ids records entries) (last ∷ []))
    ∙ map-append (λ (e : ℕ × Row). e.1) (filter own (entries_with_ids records entries)) (filter own (last ∷ []))
    ∙ elim (entry.0 == port) as (λ b. map (λ (e : ℕ × Row). e.1) (filter own (entries_with_ids records entries)) ++ map (λ (e : ℕ × Row). e.1) (cond b (last ∷ []) []) ≡ map (λ (e : ℕ × Row). e.1) (filter own (entries_with_ids records entries)) ++ cond b (row_with_id records entry.1 ∷ []) []) [ true ↦ refl | false ↦ refl ]

-- the records of ids of a pool are not more than the pool has
pub few_rows : (records : List Row) (port : ℕ) (entries : List EntryId) → All (λ entry. entry.1 < length records) entries
    → length (set_of (map (λ (e : ℕ × Row). e.1) (filter (λ (e : ℕ × Row). e.0 == port) (entries_with_ids records entries)))) ≤ length records
few_rows records port entries given =
    let rows : List Row = map (λ (e : ℕ × Row). e.1) (filter (λ (e : ℕ × Row). e.0 == port) (entries_with_ids records entries)) in
    let more = length-set_of-append_left rows records in
    let same : set_of (rows ++ records) ≡ set_of records =
    same_set_of (rows ++ records) records (λ q h. elim (Has-append_cases q rows records h) [ inl a ↦ row_in q a | inr b ↦ b ], λ q h. Has-append_right q rows records h) in
    let fewer = length-set_of-le records in
    omega (arith, more, ap (length {A = Row}) same, fewer)
  where
    row_in : (q : Row) → Has q (map (λ (e : ℕ × Row). e.1) (filter (λ (e : ℕ × Row). e.0 == port) (entries_with_ids records entries))) → Has q records
    row_in q h =
        let m = Has-from_map (λ (e : ℕ × Row). e.1) q (filter (λ (e : ℕ × Row). e.0 == port) (entries_with_ids records entries)) h in
        let kept = Has-from_filter (λ (e : ℕ × Row). e.0 == port) m.0 (entries_with_ids records entries) m.1 in
        let from = Has-from_map (entry_with_id records) m.0 entries kept.0 in
        let below : from.0.1 < length records = All-of_member (λ entry. entry.1 < length records) entries from.0 given from.1 in
        subst (λ r. Has r records) (ap (λ (e : ℕ × Row). e.1) from.2 ∙ m.2) (Has-get_or records from.0.1 [] below)
