-- The distinct records of a list with one more.
use Rattle.std.proofs.Common.{◌≡◌, Bool, true, false, not, ◌||◌, List, [], ◌∷◌, ◌++◌, filter, if◌then◌else◌, refl, ap, sym, ◌∙◌}
use Rattle.std.specs.List.{list_any}
use Rattle.std.proofs.lemmas.List.{append-nil}
use Rattle.blz_value.specs.Record.{Row}
use Rattle.indexmap.specs.IndexSet.{insert_key}
use Rattle.topo_forms.specs.Messages.{is_same_row, distinct_rows}
use Rattle.data_read.specs.Broken.{same}
use Rattle.data_read.proofs.EarliestLemmas.{same-is, same-sym}
use Rattle.topo_forms.proofs.DistinctRows.{is_among, distinct_rows-more}

-- ---- with one more inserted

any_kept : (row x : Row) (zs : List Row) → same row x ≡ false → list_any (same row) (filter (λ z. not (is_same_row x z)) zs) ≡ list_any (same row) zs
any_kept row x [] off = refl
any_kept row x (z ∷ zs) off = go (is_same_row x z) refl (any_kept row x zs off)
  where
    go : (b : Bool) → is_same_row x z ≡ b → list_any (same row) (filter (λ z. not (is_same_row x z)) zs) ≡ list_any (same row) zs
        → list_any (same row) (filter (λ z. not (is_same_row x z)) (z ∷ zs)) ≡ list_any (same row) (z ∷ zs)
    go true e rest = let gone : same row z ≡ false = ap (same row) (sym (same-is x z e)) ∙ off in rw (e, gone) rest
    go false e rest = rw e (ap (λ b. same row z || b) rest)

-- a record stands among the distinct ones where it stands in the list
any_distinct : (row : Row) (rows : List Row) → list_any (same row) (distinct_rows rows) ≡ is_among rows row
any_distinct row [] = refl
any_distinct row (x ∷ xs) = go (same row x) refl (any_distinct row xs)
  where
    go : (b : Bool) → same row x ≡ b → list_any (same row) (distinct_rows xs) ≡ is_among xs row
        → (same row x || list_any (same row) (filter (λ z. not (is_same_row x z)) (distinct_rows xs))) ≡ (is_same_row x row || is_among xs row)
    go true e rest = let other : is_same_row x row ≡ true = same-sym x row ∙ e in rw (e, other) refl
    go false e rest = let other : is_same_row x row ≡ false = same-sym x row ∙ e in rw (e, other) (any_kept row x (distinct_rows xs) e ∙ rest)

pub kept_distinct : (rows : List Row) (row : Row) (old new : List Row) → old ≡ distinct_rows rows → new ≡ insert_key same old row → new ≡ distinct_rows (rows ++ row ∷ [])
kept_distinct rows row old new was is =
    is ∙ ap (λ ks. insert_key same ks row) was ∙ ap (λ b. if b then distinct_rows rows else distinct_rows rows ++ row ∷ []) (any_distinct row rows)
    ∙ turned (is_among rows row) ∙ sym (distinct_rows-more rows row)
  where
    turned : (b : Bool) → (if b then distinct_rows rows else distinct_rows rows ++ row ∷ []) ≡ distinct_rows rows ++ (if b then [] else row ∷ [])
    turned true = sym (append-nil (distinct_rows rows))
    turned false = refl
