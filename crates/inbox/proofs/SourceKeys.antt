-- The key values of the records of a source, one record after the other.
use Rattle.std.proofs.Common.{◌≡◌, ◌<◌, ◌+◌, ℕ, List, [], ◌∷◌, ◌++◌, length, map, take, get_or, ap, ◌∙◌, sym, append_assoc}
use Rattle.std.specs.BTreeSet.{insert_key}
use Rattle.std.proofs.lemmas.List.{map-append, take_more}
use Rattle.blz_value.specs.Operators.{cells}
use Rattle.blz_value.specs.Record.{Row, record_cmp}
use Rattle.blz_value.specs.Sets.{set_of}
use Rattle.blz_value.proofs.RowSets.{set_of-push}

pub key_more : (columns : List ℕ) (rows : List Row) (i : ℕ) (r key : Row) (old new : List Row) → i < length rows → r ≡ get_or rows i r → key ≡ cells columns r
    → old ≡ set_of (map (cells columns) (take i rows)) → new ≡ insert_key record_cmp old key → new ≡ set_of (map (cells columns) (take (i + 1) rows))
key_more columns rows i r key old new within at is before next =
    let front : List Row = map (cells columns) (take i rows) in
    next
    ∙ ap (λ (l : List Row). insert_key record_cmp l key) before
    ∙ ap (λ (k : Row). insert_key record_cmp (set_of front) k) is
    ∙ sym (set_of-push (cells columns r) front)
    ∙ ap set_of (sym (map-append (cells columns) (take i rows) (r ∷ [])) ∙ ap (map (cells columns)) (ap (λ (x : Row). take i rows ++ x ∷ []) at ∙ sym (take_more rows i r within)))

pub part_more : (own parts : List Row) (i : ℕ) (part key : Row) (old new : List Row) → i < length parts → part ≡ get_or parts i part → key ≡ part
    → old ≡ set_of (own ++ take i parts) → new ≡ insert_key record_cmp old key → new ≡ set_of (own ++ take (i + 1) parts)
part_more own parts i part key old new within at is before next =
    next
    ∙ ap (λ (l : List Row). insert_key record_cmp l key) before
    ∙ ap (λ (k : Row). insert_key record_cmp (set_of (own ++ take i parts)) k) is
    ∙ sym (set_of-push part (own ++ take i parts))
    ∙ ap set_of (append_assoc own (take i parts) (part ∷ []) ∙ ap (λ (l : List Row). own ++ l) (ap (λ (x : Row). take i parts ++ x ∷ []) at ∙ sym (take_more parts i part within)))
