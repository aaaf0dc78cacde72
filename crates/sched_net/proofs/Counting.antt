-- Counts over numbered elements and over messages, and how long lists can be.
use Rattle.std.proofs.Common.{◌≡◌, ◌<◌, ◌≤◌, ◌+◌, ◌*◌, ℕ, suc, Bool, false, cond, eqb, Some, List, [], ◌∷◌, length, map, filter, get_or, slice_get, refl, ap, ◌∙◌, sym, inl, inr, arith}
use Rattle.std.specs.List.{count_by, flat_map, fold, range_with_len, sum_by}
use Rattle.std.specs.Option.{option_map_or}
use Rattle.std.proofs.lemmas.Bool.{eqb-true, ne_eqb}
use Rattle.std.proofs.lemmas.List.{length-append, length-map, get_or-map}
use Rattle.std.proofs.lemmas.List.Sums.{length-filter}
use Rattle.std.proofs.lemmas.Map.Keys.{IsDistinct-from_apart}
use Rattle.std.proofs.lemmas.Map.Steps.{length-le_from_distinct_below}
use Rattle.blz_value.specs.Members.{Has}
use Rattle.blz_value.specs.Record.{Row as Record}
use Rattle.blz_value.proofs.Membership.{Has-get_or, Has-from_any, Has-from_map}
use Rattle.topo_forms.specs.Messages.{row_in, rows_in}
use Rattle.blz_value.specs.NumberSets.{below}
use Rattle.messages.specs.Ids.{message_with_id}
use Rattle.blz_pool.specs.Entries.{EntryId}
use Rattle.messages.specs.Log.{IsLog}
use Rattle.messages.specs.declared.message.Message.{Message as IdMessage}
use Rattle.messages.specs.declared.message.Message.TheVariants.{Row, Seal}
use Rattle.messages.specs.Lists.{read_list}

-- ---- one element by its number, and its record

counts_same : {X : Type 0} (p : ℕ → Bool) (q : X → Bool) (xs : List X) (a n : ℕ) → ((k : ℕ) (x : X) → slice_get xs k ≡ Some x → p (a + k) ≡ q x)
    → fold (λ s k. s + cond (p k) 1 0) n (range_with_len a (length xs)) ≡ fold (λ s x. s + cond (q x) 1 0) n xs
counts_same p q [] a n same = refl
counts_same p q (x ∷ xs) a n same =
    let first : p a ≡ q x = ap p (let e : a ≡ a + 0 = omega arith in e) ∙ same 0 x refl in
    ap (λ t. fold (λ s k. s + cond (p k) 1 0) (n + cond t 1 0) (range_with_len (a + 1) (length xs))) first
    ∙ counts_same p q xs (a + 1) (n + cond (q x) 1 0) (λ k y at. ap p (let e : a + 1 + k ≡ a + suc k = omega arith in e) ∙ same (suc k) y at)

-- the numbers of elements are counted as the elements
pub numbers_counted : {X : Type 0} (p : ℕ → Bool) (q : X → Bool) (xs : List X) → ((k : ℕ) (x : X) → slice_get xs k ≡ Some x → p k ≡ q x) → count_by p (below (length xs)) ≡ length (filter q xs)
numbers_counted p q xs same =
    counts_same p q xs 0 0 (λ k x at. ap p (let e : 0 + k ≡ k = omega arith in e) ∙ same k x at)
    ∙ sym (length-filter q xs)

-- the records of messages are counted as records
pub rows_counted : (p : Record → Bool) (records : List Record) (list : List IdMessage) → count_by (λ m. option_map_or p (row_in (message_with_id records m)) false) list ≡ length (filter p (rows_in (read_list records list)))
rows_counted p records list = go list 0 ∙ sym (length-filter p (rows_in (read_list records list)))
  where
    go : (ms : List IdMessage) (n : ℕ) → fold (λ s m. s + cond (option_map_or p (row_in (message_with_id records m)) false) 1 0) n ms ≡ fold (λ s r. s + cond (p r) 1 0) n (rows_in (read_list records ms))
    go [] n = refl
    go (Row id ∷ ms) n = go ms _
    go (Seal key count ∷ ms) n =
        ap (λ k. fold (λ s m. s + cond (option_map_or p (row_in (message_with_id records m)) false) 1 0) k ms) (let e : n + 0 ≡ n = omega arith in e)
        ∙ go ms n

-- ---- how long lists are

pub length-joined : {X Y : Type 0} (f : X → List Y) (m : ℕ) (xs : List X) → ((x : X) → Has x xs → length (f x) ≤ m) → length (flat_map f xs) ≤ sum_by (λ x. m) xs
length-joined f m xs few = omega (arith, go xs 0 few)
  where
    go : (ys : List _) (n : ℕ) → ((x : _) → Has x ys → length (f x) ≤ m) → n + length (flat_map f ys) ≤ fold (λ a x. a + m) n ys
    go [] n each = omega arith
    go (y ∷ ys) n each = omega (arith, each y (inl refl), go ys (n + m) (λ x h. each x (inr h)), length-append (f y) (flat_map f ys))

-- a number for each pair of a port and an id
abbrev number_of_entry : EntryId → ℕ
number_of_entry entry = entry.0 * 262144 + entry.1

-- distinct pairs of few ports and few ids are few
pub few_entries : (entries : List EntryId) → IsLog entries → ((entry : EntryId) → Has entry entries → (entry.0 < 8) × (entry.1 < 262144)) → length entries ≤ 2097152
few_entries entries once each =
    let numbers : List ℕ = map number_of_entry entries in
    let sizes : length numbers ≡ length entries = length-map entries number_of_entry in
    let few : length numbers ≤ 2097152 = length-le_from_distinct_below numbers 2097152
    (IsDistinct-from_apart eqb numbers (λ i j d less within.
    ne_eqb (get_or numbers i d) (get_or numbers j d) (λ same.
    let a : EntryId = get_or entries i (0, 0) in
    let b : EntryId = get_or entries j (0, 0) in
    let in_i : i < length entries = omega (arith, less, within, sizes) in
    let in_j : j < length entries = omega (arith, within, sizes) in
    let at_i : get_or numbers i d ≡ number_of_entry a = get_or-map number_of_entry entries i (0, 0) d in_i in
    let at_j : get_or numbers j d ≡ number_of_entry b = get_or-map number_of_entry entries j (0, 0) d in_j in
    let small_a = each a (Has-get_or entries i (0, 0) in_i) in
    let small_b = each b (Has-get_or entries j (0, 0) in_j) in
    let ports : a.0 ≡ b.0 = omega (arith, at_i, at_j, same, small_a.1, small_b.1) in
    let ids : a.1 ≡ b.1 = omega (arith, at_i, at_j, same, small_a.1, small_b.1) in
    once i j (0, 0) less in_j (let f : ℕ → ℕ → EntryId = λ m n. (m, n) in ap (λ m. f m a.1) ports ∙ ap (λ n. f b.0 n) ids))))
    (λ q h.
    let m = Has-from_any (eqb q) numbers h in
    let e = Has-from_map number_of_entry m.0 entries m.1 in
    let small = each e.0 e.1 in
    omega (arith, eqb-true q m.0 m.2, e.2, small.0, small.1)) in
    omega (arith, few, sizes)
