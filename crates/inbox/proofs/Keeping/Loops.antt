-- What an inbox reads off a batch, of one message more; and the place of an attribute.
use Rattle.std.proofs.Common.{◌≡◌, refl, ap, sym, subst, ◌∙◌, ℕ, zero, suc, take, ◌+◌, ◌-◌, ◌<◌, ◌≤◌, ◌==◌, ◌&&◌, ◌||◌, Bool, true, false, not, cond, Option, Some, None, List, [], ◌∷◌, ◌++◌, length, map, filter, append_assoc, get_or, arith}
use Rattle.std.specs.List.{All, list_any, filter_map, flat_map, cons_option, position_from, slice_get}
use Rattle.std.specs.Ordering.{nat_cmp}
use Rattle.std.proofs.lemmas.Option.{get_or_from_slice_get, slice_get_within}
use Rattle.std.specs.Option.{unwrap_or}
use Rattle.std.proofs.lemmas.List.{map-append, take_more}
use Rattle.std.proofs.lemmas.List.Elements.{filter-append, filter_map-append}
use Rattle.blz_value.specs.Record.{Row}
use Rattle.blz_value.specs.Members.{Has}
use Rattle.blz_value.specs.Sets.{set_by}
use Rattle.blz_value.proofs.Membership.{Has-map, Has-get_or, Has-from_filter, All-of_member}
use Rattle.bloom_forms.specs.Roots.{are_same}
use Rattle.topo_forms.specs.Data.{place_of_attribute}
use Rattle.messages.specs.Ids.{pair_with_id, batch_with_ids}
use Rattle.messages.specs.Messages.{Pair}
use Rattle.blz_pool.specs.Entries.{EntryId}
use Rattle.messages.specs.Log.{AreGiven}
use Rattle.messages.specs.Whole.{feeds_view}
use Rattle.messages.specs.Feeds.{FeedsView, port_in, carries_in, is_due_in}
use Rattle.messages.specs.Log.{is_same_entry_id}
use Rattle.inbox.specs.SetOffs.{AreReleasedFrom}
use Rattle.inbox.specs.declared.set_off.Released.{Released}
use Rattle.inbox.specs.Code.Places.{places_of}
use Rattle.inbox.specs.Code.Waiting.{released_of}
use Rattle.inbox.specs.Code.Batches.{entry_id_of, entry_ids_of, goes_if, goes_in, key_of_id, AreParted, AreReleased, Releases}
use Rattle.messages.specs.declared.message.Message.{Message}
use Rattle.messages.specs.declared.message.Message.TheVariants.{Row as ById, Seal}
use Rattle.inbox.specs.declared.waiting.Waiting.{Waiting}
use Rattle.inbox.specs.declared.inbox.Inbox.{Inbox}
use Rattle.inbox.proofs.TimestepLemmas.Whole.{Has-from_filter_map}

pub entry_ids_more : (f : FeedsView) (p : EntryId → Bool) (batch : List (ℕ × Message)) (pair : ℕ × Message)
    → filter p (entry_ids_of f (batch ++ pair ∷ [])) ≡ filter p (entry_ids_of f batch) ++ filter p (cons_option (entry_id_of f pair) [])
entry_ids_more f p batch pair =
    ap (filter p) (filter_map-append (entry_id_of f) batch (pair ∷ []))
    ∙ filter-append p (entry_ids_of f batch) (cons_option (entry_id_of f pair) [])

pub going_step : (f : FeedsView) (p : EntryId → Bool) (batch : List (ℕ × Message)) (n : ℕ) (pair : ℕ × Message) (old new : List EntryId) → n < length batch → pair ≡ get_or batch n pair
    → new ≡ old ++ filter p (cons_option (entry_id_of f pair) []) → old ≡ filter p (entry_ids_of f (take n batch)) → new ≡ filter p (entry_ids_of f (take (n + 1) batch))
going_step f p batch n pair old new below is more so_far =
    more ∙ ap (λ l. l ++ filter p (cons_option (entry_id_of f pair) [])) so_far
    ∙ sym (entry_ids_more f p (take n batch) pair)
    ∙ ap (λ (x : ℕ × Message). filter p (entry_ids_of f (take n batch ++ x ∷ []))) is
    ∙ ap (λ l. filter p (entry_ids_of f l)) (sym (take_more batch n pair below))

pub filter_map_last : {X Y : Type 0} (f : X → Option Y) (xs : List X) (x : X) → filter_map f (xs ++ x ∷ []) ≡ filter_map f xs ++ cons_option (f x) []
filter_map_last f xs x = filter_map-append f xs (x ∷ [])

-- what is said of one message to wait is what the feeds say
pub goes_one : (records : List Row) (x : Inbox) (pair : ℕ × Message) (waits : Bool) → waits ≡ not (is_due_in (feeds_view x.feeds) (key_of_id records (feeds_view x.feeds) pair))
    → filter (goes_if x waits) (cons_option (entry_id_of (feeds_view x.feeds) pair) []) ≡ filter (goes_in records x) (cons_option (entry_id_of (feeds_view x.feeds) pair) [])
goes_one records x pair waits is = by pair.1 is
  where
    twice : (b : Bool) → not (not b) ≡ b
    twice true = refl
    twice false = refl

    by : (m : Message) → waits ≡ not (is_due_in (feeds_view x.feeds) (key_of_id records (feeds_view x.feeds) (pair.0, m)))
        → filter (goes_if x waits) (cons_option (entry_id_of (feeds_view x.feeds) (pair.0, m)) []) ≡ filter (goes_in records x) (cons_option (entry_id_of (feeds_view x.feeds) (pair.0, m)) [])
    by (ById id) w =
        let entry : EntryId = (port_in (feeds_view x.feeds) pair.0, id) in
        ap (λ b. cond (not x.sealing || (not (list_any (is_same_entry_id entry) x.waiting.log) && b)) (entry ∷ []) [])
        (ap not w ∙ twice (is_due_in (feeds_view x.feeds) (key_of_id records (feeds_view x.feeds) (pair.0, ById id))))
    by (Seal key count) w = refl

-- one message more of a batch
pub heard_more : (records : List Row) (heard : List Pair) (batch : List (ℕ × Message)) (n : ℕ) (pair : ℕ × Message) → n < length batch → pair ≡ get_or batch n pair
    → (heard ++ batch_with_ids records (take n batch)) ++ pair_with_id records pair ∷ [] ≡ heard ++ batch_with_ids records (take (n + 1) batch)
heard_more records heard batch n pair below is =
    append_assoc heard (batch_with_ids records (take n batch)) (pair_with_id records pair ∷ [])
    ∙ ap (λ l. heard ++ l) (sym (map-append (pair_with_id records) (take n batch) (pair ∷ []))
    ∙ ap (λ (x : ℕ × Message). batch_with_ids records (take n batch ++ x ∷ [])) is
    ∙ ap (batch_with_ids records) (sym (take_more batch n pair below)))

pub item_there : (records : List Row) (batch : List (ℕ × Message)) (n : ℕ) (pair : ℕ × Message) → n < length batch → pair ≡ get_or batch n pair → Has (pair_with_id records pair) (batch_with_ids records batch)
item_there records batch n pair below is = Has-map (pair_with_id records) pair batch (subst (λ (x : ℕ × Message). Has x batch) (sym is) (Has-get_or batch n pair below))

-- what holds of all holds of those that pass
pub given_filter : {X : Type 0} (P : X → Type 0) (p : X → Bool) (xs : List X) → All P xs → All P (filter p xs)
given_filter P p xs all k d below = All-of_member P xs (get_or (filter p xs) k d) all (Has-from_filter p (get_or (filter p xs) k d) xs (Has-get_or (filter p xs) k d below)).0

pub given_released : (records : List Row) (w : Waiting) (keys : List Row) → AreGiven records w.log → All (λ entry. entry.1 < length records) (released_of w keys)
given_released records w keys given k d below =
    let e : EntryId = get_or (released_of w keys) k d in
    let m = Has-from_filter_map (slice_get w.log) e (set_by nat_cmp (flat_map (places_of w.places) keys)) (Has-get_or (released_of w keys) k d below) in
    given e (subst (λ (x : EntryId). Has x w.log) (get_or_from_slice_get w.log m.0 e e m.2) (Has-get_or w.log m.0 e (slice_get_within w.log m.0 e m.2)))

-- so of the parts of what is released
pub parts_given : (records : List Row) (f : FeedsView) (w : Waiting) (whole : List Row) (released : Option Released) → AreGiven records w.log → AreReleased f whole (released_of w whole) released → AreReleasedFrom records released
parts_given records f w whole None given h = tt
parts_given records f w [] (Some parts) given h = absurd h
parts_given records f w (key ∷ keys) (Some parts) given h =
    let all = given_released records w (key ∷ keys) given in
    let entries : List EntryId = released_of w (key ∷ keys) in
    let Own : List EntryId → Type 0 = λ l. All (λ entry. entry.1 < length records) l in (
      subst Own (sym h.together) (given_filter (λ (entry : EntryId). entry.1 < length records) (λ entry. carries_in f entry.0) entries all),
      subst Own (sym h.alone) (given_filter (λ (entry : EntryId). entry.1 < length records) (λ entry. not (carries_in f entry.0)) entries all),
    )

-- where some partition becomes whole, its records are released
pub releases_some : (old new : Inbox) (whole : List Row) (parts : Released) → 1 ≤ length whole → new.sealing ≡ old.sealing → feeds_view new.feeds ≡ feeds_view old.feeds → new.waiting.log ≡ old.waiting.log → new.waiting.places ≡ old.waiting.places
    → new.waiting.held ≡ old.waiting.held - length (released_of old.waiting whole)
    → AreParted (feeds_view old.feeds) (released_of old.waiting whole) parts → Releases old new whole (Some parts)
releases_some old new [] parts some mode feeds log places held are = absurd (omega arith)
releases_some old new (key ∷ keys) parts some mode feeds log places held are = record { mode = mode; feeds = feeds; log = log; places = places; held = held; parts = are }

-- ---- the place of an attribute

module _ (a : ℕ) where
  abbrev is_it : Option ℕ → Bool
  is_it column = are_same column (Some a)

  found : (xs : List ℕ) (n off : ℕ) → n < length xs → ((k : ℕ) → k < n → (get_or xs k 0 == a) ≡ false) → (get_or xs n 0 == a) ≡ true → position_from is_it off (map Some xs) ≡ Some (off + n)
  found [] n off below apart here = absurd (omega arith)
  found (x ∷ xs) zero off below apart here = ap (λ b. cond b (Some off) (position_from is_it (off + 1) (map Some xs))) here ∙ ap Some (omega arith)
  found (x ∷ xs) (suc n) off below apart here =
      ap (λ b. cond b (Some off) (position_from is_it (off + 1) (map Some xs))) (apart 0 (omega arith))
      ∙ found xs n (off + 1) (omega arith) (λ k less. apart (suc k) (omega arith)) here
      ∙ ap Some (let e : off + 1 + n ≡ off + suc n = omega arith in e)

  not_found : (xs : List ℕ) (off : ℕ) → ((k : ℕ) → k < length xs → (get_or xs k 0 == a) ≡ false) → position_from is_it off (map Some xs) ≡ None
  not_found [] off apart = refl
  not_found (x ∷ xs) off apart =
      ap (λ b. cond b (Some off) (position_from is_it (off + 1) (map Some xs))) (apart 0 (let e : 0 < suc (length xs) = omega arith in e))
      ∙ not_found xs (off + 1) (λ k less. apart (suc k) (let e : suc k < suc (length xs) = omega arith in e))

  length-some : (xs : List ℕ) → length (map Some xs) ≡ length xs
  length-some [] = refl
  length-some (x ∷ xs) = ap suc (length-some xs)

  pub place_found : (xs : List ℕ) (n : ℕ) → n < length xs → ((k : ℕ) → k < n → (get_or xs k 0 == a) ≡ false) → (get_or xs n 0 == a) ≡ true → place_of_attribute (map Some xs) a ≡ n
  place_found xs n below apart here = ap (λ o. unwrap_or o (length (map Some xs))) (found xs n 0 below apart here) ∙ (let e : 0 + n ≡ n = omega arith in e)

  pub place_missing : (xs : List ℕ) → ((k : ℕ) → k < length xs → (get_or xs k 0 == a) ≡ false) → place_of_attribute (map Some xs) a ≡ length xs
  place_missing xs apart = ap (λ o. unwrap_or o (length (map Some xs))) (not_found xs 0 apart) ∙ length-some xs

pub take_whole : {X : Type 0} (xs : List X) (n : ℕ) → length xs ≤ n → take n xs ≡ xs
take_whole [] zero le = refl
take_whole [] (suc n) le = refl
take_whole (x ∷ xs) zero le = absurd (omega arith)
take_whole (x ∷ xs) (suc n) le = ap (λ l. x ∷ l) (take_whole xs n (omega arith))
