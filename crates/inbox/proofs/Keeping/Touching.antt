-- What the messages of a batch touch, by the numbers of partitions, is what the feeds say of their key values.
use Rattle.std.proofs.Common.{◌≡◌, refl, ap, sym, subst, ◌∙◌, ℕ, zero, suc, ◌<◌, ◌&&◌, Bool, true, false, not, cond, Option, Some, None, List, [], ◌∷◌, ◌++◌, length, filter, get_or, slice_get, inl, inr, arith}
use Rattle.std.specs.List.{All, AllZip, filter_map, cons_option}
use Rattle.std.specs.Option.{option_map, option_map_or, is_some, unwrap_or}
use Rattle.std.proofs.lemmas.Option.{slice_get-get_or, slice_get_within}
use Rattle.std.proofs.lemmas.Slice.Zip.{AllZip-long}
use Rattle.blz_value.specs.Members.{Has}
use Rattle.blz_value.specs.Record.{Row as Record}
use Rattle.blz_value.specs.Sets.{set_of}
use Rattle.blz_value.proofs.Membership.{Has-filter, Has-from_filter}
use Rattle.blz_value.proofs.OperatorsLemmas.{sorted_filter}
use Rattle.blz_value.proofs.SetLaws.{sorted_set_of, Has-set_of, Has-from_set_of, same_row_sets}
use Rattle.topo_forms.specs.Messages.{Message, row, seal, row_in}
use Rattle.messages.specs.Ids.{message_with_id, pair_with_id, batch_with_ids}
use Rattle.messages.specs.Messages.{Pair, Entry}
use Rattle.messages.specs.Log.{AreGiven}
use Rattle.messages.specs.Whole.{feeds_view, partitions, key_at, KeepNumbers}
use Rattle.messages.specs.Feeds.{FeedsView, feed_count, key_in, is_whole_in, is_due_in}
use Rattle.messages.specs.declared.message.Message.{Message as IdMessage}
use Rattle.inbox.specs.Instances.{Instance, port_of_feed, key_of_entry}
use Rattle.inbox.specs.Timesteps.{is_whole, is_due}
use Rattle.inbox.specs.Code.Heard.{FeedsHeard}
use Rattle.blz_pool.specs.Entries.{EntryId}
use Rattle.inbox.specs.Code.Batches.{goes_if, goes_in, entry_id_of, IsNumberIn, IsNumbered, IsTouched, AreTouched, IsSeenAs, IsHeardAs, AreHeardAs, key_by, key_of_id, key_of_pair, if_open, open_key, if_whole, became_key}
use Rattle.inbox.specs.declared.inbox.Touched.{Touched}
use Rattle.inbox.specs.declared.waiting.Waiting.{Waiting}
use Rattle.inbox.specs.declared.inbox.Inbox.{Inbox}
use Rattle.inbox.specs.Inbox.{IsFrom}
use Rattle.inbox.proofs.Keeping.Feeds.{port_in-is, key_in-is}
use Rattle.inbox.proofs.Keeping.Loops.{goes_one}
use Rattle.inbox.proofs.Keeping.Whole.{due_in-is}

-- ---- two lists, place by place

module _ {A B : Type 0} (R : A → B → Type 0) where
  pub zip_push : (xs : List A) (ys : List B) (x : A) (y : B) → AllZip R xs ys → R x y → AllZip R (xs ++ x ∷ []) (ys ++ y ∷ [])
  zip_push [] [] x y all r = (r, tt)
  zip_push [] (z ∷ ys) x y all r = absurd all
  zip_push (w ∷ xs) [] x y all r = absurd all
  zip_push (w ∷ xs) (z ∷ ys) x y all r = (all.0, zip_push xs ys x y all.1 r)

  pub zip_at : (xs : List A) (ys : List B) (k : ℕ) (d : A) (e : B) → AllZip R xs ys → k < length xs → R (get_or xs k d) (get_or ys k e)
  zip_at [] ys k d e all below = absurd (omega arith)
  zip_at (x ∷ xs) [] k d e all below = absurd all
  zip_at (x ∷ xs) (y ∷ ys) zero d e all below = all.0
  zip_at (x ∷ xs) (y ∷ ys) (suc k) d e all below = zip_at xs ys k d e all.1 (omega arith)

  pub zip_on : (S : A → B → Type 0) (xs : List A) (ys : List B) → ((x : A) (y : B) → Has x xs → R x y → S x y) → AllZip R xs ys → AllZip S xs ys
  zip_on S [] [] on all = tt
  zip_on S [] (y ∷ ys) on all = all
  zip_on S (x ∷ xs) [] on all = all
  zip_on S (x ∷ xs) (y ∷ ys) on all = (on x y (inl refl) all.0, zip_on S xs ys (λ a b h. on a b (inr h)) all.1)

  pub zip_right : (P : B → Type 0) (xs : List A) (ys : List B) → ((x : A) (y : B) → R x y → P y) → AllZip R xs ys → All P ys
  zip_right P [] [] on all k d below = absurd (omega arith)
  zip_right P [] (y ∷ ys) on all k d below = absurd all
  zip_right P (x ∷ xs) [] on all k d below = absurd all
  zip_right P (x ∷ xs) (y ∷ ys) on all zero d below = on x y all.0
  zip_right P (x ∷ xs) (y ∷ ys) on all (suc k) d below = zip_right P xs ys on all.1 k d (omega arith)

-- ---- a number has its key value

pub own_key : (keys : List Record) (n : ℕ) → n < length keys → (key : Record) × (slice_get keys n ≡ Some key)
own_key keys n within = (get_or keys n [], slice_get-get_or keys n [] within)

-- ---- numbers are kept

key_on : (old new : List Record) → KeepNumbers old new → (key : Option Record) (number : Option ℕ) → IsNumbered old key number → IsNumbered new key number
key_on old new kept key None h = record { key_is = h.key_is; within = tt }
key_on old new kept key (Some n) h =
    let own : Record = get_or old n [] in
    let at : slice_get old n ≡ Some own = slice_get-get_or old n [] h.within in
    let now : slice_get new n ≡ Some own = kept own n at in
    record { key_is = now ∙ sym at ∙ h.key_is; within = slice_get_within new n own now }

pub touched_on : (records : List Record) (f : FeedsView) (old new : List Record) (batch : List (ℕ × IdMessage)) (touched : List Touched) → KeepNumbers old new → AreTouched records f old batch touched → AreTouched records f new batch touched
touched_on records f old new batch touched kept all =
    zip_on (λ (pair : ℕ × IdMessage) (t : Touched). IsTouched f old (key_of_id records f pair) t) (λ pair t. IsTouched f new (key_of_id records f pair) t) batch touched
    (λ pair t there h. record { numbered = key_on old new kept (key_of_id records f pair) t.number h.numbered; waits = h.waits }) all

pub seen_nothing : (a : Inbox) → IsSeenAs a a
seen_nothing a = record { mode = refl; feeds = refl; waiting = refl; numbers = λ key n has. has }

pub seen_on : (a b c : Inbox) → IsSeenAs a b → IsSeenAs b c → IsSeenAs a c
seen_on a b c s t = record { mode = t.mode ∙ s.mode; feeds = t.feeds ∙ s.feeds; waiting = t.waiting ∙ s.waiting; numbers = λ key n has. t.numbers key n (s.numbers key n has) }

pub numbers_in : (records : List Record) (f : FeedsView) (keys : List Record) (batch : List (ℕ × IdMessage)) (touched : List Touched) → AreTouched records f keys batch touched → All (λ t. IsNumberIn keys t.number) touched
numbers_in records f keys batch touched all = zip_right (λ (pair : ℕ × IdMessage) (t : Touched). IsTouched f keys (key_of_id records f pair) t) (λ t. IsNumberIn keys t.number) batch touched (λ pair t h. h.numbered.within) all

-- of an inbox that is seen as another
pub inside_on : (old start : Inbox) (batch : List (ℕ × IdMessage)) → IsSeenAs old start → All (λ pair. pair.0 < feed_count (feeds_view old.feeds)) batch → All (λ pair. pair.0 < feed_count (feeds_view start.feeds)) batch
inside_on old start batch seen all = subst (λ (v : FeedsView). All (λ (pair : ℕ × IdMessage). pair.0 < feed_count v) batch) (sym seen.feeds) all

pub from_on : (records : List Record) (old start : Inbox) → IsSeenAs old start → IsFrom records old → IsFrom records start
from_on records old start seen from = subst (λ (w : Waiting). AreGiven records w.log) (sym seen.waiting) from

pub many_as : (records : List Record) (f : FeedsView) (keys : List Record) (batch : List (ℕ × IdMessage)) (touched lent : List Touched) → lent ≡ touched → AreTouched records f keys batch touched → length lent ≡ length batch
many_as records f keys batch touched lent same all = ap (length {A = Touched}) same ∙ AllZip-long (λ (pair : ℕ × IdMessage) (t : Touched). IsTouched f keys (key_of_id records f pair) t) batch touched all

pub numbers_as : (records : List Record) (f : FeedsView) (keys : List Record) (batch : List (ℕ × IdMessage)) (touched lent : List Touched) → lent ≡ touched → AreTouched records f keys batch touched → All (λ t. IsNumberIn keys t.number) lent
numbers_as records f keys batch touched lent same all = subst (λ (l : List Touched). All (λ t. IsNumberIn keys t.number) l) (sym same) (numbers_in records f keys batch touched all)

-- ---- as an instance hears it

module _ (i : Instance) (records : List Record) (heard : List Pair) (f : FeedsView) (s : FeedsHeard i records heard f) where
  key_pair : (feed : ℕ) (m : Message) → feed < feed_count f → key_by f feed m ≡ key_of_pair i feed m
  key_pair feed (row r) inside = ap (λ (port : ℕ). key_in f (port, r)) (port_in-is i records heard f feed s inside) ∙ key_in-is i records heard f (port_of_feed i feed, r) s
  key_pair feed (seal k n) inside = refl

  waits_test : (entry : Entry) → (is_some (key_of_entry i entry) && not (is_due i heard entry)) ≡ not (is_due i heard entry)
  waits_test entry = by (key_of_entry i entry)
    where
      by : (key : Option Record) → (is_some key && not (option_map_or (is_whole i heard) key true)) ≡ not (option_map_or (is_whole i heard) key true)
      by None = refl
      by (Some key) = refl

  waits_as : (feed : ℕ) (m : Message) (waits : Bool) → feed < feed_count f → waits ≡ not (is_due_in f (key_by f feed m)) → (entry : Entry) → option_map (λ r. (port_of_feed i feed, r)) (row_in m) ≡ Some entry
      → not (is_due i heard entry) ≡ (is_some (key_of_entry i entry) && waits)
  waits_as feed (row r) waits inside is entry of =
      let own : Entry = (port_of_feed i feed, r) in
      let same : own ≡ entry = ap (λ o. unwrap_or o own) of in
      let due : waits ≡ not (is_due i heard own) = is ∙ ap (λ (port : ℕ). not (is_due_in f (key_in f (port, r)))) (port_in-is i records heard f feed s inside) ∙ ap not (due_in-is i records heard f s own) in
      subst (λ (e : Entry). not (is_due i heard e) ≡ (is_some (key_of_entry i e) && waits)) same (sym (ap (λ b. is_some (key_of_entry i own) && b) due ∙ waits_test own))
  waits_as feed (seal k n) waits inside is entry of = cc

  pub all_heard_as : (keys : List Record) (batch : List (ℕ × IdMessage)) (touched : List Touched) → ((pair : ℕ × IdMessage) → Has pair batch → pair.0 < feed_count f) → AreTouched records f keys batch touched
      → AreHeardAs i records keys (λ entry. not (is_due i heard entry)) batch touched
  all_heard_as keys batch touched inside all =
      zip_on (λ (pair : ℕ × IdMessage) (t : Touched). IsTouched f keys (key_of_id records f pair) t) (λ pair t. IsHeardAs i keys (λ entry. not (is_due i heard entry)) (pair_with_id records pair) t) batch touched
      (λ pair t there h. record {
        key_is = h.numbered.key_is ∙ key_pair pair.0 (message_with_id records pair.1) (inside pair there);
        waiting = waits_as pair.0 (message_with_id records pair.1) t.waits (inside pair there) h.waits;
      }) all

-- ---- of one message of a batch

pub heard_at : (i : Instance) (records keys now : List Record) (waits : Entry → Bool) (batch : List (ℕ × IdMessage)) (touched : List Touched) (n : ℕ) (pair : ℕ × IdMessage) (d : Touched) → now ≡ keys → pair ≡ get_or batch n pair → n < length batch
    → AreHeardAs i records keys waits batch touched → IsHeardAs i now waits (pair_with_id records pair) (get_or touched n d)
heard_at i records keys now waits batch touched n pair d same is below all =
    subst (λ (ks : List Record). IsHeardAs i ks waits (pair_with_id records pair) (get_or touched n d)) (sym same)
    (subst (λ (p : ℕ × IdMessage). IsHeardAs i keys waits (pair_with_id records p) (get_or touched n d)) (sym is)
    (zip_at (λ (p : ℕ × IdMessage) (t : Touched). IsHeardAs i keys waits (pair_with_id records p) t) batch touched n pair d all below))

pub number_on : (old new : List Record) (number : Option ℕ) → new ≡ old → IsNumberIn old number → IsNumberIn new number
number_on old new number same h = subst (λ (keys : List Record). IsNumberIn keys number) (sym same) h

pub going_at : (records : List Record) (x : Inbox) (batch : List (ℕ × IdMessage)) (touched : List Touched) (n : ℕ) (pair : ℕ × IdMessage) (d : Touched) (entry : Option EntryId) → n < length batch → pair ≡ get_or batch n pair
    → AreTouched records (feeds_view x.feeds) (partitions x.feeds) batch touched
    → cons_option entry [] ≡ filter (goes_if x (get_or touched n d).waits) (cons_option (entry_id_of (feeds_view x.feeds) pair) [])
    → cons_option entry [] ≡ filter (goes_in records x) (cons_option (entry_id_of (feeds_view x.feeds) pair) [])
going_at records x batch touched n pair d entry below is all said =
    let view = feeds_view x.feeds in
    let own = zip_at (λ (p : ℕ × IdMessage) (t : Touched). IsTouched view (partitions x.feeds) (key_of_id records view p) t) batch touched n pair d all below in
    said ∙ goes_one records x pair (get_or touched n d).waits (own.waits ∙ ap (λ (p : ℕ × IdMessage). not (is_due_in view (key_of_id records view p))) (sym is))

-- ---- what became whole

module _ (records : List Record) (f g : FeedsView) (keys : List Record) where
  became-is : (pair : ℕ × IdMessage) (t : Touched) → IsTouched f keys (key_of_id records f pair) t → became_key g keys t ≡ if_whole g (open_key f (pair_with_id records pair))
  became-is pair t h =
      ap (λ b. cond b (if_whole g (key_at keys t.number)) None) h.waits
      ∙ ap (λ k. cond (not (is_due_in f (key_of_id records f pair))) (if_whole g k) None) h.numbered.key_is
      ∙ by (key_of_id records f pair)
    where
      by : (key : Option Record) → cond (not (is_due_in f key)) (if_whole g key) None ≡ if_whole g (if_open f key)
      by None = refl
      by (Some key) = elim (is_whole_in f key) as (λ b. cond (not b) (if_whole g (Some key)) None ≡ if_whole g (cond b None (Some key))) [ true ↦ refl | false ↦ refl ]

  one_whole : (key : Option Record) (rest : List Record) → cons_option (if_whole g key) (filter (is_whole_in g) rest) ≡ filter (is_whole_in g) (cons_option key rest)
  one_whole None rest = refl
  one_whole (Some key) rest = elim (is_whole_in g key) as (λ b. cons_option (cond b (Some key) None) (filter (is_whole_in g) rest) ≡ cond b (key ∷ filter (is_whole_in g) rest) (filter (is_whole_in g) rest)) [ true ↦ refl | false ↦ refl ]

  became-all : (batch : List (ℕ × IdMessage)) (touched : List Touched) → AreTouched records f keys batch touched
      → filter_map (became_key g keys) touched ≡ filter (is_whole_in g) (filter_map (open_key f) (batch_with_ids records batch))
  became-all [] [] all = refl
  became-all [] (t ∷ touched) all = absurd all
  became-all (pair ∷ batch) [] all = absurd all
  became-all (pair ∷ batch) (t ∷ touched) all =
      ap (λ o. cons_option o (filter_map (became_key g keys) touched)) (became-is pair t all.0)
      ∙ ap (cons_option (if_whole g (open_key f (pair_with_id records pair)))) (became-all batch touched all.1)
      ∙ one_whole (open_key f (pair_with_id records pair)) (filter_map (open_key f) (batch_with_ids records batch))

  filter_set : (p : Record → Bool) (xs : List Record) → set_of (filter p xs) ≡ filter p (set_of xs)
  filter_set p xs = same_row_sets (set_of (filter p xs)) (filter p (set_of xs)) (sorted_set_of (filter p xs)) (sorted_filter p (set_of xs) (sorted_set_of xs)) (
    λ q h. (let kept = Has-from_filter p q xs (Has-from_set_of q (filter p xs) h) in Has-filter p q (set_of xs) (Has-set_of q xs kept.0) kept.1),
    λ q h. (let kept = Has-from_filter p q (set_of xs) h in Has-set_of q (filter p xs) (Has-filter p q xs (Has-from_set_of q xs kept.0) kept.1)),
  )

  -- are those of the partitions that weren't whole which now are
  pub whole-among : (batch : List (ℕ × IdMessage)) (touched : List Touched) → AreTouched records f keys batch touched
      → set_of (filter_map (became_key g keys) touched) ≡ filter (is_whole_in g) (set_of (filter_map (open_key f) (batch_with_ids records batch)))
  whole-among batch touched all = ap set_of (became-all batch touched all) ∙ filter_set (is_whole_in g) (filter_map (open_key f) (batch_with_ids records batch))

-- few keys are in order
pub few_in_order : (keys : List Record) → length keys < 2 → keys ≡ set_of keys
few_in_order [] few = refl
few_in_order (key ∷ []) few = refl
few_in_order (key ∷ other ∷ keys) few = absurd (omega arith)
