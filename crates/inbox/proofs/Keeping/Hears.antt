-- What an inbox answers to a batch is what the batch sets off, and it then stands for the batch too.
use Rattle.std.proofs.Common.{◌≡◌, refl, ap, sym, subst, ◌∙◌, ℕ, suc, ◌-◌, ◌<◌, ◌&&◌, ◌||◌, Bool, true, false, not, cond, Option, None, Some, List, [], ◌∷◌, ◌++◌, length, filter, get_or, arith, inl, inr}
use Rattle.std.specs.List.{All, list_any, filter_map, cons_option}
use Rattle.std.specs.Option.{option_map}
use Rattle.std.proofs.lemmas.Bool.{cases_Bool}
use Rattle.blz_pool.specs.Pool.{IsPool}
use Rattle.blz_value.specs.Members.{Has}
use Rattle.blz_value.specs.Record.{Row as Record}
use Rattle.blz_value.specs.Sets.{set_of}
use Rattle.blz_value.proofs.Membership.{Has-from_map, Has-from_filter, Has-get_or}
use Rattle.bloom_forms.specs.Step.{Sets}
use Rattle.blz_value.specs.declared.attrs.Attrs.{Attrs}
use Rattle.blz_value.proofs.Booleans.{same_truth}
use Rattle.blz_value.proofs.Lists.{filter-map, filter_same}
use Rattle.bloom_forms.specs.declared.mode.Mode.{Mode}
use Rattle.bloom_forms.specs.declared.mode.Mode.TheVariants.{Free, Pass, Order}
use Rattle.bloom_forms.specs.declared.mode.Mode.TheVariants as mode
use Rattle.topo_forms.specs.Messages.{row_in}
use Rattle.topo_forms.specs.View.{is_order_mode}
use Rattle.messages.specs.Messages.{Pair, Batch, Entry, is_same_entry, all_pairs, firsts}
use Rattle.inbox.specs.Instances.{Instance, port_of_feed, is_carrying, entry_of, entries_of}
use Rattle.bloom_eval.specs.Arrivals.{timestep_of}
use Rattle.inbox.specs.Timesteps.{is_due, is_of_some, one_timestep, one_by_one, first_part, second_part, newly_whole, steps_in, held_count}
use Rattle.messages.specs.Ids.{message_with_id, pair_with_id, batch_with_ids, IsGiven}
use Rattle.blz_pool.specs.Entries.{EntryId, row_with_id, entry_with_id, entries_with_ids}
use Rattle.messages.specs.Log.{AreGiven, is_same_entry_id}
use Rattle.messages.specs.Whole.{feeds_view, partitions}
use Rattle.messages.specs.Feeds.{FeedsView, feed_count, port_count, port_in, key_in, carries_in, is_due_in}
use Rattle.inbox.specs.Code.Batches.{AreHeardAs, AreTouched, IsSeenAs, became_key, id_in, entry_ids_of, goes_in, open_key, AreReleased, Releases}
use Rattle.inbox.specs.SetOffs.{released_read}
use Rattle.inbox.specs.declared.set_off.Released.{Released}
use Rattle.inbox.specs.Code.Heard.{FeedsHeard, WaitingHeard, IsIdle, is_sealing, is_place_of}
use Rattle.messages.specs.Ports.{PortKey}
use Rattle.inbox.specs.Code.Places.{places_of}
use Rattle.inbox.specs.Code.Waiting.{released_of}
use Rattle.inbox.specs.Inbox.{Keeps, HasHeard}
use Rattle.messages.specs.declared.message.Message.{Message as IdMessage}
use Rattle.messages.specs.declared.message.Message.TheVariants.{Row, Seal}
use Rattle.inbox.specs.declared.waiting.Waiting.{Waiting}
use Rattle.inbox.specs.declared.inbox.Touched.{Touched}
use Rattle.inbox.specs.declared.inbox.Inbox.{Inbox}
use Rattle.messages.proofs.LogLemmas.{one_id, any-with_ids}
use Rattle.messages.proofs.MessagesLemmas.{is_same_entry-is, is_same_entry-itself, any-from_same, same-from_any, Has-firsts, Has-from_firsts}
use Rattle.inbox.proofs.TimestepLemmas.AtOnce.{GoesAtOnce}
use Rattle.inbox.proofs.TimestepLemmas.Held.{seal_held, at_once_held}
use Rattle.inbox.proofs.TimestepLemmas.UnderSeal.{all_pairs-more}
use Rattle.inbox.proofs.Keeping.Feeds.{port_in-is, carries_in-is}
use Rattle.inbox.proofs.Keeping.Touching.{all_heard_as, whole-among}
use Rattle.inbox.proofs.Keeping.Whole.{due_in-is, newly-is}
use Rattle.inbox.proofs.Keeping.Released.{released-is, first_steps-are, held-after}

-- ---- the records of a batch

module _ (i : Instance) (records : List Record) (heard : List Pair) (f : FeedsView) (s : FeedsHeard i records heard f) where
  entry_more : (feed : ℕ) (m : IdMessage) (rest : List EntryId) → feed < feed_count f
      → entries_with_ids records (cons_option (option_map (λ id. (port_in f feed, id)) (id_in m)) rest) ≡ cons_option (option_map (λ r. (port_of_feed i feed, r)) (row_in (message_with_id records m))) (entries_with_ids records rest)
  entry_more feed (Row id) rest inside = ap (λ (port : ℕ). let e : Entry = (port, row_with_id records id) in e ∷ entries_with_ids records rest) (port_in-is i records heard f feed s inside)
  entry_more feed (Seal key count) rest inside = refl

  pub entry_ids-are : (batch : List (ℕ × IdMessage)) → ((pair : ℕ × IdMessage) → Has pair batch → pair.0 < feed_count f) → entries_with_ids records (entry_ids_of f batch) ≡ entries_of i (batch_with_ids records batch)
  entry_ids-are [] inside = refl
  entry_ids-are (pair ∷ batch) inside =
      entry_more pair.0 pair.1 (entry_ids_of f batch) (inside pair (inl refl))
      ∙ ap (cons_option (entry_of i (pair_with_id records pair))) (entry_ids-are batch (λ p h. inside p (inr h)))

-- an id of a batch is given
id_given : (records : List Record) (f : FeedsView) (batch : List (ℕ × IdMessage)) → ((pair : ℕ × IdMessage) → Has pair batch → IsGiven records pair.1) → AreGiven records (entry_ids_of f batch)
id_given records f [] given e h = absurd h
id_given records f (pair ∷ batch) given e h = by pair.1 (given pair (inl refl)) (λ rest. id_given records f batch (λ p there. given p (inr there)) e rest) h
  where
    by : (m : IdMessage) → IsGiven records m → (Has e (entry_ids_of f batch) → e.1 < length records) → Has e (cons_option (option_map (λ id. (port_in f pair.0, id)) (id_in m)) (entry_ids_of f batch)) → e.1 < length records
    by (Row id) g later (inl is) = subst (λ (x : EntryId). x.1 < length records) is g
    by (Row id) g later (inr rest) = later rest
    by (Seal key count) g later rest = later rest

-- ---- modes

sealing_steps : (m : Mode) (i : Instance) (heard : List Pair) (batch : Batch) → is_sealing m ≡ true → steps_in m i heard batch ≡ first_part i (newly_whole i heard batch) (entries_of i (heard ++ batch)) ++ second_part i heard batch
sealing_steps Free i heard batch e = cc
sealing_steps (Pass key) i heard batch e = cc
sealing_steps (mode.Seal key) i heard batch e = refl
sealing_steps Order i heard batch e = cc

other_steps : (m : Mode) (i : Instance) (heard : List Pair) (batch : Batch) → is_sealing m ≡ false → is_order_mode m ≡ false → steps_in m i heard batch ≡ one_timestep (length i.ports) (entries_of i batch)
other_steps Free i heard batch e o = refl
other_steps (Pass key) i heard batch e o = refl
other_steps (mode.Seal key) i heard batch e o = cc
other_steps Order i heard batch e o = cc

at_once : (m : Mode) → is_sealing m ≡ false → is_order_mode m ≡ false → GoesAtOnce m
at_once Free e o = tt
at_once (Pass key) e o = tt
at_once (mode.Seal key) e o = (let bad : true ≡ false = e in cc)
at_once Order e o = (let bad : true ≡ false = o in cc)

seal_key : (m : Mode) → is_sealing m ≡ true → (key : Attrs) × (m ≡ mode.Seal key)
seal_key Free e = cc
seal_key (Pass key) e = cc
seal_key (mode.Seal key) e = (key, refl)
seal_key Order e = cc

filter_all : {X : Type 0} (p : X → Bool) (xs : List X) → ((x : X) → p x ≡ true) → filter p xs ≡ xs
filter_all p [] all = refl
filter_all p (x ∷ xs) all = ap (λ b. cond b (x ∷ filter p xs) (filter p xs)) (all x) ∙ ap (λ l. x ∷ l) (filter_all p xs all)

-- ---- what goes with the batch

module _ (i : Instance) (records : List Record) (waits : Entry → Bool) (heard : List Pair) (x : Inbox) (s : Keeps i records waits heard x) (pool : IsPool records) (batch : List (ℕ × IdMessage))
    (inside : (pair : ℕ × IdMessage) → Has pair batch → pair.0 < feed_count (feeds_view x.feeds)) (given : (pair : ℕ × IdMessage) → Has pair batch → IsGiven records pair.1) where
  -- under Seal those that are new and wait for nothing
  abbrev goes_now : Entry → Bool
  goes_now entry = not (list_any (is_same_entry entry) (entries_of i heard)) && is_due i heard entry

  one_goes : x.sealing ≡ true → (e : EntryId) → Has e (entry_ids_of (feeds_view x.feeds) batch) → goes_in records x e ≡ goes_now (entry_with_id records e)
  one_goes on e h =
      let w : WaitingHeard i records waits heard x.waiting = s.waiting on in
      let r : Entry = entry_with_id records e in
      let known : list_any (is_same_entry_id e) x.waiting.log ≡ list_any (is_same_entry r) (entries_of i heard) =
      sym (any-with_ids records e x.waiting.log (one_id records pool e.1 (id_given records (feeds_view x.feeds) batch given e h)) w.given)
      ∙ ap (list_any (is_same_entry r)) w.log
      ∙ same_truth (list_any (is_same_entry r) (firsts is_same_entry (entries_of i heard))) (list_any (is_same_entry r) (entries_of i heard))
      (λ found. any-from_same is_same_entry is_same_entry-is is_same_entry-itself r (entries_of i heard) (Has-from_firsts is_same_entry is_same_entry-is is_same_entry-itself r (entries_of i heard) (same-from_any is_same_entry is_same_entry-is is_same_entry-itself r (firsts is_same_entry (entries_of i heard)) found)))
      (λ found. any-from_same is_same_entry is_same_entry-is is_same_entry-itself r (firsts is_same_entry (entries_of i heard)) (Has-firsts is_same_entry is_same_entry-is is_same_entry-itself r (entries_of i heard) (same-from_any is_same_entry is_same_entry-is is_same_entry-itself r (entries_of i heard) found))) in
      ap (λ b. not b || (not (list_any (is_same_entry_id e) x.waiting.log) && is_due_in (feeds_view x.feeds) (key_in (feeds_view x.feeds) r))) on
      ∙ ap (λ b. not b && is_due_in (feeds_view x.feeds) (key_in (feeds_view x.feeds) r)) known
      ∙ ap (λ b. not (list_any (is_same_entry r) (entries_of i heard)) && b) (due_in-is i records heard (feeds_view x.feeds) s.feeds r)

  going-seal : x.sealing ≡ true → entries_with_ids records (filter (goes_in records x) (entry_ids_of (feeds_view x.feeds) batch)) ≡ filter goes_now (entries_of i (batch_with_ids records batch))
  going-seal on =
      ap (entries_with_ids records) (filter_same (goes_in records x) (λ e. goes_now (entry_with_id records e)) (entry_ids_of (feeds_view x.feeds) batch) (one_goes on))
      ∙ sym (filter-map (entry_with_id records) goes_now (entry_ids_of (feeds_view x.feeds) batch))
      ∙ ap (filter goes_now) (entry_ids-are i records heard (feeds_view x.feeds) s.feeds batch inside)

  going-at_once : x.sealing ≡ false → entries_with_ids records (filter (goes_in records x) (entry_ids_of (feeds_view x.feeds) batch)) ≡ entries_of i (batch_with_ids records batch)
  going-at_once off =
      ap (entries_with_ids records) (filter_all (goes_in records x) (entry_ids_of (feeds_view x.feeds) batch) (λ e. ap (λ b. not b || (not (list_any (is_same_entry_id e) x.waiting.log) && is_due_in (feeds_view x.feeds) (key_in (feeds_view x.feeds) (entry_with_id records e)))) off))
      ∙ entry_ids-are i records heard (feeds_view x.feeds) s.feeds batch inside

-- ---- what is released

count_ports : (i : Instance) (records : List Record) (heard : List Pair) (f : FeedsView) → FeedsHeard i records heard f → port_count f ≡ length i.ports
count_ports i records heard f s = ap (length {A = PortKey}) s.ports

-- the timesteps of these entries, where some partition becomes whole: those at carrying ports in one, and then the others one by one
abbrev steps_released : List Record → FeedsView → (whole : List Record) → List EntryId → List Sets
steps_released records f [] entries = []
steps_released records f (key ∷ keys) entries =
    timestep_of (port_count f) (entries_with_ids records (filter (λ entry. carries_in f entry.0) entries))
    ∷ one_by_one (port_count f) (entries_with_ids records (filter (λ entry. not (carries_in f entry.0)) entries))

-- are those of the parts in which they are released
parts_steps : (records : List Record) (f : FeedsView) (whole : List Record) (entries : List EntryId) (released : Option Released) → AreReleased f whole entries released → released_read records (port_count f) released ≡ steps_released records f whole entries
parts_steps records f [] entries None h = refl
parts_steps records f [] entries (Some parts) h = absurd h
parts_steps records f (key ∷ keys) entries None h = absurd h
parts_steps records f (key ∷ keys) entries (Some parts) h =
    ap (λ (own : List EntryId). timestep_of (port_count f) (entries_with_ids records own) ∷ one_by_one (port_count f) (entries_with_ids records parts.alone.items)) h.together
    ∙ ap (λ (others : List EntryId). timestep_of (port_count f) (entries_with_ids records (filter (λ entry. carries_in f entry.0) entries)) ∷ one_by_one (port_count f) (entries_with_ids records others)) h.alone

pub released_first : (i : Instance) (records : List Record) (waits : Entry → Bool) (heard : List Pair) (f : FeedsView) (w : Waiting) (whole : List Record) → FeedsHeard i records heard f → WaitingHeard i records waits heard w
    → steps_released records f whole (released_of w whole) ≡ first_part i whole (entries_of i heard)
released_first i records waits heard f w [] s t = refl
released_first i records waits heard f w (key ∷ keys) s t =
    let entries : List EntryId = released_of w (key ∷ keys) in
    let own : Entry → Bool = λ entry. is_carrying i entry.0 in
    let other : Entry → Bool = λ entry. not (is_carrying i entry.0) in
    let chosen : entries_with_ids records entries ≡ filter (is_of_some i (key ∷ keys)) (firsts is_same_entry (entries_of i heard)) =
    released-is i records waits heard w t (key ∷ keys) ∙ ap (filter (is_of_some i (key ∷ keys))) t.log in
    let ports = count_ports i records heard f s in
    let own_are : entries_with_ids records (filter (λ entry. carries_in f entry.0) entries) ≡ filter own (entries_with_ids records entries) =
    ap (entries_with_ids records) (filter_same (λ (entry : EntryId). carries_in f entry.0) (λ (entry : EntryId). is_carrying i entry.0) entries (λ e h. carries_in-is i records heard f e.0 s))
    ∙ sym (filter-map (entry_with_id records) own entries) in
    let others_are : entries_with_ids records (filter (λ entry. not (carries_in f entry.0)) entries) ≡ filter other (entries_with_ids records entries) =
    ap (entries_with_ids records) (filter_same (λ (entry : EntryId). not (carries_in f entry.0)) (λ (entry : EntryId). not (is_carrying i entry.0)) entries (λ e h. ap not (carries_in-is i records heard f e.0 s)))
    ∙ sym (filter-map (entry_with_id records) other entries) in
    ap (λ (n : ℕ). timestep_of n (entries_with_ids records (filter (λ entry. carries_in f entry.0) entries)) ∷ one_by_one n (entries_with_ids records (filter (λ entry. not (carries_in f entry.0)) entries))) ports
    ∙ ap (λ l. timestep_of (length i.ports) l ∷ one_by_one (length i.ports) (entries_with_ids records (filter (λ entry. not (carries_in f entry.0)) entries))) own_are
    ∙ ap (λ l. timestep_of (length i.ports) (filter own (entries_with_ids records entries)) ∷ one_by_one (length i.ports) l) others_are
    ∙ first_steps-are i (entries_of i heard) (entries_with_ids records entries) (key ∷ keys) chosen

-- ---- a whole batch

-- what the code says of the batch, from its beginning over its middle, when all is heard, to its end
pub record HearsBatch (records : List Record) (old mid new : Inbox) (touched : List Touched) (batch : List (ℕ × IdMessage)) (whole : List Record) (released : Option Released) (first steps : List Sets) : Type 0 where
  pub pool : IsPool records
  pub inside : (pair : ℕ × IdMessage) → Has pair batch → pair.0 < feed_count (feeds_view old.feeds)
  pub given : (pair : ℕ × IdMessage) → Has pair batch → IsGiven records pair.1
  pub touched_are : AreTouched records (feeds_view old.feeds) (partitions old.feeds) batch touched
  pub whole_are : whole ≡ set_of (filter_map (became_key (feeds_view mid.feeds) (partitions old.feeds)) touched)
  pub releases : Releases mid new (cond mid.sealing whole []) released
  pub first_are : first ≡ released_read records (port_count (feeds_view old.feeds)) released
  pub steps_are : steps ≡ first ++ one_timestep (port_count (feeds_view old.feeds)) (entries_with_ids records (filter (goes_in records old) (entry_ids_of (feeds_view old.feeds) batch)))

pairs_inside : (records : List Record) (count : ℕ) (batch : List (ℕ × IdMessage)) → ((pair : ℕ × IdMessage) → Has pair batch → pair.0 < count) → (pair : Pair) → Has pair (batch_with_ids records batch) → pair.0 < count
pairs_inside records count batch inside pair h =
    let m = Has-from_map (pair_with_id records) pair batch h in
    subst (λ (n : ℕ). n < count) (ap (λ (p : Pair). p.0) m.2) (inside m.0 m.1)

module _ (records : List Record) (old mid new : Inbox) (touched : List Touched) (batch : List (ℕ × IdMessage)) (whole : List Record) (released : Option Released) (first steps : List Sets)
    (h : HearsBatch records old mid new touched batch whole released first steps) (i : Instance) (batches : List Batch) (s : HasHeard i records batches old)
    (m : Keeps i records (λ entry. not (is_due i (all_pairs batches) entry)) (all_pairs batches ++ batch_with_ids records batch) mid) where
  pub whole-is : whole ≡ newly_whole i (all_pairs batches) (batch_with_ids records batch)
  whole-is =
      let keys : List Record = filter_map (open_key (feeds_view old.feeds)) (batch_with_ids records batch) in
      newly-is i records (all_pairs batches) (batch_with_ids records batch) (feeds_view old.feeds) (feeds_view mid.feeds) (set_of keys) whole s.feeds m.feeds (pairs_inside records (feed_count (feeds_view old.feeds)) batch h.inside) refl
      (h.whole_are ∙ whole-among records (feeds_view old.feeds) (feeds_view mid.feeds) (partitions old.feeds) batch touched h.touched_are)

  same_mode : old.sealing ≡ mid.sealing
  same_mode = s.mode ∙ sym m.mode

  first_released : first ≡ steps_released records (feeds_view mid.feeds) (cond mid.sealing whole []) (released_of mid.waiting (cond mid.sealing whole []))
  first_released =
      let before : port_count (feeds_view old.feeds) ≡ length i.ports = count_ports i records (all_pairs batches) (feeds_view old.feeds) s.feeds in
      let after : port_count (feeds_view mid.feeds) ≡ length i.ports = count_ports i records (all_pairs batches ++ batch_with_ids records batch) (feeds_view mid.feeds) m.feeds in
      h.first_are ∙ ap (λ (n : ℕ). released_read records n released) (before ∙ sym after)
      ∙ parts_steps records (feeds_view mid.feeds) (cond mid.sealing whole []) (released_of mid.waiting (cond mid.sealing whole [])) released h.releases.parts

  pub steps-are : steps ≡ steps_in i.mode i (all_pairs batches) (batch_with_ids records batch)
  steps-are =
      let heard : List Pair = all_pairs batches in
      let more : Batch = batch_with_ids records batch in
      let going : List EntryId = filter (goes_in records old) (entry_ids_of (feeds_view old.feeds) batch) in
      h.steps_are
      ∙ ap (λ (n : ℕ). first ++ one_timestep n (entries_with_ids records going)) (count_ports i records heard (feeds_view old.feeds) s.feeds)
      ∙ elim (cases_Bool mid.sealing) [
        | inl on ↦
            let on_old : old.sealing ≡ true = same_mode ∙ on in
            let first_is : first ≡ first_part i (newly_whole i heard more) (entries_of i (heard ++ more)) =
            first_released
            ∙ ap (λ b. steps_released records (feeds_view mid.feeds) (cond b whole []) (released_of mid.waiting (cond b whole []))) on
            ∙ released_first i records (λ entry. not (is_due i heard entry)) (heard ++ more) (feeds_view mid.feeds) mid.waiting whole m.feeds (m.waiting on)
            ∙ ap (λ keys. first_part i keys (entries_of i (heard ++ more))) whole-is in
            ap (λ l. l ++ one_timestep (length i.ports) (entries_with_ids records going)) first_is
            ∙ ap (λ l. first_part i (newly_whole i heard more) (entries_of i (heard ++ more)) ++ one_timestep (length i.ports) l)
            (going-seal i records (λ entry. not (is_due i heard entry)) heard old s h.pool batch h.inside h.given on_old)
            ∙ sym (sealing_steps i.mode i heard more (sym m.mode ∙ on))
        | inr off ↦
            let off_old : old.sealing ≡ false = same_mode ∙ off in
            let none : first ≡ [] =
            first_released ∙ ap (λ b. steps_released records (feeds_view mid.feeds) (cond b whole []) (released_of mid.waiting (cond b whole []))) off in
            ap (λ l. l ++ one_timestep (length i.ports) (entries_with_ids records going)) none
            ∙ ap (one_timestep (length i.ports)) (going-at_once i records (λ entry. not (is_due i heard entry)) heard old s h.pool batch h.inside h.given off_old)
            ∙ sym (other_steps i.mode i heard more (sym m.mode ∙ off) m.hears)
      ]

  length-released : mid.sealing ≡ true → length (released_of mid.waiting whole) ≡ length (filter (is_of_some i (newly_whole i (all_pairs batches) (batch_with_ids records batch))) (entries_with_ids records mid.waiting.log))
  length-released on =
      sym (length-with_ids (released_of mid.waiting whole))
      ∙ ap (length {A = Entry}) (released-is i records (λ entry. not (is_due i (all_pairs batches) entry)) (all_pairs batches ++ batch_with_ids records batch) mid.waiting (m.waiting on) whole)
      ∙ ap (λ keys. length (filter (is_of_some i keys) (entries_with_ids records mid.waiting.log))) whole-is
    where
      length-with_ids : (entries : List EntryId) → length (entries_with_ids records entries) ≡ length entries
      length-with_ids [] = refl
      length-with_ids (e ∷ entries) = ap suc (length-with_ids entries)

  waiting_then : mid.sealing ≡ true → WaitingHeard i records (λ entry. not (is_due i (all_pairs batches ++ batch_with_ids records batch) entry)) (all_pairs batches ++ batch_with_ids records batch) new.waiting
  waiting_then on =
      let t = m.waiting on in
      let r = h.releases in
      record {
        given = λ e there. t.given e (subst (λ l. Has e l) r.log there);
        log = ap (entries_with_ids records) r.log ∙ t.log;
        within = λ key place there. subst (λ l. place < length l) (sym r.log) (t.within key place (subst (λ p. Has place (places_of p key)) r.places there));
        placed = λ key place there. ap (λ l. is_place_of i records l key place) r.log ∙ t.placed key place (subst (λ p. Has place (places_of p key)) r.places there);
        all = λ key place below e. subst (λ p. Has place (places_of p key)) (sym r.places) (t.all key place (subst (λ l. place < length l) r.log below) (ap (λ l. is_place_of i records l key place) (sym r.log) ∙ e));
        held =
            r.held
            ∙ ap (λ b. mid.waiting.held - length (released_of mid.waiting (cond b whole []))) on
            ∙ ap (λ (n : ℕ). n - length (released_of mid.waiting whole)) t.held
            ∙ ap (λ (n : ℕ). length (filter (λ entry. not (is_due i (all_pairs batches) entry)) (entries_with_ids records mid.waiting.log)) - n) (length-released on)
            ∙ held-after i (all_pairs batches) (batch_with_ids records batch) (entries_with_ids records mid.waiting.log)
            ∙ ap (λ l. length (filter (λ entry. not (is_due i (all_pairs batches ++ batch_with_ids records batch) entry)) (entries_with_ids records l))) (sym r.log);
      }

  nothing : (n : ℕ) → 0 - n ≡ 0
  nothing n = omega arith

  idle_then : mid.sealing ≡ false → IsIdle new.waiting
  idle_then off =
      let t = m.idle off in
      record {
        log = h.releases.log ∙ t.log;
        held = h.releases.held ∙ ap (λ (n : ℕ). n - length (released_of mid.waiting (cond mid.sealing whole []))) t.held ∙ nothing (length (released_of mid.waiting (cond mid.sealing whole [])));
      }

  stands_then : Keeps i records (λ entry. not (is_due i (all_pairs batches ++ batch_with_ids records batch) entry)) (all_pairs batches ++ batch_with_ids records batch) new
  stands_then = record {
    mode = h.releases.mode ∙ m.mode;
    hears = m.hears;
    come = m.come;
    feeds = subst (λ f. FeedsHeard i records (all_pairs batches ++ batch_with_ids records batch) f) (sym h.releases.feeds) m.feeds;
    waiting = λ on. waiting_then (sym h.releases.mode ∙ on);
    idle = λ off. idle_then (sym h.releases.mode ∙ off);
  }

  pub has_heard : HasHeard i records (batches ++ batch_with_ids records batch ∷ []) new
  has_heard = subst (λ heard. Keeps i records (λ entry. not (is_due i heard entry)) heard new) (sym (all_pairs-more batches (batch_with_ids records batch))) stands_then

-- what the code says of a batch, and of the messages in it, is what the contract says
pub record Heard (records : List Record) (new : Inbox) (batch : List (ℕ × IdMessage)) (whole : List Record) (steps : List Sets) (i : Instance) (batches : List Batch) : Type 0 where
  pub steps_as : steps ≡ steps_in i.mode i (all_pairs batches) (batch_with_ids records batch)
  pub whole_as : whole ≡ newly_whole i (all_pairs batches) (batch_with_ids records batch)
  pub stands : HasHeard i records (batches ++ batch_with_ids records batch ∷ []) new

-- an inbox that is seen as another stands for what that does
seen_stands : (i : Instance) (records : List Record) (waits : Entry → Bool) (heard : List Pair) (old new : Inbox) → IsSeenAs old new → Keeps i records waits heard old → Keeps i records waits heard new
seen_stands i records waits heard old new seen s = record {
  mode = seen.mode ∙ s.mode;
  hears = s.hears;
  come = s.come;
  feeds = subst (λ f. FeedsHeard i records heard f) (sym seen.feeds) s.feeds;
  waiting = λ on. subst (λ w. WaitingHeard i records waits heard w) (sym seen.waiting) (s.waiting (sym seen.mode ∙ on));
  idle = λ off. subst (λ w. IsIdle w) (sym seen.waiting) (s.idle (sym seen.mode ∙ off));
}

pub hears_all : (records : List Record) (first_of old mid new : Inbox) (touched : List Touched) (batch : List (ℕ × IdMessage)) (whole : List Record) (released : Option Released) (first steps : List Sets) → IsSeenAs first_of old → HearsBatch records old mid new touched batch whole released first steps
    → ((i : Instance) (waits : Entry → Bool) (heard : List Pair) → AreHeardAs i records (partitions old.feeds) waits batch touched → Keeps i records waits heard old → Keeps i records waits (heard ++ batch_with_ids records batch) mid)
    → (i : Instance) (batches : List Batch) → HasHeard i records batches first_of → Heard records new batch whole steps i batches
hears_all records first_of old mid new touched batch whole released first steps seen h keeps i batches was =
    let s = seen_stands i records (λ entry. not (is_due i (all_pairs batches) entry)) (all_pairs batches) first_of old seen was in
    let as_said = all_heard_as i records (all_pairs batches) (feeds_view old.feeds) s.feeds (partitions old.feeds) batch touched h.inside h.touched_are in
    let m = keeps i (λ entry. not (is_due i (all_pairs batches) entry)) (all_pairs batches) as_said s in
    record {
      steps_as = steps-are records old mid new touched batch whole released first steps h i batches s m;
      whole_as = whole-is records old mid new touched batch whole released first steps h i batches s m;
      stands = has_heard records old mid new touched batch whole released first steps h i batches s m;
    }

-- ---- what is held

pub held-is : (i : Instance) (records : List Record) (batches : List Batch) (x : Inbox) → HasHeard i records batches x → x.waiting.held ≡ held_count i batches
held-is i records batches x s = elim (cases_Bool x.sealing) [
  | inl on ↦
      let key = seal_key i.mode (sym s.mode ∙ on) in
      let t = s.waiting on in
      t.held ∙ ap (λ l. length (filter (λ entry. not (is_due i (all_pairs batches) entry)) l)) t.log ∙ ap (length {A = Entry}) (sym (seal_held i key.0 batches key.1 s.come))
  | inr off ↦ (s.idle off).held ∙ sym (at_once_held i batches (at_once i.mode (sym s.mode ∙ off) s.hears) s.come)
]

-- the ids of what goes with a batch are given
pub given_going : (records : List Record) (x : Inbox) (batch : List (ℕ × IdMessage)) → ((pair : ℕ × IdMessage) → Has pair batch → IsGiven records pair.1) → All (λ entry. entry.1 < length records) (filter (goes_in records x) (entry_ids_of (feeds_view x.feeds) batch))
given_going records x batch given k d below =
    let chosen : List EntryId = filter (goes_in records x) (entry_ids_of (feeds_view x.feeds) batch) in
    id_given records (feeds_view x.feeds) batch given (get_or chosen k d) (Has-from_filter (goes_in records x) (get_or chosen k d) (entry_ids_of (feeds_view x.feeds) batch) (Has-get_or chosen k d below)).0
