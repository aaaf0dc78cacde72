-- After a legal event what is open and isn't new was open before, so a window that looked before still shows what is open where it looked.
use Rattle.std.proofs.Common.{◌≡◌, ◌<◌, ◌≤◌, ◌==◌, ◌&&◌, not, nat_lt, ℕ, Bool, true, false, cond, Option, None, Some, List, [], ◌∷◌, length, filter, slice_get, refl, ap, ◌∙◌, sym, subst, inl, inr, arith}
use Rattle.std.specs.Prelude.{Ok, if◌then◌else◌}
use Rattle.std.specs.List.{list_any, range_with_len}
use Rattle.std.specs.Option.{option_map_or, option_and_then}
use Rattle.std.proofs.lemmas.Grind.{flat_map-append}
use Rattle.blz_value.specs.Members.{Has}
use Rattle.blz_value.proofs.Ranges.{Has-from_below as below_is}
use Rattle.messages.proofs.ListsLemmas.{length-continues as front_length}
use Rattle.topo_forms.specs.Data.{Data}
use Rattle.topo_forms.specs.Messages.{Message, row_in}
use Rattle.topo_forms.specs.View.{is_order_mode}
use Rattle.messages.specs.Messages.{Batch, Pair, Entry, all_pairs, is_same_entry, is_same_pair}
use Rattle.inbox.specs.Wiring.{Wiring, instance_at, is_sequencer, is_there}
use Rattle.inbox.specs.Lives.{Lives, hear_batch, take_entry}
use Rattle.inbox.specs.Events.{Part, Event, deliver, batch, order, take_one, Step, event, no_instance, nothing_to_take}
use Rattle.inbox.specs.Executions.{Execution, after_event, after_hearing, after_taking, execution_of, is_hearing, pair_of, pairs_of, result_and_then, with_lives, with_logged}
use Rattle.inbox.specs.Growth.{Continues, IsExtendedBy}
use Rattle.inbox.proofs.Executions.Lengthening.{history_grows, with_logged-lives}
use Rattle.inbox.proofs.Executions.Results.{Ok_same, and_then_Ok, if_Ok}
use Rattle.inbox.proofs.Lists.Growing.{continues_itself}
use Rattle.sched_turns.specs.Windows.{IsWindow, Looked, MayShow}
use Rattle.sched_run.specs.Made.{is_open_in, is_undelivered, is_unordered, lane_list}
use Rattle.sched_run.specs.declared.lanes.Lane.{Lane}
use Rattle.sched_run.specs.declared.lanes.Lane.TheVariants.{Deliver, Order}
use Rattle.sched_run.proofs.FrontsLemmas.{front_get, none_in_front}

-- ---- what an event makes

-- a batch is heard, a message goes to a log, or an entry is taken
pub data Makes (x y : Execution) : Type 0 where
  heard : (component replica : ℕ) (pairs : Batch) → with_lives component replica (hear_batch pairs) x ≡ y → Makes x y
  logged : (component port : ℕ) (message : Message) → with_logged component port message x ≡ y → Makes x y
  took : (component replica : ℕ) → with_lives component replica take_entry x ≡ y → Makes x y

hearing_makes : (w : Wiring) (given : Data) (parts : List Part) (component replica : ℕ) (x y : Execution) → after_hearing w given parts component replica x ≡ Ok y → Makes x y
hearing_makes w given parts component replica x y at =
    let a = if_Ok (is_hearing w component replica parts) (result_and_then (pairs_of w given x (instance_at w component replica) parts) (λ pairs. Ok (with_lives component replica (hear_batch pairs) x))) no_instance y at in
    let b = and_then_Ok (pairs_of w given x (instance_at w component replica) parts) (λ pairs. Ok (with_lives component replica (hear_batch pairs) x)) y a.1 in
    heard component replica b.0 (Ok_same _ _ _ refl b.2)

pub event_makes : (w : Wiring) (given : Data) (e : Event) (x y : Execution) → after_event w given e x ≡ Ok y → Makes x y
event_makes w given (deliver part component replica) x y at = hearing_makes w given (part ∷ []) component replica x y at
event_makes w given (batch parts component replica) x y at = hearing_makes w given parts component replica x y at
event_makes w given (order part component) x y at =
    let a = if_Ok (is_sequencer w component) (result_and_then (pair_of w given x (instance_at w component 0) part) (λ pair. Ok (with_logged component part.port pair.1 x))) no_instance y at in
    let b = and_then_Ok (pair_of w given x (instance_at w component 0) part) (λ pair. Ok (with_logged component part.port pair.1 x)) y a.1 in
    logged component part.port b.0.1 (Ok_same _ _ _ refl b.2)
event_makes w given (take_one component replica) x y at =
    let a = if_Ok (is_there w component replica && is_order_mode (instance_at w component replica).mode) (after_taking component replica x) no_instance y at in
    let b = if_Ok (nat_lt (x.lives component replica).last.taken (length (x.logs component))) (Ok (with_lives component replica take_entry x)) nothing_to_take y a.1 in
    took component replica (Ok_same _ _ _ refl b.1)

-- ---- what was heard in the last life stays

abbrev heard_in : Lives → List Pair
heard_in lives = all_pairs lives.last.heard

either : (P : Lives → Type 0) (b : Bool) (old new : Lives) → P old → P new → P (if b then new else old)
either P true old new p q = q
either P false old new p q = p

pub heard_grows : (x y : Execution) → Makes x y → (c r : ℕ) → Continues (all_pairs (x.lives c r).last.heard) (all_pairs (y.lives c r).last.heard)
heard_grows x y (heard component replica pairs is) c r =
    subst (λ (z : Execution). Continues (heard_in (x.lives c r)) (heard_in (z.lives c r))) is
    (either (λ lives. Continues (heard_in (x.lives c r)) (heard_in lives)) (c == component && r == replica) (x.lives c r) (hear_batch pairs (x.lives c r)) (continues_itself (heard_in (x.lives c r)))
    (record { more = all_pairs (pairs ∷ []); with_more = sym (flat_map-append (λ (b : Batch). b) (x.lives c r).last.heard (pairs ∷ [])) }))
heard_grows x y (logged component port message is) c r =
    subst (λ (z : Execution). Continues (heard_in (x.lives c r)) (heard_in (z.lives c r))) is
    (subst (λ lives. Continues (heard_in (x.lives c r)) (heard_in lives)) (sym (with_logged-lives component port message x c r)) (continues_itself (heard_in (x.lives c r))))
heard_grows x y (took component replica is) c r =
    subst (λ (z : Execution). Continues (heard_in (x.lives c r)) (heard_in (z.lives c r))) is
    (either (λ lives. Continues (heard_in (x.lives c r)) (heard_in lives)) (c == component && r == replica) (x.lives c r) (take_entry (x.lives c r)) (continues_itself (heard_in (x.lives c r))) (continues_itself (heard_in (x.lives c r))))

-- ---- one index

still : {X : Type 0} (o : Option X) (p q : X → Bool) → ((x : X) → q x ≡ true → p x ≡ true) → option_map_or q o false ≡ true → option_map_or p o false ≡ true
still None p q imply e = e
still (Some x) p q imply e = imply x e

undelivered_before : (known later : List Pair) (n : ℕ) (list longer : List Message) (index : ℕ) → Continues known later → Continues list longer → index < length list → is_undelivered later n longer index ≡ true → is_undelivered known n list index ≡ true
undelivered_before known later n list longer index more on within is_open =
    still (slice_get list index) (λ m. not (list_any (is_same_pair (n, m)) known)) (λ m. not (list_any (is_same_pair (n, m)) later)) (λ m none. none_in_front (is_same_pair (n, m)) known later more none)
    (ap (λ o. option_map_or (λ m. not (list_any (is_same_pair (n, m)) later)) o false) (sym (front_get list longer index on within)) ∙ is_open)

unordered_before : (log later : List Entry) (port : ℕ) (list longer : List Message) (index : ℕ) → Continues log later → Continues list longer → index < length list → is_unordered later port longer index ≡ true → is_unordered log port list index ≡ true
unordered_before log later port list longer index more on within is_open =
    still (option_and_then row_in (slice_get list index)) (λ r. not (list_any (is_same_entry (port, r)) log)) (λ r. not (list_any (is_same_entry (port, r)) later)) (λ r none. none_in_front (is_same_entry (port, r)) log later more none)
    (ap (λ o. option_map_or (λ r. not (list_any (is_same_entry (port, r)) later)) (option_and_then row_in o) false) (sym (front_get list longer index on within)) ∙ is_open)

-- ---- a list of numbers

filter_again : (p q : ℕ → Bool) (xs : List ℕ) → ((k : ℕ) → Has k xs → q k ≡ true → p k ≡ true) → filter q (filter p xs) ≡ filter q xs
filter_again p q [] imply = refl
filter_again p q (k ∷ xs) imply = by_test (p k) (q k) refl refl (filter_again p q xs (λ m h. imply m (inr h)))
  where
    by_test : (a b : Bool) → p k ≡ a → q k ≡ b → filter q (filter p xs) ≡ filter q xs → filter q (cond a (k ∷ filter p xs) (filter p xs)) ≡ cond b (k ∷ filter q xs) (filter q xs)
    by_test true b e f rest = ap (λ t. cond t (k ∷ filter q (filter p xs)) (filter q (filter p xs))) f ∙ ap (λ (l : List ℕ). cond b (k ∷ l) l) rest
    by_test false true e f rest = (let bad : false ≡ true = sym e ∙ imply k (inl refl) f in cc)
    by_test false false e f rest = rest

-- ---- one lane

-- its list isn't shorter, and what is open of the indexes that it had was open
pub record OpensOnlyNew (w : Wiring) (given : Data) (x y : Execution) (lane : Lane) : Type 0 where
  pub longer : length (lane_list w given x lane) ≤ length (lane_list w given y lane)
  pub before : (index : ℕ) → index < length (lane_list w given x lane) → is_open_in w given y lane index ≡ true → is_open_in w given x lane index ≡ true

module _ (w : Wiring) (given : Data) where
  pub opens_only_new : (x y : Execution) → IsExtendedBy w given x y → Makes x y → (lane : Lane) → OpensOnlyNew w given x y lane
  opens_only_new x y grows makes (Deliver c r n feed) =
      let list = grows.lists feed.stream feed.sender in
      record {
        longer = front_length (lane_list w given x (Deliver c r n feed)) (lane_list w given y (Deliver c r n feed)) list;
        before = λ index within is_open. undelivered_before (all_pairs (x.lives c r).last.heard) (all_pairs (y.lives c r).last.heard) n (lane_list w given x (Deliver c r n feed)) (lane_list w given y (Deliver c r n feed)) index (heard_grows x y makes c r) list within is_open;
      }
  opens_only_new x y grows makes (Order c feed) =
      let list = grows.lists feed.stream feed.sender in
      record {
        longer = front_length (lane_list w given x (Order c feed)) (lane_list w given y (Order c feed)) list;
        before = λ index within is_open. unordered_before (x.logs c) (y.logs c) feed.port (lane_list w given x (Order c feed)) (lane_list w given y (Order c feed)) index (grows.logs c) list within is_open;
      }

  -- after a legal event
  pub event_opens : (steps : List Step) (e : Event) (x y : Execution) → execution_of w given steps ≡ Ok x → after_event w given e x ≡ Ok y → (lane : Lane) → OpensOnlyNew w given x y lane
  event_opens steps e x y legal at lane = opens_only_new x y (history_grows w given steps (event e) x y legal at) (event_makes w given e x y at) lane

  -- after none, and after one more
  pub none_opens : (x : Execution) (lane : Lane) → OpensOnlyNew w given x x lane
  none_opens x lane = record { longer = omega arith; before = λ index within is_open. is_open }

  pub opens_on : (x y z : Execution) (lane : Lane) → OpensOnlyNew w given x y lane → OpensOnlyNew w given y z lane → OpensOnlyNew w given x z lane
  opens_on x y z lane first second = record {
    longer = omega (arith, first.longer, second.longer);
    before = λ index within is_open. first.before index within (second.before index (omega (arith, first.longer)) is_open);
  }

  -- ---- windows

  pub window_inside : (x y : Execution) (lane : Lane) (window : Looked) → OpensOnlyNew w given x y lane → IsWindow (is_open_in w given x lane) (length (lane_list w given x lane)) window → window.next ≤ length (lane_list w given y lane)
  window_inside x y lane window only is = omega (arith, is.inside, only.longer)

  pub window_shown : (x y : Execution) (lane : Lane) (window : Looked) → OpensOnlyNew w given x y lane → IsWindow (is_open_in w given x lane) (length (lane_list w given x lane)) window → MayShow (is_open_in w given y lane) window
  window_shown x y lane window only is =
      ap (filter (is_open_in w given y lane)) is.below
      ∙ filter_again (is_open_in w given x lane) (is_open_in w given y lane) (range_with_len 0 window.next)
      (λ k h is_open. only.before k (omega (arith, below_is window.next k h, is.inside)) is_open)
