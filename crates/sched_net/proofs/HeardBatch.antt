-- An ear that heard a batch stands for what was heard with it, by the lists and the pool from which it came and by later ones.
use Rattle.std.proofs.Common.{◌≡◌, ◌<◌, ℕ, zero, suc, Bool, true, false, Some, List, [], ◌∷◌, ◌++◌, length, get_or, slice_get, refl, ap, ◌∙◌, sym, subst, inl, inr, arith, Result, Ok, Err, IfOk, set}
use Rattle.std.specs.List.{All}
use Rattle.std.proofs.lemmas.Option.{slice_get_within, get_or_from_slice_get, same_Some, slice_get_read}
use Rattle.blz_value.specs.Members.{Has}
use Rattle.blz_value.specs.Record.{Row}
use Rattle.blz_value.proofs.Membership.{Has-get_or, Has-append_left, Has-append_right, Has-append_cases, Has-from_map, All-of_member}
use Rattle.inbox.proofs.TimestepLemmas.UnderSeal.{all_pairs-more}
use Rattle.bloom_forms.specs.Step.{Sets}
use Rattle.topo_forms.specs.Messages.{Message}
use Rattle.topo_forms.specs.View.{View, is_order}
use Rattle.messages.specs.Messages.{Pair, Batch, all_pairs}
use Rattle.messages.specs.Ids.{IsGiven, pair_with_id, batch_with_ids}
use Rattle.inbox.specs.Instances.{Instance}
use Rattle.inbox.specs.Timesteps.{SetOff, set_off}
use Rattle.inbox.specs.Wiring.{instance_for, feeds_for}
use Rattle.inbox.specs.Growth.{NoRepeats, is_repeat_of, feed_numbered}
use Rattle.inbox.specs.Inbox.{feeds_in}
use Rattle.inbox.specs.Pools.{IsLater}
use Rattle.inbox.specs.Standing.{Seat}
use Rattle.inbox.specs.declared.inbox.Inbox.{Inbox}
use Rattle.messages.specs.declared.message.Message.{Message as IdMessage}
use Rattle.inbox.proofs.Keeping.Later.{stands_later, keeps_later}
use Rattle.messages.specs.Lists.{Listed, read_lists}
use Rattle.sched_net.specs.Net.{KnowsHeard, ShowsEar, ShowsSeat, list_on}
use Rattle.sched_net.specs.Code.Hearing.{EarCanHear, InboxHears, KnowsMore, EarHears, SeatHears, OneHears}
use Rattle.sched_net.specs.Code.Parts.{HaveIndexes}
use Rattle.sched_net.specs.declared.seated.Ear.{Ear}
use Rattle.sched_net.specs.declared.seated.Ear.TheVariants.{Hears, Takes}
use Rattle.sched_net.specs.declared.seated.Seated.{Seated}
use Rattle.sched_net.proofs.SeatsLemmas.{HasGrown, repeats-itself, found_on, stays_at}

-- ---- indexes

differ : {b : Bool} → b ≡ false → b ≡ true → ⊥
differ {b} e f = let no : false ≡ true = sym e ∙ f in cc

-- a message of a list isn't its first
not_first : (x : Message) (ms : List Message) (m : Message) (b : ℕ) → ((q : Message) → Has q ms → is_repeat_of x q ≡ false) → x ≡ m → b < length ms → get_or ms b m ≡ m → ⊥
not_first x ms m b fresh first within second =
    differ (fresh m (subst (λ z. Has z ms) second (Has-get_or ms b m within))) (subst (λ z. is_repeat_of x z ≡ true) first (repeats-itself x))

once : (ms : List Message) (a b : ℕ) (m : Message) → NoRepeats ms → a < length ms → b < length ms → get_or ms a m ≡ m → get_or ms b m ≡ m → a ≡ b
once [] a b m apart inside within first second = absurd (omega (arith, inside))
once (x ∷ ms) zero zero m apart inside within first second = refl
once (x ∷ ms) zero (suc b) m apart inside within first second = absurd (not_first x ms m b apart.0 first (omega (arith, within)) second)
once (x ∷ ms) (suc a) zero m apart inside within first second = absurd (not_first x ms m a apart.0 second (omega (arith, inside)) first)
once (x ∷ ms) (suc a) (suc b) m apart inside within first second = ap suc (once ms a b m apart.1 (omega (arith, inside)) (omega (arith, within)) first second)

-- a message stands at one index
pub one_index : (ms : List Message) (a b : ℕ) (m : Message) → NoRepeats ms → slice_get ms a ≡ Some m → slice_get ms b ≡ Some m → a ≡ b
one_index ms a b m apart first second = once ms a b m apart (slice_get_within ms a m first) (slice_get_within ms b m second) (get_or_from_slice_get ms a m m first) (get_or_from_slice_get ms b m m second)

module _ (v : View) (i : Instance) (old new : List (List Message)) (heard : List Pair) (batch : Batch) (known : List (List ℕ)) (indexes : List (ℕ × ℕ)) (later : List (List ℕ)) (grown : HasGrown v i old new heard) (of_feeds : (feed : ℕ) (m : Message) → Has (feed, m) batch → feed < length i.feeds) (knows : KnowsHeard v i old heard known) (have : HaveIndexes v i old batch indexes) (more : KnowsMore known indexes later) where
  found_later : (feed index : ℕ) (m : Message) → feed < length i.feeds → slice_get (list_on v old (feed_numbered i feed)) index ≡ Some m → slice_get (list_on v new (feed_numbered i feed)) index ≡ Some m
  found_later feed index m within at = found_on (list_on v old (feed_numbered i feed)) (list_on v new (feed_numbered i feed)) index m (grown.continues feed within) at

  -- with a batch and its indexes
  pub known_with : KnowsHeard v i new (heard ++ batch) later
  known_with = record {
    sound = λ feed index h. elim ((more feed index).0 h) [
      | inl before ↦
          let s = knows.sound feed index before in
          (s.0, found_later feed index s.0 (grown.sent feed s.0 s.2).0 s.1, Has-append_left (feed, s.0) heard batch s.2)
      | inr now ↦
          let s = have.sound feed index now in
          (s.0, found_later feed index s.0 (of_feeds feed s.0 s.2) s.1, Has-append_right (feed, s.0) heard batch s.2)
    ];
    whole = λ feed index m within at h. elim (Has-append_cases (feed, m) heard batch h) [
      | inl before ↦
          let old_at = stays_at (list_on v old (feed_numbered i feed)) (list_on v new (feed_numbered i feed)) index m (grown.continues feed within) (grown.apart feed within) (grown.sent feed m before).1 at in
          (more feed index).1 (inl (knows.whole feed index m within old_at before))
      | inr now ↦
          let s = have.whole feed m now in
          let same : s.0 ≡ index = one_index (list_on v new (feed_numbered i feed)) s.0 index m (grown.apart feed within) (found_later feed s.0 m within s.1) at in
          (more feed index).1 (inr (subst (λ n. Has (feed, n) indexes) same s.2))
    ];
  }

-- the feeds of a batch with ids
pub feeds_of_batch : (records : List Row) (pairs : List (ℕ × IdMessage)) (count : ℕ) → All (λ pair. pair.0 < count) pairs → (feed : ℕ) (m : Message) → Has (feed, m) (batch_with_ids records pairs) → feed < count
feeds_of_batch records pairs count all feed m h =
    let from = Has-from_map (pair_with_id records) (feed, m) pairs h in
    let own : from.0.0 < count = All-of_member (λ (pair : ℕ × IdMessage). pair.0 < count) pairs from.0 all from.1 in
    subst (λ n. n < count) (ap (λ (p : Pair). p.0) from.2) own

-- ---- ears

-- an ear whose inbox heard, and whose indexes are known
pub ear_heard : (records : List Row) (pairs : List (ℕ × IdMessage)) (indexes : List (ℕ × ℕ)) (s : SetOff) (ear : Ear) (inbox next : Inbox) (known later : List (List ℕ)) → ear ≡ Hears inbox known → InboxHears records pairs s inbox next → KnowsMore known indexes later
    → EarHears records pairs indexes s ear (Hears next later)
ear_heard records pairs indexes s ear inbox next known later is hears more =
    subst (λ e. EarHears records pairs indexes s e (Hears next later)) (sym is) (hears, more)

pub set_same : (a b : SetOff) → a.steps ≡ b.steps → a.whole ≡ b.whole → a ≡ b
set_same a b p q =
    let f : List Sets → List Row → SetOff = λ steps whole. record { steps = steps; whole = whole } in
    ap (λ t. f t a.whole) p ∙ ap (λ k. f b.steps k) q

module _ (v : View) (l : Listed) (c r : ℕ) (seat : Seat) (pairs : List (ℕ × IdMessage)) where
  -- a batch can be heard
  pub ear_can : (ear : Ear) → is_order v c ≡ false → All (λ pair. pair.0 < length (feeds_for v c r)) pairs → All (λ pair. IsGiven l.records pair.1) pairs → ShowsEar v l c r seat ear → EarCanHear l.records pairs ear
  ear_can (Hears inbox known) hears feeds given shows = record {
    feeds = subst (λ n. All (λ (pair : ℕ × IdMessage). pair.0 < n) pairs) (sym shows.feeds) feeds;
    given = given;
    kept = shows.kept;
  }
  ear_can (Takes taken) hears feeds given shows = differ hears shows.0

  module _ (indexes : List (ℕ × ℕ)) (s : SetOff) where
    -- what it sets off
    pub ear_sets : (was now : Ear) → ShowsEar v l c r seat was → EarHears l.records pairs indexes s was now → s ≡ set_off (instance_for v c r) (all_pairs seat.heard) (batch_with_ids l.records pairs)
    ear_sets (Hears inbox known) (Hears next later) shows hears =
        set_same s (set_off (instance_for v c r) (all_pairs seat.heard) (batch_with_ids l.records pairs)) (hears.0.steps (instance_for v c r) seat.heard shows.heard) (hears.0.whole (instance_for v c r) seat.heard shows.heard)
    ear_sets (Hears inbox known) (Takes taken) shows hears = absurd hears
    ear_sets (Takes taken) now shows hears = absurd hears

    module _ (new : Listed) (after : Seat) (heard : after.heard ≡ seat.heard ++ batch_with_ids l.records pairs ∷ []) (later : IsLater l.records new.records) (grown : HasGrown v (instance_for v c r) (read_lists l) (read_lists new) (all_pairs seat.heard)) (feeds : All (λ pair. pair.0 < length (feeds_for v c r)) pairs) (have : HaveIndexes v (instance_for v c r) (read_lists l) (batch_with_ids l.records pairs) indexes) where
      -- it stands for the seat that heard it
      ear_after : (was now : Ear) → ShowsEar v l c r seat was → EarHears l.records pairs indexes s was now → ShowsEar v new c r after now
      ear_after (Hears inbox known) (Hears next known_now) shows hears =
          let i : Instance = instance_for v c r in
          let batch : Batch = batch_with_ids l.records pairs in
          record {
            hears = shows.hears;
            heard = subst (λ batches. Rattle.inbox.specs.Inbox.HasHeard i new.records batches next) (sym heard)
                (stands_later i l.records new.records (seat.heard ++ batch ∷ []) next later (hears.0.heard i seat.heard shows.heard));
            kept = keeps_later l.records new.records next later hears.0.kept;
            feeds = hears.0.feeds ∙ shows.feeds;
            known = subst (λ all. KnowsHeard v i (read_lists new) all known_now) (sym (ap all_pairs heard ∙ all_pairs-more seat.heard batch))
                (known_with v i (read_lists l) (read_lists new) (all_pairs seat.heard) batch known indexes known_now grown (feeds_of_batch l.records pairs (length (feeds_for v c r)) feeds) shows.known have hears.1);
          }
      ear_after (Hears inbox known) (Takes taken) shows hears = absurd hears
      ear_after (Takes taken) now shows hears = absurd hears

      pub seat_after : (was now : Seated) → ShowsSeat v l c r seat was → SeatHears l.records pairs indexes s was now → ShowsSeat v new c r after now
      seat_after was now shows hears = record {
        outlets = hears.outlets ∙ shows.outlets;
        feeds = hears.feeds ∙ shows.feeds;
        ear = ear_after was.ear now.ear shows.ear hears.ear;
      }

-- the instance at a place has another ear, with which it heard, and keeps all else
pub heard_there : {X E : Type 0} (records : List Row) (batch : List (ℕ × IdMessage)) (indexes : List (ℕ × ℕ)) (r : Result X E) (off : X → SetOff) (place : ℕ) (seats : List Seated) (was : Seated) (next : Ear) → place < length seats → was ≡ get_or seats place was
    → IfOk r (λ told. EarHears records batch indexes (off told) was.ear next) → IfOk r (λ told. OneHears records batch indexes (off told) place seats (set seats place (record { outlets = was.outlets; feeds = was.feeds; ear = next })))
heard_there records batch indexes (Ok told) off place seats was next inside at hears = record {
  seat = record { outlets = was.outlets; feeds = was.feeds; ear = next };
  changed = refl;
  hears = λ before stood.
      let same : before ≡ was = same_Some before was (sym stood ∙ slice_get_read seats (length seats) place was refl inside at) in
      subst (λ (b : Seated). SeatHears records batch indexes (off told) b (record { outlets = was.outlets; feeds = was.feeds; ear = next })) (sym same) (record { outlets = refl; feeds = refl; ear = hears });
}
heard_there records batch indexes (Err fault) off place seats was next inside at hears = tt
