-- A runner that changes one seat as the event says stands for one step more.
use Rattle.std.proofs.Common.{◌≡◌, refl, ap, sym, subst, ◌∙◌, ℕ, ◌+◌, ◌<◌, ◌==◌, ◌&&◌, Bool, true, false, List, [], ◌∷◌, ◌++◌, length, get_or, Some, slice_get}
use Rattle.std.specs.Prelude.{Ok, if◌then◌else◌}
use Rattle.std.specs.List.{fold}
use Rattle.topo_forms.specs.Data.{Data}
use Rattle.topo_forms.specs.View.{is_order_mode, Stream}
use Rattle.topo_forms.specs.Messages.{Message}
use Rattle.messages.specs.Messages.{Batch, Entry, all_pairs}
use Rattle.inbox.specs.Instances.{Instance}
use Rattle.inbox.specs.Timesteps.{set_off}
use Rattle.inbox.specs.Emission.{list_of, emit, begin_life, nothing_emitted}
use Rattle.inbox.specs.Lives.{Lives, one_life, hear_batch, take_entry, forget_all, of_entry, kept_after}
use Rattle.inbox.specs.Wiring.{Wiring, instance_at, is_there}
use Rattle.inbox.specs.Executions.{Execution, first_execution, with_lives, is_hearing, with_logged, emitted_list, after_step}
use Rattle.inbox.specs.Standing.{Seat, SeatStandsFor, Seats, SeatsStandFor, StandsFor}
use Rattle.inbox.specs.Events.{Part, Step}
use Rattle.inbox.proofs.Executions.Appending.{kept_after-hear, kept_after-take, kept_after-forget, legal_more}
use Rattle.inbox.proofs.Executions.Lengthening.{same_numbers, with_logged-lives, with_logged-logs, kept_after-log, hearing_isnt_order, takes_within_logs}
use Rattle.inbox.proofs.Lists.Origins.{list-output}

-- ---- the beginning

-- what stands for no step
abbrev pub first_seats : Wiring → Seats
first_seats w = record { seats = λ c r. record { kept = nothing_emitted (instance_at w c r); heard = []; taken = 0 }; logs = λ c. [] }

none_taken : (i : Instance) → kept_after i [] one_life ≡ nothing_emitted i
none_taken i = kept_by (is_order_mode i.mode) refl
  where
    kept_by : (t : Bool) → is_order_mode i.mode ≡ t → kept_after i [] one_life ≡ nothing_emitted i
    kept_by true e = ap (λ t. fold (emit i) (nothing_emitted i) (if t then [] else [])) e
    kept_by false e = ap (λ t. fold (emit i) (nothing_emitted i) (if t then [] else [])) e

pub stands_first : (w : Wiring) (given : Data) → StandsFor w given [] (first_seats w)
stands_first w given = record {
  execution = first_execution;
  run = refl;
  stands = record {
    seats = λ c r there. record { kept = sym (none_taken (instance_at w c r)); heard = refl; taken = refl };
    logs = λ c. refl;
  };
}

-- ---- the emitted lists

pub stands_emitted : (w : Wiring) (given : Data) (x : Execution) (net : Seats) (s c o r : ℕ) (line : Stream) → SeatsStandFor w x net → slice_get w.streams s ≡ Some line → line.origin ≡ Some (c, o) → is_there w c r ≡ true
    → emitted_list w given x s r ≡ list_of (net.seats c r).kept o
stands_emitted w given x net s c o r line stands at origin there =
    list-output w given x s c o r line at origin
    ∙ ap (λ kept. list_of kept o) (sym (stands.seats c r there).kept)

-- ---- one seat is changed

-- all other seats and the logs stay
pub record OtherSeatsStay (component replica : ℕ) (before after : Seats) : Type 0 where
  pub others : (c r : ℕ) → (c == component && r == replica) ≡ false → after.seats c r ≡ before.seats c r
  pub logs : (c : ℕ) → after.logs c ≡ before.logs c

one_seat : (w : Wiring) (x : Execution) (net after : Seats) (component replica : ℕ) (change : Lives → Lives) → SeatsStandFor w x net → OtherSeatsStay component replica net after
    → SeatStandsFor (instance_at w component replica) (x.logs component) (change (x.lives component replica)) (after.seats component replica)
    → SeatsStandFor w (with_lives component replica change x) after
one_seat w x net after component replica change stands stay new = record {
  seats = λ c r there.
      let P : Bool → Type 0 = λ t. SeatStandsFor (instance_at w c r) (x.logs c) (if t then change (x.lives c r) else x.lives c r) (after.seats c r) in
      elim (c == component && r == replica) as (λ t. (c == component && r == replica) ≡ t → P t) [
        | true ↦ λ e.
            let same = same_numbers c r component replica e in
            subst (λ n. SeatStandsFor (instance_at w n r) (x.logs n) (change (x.lives n r)) (after.seats n r)) (sym same.0)
            (subst (λ m. SeatStandsFor (instance_at w component m) (x.logs component) (change (x.lives component m)) (after.seats component m)) (sym same.1) new)
        | false ↦ λ e. subst (λ seat. SeatStandsFor (instance_at w c r) (x.logs c) (x.lives c r) seat) (sym (stay.others c r e)) (stands.seats c r there)
      ] refl;
  logs = λ c. stay.logs c ∙ stands.logs c;
}

-- what becomes of a seat that hears a batch
abbrev pub seat_hears : Instance → Batch → Seat → Seat
seat_hears i batch seat = record { kept = emit i seat.kept (set_off i (all_pairs seat.heard) batch); heard = seat.heard ++ batch ∷ []; taken = seat.taken }

-- that takes an entry
abbrev pub seat_takes : Instance → Entry → Seat → Seat
seat_takes i entry seat = record { kept = emit i seat.kept (of_entry i entry); heard = seat.heard; taken = seat.taken + 1 }

-- that forgets
abbrev pub seat_forgets : Instance → Seat → Seat
seat_forgets i seat = record { kept = begin_life i seat.kept; heard = []; taken = 0 }

seat-hears : (i : Instance) (log : List Entry) (lives : Lives) (batch : Batch) (seat : Seat) → is_order_mode i.mode ≡ false → SeatStandsFor i log lives seat → SeatStandsFor i log (hear_batch batch lives) (seat_hears i batch seat)
seat-hears i log lives batch seat not_order s = record {
  kept = ap (λ k. emit i k (set_off i (all_pairs seat.heard) batch)) s.kept ∙ ap (λ h. emit i (kept_after i log lives) (set_off i (all_pairs h) batch)) s.heard ∙ sym (kept_after-hear i log lives batch not_order);
  heard = ap (λ h. h ++ batch ∷ []) s.heard;
  taken = s.taken;
}

seat-takes : (i : Instance) (log : List Entry) (lives : Lives) (entry : Entry) (seat : Seat) → is_order_mode i.mode ≡ true → lives.last.taken < length log → get_or log lives.last.taken entry ≡ entry → SeatStandsFor i log lives seat → SeatStandsFor i log (take_entry lives) (seat_takes i entry seat)
seat-takes i log lives entry seat is within next s = record {
  kept = ap (λ k. emit i k (of_entry i entry)) s.kept ∙ sym (kept_after-take i log lives entry is within next);
  heard = s.heard;
  taken = ap (λ n. n + 1) s.taken;
}

seat-forgets : (i : Instance) (log : List Entry) (lives : Lives) (seat : Seat) → SeatStandsFor i log lives seat → SeatStandsFor i log (forget_all lives) (seat_forgets i seat)
seat-forgets i log lives seat s = record { kept = ap (begin_life i) s.kept ∙ sym (kept_after-forget i log lives); heard = refl; taken = refl }

-- ---- the four kinds of steps

-- an instance hears a batch: a legal Deliver or Batch
pub stands_hearing : (w : Wiring) (given : Data) (steps : List Step) (step : Step) (net after : Seats) (s : StandsFor w given steps net) (component replica : ℕ) (parts : List Part) (pairs : Batch)
    → after_step w given step s.execution ≡ Ok (with_lives component replica (hear_batch pairs) s.execution) → is_hearing w component replica parts ≡ true → is_there w component replica ≡ true
    → OtherSeatsStay component replica net after → after.seats component replica ≡ seat_hears (instance_at w component replica) pairs (net.seats component replica)
    → StandsFor w given (steps ++ step ∷ []) after
stands_hearing w given steps step net after s component replica parts pairs at hears there stay changed = record {
  execution = with_lives component replica (hear_batch pairs) s.execution;
  run = legal_more w given steps step s.execution (with_lives component replica (hear_batch pairs) s.execution) s.run at;
  stands = one_seat w s.execution net after component replica (hear_batch pairs) s.stands stay
      (subst (λ seat. SeatStandsFor (instance_at w component replica) (s.execution.logs component) (hear_batch pairs (s.execution.lives component replica)) seat) (sym changed)
      (seat-hears (instance_at w component replica) (s.execution.logs component) (s.execution.lives component replica) pairs (net.seats component replica) (hearing_isnt_order w component replica parts hears) (s.stands.seats component replica there)));
}

-- a replica takes the next entry
pub stands_taking : (w : Wiring) (given : Data) (steps : List Step) (step : Step) (net after : Seats) (s : StandsFor w given steps net) (component replica : ℕ) (entry : Entry)
    → after_step w given step s.execution ≡ Ok (with_lives component replica take_entry s.execution) → is_there w component replica ≡ true → is_order_mode (instance_at w component replica).mode ≡ true
    → (net.seats component replica).taken < length (net.logs component) → get_or (net.logs component) (net.seats component replica).taken entry ≡ entry
    → OtherSeatsStay component replica net after → after.seats component replica ≡ seat_takes (instance_at w component replica) entry (net.seats component replica)
    → StandsFor w given (steps ++ step ∷ []) after
stands_taking w given steps step net after s component replica entry at there order within next stay changed =
    let seat = s.stands.seats component replica there in
    let log = s.stands.logs component in
    let lt : (s.execution.lives component replica).last.taken < length (s.execution.logs component) = subst (λ n. n < length (s.execution.logs component)) seat.taken (subst (λ l. (net.seats component replica).taken < length l) log within) in
    let is_next : get_or (s.execution.logs component) (s.execution.lives component replica).last.taken entry ≡ entry = sym (ap (λ n. get_or (s.execution.logs component) n entry) seat.taken) ∙ sym (ap (λ l. get_or l (net.seats component replica).taken entry) log) ∙ next in
    record {
      execution = with_lives component replica take_entry s.execution;
      run = legal_more w given steps step s.execution (with_lives component replica take_entry s.execution) s.run at;
      stands = one_seat w s.execution net after component replica take_entry s.stands stay
          (subst (λ z. SeatStandsFor (instance_at w component replica) (s.execution.logs component) (take_entry (s.execution.lives component replica)) z) (sym changed)
          (seat-takes (instance_at w component replica) (s.execution.logs component) (s.execution.lives component replica) entry (net.seats component replica) order lt is_next seat));
    }

-- an instance forgets
pub stands_forgetting : (w : Wiring) (given : Data) (steps : List Step) (step : Step) (net after : Seats) (s : StandsFor w given steps net) (component replica : ℕ)
    → after_step w given step s.execution ≡ Ok (with_lives component replica forget_all s.execution) → is_there w component replica ≡ true
    → OtherSeatsStay component replica net after → after.seats component replica ≡ seat_forgets (instance_at w component replica) (net.seats component replica)
    → StandsFor w given (steps ++ step ∷ []) after
stands_forgetting w given steps step net after s component replica at there stay changed = record {
  execution = with_lives component replica forget_all s.execution;
  run = legal_more w given steps step s.execution (with_lives component replica forget_all s.execution) s.run at;
  stands = one_seat w s.execution net after component replica forget_all s.stands stay
      (subst (λ z. SeatStandsFor (instance_at w component replica) (s.execution.logs component) (forget_all (s.execution.lives component replica)) z) (sym changed)
      (seat-forgets (instance_at w component replica) (s.execution.logs component) (s.execution.lives component replica) (net.seats component replica) (s.stands.seats component replica there)));
}

-- a message comes to a log: all seats stay
pub stands_ordering : (w : Wiring) (given : Data) (steps : List Step) (step : Step) (net after : Seats) (s : StandsFor w given steps net) (component port : ℕ) (message : Message)
    → after_step w given step s.execution ≡ Ok (with_logged component port message s.execution)
    → ((c r : ℕ) → after.seats c r ≡ net.seats c r) → ((c : ℕ) → after.logs c ≡ (with_logged component port message s.execution).logs c)
    → StandsFor w given (steps ++ step ∷ []) after
stands_ordering w given steps step net after s component port message at seats new =
    let x = s.execution in
    let y = with_logged component port message x in
    record {
      execution = y;
      run = legal_more w given steps step x y s.run at;
      stands = record {
        seats = λ c r there.
            let old = s.stands.seats c r there in
            let longer = with_logged-logs component port message x c in
            let lives : y.lives c r ≡ x.lives c r = with_logged-lives component port message x c r in
            let same : kept_after (instance_at w c r) (y.logs c) (y.lives c r) ≡ kept_after (instance_at w c r) (x.logs c) (x.lives c r) =
            ap (λ l. kept_after (instance_at w c r) (y.logs c) l) lives
            ∙ ap (λ l. kept_after (instance_at w c r) l (x.lives c r)) (sym longer.with_more)
            ∙ kept_after-log (instance_at w c r) (x.logs c) longer.more (x.lives c r) (takes_within_logs w given steps x s.run c r) in
            record {
              kept = ap (λ seat. seat.kept) (seats c r) ∙ old.kept ∙ sym same;
              heard = ap (λ seat. seat.heard) (seats c r) ∙ old.heard ∙ ap (λ l. l.last.heard) (sym lives);
              taken = ap (λ seat. seat.taken) (seats c r) ∙ old.taken ∙ ap (λ l. l.last.taken) (sym lives);
            };
        logs = new;
      };
    }
