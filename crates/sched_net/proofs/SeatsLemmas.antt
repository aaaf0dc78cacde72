-- The books of all other instances, and the logs, stay shown after the lists of one instance and the pool grew.
use Rattle.std.proofs.Common.{◌≡◌, ◌≢◌, ◌<◌, ◌==◌, ◌&&◌, ℕ, zero, suc, true, false, Bool, Some, List, [], ◌∷◌, ◌++◌, length, set, slice_get, refl, ap, sym, subst, ◌∙◌, inl, inr, arith, length-append}
use Rattle.std.specs.Prelude.{Ok, if◌then◌else◌}
use Rattle.std.proofs.lemmas.Bool.{cases_Bool, eq-eqb, and_from}
use Rattle.std.proofs.lemmas.Option.{slice_get_within, get_or_from_slice_get, slice_get-get_or}
use Rattle.std.proofs.lemmas.List.{length-set, get_or-set_same, get_or-set_other}
use Rattle.std.proofs.Math.ListN.{get_or-append}
use Rattle.blz_pool.specs.Pool.{IsPool}
use Rattle.blz_value.specs.Members.{Has}
use Rattle.blz_value.specs.Record.{Row}
use Rattle.blz_value.proofs.Membership.{Has-get_or, Has-append_right, Has-from_flat_map}
use Rattle.bloom_forms.specs.Step.{Sets}
use Rattle.topo_forms.specs.Data.{Data}
use Rattle.topo_forms.specs.Feeds.{no_feed}
use Rattle.topo_forms.specs.Messages.{Message, row, seal}
use Rattle.topo_forms.specs.Valid.{IsValid}
use Rattle.topo_forms.specs.View.{View, replicas_of}
use Rattle.inbox.specs.Events.{Step}
use Rattle.inbox.specs.Executions.{Execution, after_step, execution_of, result_and_then, emitted_list}
use Rattle.inbox.specs.Growth.{Continues, NoRepeats, is_repeat_of, feed_numbered}
use Rattle.inbox.specs.Instances.{Instance}
use Rattle.blz_pool.specs.Entries.{EntryId, row_with_id}
use Rattle.messages.specs.Messages.{Pair, all_pairs}
use Rattle.inbox.specs.Pools.{IsLater}
use Rattle.inbox.specs.Standing.{Seat, Seats, StandsFor}
use Rattle.inbox.specs.Wiring.{instance_for, wiring_of}
use Rattle.inbox.proofs.Executions.Appending.{execution_of-more}
use Rattle.inbox.proofs.Executions.Lengthening.{same_numbers, history_grows}
use Rattle.inbox.proofs.Executions.Sent.{history_holds}
use Rattle.inbox.proofs.Keeping.Later.{stands_later, keeps_later, given_later, reads_later}
use Rattle.inbox.proofs.Lists.Repeats.{no_repeats-emitted_list}
use Rattle.messages.proofs.MessagesLemmas.{is_same_row-itself}
use Rattle.inbox.proofs.WiringLemmas.{instance-wired, instance-feeds}
use Rattle.messages.specs.Lists.{Listed, read_lists, list_at}
use Rattle.sched_net.specs.Net.{KnowsHeard, ShowsEar, ShowsSeat, ShowSeats, ShowLogs, list_on}
use Rattle.inbox.specs.Places.{instance_place}
use Rattle.sched_net.specs.Seated.{with_seat}
use Rattle.sched_net.specs.Shown.{ShowsSeats}
use Rattle.sched_net.specs.declared.seated.Ear.{Ear}
use Rattle.sched_net.specs.declared.seated.Ear.TheVariants.{Hears, Takes}
use Rattle.sched_net.specs.declared.seated.Seated.{Seated}
use Rattle.sched_net.proofs.Lifting.{Lifts, same_seat}
use Rattle.inbox.proofs.PlacesLemmas.{one_place, place-before}
use Rattle.sched_net.proofs.Showing.{is_there-true, emitted_shown}

-- ---- a pool that continues is later

pub later_pool : (records later : List Row) → Continues records later → IsPool later → IsLater records later
later_pool records later more pool = record {
  pool = pool;
  count = (let e : length (records ++ more.more) ≡ length later = ap length more.with_more in let sum = length-append records more.more in omega (arith, e, sum));
  same = λ id below. sym (ap (λ l. row_with_id l id) more.with_more) ∙ get_or-append records more.more [] id below;
}

-- ---- one list

pub repeats-itself : (m : Message) → is_repeat_of m m ≡ true
repeats-itself (row r) = is_same_row-itself r
repeats-itself (seal key count) = is_same_row-itself key

-- what stands in a list stands there by number
pub has-by_number : (xs : List Message) (index : ℕ) (m : Message) → slice_get xs index ≡ Some m → Has m xs
has-by_number xs index m is = subst (λ q. Has q xs) (get_or_from_slice_get xs index m m is) (Has-get_or xs index m (slice_get_within xs index m is))

-- a message of a list stands at no place that comes later
stays_in : (old more : List Message) (index : ℕ) (m : Message) → NoRepeats (old ++ more) → Has m old → slice_get (old ++ more) index ≡ Some m → slice_get old index ≡ Some m
stays_in [] more index m apart h is = absurd h
stays_in (x ∷ old) more zero m apart h is = is
stays_in (x ∷ old) more (suc index) m apart (inl first) is =
    let again : is_repeat_of x m ≡ false = apart.0 m (has-by_number (old ++ more) index m is) in
    let itself : is_repeat_of x m ≡ true = subst (λ q. is_repeat_of x q ≡ true) first (repeats-itself x) in
    absurd (differ again itself)
  where
    differ : {b : Bool} → b ≡ false → b ≡ true → ⊥
    differ {b} e f = let no : false ≡ true = sym e ∙ f in cc
stays_in (x ∷ old) more (suc index) m apart (inr h) is = stays_in old more index m apart.1 h is

pub stays_at : (old new : List Message) (index : ℕ) (m : Message) → Continues old new → NoRepeats new → Has m old → slice_get new index ≡ Some m → slice_get old index ≡ Some m
stays_at old new index m more apart h is =
    stays_in old more.more index m (subst NoRepeats (sym more.with_more) apart) h (ap (λ l. slice_get l index) more.with_more ∙ is)

pub found_on : (old new : List Message) (index : ℕ) (m : Message) → Continues old new → slice_get old index ≡ Some m → slice_get new index ≡ Some m
found_on old new index m more is =
    let within = slice_get_within old index m is in
    let longer : index < length (old ++ more.more) = (let sum = length-append old more.more in omega (arith, within, sum)) in
    sym (ap (λ l. slice_get l index) more.with_more)
    ∙ slice_get-get_or (old ++ more.more) index m longer
    ∙ ap Some (get_or-append old more.more m index within ∙ get_or_from_slice_get old index m m is)

-- ---- one instance

-- the lists of its feeds only grew, none repeats a message, and what it heard stood in them before
pub record HasGrown (v : View) (i : Instance) (old new : List (List Message)) (heard : List Pair) : Type 0 where
  pub continues : (feed : ℕ) → feed < length i.feeds → Continues (list_on v old (feed_numbered i feed)) (list_on v new (feed_numbered i feed))
  pub apart : (feed : ℕ) → feed < length i.feeds → NoRepeats (list_on v new (feed_numbered i feed))
  pub sent : (feed : ℕ) (m : Message) → Has (feed, m) heard → (feed < length i.feeds) × Has m (list_on v old (feed_numbered i feed))

pub known_stays : (v : View) (i : Instance) (old new : List (List Message)) (heard : List Pair) (known : List (List ℕ)) → HasGrown v i old new heard → KnowsHeard v i old heard known → KnowsHeard v i new heard known
known_stays v i old new heard known grown k = record {
  sound = λ feed index h.
      let s = k.sound feed index h in
      let sent = grown.sent feed s.0 s.2 in
      (s.0, found_on (list_on v old (feed_numbered i feed)) (list_on v new (feed_numbered i feed)) index s.0 (grown.continues feed sent.0) s.1, s.2);
  whole = λ feed index m within at h.
      k.whole feed index m within
      (stays_at (list_on v old (feed_numbered i feed)) (list_on v new (feed_numbered i feed)) index m (grown.continues feed within) (grown.apart feed within) (grown.sent feed m h).1 at)
      h;
}

pub ear_stays : (v : View) (l later : Listed) (c r : ℕ) (seat : Seat) (ear : Ear) → IsLater l.records later.records → HasGrown v (instance_for v c r) (read_lists l) (read_lists later) (all_pairs seat.heard) → ShowsEar v l c r seat ear → ShowsEar v later c r seat ear
ear_stays v l later c r seat (Hears inbox known) g grown s = record {
  hears = s.hears;
  heard = stands_later (instance_for v c r) l.records later.records seat.heard inbox g s.heard;
  kept = keeps_later l.records later.records inbox g s.kept;
  feeds = s.feeds;
  known = known_stays v (instance_for v c r) (read_lists l) (read_lists later) (all_pairs seat.heard) known grown s.known;
}
ear_stays v l later c r seat (Takes taken) g grown s = s

pub seat_stays : (v : View) (l later : Listed) (c r : ℕ) (seat : Seat) (b : Seated) → IsLater l.records later.records → HasGrown v (instance_for v c r) (read_lists l) (read_lists later) (all_pairs seat.heard) → ShowsSeat v l c r seat b → ShowsSeat v later c r seat b
seat_stays v l later c r seat b g grown s = record { outlets = s.outlets; feeds = s.feeds; ear = ear_stays v l later c r seat b.ear g grown s.ear }

-- ---- logs

pub logs_stay : (v : View) (records later : List Row) (seats after : Seats) (logs : List (List EntryId)) → IsLater records later → ((c : ℕ) → after.logs c ≡ seats.logs c) → ShowLogs v records seats logs → ShowLogs v later after logs
logs_stay v records later seats after logs g same s = record {
  count = s.count;
  each = λ c there. reads_later records later (list_at logs c) g (s.given c there) ∙ s.each c there ∙ sym (same c);
  given = λ c there. given_later records later (list_at logs c) g (s.given c there);
}

-- ---- all instances, where one changed

-- where each other instance's lists have grown
pub seats_stay : (v : View) (l later : Listed) (seats : Seats) (instances : List Seated) (c r : ℕ) (seat : Seat) (b : Seated) → c < length v.components → r < replicas_of v c → IsLater l.records later.records
    → ((m n : ℕ) → m < length v.components → n < replicas_of v m → HasGrown v (instance_for v m n) (read_lists l) (read_lists later) (all_pairs (seats.seats m n).heard))
    → ShowSeats v l seats instances → ShowsSeat v later c r seat b → ShowSeats v later (with_seat c r seat seats) (set instances (instance_place v c r) b)
seats_stay v l later seats instances c r seat b there within g grown s own = record {
  count = length-set instances (instance_place v c r) b ∙ s.count;
  each = each;
}
  where
    differ : {b : Bool} → b ≡ false → b ≡ true → ⊥
    differ {b} e f = let no : false ≡ true = sym e ∙ f in cc

    in_range : instance_place v c r < length instances
    in_range = subst (λ n. instance_place v c r < n) (sym s.count) (place-before (replicas_of v) c r (length v.components) within there)

    each : (m n : ℕ) (x : Seated) → m < length v.components → n < replicas_of v m → slice_get (set instances (instance_place v c r) b) (instance_place v m n) ≡ Some x → ShowsSeat v later m n ((with_seat c r seat seats).seats m n) x
    each m n x here inside is = elim (cases_Bool (m == c && n == r)) [
      | inl same ↦
          let numbers = same_numbers m n c r same in
          let at : slice_get (set instances (instance_place v c r) b) (instance_place v c r) ≡ Some x =
          ap (λ k. slice_get (set instances (instance_place v c r) b) (instance_place v c k)) (sym numbers.1)
          ∙ ap (λ k. slice_get (set instances (instance_place v c r) b) (instance_place v k n)) (sym numbers.0)
          ∙ is in
          let one : b ≡ x =
          sym (get_or-set_same instances (instance_place v c r) b x in_range)
          ∙ get_or_from_slice_get (set instances (instance_place v c r) b) (instance_place v c r) x x at in
          subst (λ k. ShowsSeat v later k n ((with_seat c r seat seats).seats k n) x) (sym numbers.0)
          (subst (λ k. ShowsSeat v later c k ((with_seat c r seat seats).seats c k) x) (sym numbers.1)
          (subst (λ z. ShowsSeat v later c r z x) (sym (same_seat c r seat seats))
          (subst (λ z. ShowsSeat v later c r seat z) one own)))
      | inr off ↦
          let apart : instance_place v m n ≢ instance_place v c r = λ same.
          let numbers = one_place (replicas_of v) m n c r inside within same in
          differ off (and_from (m == c) (n == r) (eq-eqb m c numbers.0) (eq-eqb n r numbers.1)) in
          let seat_is : (with_seat c r seat seats).seats m n ≡ seats.seats m n = ap (λ t. if t then seat else seats.seats m n) off in
          subst (λ z. ShowsSeat v later m n z x) (sym seat_is)
          (seat_stays v l later m n (seats.seats m n) x g (grown m n here inside) (s.each m n x here inside (old m n x here inside apart is)))
    ]
      where
        old : (m n : ℕ) (x : Seated) → m < length v.components → n < replicas_of v m → (instance_place v m n ≢ instance_place v c r) → slice_get (set instances (instance_place v c r) b) (instance_place v m n) ≡ Some x → slice_get instances (instance_place v m n) ≡ Some x
        old m n x here inside apart is =
            let small : instance_place v m n < length instances = subst (λ k. instance_place v m n < k) (sym s.count) (place-before (replicas_of v) m n (length v.components) inside here) in
            slice_get-get_or instances (instance_place v m n) x small
            ∙ ap Some (sym (get_or-set_other instances (instance_place v c r) (instance_place v m n) b x apart) ∙ get_or_from_slice_get (set instances (instance_place v c r) b) (instance_place v m n) x x is)

-- ---- after a step

-- the step after which seats stand was legal, and made what they stand for
pub step_was : (v : View) (given : Data) (steps : List Step) (step : Step) (x y : Execution) → execution_of (wiring_of v) given steps ≡ Ok x → execution_of (wiring_of v) given (steps ++ step ∷ []) ≡ Ok y → after_step (wiring_of v) given step x ≡ Ok y
step_was v given steps step x y run more =
    sym (ap (λ e. result_and_then e (after_step (wiring_of v) given step)) run)
    ∙ sym (execution_of-more (wiring_of v) given steps step)
    ∙ more

module _ (v : View) (given : Data) (steps : List Step) (step : Step) (seats after : Seats) (tables next : List Sets) (old new : List (List Message)) (valid : IsValid v) (stands : StandsFor (wiring_of v) given steps seats) (shows : ShowsSeats v given seats tables old) (lifts : StandsFor (wiring_of v) given (steps ++ step ∷ []) after) (shown : ShowsSeats v given after next new) where
  -- each instance's feeds have grown
  pub has_grown : (c r : ℕ) → c < length v.components → r < replicas_of v c → HasGrown v (instance_for v c r) old new (all_pairs (seats.seats c r).heard)
  has_grown c r there within =
      let i : Instance = instance_for v c r in
      let x : Execution = stands.execution in
      let y : Execution = lifts.execution in
      let legal = step_was v given steps step x y stands.run lifts.run in
      let grows = history_grows (wiring_of v) given steps step x y stands.run legal in
      let into = λ (feed : ℕ) (inside : feed < length i.feeds). instance-feeds v c r (feed_numbered i feed) (Has-get_or i.feeds feed no_feed inside) in
      let before = λ (feed : ℕ) (inside : feed < length i.feeds). emitted_shown v given x seats tables old valid stands.stands shows (feed_numbered i feed).stream (feed_numbered i feed).sender (into feed inside).stream (into feed inside).sender in
      let later = λ (feed : ℕ) (inside : feed < length i.feeds). emitted_shown v given y after next new valid lifts.stands shown (feed_numbered i feed).stream (feed_numbered i feed).sender (into feed inside).stream (into feed inside).sender in
      record {
        continues = λ feed inside.
            subst (λ l. Continues l (list_on v new (feed_numbered i feed))) (sym (before feed inside))
            (subst (λ l. Continues (emitted_list (wiring_of v) given x (feed_numbered i feed).stream (feed_numbered i feed).sender) l) (sym (later feed inside))
            (grows.lists (feed_numbered i feed).stream (feed_numbered i feed).sender));
        apart = λ feed inside. subst NoRepeats (sym (later feed inside)) (no_repeats-emitted_list (wiring_of v) given y (feed_numbered i feed).stream (feed_numbered i feed).sender);
        sent = λ feed m h.
            let seat = stands.stands.seats c r (is_there-true v c r there within) in
            let b = Has-from_flat_map (λ batch. batch) (feed, m) (seats.seats c r).heard h in
            let comes = (history_holds (wiring_of v) given steps x stands.run).hears c r (x.lives c r).last b.0 (feed, m)
            (Has-append_right (x.lives c r).last (x.lives c r).earlier ((x.lives c r).last ∷ []) (inl refl))
            (subst (λ l. Has b.0 l) seat.heard b.1) b.2 in
            let wired = instance-wired v c r there within in
            let inside : feed < length i.feeds = subst (λ z. feed < length z.feeds) wired comes.of_feed in
            (inside, subst (λ l. Has m l) (sym (before feed inside)) (subst (λ z. Has m (emitted_list (wiring_of v) given x (feed_numbered z feed).stream (feed_numbered z feed).sender)) wired comes.sent));
      }

-- the books of all instances, after one of them changed its seat and its lists
pub seats_after : (v : View) (given : Data) (steps : List Step) (step : Step) (seats : Seats) (tables next : List Sets) (l later : Listed) (instances : List Seated) (c r : ℕ) (seat : Seat) (b : Seated) → IsValid v → c < length v.components → r < replicas_of v c
    → StandsFor (wiring_of v) given steps seats → ShowsSeats v given seats tables (read_lists l)
    → Lifts v given (steps ++ step ∷ []) (with_seat c r seat seats) next (read_lists later) → IsLater l.records later.records
    → ShowSeats v l seats instances → ShowsSeat v later c r seat b → ShowSeats v later (with_seat c r seat seats) (set instances (instance_place v c r) b)
seats_after v given steps step seats tables next l later instances c r seat b valid there within stands shows lifts g s own =
    seats_stay v l later seats instances c r seat b there within g
    (has_grown v given steps step seats (with_seat c r seat seats) tables next (read_lists l) (read_lists later) valid stands shows lifts.stands lifts.shows)
    s own
