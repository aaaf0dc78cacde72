-- What a net finds held in an inbox is what the execution holds there, and where no inbox is nothing is held.
use Rattle.std.proofs.Common.{◌≡◌, ◌<◌, ◌≤◌, ◌==◌, ◌&&◌, ℕ, Bool, true, false, not, None, Some, List, [], ◌∷◌, length, map, slice_get, refl, ap, ◌∙◌, sym, subst, inl, inr, nat_lt, arith}
use Rattle.std.specs.Prelude.{Ok, if◌then◌else◌}
use Rattle.std.proofs.lemmas.Bool.{cases_Bool, cases_lt}
use Rattle.std.proofs.lemmas.List.{get_or_past}
use Rattle.std.proofs.lemmas.Option.{slice_get_cases}
use Rattle.blz_value.specs.Record.{Row as Record}
use Rattle.topo_forms.specs.Data.{Data}
use Rattle.blz_value.specs.NumberSets.{below}
use Rattle.blz_value.proofs.Lists.{lt-not}
use Rattle.topo_forms.specs.View.{View, Component, no_component, component_numbers, replicas_of, is_order, is_order_mode}
use Rattle.inbox.specs.Completeness.{held_count_at}
use Rattle.inbox.specs.Events.{Part, Step}
use Rattle.inbox.specs.Executions.{Execution, with_lives, is_hearing, execution_of}
use Rattle.inbox.specs.Inbox.{HasHeard}
use Rattle.inbox.specs.Instances.{Instance}
use Rattle.inbox.specs.declared.inbox.Inbox.{Inbox}
use Rattle.inbox.specs.Lives.{Lives, hear_batch, take_entry, forget_all}
use Rattle.messages.specs.Messages.{Batch}
use Rattle.inbox.specs.Timesteps.{held_count}
use Rattle.inbox.specs.Wiring.{Wiring, instances_at, instance_at, instance_for, is_there, wiring_of}
use Rattle.inbox.proofs.Executions.Histories.{Changes, hears, logs, takes, forgets, step_changes, by_history}
use Rattle.inbox.proofs.Executions.Lengthening.{same_numbers, with_logged-lives, lives-other}
use Rattle.inbox.proofs.WiringLemmas.{instance-wired, there-wired, length-below}
use Rattle.sched_net.specs.Net.{BooksStand, ShowsEar, execution_in}
use Rattle.inbox.specs.Places.{instance_place}
use Rattle.sched_net.specs.declared.books.Books.{Books}
use Rattle.sched_net.specs.declared.seated.Ear.{Ear}
use Rattle.sched_net.specs.declared.seated.Ear.TheVariants.{Hears, Takes}
use Rattle.sched_net.specs.declared.seated.Seated.{Seated}
use Rattle.sched_net.specs.Seen.{seat_seen, IsHeldBy}
use Rattle.sched_net.proofs.Found.{seat_there, no_seat_there, instance_within}
use Rattle.sched_net.proofs.Showing.{is_there-true}

-- ---- who hears nothing

-- the instance isn't there, or its component is Order
abbrev pub IsDeaf : Wiring → (component replica : ℕ) → Type 0
IsDeaf w c r = (is_there w c r && not (is_order_mode (instance_at w c r).mode)) ≡ false

-- no such instance heard anything in its last life
abbrev HeardNone : Wiring → Execution → Type 0
HeardNone w x = (c r : ℕ) → IsDeaf w c r → (x.lives c r).last.heard ≡ []

hearing-not_deaf : (w : Wiring) (c r : ℕ) (parts : List Part) → is_hearing w c r parts ≡ true → IsDeaf w c r → ⊥
hearing-not_deaf w c r [] is deaf = cc
hearing-not_deaf w c r (part ∷ parts) is deaf = let no : true ≡ false = sym is ∙ deaf in cc

-- a change of the lives of one instance that hears nothing more, or isn't deaf
changed_lives : (w : Wiring) (x : Execution) (c r : ℕ) (change : Lives → Lives) → HeardNone w x → (IsDeaf w c r → (change (x.lives c r)).last.heard ≡ []) → HeardNone w (with_lives c r change x)
changed_lives w x c r change none new m n deaf = elim (cases_Bool (m == c && n == r)) [
  | inl same ↦
      let numbers = same_numbers m n c r same in
      let own : IsDeaf w c r = subst (λ k. IsDeaf w c k) numbers.1 (subst (λ k. IsDeaf w k n) numbers.0 deaf) in
      ap (λ t. (if t then change (x.lives m n) else x.lives m n).last.heard) same
      ∙ ap (λ k. (change (x.lives k n)).last.heard) numbers.0
      ∙ ap (λ k. (change (x.lives c k)).last.heard) numbers.1
      ∙ new own
  | inr other ↦ ap (λ (l : Lives). l.last.heard) (lives-other c r m n change x other) ∙ none m n deaf
]

step_none : (w : Wiring) (given : Data) (x y : Execution) → HeardNone w x → Changes w given x y → HeardNone w y
step_none w given x y none (hears c r parts pairs is at e) = subst (HeardNone w) e (changed_lives w x c r (hear_batch pairs) none (λ deaf. absurd (hearing-not_deaf w c r parts is deaf)))
step_none w given x y none (logs c part pair is at e) = subst (HeardNone w) e (λ m n deaf. ap (λ (l : Lives). l.last.heard) (with_logged-lives c part.port pair.1 x m n) ∙ none m n deaf)
step_none w given x y none (takes c r is less e) = subst (HeardNone w) e (changed_lives w x c r take_entry none (λ deaf. none c r deaf))
step_none w given x y none (forgets c r is e) = subst (HeardNone w) e (changed_lives w x c r forget_all none (λ deaf. refl))

pub deaf_heard_none : (w : Wiring) (given : Data) (steps : List Step) (x : Execution) → execution_of w given steps ≡ Ok x → HeardNone w x
deaf_heard_none w given steps x legal = by_history w given (HeardNone w) (λ c r deaf. refl) (λ y z step none at. step_none w given y z none (step_changes w given step y z at)) steps x legal

deaf_holds_none : (w : Wiring) (given : Data) (steps : List Step) (x : Execution) (c r : ℕ) → execution_of w given steps ≡ Ok x → IsDeaf w c r → held_count_at w x c r ≡ 0
deaf_holds_none w given steps x c r legal deaf = ap (held_count (instance_at w c r)) (deaf_heard_none w given steps x legal c r deaf)

-- ---- instances of a topology

none_wired : (v : View) (c : ℕ) → length v.components ≤ c → instances_at (wiring_of v) c ≡ []
unfolding wiring_of
none_wired v c past = get_or_past (map (λ n. map (instance_for v n) (below (replicas_of v n))) (component_numbers v)) c [] (omega (arith, past, length-below (λ n. map (instance_for v n) (below (replicas_of v n))) (length v.components)))

pub not_there : (v : View) (c r : ℕ) → replicas_of v c ≤ r → is_there (wiring_of v) c r ≡ false
not_there v c r past = elim (cases_lt c (length v.components)) [
  | inl there ↦ there-wired v c r there ∙ lt-not r (replicas_of v c) past
  | inr none ↦ ap (λ (l : List Instance). nat_lt r (length l)) (none_wired v c none) ∙ lt-not r 0 (omega arith)
]

pub past_is_deaf : (v : View) (c r : ℕ) → replicas_of v c ≤ r → IsDeaf (wiring_of v) c r
past_is_deaf v c r past = ap (λ t. t && not (is_order_mode (instance_at (wiring_of v) c r).mode)) (not_there v c r past)

pub component_of_replica : (v : View) (c r : ℕ) → r < replicas_of v c → c < length v.components
component_of_replica v c r within = elim (cases_lt c (length v.components)) [
  | inl there ↦ there
  | inr past ↦ absurd (let none : replicas_of v c ≡ 0 = ap (λ (k : Component). k.replicas) (get_or_past v.components c no_component past) in omega (arith, none, within))
]

order_is_deaf : (v : View) (c r : ℕ) → r < replicas_of v c → is_order v c ≡ true → IsDeaf (wiring_of v) c r
order_is_deaf v c r within order =
    let there = component_of_replica v c r within in
    let mode : is_order_mode (instance_at (wiring_of v) c r).mode ≡ true = ap (λ (i : Instance). is_order_mode i.mode) (instance-wired v c r there within) ∙ order in
    ap (λ t. is_there (wiring_of v) c r && not t) mode ∙ never (is_there (wiring_of v) c r)
  where
    never : (t : Bool) → (t && false) ≡ false
    never true = refl
    never false = refl

-- ---- what is held

module _ (v : View) (given : Data) (steps : List Step) (b : Books) (stand : BooksStand v given steps b) where
  pub past_holds_none : (c r : ℕ) → replicas_of v c ≤ r → 0 ≡ held_count_at (wiring_of v) (execution_in stand) c r
  past_holds_none c r past = sym (deaf_holds_none (wiring_of v) given steps (execution_in stand) c r stand.stands.run (past_is_deaf v c r past))

  held_at : (c r : ℕ) → r < replicas_of v c → (ear : Ear) (held : ℕ) → ShowsEar v b.lists c r (stand.seats.seats c r) ear → IsHeldBy ear held → held ≡ held_count_at (wiring_of v) (execution_in stand) c r
  held_at c r within (Hears inbox known) held shows is =
      let there = component_of_replica v c r within in
      let seat = stand.stands.stands.seats c r (is_there-true v c r there within) in
      is (instance_for v c r) b.lists.records (stand.seats.seats c r).heard shows.heard
      ∙ ap (held_count (instance_for v c r)) seat.heard
      ∙ ap (λ (i : Instance). held_count i ((execution_in stand).lives c r).last.heard) (sym (instance-wired v c r there within))
  held_at c r within (Takes taken) held shows is = is ∙ sym (deaf_holds_none (wiring_of v) given steps (execution_in stand) c r stand.stands.run (order_is_deaf v c r within shows.0))

  -- the books of an instance that are found
  pub seat_found : (c r : ℕ) (seated : Seated) → seat_seen v b.seats.items c r ≡ Some seated → (r < replicas_of v c) × (slice_get b.seats.items (instance_place v c r) ≡ Some seated)
  seat_found c r seated is = elim (cases_lt r (replicas_of v c)) [
    | inl within ↦ (within, sym (seat_there v b.seats.items c r within) ∙ is)
    | inr past ↦ (let bad : None ≡ Some seated = sym (no_seat_there v b.seats.items c r past) ∙ is in cc)
  ]

  pub held_found : (c r : ℕ) (seated : Seated) (held : ℕ) → seat_seen v b.seats.items c r ≡ Some seated → IsHeldBy seated.ear held → held ≡ held_count_at (wiring_of v) (execution_in stand) c r
  held_found c r seated held at is =
      let found = seat_found c r seated at in
      held_at c r found.0 seated.ear held (stand.instances.each c r seated (component_of_replica v c r found.0) found.0 found.1).ear is

  pub held_missing : (c r : ℕ) → seat_seen v b.seats.items c r ≡ None → 0 ≡ held_count_at (wiring_of v) (execution_in stand) c r
  held_missing c r none = elim (cases_lt r (replicas_of v c)) [
    | inl within ↦
        let there = component_of_replica v c r within in
        let inside : instance_place v c r < length b.seats.items = instance_within v b (record { given = given; steps = steps; stand = stand }) c r there within in
        absurd (missing (sym (seat_there v b.seats.items c r within) ∙ none) inside)
    | inr past ↦ past_holds_none c r past
  ]
    where
      missing : slice_get b.seats.items (instance_place v c r) ≡ None → instance_place v c r < length b.seats.items → ⊥
      missing gone inside = elim (slice_get_cases b.seats.items (instance_place v c r)).1 [
        | inl there ↦ (let bad : None ≡ Some there.0 = sym gone ∙ there.2 in cc)
        | inr past ↦ omega (arith, past.0, inside)
      ]

-- what an inbox says of what it holds, an ear says that has it
pub held_of : (ear : Ear) (inbox : Inbox) (known : List (List ℕ)) (held : ℕ) → ear ≡ Hears inbox known
    → ((i : Instance) (records : List Record) (batches : List Batch) → HasHeard i records batches inbox → held ≡ held_count i batches) → IsHeldBy ear held
held_of ear inbox known held is each = subst (λ e. IsHeldBy e held) (sym is) each
