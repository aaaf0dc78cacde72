-- What holds of all records that come into a region, and of what its members emit of such, holds of all that members hear.
use Rattle.std.proofs.Common.{◌≡◌, ◌<◌, ◌==◌, ◌&&◌, not, ℕ, Bool, true, false, Option, None, Some, List, [], ◌∷◌, length, refl, ap, ◌∙◌, sym, subst, inl, inr, ◌⊎◌}
use Rattle.std.specs.Prelude.{Ok, if◌then◌else◌}
use Rattle.std.specs.Option.{option_map_or}
use Rattle.std.proofs.lemmas.Bool.{cases_Bool}
use Rattle.blz_value.specs.Members.{Has}
use Rattle.blz_value.specs.Record.{Row}
use Rattle.blz_value.proofs.Membership.{Has-append_left, Has-append_right, Has-append_cases, Has-get_or}
use Rattle.topo_forms.specs.Data.{Data}
use Rattle.topo_forms.specs.Feeds.{Feed, no_feed}
use Rattle.blz_value.specs.Graph.{is_in}
use Rattle.topo_forms.specs.Messages.{row}
use Rattle.topo_forms.specs.Valid.{IsValid}
use Rattle.topo_forms.specs.View.{View, End, origin_of, replicas_of, senders_of, stream_replicas, goes_to}
use Rattle.label_walk.specs.Paths.{is_from_outside}
use Rattle.messages.specs.Messages.{Pair, Batch}
use Rattle.inbox.specs.Instances.{Instance}
use Rattle.inbox.specs.Lives.{Life, Lives, one_life, all_lives, empty_life, hear_batch, take_entry, forget_all}
use Rattle.inbox.specs.Wiring.{Wiring, wiring_of, instance_at}
use Rattle.inbox.specs.Executions.{Execution, emitted_list, after_step, execution_of}
use Rattle.inbox.specs.Growth.{feed_numbered, ComesFrom, TakesWithinLogs}
use Rattle.inbox.specs.Events.{Step}
use Rattle.inbox.proofs.Executions.Histories.{by_history, Changes, hears, logs, takes, forgets, step_changes}
use Rattle.inbox.proofs.Executions.Lengthening.{same_numbers, with_logged-lives, step_takes, begun_takes, step_grows}
use Rattle.inbox.proofs.Executions.Sent.{Has-continues, pairs-come}
use Rattle.inbox.proofs.WiringLemmas.{instance-wired, instance-feeds}

-- ---- what lives have heard

-- a pair was heard in some life
pub record Hears (lives : Lives) (pair : Pair) : Type 0 where
  pub life : Life
  pub of_life : Has life (all_lives lives)
  pub batch : Batch
  pub of_batch : Has batch life.heard
  pub there : Has pair batch

-- of the life in which it was heard only what was heard matters
heard_in : (lives : Lives) (pair : Pair) (life : Life) → Has life (all_lives lives) → (batch : Batch) → Has batch life.heard → Has pair batch → Hears lives pair
heard_in lives pair life of_life batch of_batch there = record { life = life; of_life = of_life; batch = batch; of_batch = of_batch; there = there }

last_there : (lives : Lives) → Has lives.last (all_lives lives)
last_there lives = Has-append_right lives.last lives.earlier (lives.last ∷ []) (inl refl)

hears-hear : (lives : Lives) (more : Batch) (pair : Pair) → Hears (hear_batch more lives) pair → Hears lives pair ⊎ Has pair more
hears-hear lives more pair h =
    let changed : Life = (hear_batch more lives).last in
    elim (Has-append_cases h.life lives.earlier (changed ∷ []) h.of_life) [
      | inl old ↦ inl (heard_in lives pair h.life (Has-append_left h.life lives.earlier (lives.last ∷ []) old) h.batch h.of_batch h.there)
      | inr new ↦ elim new [
        | inl e ↦ elim (Has-append_cases h.batch lives.last.heard (more ∷ []) (subst (λ (l : Life). Has h.batch l.heard) (sym e) h.of_batch)) [
          | inl before ↦ inl (heard_in lives pair lives.last (last_there lives) h.batch before h.there)
          | inr now ↦ elim now [
            | inl same ↦ inr (subst (λ (b : Batch). Has pair b) (sym same) h.there)
            | inr never ↦ absurd never
          ]
        ]
        | inr never ↦ absurd never
      ]
    ]

hears-take : (lives : Lives) (pair : Pair) → Hears (take_entry lives) pair → Hears lives pair
hears-take lives pair h =
    let changed : Life = (take_entry lives).last in
    elim (Has-append_cases h.life lives.earlier (changed ∷ []) h.of_life) [
      | inl old ↦ heard_in lives pair h.life (Has-append_left h.life lives.earlier (lives.last ∷ []) old) h.batch h.of_batch h.there
      | inr new ↦ elim new [
        | inl e ↦ heard_in lives pair lives.last (last_there lives) h.batch (subst (λ (l : Life). Has h.batch l.heard) (sym e) h.of_batch) h.there
        | inr never ↦ absurd never
      ]
    ]

hears-forget : (lives : Lives) (pair : Pair) → Hears (forget_all lives) pair → Hears lives pair
hears-forget lives pair h =
    elim (Has-append_cases h.life (all_lives lives) (empty_life ∷ []) h.of_life) [
      | inl old ↦ heard_in lives pair h.life old h.batch h.of_batch h.there
      | inr new ↦ elim new [
        | inl e ↦ absurd (subst (λ (l : Life). Has h.batch l.heard) (sym e) h.of_batch)
        | inr never ↦ absurd never
      ]
    ]

if_changed : (b : Bool) (change : Lives → Lives) (lives : Lives) (pair : Pair) → Hears (if b then change lives else lives) pair → ((b ≡ true) × Hears (change lives) pair) ⊎ Hears lives pair
if_changed true change lives pair h = inl (refl, h)
if_changed false change lives pair h = inr h

-- ---- the induction

module _ (v : View) (d : Data) (valid : IsValid v) (set : ℕ) (Fine : (stream : ℕ) → Row → Type 0) where
  abbrev w : Wiring
  w = wiring_of v

  -- each record that an instance of a member heard is fine
  abbrev pub HeardFine : Execution → Type 0
  HeardFine x = (m i n : ℕ) (r : Row) → m < length v.components → i < replicas_of v m → is_in m set ≡ true → Hears (x.lives m i) (n, row r) → Fine (feed_numbered (instance_at w m i) n).stream r

  -- each record of a stream from outside into a member is fine
  abbrev pub OutsideFine : Execution → Type 0
  OutsideFine x = (s i m p : ℕ) (r : Row) → s < length v.streams → i < stream_replicas v s → is_from_outside v set s ≡ true → is_in m set ≡ true → goes_to v m p s ≡ true → Has (row r) (emitted_list w d x s i) → Fine s r

  -- each record of a member's stream is fine
  abbrev pub EmittedFine : Execution → Type 0
  EmittedFine x = (s m o i : ℕ) (r : Row) → s < length v.streams → origin_of v s ≡ Some (m, o) → i < replicas_of v m → is_in m set ≡ true → Has (row r) (emitted_list w d x s i) → Fine s r

  record Holding (x : Execution) : Type 0 where
    takes_within : TakesWithinLogs x
    fine : OutsideFine x → HeardFine x

  pub outside_cases : (s : ℕ) → (is_from_outside v set s ≡ true) ⊎ ((from : End) × (origin_of v s ≡ Some from) × (is_in from.0 set ≡ true))
  outside_cases s = by (origin_of v s) refl
    where
      by : (origin : Option End) → origin_of v s ≡ origin → (is_from_outside v set s ≡ true) ⊎ ((from : End) × (origin_of v s ≡ Some from) × (is_in from.0 set ≡ true))
      by None e = inl (ap (λ o. option_map_or (λ (output : End). not (is_in output.0 set)) o true) e)
      by (Some from) e = elim (cases_Bool (is_in from.0 set)) [
        | inl t ↦ inr (from, e, t)
        | inr f ↦ inl (ap (λ o. option_map_or (λ (output : End). not (is_in output.0 set)) o true) e ∙ ap not f)
      ]

  module _ (emits : (x : Execution) → HeardFine x → EmittedFine x) where
    -- what comes with a new batch is fine
    new_fine : (x : Execution) → OutsideFine x → HeardFine x → (m i n : ℕ) (r : Row) → m < length v.components → i < replicas_of v m → is_in m set ≡ true
        → n < length (instance_at w m i).feeds → Has (row r) (emitted_list w d x (feed_numbered (instance_at w m i) n).stream (feed_numbered (instance_at w m i) n).sender) → Fine (feed_numbered (instance_at w m i) n).stream r
    new_fine x outside heard m i n r lt_m lt_i member lt_n sent =
        let feed : Feed = feed_numbered (instance_at w m i) n in
        let into = instance-feeds v m i feed (subst (λ (z : Instance). Has feed z.feeds) (instance-wired v m i lt_m lt_i) (Has-get_or (instance_at w m i).feeds n no_feed lt_n)) in
        elim (outside_cases feed.stream) [
          | inl from_out ↦ outside feed.stream feed.sender m feed.port r into.stream into.sender from_out member into.goes sent
          | inr from ↦
              let sends : feed.sender < replicas_of v from.0.0 = subst (λ (o : Option End). feed.sender < senders_of v o) from.1 into.sender in
              emits x heard feed.stream from.0.0 from.0.1 feed.sender r into.stream from.1 sends from.2 sent
        ]

    keeps : (x y : Execution) (step : Step) → Holding x → after_step w d step x ≡ Ok y → Holding y
    keeps x y step h legal =
        let change = step_changes w d step x y legal in
        let grows = step_grows w d x y h.takes_within change in
        record {
          takes_within = step_takes w d x y h.takes_within change;
          fine = λ outside m i n r lt_m lt_i member heard.
              let before : OutsideFine x = λ s j k p q lt_s lt_j out inside goes sent. outside s j k p q lt_s lt_j out inside goes (Has-continues (row q) _ _ (grows.lists s j) sent) in
              let old = h.fine before in
              by change before old m i n r lt_m lt_i member heard;
        }
      where
        by : Changes w d x y → OutsideFine x → HeardFine x → HeardFine y
        by (logs component part pair sequencer ok e) before old m i n r lt_m lt_i member heard =
            old m i n r lt_m lt_i member (subst (λ (l : Lives). Hears l (n, row r)) (ap (λ (z : Execution). z.lives m i) (sym e) ∙ with_logged-lives component part.port pair.1 x m i) heard)
        by (takes component replica there more e) before old m i n r lt_m lt_i member heard =
            old m i n r lt_m lt_i member (elim (if_changed (m == component && i == replica) take_entry (x.lives m i) (n, row r) (subst (λ (z : Execution). Hears (z.lives m i) (n, row r)) (sym e) heard)) [
              | inl now ↦ hears-take (x.lives m i) (n, row r) now.1
              | inr same ↦ same
            ])
        by (forgets component replica there e) before old m i n r lt_m lt_i member heard =
            old m i n r lt_m lt_i member (elim (if_changed (m == component && i == replica) forget_all (x.lives m i) (n, row r) (subst (λ (z : Execution). Hears (z.lives m i) (n, row r)) (sym e) heard)) [
              | inl now ↦ hears-forget (x.lives m i) (n, row r) now.1
              | inr same ↦ same
            ])
        by (hears component replica parts pairs hearing ok e) before old m i n r lt_m lt_i member heard =
            elim (if_changed (m == component && i == replica) (hear_batch pairs) (x.lives m i) (n, row r) (subst (λ (z : Execution). Hears (z.lives m i) (n, row r)) (sym e) heard)) [
              | inr same ↦ old m i n r lt_m lt_i member same
              | inl now ↦ elim (hears-hear (x.lives m i) pairs (n, row r) now.1) [
                | inl earlier ↦ old m i n r lt_m lt_i member earlier
                | inr new ↦
                    let is = same_numbers m i component replica now.0 in
                    let from : ComesFrom w d x (instance_at w component replica) (n, row r) = pairs-come w d x (instance_at w component replica) parts pairs ok (n, row r) new in
                    let here : ComesFrom w d x (instance_at w m i) (n, row r) =
                    subst (λ (k : ℕ). ComesFrom w d x (instance_at w k i) (n, row r)) (sym is.0) (subst (λ (k : ℕ). ComesFrom w d x (instance_at w component k) (n, row r)) (sym is.1) from) in
                    new_fine x before old m i n r lt_m lt_i member here.of_feed here.sent
              ]
            ]

    -- what members heard in a history is fine, and so is what they emitted
    pub all_fine : (steps : List Step) (x : Execution) → execution_of w d steps ≡ Ok x → OutsideFine x → HeardFine x
    all_fine steps x legal =
        (by_history w d Holding (record { takes_within = begun_takes; fine = λ outside m i n r lt_m lt_i member heard. absurd (nothing_heard (n, row r) heard) }) keeps steps x legal).fine
      where
        nothing_heard : (pair : Pair) → ¬ Hears one_life pair
        nothing_heard pair h = elim h.of_life [ inl e ↦ subst (λ (l : Life). Has h.batch l.heard) (sym e) h.of_batch | inr never ↦ never ]
