-- Which instances hear messages themselves, and what an event that is a hearing makes of an execution.
use Rattle.std.proofs.Common.{◌≡◌, ◌<◌, ◌≤◌, ◌&&◌, ℕ, not, nat_lt, true, false, List, [], ◌∷◌, length, map, refl, ap, ◌∙◌, sym, subst, inl, inr, arith}
use Rattle.std.specs.Prelude.{Result, Ok, Err, if◌then◌else◌}
use Rattle.std.proofs.lemmas.Bool.{cases_lt, ltb-true, not-true, and_parts}
use Rattle.std.proofs.lemmas.Bool.Decides.{nat_tests}
use Rattle.std.proofs.lemmas.List.{get_or_past}
use Rattle.topo_forms.specs.Data.{Data}
use Rattle.blz_value.specs.NumberSets.{below}
use Rattle.topo_forms.specs.View.{View, replicas_of, component_numbers, is_order, is_order_mode}
use Rattle.inbox.specs.Instances.{Instance}
use Rattle.messages.specs.Messages.{Batch}
use Rattle.inbox.specs.Lives.{hear_batch}
use Rattle.inbox.specs.Wiring.{wiring_of, instances_at, instance_at, instance_for, is_there}
use Rattle.inbox.specs.Executions.{Execution, with_lives, is_hearing, after_hearing, pairs_of, result_and_then}
use Rattle.inbox.specs.Events.{Part, Refusal, no_instance}
use Rattle.inbox.proofs.WiringLemmas.{instance-wired, there-wired, length-below}
use Rattle.sched_net.specs.Code.Parts.{hears_itself}
use Rattle.sched_net.proofs.Showing.{is_there-true}

pub record HearsItself (v : View) (c r : ℕ) : Type 0 where
  pub there : c < length v.components
  pub within : r < replicas_of v c
  pub order : is_order v c ≡ false

pub hears_is : (v : View) (c r : ℕ) → hears_itself v c r ≡ true → HearsItself v c r
hears_is v c r e =
    let first = and_parts (nat_lt c (length v.components)) (nat_lt r (replicas_of v c) && not (is_order v c)) e in
    let rest = and_parts (nat_lt r (replicas_of v c)) (not (is_order v c)) first.1 in
    record { there = ltb-true c (length v.components) first.0; within = ltb-true r (replicas_of v c) rest.0; order = not-true (is_order v c) rest.1 }

-- the mode of an instance
pub mode-wired : (v : View) (c r : ℕ) → c < length v.components → r < replicas_of v c → is_order_mode (instance_at (wiring_of v) c r).mode ≡ is_order v c
mode-wired v c r there within = ap (λ (i : Instance). is_order_mode i.mode) (instance-wired v c r there within)

-- past the end there is no component
pub no_instances : (v : View) (c : ℕ) → length v.components ≤ c → instances_at (wiring_of v) c ≡ []
unfolding wiring_of
no_instances v c past =
    let f : ℕ → List Instance = λ n. map (instance_for v n) (below (replicas_of v n)) in
    get_or_past (map f (component_numbers v)) c [] (subst (λ n. n ≤ c) (sym (length-below f (length v.components))) past)

not_there : (v : View) (c r : ℕ) → length v.components ≤ c → is_there (wiring_of v) c r ≡ false
not_there v c r past =
    let none : nat_lt r 0 ≡ false = grind (arith, nat_tests) in
    ap (λ (l : List Instance). nat_lt r (length l)) (no_instances v c past) ∙ none

-- a hearing of no part, or at an instance that doesn't hear messages itself
pub hearing_refused : (v : View) (c r : ℕ) (parts : List Part) → hears_itself v c r ≡ false → is_hearing (wiring_of v) c r parts ≡ false
hearing_refused v c r [] e = refl
hearing_refused v c r (part ∷ parts) e = elim (cases_lt c (length v.components)) [
  | inl there ↦
      let first : nat_lt c (length v.components) ≡ true = grind (arith, nat_tests) in
      elim (cases_lt r (replicas_of v c)) [
        | inl within ↦
            let second : nat_lt r (replicas_of v c) ≡ true = grind (arith, nat_tests) in
            ap (λ b. b && not (is_order_mode (instance_at (wiring_of v) c r).mode)) (is_there-true v c r there within)
            ∙ ap (λ b. not b) (mode-wired v c r there within)
            ∙ sym (ap (λ b. b && (nat_lt r (replicas_of v c) && not (is_order v c))) first ∙ ap (λ b. b && not (is_order v c)) second)
            ∙ e
        | inr past ↦
            let second : nat_lt r (replicas_of v c) ≡ false = grind (arith, nat_tests) in
            ap (λ b. b && not (is_order_mode (instance_at (wiring_of v) c r).mode)) (there-wired v c r there ∙ second)
      ]
  | inr past ↦ ap (λ b. b && not (is_order_mode (instance_at (wiring_of v) c r).mode)) (not_there v c r past)
]

pub hearing_of_none : (v : View) (c r : ℕ) (parts : List Part) → length parts ≡ 0 → is_hearing (wiring_of v) c r parts ≡ false
hearing_of_none v c r [] none = refl
hearing_of_none v c r (part ∷ parts) none = absurd (omega (arith, none))

pub hearing_holds : (v : View) (c r : ℕ) (parts : List Part) → hears_itself v c r ≡ true → 0 < length parts → is_hearing (wiring_of v) c r parts ≡ true
hearing_holds v c r [] e some = absurd (omega (arith, some))
hearing_holds v c r (part ∷ parts) e some =
    let h = hears_is v c r e in
    ap (λ b. b && not (is_order_mode (instance_at (wiring_of v) c r).mode)) (is_there-true v c r h.there h.within)
    ∙ ap (λ b. not b) (mode-wired v c r h.there h.within ∙ h.order)

-- ---- after a hearing

module _ (v : View) (given : Data) (c r : ℕ) (parts : List Part) (x : Execution) where
  pub after_none : is_hearing (wiring_of v) c r parts ≡ false → after_hearing (wiring_of v) given parts c r x ≡ Err no_instance
  after_none e = ap (λ b. if b then result_and_then (pairs_of (wiring_of v) given x (instance_at (wiring_of v) c r) parts) (λ pairs. Ok (with_lives c r (hear_batch pairs) x)) else Err no_instance) e

  after_pairs : (answer : Result Batch Refusal) → is_hearing (wiring_of v) c r parts ≡ true → pairs_of (wiring_of v) given x (instance_at (wiring_of v) c r) parts ≡ answer
      → after_hearing (wiring_of v) given parts c r x ≡ result_and_then answer (λ pairs. Ok (with_lives c r (hear_batch pairs) x))
  after_pairs answer e is =
      ap (λ b. if b then result_and_then (pairs_of (wiring_of v) given x (instance_at (wiring_of v) c r) parts) (λ pairs. Ok (with_lives c r (hear_batch pairs) x)) else Err no_instance) e
      ∙ ap (λ a. result_and_then a (λ pairs. Ok (with_lives c r (hear_batch pairs) x))) is

  pub after_refused : (refusal : Refusal) → is_hearing (wiring_of v) c r parts ≡ true → pairs_of (wiring_of v) given x (instance_at (wiring_of v) c r) parts ≡ Err refusal → after_hearing (wiring_of v) given parts c r x ≡ Err refusal
  after_refused refusal e is = after_pairs (Err refusal) e is

  pub after_heard : (batch : Batch) → is_hearing (wiring_of v) c r parts ≡ true → pairs_of (wiring_of v) given x (instance_at (wiring_of v) c r) parts ≡ Ok batch → after_hearing (wiring_of v) given parts c r x ≡ Ok (with_lives c r (hear_batch batch) x)
  after_heard batch e is = after_pairs (Ok batch) e is
