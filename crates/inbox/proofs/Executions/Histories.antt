-- What holds at the beginning and is kept by each legal step holds of every history; and a legal step is of one of four kinds.
use Rattle.std.proofs.Common.{◌≡◌, refl, subst, ℕ, ◌&&◌, nat_lt, true, List, [], ◌∷◌, length}
use Rattle.std.specs.Prelude.{Result, Ok}
use Rattle.std.specs.List.{fold}
use Rattle.topo_forms.specs.Data.{Data}
use Rattle.messages.specs.Messages.{Pair}
use Rattle.topo_forms.specs.View.{is_order_mode}
use Rattle.inbox.specs.Lives.{hear_batch, take_entry, forget_all}
use Rattle.inbox.specs.Wiring.{Wiring, instance_at, is_there, is_sequencer}
use Rattle.inbox.specs.Executions.{Execution, first_execution, with_lives, result_and_then, pairs_of, pair_of, is_hearing, after_hearing, with_logged, after_taking, after_event, after_step, execution_of}
use Rattle.inbox.specs.Events.{Part, Event, deliver, batch, order, take_one, Step, event, forget, Refusal, no_instance, nothing_to_take}
use Rattle.inbox.proofs.Executions.Results.{Ok_same, if_Ok, and_then_Ok}

-- ---- induction over histories

going_on : (w : Wiring) (given : Data) (P : Execution → Type 0) → ((x y : Execution) (step : Step) → P x → after_step w given step x ≡ Ok y → P y)
    → (steps : List Step) (r : Result Execution Refusal) (y : Execution) → ((x : Execution) → r ≡ Ok x → P x) → fold (λ result step. result_and_then result (after_step w given step)) r steps ≡ Ok y → P y
going_on w given P keeps [] r y holds e = holds y e
going_on w given P keeps (step ∷ steps) r y holds e =
    going_on w given P keeps steps (result_and_then r (after_step w given step)) y
    (λ z at. let parts = and_then_Ok r (after_step w given step) z at in keeps parts.0 z step (holds parts.0 parts.1) parts.2) e

-- what holds at the beginning and is kept by each legal step holds after each history
pub by_history : (w : Wiring) (given : Data) (P : Execution → Type 0) → P first_execution → ((x y : Execution) (step : Step) → P x → after_step w given step x ≡ Ok y → P y)
    → (steps : List Step) (y : Execution) → execution_of w given steps ≡ Ok y → P y
by_history w given P first keeps steps y e = going_on w given P keeps steps (Ok first_execution) y (λ x at. subst P (Ok_same (Ok first_execution) first_execution x refl at) first) e

-- ---- what a step changes

-- a legal step is of one of four kinds, and this is what it makes
pub data Changes (w : Wiring) (given : Data) (x y : Execution) : Type 0 where
  hears : (component replica : ℕ) (parts : List Part) (pairs : List Pair) → is_hearing w component replica parts ≡ true → pairs_of w given x (instance_at w component replica) parts ≡ Ok pairs → with_lives component replica (hear_batch pairs) x ≡ y → Changes w given x y
  logs : (component : ℕ) (part : Part) (pair : Pair) → is_sequencer w component ≡ true → pair_of w given x (instance_at w component 0) part ≡ Ok pair → with_logged component part.port pair.1 x ≡ y → Changes w given x y
  takes : (component replica : ℕ) → (is_there w component replica && is_order_mode (instance_at w component replica).mode) ≡ true → nat_lt (x.lives component replica).last.taken (length (x.logs component)) ≡ true → with_lives component replica take_entry x ≡ y → Changes w given x y
  forgets : (component replica : ℕ) → is_there w component replica ≡ true → with_lives component replica forget_all x ≡ y → Changes w given x y

heard_changes : (w : Wiring) (given : Data) (parts : List Part) (component replica : ℕ) (x y : Execution) → after_hearing w given parts component replica x ≡ Ok y → Changes w given x y
heard_changes w given parts component replica x y e =
    let a = if_Ok (is_hearing w component replica parts) (result_and_then (pairs_of w given x (instance_at w component replica) parts) (λ pairs. Ok (with_lives component replica (hear_batch pairs) x))) no_instance y e in
    let b = and_then_Ok (pairs_of w given x (instance_at w component replica) parts) (λ pairs. Ok (with_lives component replica (hear_batch pairs) x)) y a.1 in
    hears component replica parts b.0 a.0 b.1 (Ok_same _ _ _ refl b.2)

event_changes : (w : Wiring) (given : Data) (e : Event) (x y : Execution) → after_event w given e x ≡ Ok y → Changes w given x y
event_changes w given (deliver part component replica) x y at = heard_changes w given (part ∷ []) component replica x y at
event_changes w given (batch parts component replica) x y at = heard_changes w given parts component replica x y at
event_changes w given (order part component) x y at =
    let a = if_Ok (is_sequencer w component) (result_and_then (pair_of w given x (instance_at w component 0) part) (λ pair. Ok (with_logged component part.port pair.1 x))) no_instance y at in
    let b = and_then_Ok (pair_of w given x (instance_at w component 0) part) (λ pair. Ok (with_logged component part.port pair.1 x)) y a.1 in
    logs component part b.0 a.0 b.1 (Ok_same _ _ _ refl b.2)
event_changes w given (take_one component replica) x y at =
    let a = if_Ok (is_there w component replica && is_order_mode (instance_at w component replica).mode) (after_taking component replica x) no_instance y at in
    let b = if_Ok (nat_lt (x.lives component replica).last.taken (length (x.logs component))) (Ok (with_lives component replica take_entry x)) nothing_to_take y a.1 in
    takes component replica a.0 b.0 (Ok_same _ _ _ refl b.1)

pub step_changes : (w : Wiring) (given : Data) (step : Step) (x y : Execution) → after_step w given step x ≡ Ok y → Changes w given x y
step_changes w given (event e) x y at = event_changes w given e x y at
step_changes w given (forget component replica) x y at =
    let a = if_Ok (is_there w component replica) (Ok (with_lives component replica forget_all x)) no_instance y at in
    forgets component replica a.0 (Ok_same _ _ _ refl a.1)
