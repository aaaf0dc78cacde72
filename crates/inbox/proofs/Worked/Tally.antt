-- A tally waits for its seal and for as many clicks as it counts, and after a forget puts nothing out twice.
use Rattle.std.proofs.Common.{◌≡◌, refl, ℕ, ◌++◌, map, List, [], ◌∷◌, Option, Some, None, length}
use Rattle.std.specs.Prelude.{Result, Ok}
use Rattle.blz_value.specs.Record.{Row}
use Rattle.bloom_forms.specs.declared.mode.Mode.{Mode}
use Rattle.blz_value.specs.Bits.{bit_of, meets}
use Rattle.bloom_forms.specs.declared.mode.Mode.TheVariants.{Free, Seal}
use Rattle.topo_forms.specs.Data.{Data}
use Rattle.inbox.specs.Instances.{PortKey}
use Rattle.inbox.specs.Wiring.{Wiring}
use Rattle.inbox.specs.Executions.{Execution, result_and_then, execution_of_events, execution_of, contents, emitted_list}
use Rattle.inbox.specs.Completeness.{left_count, held_count_at}
use Rattle.inbox.specs.Events.{Event, batch, Step, event, forget, Refusal}
use Rattle.inbox.proofs.Worked.Programs.{int, two_of, just, source, made_by, carrying, plain, part, send, tally}

-- tally at one replica, where its clicks are sealed by campaign
abbrev wired : Mode → PortKey → Option (List ℕ) → Wiring
wired mode port key = record {
  streams = source 2 (Some (just 1)) ((0, 0) ∷ []) ∷ made_by 0 [] ∷ [];
  components = (record { program = Some tally; mode = mode; ports = port ∷ []; feeds = record { port = 0; stream = 0; sender = 0 } ∷ []; outputs = key ∷ [] } ∷ []) ∷ [];
}

abbrev sealed : Wiring
sealed = wired (Seal (just 1)) (carrying (0 ∷ [])) (Some (0 ∷ []))

abbrev free : Wiring
free = wired Free (plain None) None

abbrev given : Data
given = record { rows = two_of (int 1) (int 10) ∷ two_of (int 1) (int 11) ∷ two_of (int 1) (int 12) ∷ []; parts = [] } ∷ []

abbrev given_two : Data
given_two = record { rows = two_of (int 1) (int 10) ∷ two_of (int 1) (int 11) ∷ []; parts = [] } ∷ []

-- the contents of sums, what is held, and what is left
abbrev Shown : Type 0
Shown = List Row × ℕ × ℕ

abbrev shown : Wiring → Data → Result Execution Refusal → Result Shown Refusal
shown v g result = result_and_then result (λ x. Ok (contents v g x 1 0, held_count_at v x 0 0, left_count v g x))

abbrev sent : List ℕ → List Event
sent indexes = map (λ index. send 0 index 0 0) indexes

-- tally-sealed
pub tally_waits : shown sealed given (execution_of_events sealed given (sent (3 ∷ 0 ∷ 1 ∷ []))) ≡ Ok ([], 2, 1)
unfolding bit_of meets
tally_waits = refl

pub tally_sealed : shown sealed given (execution_of_events sealed given (sent (3 ∷ 0 ∷ 1 ∷ 2 ∷ []))) ≡ Ok (two_of (int 1) (int 3) ∷ [], 0, 0)
unfolding bit_of meets
tally_sealed = refl

-- batch-one-step
pub tally_in_one_step : shown free given_two (execution_of_events free given_two (batch (part 0 0 0 ∷ part 0 1 0 ∷ part 0 2 0 ∷ []) 0 0 ∷ [])) ≡ Ok (two_of (int 1) (int 2) ∷ [], 0, 0)
unfolding bit_of meets
tally_in_one_step = refl

pub tally_one_by_one : shown free given_two (execution_of_events free given_two (sent (0 ∷ 1 ∷ 2 ∷ []))) ≡ Ok (two_of (int 1) (int 1) ∷ two_of (int 1) (int 2) ∷ [], 0, 0)
unfolding bit_of meets
tally_one_by_one = refl

-- tally-restarted
abbrev all_four : List Step
all_four = map event (sent (0 ∷ 1 ∷ 2 ∷ 3 ∷ []))

pub tally_forgets : shown sealed given (execution_of sealed given (all_four ++ forget 0 0 ∷ [])) ≡ Ok (two_of (int 1) (int 3) ∷ [], 0, 4)
unfolding bit_of meets
tally_forgets = refl

pub tally_restarted : shown sealed given (execution_of sealed given (all_four ++ forget 0 0 ∷ all_four)) ≡ Ok (two_of (int 1) (int 3) ∷ [], 0, 0)
unfolding bit_of meets
tally_restarted = refl

abbrev two_messages : Result ℕ Refusal
two_messages = Ok 2

pub tally_list_of_two : result_and_then (execution_of sealed given (all_four ++ forget 0 0 ∷ all_four)) (λ x. Ok (length (emitted_list sealed given x 1 0))) ≡ two_messages
unfolding bit_of meets
tally_list_of_two = refl
