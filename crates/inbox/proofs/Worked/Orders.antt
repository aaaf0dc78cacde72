-- Another order of one log gives other contents, equal in all replicas; and what isn't legal is refused.
use Rattle.std.proofs.Common.{◌≡◌, refl, ℕ, ◌++◌, List, [], ◌∷◌, Some, None}
use Rattle.std.specs.Prelude.{Result, Ok, Err}
use Rattle.blz_value.specs.Record.{Row}
use Rattle.bloom_forms.specs.declared.mode.Mode.TheVariants.{Order}
use Rattle.topo_forms.specs.Data.{Data}
use Rattle.inbox.specs.Instances.{Instance}
use Rattle.inbox.specs.Wiring.{Wiring}
use Rattle.inbox.specs.Executions.{result_and_then, execution_of_events, contents}
use Rattle.inbox.specs.Completeness.{left_count}
use Rattle.inbox.specs.Events.{Event, batch, order, take_one, Refusal, no_instance, no_message, nothing_to_take}
use Rattle.inbox.proofs.Worked.Programs.{int, one_of, two_of, source, made_by, plain, feed, part, send, number}

abbrev numbering : Instance
numbering = record { program = Some number; mode = Order; ports = plain None ∷ []; feeds = feed 0 0 ∷ []; outputs = None ∷ [] }

abbrev numbers : Wiring
numbers = record {
  streams = source 1 None ((0, 0) ∷ []) ∷ made_by 0 [] ∷ [];
  components = (numbering ∷ numbering ∷ numbering ∷ []) ∷ [];
}

abbrev given : Data
given = record { rows = one_of (int 7) ∷ one_of (int 8) ∷ []; parts = [] } ∷ []

-- the contents of the three replicas, and what is left
abbrev Shown : Type 0
Shown = List Row × List Row × List Row × ℕ

abbrev shown : List Event → Result Shown Refusal
shown events = result_and_then (execution_of_events numbers given events) (λ x. Ok (contents numbers given x 1 0, contents numbers given x 1 1, contents numbers given x 1 2, left_count numbers given x))

abbrev takes : List Event
takes = take_one 0 0 ∷ take_one 0 0 ∷ take_one 0 1 ∷ take_one 0 1 ∷ take_one 0 2 ∷ take_one 0 2 ∷ []

abbrev ordered : ℕ → Event
ordered index = order (part 0 index 0) 0

abbrev seven_first : List Row
seven_first = two_of (int 7) (int 1) ∷ two_of (int 8) (int 2) ∷ []

abbrev eight_first : List Row
eight_first = two_of (int 7) (int 2) ∷ two_of (int 8) (int 1) ∷ []

-- ordered-numbers
pub in_file_order : shown (ordered 0 ∷ ordered 1 ∷ [] ++ takes) ≡ Ok (seven_first, seven_first, seven_first, 0)
in_file_order = refl

pub turned_round : shown (ordered 1 ∷ ordered 0 ∷ [] ++ takes) ≡ Ok (eight_first, eight_first, eight_first, 0)
turned_round = refl

pub ordered_twice : shown (ordered 0 ∷ ordered 0 ∷ ordered 1 ∷ [] ++ takes) ≡ Ok (seven_first, seven_first, seven_first, 0)
ordered_twice = refl

pub seventh_take : shown (ordered 0 ∷ ordered 1 ∷ [] ++ takes ++ take_one 0 0 ∷ []) ≡ Err nothing_to_take
seventh_take = refl

pub no_third_message : shown (ordered 2 ∷ []) ≡ Err no_message
no_third_message = refl

pub order_is_no_delivery : shown (send 0 0 0 0 ∷ []) ≡ Err no_instance
order_is_no_delivery = refl

pub no_fourth_replica : shown (ordered 0 ∷ take_one 0 3 ∷ []) ≡ Err no_instance
no_fourth_replica = refl

pub empty_batch : shown (batch [] 0 0 ∷ []) ≡ Err no_instance
empty_batch = refl
