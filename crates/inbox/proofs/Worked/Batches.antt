-- Two partitions in one batch come in the order of their keys, an empty partition is whole at once, and Latest depends on the order of puts.
use Rattle.std.proofs.Common.{◌≡◌, refl, ℕ, List, [], ◌∷◌, codes, Some, None}
use Rattle.std.specs.Prelude.{Result, Ok}
use Rattle.blz_value.specs.declared.value.Value.{Value}
use Rattle.blz_value.specs.declared.value.Value.TheVariants.{Text}
use Rattle.blz_value.specs.Bits.{bit_of, meets}
use Rattle.bloom_forms.specs.declared.mode.Mode.TheVariants.{Free, Seal}
use Rattle.topo_forms.specs.Data.{Data}
use Rattle.topo_forms.specs.Messages.{Message, row}
use Rattle.inbox.specs.Wiring.{Wiring}
use Rattle.inbox.specs.Executions.{result_and_then, execution_of_events, emitted_list}
use Rattle.inbox.specs.Completeness.{left_count, held_count_at}
use Rattle.inbox.specs.Events.{Event, batch, Refusal}
use Rattle.inbox.proofs.Worked.Programs.{int, one_of, two_of, three_of, just, source, made_by, carrying, plain, feed, part, send, report, latest}

-- ---- campaign at one replica in seal

abbrev campaign : Wiring
campaign = record {
  streams = source 3 (Some (just 1)) ((0, 0) ∷ []) ∷ source 2 None ((0, 1) ∷ []) ∷ made_by 0 [] ∷ [];
  components = (record { program = Some report; mode = Seal (just 1); ports = carrying (0 ∷ []) ∷ plain (Some (1 ∷ [])) ∷ []; feeds = feed 0 0 ∷ feed 1 1 ∷ []; outputs = None ∷ [] } ∷ []) ∷ [];
}

-- the emitted list of response, what is held, and what is left
abbrev Shown : Type 0
Shown = List Message × ℕ × ℕ

abbrev shown : Wiring → Data → List Event → Result Shown Refusal
shown w given events = result_and_then (execution_of_events w given events) (λ x. Ok (emitted_list w given x 2 0, held_count_at w x 0 0, left_count w given x))

abbrev asked_and_clicked : Data
asked_and_clicked =
    record { rows = three_of (int 1) (int 10) (int 5) ∷ three_of (int 2) (int 20) (int 6) ∷ []; parts = [] }
    ∷ record { rows = two_of (int 10) (int 1) ∷ two_of (int 20) (int 2) ∷ []; parts = [] }
    ∷ []

-- batch-two-partitions
pub two_partitions : shown campaign asked_and_clicked (send 1 1 0 1 ∷ send 1 0 0 1 ∷ batch (part 0 3 0 ∷ part 0 2 0 ∷ part 0 1 0 ∷ part 0 0 0 ∷ []) 0 0 ∷ []) ≡ Ok (row (three_of (int 20) (int 2) (int 1)) ∷ row (three_of (int 10) (int 1) (int 1)) ∷ [], 0, 0)
unfolding bit_of meets
two_partitions = refl

-- empty-partition
pub empty_partition : shown campaign (record { rows = []; parts = one_of (int 2) ∷ [] } ∷ record { rows = two_of (int 20) (int 2) ∷ []; parts = [] } ∷ []) (send 1 0 0 1 ∷ send 0 0 0 0 ∷ []) ≡ Ok ([], 0, 0)
unfolding bit_of meets
empty_partition = refl

pub no_partition : shown campaign (record { rows = []; parts = [] } ∷ record { rows = two_of (int 20) (int 2) ∷ []; parts = [] } ∷ []) (send 1 0 0 1 ∷ []) ≡ Ok ([], 1, 0)
unfolding bit_of meets
no_partition = refl

-- ---- latest

abbrev cached : Wiring
cached = record {
  streams = source 2 None ((0, 0) ∷ []) ∷ source 1 None ((0, 1) ∷ []) ∷ made_by 0 [] ∷ [];
  components = (record { program = Some latest; mode = Free; ports = plain None ∷ plain None ∷ []; feeds = feed 0 0 ∷ feed 1 1 ∷ []; outputs = None ∷ [] } ∷ []) ∷ [];
}

abbrev a : Value
a = Text (codes "a")

abbrev put_and_asked : Data
put_and_asked =
    record { rows = two_of a (int 1) ∷ two_of a (int 2) ∷ []; parts = [] }
    ∷ record { rows = one_of a ∷ []; parts = [] }
    ∷ []

-- latest-two-orders
pub first_order : shown cached put_and_asked (send 0 0 0 0 ∷ send 0 1 0 0 ∷ send 1 0 0 1 ∷ []) ≡ Ok (row (two_of a (int 2)) ∷ [], 0, 0)
unfolding bit_of meets
first_order = refl

pub second_order : shown cached put_and_asked (send 0 1 0 0 ∷ send 0 0 0 0 ∷ send 1 0 0 1 ∷ []) ≡ Ok (row (two_of a (int 1)) ∷ [], 0, 0)
unfolding bit_of meets
second_order = refl

-- batch-latest
pub in_one_batch : shown cached put_and_asked (batch (part 0 1 0 ∷ part 0 0 0 ∷ part 1 0 1 ∷ []) 0 0 ∷ []) ≡ Ok (row (two_of a (int 2)) ∷ [], 0, 0)
unfolding bit_of meets
in_one_batch = refl
