-- An instance emits into the lists of those outputs that have a stream.
use Rattle.std.specs.Prelude.{◌≡◌, ◌≢◌, ◌<◌, ℕ, Option, None, Some, List, [], ◌∷◌, map, length, slice_set}
use Rattle.std.specs.List.{sum_by}
use Rattle.blz_value.specs.Members.{Has}
use Rattle.blz_value.specs.Record.{Row}
use Rattle.bloom_forms.specs.Step.{Sets, set_at}
use Rattle.topo_forms.specs.Messages.{Message}
use Rattle.topo_forms.specs.View.{View, End, origin_of, streams_from}
use Rattle.inbox.specs.Wiring.{carried_places}
use Rattle.inbox.specs.Emission.{Kept, list_of, with_rows, with_seals}
use Rattle.messages.specs.Lists.{list_at}
use Rattle.inbox.specs.Places.{list_place}
use Rattle.inbox.specs.declared.outlets.Outlet.{Outlet}

-- the lists after the rows of each output are emitted
abbrev pub emit_outlets : List Outlet → (outs : Sets) → List (List Message) → List (List Message)
emit_outlets [] outs lists = lists
emit_outlets (o ∷ outlets) outs lists = emit_outlets outlets outs (slice_set lists o.place (with_rows (list_at lists o.place) (set_at outs o.output)))

-- and after the seals of some partitions
abbrev pub seal_outlets : List Outlet → (keys : List Row) → List (List Message) → List (List Message)
seal_outlets [] keys lists = lists
seal_outlets (o ∷ outlets) keys lists = seal_outlets outlets keys (slice_set lists o.place (with_seals o.key (list_at lists o.place) keys))

-- ---- lists that show what is kept of an instance

-- no two outlets have one place
abbrev pub AreApart : List Outlet → Type 0
AreApart [] = Unit {0}
AreApart (o ∷ outlets) = ((other : Outlet) → Has other outlets → o.place ≢ other.place) × AreApart outlets

-- the list of an outlet is that of its output
pub record ShowsOutlet (lists : List (List Message)) (kept : Kept) (o : Outlet) : Type 0 where
  pub place : o.place < length lists
  pub output : o.output < length kept.lists
  pub list : list_at lists o.place ≡ list_of kept o.output

-- and so of all
abbrev pub ShowsOutlets : List Outlet → List (List Message) → Kept → Type 0
ShowsOutlets outlets lists kept = (o : Outlet) → Has o outlets → ShowsOutlet lists kept o

-- the lists of all other places stay
pub record OthersStay (outlets : List Outlet) (before after : List (List Message)) : Type 0 where
  pub as_many : length after ≡ length before
  pub others : (place : ℕ) → ((o : Outlet) → Has o outlets → o.place ≢ place) → list_at after place ≡ list_at before place

-- how many messages the lists of the outlets have
abbrev pub own_messages : List Outlet → List (List Message) → ℕ
own_messages outlets lists = sum_by (λ o. length (list_at lists o.place)) outlets

-- ---- the outlets of an instance

-- the number of the output from which a stream comes
abbrev pub output_number : Option End → ℕ
output_number None = 0
output_number (Some spot) = spot.1

-- the outlet for a stream that a replica sends
abbrev pub outlet_for : View → (replica stream : ℕ) → Outlet
outlet_for v r s = record { output = output_number (origin_of v s); place = list_place v s r; key = carried_places v s }

-- one for each stream from the component, in order
abbrev pub outlets_for : View → (component replica : ℕ) → List Outlet
outlets_for v c r = map (outlet_for v r) (streams_from v c)
