-- Where two executions differ: the first place whose contents do, and there the least record that exactly one of them has.
use Rattle.std.specs.Prelude.{◌≡◌, ℕ, ◌+◌, Bool, not, Option, None, List, [], ◌∷◌, ◌++◌, map, find, length, if◌then◌else◌}
use Rattle.std.specs.List.{list_any}
use Rattle.std.specs.Option.{option_map, option_or}
use Rattle.blz_value.specs.Record.{Row}
use Rattle.blz_value.specs.Sets.{set_of}
use Rattle.topo_forms.specs.Data.{Data}
use Rattle.topo_forms.specs.Messages.{is_same_row}
use Rattle.blz_value.specs.NumberSets.{below}
use Rattle.topo_forms.specs.View.{View, stream_numbers, stream_replicas}
use Rattle.inbox.specs.Executions.{Execution, contents}
use Rattle.inbox.specs.Wiring.{wiring_of}
use Rattle.witness_check.specs.declared.difference.Which.{Which}
use Rattle.witness_check.specs.declared.difference.Which.TheVariants.{First, Second}
use Rattle.witness_check.specs.declared.difference.Difference.{Difference}

-- ---- what an execution has

-- the contents of each sending replica of a stream, in order
abbrev pub stream_contents : View → Data → Execution → (stream : ℕ) → List (List Row)
stream_contents v given x stream = map (contents (wiring_of v) given x stream) (below (stream_replicas v stream))

-- and of each stream, in order
abbrev pub snapshot : View → Data → Execution → List (List (List Row))
snapshot v given x = map (stream_contents v given x) (stream_numbers v)

-- there are contents of each sending replica of each stream of a topology
abbrev pub HasPlaces : View → List (List (List Row)) → Type 0
HasPlaces v found = map length found ≡ map (stream_replicas v) (stream_numbers v)

-- as many streams, and of each as many sending replicas
abbrev pub AreAlike : (first second : List (List (List Row))) → Type 0
AreAlike first second = map length first ≡ map length second

-- ---- at one place

-- a set has a record
abbrev pub has_row : List Row → Row → Bool
has_row rows r = list_any (is_same_row r) rows

-- exactly one of two sets has it
abbrev pub is_in_one : (first second : List Row) → Row → Bool
is_in_one first second r = if has_row first r then not (has_row second r) else has_row second r

-- the least record that exactly one of two sets has
abbrev pub least_in_one : (first second : List Row) → Option Row
least_in_one first second = find (is_in_one first second) (set_of (first ++ second))

-- which of them has it
abbrev pub holder : (first : List Row) → Row → Which
holder first r = if has_row first r then First else Second

-- the difference at a sending replica of a stream
abbrev pub difference_at : (stream replica : ℕ) → (first second : List Row) → Option Difference
difference_at stream replica first second = option_map (λ r. record { stream = stream; replica = replica; held_by = holder first r; row = r }) (least_in_one first second)

-- ---- place by place

-- the first answer that there is, going through the places of two lists in order, the first of which has the number `at`
abbrev pub first_answer : {X Y : Type 0} → (ℕ → X → X → Option Y) → (at : ℕ) → (first second : List X) → Option Y
first_answer answer at [] second = None
first_answer answer at (x ∷ first) [] = None
first_answer answer at (x ∷ first) (y ∷ second) = option_or (answer at x y) (first_answer answer (at + 1) first second)

-- the first difference at a stream, going through its sending replicas
abbrev pub difference_of : (stream : ℕ) → (first second : List (List Row)) → Option Difference
difference_of stream first second = first_answer (difference_at stream) 0 first second

-- the first difference, going through the streams
abbrev pub difference : (first second : List (List (List Row))) → Option Difference
difference first second = first_answer difference_of 0 first second
