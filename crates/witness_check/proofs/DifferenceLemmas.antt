-- Two snapshots of one topology are alike; one has no difference from itself; and a difference stands at a sending replica whose contents differ.
use Rattle.std.proofs.Common.{◌≡◌, ◌≢◌, ◌↔◌, ◌<◌, ◌+◌, ℕ, true, false, Option, None, Some, is_some, List, [], ◌∷◌, ◌++◌, map, length, get_or, refl, ap, ◌∙◌, sym, subst, arith}
use Rattle.std.specs.List.{slice_get}
use Rattle.std.specs.Option.{option_map, IsNone}
use Rattle.std.proofs.lemmas.List.{length-map}
use Rattle.std.proofs.lemmas.List.FromFn.{length-map-range_with_len, get_or-map-range_with_len}
use Rattle.std.proofs.lemmas.Option.{same_Some, slice_get-map, slice_get_read, slice_get_within, get_or_from_slice_get}
use Rattle.blz_value.specs.Record.{Row}
use Rattle.blz_value.specs.Sets.{set_of}
use Rattle.topo_forms.specs.Data.{Data}
use Rattle.blz_value.specs.NumberSets.{below}
use Rattle.topo_forms.specs.View.{View, stream_numbers, stream_replicas}
use Rattle.topo_forms.proofs.Regions.Numbering.{find-some}
use Rattle.inbox.specs.Executions.{Execution, contents}
use Rattle.inbox.specs.Wiring.{wiring_of}
use Rattle.witness_check.specs.declared.difference.Difference.{Difference}
use Rattle.witness_check.specs.Difference.{HasPlaces, AreAlike, stream_contents, snapshot, is_in_one, least_in_one, holder, difference_at, first_answer, difference_of, difference}
use Rattle.witness_check.proofs.InOne.{Holds, in_one, none_in_same, holder_is, said, difference_is}
use Rattle.witness_check.proofs.Places.{answers_at, none_of_itself}

-- ---- places

shape_of : (v : View) (given : Data) (x : Execution) (streams : List ℕ) → map length (map (stream_contents v given x) streams) ≡ map (stream_replicas v) streams
shape_of v given x [] = refl
shape_of v given x (s ∷ streams) =
    ap (λ n. n ∷ map length (map (stream_contents v given x) streams)) (length-map-range_with_len (contents (wiring_of v) given x s) 0 (stream_replicas v s))
    ∙ ap (λ ns. stream_replicas v s ∷ ns) (shape_of v given x streams)

pub has_places : (v : View) (given : Data) (x : Execution) → HasPlaces v (snapshot v given x)
has_places v given x = shape_of v given x (stream_numbers v)

-- two of one topology are alike
pub alike : (v : View) (first second : List (List (List Row))) → HasPlaces v first → HasPlaces v second → AreAlike first second
alike v first second one two = one ∙ sym two

pub snapshots_alike : (v : View) (given other : Data) (x y : Execution) → AreAlike (snapshot v given x) (snapshot v other y)
snapshots_alike v given other x y = alike v (snapshot v given x) (snapshot v other y) (has_places v given x) (has_places v other y)

pub same_length : (first second : List (List (List Row))) → AreAlike first second → length first ≡ length second
same_length first second alike = sym (length-map first length) ∙ ap length alike ∙ length-map second length

-- at each stream those of two that are alike have as many sending replicas
pub same_lengths : (first second : List (List (List Row))) (i : ℕ) (x y : List (List Row)) → AreAlike first second → i < length first → x ≡ get_or first i x → y ≡ get_or second i y → length x ≡ length y
same_lengths first second i x y alike within at here =
    let long = same_length first second alike in
    same_Some (length x) (length y)
    (sym (slice_get-map length first i ∙ ap (option_map length) (slice_get_read first (length first) i x refl within at))
    ∙ ap (λ (l : List ℕ). slice_get l i) alike
    ∙ slice_get-map length second i ∙ ap (option_map length) (slice_get_read second (length second) i y refl (omega arith) here))

-- ---- none from itself

pub no_difference : (contents : List (List (List Row))) → difference contents contents ≡ None
no_difference contents = none_of_itself difference_of (λ s rows. none_of_itself (difference_at s) (λ r set. difference_is s r set set None (none_in_same set)) 0 rows) 0 contents

-- so two that have one aren't the same
pub some_same : (first second : List (List (List Row))) (found : Option Difference) → is_some found ≡ true → found ≡ difference first second → IsNone found ↔ (first ≡ second)
some_same first second None bad e = cc
some_same first second (Some d) some e = (λ none. let bad : true ≡ false = none in cc, λ same. let none : difference first second ≡ None = ap (λ contents. difference contents second) same ∙ no_difference second in cc)

-- ---- where one stands

-- the stream and the replica are there, exactly one execution has the record there, which is the one that the difference says, and the contents differ
pub record Differs (v : View) (given : Data) (x y : Execution) (d : Difference) : Type 0 where
  pub stream : d.stream < length v.streams
  pub replica : d.replica < stream_replicas v d.stream
  pub held : Holds d.held_by (contents (wiring_of v) given x d.stream d.replica) (contents (wiring_of v) given y d.stream d.replica) d.row
  pub apart : contents (wiring_of v) given x d.stream d.replica ≢ contents (wiring_of v) given y d.stream d.replica

-- what a place of a list by numbers has
at_number : {X : Type 0} (f : ℕ → X) (count k : ℕ) (z : X) → slice_get (map f (below count)) k ≡ Some z → (k < count) × (z ≡ f k)
at_number f count k z is =
    let within = slice_get_within (map f (below count)) k z is in
    let lt : k < count = omega (arith, within, length-map-range_with_len f 0 count) in
    (lt, sym (get_or_from_slice_get (map f (below count)) k z z is) ∙ get_or-map-range_with_len f 0 count k k z lt (omega arith))

-- what a difference says of the place at which it stands
record StandsAt (stream replica : ℕ) (first second : List Row) (d : Difference) : Type 0 where
  stream_is : d.stream ≡ stream
  replica_is : d.replica ≡ replica
  held : Holds d.held_by first second d.row

stands_at : (s r : ℕ) (first second : List Row) (d : Difference) → difference_at s r first second ≡ Some d → StandsAt s r first second d
stands_at s r first second d e = by (least_in_one first second) refl e
  where
    by : (o : Option Row) → least_in_one first second ≡ o → option_map (λ q. said s r (holder first q, q)) o ≡ Some d → StandsAt s r first second d
    by None found bad = let no : None ≡ Some d = bad in cc
    by (Some q) found some =
        let same : said s r (holder first q, q) ≡ d = same_Some (said s r (holder first q, q)) d some in
        let one = in_one first second q (find-some (is_in_one first second) (set_of (first ++ second)) q found).1 in
        let held : Holds (holder first q) first second q = subst (λ which. Holds which first second q) (sym (holder_is first second q one.0 one.1)) one.1 in
        record {
          stream_is = ap (λ (z : Difference). z.stream) (sym same);
          replica_is = ap (λ (z : Difference). z.replica) (sym same);
          held = subst (λ (z : Difference). Holds z.held_by first second z.row) same held;
        }

-- an answer over two lists by numbers is that of a number
record AnswersBy {X Y : Type 0} (answer : ℕ → X → X → Option Y) (f g : ℕ → X) (count : ℕ) (z : Y) : Type 0 where
  number : ℕ
  within : number < count
  is : answer number (f number) (g number) ≡ Some z

answers_by : {X Y : Type 0} (answer : ℕ → X → X → Option Y) (f g : ℕ → X) (count : ℕ) (z : Y) → first_answer answer 0 (map f (below count)) (map g (below count)) ≡ Some z → AnswersBy answer f g count z
answers_by answer f g count z e =
    let at = answers_at answer 0 (map f (below count)) (map g (below count)) z e in
    let left = at_number f count at.place at.left at.first_there in
    let right = at_number g count at.place at.right at.second_there in
    let own : 0 + at.place ≡ at.place = omega arith in
    record {
      number = at.place;
      within = left.0;
      is =
          ap (λ rows. answer at.place rows (g at.place)) (sym left.1)
          ∙ ap (answer at.place at.left) (sym right.1)
          ∙ ap (λ n. answer n at.left at.right) (sym own)
          ∙ at.is;
    }

holds_apart : (d : Difference) (first second : List Row) → Holds d.held_by first second d.row → first ≢ second
holds_apart d first second h e = none_in_same second d.row (d.held_by, subst (λ rows. Holds d.held_by rows second d.row) e h)

-- the stream and the replica are the places that were found, so what is found there is so
there : (v : View) (given : Data) (x y : Execution) (d : Difference) (s r : ℕ) → s < length v.streams → r < stream_replicas v s
    → StandsAt s r (contents (wiring_of v) given x s r) (contents (wiring_of v) given y s r) d → Differs v given x y d
there v given x y d s r stream replica h =
    let first : (s r : ℕ) → List Row = contents (wiring_of v) given x in
    let second : (s r : ℕ) → List Row = contents (wiring_of v) given y in
    let held : Holds d.held_by (first d.stream d.replica) (second d.stream d.replica) d.row =
    subst (λ n. Holds d.held_by (first n d.replica) (second n d.replica) d.row) (sym h.stream_is)
    (subst (λ n. Holds d.held_by (first s n) (second s n) d.row) (sym h.replica_is) h.held) in
    record {
      stream = subst (λ n. n < length v.streams) (sym h.stream_is) stream;
      replica = subst (λ n. d.replica < stream_replicas v n) (sym h.stream_is) (subst (λ n. n < stream_replicas v s) (sym h.replica_is) replica);
      held = held;
      apart = holds_apart d (first d.stream d.replica) (second d.stream d.replica) held;
    }

pub differs : (v : View) (given : Data) (x y : Execution) (d : Difference) → difference (snapshot v given x) (snapshot v given y) ≡ Some d → Differs v given x y d
differs v given x y d e =
    let stream = answers_by difference_of (stream_contents v given x) (stream_contents v given y) (length v.streams) d e in
    let s = stream.number in
    let replica = answers_by (difference_at s) (contents (wiring_of v) given x s) (contents (wiring_of v) given y s) (stream_replicas v s) d stream.is in
    let r = replica.number in
    there v given x y d s r stream.within replica.within (stands_at s r (contents (wiring_of v) given x s r) (contents (wiring_of v) given y s r) d replica.is)
