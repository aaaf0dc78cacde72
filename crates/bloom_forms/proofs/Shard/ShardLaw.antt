-- What a module puts out is what its copies for the buckets put out together.
use Rattle.std.proofs.Common.{◌≡◌, ◌<◌, ◌&&◌, ◌+◌, ℕ, ℤ, zero, suc, pos, Bool, true, false, if◌then◌else◌, Option, Some, IfSome, List, [], ◌∷◌, length, map, slice_get, slice_index_or, get_or, refl, ap, ◌∙◌, sym, subst, inl, inr, arith}
use Rattle.std.specs.Prelude.{is_some}
use Rattle.std.specs.List.{enumerate_from}
use Rattle.std.specs.Ordering.{is_lt, is_ge}
use Rattle.std.specs.Str.{bytes_eq}
use Rattle.std.specs.declared.cmp.Ordering.{Ordering}
use Rattle.std.specs.declared.cmp.Ordering.TheVariants.{Less, Equal, Greater}
use Rattle.std.proofs.lemmas.Bool.{cases_Bool, eq-eqb}
use Rattle.std.proofs.lemmas.Option.{get_or_from_slice_get}
use Rattle.std.proofs.lemmas.Slice.Eq.{bytes_eq-Decides}
use Rattle.blz_value.specs.declared.value.Value.{Value}
use Rattle.blz_value.specs.declared.value.Value.TheVariants.{Int}
use Rattle.blz_value.specs.Members.{Has, HaveEqualMembers}
use Rattle.blz_value.specs.Record.{Row}
use Rattle.blz_value.specs.Test.{cell}
use Rattle.blz_value.specs.Value.{value_cmp}
use Rattle.blz_value.proofs.Membership.{All-of_member, Has-get_or, Has-map, any_from_Has}
use Rattle.blz_value.proofs.OperatorsLemmas.{from_select, in_select}
use Rattle.blz_value.specs.Bits.{bit_of, meets}
use Rattle.blz_value.specs.Closure.{closure, IsLeastClosed}
use Rattle.blz_value.specs.Names.{place_of}
use Rattle.blz_value.proofs.Least.{closure-least}
use Rattle.blz_value.proofs.Members.{in-within, member_small}
use Rattle.blz_value.proofs.Places.{place_of-get}
use Rattle.blz_value.proofs.Booleans.{and_true}
use Rattle.bloom_forms.specs.declared.program.Program.TheVariants.{Module}
use Rattle.bloom_forms.specs.Checks.{IsChecked}
use Rattle.bloom_forms.specs.Columns.{column_number}
use Rattle.bloom_forms.specs.Form.{Accepted}
use Rattle.bloom_forms.specs.Program.{port_columns}
use Rattle.bloom_forms.specs.ProgramStep.{empty_tables}
use Rattle.bloom_forms.specs.Query.{Name, Formula}
use Rattle.bloom_forms.specs.Query.Formula.{both}
use Rattle.bloom_forms.specs.Rows.{formula_holds}
use Rattle.bloom_forms.specs.Step.{Sets, set_at}
use Rattle.bloom_forms.specs.Widths.{AreSetsOf}
use Rattle.bloom_forms.specs.Steps.{AreArrivals}
use Rattle.bloom_forms.specs.Annotation.{note_of, gate_of_output}
use Rattle.bloom_forms.specs.HeadRoots.{attribute_roots}
use Rattle.bloom_forms.specs.Roots.{are_same}
use Rattle.bloom_forms.specs.Attributes.{has_attribute, value_in}
use Rattle.bloom_forms.proofs.Copies.Runs.{wide_at}
use Rattle.bloom_forms.specs.Classes.{columns_at, has_key, IsInClosure, AreKeyed, of_class}
use Rattle.bloom_forms.specs.Runs.{output_rows}
use Rattle.bloom_forms.specs.Shards.{from_bound, below_bound, buckets_from, buckets, AnswersByBucket}
use Rattle.bloom_forms.proofs.Confluent.ConfluentLaw.{one_step_answers}
use Rattle.bloom_forms.proofs.Shard.CopiedSteps.{of_bucket, bucket_at, from_copy, in_copy}
use Rattle.bloom_forms.proofs.Split.ClassesLemmas.{from_class, in_class}
use Rattle.bloom_forms.proofs.Ports.Outputs.{output_sees}
use Rattle.bloom_forms.proofs.Split.Outputs.{outputs_split}

-- How the proof goes.
-- The value of the column lies in some bucket, whatever the bounds are (cover).
-- A row of the module is one over some value of the column, by the split law for single values.
-- The records of that value are among those of its bucket, and the split law takes a row back.
-- The other way, records in the bucket and outside are two classes, so a row of the bucket is one of all.
-- A copy has what the module has over the bucket (CopiedSteps).

-- ---- tests of one column

-- whether a test over a column holds of a value there
abbrev holds : Name → Formula → Value → Bool
holds column test value = formula_holds (column ∷ []) test (value ∷ [])

own_number : (column : Name) → column_number (column ∷ []) column ≡ 0
own_number column = let same : bytes_eq column column ≡ true = (bytes_eq-Decides column column).1 refl in rw same refl

-- a test looks at its column alone
abbrev IsOf : Name → Formula → Type 0
IsOf column test = (columns : List Name) (row : Row) → formula_holds columns test row ≡ holds column test (cell row (column_number columns column))

from_of : (column : Name) (bound : ℤ) → IsOf column (from_bound column bound)
from_of column bound columns row = ap (λ (k : ℕ). is_ge (value_cmp (cell (cell row (column_number columns column) ∷ []) k) (Int bound))) (sym (own_number column))

below_of : (column : Name) (bound : ℤ) → IsOf column (below_bound column bound)
below_of column bound columns row = ap (λ (k : ℕ). is_lt (value_cmp (cell (cell row (column_number columns column) ∷ []) k) (Int bound))) (sym (own_number column))

later_of : (column : Name) (bound : ℤ) (bounds : List ℤ) (test : Formula) → Has test (buckets_from column bound bounds) → IsOf column test
later_of column bound [] test (inl e) = subst (λ (t : Formula). IsOf column t) e (from_of column bound)
later_of column bound [] test (inr never) = absurd never
later_of column bound (next ∷ bounds) test (inl e) = subst (λ (t : Formula). IsOf column t) e (λ columns row i. from_of column bound columns row i && below_of column next columns row i)
later_of column bound (next ∷ bounds) test (inr h) = later_of column next bounds test h

bucket_of : (column : Name) (first : ℤ) (bounds : List ℤ) (test : Formula) → Has test (buckets column first bounds) → IsOf column test
bucket_of column first bounds test (inl e) = subst (λ (t : Formula). IsOf column t) e (below_of column first)
bucket_of column first bounds test (inr h) = later_of column first bounds test h

-- each value lies in a bucket

not_less : (o : Ordering) → is_lt o ≡ false → is_ge o ≡ true
not_less Less e = cc
not_less Equal e = refl
not_less Greater e = refl

holds_from : (column : Name) (bound : ℤ) (value : Value) → is_ge (value_cmp value (Int bound)) ≡ true
    → holds column (from_bound column bound) value ≡ true
holds_from column bound value t = ap (λ (k : ℕ). is_ge (value_cmp (cell (value ∷ []) k) (Int bound))) (own_number column) ∙ t

holds_below : (column : Name) (bound : ℤ) (value : Value) → is_lt (value_cmp value (Int bound)) ≡ true
    → holds column (below_bound column bound) value ≡ true
holds_below column bound value t = ap (λ (k : ℕ). is_lt (value_cmp (cell (value ∷ []) k) (Int bound))) (own_number column) ∙ t

later_cover : (column : Name) (bound : ℤ) (bounds : List ℤ) (value : Value) → is_ge (value_cmp value (Int bound)) ≡ true
    → (test : Formula) × Has test (buckets_from column bound bounds) × (holds column test value ≡ true)
later_cover column bound [] value t = (from_bound column bound, inl refl, holds_from column bound value t)
later_cover column bound (next ∷ bounds) value t = elim (cases_Bool (is_lt (value_cmp value (Int next)))) [
  | inl below ↦ (both (from_bound column bound) (below_bound column next), inl refl, and_true (holds column (from_bound column bound) value) (holds column (below_bound column next) value) (holds_from column bound value t) (holds_below column next value below))
  | inr above ↦ (let m = later_cover column next bounds value (not_less (value_cmp value (Int next)) above) in (m.0, inr m.1, m.2))
]

cover : (column : Name) (first : ℤ) (bounds : List ℤ) (value : Value)
    → (test : Formula) × Has test (buckets column first bounds) × (holds column test value ≡ true)
cover column first bounds value = elim (cases_Bool (is_lt (value_cmp value (Int first)))) [
  | inl below ↦ (below_bound column first, inl refl, holds_below column first value below)
  | inr above ↦ (let m = later_cover column first bounds value (not_less (value_cmp value (Int first)) above) in (m.0, inr m.1, m.2))
]

-- ---- arrivals

arrives_within : (columns : List (List Name)) (sets : Sets) → AreSetsOf columns sets → (k : ℕ) (row : Row)
    → Has row (set_at sets k) → k < length columns
arrives_within [] [] wide k row h = absurd h
arrives_within [] (rows ∷ sets) wide k row h = absurd wide
arrives_within (names ∷ columns) [] wide k row h = absurd wide
arrives_within (names ∷ columns) (rows ∷ sets) wide zero row h = omega arith
arrives_within (names ∷ columns) (rows ∷ sets) wide (suc k) row h = omega (arith, arrives_within columns sets wide.1 k row h)

wide_places : (from : ℕ) (columns : List (List Name)) (rows_at : ℕ × List Name → List Row)
    → ((k : ℕ) → k < length columns → (row : Row) → Has row (rows_at (from + k, get_or columns k [])) → length row ≡ length (get_or columns k []))
    → AreSetsOf columns (map rows_at (enumerate_from from columns))
wide_places from [] rows_at wide = tt
wide_places from (names ∷ columns) rows_at wide =
    let e : from ≡ from + 0 = omega arith in (
      (λ k d lt. subst (λ (n : ℕ). (row : Row) → Has row (rows_at (n, names)) → length row ≡ length names) (sym e) (wide 0 (omega arith)) (get_or (rows_at (from, names)) k d) (Has-get_or (rows_at (from, names)) k d lt)),
      wide_places (from + 1) columns rows_at (λ k lt. let f : from + suc k ≡ (from + 1) + k = omega arith in subst (λ (n : ℕ). (row : Row) → Has row (rows_at (n, get_or columns k [])) → length row ≡ length (get_or columns k [])) f (wide (suc k) (omega (arith, lt)))),
    )

module _ (names : List Name) (a : Accepted) (checked : IsChecked a.form a.heads) (column : Name) (attribute : ℕ) (is : place_of names column ≡ Some attribute)
    (everywhere : (columns : List Name) → Has columns (port_columns (Module a)) → Has column columns) (output : ℕ) (gated : meets (bit_of attribute) (gate_of_output names (Module a) output) ≡ true) where
  abbrev start : Sets
  start = empty_tables (Module a)

  abbrev key : List ℕ
  key = attribute ∷ []

  abbrev used : ℕ → Bool
  used port = is_some (note_of names (Module a) port output)

  -- the value of the key is that of the column
  value_is : (port : ℕ) (row : Row)
      → value_in names (columns_at (Module a) port) row attribute ≡ cell row (column_number (columns_at (Module a) port) column)
  value_is port row =
      let there : slice_get names attribute ≡ Some column = subst (λ (o : Option ℕ). IfSome o (λ p. slice_get names p ≡ Some column)) is (place_of-get names column) in
      ap (λ (name : Name). cell row (column_number (columns_at (Module a) port) name)) (get_or_from_slice_get names attribute column [] there)

  has_column : (port : ℕ) → port < length (port_columns (Module a)) → has_key names (columns_at (Module a) port) key ≡ true
  has_column port lt =
      let columns = columns_at (Module a) port in
      let stands : Has (Some attribute) (attribute_roots names columns) = subst (λ (r : Option ℕ). Has r (attribute_roots names columns)) is (Has-map (place_of names) column columns (everywhere columns (Has-get_or (port_columns (Module a)) port [] lt))) in
      let one : has_attribute names columns attribute ≡ true = any_from_Has (are_same (Some attribute)) (Some attribute) (attribute_roots names columns) stands (eq-eqb attribute attribute refl) in
      rw one refl

  closed : IsInClosure key (gate_of_output names (Module a) output) []
  closed n (inl e) = subst (λ (k : ℕ). meets (bit_of k) (closure (gate_of_output names (Module a) output) []) ≡ true) e
      (let least : IsLeastClosed (gate_of_output names (Module a) output) [] (closure (gate_of_output names (Module a) output) []) = closure-least (gate_of_output names (Module a) output) [] in
      in-within attribute (gate_of_output names (Module a) output) (closure (gate_of_output names (Module a) output) []) (member_small attribute (gate_of_output names (Module a) output) gated) gated least.contains)
  closed n (inr never) = absurd never

  keyed : (arriving : Sets) → AreArrivals (Module a) (arriving ∷ []) → AreKeyed names (Module a) (arriving ∷ []) used [] key
  keyed arriving arrivals = record {
    keyed = λ x. has_column x.port (arrives_within (port_columns (Module a)) x.now (All-of_member (AreSetsOf (port_columns (Module a))) (arriving ∷ []) x.now arrivals x.came) x.port x.row x.stands);
    whole = λ x fd stands. absurd stands;
    hold = λ x y fd stands. absurd stands;
  }

  -- the rows of one step, and those over classes
  abbrev out : Sets → List Row
  out arriving = output_rows (Module a) output start arriving

  abbrev part : (Row → Row) → Row → Sets → Sets
  part class_of class arriving = of_class names (Module a) key class_of class arriving

  same_out : (first second : Sets)
      → ((port : ℕ) → port < length (port_columns (Module a)) → HaveEqualMembers (set_at first port) (set_at second port))
      → out first ≡ out second
  same_out first second same = sym (one_step_answers (Module a) checked output first) ∙ (output_sees names a checked output).only (first ∷ []) (second ∷ []) ((λ port lt t. same port lt), tt) ∙ one_step_answers (Module a) checked output second

  bucket_arrivals : (test : Formula) (arriving : Sets) → AreArrivals (Module a) (arriving ∷ [])
      → AreArrivals (Module a) (of_bucket a checked test arriving ∷ [])
  bucket_arrivals test arriving arrivals k d lt = go k lt
    where
      own : AreSetsOf (port_columns (Module a)) (of_bucket a checked test arriving)
      own = wide_places 0 (port_columns (Module a)) _ (λ k lt row h.
          let e : 0 + k ≡ k = omega arith in
          let m = from_select (formula_holds (get_or (port_columns (Module a)) k []) test) (set_at arriving (0 + k)) row h in
          All-of_member (λ (r : Row). length r ≡ length (get_or (port_columns (Module a)) k [])) (set_at arriving k) row (wide_at (port_columns (Module a)) arriving (All-of_member (AreSetsOf (port_columns (Module a))) (arriving ∷ []) arriving arrivals (inl refl)) k) (subst (λ (n : ℕ). Has row (set_at arriving n)) e m.0))

      go : (k : ℕ) → k < 1 → AreSetsOf (port_columns (Module a)) (get_or (of_bucket a checked test arriving ∷ []) k d)
      go zero below = own
      go (suc k) below = absurd (omega arith)

  -- a record of the bucket
  in_bucket : (test : Formula) (arriving : Sets) (port : ℕ) → port < length (port_columns (Module a)) → (row : Row)
      → Has row (set_at arriving port) → formula_holds (columns_at (Module a) port) test row ≡ true
      → Has row (set_at (of_bucket a checked test arriving) port)
  in_bucket test arriving port lt row h t = subst (λ (x : List Row). Has row x) (sym (bucket_at a checked test arriving port lt)) (in_select (formula_holds (columns_at (Module a) port) test) (set_at arriving port) row h t)

  from_bucket : (test : Formula) (arriving : Sets) (port : ℕ) → port < length (port_columns (Module a)) → (row : Row)
      → Has row (set_at (of_bucket a checked test arriving) port)
      → Has row (set_at arriving port) × (formula_holds (columns_at (Module a) port) test row ≡ true)
  from_bucket test arriving port lt row h = from_select (formula_holds (columns_at (Module a) port) test) (set_at arriving port) row (subst (λ (x : List Row). Has row x) (bucket_at a checked test arriving port lt) h)

  -- ---- what a bucket gives, the module gives

  abbrev first_value : Row → Value
  first_value values = slice_index_or values 0 (Int (pos 0))

  abbrev yes_row : Row
  yes_row = Int (pos 1) ∷ []

  abbrev by_test : Formula → Row → Row
  by_test test values = if holds column test (first_value values) then yes_row else []

  chosen_yes : (b : Bool) → (if b then yes_row else []) ≡ yes_row → b ≡ true
  chosen_yes true e = refl
  chosen_yes false e = cc

  formula_value : (test : Formula) → IsOf column test → (port : ℕ) (row : Row)
      → formula_holds (columns_at (Module a) port) test row ≡ holds column test (value_in names (columns_at (Module a) port) row attribute)
  formula_value test on port row = on (columns_at (Module a) port) row ∙ ap (holds column test) (sym (value_is port row))

  bucket_is_class : (test : Formula) → IsOf column test → (arriving : Sets) (port : ℕ)
      → port < length (port_columns (Module a))
      → HaveEqualMembers (set_at (of_bucket a checked test arriving) port) (set_at (part (by_test test) yes_row arriving) port)
  bucket_is_class test on arriving port lt = (
    λ row h.
        let m = from_bucket test arriving port lt row h in
        let t : holds column test (value_in names (columns_at (Module a) port) row attribute) ≡ true = sym (formula_value test on port row) ∙ m.1 in
        in_class names (Module a) key (by_test test) yes_row arriving port row (record { within = lt; stands = m.0; keyed = has_column port lt; is = rw t refl }),
    λ row h.
        let c = from_class names (Module a) key (by_test test) yes_row arriving port row h in
        in_bucket test arriving port lt row c.stands (formula_value test on port row ∙ chosen_yes (holds column test (value_in names (columns_at (Module a) port) row attribute)) c.is),
  )

  from_buckets : (test : Formula) → IsOf column test → (arriving : Sets) → AreArrivals (Module a) (arriving ∷ [])
      → (row : Row) → Has row (out (of_bucket a checked test arriving)) → Has row (out arriving)
  from_buckets test on arriving arrivals row h =
      let there = subst (λ (x : List Row). Has row x) (same_out (of_bucket a checked test arriving) (part (by_test test) yes_row arriving) (bucket_is_class test on arriving)) h in
      (outputs_split names a checked output [] arriving [] key (by_test test) arrivals (keyed arriving arrivals) closed row).1 (yes_row, there)

  -- ---- what the module gives, a bucket gives

  -- the records with a value of the key are in its bucket
  value_in_bucket : (test : Formula) → IsOf column test → (value : Row) → holds column test (first_value value) ≡ true
      → (arriving : Sets) (port : ℕ) → port < length (port_columns (Module a))
      → HaveEqualMembers (set_at (part (λ values. values) value arriving) port) (set_at (part (λ values. values) value (of_bucket a checked test arriving)) port)
  value_in_bucket test on value t arriving port lt = (
    λ row h.
        let c = from_class names (Module a) key (λ values. values) value arriving port row h in
        let same : value_in names (columns_at (Module a) port) row attribute ≡ first_value value = ap first_value c.is in
        let inside = in_bucket test arriving port lt row c.stands (formula_value test on port row ∙ ap (holds column test) same ∙ t) in
        in_class names (Module a) key (λ values. values) value (of_bucket a checked test arriving) port row (record { within = lt; stands = inside; keyed = c.keyed; is = c.is }),
    λ row h.
        let c = from_class names (Module a) key (λ values. values) value (of_bucket a checked test arriving) port row h in
        in_class names (Module a) key (λ values. values) value arriving port row (record { within = lt; stands = (from_bucket test arriving port lt row c.stands).0; keyed = c.keyed; is = c.is }),
  )

  to_bucket : (first : ℤ) (bounds : List ℤ) (arriving : Sets) → AreArrivals (Module a) (arriving ∷ []) → (row : Row)
      → Has row (out arriving)
      → (test : Formula) × Has test (buckets column first bounds) × Has row (out (of_bucket a checked test arriving))
  to_bucket first bounds arriving arrivals row h =
      let s = (outputs_split names a checked output [] arriving [] key (λ values. values) arrivals (keyed arriving arrivals) closed row).0 h in
      let c = cover column first bounds (first_value s.0) in
      let on = bucket_of column first bounds c.0 c.1 in
      let bucket = of_bucket a checked c.0 arriving in
      let there = subst (λ (x : List Row). Has row x) (same_out (part (λ values. values) s.0 arriving) (part (λ values. values) s.0 bucket) (value_in_bucket c.0 on s.0 c.2 arriving)) s.1 in
      let wide = bucket_arrivals c.0 arriving arrivals in
      (c.0, c.1, (outputs_split names a checked output [] bucket [] key (λ values. values) wide (keyed bucket wide) closed row).1 (s.0, there))

pub answers_by_bucket : (names : List Name) (a : Accepted) → IsChecked a.form a.heads → AnswersByBucket names a
answers_by_bucket names a checked column attribute first bounds output arriving is everywhere gated arrivals row = (
  λ h. let t = to_bucket names a checked column attribute is everywhere output gated first bounds arriving arrivals row h in (t.0, t.1, in_copy a checked t.0 arriving output row t.2),
  λ p. from_buckets names a checked column attribute is everywhere output gated p.0 (bucket_of column first bounds p.0 p.1) arriving arrivals row (from_copy a checked p.0 arriving output row p.2),
)
