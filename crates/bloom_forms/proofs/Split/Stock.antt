-- The outputs of Split and Number split by what lies in the closures of their gates.
use Rattle.std.proofs.Common.{◌≡◌, ◌+◌, ◌++◌, ℕ, zero, suc, Bool, true, not, List, [], ◌∷◌, length, map, filter, pos, refl, ap, ◌∙◌, sym, subst, inl, inr, arith}
use Rattle.std.specs.List.{flat_map, fold, enumerate_from}
use Rattle.std.specs.Ordering.{eq_by_cmp}
use Rattle.std.proofs.lemmas.Bool.{cases_Bool, true≢false}
use Rattle.blz_value.specs.declared.value.Value.TheVariants.{Int}
use Rattle.blz_value.specs.Members.{Has}
use Rattle.blz_value.specs.Record.{Row, record_cmp}
use Rattle.blz_value.specs.Sets.{set_of}
use Rattle.blz_value.proofs.Membership.{Has-append_left, Has-append_right, Has-flat_map, Has-from_flat_map, Has-from_filter, Has-from_map}
use Rattle.blz_value.proofs.SetLaws.{Has-set_of, Has-from_set_of}
use Rattle.blz_value.specs.declared.attrs.Fd.{Fd}
use Rattle.blz_value.proofs.Members.{in-empty}
use Rattle.blz_value.proofs.Within.{within-refl}
use Rattle.bloom_forms.specs.declared.program.Program.{Program}
use Rattle.bloom_forms.specs.declared.program.Program.TheVariants.{Split, Number}
use Rattle.bloom_forms.specs.ProgramStep.{tables_after_step, empty_tables}
use Rattle.bloom_forms.specs.Query.{Name}
use Rattle.bloom_forms.specs.Step.{Sets, set_at}
use Rattle.bloom_forms.specs.StockSteps.{split_row, is_numbered, numbered, number_out}
use Rattle.bloom_forms.specs.Steps.{tables_after_steps}
use Rattle.bloom_forms.specs.Classes.{has_key, key_of, rows_of_class, IsInClosure, Arriving, AreKeyed, of_class}
use Rattle.bloom_forms.specs.Runs.{output_rows}
use Rattle.bloom_forms.proofs.Split.SplittingLemmas.{OutputsSplitByStep}
use Rattle.bloom_forms.proofs.Split.Agreeing.{one_key}
use Rattle.bloom_forms.proofs.Split.ClassesLemmas.{of_at, from_class, in_class, row_itself}

-- How the proof goes.
-- Split gives for each record its own rows, so any classes of records will do.
-- The gate of Number is empty, so what lies in its closure has one value in all records that arrive.
-- Then all records are of one class, and the others are empty.

-- ---- Split

pub split_split : (names columns : List Name) (split : ℕ) → OutputsSplitByStep names (Split columns split)
split_split names columns split zero earlier arriving fds key class_of arrivals keyed closed row =
    let program = Split columns split in
    let part : Row → Sets = λ class. of_class names program key class_of class arriving in (
      λ h.
          let m = Has-from_flat_map (split_row split) row (set_at arriving 0) (Has-from_set_of row (flat_map (split_row split) (set_at arriving 0)) h) in
          let class = class_of (key_of names columns key m.0) in
          let has = keyed.keyed (record { port = 0; used = refl; now = arriving; came = Has-append_right arriving earlier (arriving ∷ []) (inl refl); row = m.0; stands = m.1 }) in
          let there = in_class names program key class_of class arriving 0 m.0 (record { within = omega arith; stands = m.1; keyed = has; is = refl }) in
          (class, Has-set_of row (flat_map (split_row split) (set_at (part class) 0)) (Has-flat_map (split_row split) m.0 row (set_at (part class) 0) there m.2)),
      λ p.
          let m = Has-from_flat_map (split_row split) row (set_at (part p.0) 0) (Has-from_set_of row (flat_map (split_row split) (set_at (part p.0) 0)) p.1) in
          let c = from_class names program key class_of p.0 arriving 0 m.0 m.1 in
          Has-set_of row (flat_map (split_row split) (set_at arriving 0)) (Has-flat_map (split_row split) m.0 row (set_at arriving 0) c.stands m.2),
    )
split_split names columns split (suc output) earlier arriving fds key class_of arrivals keyed closed row = (λ h. absurd h, λ p. absurd p.1)

-- ---- Number

-- a list of which all elements pass a test
pub all_pass : {X : Type 0} (p : X → Bool) (xs : List X) → ((x : X) → Has x xs → p x ≡ true) → filter p xs ≡ xs
all_pass p [] each = refl
all_pass {X} p (x ∷ xs) each = rw (each x (inl refl)) (ap (λ (l : List X). x ∷ l) (all_pass p xs (λ y h. each y (inr h))))

-- a step of Number looks at its one port and its one table
same_runs : (columns : List Name) (f : Sets → Sets) (nows : List Sets)
    → ((now : Sets) → Has now nows → set_at (f now) 0 ≡ set_at now 0) → (kept other : Sets)
    → set_at kept 0 ≡ set_at other 0
    → set_at (fold (tables_after_step (Number columns)) kept nows) 0 ≡ set_at (fold (tables_after_step (Number columns)) other (map f nows)) 0
same_runs columns f [] same kept other e = e
same_runs columns f (now ∷ nows) same kept other e =
    same_runs columns f nows (λ n h. same n (inr h)) (tables_after_step (Number columns) kept now) (tables_after_step (Number columns) other (f now))
    (λ i. set_of (e i ++ numbered (e i) (sym (same now (inl refl)) i)))

-- a row that is put out needs a record that arrives
pub from_numbered : (kept arriving : List Row) (row : Row) → Has row (number_out kept arriving) → (source : Row) × Has source arriving
from_numbered kept arriving row h =
    let new = filter (λ (r : Row). not (is_numbered kept r)) (set_of arriving) in
    let m = Has-from_map (λ (place : ℕ × Row). place.1 ++ Int (pos place.0) ∷ []) row (enumerate_from (length kept + 1) new) (Has-from_set_of row (numbered kept arriving) h) in
    let source = m.0.1 in
    (source, Has-from_set_of source arriving (Has-from_filter (λ (r : Row). not (is_numbered kept r)) source (set_of arriving) (from_enumerated (length kept + 1) new m.0 m.1)).0)
  where
    from_enumerated : (from : ℕ) (rows : List Row) (place : ℕ × Row) → Has place (enumerate_from from rows) → Has place.1 rows
    from_enumerated from [] place g = absurd g
    from_enumerated from (x ∷ rows) place (inl e) = inl (ap (λ (p : ℕ × Row). p.1) e)
    from_enumerated from (x ∷ rows) place (inr g) = inr (from_enumerated (from + 1) rows place g)

module _ (names columns : List Name) (earlier : List Sets) (arriving : Sets) (fds : List Fd) (key : List ℕ) (class_of : Row → Row)
    (keyed : AreKeyed names (Number columns) (earlier ++ arriving ∷ []) (λ port. true) fds key) (closed : IsInClosure key 0 fds) where
  abbrev program : Program
  program = Number columns

  abbrev all : List Sets
  all = earlier ++ arriving ∷ []

  abbrev part : Row → Sets → Sets
  part class now = of_class names program key class_of class now

  abbrev class_at : Row → Row
  class_at row = class_of (key_of names columns key row)

  abbrev arrived : (now : Sets) → Has now all → (row : Row) → Has row (set_at now 0) → Arriving program all (λ port. true)
  arrived now came row stands = record { port = 0; used = refl; now = now; came = came; row = row; stands = stands }

  -- all records are of one class
  one_class : (now other : Sets) → Has now all → Has other all → (row more : Row) → Has row (set_at now 0)
      → Has more (set_at other 0) → class_at row ≡ class_at more
  one_class now other n o row more r m = ap class_of (one_key names program all (λ port. true) fds key keyed 0 0 (within-refl 0) closed (arrived now n row r) (arrived other o more m)
      (λ k h. absurd (true≢false (sym h ∙ in-empty k))) (λ k h. absurd (true≢false (sym h ∙ in-empty k))) (λ k h. absurd (true≢false (sym h ∙ in-empty k))))

  -- where one record is of a class all of a step are
  whole_part : (now other : Sets) → Has now all → Has other all → (row : Row) → Has row (set_at now 0)
      → set_at (part (class_at row) other) 0 ≡ set_at other 0
  whole_part now other n o row r =
      of_at names program key class_of (class_at row) other 0 (omega arith)
      ∙ go (set_at other 0) (λ more m. (row_itself (class_at more) (class_at row) (one_class other now o n more row m r), keyed.keyed (arrived other o more m)))
    where
      test : Row → Bool
      test more = eq_by_cmp record_cmp (class_of (key_of names columns key more)) (class_at row)

      go : (rows : List Row)
          → ((more : Row) → Has more rows → (eq_by_cmp record_cmp (class_at more) (class_at row) ≡ true) × (has_key names columns key ≡ true))
          → rows_of_class names key class_of (class_at row) columns rows ≡ rows
      go [] each = elim (cases_Bool (has_key names columns key)) [ inl t ↦ rw t refl | inr f ↦ rw f refl ]
      go (x ∷ rows) each = rw (each x (inl refl)).1 (all_pass (λ (more : Row). eq_by_cmp record_cmp (class_of (key_of names columns key more)) (class_at row)) (x ∷ rows) (λ more h. (each more h).0))

  -- over the class of a record the rows are those over all records
  same_rows : (row : Row) → Has row (set_at arriving 0)
      → output_rows program 0 (tables_after_steps program earlier) arriving ≡ output_rows program 0 (tables_after_steps program (map (part (class_at row)) earlier)) (part (class_at row) arriving)
  same_rows row r =
      let here : Has arriving all = Has-append_right arriving earlier (arriving ∷ []) (inl refl) in
      let kept : set_at (tables_after_steps program earlier) 0 ≡ set_at (tables_after_steps program (map (part (class_at row)) earlier)) 0 =
      same_runs columns (part (class_at row)) earlier (λ now h. whole_part arriving now here (Has-append_left now earlier (arriving ∷ []) h) row r) (empty_tables program) (empty_tables program) refl in
      λ i. number_out (kept i) (sym (whole_part arriving arriving here here row r) i)

pub number_split : (names columns : List Name) → OutputsSplitByStep names (Number columns)
number_split names columns zero earlier arriving fds key class_of arrivals keyed closed row =
    let program = Number columns in (
      λ h.
          let s = from_numbered (set_at (tables_after_steps program earlier) 0) (set_at arriving 0) row h in
          (class_of (key_of names columns key s.0), subst (λ (rows : List Row). Has row rows) (same_rows names columns earlier arriving fds key class_of keyed closed s.0 s.1) h),
      λ p.
          let kept = tables_after_steps program (map (of_class names program key class_of p.0) earlier) in
          let s = from_numbered (set_at kept 0) (set_at (of_class names program key class_of p.0 arriving) 0) row p.1 in
          let c = from_class names program key class_of p.0 arriving 0 s.0 s.1 in
          let own : Has row (output_rows program 0 (tables_after_steps program (map (of_class names program key class_of (class_of (key_of names columns key s.0))) earlier)) (of_class names program key class_of (class_of (key_of names columns key s.0)) arriving)) =
          subst (λ (class : Row). Has row (output_rows program 0 (tables_after_steps program (map (of_class names program key class_of class) earlier)) (of_class names program key class_of class arriving))) (sym c.is) p.1 in
          subst (λ (rows : List Row). Has row rows) (sym (same_rows names columns earlier arriving fds key class_of keyed closed s.0 c.stands)) own,
    )
number_split names columns (suc output) earlier arriving fds key class_of arrivals keyed closed row = (λ h. absurd h, λ p. absurd p.1)
