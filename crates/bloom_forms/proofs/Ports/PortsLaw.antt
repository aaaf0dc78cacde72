-- The output of each program sees no more than the ports with a note towards it, and that of a stock body is silent.
use Rattle.std.proofs.Common.{◌≡◌, ◌++◌, ◌+◌, ℕ, zero, suc, true, Option, List, [], ◌∷◌, length, map, filter, not, pos, refl, ap, ◌∙◌, sym, subst, inl, inr, arith}
use Rattle.std.specs.List.{AllZip, flat_map, enumerate_from, list_any}
use Rattle.std.specs.Ordering.{eq_by_cmp}
use Rattle.std.proofs.lemmas.Bool.{true≢false}
use Rattle.std.proofs.lemmas.List.{append-nil}
use Rattle.blz_value.specs.declared.value.Value.TheVariants.{Int}
use Rattle.blz_value.specs.Members.{Has, IsWithin, HaveEqualMembers}
use Rattle.blz_value.specs.Operators.{cells}
use Rattle.blz_value.specs.Record.{Row, record_cmp}
use Rattle.blz_value.specs.Sets.{set_of, IsRowSet}
use Rattle.blz_value.proofs.Membership.{Has-append_left, Has-append_right, Has-append_cases, Has-flat_map, Has-from_flat_map}
use Rattle.blz_value.proofs.RowSets.{same_set_of}
use Rattle.blz_value.proofs.SetLaws.{sorted_set_of, Has-set_of, Has-from_set_of, same_row_sets}
use Rattle.bloom_forms.specs.declared.program.Program.{Program}
use Rattle.bloom_forms.specs.declared.program.Program.TheVariants.{Module, Split, Latest, Number}
use Rattle.bloom_forms.specs.ProgramStep.{tables_after_step, empty_tables}
use Rattle.bloom_forms.specs.Query.{Name}
use Rattle.bloom_forms.specs.Step.{Sets, set_at}
use Rattle.bloom_forms.specs.StockSteps.{split_row, keys_in_order, has_key, is_latest, latest_kept, latest_out, is_numbered, numbered, number_out}
use Rattle.bloom_forms.specs.Proper.{IsProper}
use Rattle.bloom_forms.specs.Annotation.{note_of}
use Rattle.bloom_forms.specs.Ports.{AreSameAt, SeesItsPorts, IsSilent, OutputsSeePorts, StockIsSilent}
use Rattle.bloom_forms.specs.Runs.{output_rows, output_over, over_steps, at_once}
use Rattle.bloom_forms.proofs.Ports.Outputs.{output_sees}
use Rattle.bloom_forms.proofs.Rows.Closed.{none_is}
use Rattle.bloom_forms.proofs.Confluent.ConfluentLaw.{all_confluent}
use Rattle.bloom_forms.proofs.Ports.Rules.{at_once_union}
use Rattle.bloom_forms.proofs.Split.Latest.{from_latest, in_latest, from_asked, in_asked}
use Rattle.bloom_forms.proofs.Confluent.Spreading.{without_end}

-- How the proof goes.
-- A module's outputs go rule by rule.
-- Split gives nothing where nothing arrives, and is confluent.
-- Number adds nothing to a set that it has, so it is that of its one step.
-- Latest puts out only where something is asked, and only of what was put before or now.
-- It is silent, since it has O at each of its ports or at none.

-- the rows over one step
one_step : (program : Program) (output : ℕ) (now : Sets) (row : Row) → Has row (output_over program output (now ∷ []))
    → Has row (output_rows program output (empty_tables program) now)
one_step program output now row h = without_end row (output_rows program output (empty_tables program) now) (Has-from_set_of row (output_rows program output (empty_tables program) now ++ []) h)

in_one_step : (program : Program) (output : ℕ) (now : Sets) (row : Row)
    → Has row (output_rows program output (empty_tables program) now) → Has row (output_over program output (now ∷ []))
in_one_step program output now row h = Has-set_of row (output_rows program output (empty_tables program) now ++ []) (Has-append_left row (output_rows program output (empty_tables program) now) [] h)

-- ---- an output that isn't there

module _ (program : Program) (output : ℕ) (none : (kept now : Sets) → output_rows program output kept now ≡ []) where
  no_rows : (kept : Sets) (nows : List Sets) → over_steps program (output_rows program output) kept nows ≡ []
  no_rows kept [] = refl
  no_rows kept (now ∷ nows) = ap (λ (l : List Row). l ++ over_steps program (output_rows program output) (tables_after_step program kept now) nows) (none kept now) ∙ no_rows (tables_after_step program kept now) nows

  nothing_over : (nows : List Sets) → output_over program output nows ≡ []
  nothing_over nows = ap set_of (no_rows (empty_tables program) nows)

  pub none_sees : (given : ℕ → Option _) → SeesItsPorts program given (output_over program output)
  none_sees given = record {
    only = λ nows others same. nothing_over nows ∙ sym (nothing_over others);
    none = λ nows silent. nothing_over nows;
    partition = λ earlier later now early late. nothing_over (earlier ++ now ∷ later) ∙ sym (nothing_over (at_once program (earlier ++ now ∷ later) ∷ []));
    late = λ fewer more inside same row h. absurd (subst (λ (x : List Row). Has row x) (nothing_over (fewer ∷ [])) h);
  }

  pub none_silent : (given : ℕ → Option _) → IsSilent program given (output_over program output)
  none_silent given port lt o nows silent = nothing_over nows

-- ---- Split

split_members : (split : ℕ) (xs ys : List Row) → IsWithin xs ys
    → IsWithin (set_of (flat_map (split_row split) xs)) (set_of (flat_map (split_row split) ys))
split_members split xs ys inside row h =
    let m = Has-from_flat_map (split_row split) row xs (Has-from_set_of row (flat_map (split_row split) xs) h) in
    Has-set_of row (flat_map (split_row split) ys) (Has-flat_map (split_row split) m.0 row ys (inside m.0 m.1) m.2)

split_only : (columns : List Name) (split : ℕ) (kept other : Sets) (nows others : List Sets)
    → AllZip (AreSameAt (Split columns split) (λ port. true)) nows others
    → over_steps (Split columns split) (output_rows (Split columns split) 0) kept nows ≡ over_steps (Split columns split) (output_rows (Split columns split) 0) other others
split_only columns split kept other [] [] same = refl
split_only columns split kept other [] (o ∷ others) same = absurd same
split_only columns split kept other (n ∷ nows) [] same = absurd same
split_only columns split kept other (n ∷ nows) (o ∷ others) same =
    let come = same.0 0 (omega arith) refl in
    let xs = flat_map (split_row split) (set_at n 0) in
    let ys = flat_map (split_row split) (set_at o 0) in
    let here : set_of xs ≡ set_of ys = same_set_of xs ys (λ row h. Has-from_set_of row ys (split_members split (set_at n 0) (set_at o 0) come.0 row (Has-set_of row xs h)), λ row h. Has-from_set_of row xs (split_members split (set_at o 0) (set_at n 0) come.1 row (Has-set_of row ys h))) in
    let later = split_only columns split (tables_after_step (Split columns split) kept n) (tables_after_step (Split columns split) other o) nows others same.1 in
    λ i. here i ++ later i

split_quiet : (columns : List Name) (split : ℕ) (kept : Sets) (nows : List Sets)
    → ((now : Sets) → Has now nows → set_at now 0 ≡ [])
    → over_steps (Split columns split) (output_rows (Split columns split) 0) kept nows ≡ []
split_quiet columns split kept [] quiet = refl
split_quiet columns split kept (now ∷ nows) quiet =
    let none : set_of (flat_map (split_row split) (set_at now 0)) ≡ [] = ap (λ (l : List Row). set_of (flat_map (split_row split) l)) (quiet now (inl refl)) in
    ap (λ (l : List Row). l ++ over_steps (Split columns split) (output_rows (Split columns split) 0) (tables_after_step (Split columns split) kept now) nows) none ∙ split_quiet columns split (tables_after_step (Split columns split) kept now) nows (λ n h. quiet n (inr h))

split_sees : (names columns : List Name) (split : ℕ) → IsProper (Split columns split) → OutputsSeePorts names (Split columns split)
split_sees names columns split proper zero = record {
  only = λ nows others same. ap set_of (split_only columns split (empty_tables (Split columns split)) (empty_tables (Split columns split)) nows others same);
  none = λ nows silent. ap set_of (split_quiet columns split (empty_tables (Split columns split)) nows (λ n came. silent n came 0 (omega arith) refl));
  partition = λ earlier later now early late. (all_confluent names (Split columns split) proper 0 (λ port lt. refl)).same (earlier ++ now ∷ later);
  late = λ fewer more inside same row h. in_one_step (Split columns split) 0 more row (split_members split (set_at fewer 0) (set_at more 0) (inside 0 (omega arith) refl) row (one_step (Split columns split) 0 fewer row h));
}
split_sees names columns split proper (suc output) = none_sees (Split columns split) (suc output) (λ kept now. refl) (λ port. note_of names (Split columns split) port (suc output))

-- ---- Number

-- the rows with their numbers, told the set of those that arrive
abbrev numbered_of : (kept set : List Row) → List Row
numbered_of kept set = map (λ (row : ℕ × Row). row.1 ++ Int (pos row.0) ∷ []) (enumerate_from (length kept + 1) (filter (λ (row : Row). not (is_numbered kept row)) set))

module _ (columns : List Name) where
  abbrev number : Program
  number = Number columns

  abbrev start : Sets
  start = empty_tables (Number columns)

  number_only : (kept other : Sets) → set_at kept 0 ≡ set_at other 0 → (nows others : List Sets)
      → AllZip (AreSameAt number (λ port. true)) nows others
      → over_steps number (output_rows number 0) kept nows ≡ over_steps number (output_rows number 0) other others
  number_only kept other e [] [] same = refl
  number_only kept other e [] (o ∷ others) same = absurd same
  number_only kept other e (n ∷ nows) [] same = absurd same
  number_only kept other e (n ∷ nows) (o ∷ others) same =
      let arrive : set_of (set_at n 0) ≡ set_of (set_at o 0) = same_set_of (set_at n 0) (set_at o 0) (same.0 0 (omega arith) refl) in
      let new : numbered (set_at kept 0) (set_at n 0) ≡ numbered (set_at other 0) (set_at o 0) = λ i. numbered_of (e i) (arrive i) in
      let later = number_only (tables_after_step number kept n) (tables_after_step number other o) (λ i. set_of (e i ++ new i)) nows others same.1 in
      λ i. set_of (new i) ++ later i

  -- where nothing arrives nothing is put out
  number_quiet : (kept : Sets) (nows : List Sets) → ((now : Sets) → Has now nows → set_at now 0 ≡ [])
      → over_steps number (output_rows number 0) kept nows ≡ []
  number_quiet kept [] quiet = refl
  number_quiet kept (now ∷ nows) quiet =
      let none : number_out (set_at kept 0) (set_at now 0) ≡ [] = ap (number_out (set_at kept 0)) (quiet now (inl refl)) in
      ap (λ (l : List Row). l ++ over_steps number (output_rows number 0) (tables_after_step number kept now) nows) none ∙ number_quiet (tables_after_step number kept now) nows (λ n h. quiet n (inr h))

  -- the rows of the steps, of which only the middle one has records
  number_middle : (earlier later : List Sets) (now kept : Sets) → set_at kept 0 ≡ []
      → ((n : Sets) → Has n earlier → set_at n 0 ≡ []) → ((n : Sets) → Has n later → set_at n 0 ≡ [])
      → over_steps number (output_rows number 0) kept (earlier ++ now ∷ later) ≡ number_out [] (set_at now 0)
  number_middle [] later now kept empty early late =
      ap (λ (l : List Row). number_out (set_at kept 0) (set_at now 0) ++ l) (number_quiet (tables_after_step number kept now) later late)
      ∙ append-nil (number_out (set_at kept 0) (set_at now 0)) ∙ ap (λ (l : List Row). number_out l (set_at now 0)) empty
  number_middle (n ∷ earlier) later now kept empty early late =
      let quiet = early n (inl refl) in
      let none : number_out (set_at kept 0) (set_at n 0) ≡ [] = ap (number_out (set_at kept 0)) quiet in
      let stays : set_at (tables_after_step number kept n) 0 ≡ [] = λ i. set_of (empty i ++ numbered (empty i) (quiet i)) in
      ap (λ (l : List Row). l ++ over_steps number (output_rows number 0) (tables_after_step number kept n) (earlier ++ now ∷ later)) none
      ∙ number_middle earlier later now (tables_after_step number kept n) stays (λ m h. early m (inr h)) late

  number_partition : (earlier later : List Sets) (now : Sets) → ((n : Sets) → Has n earlier → set_at n 0 ≡ [])
      → ((n : Sets) → Has n later → set_at n 0 ≡ [])
      → output_over number 0 (earlier ++ now ∷ later) ≡ output_over number 0 (at_once number (earlier ++ now ∷ later) ∷ [])
  number_partition earlier later now early late =
      let all = earlier ++ now ∷ later in
      let once = at_once number all in
      let u = at_once_union number all 0 (omega arith) in
      let arrive : set_of (set_at now 0) ≡ set_of (set_at once 0) = same_set_of (set_at now 0) (set_at once 0) (
        λ row h. u.inside (now, Has-append_right now earlier (now ∷ later) (inl refl)) row h,
        λ row h.
            let s = u.some row h in
            elim (Has-append_cases s.0.0 earlier (now ∷ later) s.0.1) [
              | inl e ↦ absurd (subst (λ (x : List Row). Has row x) (early s.0.0 e) s.1)
              | inr rest ↦ elim rest [
                | inl same ↦ subst (λ (x : Sets). Has row (set_at x 0)) (sym same) s.1
                | inr l ↦ absurd (subst (λ (x : List Row). Has row x) (late s.0.0 l) s.1)
              ]
            ],
      ) in
      let out : number_out [] (set_at now 0) ≡ number_out [] (set_at once 0) = ap (λ (l : List Row). set_of (numbered_of [] l)) arrive in
      ap set_of (number_middle earlier later now start refl early late ∙ out ∙ sym (append-nil (number_out [] (set_at once 0))))

number_sees : (names columns : List Name) → OutputsSeePorts names (Number columns)
number_sees names columns zero = record {
  only = λ nows others same. ap set_of (number_only columns (start columns) (start columns) refl nows others same);
  none = λ nows silent. ap set_of (number_quiet columns (start columns) nows (λ n came. silent n came 0 (omega arith) refl));
  partition = λ earlier later now early late. number_partition columns earlier later now (λ n h. early n h 0 (omega arith) refl) (λ n h. late n h 0 (omega arith) refl);
  late = λ fewer more inside same row h.
      let arrive : set_of (set_at fewer 0) ≡ set_of (set_at more 0) = same_set_of (set_at fewer 0) (set_at more 0) (same 0 (omega arith) refl) in
      in_one_step (Number columns) 0 more row (subst (λ (l : List Row). Has row (set_of (numbered_of [] l))) arrive (one_step (Number columns) 0 fewer row h));
}
number_sees names columns (suc output) = none_sees (Number columns) (suc output) (λ kept now. refl) (λ port. note_of names (Number columns) port (suc output))

number_silent : (names columns : List Name) (output : ℕ)
    → IsSilent (Number columns) (λ port. note_of names (Number columns) port output) (output_over (Number columns) output)
number_silent names columns zero port lt o nows silent = ap set_of (number_quiet columns (start columns) nows (λ n h. silent n h 0 (omega arith) refl))
number_silent names columns (suc output) port lt o nows silent = none_silent (Number columns) (suc output) (λ kept now. refl) (λ other. note_of names (Number columns) other (suc output)) port lt o nows silent

-- ---- Latest

module _ (columns : List Name) (keys : List ℕ) where
  abbrev latest : Program
  latest = Latest columns keys

  abbrev nothing : Sets
  nothing = empty_tables (Latest columns keys)

  abbrev in_order : List ℕ
  in_order = keys_in_order (length columns) keys

  -- what is kept of the same is the same
  kept_within : (kept xs ys : List Row) → HaveEqualMembers xs ys → IsWithin (latest_kept in_order kept xs) (latest_kept in_order kept ys)
  kept_within kept xs ys same row h = in_latest in_order kept ys row (elim (from_latest in_order kept xs row h) [
    | inl k ↦ inl (k.0, λ other stands. k.1 other (same.1 other stands))
    | inr p ↦ inr (same.0 row p.0, λ other stands. p.1 other (same.1 other stands))
  ])

  sorted_kept : (kept xs : List Row) → IsRowSet (latest_kept in_order kept xs)
  sorted_kept kept xs = sorted_set_of (filter (λ row. not (list_any (has_key in_order (cells in_order row)) xs)) kept ++ filter (is_latest in_order xs) xs)

  sorted_out : (kept asks : List Row) → IsRowSet (latest_out in_order kept asks)
  sorted_out kept asks = sorted_set_of (filter (λ row. list_any (eq_by_cmp record_cmp (cells in_order row)) asks) kept)

  kept_same : (kept xs ys : List Row) → HaveEqualMembers xs ys → latest_kept in_order kept xs ≡ latest_kept in_order kept ys
  kept_same kept xs ys same = same_row_sets (latest_kept in_order kept xs) (latest_kept in_order kept ys) (sorted_kept kept xs) (sorted_kept kept ys) (kept_within kept xs ys same, kept_within kept ys xs (same.1, same.0))

  out_within : (kept xs ys : List Row) → IsWithin xs ys → IsWithin (latest_out in_order kept xs) (latest_out in_order kept ys)
  out_within kept xs ys inside row h = let m = from_asked in_order kept xs row h in in_asked in_order kept ys row m.0 (inside (cells in_order row) m.1)

  out_same : (kept xs ys : List Row) → HaveEqualMembers xs ys → latest_out in_order kept xs ≡ latest_out in_order kept ys
  out_same kept xs ys same = same_row_sets (latest_out in_order kept xs) (latest_out in_order kept ys) (sorted_out kept xs) (sorted_out kept ys) (out_within kept xs ys same.0, out_within kept ys xs same.1)

  latest_only : (kept other : Sets) → set_at kept 0 ≡ set_at other 0 → (nows others : List Sets)
      → AllZip (AreSameAt latest (λ port. true)) nows others
      → over_steps latest (output_rows latest 0) kept nows ≡ over_steps latest (output_rows latest 0) other others
  latest_only kept other e [] [] same = refl
  latest_only kept other e [] (o ∷ others) same = absurd same
  latest_only kept other e (n ∷ nows) [] same = absurd same
  latest_only kept other e (n ∷ nows) (o ∷ others) same =
      let put = kept_same (set_at kept 0) (set_at n 0) (set_at o 0) (same.0 0 (omega arith) refl) in
      let next : latest_kept in_order (set_at kept 0) (set_at n 0) ≡ latest_kept in_order (set_at other 0) (set_at o 0) = put ∙ ap (λ (l : List Row). latest_kept in_order l (set_at o 0)) e in
      let out : latest_out in_order (latest_kept in_order (set_at kept 0) (set_at n 0)) (set_at n 1) ≡ latest_out in_order (latest_kept in_order (set_at other 0) (set_at o 0)) (set_at o 1) = ap (λ (l : List Row). latest_out in_order l (set_at n 1)) next ∙ out_same (latest_kept in_order (set_at other 0) (set_at o 0)) (set_at n 1) (set_at o 1) (same.0 1 (omega arith) refl) in
      let later = latest_only (tables_after_step latest kept n) (tables_after_step latest other o) next nows others same.1 in
      λ i. out i ++ later i

  -- where nothing is asked nothing is put out
  asks_nothing : (kept : List Row) → latest_out in_order kept [] ≡ []
  asks_nothing kept = none_is (latest_out in_order kept []) (λ row h. (from_asked in_order kept [] row h).1)

  latest_quiet : (kept : Sets) (nows : List Sets) → ((now : Sets) → Has now nows → set_at now 1 ≡ [])
      → over_steps latest (output_rows latest 0) kept nows ≡ []
  latest_quiet kept [] quiet = refl
  latest_quiet kept (now ∷ nows) quiet =
      let held = latest_kept in_order (set_at kept 0) (set_at now 0) in
      let none : latest_out in_order held (set_at now 1) ≡ [] = ap (latest_out in_order held) (quiet now (inl refl)) ∙ asks_nothing held in
      ap (λ (l : List Row). l ++ over_steps latest (output_rows latest 0) (tables_after_step latest kept now) nows) none ∙ latest_quiet (tables_after_step latest kept now) nows (λ n h. quiet n (inr h))

  -- where nothing is put what is kept stays
  keeps : (kept : List Row) → IsRowSet kept → latest_kept in_order kept [] ≡ kept
  keeps kept sorted = same_row_sets (latest_kept in_order kept []) kept (sorted_kept kept []) sorted (
    λ row h. elim (from_latest in_order kept [] row h) [ inl k ↦ k.0 | inr p ↦ absurd p.0 ],
    λ row h. in_latest in_order kept [] row (inl (h, λ other stands. absurd stands)),
  )

  -- rows that are asked for in some step, from what stays kept
  asked_over : (later : List Sets) (kept : Sets) (held : List Row) → set_at kept 0 ≡ held → IsRowSet held
      → ((n : Sets) → Has n later → set_at n 0 ≡ []) → (row : Row)
      → (Has row (over_steps latest (output_rows latest 0) kept later) → (n : Sets) × Has n later × Has row (latest_out in_order held (set_at n 1)))
      × ((n : Sets) → Has n later → Has row (latest_out in_order held (set_at n 1)) → Has row (over_steps latest (output_rows latest 0) kept later))
  asked_over [] kept held e sorted quiet row = ((λ h. absurd h), (λ n h. absurd h))
  asked_over (now ∷ later) kept held e sorted quiet row =
      let next : latest_kept in_order (set_at kept 0) (set_at now 0) ≡ held = (λ i. latest_kept in_order (e i) (quiet now (inl refl) i)) ∙ keeps held sorted in
      let out : latest_out in_order (latest_kept in_order (set_at kept 0) (set_at now 0)) (set_at now 1) ≡ latest_out in_order held (set_at now 1) = ap (λ (l : List Row). latest_out in_order l (set_at now 1)) next in
      let more = asked_over later (tables_after_step latest kept now) held next sorted (λ n h. quiet n (inr h)) row in
      let first = latest_out in_order (latest_kept in_order (set_at kept 0) (set_at now 0)) (set_at now 1) in
      let rest = over_steps latest (output_rows latest 0) (tables_after_step latest kept now) later in (
        (λ h. elim (Has-append_cases row first rest h) [
          | inl here ↦ (now, inl refl, subst (λ (x : List Row). Has row x) out here)
          | inr after ↦ let m = more.0 after in (m.0, inr m.1, m.2)
        ]),
        (λ n h g. elim h [
          | inl same ↦ Has-append_left row first rest (subst (λ (x : List Row). Has row x) (sym out) (subst (λ (x : Sets). Has row (latest_out in_order held (set_at x 1))) (sym same) g))
          | inr after ↦ Has-append_right row first rest (more.1 n after g)
        ]),
      )

  latest_partition : (earlier later : List Sets) (now kept : Sets) → set_at kept 0 ≡ []
      → ((n : Sets) → Has n earlier → (set_at n 0 ≡ []) × (set_at n 1 ≡ []))
      → ((n : Sets) → Has n later → set_at n 0 ≡ []) → (row : Row)
      → (Has row (over_steps latest (output_rows latest 0) kept (earlier ++ now ∷ later)) → (n : Sets) × Has n (now ∷ later) × Has row (latest_out in_order (latest_kept in_order [] (set_at now 0)) (set_at n 1)))
      × ((n : Sets) → Has n (now ∷ later) → Has row (latest_out in_order (latest_kept in_order [] (set_at now 0)) (set_at n 1)) → Has row (over_steps latest (output_rows latest 0) kept (earlier ++ now ∷ later)))
  latest_partition [] later now kept empty early late row =
      let held = latest_kept in_order [] (set_at now 0) in
      let next : latest_kept in_order (set_at kept 0) (set_at now 0) ≡ held = ap (λ (l : List Row). latest_kept in_order l (set_at now 0)) empty in
      let out : latest_out in_order (latest_kept in_order (set_at kept 0) (set_at now 0)) (set_at now 1) ≡ latest_out in_order held (set_at now 1) = ap (λ (l : List Row). latest_out in_order l (set_at now 1)) next in
      let more = asked_over later (tables_after_step latest kept now) held next (sorted_kept [] (set_at now 0)) late row in
      let first = latest_out in_order (latest_kept in_order (set_at kept 0) (set_at now 0)) (set_at now 1) in
      let rest = over_steps latest (output_rows latest 0) (tables_after_step latest kept now) later in (
        (λ h. elim (Has-append_cases row first rest h) [
          | inl here ↦ (now, inl refl, subst (λ (x : List Row). Has row x) out here)
          | inr after ↦ let m = more.0 after in (m.0, inr m.1, m.2)
        ]),
        (λ n h g. elim h [
          | inl same ↦ Has-append_left row first rest (subst (λ (x : List Row). Has row x) (sym out) (subst (λ (x : Sets). Has row (latest_out in_order held (set_at x 1))) (sym same) g))
          | inr after ↦ Has-append_right row first rest (more.1 n after g)
        ]),
      )
  latest_partition (n ∷ earlier) later now kept empty early late row =
      let quiet = early n (inl refl) in
      let next : latest_kept in_order (set_at kept 0) (set_at n 0) ≡ [] = (λ i. latest_kept in_order (empty i) (quiet.0 i)) ∙ keeps [] (sorted_set_of []) in
      let held = latest_kept in_order (set_at kept 0) (set_at n 0) in
      let none : latest_out in_order held (set_at n 1) ≡ [] = ap (latest_out in_order held) quiet.1 ∙ asks_nothing held in
      let more = latest_partition earlier later now (tables_after_step latest kept n) next (λ m h. early m (inr h)) late row in
      let rest = over_steps latest (output_rows latest 0) (tables_after_step latest kept n) (earlier ++ now ∷ later) in
      let all : latest_out in_order held (set_at n 1) ++ rest ≡ rest = ap (λ (l : List Row). l ++ rest) none in
      ((λ h. more.0 (subst (λ (x : List Row). Has row x) all h)), (λ m h g. subst (λ (x : List Row). Has row x) (sym all) (more.1 m h g)))

  latest_once : (earlier later : List Sets) (now : Sets)
      → ((n : Sets) → Has n earlier → (set_at n 0 ≡ []) × (set_at n 1 ≡ []))
      → ((n : Sets) → Has n later → set_at n 0 ≡ [])
      → output_over latest 0 (earlier ++ now ∷ later) ≡ output_over latest 0 (at_once latest (earlier ++ now ∷ later) ∷ [])
  latest_once earlier later now early late =
      let all = earlier ++ now ∷ later in
      let once = at_once latest all in
      let u = at_once_union latest all 0 (omega arith) in
      let v = at_once_union latest all 1 (omega arith) in
      let put : HaveEqualMembers (set_at now 0) (set_at once 0) = (
        λ row h. u.inside (now, Has-append_right now earlier (now ∷ later) (inl refl)) row h,
        λ row h.
            let s = u.some row h in
            elim (Has-append_cases s.0.0 earlier (now ∷ later) s.0.1) [
              | inl e ↦ absurd (subst (λ (x : List Row). Has row x) (early s.0.0 e).0 s.1)
              | inr rest ↦ elim rest [
                | inl same ↦ subst (λ (x : Sets). Has row (set_at x 0)) (sym same) s.1
                | inr l ↦ absurd (subst (λ (x : List Row). Has row x) (late s.0.0 l) s.1)
              ]
            ],
      ) in
      let held = latest_kept in_order [] (set_at now 0) in
      let same : held ≡ latest_kept in_order [] (set_at once 0) = kept_same [] (set_at now 0) (set_at once 0) put in
      let steps = over_steps latest (output_rows latest 0) nothing all in
      let one = output_rows latest 0 nothing once in
      same_set_of steps (one ++ []) (
        λ row h.
            let m = (latest_partition earlier later now nothing refl early late row).0 h in
            let asked = out_within held (set_at m.0 1) (set_at once 1) (λ r g. v.inside (m.0, Has-append_right m.0 earlier (now ∷ later) m.1) r g) row m.2 in
            Has-append_left row one [] (subst (λ (l : List Row). Has row (latest_out in_order l (set_at once 1))) same asked),
        λ row h.
            let asked = from_asked in_order held (set_at once 1) row (subst (λ (l : List Row). Has row (latest_out in_order l (set_at once 1))) (sym same) (without_end row one h)) in
            let s = v.some (cells in_order row) asked.1 in
            elim (Has-append_cases s.0.0 earlier (now ∷ later) s.0.1) [
              | inl e ↦ absurd (subst (λ (x : List Row). Has (cells in_order row) x) (early s.0.0 e).1 s.1)
              | inr rest ↦ (latest_partition earlier later now nothing refl early late row).1 s.0.0 rest (in_asked in_order held (set_at s.0.0 1) row asked.0 s.1)
            ],
      )

latest_sees : (names columns : List Name) (keys : List ℕ) → OutputsSeePorts names (Latest columns keys)
latest_sees names columns keys zero = record {
  only = λ nows others same. ap set_of (latest_only columns keys (nothing columns keys) (nothing columns keys) refl nows others same);
  none = λ nows silent. ap set_of (latest_quiet columns keys (nothing columns keys) nows (λ n came. silent n came 1 (omega arith) refl));
  partition = λ earlier later now early late. latest_once columns keys earlier later now (λ n h. (early n h 0 (omega arith) refl, early n h 1 (omega arith) refl)) (λ n h. late n h 0 (omega arith) refl);
  late = λ fewer more inside same row h.
      let put = kept_same columns keys [] (set_at fewer 0) (set_at more 0) (same 0 (omega arith) refl) in
      let there = out_within columns keys (latest_kept (in_order columns keys) [] (set_at fewer 0)) (set_at fewer 1) (set_at more 1) (inside 1 (omega arith) refl) row (one_step (Latest columns keys) 0 fewer row h) in
      in_one_step (Latest columns keys) 0 more row (subst (λ (l : List Row). Has row (latest_out (in_order columns keys) l (set_at more 1))) put there);
}
latest_sees names columns keys (suc output) = none_sees (Latest columns keys) (suc output) (λ kept now. refl) (λ port. note_of names (Latest columns keys) port (suc output))

latest_silent : (names columns : List Name) (keys : List ℕ) (output : ℕ)
    → IsSilent (Latest columns keys) (λ port. note_of names (Latest columns keys) port output) (output_over (Latest columns keys) output)
latest_silent names columns keys zero port lt o nows silent = ap set_of (latest_quiet columns keys (nothing columns keys) nows (λ n h. silent n h 1 (omega arith) refl))
latest_silent names columns keys (suc output) port lt o nows silent = none_silent (Latest columns keys) (suc output) (λ kept now. refl) (λ other. note_of names (Latest columns keys) other (suc output)) port lt o nows silent

-- ---- all programs

pub outputs_see : (names : List Name) (program : Program) → IsProper program → OutputsSeePorts names program
outputs_see names (Module a) proper = λ output. output_sees names a proper output
outputs_see names (Split columns split) proper = split_sees names columns split proper
outputs_see names (Latest columns keys) proper = latest_sees names columns keys
outputs_see names (Number columns) proper = number_sees names columns

pub stock_silent : (names : List Name) (program : Program) → StockIsSilent names program
stock_silent names (Module a) = tt
stock_silent names (Split columns split) = λ output port lt o nows silent. absurd (true≢false (sym o))
stock_silent names (Latest columns keys) = latest_silent names columns keys
stock_silent names (Number columns) = number_silent names columns
