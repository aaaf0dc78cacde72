-- A rule sees no more than the ports that it uses, and is silent where nothing arrives at those to which it gives O.
use Rattle.std.proofs.Common.{◌≡◌, ◌<◌, ◌++◌, append_assoc, ℕ, Bool, true, if◌then◌else◌, Some, List, [], ◌∷◌, length, map, refl, ap, ◌∙◌, sym, subst, inl, inr, arith, Option, None}
use Rattle.std.specs.Prelude.{is_some}
use Rattle.std.specs.List.{AllZip, fold, flat_map, range_with_len}
use Rattle.std.proofs.lemmas.Bool.{cases_Bool}
use Rattle.std.proofs.lemmas.List.FromFn.{get_or-map-range_with_len}
use Rattle.blz_value.specs.Members.{Has, IsWithin, HaveEqualMembers}
use Rattle.blz_value.specs.Record.{Row}
use Rattle.blz_value.proofs.Membership.{Has-append_left, Has-append_right, Has-append_cases, append_within, Has-flat_map, Has-from_flat_map}
use Rattle.blz_value.proofs.RowSets.{same_set_of}
use Rattle.blz_value.proofs.SetLaws.{Has-set_of, Has-from_set_of}
use Rattle.blz_value.specs.Closure.{IsLeastClosed}
use Rattle.blz_value.proofs.Least.{closure-least}
use Rattle.blz_value.proofs.Members.{in-within}
use Rattle.blz_value.proofs.Within.{within-refl}
use Rattle.bloom_forms.specs.declared.module.Kind.TheVariants.{Input, Table}
use Rattle.bloom_forms.specs.declared.module.Collection.{Collection}
use Rattle.bloom_forms.specs.declared.program.Program.{Program}
use Rattle.bloom_forms.specs.declared.program.Program.TheVariants.{Module}
use Rattle.bloom_forms.specs.Checks.{IsChecked}
use Rattle.bloom_forms.specs.Equations.{Env, end_env}
use Rattle.bloom_forms.specs.Form.{RuleForm, Accepted}
use Rattle.bloom_forms.specs.Kinds.{kind_at, place_in_kind}
use Rattle.bloom_forms.specs.Program.{port_columns}
use Rattle.bloom_forms.specs.ProgramStep.{tables_after_step, empty_tables}
use Rattle.bloom_forms.specs.Query.{Name}
use Rattle.bloom_forms.specs.Reads.{named, arrows, cone}
use Rattle.bloom_forms.specs.Step.{Sets, set_at}
use Rattle.bloom_forms.proofs.Reach.ByCones.{IsBelow, read_below}
use Rattle.bloom_forms.proofs.Ends.EquationsLemmas.{is_end, port_end, next_table}
use Rattle.bloom_forms.proofs.Reach.MomentaryLemmas.{now}
use Rattle.bloom_forms.proofs.Reach.ReadsLemmas.{number_of, small_number}
use Rattle.bloom_forms.proofs.Ends.StepsLemmas.{StepOf, before, arrives, arrives_in, step_with, env_of, table_rows, nothing_kept}
use Rattle.bloom_forms.proofs.Collections.KindNumbersLemmas.{place_within}
use Rattle.bloom_forms.specs.declared.note.Note.{Note}
use Rattle.bloom_forms.specs.ClosedForms.{behind}
use Rattle.bloom_forms.specs.Good.{tables_read}
use Rattle.bloom_forms.specs.Annotation.{rule_use}
use Rattle.bloom_forms.specs.Given.{is_o, is_w}
use Rattle.bloom_forms.proofs.Reach.Behind.{behind-cone, table-behind}
use Rattle.bloom_forms.proofs.Combining.GivenLemmas.{used_below, w_behind, o_read, o_below}
use Rattle.bloom_forms.specs.Ports.{AreSilentAt, AreSameAt, SeesItsPorts, IsSilent, RulesSeePorts}
use Rattle.bloom_forms.specs.Runs.{query_rows, query_over, over_steps, arriving_at, at_once}
use Rattle.bloom_forms.proofs.Rows.Closed.{IsInSet, ReadsSet, none_is, KeepsNothing, IsQuiet, rule_nothing, next_nothing, KeepSame, ArriveSame, ended_same, rule_same, next_same, KeepsEnd, still_end, next_end}
use Rattle.bloom_forms.proofs.Rows.Linear.{IsUnionOf, IsLinear}
use Rattle.bloom_forms.proofs.Confluent.Spreading.{without_end}
use Rattle.bloom_forms.proofs.Rows.Through.{rule_linear}
use Rattle.bloom_forms.proofs.Ports.Silence.{silent_port}
use Rattle.bloom_forms.proofs.Rows.RunsLemmas.{from_steps, in_steps}

-- How the proof goes.
-- Ports in the cone of a rule are used, so ports that aren't used make no difference (rule_same).
-- Where nothing arrives at used ports, tables behind the rule stay empty and it has no rows (rule_nothing).
-- What isn't W stands behind no table that the rule reads: after the one step its tables stay.
-- So a rule has its rows in that step, and none that it hadn't in later ones (still_end).
-- Where it gives O to some port: a momentary rule needs a row there, and a table-only rule one behind it.

-- ---- runs in two parts

pub over_append : (program : Program) (rows : Sets → Sets → List Row) (kept : Sets) (xs ys : List Sets)
    → over_steps program rows kept (xs ++ ys) ≡ over_steps program rows kept xs ++ over_steps program rows (fold (tables_after_step program) kept xs) ys
over_append program rows kept [] ys = refl
over_append program rows kept (x ∷ xs) ys =
    let more = over_append program rows (tables_after_step program kept x) xs ys in
    ap (λ (l : List Row). rows kept x ++ l) more ∙ rw append_assoc refl

-- a set has the records of some arrivals at a port
abbrev pub IsUnionAt : List Sets → Sets → ℕ → Type 0
IsUnionAt nows once port = IsUnionOf {J = (arriving : Sets) × Has arriving nows} (λ j. set_at j.0 port) (set_at once port)

pub at_once_union : (program : Program) (nows : List Sets) (port : ℕ) → port < length (port_columns program)
    → IsUnionAt nows (at_once program nows) port
at_once_union program nows port lt =
    let is : set_at (at_once program nows) port ≡ arriving_at port nows = get_or-map-range_with_len (λ k. arriving_at k nows) 0 (length (port_columns program)) port port [] lt (omega arith) in
    record {
      some = λ row h. let m = Has-from_flat_map (λ arriving. set_at arriving port) row nows (Has-from_set_of row (flat_map (λ arriving. set_at arriving port) nows) (subst (λ (x : List Row). Has row x) is h)) in ((m.0, m.1), m.2);
      inside = λ j row h. subst (λ (x : List Row). Has row x) (sym is) (Has-set_of row (flat_map (λ arriving. set_at arriving port) nows) (Has-flat_map (λ arriving. set_at arriving port) j.0 row nows j.1 h));
    }

-- the same arrivals without those at ports that pass a test
abbrev pub without : Program → (ℕ → Bool) → Sets → Sets
without program test arriving = map (λ port. if test port then [] else set_at arriving port) (range_with_len 0 (length (port_columns program)))

pub without_at : (program : Program) (test : ℕ → Bool) (arriving : Sets) (port : ℕ)
    → port < length (port_columns program)
    → set_at (without program test arriving) port ≡ (if test port then [] else set_at arriving port)
without_at program test arriving port lt = get_or-map-range_with_len (λ k. if test k then [] else set_at arriving k) 0 (length (port_columns program)) port port [] lt (omega arith)

-- fewer records and the others at ports that aren't W are all records
pub late_union : (program : Program) (w : ℕ → Bool) (fewer more : Sets) (port : ℕ)
    → port < length (port_columns program) → IsWithin (set_at fewer port) (set_at more port)
    → (w port ≡ true → HaveEqualMembers (set_at fewer port) (set_at more port)) → IsUnionAt (fewer ∷ without program w more ∷ []) more port
late_union program w fewer more port lt inside same =
    let other = without program w more in
    let is = without_at program w more port lt in
    elim (cases_Bool (w port)) [
      | inl t ↦ (
          let none : set_at other port ≡ [] = rw t at is in
          record {
            some = λ row h. ((fewer, inl refl), (same t).1 row h);
            inside = λ j row h. elim j.1 [
              | inl e ↦ inside row (subst (λ (n : Sets). Has row (set_at n port)) (sym e) h)
              | inr rest ↦ elim rest [ inl e ↦ absurd (subst (λ (x : List Row). Has row x) none (subst (λ (n : Sets). Has row (set_at n port)) (sym e) h)) | inr never ↦ absurd never ]
            ];
          })
      | inr f ↦ (
          let all : set_at other port ≡ set_at more port = rw f at is in
          record {
            some = λ row h. ((other, inr (inl refl)), subst (λ (x : List Row). Has row x) (sym all) h);
            inside = λ j row h. elim j.1 [
              | inl e ↦ inside row (subst (λ (n : Sets). Has row (set_at n port)) (sym e) h)
              | inr rest ↦ elim rest [ inl e ↦ subst (λ (x : List Row). Has row x) all (subst (λ (n : Sets). Has row (set_at n port)) (sym e) h) | inr never ↦ absurd never ]
            ];
          })
    ]

pub late_silent : (program : Program) (w : ℕ → Bool) (more : Sets) → AreSilentAt program w (without program w more ∷ [])
late_silent program w more arriving (inl e) port lt t = subst (λ (n : Sets). set_at n port ≡ []) e (let is = without_at program w more port lt in rw t at is)
late_silent program w more arriving (inr never) port lt t = absurd never

-- ---- one timestep with records

pub w_some : (given : Option Note) → is_w given ≡ true → is_some given ≡ true
w_some None h = h
w_some (Some note) h = refl

-- ---- a rule

module _ (names : List Name) (a : Accepted) (checked : IsChecked a.form a.heads) (rule : RuleForm) (stands : Has rule a.form.rules) where
  abbrev cs : List Collection
  cs = a.form.collections

  abbrev start : Sets
  start = empty_tables (Module a)

  abbrev used : ℕ → Bool
  used port = is_some (rule_use names a rule port)

  abbrev w : ℕ → Bool
  w port = is_w (rule_use names a rule port)

  abbrev rows : Sets → Sets → List Row
  rows = query_rows a rule.1

  abbrev step : Sets → Sets → Sets
  step = tables_after_step (Module a)

  -- the cone, and what is behind the tables that the rule reads
  abbrev cone_set : ℕ
  cone_set = cone cs a.form.rules rule.1

  abbrev behind_set : ℕ
  behind_set = behind cs a.form.rules rule.1

  abbrev cone_least : IsLeastClosed (named cs rule.1) (arrows cs a.form.rules) cone_set
  cone_least = closure-least (named cs rule.1) (arrows cs a.form.rules)

  abbrev behind_least : IsLeastClosed (tables_read cs a.form.rules rule.1) (arrows cs a.form.rules) behind_set
  behind_least = closure-least (tables_read cs a.form.rules rule.1) (arrows cs a.form.rules)

  own_reads : ReadsSet a checked cone_set cone_least.closed rule
  own_reads = within-refl cone_set

  -- ---- nothing arrives

  quiet_cone : (nows : List Sets) → AreSilentAt (Module a) used nows → (arriving : Sets) → Has arriving nows
      → IsQuiet a checked cone_set cone_least.closed arriving
  quiet_cone nows silent arriving came n inside is row h = silent_port a checked used nows silent arriving came n is (used_below names a checked rule stands n inside is) row h

  quiet_behind : (nows : List Sets) → AreSilentAt (Module a) w nows → (arriving : Sets) → Has arriving nows
      → IsQuiet a checked behind_set behind_least.closed arriving
  quiet_behind nows silent arriving came n inside is row h = silent_port a checked w nows silent arriving came n is (w_behind names a checked rule stands n inside is) row h

  start_nothing : KeepsNothing a checked cone_set cone_least.closed start
  start_nothing n inside is row h = nothing_kept a checked (number_of a checked n) row h

  nothing_over : (nows : List Sets) (kept : Sets) → KeepsNothing a checked cone_set cone_least.closed kept
      → ((arriving : Sets) → Has arriving nows → IsQuiet a checked cone_set cone_least.closed arriving)
      → ((row : Row) → Has row (over_steps (Module a) rows kept nows) → ⊥) × KeepsNothing a checked cone_set cone_least.closed (fold step kept nows)
  nothing_over [] kept nothing quiet = ((λ row h. h), nothing)
  nothing_over (arriving ∷ nows) kept nothing quiet =
      let own = quiet arriving (inl refl) in
      let more = nothing_over nows (step kept arriving) (next_nothing a checked cone_set cone_least.closed kept arriving nothing own) (λ other h. quiet other (inr h)) in (
        (λ row h. elim (Has-append_cases row (rows kept arriving) (over_steps (Module a) rows (step kept arriving) nows) h) [
          | inl here ↦ rule_nothing a checked cone_set cone_least.closed kept arriving nothing own rule stands own_reads row here
          | inr later ↦ more.0 row later
        ]),
        more.1,
      )

  -- ---- the same arrives

  pub same_over : (nows others : List Sets) → AllZip (AreSameAt (Module a) used) nows others → (kept other : Sets)
      → KeepSame a checked cone_set cone_least.closed kept other
      → HaveEqualMembers (over_steps (Module a) rows kept nows) (over_steps (Module a) rows other others)
  same_over [] [] same kept other old = ((λ row h. h), (λ row h. h))
  same_over [] (o ∷ others) same kept other old = absurd same
  same_over (n ∷ nows) [] same kept other old = absurd same
  same_over (n ∷ nows) (o ∷ others) same kept other old =
      let come : ArriveSame a checked cone_set cone_least.closed n o = λ m inside is. same.0 (place_in_kind Input cs (number_of a checked m)) (place_within Input cs (number_of a checked m) is) (used_below names a checked rule stands m inside is) in
      let here = rule_same a checked cone_set cone_least.closed kept n other o old come rule stands own_reads in
      let later = same_over nows others same.1 (step kept n) (step other o) (next_same a checked cone_set cone_least.closed kept n other o old come) in (
        append_within (rows kept n) (over_steps (Module a) rows (step kept n) nows) (rows other o) (over_steps (Module a) rows (step other o) others) here.0 later.0,
        append_within (rows other o) (over_steps (Module a) rows (step other o) others) (rows kept n) (over_steps (Module a) rows (step kept n) nows) here.1 later.1,
      )

  -- ---- one partition

  module _ (earlier later : List Sets) (arriving once : Sets) (early : AreSilentAt (Module a) used earlier) (late : AreSilentAt (Module a) w later)
      (union : (port : ℕ) → port < length (port_columns (Module a)) → used port ≡ true → IsUnionAt (earlier ++ arriving ∷ later) once port) where
    abbrev kept : Sets
    kept = fold step start earlier

    abbrev J : Type 0
    J = StepOf (Module a) kept (arriving ∷ later)

    abbrev each : J → Env
    each j = env_of a checked kept (arriving ∷ later) j

    abbrev whole : Env
    whole = end_env a start once

    abbrev BehindIn : Name → Type 0
    BehindIn n = IsInSet a checked behind_set behind_least.closed n

    in_cone_set : (n : Name) → BehindIn n → IsBelow a checked rule n
    in_cone_set n inside = in-within (number_of a checked n) behind_set cone_set (small_number a checked n) inside (behind-cone cs a.form.rules rule.1)

    none_before : ((row : Row) → Has row (over_steps (Module a) rows start earlier) → ⊥) × KeepsNothing a checked cone_set cone_least.closed kept
    none_before = nothing_over earlier start start_nothing (quiet_cone earlier early)

    -- tables behind the rule: empty before, and as in one step from then on
    first_same : KeepSame a checked behind_set behind_least.closed kept start
    first_same n inside is =
        none_is (table_rows a checked (number_of a checked n) kept) (λ row h. none_before.1 n (in_cone_set n inside) is row h)
        ∙ sym (none_is (table_rows a checked (number_of a checked n) start) (λ row h. nothing_kept a checked (number_of a checked n) row h))

    first_come : ArriveSame a checked behind_set behind_least.closed arriving once
    first_come n inside is =
        let k = number_of a checked n in
        let port = place_in_kind Input cs k in
        let below = in_cone_set n inside in
        let u = union port (place_within Input cs k is) (used_below names a checked rule stands n below is) in (
          λ row h. u.inside (arriving, Has-append_right arriving earlier (arriving ∷ later) (inl refl)) row h,
          λ row h.
              let s = u.some row h in
              elim (Has-append_cases s.0.0 earlier (arriving ∷ later) s.0.1) [
                | inl e ↦ absurd (quiet_cone earlier early s.0.0 e n below is row s.1)
                | inr rest ↦ elim rest [
                  | inl same ↦ subst (λ (x : Sets). Has row (set_at x port)) (sym same) s.1
                  | inr l ↦ absurd (quiet_behind later late s.0.0 l n inside is row s.1)
                ]
              ],
        )

    first_end : (n : Name) → BehindIn n → kind_at cs (number_of a checked n) ≡ Some Table → end_env a kept arriving n ≡ whole n
    first_end n inside is = ended_same a checked behind_set behind_least.closed kept arriving start once first_same first_come n inside is

    end_over : (nows : List Sets)
        → ((other : Sets) → Has other nows → IsQuiet a checked behind_set behind_least.closed other) → (from : Sets)
        → KeepsEnd a checked behind_set behind_least.closed from whole
        → (j : StepOf (Module a) from nows) (n : Name) → BehindIn n → kind_at cs (number_of a checked n) ≡ Some Table
        → env_of a checked from nows j n ≡ whole n
    end_over [] quiet from old j n inside is = absurd j
    end_over (other ∷ nows) quiet from old (inl first) n inside is = still_end a checked behind_set behind_least.closed from other start once old (quiet other (inl refl)) n inside is
    end_over (other ∷ nows) quiet from old (inr rest) n inside is =
        end_over nows (λ x h. quiet x (inr h)) (step from other) (next_end a checked behind_set behind_least.closed from other start once old (quiet other (inl refl))) rest n inside is

    each_end : (j : J) (n : Name) → BehindIn n → kind_at cs (number_of a checked n) ≡ Some Table → each j n ≡ whole n
    each_end (inl first) n inside is = first_end n inside is
    each_end (inr rest) n inside is = end_over later (quiet_behind later late) (step kept arriving) (λ m below table. next_table a checked kept arriving (number_of a checked m) table ∙ first_end m below table) rest n inside is

    partition_linear : IsLinear a checked {J = J} each whole rule.1
    partition_linear = rule_linear a checked rule stands {J = J} each whole (λ j. is_end a checked (before (Module a) kept (arriving ∷ later) j) (arrives (Module a) kept (arriving ∷ later) j)) (is_end a checked start once)
        (λ n inside is.
        let k = number_of a checked n in
        let port = place_in_kind Input cs k in
        let below = read_below a checked rule n inside in
        let u = union port (place_within Input cs k is) (used_below names a checked rule stands n below is) in
        record {
          some = λ row h.
              let s = u.some row (subst (λ (x : List Row). Has row x) (port_end a checked start once k is) h) in
              elim (Has-append_cases s.0.0 earlier (arriving ∷ later) s.0.1) [
                | inl e ↦ absurd (quiet_cone earlier early s.0.0 e n below is row s.1)
                | inr rest ↦
                    let t = step_with (Module a) kept (arriving ∷ later) s.0.0 rest in
                    (t.0, subst (λ (x : List Row). Has row x) (sym (port_end a checked (before (Module a) kept (arriving ∷ later) t.0) (arrives (Module a) kept (arriving ∷ later) t.0) k is)) (subst (λ (x : Sets). Has row (set_at x port)) (sym t.1) s.1))
              ];
          inside = λ j row h. subst (λ (x : List Row). Has row x) (sym (port_end a checked start once k is))
              (u.inside (arrives (Module a) kept (arriving ∷ later) j, Has-append_right _ earlier (arriving ∷ later) (arrives_in (Module a) kept (arriving ∷ later) j)) row
              (subst (λ (x : List Row). Has row x) (port_end a checked (before (Module a) kept (arriving ∷ later) j) (arrives (Module a) kept (arriving ∷ later) j) k is) h));
        })
        (λ n inside is j. each_end j n (table-behind cs a.form.rules rule.1 (number_of a checked n) (small_number a checked n) is inside) is)

    pub partition_same : HaveEqualMembers (over_steps (Module a) rows start (earlier ++ arriving ∷ later)) (rows start once)
    partition_same =
        let parts = over_append (Module a) rows start earlier (arriving ∷ later) in
        let last = over_steps (Module a) rows kept (arriving ∷ later) in
        let to : (j : J) (row : Row) → Has row (rows (before (Module a) kept (arriving ∷ later) j) (arrives (Module a) kept (arriving ∷ later) j)) → Has row (rows start once) = λ j row h. elim (cases_Bool (now a checked rule.1)) [
          | inl t ↦ (partition_linear.union t).inside j row h
          | inr f ↦ subst (λ (x : List Row). Has row x) (partition_linear.same f j) h
        ] in
        let from : (row : Row) → Has row (rows start once) → (j : J) × Has row (rows (before (Module a) kept (arriving ∷ later) j) (arrives (Module a) kept (arriving ∷ later) j)) = λ row h. elim (cases_Bool (now a checked rule.1)) [
          | inl t ↦ (partition_linear.union t).some row h
          | inr f ↦ (inl tt, subst (λ (x : List Row). Has row x) (sym (partition_linear.same f (inl tt))) h)
        ] in (
          λ row h. elim (Has-append_cases row (over_steps (Module a) rows start earlier) last (subst (λ (x : List Row). Has row x) parts h)) [
            | inl first ↦ absurd (none_before.0 row first)
            | inr second ↦ let s = from_steps (Module a) rows kept (arriving ∷ later) row second in to s.0 row s.1
          ],
          λ row h.
              let s = from row h in
              subst (λ (x : List Row). Has row x) (sym parts) (Has-append_right row (over_steps (Module a) rows start earlier) last (in_steps (Module a) rows kept (arriving ∷ later) row s.0 s.1)),
        )

  -- ---- silence

  silent_step : now a checked rule.1 ≡ true → (port : ℕ) → is_o (rule_use names a rule port) ≡ true → (nows : List Sets)
      → AreSilentAt (Module a) (λ other. is_o (rule_use names a rule other)) nows → (kept : Sets) (arriving : Sets)
      → Has arriving nows → (row : Row) → Has row (rows kept arriving) → ⊥
  silent_step t port o nows silent kept arriving came row h =
      let l = rule_linear a checked rule stands {J = ⊥} (λ j. absurd j) (end_env a kept arriving) (λ j. absurd j) (is_end a checked kept arriving)
      (λ n inside is. record {
        some = λ r g. absurd (silent_port a checked (λ other. is_o (rule_use names a rule other)) nows silent arriving came n is (o_read names a checked rule stands t port o n inside is) r (subst (λ (x : List Row). Has r x) (port_end a checked kept arriving (number_of a checked n) is) g));
        inside = λ j. absurd j;
      })
      (λ n inside is j. absurd j) in
      ((l.union t).some row h).0

  silent_rows : (port : ℕ) → is_o (rule_use names a rule port) ≡ true → (nows : List Sets)
      → AreSilentAt (Module a) (λ other. is_o (rule_use names a rule other)) nows → (row : Row)
      → Has row (over_steps (Module a) rows start nows) → ⊥
  silent_rows port o nows silent row h = elim (cases_Bool (now a checked rule.1)) [
    | inl t ↦ (let s = from_steps (Module a) rows start nows row h in silent_step t port o nows silent (before (Module a) start nows s.0) (arrives (Module a) start nows s.0) (arrives_in (Module a) start nows s.0) row s.1)
    | inr f ↦ (nothing_over nows start start_nothing (λ arriving came n inside is r g. silent_port a checked (λ other. is_o (rule_use names a rule other)) nows silent arriving came n is (o_below names a checked rule stands f port o n inside is) r g)).0 row h
  ]

  pub rule_silent : IsSilent (Module a) (rule_use names a rule) (query_over a rule.1)
  rule_silent port lt o nows silent = none_is (query_over a rule.1 nows) (λ row h. silent_rows port o nows silent row (Has-from_set_of row (over_steps (Module a) rows start nows) h))

  pub rule_sees : SeesItsPorts (Module a) (rule_use names a rule) (query_over a rule.1)
  rule_sees = record {
    none = λ nows silent. none_is (query_over a rule.1 nows) (λ row h. (nothing_over nows start start_nothing (quiet_cone nows silent)).0 row (Has-from_set_of row (over_steps (Module a) rows start nows) h));
    only = λ nows others same. same_set_of (over_steps (Module a) rows start nows) (over_steps (Module a) rows start others) (same_over nows others same start start (λ n inside is. refl));
    partition = λ earlier later arriving early late.
        let all = earlier ++ arriving ∷ later in
        let p = partition_same earlier later arriving (at_once (Module a) all) early late (λ port lt t. at_once_union (Module a) all port lt) in
        same_set_of (over_steps (Module a) rows start all) (rows start (at_once (Module a) all) ++ []) (
          λ row h. Has-append_left row (rows start (at_once (Module a) all)) [] (p.0 row h),
          λ row h. p.1 row (without_end row (rows start (at_once (Module a) all)) h),
        );
    late = λ fewer more inside same row h.
        let extra = without (Module a) w more in
        let p = partition_same [] (extra ∷ []) fewer more (λ arriving never. absurd never) (late_silent (Module a) w more) (λ port lt t. late_union (Module a) w fewer more port lt (inside port lt t) (λ t2. same port lt t2)) in
        let there = without_end row (rows start fewer) (Has-from_set_of row (rows start fewer ++ []) h) in
        Has-set_of row (rows start more ++ []) (Has-append_left row (rows start more) [] (p.0 row (Has-append_left row (rows start fewer) (over_steps (Module a) rows (step start fewer) (extra ∷ [])) there)));
  }

pub rules_see : (names : List Name) (a : Accepted) → IsChecked a.form a.heads → RulesSeePorts names a
rules_see names a checked rule stands = (rule_sees names a checked rule stands, rule_silent names a checked rule stands)
