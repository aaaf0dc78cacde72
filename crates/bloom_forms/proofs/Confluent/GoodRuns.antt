-- Good tables, and rules that are linear or growing, have over the steps of a run what they have in one step of all that arrives.
use Rattle.std.proofs.Common.{◌≡◌, ◌<◌, ◌&&◌, ℕ, Bool, true, false, not, if◌then◌else◌, List, Some, length, refl, ◌∙◌, sym, subst, inl, inr, ◌⊎◌}
use Rattle.std.specs.List.{fold}
use Rattle.std.proofs.lemmas.Bool.{true≢false}
use Rattle.blz_value.specs.Members.{Has, IsWithin}
use Rattle.blz_value.specs.Record.{Row}
use Rattle.blz_value.specs.Bits.{bit_of, meets}
use Rattle.blz_value.proofs.Members.{some-meets, in-bit, in-within}
use Rattle.bloom_forms.specs.declared.module.Kind.TheVariants.{Input, Table}
use Rattle.bloom_forms.specs.declared.module.Collection.{Collection}
use Rattle.bloom_forms.specs.declared.program.Program.TheVariants.{Module}
use Rattle.bloom_forms.specs.Checks.{IsChecked}
use Rattle.bloom_forms.specs.Equations.{Env, end_env}
use Rattle.bloom_forms.specs.Form.{RuleForm, Accepted}
use Rattle.bloom_forms.specs.Kinds.{same_kind, kind_at, place_in_kind}
use Rattle.bloom_forms.specs.Program.{port_columns}
use Rattle.bloom_forms.specs.ProgramStep.{tables_after_step, empty_tables}
use Rattle.bloom_forms.specs.Query.{Name, Query}
use Rattle.bloom_forms.specs.Reads.{direct}
use Rattle.bloom_forms.specs.Step.{Sets, set_at}
use Rattle.bloom_forms.specs.Plain.{is_free}
use Rattle.bloom_forms.proofs.Collections.KindSets.{in_kind_set}
use Rattle.bloom_forms.proofs.Reach.ByCones.{IsBelow, read_below, by_cones}
use Rattle.bloom_forms.proofs.Ends.EquationsLemmas.{IsEnd, is_end, port_end, from_table, table_ruled}
use Rattle.bloom_forms.proofs.Reach.MomentaryLemmas.{now, port_now}
use Rattle.bloom_forms.proofs.Reach.ReadsLemmas.{number_of, small_number, rules_named, rule_stands, IsIn}
use Rattle.bloom_forms.proofs.Ends.StepsLemmas.{StepOf, before, arrives, env_of, table_rows, nothing_kept, held_at, held_from, ended_run}
use Rattle.bloom_forms.proofs.Collections.KindNumbersLemmas.{place_within}
use Rattle.bloom_forms.specs.Good.{all_tables, tables_read, reads_table, reads_good, is_good_rule, good_tables}
use Rattle.bloom_forms.proofs.Reach.Behind.{in_tables_read}
use Rattle.bloom_forms.proofs.Reach.GoodTables.{good_by_rules}
use Rattle.bloom_forms.specs.Runs.{query_rows}
use Rattle.bloom_forms.proofs.Rows.Linear.{IsUnionOf}
use Rattle.bloom_forms.proofs.Rows.Through.{free_grows, rule_linear, has_leaf}

-- How the proof goes.
-- The arrivals of one step are, port by port, the union of those of a run.
-- A linear rule has the union of its rows in the steps, by its ports alone (rule_linear).
-- A growing rule only needs that the tables that it reads are the same in the end (free_grows).
-- A good table is, by induction over cones: each of its rules is linear or growing over good tables.
-- So in the end it holds what it holds in one step, and each rule of the two kinds is spread.

module _ (a : Accepted) (checked : IsChecked a.form a.heads) where
  abbrev cs : List Collection
  cs = a.form.collections

  abbrev start : Sets
  start = empty_tables (Module a)

  -- an expression that reads a table reads one
  pub table_read : (q : Query) (n : Name) → IsIn a checked q n → kind_at cs (number_of a checked n) ≡ Some Table
      → reads_table cs a.form.rules q ≡ true
  table_read q n inside is =
      let k = number_of a checked n in
      let small = small_number a checked n in
      some-meets (all_tables cs) (direct cs a.form.rules q) k (in-bit k (all_tables cs) small (in_kind_set (same_kind Table) cs k Table small is refl)) (in-bit k (direct cs a.form.rules q) small inside)

  pub read_is_good : (good : ℕ) (q : Query) → reads_good cs a.form.rules good q ≡ true → (n : Name) → IsIn a checked q n
      → kind_at cs (number_of a checked n) ≡ Some Table → meets (bit_of (number_of a checked n)) good ≡ true
  read_is_good good q h n inside is =
      let k = number_of a checked n in
      in-within k (tables_read cs a.form.rules q) good (small_number a checked n) (in_tables_read cs a.form.rules q k (small_number a checked n) is inside) h

  -- a rule that is momentary and reads no table
  abbrev pub IsLinearRule : RuleForm → Type 0
  IsLinearRule rule = (now a checked rule.1 ≡ true) × (reads_table cs a.form.rules rule.1 ≡ false)

  -- a rule that is table-only over good tables, without group and notin
  abbrev pub IsGrowingRule : RuleForm → Type 0
  IsGrowingRule rule = (now a checked rule.1 ≡ false) × (is_free cs a.form.rules rule.1 ≡ true) × (reads_good cs a.form.rules (good_tables a) rule.1 ≡ true)

  module _ (nows : List Sets) (once : Sets)
      (union : (port : ℕ) → port < length (port_columns (Module a)) → IsUnionOf {J = StepOf (Module a) start nows} (λ j. set_at (arrives (Module a) start nows j) port) (set_at once port)) where
    abbrev J : Type 0
    J = StepOf (Module a) start nows

    abbrev each : J → Env
    each j = env_of a checked start nows j

    abbrev whole : Env
    whole = end_env a start once

    abbrev after : ℕ → List Row
    after k = table_rows a checked k (fold (tables_after_step (Module a)) start nows)

    each_end : (j : J) → IsEnd a checked (each j)
    each_end j = is_end a checked (before (Module a) start nows j) (arrives (Module a) start nows j)

    whole_end : IsEnd a checked whole
    whole_end = is_end a checked start once

    ports : (n : Name) → kind_at cs (number_of a checked n) ≡ Some Input → IsUnionOf {J = J} (λ j. each j n) (whole n)
    ports n is =
        let k = number_of a checked n in
        let u = union (place_in_kind Input cs k) (place_within Input cs k is) in
        record {
          some = λ row h. let s = u.some row (subst (λ (x : List Row). Has row x) (port_end a checked start once k is) h) in
              (s.0, subst (λ (x : List Row). Has row x) (sym (port_end a checked (before (Module a) start nows s.0) (arrives (Module a) start nows s.0) k is)) s.1);
          inside = λ j row h. subst (λ (x : List Row). Has row x) (sym (port_end a checked start once k is)) (u.inside j row (subst (λ (x : List Row). Has row x) (port_end a checked (before (Module a) start nows j) (arrives (Module a) start nows j) k is) h));
        }

    -- ---- linear rules

    pub linear_rule : (rule : RuleForm) → Has rule a.form.rules → now a checked rule.1 ≡ true → reads_table cs a.form.rules rule.1 ≡ false → IsUnionOf {J = J} (λ j. query_rows a rule.1 (before (Module a) start nows j) (arrives (Module a) start nows j)) (query_rows a rule.1 start once)
    linear_rule rule stands momentary none =
        (rule_linear a checked rule stands {J = J} each whole each_end whole_end (λ n inside is. ports n is) (λ n inside is j. absurd (true≢false (sym (table_read rule.1 n inside is) ∙ none)))).union momentary

    -- ---- growing rules, where the tables that are read have after the run what they have in one step

    -- a table has the same rows in both ways
    pub record IsSame (n : Name) : Type 0 where
      pub to : IsWithin (after (number_of a checked n)) (whole n)
      pub from : IsWithin (whole n) (after (number_of a checked n))

    -- the rows of a rule in the steps of the run are those of one step
    abbrev pub IsSpread : RuleForm → Type 0
    IsSpread rule = IsUnionOf {J = J} (λ j. query_rows a rule.1 (before (Module a) start nows j) (arrives (Module a) start nows j)) (query_rows a rule.1 start once)

    growing_rule : (rule : RuleForm) → Has rule a.form.rules → now a checked rule.1 ≡ false → is_free cs a.form.rules rule.1 ≡ true
        → ((n : Name) → IsIn a checked rule.1 n → kind_at cs (number_of a checked n) ≡ Some Table → IsSame n) → IsSpread rule
    growing_rule rule stands later free same = record {
      some = λ row h. elim (ended_run a checked nows) [
        | inl none ↦ absurd (
            let leaf = has_leaf a checked rule stands whole whole_end row h in
            elim leaf.kind [
              | inl is ↦ true≢false (sym (port_now a checked rule.1 leaf.name leaf.read is) ∙ later)
              | inr is ↦ none (number_of a checked leaf.name) leaf.row ((same leaf.name leaf.read is).from leaf.row leaf.held)
            ])
        | inr last ↦ (
          last.0,
          free_grows a checked rule stands later whole (each last.0) whole_end (each_end last.0) free
              (λ n inside is r g. subst (λ (x : List Row). Has r x) (last.1 (number_of a checked n) is) ((same n inside is).from r g)) row h,
        )
      ];
      inside = λ j. free_grows a checked rule stands later (each j) whole (each_end j) whole_end free
          (λ n inside is row h. (same n inside is).to row (held_at a checked (number_of a checked n) is start nows j row h));
    }

    -- ---- good tables

    good_rule : (rule : RuleForm) → is_good_rule cs a.form.rules (good_tables a) rule.1 ≡ true → IsLinearRule rule ⊎ IsGrowingRule rule
    good_rule rule h = by (now a checked rule.1) (reads_table cs a.form.rules rule.1) (reads_good cs a.form.rules (good_tables a) rule.1) (is_free cs a.form.rules rule.1) refl refl refl refl h
      where
        by : (m t g f : Bool) → now a checked rule.1 ≡ m → reads_table cs a.form.rules rule.1 ≡ t
            → reads_good cs a.form.rules (good_tables a) rule.1 ≡ g → is_free cs a.form.rules rule.1 ≡ f
            → (if m then not t else (g && f)) ≡ true → IsLinearRule rule ⊎ IsGrowingRule rule
        by true false g f em et eg ef h = inl (em, et)
        by true true g f em et eg ef h = absurd (let bad : false ≡ true = h in true≢false (sym bad))
        by false t true true em et eg ef h = inr (em, ef, eg)
        by false t true false em et eg ef h = absurd (let bad : false ≡ true = h in true≢false (sym bad))
        by false t false f em et eg ef h = absurd (let bad : false ≡ true = h in true≢false (sym bad))

    spread_by : (rule : RuleForm) → Has rule a.form.rules → IsLinearRule rule ⊎ IsGrowingRule rule
        → ((n : Name) → IsIn a checked rule.1 n → kind_at cs (number_of a checked n) ≡ Some Table → meets (bit_of (number_of a checked n)) (good_tables a) ≡ true → IsSame n)
        → IsSpread rule
    spread_by rule stands kind same = elim kind [
      | inl l ↦ linear_rule rule stands l.0 l.1
      | inr g ↦ growing_rule rule stands g.0 g.1 (λ n inside is. same n inside is (read_is_good (good_tables a) rule.1 g.2 n inside is))
    ]

    pub good_same : (n : Name) → kind_at cs (number_of a checked n) ≡ Some Table
        → meets (bit_of (number_of a checked n)) (good_tables a) ≡ true → IsSame n
    good_same = by_cones a checked (λ n. kind_at cs (number_of a checked n) ≡ Some Table → meets (bit_of (number_of a checked n)) (good_tables a) ≡ true → IsSame n) table
      where
        table : (n : Name)
            → ((rule : RuleForm) (m : Name) → Has rule (rules_named a checked n) → IsBelow a checked rule m → kind_at cs (number_of a checked m) ≡ Some Table → meets (bit_of (number_of a checked m)) (good_tables a) ≡ true → IsSame m)
            → kind_at cs (number_of a checked n) ≡ Some Table → meets (bit_of (number_of a checked n)) (good_tables a) ≡ true → IsSame n
        table n below is good =
            let k = number_of a checked n in
            let spread : (rule : RuleForm) → Has rule (rules_named a checked n) → IsSpread rule = λ rule of_head.
            spread_by rule (rule_stands a checked k rule of_head).0 (good_rule rule ((good_by_rules a checked k is).0 good rule of_head))
            (λ m inside. below rule m of_head (read_below a checked rule m inside)) in
            record {
              to = λ row h. elim (held_from a checked k is start nows row h) [
                | inl old ↦ absurd (nothing_kept a checked k row old)
                | inr f ↦ table_ruled a checked start once k is row (record { rule = f.1.rule; of_head = f.1.of_head; stands = (spread f.1.rule f.1.of_head).inside f.0 row f.1.stands })
              ];
              from = λ row h. elim (from_table a checked start once k is row h) [
                | inl old ↦ absurd (nothing_kept a checked k row old)
                | inr f ↦
                    let s = (spread f.rule f.of_head).some row f.stands in
                    held_at a checked k is start nows s.0 row (table_ruled a checked (before (Module a) start nows s.0) (arrives (Module a) start nows s.0) k is row (record { rule = f.rule; of_head = f.of_head; stands = s.1 }))
              ];
            }

    -- a linear or growing rule
    pub spread : (rule : RuleForm) → Has rule a.form.rules → IsLinearRule rule ⊎ IsGrowingRule rule → IsSpread rule
    spread rule stands kind = spread_by rule stands kind (λ n inside. good_same n)
