-- A rule whose uses are CR or CW is confluent, and so is an output towards which all notes are.
use Rattle.std.proofs.Common.{◌≡◌, ℕ, zero, suc, List, [], ◌∷◌, length, map, filter, refl, subst, inl, inr, ◌⊎◌, arith}
use Rattle.std.specs.List.{flat_map, list_any}
use Rattle.std.proofs.lemmas.Bool.{cases_Bool}
use Rattle.std.specs.Ordering.{eq_by_cmp}
use Rattle.blz_value.specs.Members.{Has}
use Rattle.blz_value.specs.Record.{Row, record_cmp}
use Rattle.blz_value.specs.Operators.{cells}
use Rattle.blz_value.proofs.Membership.{Has-flat_map, Has-from_flat_map, Has-map}
use Rattle.blz_value.proofs.SetLaws.{sorted_set_of, Has-set_of, Has-from_set_of}
use Rattle.bloom_forms.specs.declared.program.Program.{Program}
use Rattle.bloom_forms.specs.declared.program.Program.TheVariants.{Module, Split, Latest, Number}
use Rattle.bloom_forms.specs.Checks.{IsChecked}
use Rattle.bloom_forms.specs.Form.{RuleForm, Accepted}
use Rattle.bloom_forms.specs.ProgramStep.{empty_tables}
use Rattle.bloom_forms.specs.Query.{Name}
use Rattle.bloom_forms.specs.Step.{Sets, set_at, rules_at}
use Rattle.bloom_forms.specs.StockSteps.{split_row, keys_in_order, latest_kept, numbered}
use Rattle.bloom_forms.specs.Proper.{IsProper}
use Rattle.bloom_forms.proofs.Reach.MomentaryLemmas.{now}
use Rattle.bloom_forms.proofs.Reach.ReadsLemmas.{rule_stands}
use Rattle.bloom_forms.proofs.Ends.StepsLemmas.{StepOf, before, arrives}
use Rattle.bloom_forms.specs.Annotation.{rule_use}
use Rattle.bloom_forms.specs.Given.{AreAllC}
use Rattle.bloom_forms.proofs.Combining.ConfluentUses.{each_c, linear_c, growing_c}
use Rattle.bloom_forms.specs.Confluence.{ConfluentRules, ConfluentOutputs}
use Rattle.bloom_forms.specs.Runs.{query_rows, output_rows, OneStepAnswers}
use Rattle.bloom_forms.proofs.Rows.Fed.{fed}
use Rattle.bloom_forms.proofs.Confluent.GoodRuns.{IsLinearRule, IsGrowingRule, spread}
use Rattle.bloom_forms.proofs.Rows.Outputs.{number, from_output, in_output, sorted_output}
use Rattle.bloom_forms.proofs.Confluent.Spreading.{IsUnionArriving, AreShared, confluent, set_of-end}

-- How the proof goes.
-- Uses that are CR or CW make a rule linear, or growing where a port feeds it.
-- A rule that no port feeds has no row, so nothing is to be shown.
-- Rows that the steps of a run share out are those of one step (spread, confluent).
-- An output of a module goes rule by rule, since no rule may be O where all together are C.
-- Split puts out what each record gives by itself; Latest and Number give O, so nothing is claimed of them.

module _ (names : List Name) (a : Accepted) (checked : IsChecked a.form a.heads) where
  abbrev start : Sets
  start = empty_tables (Module a)

  -- a rule whose uses are C and that has a row in a run is linear or growing
  kind_of_rule : (rule : RuleForm) → Has rule a.form.rules → AreAllC (Module a) (rule_use names a rule)
      → (nows : List Sets) (j : StepOf (Module a) start nows) (row : Row)
      → Has row (query_rows a rule.1 (before (Module a) start nows j) (arrives (Module a) start nows j))
      → IsLinearRule a checked rule ⊎ IsGrowingRule a checked rule
  kind_of_rule rule stands all_c nows j row h = elim (cases_Bool (now a checked rule.1)) [
    | inl t ↦ inl (t, linear_c names a checked rule stands all_c t)
    | inr f ↦ let g = growing_c names a checked rule stands all_c f (fed a checked rule stands nows j row h) in inr (f, g.0, g.1)
  ]

  shared_rule : (rule : RuleForm) → Has rule a.form.rules → AreAllC (Module a) (rule_use names a rule)
      → (nows : List Sets) (once : Sets) → IsUnionArriving (Module a) (query_rows a rule.1) nows once
      → AreShared (Module a) (query_rows a rule.1) nows once
  shared_rule rule stands all_c nows once union = record {
    some = λ row h. (spread a checked nows once union rule stands (kind_of_rule rule stands all_c (once ∷ []) (inl tt) row h)).some row h;
    inside = λ j row h. (spread a checked nows once union rule stands (kind_of_rule rule stands all_c nows j row h)).inside j row h;
  }

  pub rules_confluent : ConfluentRules names a
  rules_confluent rule stands all_c = confluent (Module a) (query_rows a rule.1) (shared_rule rule stands all_c)

  outputs_confluent : ConfluentOutputs names (Module a)
  outputs_confluent output all_c = confluent (Module a) (output_rows (Module a) output) shared
    where
      of_rule : (rule : RuleForm) → Has rule (rules_at a.form.collections a.form.rules (number a checked output))
          → AreAllC (Module a) (rule_use names a rule)
      of_rule rule of_head port lt = each_c (map (λ (r : RuleForm). rule_use names a r port) (rules_at a.form.collections a.form.rules (number a checked output))) (all_c port lt) (rule_use names a rule port)
          (Has-map (λ (r : RuleForm). rule_use names a r port) rule (rules_at a.form.collections a.form.rules (number a checked output)) of_head)

      shared : (nows : List Sets) (once : Sets) → IsUnionArriving (Module a) (output_rows (Module a) output) nows once
          → AreShared (Module a) (output_rows (Module a) output) nows once
      shared nows once union = record {
        some = λ row h.
            let f = from_output a checked output start once row h in
            let stands = (rule_stands a checked (number a checked output) f.rule f.of_head).0 in
            let s = (shared_rule f.rule stands (of_rule f.rule f.of_head) nows once union).some row f.stands in
            (s.0, in_output a checked output (before (Module a) start nows s.0) (arrives (Module a) start nows s.0) start once row row h (record { rule = f.rule; of_head = f.of_head; stands = s.1 }));
        inside = λ j row h.
            let f = from_output a checked output (before (Module a) start nows j) (arrives (Module a) start nows j) row h in
            let stands = (rule_stands a checked (number a checked output) f.rule f.of_head).0 in
            let s = (shared_rule f.rule stands (of_rule f.rule f.of_head) nows once union).inside j row f.stands in
            in_output a checked output start once (before (Module a) start nows j) (arrives (Module a) start nows j) row row h (record { rule = f.rule; of_head = f.of_head; stands = s });
      }

-- ---- stock bodies

-- past the only output there are no rows
none_shared : (program : Program) (output : ℕ) → ((kept now : Sets) → output_rows program output kept now ≡ [])
    → (nows : List Sets) (once : Sets) → IsUnionArriving program (output_rows program output) nows once
    → AreShared program (output_rows program output) nows once
none_shared program output none nows once union = record {
  some = λ row h. absurd (subst (λ (x : List Row). Has row x) (none (empty_tables program) once) h);
  inside = λ j row h. absurd (subst (λ (x : List Row). Has row x) (none (before program (empty_tables program) nows j) (arrives program (empty_tables program) nows j)) h);
}

split_shared : (columns : List Name) (split : ℕ) (nows : List Sets) (once : Sets)
    → IsUnionArriving (Split columns split) (output_rows (Split columns split) 0) nows once
    → AreShared (Split columns split) (output_rows (Split columns split) 0) nows once
split_shared columns split nows once union =
    let u = union 0 (omega arith) in
    let start = empty_tables (Split columns split) in
    record {
      some = λ row h.
          let m = Has-from_flat_map (split_row split) row (set_at once 0) (Has-from_set_of row (flat_map (split_row split) (set_at once 0)) h) in
          let s = u.some m.0 m.1 in
          let now = arrives (Split columns split) start nows s.0 in
          (s.0, Has-set_of row (flat_map (split_row split) (set_at now 0)) (Has-flat_map (split_row split) m.0 row (set_at now 0) s.1 m.2));
      inside = λ j row h.
          let now = arrives (Split columns split) start nows j in
          let m = Has-from_flat_map (split_row split) row (set_at now 0) (Has-from_set_of row (flat_map (split_row split) (set_at now 0)) h) in
          Has-set_of row (flat_map (split_row split) (set_at once 0)) (Has-flat_map (split_row split) m.0 row (set_at once 0) (u.inside j m.0 m.1) m.2);
    }

split_confluent : (names columns : List Name) (split : ℕ) → ConfluentOutputs names (Split columns split)
split_confluent names columns split zero all_c = confluent (Split columns split) (output_rows (Split columns split) 0) (split_shared columns split)
split_confluent names columns split (suc output) all_c = confluent (Split columns split) (output_rows (Split columns split) (suc output)) (none_shared (Split columns split) (suc output) (λ kept now. refl))

pub all_confluent : (names : List Name) (program : Program) → IsProper program → ConfluentOutputs names program
all_confluent names (Module a) proper = outputs_confluent names a proper
all_confluent names (Split columns split) proper = split_confluent names columns split
all_confluent names (Latest columns keys) proper = λ output all_c. absurd (let bad = all_c 0 (omega arith) in cc)
all_confluent names (Number columns) proper = λ output all_c. absurd (let bad = all_c 0 (omega arith) in cc)

-- ---- one timestep

pub one_step_answers : (program : Program) → IsProper program → OneStepAnswers program
one_step_answers (Module a) proper output now = set_of-end (output_rows (Module a) output (empty_tables (Module a)) now) (sorted_output a proper output (empty_tables (Module a)) now)
one_step_answers (Split columns split) proper zero now = set_of-end (output_rows (Split columns split) 0 (empty_tables (Split columns split)) now) (sorted_set_of (flat_map (split_row split) (set_at now 0)))
one_step_answers (Split columns split) proper (suc output) now = refl
one_step_answers (Latest columns keys) proper zero now =
    let in_order = keys_in_order (length columns) keys in
    let kept = latest_kept in_order [] (set_at now 0) in
    set_of-end (output_rows (Latest columns keys) 0 (empty_tables (Latest columns keys)) now) (sorted_set_of (filter (λ row. list_any (eq_by_cmp record_cmp (cells in_order row)) (set_at now 1)) kept))
one_step_answers (Latest columns keys) proper (suc output) now = refl
one_step_answers (Number columns) proper zero now = set_of-end (output_rows (Number columns) 0 (empty_tables (Number columns)) now) (sorted_set_of (numbered [] (set_at now 0)))
one_step_answers (Number columns) proper (suc output) now = refl
