-- A collection that has a row is fed by a port.
use Rattle.std.proofs.Common.{◌≡◌, ℕ, List, [], ◌∷◌, Some, subst, inl, inr}
use Rattle.blz_value.specs.Members.{Has}
use Rattle.blz_value.specs.Record.{Row}
use Rattle.blz_value.proofs.SetLaws.{Has-from_set_of}
use Rattle.blz_value.specs.Bits.{bit_of}
use Rattle.blz_value.proofs.Reached.{closure-self}
use Rattle.bloom_forms.specs.declared.module.Kind.TheVariants.{Table}
use Rattle.bloom_forms.specs.declared.module.Collection.{Collection}
use Rattle.bloom_forms.specs.declared.program.Program.TheVariants.{Module}
use Rattle.bloom_forms.specs.Checks.{IsChecked}
use Rattle.bloom_forms.specs.Equations.{end_env}
use Rattle.bloom_forms.specs.Form.{RuleForm, Accepted}
use Rattle.bloom_forms.specs.Heads.{names_of}
use Rattle.bloom_forms.specs.Kinds.{kind_at}
use Rattle.bloom_forms.specs.Lookup.{declared}
use Rattle.bloom_forms.specs.ProgramStep.{tables_after_step, empty_tables}
use Rattle.bloom_forms.specs.Query.{Name}
use Rattle.bloom_forms.specs.Reads.{named, arrows}
use Rattle.bloom_forms.specs.Step.{Sets, rules_at, union_of}
use Rattle.bloom_forms.proofs.Faults.Ordering.{in_named}
use Rattle.bloom_forms.proofs.Ends.EquationsLemmas.{FromRule, from_union, from_table, scratch_end, next_table}
use Rattle.bloom_forms.proofs.Reach.ReadsLemmas.{number_of, small_number, rules_named, rule_stands, by_names, IsRead, reads}
use Rattle.bloom_forms.proofs.Ends.StepsLemmas.{StepOf, before, arrives, table_rows, nothing_kept}
use Rattle.bloom_forms.proofs.Reach.ByCones.{IsFed}
use Rattle.bloom_forms.proofs.Reach.Cones.{in_head, in_closure}
use Rattle.bloom_forms.specs.Runs.{query_rows}
use Rattle.bloom_forms.proofs.Rows.Through.{has_source}

module _ (a : Accepted) (checked : IsChecked a.form a.heads) where
  abbrev cs : List Collection
  cs = a.form.collections

  -- what feeds a name that an expression names feeds the expression
  fed_query : (rule : RuleForm) (m : Name) → Has m (names_of rule.1) → IsFed a checked (bit_of (number_of a checked m))
      → IsFed a checked (named cs rule.1)
  fed_query rule m names f = record {
    port = f.port;
    is = f.is;
    small = f.small;
    there = in_closure cs a.form.rules checked.few_collections (named cs rule.1) (number_of a checked m) f.port (small_number a checked m) f.small (in_named cs rule.1 m names (small_number a checked m)) f.there;
  }

  -- what feeds a rule feeds its head
  fed_head : (k : ℕ) (rule : RuleForm) → Has rule (rules_at cs a.form.rules k) → IsFed a checked (named cs rule.1)
      → IsFed a checked (bit_of k)
  fed_head k rule of_head f = record { port = f.port; is = f.is; small = f.small; there = in_head cs a.form.rules checked.few_collections k f.port f.small (record { rule = rule; of_head = of_head; there = f.there }) }

  -- tables with rows are fed
  abbrev KeptFed : Sets → Type 0
  KeptFed kept = (k : ℕ) → kind_at cs k ≡ Some Table → (row : Row) → Has row (table_rows a checked k kept) → IsFed a checked (bit_of k)

  module _ (kept now : Sets) (old : KeptFed kept) where
    from_rule : (k : ℕ)
        → ((rule : RuleForm) (m : Name) → Has rule (rules_at cs a.form.rules k) → Has m (names_of rule.1) → (row : Row) → Has row (end_env a kept now m) → IsFed a checked (bit_of (number_of a checked m)))
        → (row : Row) → FromRule a checked (end_env a kept now) k row → IsFed a checked (bit_of k)
    from_rule k below row f =
        let s = has_source (declared cs) (end_env a kept now) f.rule.1 row f.stands in
        fed_head k f.rule f.of_head (fed_query f.rule s.name s.stands (below f.rule s.name f.of_head s.stands s.row s.held))

    name_fed : (n : Name) → IsRead a checked n → (row : Row) → Has row (end_env a kept now n)
        → IsFed a checked (bit_of (number_of a checked n))
    name_fed = by_names a checked (λ n. IsRead a checked n → (row : Row) → Has row (end_env a kept now n) → IsFed a checked (bit_of (number_of a checked n))) each
      where
        each : (n : Name)
            → ((rule : RuleForm) (m : Name) → Has rule (rules_named a checked n) → Has m (names_of rule.1) → IsRead a checked m → (row : Row) → Has row (end_env a kept now m) → IsFed a checked (bit_of (number_of a checked m)))
            → IsRead a checked n → (row : Row) → Has row (end_env a kept now n) → IsFed a checked (bit_of (number_of a checked n))
        each n below (inl is) row h = record { port = number_of a checked n; is = is; small = small_number a checked n; there = closure-self (arrows cs a.form.rules) (number_of a checked n) (small_number a checked n) }
        each n below (inr (inl is)) row h = elim (from_table a checked kept now (number_of a checked n) is row h) [
          | inl k ↦ old (number_of a checked n) is row k
          | inr f ↦ from_rule (number_of a checked n) (λ rule m of_head names. below rule m of_head names (reads a checked rule (rule_stands a checked (number_of a checked n) rule of_head).0 m names)) row f
        ]
        each n below (inr (inr is)) row h =
            let k = number_of a checked n in
            let f = from_union a checked (end_env a kept now) k row (Has-from_set_of row (union_of (declared cs) (end_env a kept now) (rules_named a checked n)) (subst (λ (x : List Row). Has row x) (scratch_end a checked kept now k is) h)) in
            from_rule k (λ rule m of_head names. below rule m of_head names (reads a checked rule (rule_stands a checked k rule of_head).0 m names)) row f

    next_fed : KeptFed (tables_after_step (Module a) kept now)
    next_fed k is row h = elim (from_table a checked kept now k is row (subst (λ (x : List Row). Has row x) (next_table a checked kept now k is) h)) [
      | inl o ↦ old k is row o
      | inr f ↦ from_rule k (λ rule m of_head names. name_fed m (reads a checked rule (rule_stands a checked k rule of_head).0 m names)) row f
    ]

    step_fed : (rule : RuleForm) → Has rule a.form.rules → (row : Row) → Has row (query_rows a rule.1 kept now)
        → IsFed a checked (named cs rule.1)
    step_fed rule stands row h =
        let s = has_source (declared cs) (end_env a kept now) rule.1 row h in
        fed_query rule s.name s.stands (name_fed s.name (reads a checked rule stands s.name s.stands) s.row s.held)

  run_fed : (rule : RuleForm) → Has rule a.form.rules → (kept : Sets) (nows : List Sets) → KeptFed kept
      → (j : StepOf (Module a) kept nows) (row : Row)
      → Has row (query_rows a rule.1 (before (Module a) kept nows j) (arrives (Module a) kept nows j))
      → IsFed a checked (named cs rule.1)
  run_fed rule stands kept [] old j row h = absurd j
  run_fed rule stands kept (now ∷ nows) old (inl first) row h = step_fed kept now old rule stands row h
  run_fed rule stands kept (now ∷ nows) old (inr later) row h = run_fed rule stands (tables_after_step (Module a) kept now) nows (next_fed kept now old) later row h

  -- a rule that has a row in a run is fed by a port of its cone
  pub fed : (rule : RuleForm) → Has rule a.form.rules
      → (nows : List Sets) (j : StepOf (Module a) (empty_tables (Module a)) nows) (row : Row)
      → Has row (query_rows a rule.1 (before (Module a) (empty_tables (Module a)) nows j) (arrives (Module a) (empty_tables (Module a)) nows j))
      → IsFed a checked (named cs rule.1)
  fed rule stands nows j row h = run_fed rule stands (empty_tables (Module a)) nows (λ k is r g. absurd (nothing_kept a checked k r g)) j row h
