-- Where no collection holds a row, no expression has one, and what is kept before the first step stands.
-- Over empty tables, with nothing arriving, no collection holds a row.
use Rattle.std.proofs.Common.{◌≡◌, ◌∙◌, ◌++◌, ℕ, zero, suc, Bool, Option, None, Some, unwrap_or, List, [], ◌∷◌, length, refl, ap, sym, subst, inl, inr, arith}
use Rattle.std.specs.Prelude.{◌&&◌, slice_get, slice_set}
use Rattle.std.specs.Option.{option_map_or}
use Rattle.std.specs.List.{AllZip, fold}
use Rattle.blz_value.specs.declared.aggregate.Agg.TheVariants.{Count}
use Rattle.blz_value.specs.Groups.{with_key, group_rows, at_least_rows}
use Rattle.blz_value.specs.Operators.{Pairs, select_rows, project_rows, join_rows, notin_rows}
use Rattle.blz_value.specs.Record.{Row}
use Rattle.blz_value.specs.Sets.{set_of}
use Rattle.blz_value.specs.Test.{test_holds}
use Rattle.blz_set.specs.Pairs.{lefts_of, rights_of}
use Rattle.bloom_forms.specs.declared.module.Kind.{Kind}
use Rattle.bloom_forms.specs.declared.module.Kind.TheVariants.{Input, Output, Table, Scratch}
use Rattle.bloom_forms.specs.declared.numbered.NumberedExpr.{NumberedExpr}
use Rattle.bloom_forms.specs.declared.numbered.NumberedExpr as expr
use Rattle.bloom_forms.specs.declared.numbered.NumberedRule.{NumberedRule}
use Rattle.bloom_forms.specs.declared.program.Program.TheVariants.{Module}
use Rattle.bloom_forms.specs.Equations.{Env}
use Rattle.bloom_forms.specs.Form.{RuleForm, Form, Accepted}
use Rattle.bloom_forms.specs.Kinds.{kind_at, place_in_kind}
use Rattle.bloom_forms.specs.Lookup.{collection_number, declared}
use Rattle.bloom_forms.specs.OverTables.{without_table_rules, env_over}
use Rattle.bloom_forms.specs.Program.{port_columns, table_columns}
use Rattle.bloom_forms.specs.ProgramStep.{no_arrivals, empty_tables}
use Rattle.bloom_forms.specs.Query.{Name}
use Rattle.bloom_forms.specs.Step.{Sets, set_at, begun, ended, at_start, rules_at, union_of, ruled_at, rows_named, with_head, at_end}
use Rattle.bloom_forms.proofs.Ends.Equated.{starts}
use Rattle.bloom_forms.proofs.Ends.SameEnds.{none_at}
use Rattle.bloom_forms.proofs.Reach.Quiet.{empty_rows}
use Rattle.bloom_eval.specs.NumberedRows.{numbered_rows}
use Rattle.bloom_growth.specs.declared.turn_joins.KeptJoin.{KeptJoin}
use Rattle.bloom_growth.specs.declared.turn_notins.KeptNotIn.{KeptNotIn}
use Rattle.bloom_growth.specs.Bags.{IsBag}
use Rattle.bloom_growth.specs.TurningGroups.{AreFreshTallies}
use Rattle.bloom_growth.specs.Whole.{counted_rows}
use Rattle.bloom_growth.specs.Kept.{Kept}
use Rattle.bloom_growth.proofs.Fresh.{none_found, tallies_of_none}
use Rattle.bloom_growth.proofs.KeyedLemmas.{keyed_of_none}
use Rattle.bloom_parts.specs.declared.part_rows.PartRows.{PartRows}
use Rattle.bloom_parts.specs.FreshParts.{IsFreshPart, IsFreshJoin, IsFreshNotIn}
use Rattle.bloom_parts.specs.KeptParts.{PartStands, JoinStands, NotInStands}
use Rattle.bloom_parts.specs.PartForms.{kept_of}
use Rattle.bloom_index.specs.declared.plan.Plan.{Plan}
use Rattle.bloom_index.specs.declared.plan.Plan as plan
use Rattle.bloom_index.specs.Code.Evaluation.{PlanStands}
use Rattle.bloom_index.specs.Code.Emptiness.{IsFresh}
use Rattle.bloom_index.specs.Code.Heads.{rows_given}
use Rattle.bloom_index.specs.Code.Growth.{grows_at, grows}
use Rattle.bloom_index.specs.Code.Kept.{held_over, PlansStand}
use Rattle.bloom_index.specs.Code.Plans.{expr_of}
use Rattle.bloom_index.specs.Sides.{module_sides, part_side, side_rows, SidePart}

-- ---- what is kept

-- what is kept of a part without rows
part_of_none : (columns : List ℕ) (grow last : Bool) (rows : List Row) (kept : Kept) → IsFreshPart columns grow kept → rows ≡ [] → PartStands columns grow last rows kept
part_of_none columns grow last rows kept fresh none = record {
  form = fresh.form;
  columns_are = fresh.columns_are;
  by_key = λ is key. ap (λ (o : Option (List Row)). unwrap_or o []) (none_found kept.sets fresh.none key) ∙ sym (ap (with_key columns key) none);
}

module _ (pairs : Pairs) (lefts rights : List Row) (none : lefts ≡ []) (also : rights ≡ []) where
  join_of_none : (lg ll rg rl : Bool) (kept : KeptJoin PartRows PartRows) → IsFreshJoin pairs lg rg kept → JoinStands pairs lg ll rg rl lefts rights kept
  join_of_none lg ll rg rl kept fresh =
      let nothing : length (set_of (join_rows pairs lefts rights)) ≡ 0 = ap (λ (rows : List Row). length (set_of (join_rows pairs rows rights))) none in
      record {
        left = part_of_none (lefts_of pairs) lg ll lefts (kept_of kept.left) fresh.left none;
        right = part_of_none (rights_of pairs) rg rl rights (kept_of kept.right) fresh.right also;
        counted = λ left right. fresh.count ∙ sym nothing;
        few = λ left right. omega (arith, nothing);
      }

  notin_of_none : (ll rg rl : Bool) (kept : KeptNotIn PartRows) → IsFreshNotIn pairs rg kept → NotInStands pairs ll rg rl lefts rights kept
  notin_of_none ll rg rl kept fresh = record {
    left_columns = fresh.left.columns_are;
    left = λ last. keyed_of_none (lefts_of pairs) kept.left lefts fresh.left none;
    right = part_of_none (rights_of pairs) rg rl rights (kept_of kept.right) fresh.right also;
  }

-- the plan of an expression grows where the expression does
fresh_grows : (growing : List Bool) (e : NumberedExpr) (m : Plan) → IsFresh growing e m → grows growing (expr_of m) ≡ grows growing e
fresh_grows growing (expr.Base number) (plan.Base copy) fresh = ap (grows_at growing) fresh
fresh_grows growing (expr.Select' p e test) (plan.Select' q m copy) fresh = fresh_grows growing e m fresh.0
fresh_grows growing (expr.Project' p e columns) (plan.Project' q m copy bag) fresh = fresh_grows growing e m fresh.0
fresh_grows growing (expr.Join' p l q r pairs) (plan.Join' s m t n copy kept) fresh =
    let first = fresh_grows growing l m fresh.0 in
    let second = fresh_grows growing r n fresh.1 in
    λ i. first i && second i
fresh_grows growing (expr.NotIn' p l q r pairs) (plan.NotIn' s m t n copy kept) fresh = refl
fresh_grows growing (expr.Group' p e keys agg) (plan.Group' q m groups) fresh = refl
fresh_grows growing (expr.AtLeast' p e keys bound) (plan.AtLeast' q m copy groups) fresh = fresh_grows growing e m fresh.0
fresh_grows growing e m fresh = absurd fresh

-- ---- where no collection holds a row

-- no collection holds a row
abbrev pub AreEmpty : Sets → Type 0
AreEmpty sets = (number : ℕ) → set_at sets number ≡ []

module _ (sets : Sets) (empty : AreEmpty sets) where
  pub no_rows : (e : NumberedExpr) → numbered_rows sets e ≡ []
  no_rows (expr.Base number) = empty number
  no_rows (expr.Select' p e test) = ap (λ (rows : List Row). set_of (select_rows (test_holds test) rows)) (no_rows e)
  no_rows (expr.Project' p e columns) = ap (λ (rows : List Row). set_of (project_rows columns rows)) (no_rows e)
  no_rows (expr.Join' p l q r pairs) = ap (λ (rows : List Row). set_of (join_rows pairs rows (numbered_rows sets r))) (no_rows l)
  no_rows (expr.NotIn' p l q r pairs) = ap (λ (rows : List Row). set_of (notin_rows pairs rows (numbered_rows sets r))) (no_rows l)
  no_rows (expr.Group' p e keys agg) = ap (λ (rows : List Row). set_of (group_rows keys agg rows)) (no_rows e)
  no_rows (expr.AtLeast' p e keys bound) = ap (λ (rows : List Row). set_of (at_least_rows keys bound rows)) (no_rows e)

  fresh_stands : (growing lasting : List Bool) (e : NumberedExpr) (m : Plan) → IsFresh growing e m → PlanStands growing lasting sets m
  fresh_stands growing lasting (expr.Base number) (plan.Base copy) fresh = tt
  fresh_stands growing lasting (expr.Select' p e test) (plan.Select' q m copy) fresh = fresh_stands growing lasting e m fresh.0
  fresh_stands growing lasting (expr.Project' p e columns) (plan.Project' q m copy bag) fresh =
      (fresh_stands growing lasting e m fresh.0, λ last. subst (λ (rows : List Row). IsBag (counted_rows copy rows) bag) (sym (no_rows (expr_of m))) fresh.2)
  fresh_stands growing lasting (expr.Join' p l q r pairs) (plan.Join' s m t n copy kept) fresh =
      let left_grows = fresh_grows growing l m fresh.0 in
      let right_grows = fresh_grows growing r n fresh.1 in
      let equated = fresh.2 in
      let own : IsFreshJoin copy (grows growing (expr_of m)) (grows growing (expr_of n)) kept = subst (λ (X : Type 0). X) (λ i. IsFreshJoin (sym equated i) (sym left_grows i) (sym right_grows i) kept) fresh.3 in
      (fresh_stands growing lasting l m fresh.0, fresh_stands growing lasting r n fresh.1, join_of_none copy (numbered_rows sets (expr_of m)) (numbered_rows sets (expr_of n)) (no_rows (expr_of m)) (no_rows (expr_of n)) _ _ _ _ kept own)
  fresh_stands growing lasting (expr.NotIn' p l q r pairs) (plan.NotIn' s m t n copy kept) fresh =
      let right_grows = fresh_grows growing r n fresh.1 in
      let equated = fresh.2 in
      let own : IsFreshNotIn copy (grows growing (expr_of n)) kept = subst (λ (X : Type 0). X) (λ i. IsFreshNotIn (sym equated i) (sym right_grows i) kept) fresh.3 in
      (fresh_stands growing lasting l m fresh.0, fresh_stands growing lasting r n fresh.1, notin_of_none copy (numbered_rows sets (expr_of m)) (numbered_rows sets (expr_of n)) (no_rows (expr_of m)) (no_rows (expr_of n)) _ _ _ kept own)
  fresh_stands growing lasting (expr.Group' p e keys agg) (plan.Group' q m groups) fresh =
      let own : AreFreshTallies groups.keys.items groups.agg groups = record { keys_are = refl; agg_is = refl; none = fresh.1.none } in
      (fresh_stands growing lasting e m fresh.0, λ last. tallies_of_none groups.keys.items groups.agg (numbered_rows sets (expr_of m)) groups own (no_rows (expr_of m)))
  fresh_stands growing lasting (expr.AtLeast' p e keys bound) (plan.AtLeast' q m copy groups) fresh =
      let own : AreFreshTallies groups.keys.items Count groups = record { keys_are = refl; agg_is = fresh.2.agg_is; none = fresh.2.none } in
      (fresh_stands growing lasting e m fresh.0, λ last. tallies_of_none groups.keys.items Count (numbered_rows sets (expr_of m)) groups own (no_rows (expr_of m)))
  fresh_stands growing lasting e m fresh = absurd fresh

  pub all_fresh : (growing lasting : List Bool) (rules : List NumberedRule) (plans : List Plan) → AllZip (λ (rule : NumberedRule) (m : Plan). IsFresh growing rule.body m) rules plans → PlansStand growing lasting sets plans
  all_fresh growing lasting [] [] fresh m among = absurd among
  all_fresh growing lasting [] (n ∷ plans) fresh m among = absurd fresh
  all_fresh growing lasting (r ∷ rules) [] fresh m among = absurd fresh
  all_fresh growing lasting (r ∷ rules) (n ∷ plans) fresh m (inl e) = subst (PlanStands growing lasting sets) e (fresh_stands growing lasting r.body n fresh.0)
  all_fresh growing lasting (r ∷ rules) (n ∷ plans) fresh m (inr among) = all_fresh growing lasting rules plans fresh.1 m among

  -- rules give nothing
  pub none_given : (rules : List NumberedRule) → rows_given sets rules ≡ []
  none_given [] = refl
  none_given (r ∷ rules) = ap (λ (rows : List Row). rows ++ rows_given sets rules) (no_rows r.body) ∙ none_given rules

-- ---- over empty tables

emptied_one : (sets : Sets) → AreEmpty sets → (place : ℕ) (rows : List Row) → rows ≡ [] → AreEmpty (slice_set sets place rows)
emptied_one [] empty place rows none number = empty number
emptied_one (s ∷ sets) empty zero rows none zero = none
emptied_one (s ∷ sets) empty zero rows none (suc number) = empty (suc number)
emptied_one (s ∷ sets) empty (suc place) rows none zero = empty 0
emptied_one (s ∷ sets) empty (suc place) rows none (suc number) = emptied_one sets (λ k. empty (suc k)) place rows none number

none_of_rules : (columns : Name → List Name) (env : Env) → ((n : Name) → env n ≡ []) → (rules : List RuleForm) → union_of columns env rules ≡ []
none_of_rules columns env none [] = refl
none_of_rules columns env none (r ∷ rules) = ap (λ (rows : List Row). rows ++ union_of columns env rules) (empty_rows columns env none r.1) ∙ none_of_rules columns env none rules

ended_empty : (o : Option Kind) (old given : List Row) → old ≡ [] → given ≡ [] → ended o old old given ≡ []
ended_empty None old given none also = refl
ended_empty (Some Input) old given none also = none
ended_empty (Some Output) old given none also = ap set_of also
ended_empty (Some Scratch) old given none also = ap set_of also
ended_empty (Some Table) old given none also = λ i. set_of (none i ++ also i)

begun_empty : (o : Option Kind) (kept now : List Row) → kept ≡ [] → now ≡ [] → begun o kept now ≡ []
begun_empty None kept now none also = refl
begun_empty (Some Input) kept now none also = also
begun_empty (Some Output) kept now none also = refl
begun_empty (Some Scratch) kept now none also = refl
begun_empty (Some Table) kept now none also = none

module _ (form : Form) where
  heads_empty : (heads : List ℕ) (sets : Sets) → AreEmpty sets → AreEmpty (fold (with_head form) sets heads)
  heads_empty [] sets empty = empty
  heads_empty (h ∷ heads) sets empty =
      heads_empty heads (with_head form sets h)
      (emptied_one sets empty h (ended (kind_at form.collections h) (set_at sets h) (set_at sets h) (ruled_at form sets h))
      (ended_empty (kind_at form.collections h) (set_at sets h) (ruled_at form sets h) (empty h)
      (none_of_rules (declared form.collections) (rows_named form.collections sets) (λ n. empty (collection_number form.collections n)) (rules_at form.collections form.rules h))))

-- nothing is held at the end of a step over empty tables in which nothing arrives
pub ends_empty : (a : Accepted) (tables now : Sets) → AreEmpty tables → AreEmpty now → AreEmpty (at_end a tables now)
ends_empty a tables now empty none =
    let cs = a.form.collections in
    heads_empty a.form a.heads (at_start cs tables now) (λ number.
    starts cs tables now number
    ∙ begun_empty (kind_at cs number) (set_at tables (place_in_kind Table cs number)) (set_at now (place_in_kind Input cs number)) (empty (place_in_kind Table cs number)) (none (place_in_kind Input cs number)))

module _ (a : Accepted) where
  pub no_tables : AreEmpty (empty_tables (Module a))
  no_tables number = none_at (table_columns (Module a)) number

  pub no_ports : AreEmpty (no_arrivals (Module a))
  no_ports number = none_at (port_columns (Module a)) number

  -- nothing is held over empty tables
  pub nothing_held : (tables : Sets) → AreEmpty tables → AreEmpty (held_over a tables)
  nothing_held tables empty = ends_empty (without_table_rules a) tables (no_arrivals (Module a)) empty no_ports

  -- no side has a row
  pub no_side_rows : (tables : Sets) → AreEmpty tables → (number : ℕ) (key : Row) → side_rows (Some (Module a)) tables number key ≡ []
  no_side_rows tables empty number key = go (slice_get (module_sides a.form) number)
    where
      go : (o : Option SidePart) → option_map_or (λ (side : SidePart). part_side a tables side key) o [] ≡ []
      go None = refl
      go (Some side) = ap (with_key side.columns key) (empty_rows (declared a.form.collections) (env_over a tables (no_arrivals (Module a))) (λ n. nothing_held tables empty (collection_number a.form.collections n)) side.part)
