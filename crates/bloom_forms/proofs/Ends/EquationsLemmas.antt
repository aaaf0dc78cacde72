-- What a collection holds at the end of a step, by its kind: a table what it kept and what its rules give.
use Rattle.std.proofs.Common.{◌≡◌, ℕ, List, ◌++◌, Option, Some, ap, ◌∙◌, sym, subst, inl, inr, ◌⊎◌}
use Rattle.blz_value.specs.Members.{Has}
use Rattle.blz_value.specs.Record.{Row}
use Rattle.blz_value.specs.Sets.{set_of, IsRowSet}
use Rattle.blz_value.proofs.Membership.{Has-flat_map, Has-from_flat_map, Has-append_left, Has-append_right, Has-append_cases}
use Rattle.blz_value.proofs.SetLaws.{sorted_set_of, Has-set_of, Has-from_set_of}
use Rattle.bloom_forms.specs.declared.module.Kind.{Kind}
use Rattle.bloom_forms.specs.declared.module.Kind.TheVariants.{Input, Output, Table, Scratch}
use Rattle.bloom_forms.specs.declared.module.Collection.{Collection}
use Rattle.bloom_forms.specs.Checks.{IsChecked}
use Rattle.bloom_forms.specs.Equations.{Env, end_env}
use Rattle.bloom_forms.specs.Form.{RuleForm, Accepted}
use Rattle.bloom_forms.specs.Kinds.{kind_at, place_in_kind}
use Rattle.bloom_forms.specs.Lookup.{declared}
use Rattle.bloom_forms.specs.Query.{Name}
use Rattle.bloom_forms.specs.Rows.{rows_of}
use Rattle.bloom_forms.specs.Step.{Sets, set_at, ended, rules_at, union_of, ruled_at, at_end, tables_after}
use Rattle.bloom_forms.proofs.Ends.Equated.{ends, length-at_end}
use Rattle.bloom_forms.proofs.Collections.Numbers.{derived_or, set-of_kind}
use Rattle.bloom_forms.proofs.Reach.ReadsLemmas.{number_of, rules_named}

module _ (a : Accepted) (checked : IsChecked a.form a.heads) where
  abbrev cs : List Collection
  cs = a.form.collections

  -- a row that one of the rules of a collection gives
  pub record FromRule (env : Env) (k : ℕ) (row : Row) : Type 0 where
    pub rule : RuleForm
    pub of_head : Has rule (rules_at cs a.form.rules k)
    pub stands : Has row (rows_of (declared cs) env rule.1)

  pub from_union : (env : Env) (k : ℕ) (row : Row) → Has row (union_of (declared cs) env (rules_at cs a.form.rules k)) → FromRule env k row
  from_union env k row h = let m = Has-from_flat_map (λ (rule : RuleForm). rows_of (declared cs) env rule.1) row (rules_at cs a.form.rules k) h in record { rule = m.0; of_head = m.1; stands = m.2 }

  pub in_union : (env : Env) (k : ℕ) (row : Row) → FromRule env k row → Has row (union_of (declared cs) env (rules_at cs a.form.rules k))
  in_union env k row f = Has-flat_map (λ (rule : RuleForm). rows_of (declared cs) env rule.1) f.rule row (rules_at cs a.form.rules k) f.of_head f.stands

  -- tables are sorted, and a scratch holds what its rules give
  pub record IsEnd (env : Env) : Type 0 where
    pub tables : (n : Name) → kind_at cs (number_of a checked n) ≡ Some Table → IsRowSet (env n)
    pub scratches : (n : Name) → kind_at cs (number_of a checked n) ≡ Some Scratch
        → env n ≡ set_of (union_of (declared cs) env (rules_named a checked n))

  module _ (kept now : Sets) where
    abbrev end : Sets
    end = at_end a kept now

    abbrev env : Env
    env = end_env a kept now

    by_kind : (k : ℕ) (o : Option Kind) → kind_at cs k ≡ o
        → set_at end k ≡ ended o (set_at kept (place_in_kind Table cs k)) (set_at now (place_in_kind Input cs k)) (ruled_at a.form end k)
    by_kind k o is = ends a kept now checked.ordered k (derived_or cs k) ∙ ap (λ (p : Option Kind). ended p (set_at kept (place_in_kind Table cs k)) (set_at now (place_in_kind Input cs k)) (ruled_at a.form end k)) is

    pub port_end : (k : ℕ) → kind_at cs k ≡ Some Input → set_at end k ≡ set_at now (place_in_kind Input cs k)
    port_end k is = by_kind k (Some Input) is

    pub table_end : (k : ℕ) → kind_at cs k ≡ Some Table
        → set_at end k ≡ set_of (set_at kept (place_in_kind Table cs k) ++ union_of (declared cs) env (rules_at cs a.form.rules k))
    table_end k is = by_kind k (Some Table) is

    pub scratch_end : (k : ℕ) → kind_at cs k ≡ Some Scratch
        → set_at end k ≡ set_of (union_of (declared cs) env (rules_at cs a.form.rules k))
    scratch_end k is = by_kind k (Some Scratch) is

    pub output_end : (k : ℕ) → kind_at cs k ≡ Some Output → set_at end k ≡ set_of (union_of (declared cs) env (rules_at cs a.form.rules k))
    output_end k is = by_kind k (Some Output) is

    pub is_end : IsEnd env
    is_end = record {
      tables = λ n is. subst (λ (rows : List Row). IsRowSet rows) (sym (table_end (number_of a checked n) is)) (sorted_set_of (set_at kept (place_in_kind Table cs (number_of a checked n)) ++ union_of (declared cs) env (rules_named a checked n)));
      scratches = λ n is. scratch_end (number_of a checked n) is;
    }

    -- a table's rows are kept ones and those of its rules
    pub from_table : (k : ℕ) → kind_at cs k ≡ Some Table → (row : Row) → Has row (set_at end k)
        → Has row (set_at kept (place_in_kind Table cs k)) ⊎ FromRule env k row
    from_table k is row h =
        let kept_rows = set_at kept (place_in_kind Table cs k) in
        let ruled = union_of (declared cs) env (rules_at cs a.form.rules k) in
        elim (Has-append_cases row kept_rows ruled (Has-from_set_of row (kept_rows ++ ruled) (subst (λ (rows : List Row). Has row rows) (table_end k is) h))) [ inl old ↦ inl old | inr new ↦ inr (from_union env k row new) ]

    pub table_kept : (k : ℕ) → kind_at cs k ≡ Some Table → (row : Row)
        → Has row (set_at kept (place_in_kind Table cs k)) → Has row (set_at end k)
    table_kept k is row h =
        let kept_rows = set_at kept (place_in_kind Table cs k) in
        let ruled = union_of (declared cs) env (rules_at cs a.form.rules k) in
        subst (λ (rows : List Row). Has row rows) (sym (table_end k is)) (Has-set_of row (kept_rows ++ ruled) (Has-append_left row kept_rows ruled h))

    pub table_ruled : (k : ℕ) → kind_at cs k ≡ Some Table → (row : Row) → FromRule env k row → Has row (set_at end k)
    table_ruled k is row f =
        let kept_rows = set_at kept (place_in_kind Table cs k) in
        let ruled = union_of (declared cs) env (rules_at cs a.form.rules k) in
        subst (λ (rows : List Row). Has row rows) (sym (table_end k is)) (Has-set_of row (kept_rows ++ ruled) (Has-append_right row kept_rows ruled (in_union env k row f)))

    -- the table after the step
    pub next_table : (k : ℕ) → kind_at cs k ≡ Some Table → set_at (tables_after a kept now) (place_in_kind Table cs k) ≡ set_at end k
    next_table k is = set-of_kind Table cs end k (length-at_end a kept now) is
