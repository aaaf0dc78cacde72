-- What the collections hold over given tables, and that the end of a step is so over its new tables; and that no result depends on the order of heads.
use Rattle.std.proofs.Common.{◌≡◌, ◌++◌, ℕ, Bool, true, false, not, Option, None, Some, List, [], ◌∷◌, filter, refl, ap, ◌∙◌, sym, subst, inl, inr}
use Rattle.std.specs.Option.{option_map_or}
use Rattle.std.specs.Str.{bytes_eq}
use Rattle.std.proofs.lemmas.Bool.{cases_Bool}
use Rattle.std.proofs.lemmas.List.{append-nil}
use Rattle.std.proofs.lemmas.Slice.Eq.{bytes_eq-Decides}
use Rattle.blz_value.specs.Members.{Has}
use Rattle.blz_value.specs.Sets.{set_of, IsRowSet}
use Rattle.blz_value.proofs.Membership.{Has-from_filter}
use Rattle.blz_value.proofs.RowSets.{set_of-sorted}
use Rattle.blz_value.proofs.SetLaws.{sorted_set_of}
use Rattle.bloom_forms.specs.declared.module.Kind.{Kind}
use Rattle.bloom_forms.specs.declared.module.Kind.TheVariants.{Input, Output, Table, Scratch}
use Rattle.bloom_forms.specs.declared.module.Collection.{Collection}
use Rattle.bloom_forms.specs.Equations.{Env, set_named, end_env, rules_of}
use Rattle.bloom_forms.specs.Form.{RuleForm, Accepted}
use Rattle.bloom_forms.specs.Heads.{InOrder, IsOrdered}
use Rattle.bloom_forms.specs.Kinds.{same_kind, has_kind, kind_at, place_in_kind}
use Rattle.bloom_forms.specs.Laws.{with_heads, StepsSame}
use Rattle.bloom_forms.specs.Lookup.{kind_of, declared}
use Rattle.bloom_forms.specs.OverTables.{over, other_rules, without_table_rules, env_over}
use Rattle.bloom_forms.specs.Query.{Name}
use Rattle.bloom_forms.specs.Step.{Sets, set_at, ended, rules_at, union_of, at_end, sets_of_kind, tables_after}
use Rattle.bloom_forms.proofs.Ends.Equated.{same_union, ends, end_solves, one_solution, length-at_end, set-made}
use Rattle.bloom_forms.proofs.Collections.Numbers.{derived_or}
use Rattle.bloom_forms.proofs.Ends.SameEnds.{same_by_places}

-- ---- two orders of heads

module _ (a : Accepted) (heads : List ℕ) (first : IsOrdered a.form.collections a.form.rules a.heads) (second : IsOrdered a.form.collections a.form.rules heads) (kept now : Sets) where
  abbrev other : Accepted
  other = with_heads a heads

  one_env : (n : Name) → end_env a kept now n ≡ end_env other kept now n
  one_env = one_solution a (set_named Table a.form.collections kept) (set_named Input a.form.collections now) (end_env a kept now) (end_env other kept now) first (end_solves a kept now first) (end_solves other kept now second)

  pub one_end : at_end a kept now ≡ at_end other kept now
  one_end = same_by_places (at_end a kept now) (at_end other kept now) (length-at_end a kept now ∙ sym (length-at_end other kept now)) (λ k.
      let cs = a.form.collections in
      ends a kept now first k (derived_or cs k)
      ∙ ap (ended (kind_at cs k) (set_at kept (place_in_kind Table cs k)) (set_at now (place_in_kind Input cs k))) (same_union (declared cs) (end_env a kept now) (end_env other kept now) (rules_at cs a.form.rules k) (λ r h n m. one_env n))
      ∙ sym (ends other kept now second k (derived_or cs k)))

pub steps_same : (a : Accepted) (heads : List ℕ) → IsOrdered a.form.collections a.form.rules a.heads → IsOrdered a.form.collections a.form.rules heads → StepsSame a heads
steps_same a heads first second = record {
  collections = λ kept now. one_end a heads first second kept now;
  tables = λ kept now. ap (sets_of_kind Table a.form.collections) (one_end a heads first second kept now);
  outputs = λ kept now. ap (sets_of_kind Output a.form.collections) (one_end a heads first second kept now);
}

-- ---- over given tables

module _ (cs : List Collection) (rules fewer : List RuleForm) (inside : (r : RuleForm) → Has r fewer → Has r rules) where
  still_in_order : (heads : List ℕ) → InOrder cs rules heads → InOrder cs fewer heads
  still_in_order [] order = tt
  still_in_order (h ∷ heads) order = (
    order.0,
    (λ m stands reads. order.1 m stands (record { rule = reads.rule; stands = inside reads.rule reads.stands; head = reads.head; name = reads.name; read = reads.read; is = reads.is })),
    still_in_order heads order.2,
  )

module _ (a : Accepted) (ordered : IsOrdered a.form.collections a.form.rules a.heads) where
  abbrev cs : List Collection
  cs = a.form.collections

  abbrev is_other : RuleForm → Bool
  is_other rule = not (has_kind (same_kind Table) cs rule.0)

  other_ordered : IsOrdered cs (other_rules a.form) a.heads
  other_ordered = record {
    all = ordered.all;
    none_else = ordered.none_else;
    order = still_in_order cs a.form.rules (other_rules a.form) (λ r h. (Has-from_filter is_other r a.form.rules h).0) a.heads ordered.order;
  }

  named_kind : (n : Name) (o : Option Kind) → kind_of cs n ≡ o → not (has_kind (same_kind Table) cs n) ≡ not (option_map_or (same_kind Table) o false)
  named_kind n o is = ap (λ (p : Option Kind). not (option_map_or (same_kind Table) p false)) is

  -- a table has no rules left, and any other name has its own
  no_rules : (n : Name) → not (has_kind (same_kind Table) cs n) ≡ false → (rules : List RuleForm) → rules_of (filter is_other rules) n ≡ []
  no_rules n table [] = refl
  no_rules n table (r ∷ rules) = elim (cases_Bool (bytes_eq r.0 n)) [
    | inl e ↦
        let own : is_other r ≡ false = ap (λ (m : Name). not (has_kind (same_kind Table) cs m)) ((bytes_eq-Decides r.0 n).0 e) ∙ table in
        rw own (no_rules n table rules)
    | inr e ↦ elim (cases_Bool (is_other r)) [ inl t ↦ rw (t, e) (no_rules n table rules) | inr f ↦ rw f (no_rules n table rules) ]
  ]

  own_rules : (n : Name) → not (has_kind (same_kind Table) cs n) ≡ true → (rules : List RuleForm) → rules_of (filter is_other rules) n ≡ rules_of rules n
  own_rules n other [] = refl
  own_rules n other (r ∷ rules) = elim (cases_Bool (bytes_eq r.0 n)) [
    | inl e ↦
        let own : is_other r ≡ true = ap (λ (m : Name). not (has_kind (same_kind Table) cs m)) ((bytes_eq-Decides r.0 n).0 e) ∙ other in
        rw (own, e) (ap (λ (l : List RuleForm). r ∷ l) (own_rules n other rules))
    | inr e ↦ elim (cases_Bool (is_other r)) [ inl t ↦ rw (t, e) (own_rules n other rules) | inr f ↦ rw (f, e) (own_rules n other rules) ]
  ]

  -- what is held over given tables is as the kind says
  pub over_solved : (tables now : Sets) → ((name : Name) → kind_of cs name ≡ Some Table → IsRowSet (set_named Table cs tables name)) → (name : Name)
      → env_over a tables now name ≡ over (kind_of cs name) (set_named Table cs tables name) (set_named Input cs now name) (union_of (declared cs) (env_over a tables now) (rules_of a.form.rules name))
  over_solved tables now sorted n = end_solves (without_table_rules a) tables now other_ordered n ∙ go (kind_of cs n) refl
    where
      same : (o : Option Kind) → kind_of cs n ≡ o → not (option_map_or (same_kind Table) o false) ≡ true → union_of (declared cs) (env_over a tables now) (rules_of (other_rules a.form) n) ≡ union_of (declared cs) (env_over a tables now) (rules_of a.form.rules n)
      same o is other = ap (union_of (declared cs) (env_over a tables now)) (own_rules n (named_kind n o is ∙ other) a.form.rules)

      go : (o : Option Kind) → kind_of cs n ≡ o → ended o (set_named Table cs tables n) (set_named Input cs now n) (union_of (declared cs) (env_over a tables now) (rules_of (other_rules a.form) n)) ≡ over o (set_named Table cs tables n) (set_named Input cs now n) (union_of (declared cs) (env_over a tables now) (rules_of a.form.rules n))
      go None is = refl
      go (Some Input) is = refl
      go (Some Output) is = ap set_of (same (Some Output) is refl)
      go (Some Scratch) is = ap set_of (same (Some Scratch) is refl)
      go (Some Table) is =
          ap (λ (l : List RuleForm). set_of (set_named Table cs tables n ++ union_of (declared cs) (env_over a tables now) l)) (no_rules n (named_kind n (Some Table) is) a.form.rules)
          ∙ ap set_of (append-nil (set_named Table cs tables n))
          ∙ set_of-sorted (set_named Table cs tables n) (sorted n is)

  module _ (kept now : Sets) where
    abbrev after : Sets
    after = tables_after a kept now

    abbrev first : Env
    first = end_env a kept now

    made : (n : Name) (o : Option Kind) → kind_of cs n ≡ o → first n ≡ ended o (set_named Table cs kept n) (set_named Input cs now n) (union_of (declared cs) first (rules_of a.form.rules n))
    made n o is = end_solves a kept now ordered n ∙ ap (λ (p : Option Kind). ended p (set_named Table cs kept n) (set_named Input cs now n) (union_of (declared cs) first (rules_of a.form.rules n))) is

    back : (n : Name) (o : Option Kind) → kind_of cs n ≡ o → not (option_map_or (same_kind Table) o false) ≡ true → union_of (declared cs) first (rules_of a.form.rules n) ≡ union_of (declared cs) first (rules_of (other_rules a.form) n)
    back n o is other = ap (union_of (declared cs) first) (sym (own_rules n (named_kind n o is ∙ other) a.form.rules))

    step : (n : Name) (o : Option Kind) → kind_of cs n ≡ o → first n ≡ ended o (set_named Table cs after n) (set_named Input cs now n) (union_of (declared cs) first (rules_of (other_rules a.form) n))
    step n None is = made n None is
    step n (Some Input) is = made n (Some Input) is
    step n (Some Output) is = made n (Some Output) is ∙ ap set_of (back n (Some Output) is refl)
    step n (Some Scratch) is = made n (Some Scratch) is ∙ ap set_of (back n (Some Scratch) is refl)
    step n (Some Table) is =
        let sorted : IsRowSet (first n) = subst IsRowSet (sym (made n (Some Table) is)) (sorted_set_of (set_named Table cs kept n ++ union_of (declared cs) first (rules_of a.form.rules n))) in
        sym (
        ap (λ (l : List RuleForm). set_of (set_named Table cs after n ++ union_of (declared cs) first l)) (no_rules n (named_kind n (Some Table) is) a.form.rules)
        ∙ ap set_of (append-nil (set_named Table cs after n))
        ∙ ap set_of (set-made Table a kept now n is)
        ∙ set_of-sorted (first n) sorted
        )

    -- the end of a step is that over its new tables
    pub end_over : (name : Name) → end_env a kept now name ≡ env_over a (tables_after a kept now) now name
    end_over = one_solution (without_table_rules a) (set_named Table cs after) (set_named Input cs now) first (env_over a after now) other_ordered (λ n. step n (kind_of cs n) refl) (end_solves (without_table_rules a) after now other_ordered)
