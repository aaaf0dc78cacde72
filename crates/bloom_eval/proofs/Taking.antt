-- Taking the heads of a module, one after the other.
use Rattle.std.proofs.Common.{◌≡◌, ◌≢◌, ◌<◌, ℕ, List, [], ◌∷◌, ◌++◌, length, map, get_or, Option, None, Some, Ok, Err, refl, ap, ◌∙◌, sym, subst, ◌⊎◌, inl, inr, arith}
use Rattle.std.specs.Prelude.{◌==◌, slice_set}
use Rattle.std.specs.List.{fold}
use Rattle.std.proofs.lemmas.List.{get_or-set_same, get_or-set_other, map-append}
use Rattle.std.proofs.lemmas.Bool.{eq-eqb, eqb-true}
use Rattle.blz_value.specs.Record.{Row}
use Rattle.blz_value.specs.Members.{Has}
use Rattle.blz_value.specs.Sets.{set_of}
use Rattle.blz_value.proofs.Membership.{Has-append_left, Has-append_right, Has-append_cases, Has-map, Has-from_map, Has-flat_map, Has-from_flat_map, Has-filter, Has-from_filter, Has-get_or, All-of_member}
use Rattle.blz_value.proofs.SetLaws.{Has-from_set_of}
use Rattle.blz_set.specs.declared.fault.SetFault.{SetFault}
use Rattle.blz_set.specs.declared.fault.SetFault.TheVariants.{TooManyRows, NoMemory}
use Rattle.bloom_forms.specs.declared.module.Kind.{Kind}
use Rattle.bloom_forms.specs.declared.module.Kind.TheVariants.{Input, Output, Table, Scratch}
use Rattle.bloom_forms.specs.Query.{Name, Query}
use Rattle.bloom_forms.specs.Query.Query.{base, select, project, join, notin, group, at_least}
use Rattle.bloom_forms.specs.Form.{RuleForm, Accepted}
use Rattle.bloom_forms.specs.Columns.{columns_of}
use Rattle.bloom_forms.specs.Heads.{names_of, IsDerived, InOrder}
use Rattle.bloom_forms.specs.Kinds.{kind_at}
use Rattle.bloom_forms.specs.Lookup.{collection_number, declared}
use Rattle.bloom_forms.specs.Rows.{rows_of}
use Rattle.bloom_forms.specs.Step.{Sets, set_at, rows_named, ended, rules_at, union_of, ruled_at, with_head}
use Rattle.bloom_forms.specs.Equations.{Env}
use Rattle.bloom_forms.proofs.Collections.Numbers.{get-within, derived-some, derived-no_port}
use Rattle.bloom_forms.proofs.Ends.Equated.{same_rows, same_union, names_none, untouched}
use Rattle.bloom_forms.specs.Widths.{AreWide}
use Rattle.bloom_eval.specs.StepAnswers.{parts_of, part_sets, AllFit, SomeIsOver, rule_sets, IsRunnable, counted_at}
use Rattle.bloom_eval.specs.Counted.{TakesHead}
use Rattle.bloom_eval.specs.Taken.{AreSetsOfAll, AreBegun, all_taken, TakesHeads}
use Rattle.bloom_forms.proofs.Ends.Wide.{wide_rows}
use Rattle.bloom_eval.proofs.Widths.{columns_at, columns-number, length-sets_of_all, wide_at, set_wide, wide_named}

-- ---- what an expression names decides the rows of its parts

module _ (columns : Name → List Name) (env other : Env) where
  both_parts : (a b : Query) → part_sets columns env a ≡ part_sets columns other a → part_sets columns env b ≡ part_sets columns other b → map (rows_of columns env) (parts_of a ++ parts_of b) ≡ map (rows_of columns other) (parts_of a ++ parts_of b)
  both_parts a b left right = map-append (rows_of columns env) (parts_of a) (parts_of b) ∙ (λ i. left i ++ right i) ∙ sym (map-append (rows_of columns other) (parts_of a) (parts_of b))

  same_parts : (q : Query) → ((n : Name) → Has n (names_of q) → env n ≡ other n) → part_sets columns env q ≡ part_sets columns other q
  same_parts (base n) same = ap (λ (rows : List Row). rows ∷ []) (same n (inl refl))
  same_parts (select q f) same =
      let own = same_rows columns env other (select q f) same in
      let more = same_parts q same in
      λ i. own i ∷ more i
  same_parts (project q items) same =
      let own = same_rows columns env other (project q items) same in
      let more = same_parts q same in
      λ i. own i ∷ more i
  same_parts (join a b pairs) same =
      let own = same_rows columns env other (join a b pairs) same in
      let more = both_parts a b (same_parts a (λ n h. same n (Has-append_left n (names_of a) (names_of b) h))) (same_parts b (λ n h. same n (Has-append_right n (names_of a) (names_of b) h))) in
      λ i. own i ∷ more i
  same_parts (notin a b pairs) same =
      let own = same_rows columns env other (notin a b pairs) same in
      let more = both_parts a b (same_parts a (λ n h. same n (Has-append_left n (names_of a) (names_of b) h))) (same_parts b (λ n h. same n (Has-append_right n (names_of a) (names_of b) h))) in
      λ i. own i ∷ more i
  same_parts (group q keys agg name) same =
      let own = same_rows columns env other (group q keys agg name) same in
      let more = same_parts q same in
      λ i. own i ∷ more i
  same_parts (at_least q keys bound) same =
      let own = same_rows columns env other (at_least q keys bound) same in
      let more = same_parts q same in
      λ i. own i ∷ more i

  pub same_rule_sets : (rules : List RuleForm) → ((rule : RuleForm) → Has rule rules → (n : Name) → Has n (names_of rule.1) → env n ≡ other n) → rule_sets columns env rules ≡ rule_sets columns other rules
  same_rule_sets [] same = refl
  same_rule_sets (rule ∷ rules) same =
      let own = same_parts rule.1 (same rule (inl refl)) in
      let more = same_rule_sets rules (λ r h. same r (inr h)) in
      λ i. own i ++ more i

-- ---- the rows of a head

-- a derived collection holds at its end what it had with the rows of its rules
ended_is : (o : Option Kind) (old ruled : List Row) → o ≢ None → o ≢ Some Input → (o ≢ Some Table → old ≡ []) → set_of (old ++ ruled) ≡ ended o old old ruled
ended_is None old ruled none port fresh = absurd (none refl)
ended_is (Some Input) old ruled none port fresh = absurd (port refl)
ended_is (Some Output) old ruled none port fresh = ap (λ (rows : List Row). set_of (rows ++ ruled)) (fresh (λ e. cc))
ended_is (Some Table) old ruled none port fresh = refl
ended_is (Some Scratch) old ruled none port fresh = ap (λ (rows : List Row). set_of (rows ++ ruled)) (fresh (λ e. cc))

-- the sets that count for a head, where the collections hold these at the end
abbrev head_counts : Accepted → Sets → ℕ → Sets
head_counts a end h = set_at end h ∷ rule_sets (declared a.form.collections) (rows_named a.form.collections end) (rules_at a.form.collections a.form.rules h)

-- some heads are taken, and these are left
pub record IsAt (a : Accepted) (start sets : Sets) (left : List ℕ) : Type 0 where
  pub rest : fold (with_head a.form) sets left ≡ all_taken a start
  pub order : InOrder a.form.collections a.form.rules left
  pub wide : AreSetsOfAll a.form.collections sets
  pub fresh : (h : ℕ) → Has h left → kind_at a.form.collections h ≢ Some Table → set_at sets h ≡ []
  pub within : (h : ℕ) → Has h left → Has h a.heads
  pub fit : (h : ℕ) → Has h a.heads → Has h left ⊎ AllFit (head_counts a (all_taken a start) h)

pub at_first : (a : Accepted) (start : Sets) → IsRunnable a → AreBegun a.form.collections start → IsAt a start start a.heads
at_first a start runnable begun = record {
  rest = refl;
  order = runnable.ordered.order;
  wide = begun.wide;
  fresh = λ h stands. begun.fresh h (runnable.ordered.none_else h stands);
  within = λ h stands. stands;
  fit = λ h stands. inl stands;
}

-- ---- one head

module _ (a : Accepted) (runnable : IsRunnable a) (start sets : Sets) (h : ℕ) (left : List ℕ) (at : IsAt a start sets (h ∷ left)) where
  derived : IsDerived a.form.collections h
  derived = runnable.ordered.none_else h (at.within h (inl refl))

  pub head_within : h < length a.form.collections
  head_within = get-within a.form.collections h derived.collection derived.stands

  -- what the rules read is what it was, and what it is at the end
  reads_now : (rule : RuleForm) → Has rule (rules_at a.form.collections a.form.rules h) → (n : Name) → Has n (names_of rule.1) → rows_named a.form.collections (slice_set sets h []) n ≡ rows_named a.form.collections sets n
  reads_now rule stands n names = get_or-set_other sets h (collection_number a.form.collections n) [] [] (λ e. names_none a.form h left at.order rule n stands names (inl (sym e)))

  reads_end : (rule : RuleForm) → Has rule (rules_at a.form.collections a.form.rules h) → (n : Name) → Has n (names_of rule.1) → rows_named a.form.collections (slice_set sets h []) n ≡ rows_named a.form.collections (all_taken a start) n
  reads_end rule stands n names =
      reads_now rule stands n names
      ∙ sym (untouched a.form (h ∷ left) sets (collection_number a.form.collections n) (names_none a.form h left at.order rule n stands names))
      ∙ ap (λ (all : Sets). set_at all (collection_number a.form.collections n)) at.rest

  -- the set that a head gets
  made : set_of (set_at sets h ++ union_of (declared a.form.collections) (rows_named a.form.collections (slice_set sets h [])) (rules_at a.form.collections a.form.rules h)) ≡ ended (kind_at a.form.collections h) (set_at sets h) (set_at sets h) (ruled_at a.form sets h)
  made =
      ap (λ (rows : List Row). set_of (set_at sets h ++ rows)) (same_union (declared a.form.collections) (rows_named a.form.collections (slice_set sets h [])) (rows_named a.form.collections sets) (rules_at a.form.collections a.form.rules h) reads_now)
      ∙ ended_is (kind_at a.form.collections h) (set_at sets h) (ruled_at a.form sets h) (derived-some a.form.collections h derived) (derived-no_port a.form.collections h derived) (at.fresh h (inl refl))

  -- it is the head's set at the end
  made_end : ended (kind_at a.form.collections h) (set_at sets h) (set_at sets h) (ruled_at a.form sets h) ≡ set_at (all_taken a start) h
  made_end =
      sym (get_or-set_same sets h (ended (kind_at a.form.collections h) (set_at sets h) (set_at sets h) (ruled_at a.form sets h)) [] (omega (arith, head_within, length-sets_of_all a.form.collections sets at.wide)))
      ∙ sym (untouched a.form left (with_head a.form sets h) h at.order.0)
      ∙ ap (λ (all : Sets). set_at all h) at.rest

  counts : (set_of (set_at sets h ++ union_of (declared a.form.collections) (rows_named a.form.collections (slice_set sets h [])) (rules_at a.form.collections a.form.rules h)) ∷ rule_sets (declared a.form.collections) (rows_named a.form.collections (slice_set sets h [])) (rules_at a.form.collections a.form.rules h)) ≡ head_counts a (all_taken a start) h
  counts =
      let set = made ∙ made_end in
      let parts = same_rule_sets (declared a.form.collections) (rows_named a.form.collections (slice_set sets h [])) (rows_named a.form.collections (all_taken a start)) (rules_at a.form.collections a.form.rules h) reads_end in
      λ i. set i ∷ parts i

  -- its rows have the head's width
  head_wide : (row : Row) → Has row (set_of (set_at sets h ++ ruled_at a.form sets h)) → length row ≡ length (columns_at a.form.collections h)
  head_wide row m = elim (Has-append_cases row (set_at sets h) (ruled_at a.form sets h) (Has-from_set_of row (set_at sets h ++ ruled_at a.form sets h) m)) [
    | inl old ↦ All-of_member (λ (r : Row). length r ≡ length (columns_at a.form.collections h)) (set_at sets h) row (wide_at a.form.collections sets at.wide h) old
    | inr new ↦
        let cs = a.form.collections in
        let env = rows_named cs sets in
        let of_rule = Has-from_flat_map (λ (rule : RuleForm). rows_of (declared cs) env rule.1) row (rules_at cs a.form.rules h) new in
        let rule = of_rule.0 in
        let own = Has-from_filter (λ (r : RuleForm). collection_number cs r.0 == h) rule a.form.rules of_rule.1 in
        All-of_member (λ (r : Row). length r ≡ length (columns_of (declared cs) rule.1)) (rows_of (declared cs) env rule.1) row (wide_rows (declared cs) env (wide_named cs sets at.wide) rule.1) of_rule.2
        ∙ (runnable.rules rule own.0).wide
        ∙ ap length (sym (columns-number cs rule.0) ∙ ap (columns_at cs) (eqb-true (collection_number cs rule.0) h own.1))
  ]

  next_wide : AreSetsOfAll a.form.collections (with_head a.form sets h)
  next_wide =
      let set = set_of (set_at sets h ++ ruled_at a.form sets h) in
      let wide : AreWide (length (columns_at a.form.collections h)) set = λ k d lt. head_wide (get_or set k d) (Has-get_or set k d lt) in
      set_wide a.form.collections sets h (ended (kind_at a.form.collections h) (set_at sets h) (set_at sets h) (ruled_at a.form sets h)) at.wide
      (subst (λ (rows : List Row). AreWide (length (columns_at a.form.collections h)) rows) (ended_is (kind_at a.form.collections h) (set_at sets h) (ruled_at a.form sets h) (derived-some a.form.collections h derived) (derived-no_port a.form.collections h derived) (at.fresh h (inl refl))) wide)

  pub at_next : (X : Type 0) (new : Sets) (x : X) → TakesHead a.form.collections a.form.rules h sets new (Ok x) → IsAt a start new left
  at_next X new x taken =
      let is : new ≡ with_head a.form sets h = taken.1 ∙ ap (slice_set sets h) (taken.0.0 ∙ made) in
      let fits : AllFit (head_counts a (all_taken a start) h) =
      subst (λ (all : Sets). AllFit all) counts (subst (λ (rows : List Row). AllFit (rows ∷ rule_sets (declared a.form.collections) (rows_named a.form.collections (slice_set sets h [])) (rules_at a.form.collections a.form.rules h))) taken.0.0 taken.0.1) in
      subst (λ (all : Sets). IsAt a start all left) (sym is) (record {
        rest = at.rest;
        order = at.order.2;
        wide = next_wide;
        fresh = λ k m kind. get_or-set_other sets h k (ended (kind_at a.form.collections h) (set_at sets h) (set_at sets h) (ruled_at a.form sets h)) [] (λ e. at.order.0 (subst (λ (j : ℕ). Has j left) e m)) ∙ at.fresh k (inr m) kind;
        within = λ k m. at.within k (inr m);
        fit = λ k m. elim (at.fit k m) [
          | inl stands ↦ elim stands [ inl e ↦ inr (subst (λ (j : ℕ). AllFit (head_counts a (all_taken a start) j)) e fits) | inr n ↦ inl n ]
          | inr f ↦ inr f
        ];
      })

  counted : (rows : List Row) → Has rows (head_counts a (all_taken a start) h) → Has rows (counted_at a (all_taken a start))
  counted rows m =
      let cs = a.form.collections in
      let end = all_taken a start in
      let bodies = rule_sets (declared cs) (rows_named cs end) a.form.rules in
      elim m [
        | inl e ↦ subst (λ (r : List Row). Has r (counted_at a end)) e (Has-append_left (set_at end h) (map (set_at end) a.heads) bodies (Has-map (set_at end) h a.heads (at.within h (inl refl))))
        | inr n ↦
            let of_rule = Has-from_flat_map (λ (rule : RuleForm). part_sets (declared cs) (rows_named cs end) rule.1) rows (rules_at cs a.form.rules h) n in
            Has-append_right rows (map (set_at end) a.heads) bodies
            (Has-flat_map (λ (rule : RuleForm). part_sets (declared cs) (rows_named cs end) rule.1) of_rule.0 rows a.form.rules (Has-from_filter (λ (r : RuleForm). collection_number cs r.0 == h) of_rule.0 a.form.rules of_rule.1).0 of_rule.2)
      ]

  pub at_refused : (X Y : Type 0) (mid new : Sets) (fault : SetFault) → TakesHead {X = X} a.form.collections a.form.rules h sets mid (Err fault) → TakesHeads {X = Y} a start new (Err fault)
  at_refused X Y mid new TooManyRows taken =
      let over : SomeIsOver (head_counts a (all_taken a start) h) = subst (λ (all : Sets). SomeIsOver all) counts taken.0 in
      record { rows = over.rows; stands = counted over.rows over.stands; over = over.over }
  at_refused X Y mid new NoMemory taken = tt

-- ---- the end

pub at_last : (X : Type 0) (a : Accepted) (start sets : Sets) → IsRunnable a → IsAt a start sets [] → (x : X) → TakesHeads a start sets (Ok x)
at_last X a start sets runnable at x =
    let cs = a.form.collections in
    let end = all_taken a start in
    let bodies = rule_sets (declared cs) (rows_named cs end) a.form.rules in (
      at.rest,
      λ rows m. elim (Has-append_cases rows (map (set_at end) a.heads) bodies m) [
        | inl l ↦
            let of_head = Has-from_map (set_at end) rows a.heads l in
            elim (at.fit of_head.0 of_head.1) [ inl none ↦ absurd none | inr fit ↦ fit rows (inl of_head.2) ]
        | inr r ↦
            let of_rule = Has-from_flat_map (λ (rule : RuleForm). part_sets (declared cs) (rows_named cs end) rule.1) rows a.form.rules r in
            let rule = of_rule.0 in
            let number = collection_number cs rule.0 in
            elim (at.fit number (runnable.rules rule of_rule.1).head) [
              | inl none ↦ absurd none
              | inr fit ↦ fit rows (inr (Has-flat_map (λ (r : RuleForm). part_sets (declared cs) (rows_named cs end) r.1) rule rows (rules_at cs a.form.rules number) (Has-filter (λ (r : RuleForm). collection_number cs r.0 == number) rule a.form.rules of_rule.1 (eq-eqb number number refl)) of_rule.2))
            ]
      ],
    )
