-- A step against its equations.
use Rattle.std.proofs.Common.{◌≡◌, ◌<◌, ◌≤◌, ℕ, zero, suc, List, [], ◌∷◌, ◌++◌, length, Option, None, Some, refl, ap, ◌∙◌, sym, subst, ◌⊎◌, inl, inr, arith}
use Rattle.std.specs.Prelude.{◌==◌}
use Rattle.std.specs.List.{fold}
use Rattle.std.proofs.lemmas.List.{get_or-set_same, get_or-set_other, length-set, get_or_past}
use Rattle.std.proofs.lemmas.List.FromFn.{length-map-range_with_len, get_or-map-range_with_len}
use Rattle.std.proofs.lemmas.Bool.{cases_eq, cases_lt, eqb-true}
use Rattle.blz_value.specs.Record.{Row}
use Rattle.blz_value.specs.Members.{Has}
use Rattle.blz_value.specs.Sets.{set_of}
use Rattle.blz_value.specs.Operators.{select_rows, project_rows, join_rows, notin_rows}
use Rattle.blz_value.specs.Groups.{group_rows, at_least_rows}
use Rattle.blz_value.proofs.Membership.{Has-append_left, Has-append_right, Has-from_filter}
use Rattle.bloom_forms.specs.declared.module.Kind.{Kind}
use Rattle.bloom_forms.specs.declared.module.Kind.TheVariants.{Input, Output, Table, Scratch}
use Rattle.bloom_forms.specs.declared.module.Collection.{Collection}
use Rattle.bloom_forms.specs.Query.{Name, Query}
use Rattle.bloom_forms.specs.Query.Query.{base, select, project, join, notin, group, at_least}
use Rattle.bloom_forms.specs.Form.{RuleForm, Form, Accepted}
use Rattle.bloom_forms.specs.Lookup.{collection_number, kind_of, declared}
use Rattle.bloom_forms.specs.Columns.{columns_of, pair_numbers}
use Rattle.bloom_forms.specs.Kinds.{kind_at, place_in_kind}
use Rattle.bloom_forms.specs.Heads.{names_of, HasRule, IsDerived, InOrder, IsOrdered}
use Rattle.bloom_forms.specs.Rows.{formula_holds, item_numbers, column_numbers, numbered_agg, row_bound, rows_of}
use Rattle.bloom_forms.specs.Step.{Sets, set_at, begun, ended, rows_named, begun_at, at_start, rules_at, union_of, ruled_at, with_head, at_end, sets_of_kind}
use Rattle.bloom_forms.specs.Equations.{Env, set_named, end_env, rules_of, Solves}
use Rattle.bloom_forms.proofs.Collections.Numbers.{kind-number, rules-number, get-within, derived_or, derived-some, derived-no_port, set-of_kind}

-- ---- what an expression names decides its rows

pub same_rows : (columns : Name → List Name) (env other : Env) (q : Query) → ((n : Name) → Has n (names_of q) → env n ≡ other n) → rows_of columns env q ≡ rows_of columns other q
same_rows columns env other (base n) same = same n (inl refl)
same_rows columns env other (select q f) same = ap (λ rows. set_of (select_rows (formula_holds (columns_of columns q) f) rows)) (same_rows columns env other q same)
same_rows columns env other (project q items) same = ap (λ rows. set_of (project_rows (item_numbers (columns_of columns q) items) rows)) (same_rows columns env other q same)
same_rows columns env other (join a b pairs) same =
    let numbers = pair_numbers (columns_of columns a) (columns_of columns b) pairs in
    ap (λ rows. set_of (join_rows numbers rows (rows_of columns env b))) (same_rows columns env other a (λ n h. same n (Has-append_left n (names_of a) (names_of b) h)))
    ∙ ap (λ rows. set_of (join_rows numbers (rows_of columns other a) rows)) (same_rows columns env other b (λ n h. same n (Has-append_right n (names_of a) (names_of b) h)))
same_rows columns env other (notin a b pairs) same =
    let numbers = pair_numbers (columns_of columns a) (columns_of columns b) pairs in
    ap (λ rows. set_of (notin_rows numbers rows (rows_of columns env b))) (same_rows columns env other a (λ n h. same n (Has-append_left n (names_of a) (names_of b) h)))
    ∙ ap (λ rows. set_of (notin_rows numbers (rows_of columns other a) rows)) (same_rows columns env other b (λ n h. same n (Has-append_right n (names_of a) (names_of b) h)))
same_rows columns env other (group q keys agg name) same = ap (λ rows. set_of (group_rows (column_numbers (columns_of columns q) keys) (numbered_agg (columns_of columns q) agg) rows)) (same_rows columns env other q same)
same_rows columns env other (at_least q keys bound) same = ap (λ rows. set_of (at_least_rows (column_numbers (columns_of columns q) keys) (row_bound bound) rows)) (same_rows columns env other q same)

pub same_union : (columns : Name → List Name) (env other : Env) (rules : List RuleForm) → ((rule : RuleForm) → Has rule rules → (n : Name) → Has n (names_of rule.1) → env n ≡ other n) → union_of columns env rules ≡ union_of columns other rules
same_union columns env other [] same = refl
same_union columns env other (rule ∷ rules) same =
    ap (λ (rows : List Row). rows ++ union_of columns env rules) (same_rows columns env other rule.1 (same rule (inl refl)))
    ∙ ap (λ (rows : List Row). rows_of columns other rule.1 ++ rows) (same_union columns env other rules (λ r h. same r (inr h)))

-- ---- a step

module _ (form : Form) where
  -- a rule of a collection, and what it names
  rule_of : (h : ℕ) (rule : RuleForm) (n : Name) → Has rule (rules_at form.collections form.rules h) → Has n (names_of rule.1) → HasRule form.collections form.rules h (collection_number form.collections n)
  rule_of h rule n of_head names =
      let m = Has-from_filter (λ (r : RuleForm). collection_number form.collections r.0 == h) rule form.rules of_head in
      record { rule = rule; stands = m.0; head = eqb-true (collection_number form.collections rule.0) h m.1; name = n; read = names; is = refl }

  -- a rule of the first of some heads names none of them
  pub names_none : (h : ℕ) (heads : List ℕ) → InOrder form.collections form.rules (h ∷ heads) → (rule : RuleForm) (n : Name) → Has rule (rules_at form.collections form.rules h) → Has n (names_of rule.1) → ¬ Has (collection_number form.collections n) (h ∷ heads)
  names_none h heads order rule n of_head names stands = order.1 (collection_number form.collections n) stands (rule_of h rule n of_head names)

  -- ---- the heads one after the other

  pub untouched : (heads : List ℕ) (sets : Sets) (k : ℕ) → ¬ Has k heads → set_at (fold (with_head form) sets heads) k ≡ set_at sets k
  untouched [] sets k lacks = refl
  untouched (h ∷ heads) sets k lacks = untouched heads (with_head form sets h) k (λ m. lacks (inr m)) ∙ get_or-set_other sets h k _ [] (λ e. lacks (inl (sym e)))

  pub length-heads : (heads : List ℕ) (sets : Sets) → length (fold (with_head form) sets heads) ≡ length sets
  length-heads [] sets = refl
  length-heads (h ∷ heads) sets = length-heads heads (with_head form sets h) ∙ length-set sets h _

  -- each head holds at the end what its rules give at the end
  solved : (heads : List ℕ) (sets : Sets) → InOrder form.collections form.rules heads → (k : ℕ) → k < length sets → Has k heads
      → set_at (fold (with_head form) sets heads) k ≡ ended (kind_at form.collections k) (set_at sets k) (set_at sets k) (ruled_at form (fold (with_head form) sets heads) k)
  solved [] sets order k lt stands = absurd stands
  solved (h ∷ heads) sets order k lt (inl e) =
      let end = fold (with_head form) sets (h ∷ heads) in
      subst (λ (j : ℕ). set_at end j ≡ ended (kind_at form.collections j) (set_at sets j) (set_at sets j) (ruled_at form end j)) e (
      untouched heads (with_head form sets h) h order.0 ∙ get_or-set_same sets h _ [] (omega (arith, lt, e))
      ∙ ap (ended (kind_at form.collections h) (set_at sets h) (set_at sets h)) (same_union (declared form.collections) (rows_named form.collections sets) (rows_named form.collections end) (rules_at form.collections form.rules h)
      (λ rule of_head n names. sym (untouched (h ∷ heads) sets (collection_number form.collections n) (names_none h heads order rule n of_head names))))
      )
  solved (h ∷ heads) sets order k lt (inr stands) =
      let same : set_at (with_head form sets h) k ≡ set_at sets k = get_or-set_other sets h k _ [] (λ e. order.0 (subst (λ (j : ℕ). Has j heads) e stands)) in
      solved heads (with_head form sets h) order.2 k (omega (arith, lt, length-set sets h (ended (kind_at form.collections h) (set_at sets h) (set_at sets h) (ruled_at form sets h)))) stands
      ∙ ap (λ (old : List Row). ended (kind_at form.collections k) old old (ruled_at form (fold (with_head form) sets (h ∷ heads)) k)) same

  -- ---- one solution

  agree : (heads : List ℕ) → InOrder form.collections form.rules heads → (kept now env other : Env) → Solves form kept now env → Solves form kept now other
      → ((n : Name) → ¬ Has (collection_number form.collections n) heads → env n ≡ other n) → ((n : Name) → Has (collection_number form.collections n) heads → collection_number form.collections n < length form.collections) → (n : Name) → env n ≡ other n
  agree [] order kept now env other s t same within n = same n (λ h. h)
  agree (h ∷ heads) order kept now env other s t same within name = agree heads order.2 kept now env other s t further (λ n m. within n (inr m)) name
    where
      further : (n : Name) → ¬ Has (collection_number form.collections n) heads → env n ≡ other n
      further n lacks = elim (cases_eq h (collection_number form.collections n)) [
        | inl e ↦
            let rules = rules-number form.collections form.rules n (within n (inl e)) in
            s n
            ∙ ap (ended (kind_of form.collections n) (kept n) (now n)) (
            ap (union_of (declared form.collections) env) (sym rules)
            ∙ same_union (declared form.collections) env other (rules_at form.collections form.rules (collection_number form.collections n)) (λ rule of_head m names. same m (names_none h heads order rule m (subst (λ (j : ℕ). Has rule (rules_at form.collections form.rules j)) (sym e) of_head) names))
            ∙ ap (union_of (declared form.collections) other) rules
            )
            ∙ sym (t n)
        | inr ne ↦ same n (λ stands. elim stands [ inl e ↦ ne e | inr m ↦ lacks m ])
      ]

-- ---- by names

begun-past : (cs : List Collection) (k : ℕ) → length cs ≤ k → kind_at cs k ≡ None
begun-past [] k le = refl
begun-past (c ∷ cs) zero le = absurd (omega arith)
begun-past (c ∷ cs) (suc k) le = begun-past cs k (omega (arith, le))

pub starts : (cs : List Collection) (kept now : Sets) (k : ℕ) → set_at (at_start cs kept now) k ≡ begun_at cs kept now k
starts cs kept now k = elim (cases_lt k (length cs)) [
  | inl lt ↦ get_or-map-range_with_len (begun_at cs kept now) 0 (length cs) k k [] lt (omega arith)
  | inr le ↦
      get_or_past (at_start cs kept now) k [] (omega (arith, le, length-map-range_with_len (begun_at cs kept now) 0 (length cs)))
      ∙ sym (ap (λ (o : Option Kind). begun o (set_at kept (place_in_kind Table cs k)) (set_at now (place_in_kind Input cs k))) (begun-past cs k le))
]

-- what was begun with ends as what was kept and what arrives
merged : (o : Option Kind) (kept now ruled : List Row) → ended o (begun o kept now) (begun o kept now) ruled ≡ ended o kept now ruled
merged None kept now ruled = refl
merged (Some Input) kept now ruled = refl
merged (Some Output) kept now ruled = refl
merged (Some Table) kept now ruled = refl
merged (Some Scratch) kept now ruled = refl

-- what is no head ends as it begins
begun_ends : (o : Option Kind) (kept now ruled : List Row) → (o ≡ None) ⊎ (o ≡ Some Input) → begun o kept now ≡ ended o kept now ruled
begun_ends None kept now ruled is = refl
begun_ends (Some Input) kept now ruled is = refl
begun_ends (Some Output) kept now ruled is = absurd (elim is [ inl e ↦ cc | inr e ↦ cc ])
begun_ends (Some Table) kept now ruled is = absurd (elim is [ inl e ↦ cc | inr e ↦ cc ])
begun_ends (Some Scratch) kept now ruled is = absurd (elim is [ inl e ↦ cc | inr e ↦ cc ])

module _ (a : Accepted) (kept now : Sets) (ordered : IsOrdered a.form.collections a.form.rules a.heads) where
  -- what a collection holds at the end, by its number
  pub ends : (k : ℕ) → IsDerived a.form.collections k ⊎ ((kind_at a.form.collections k ≡ None) ⊎ (kind_at a.form.collections k ≡ Some Input))
      → set_at (at_end a kept now) k ≡ ended (kind_at a.form.collections k) (set_at kept (place_in_kind Table a.form.collections k)) (set_at now (place_in_kind Input a.form.collections k)) (ruled_at a.form (at_end a kept now) k)
  ends k (inl derived) =
      let cs = a.form.collections in
      let start = at_start cs kept now in
      let ruled = ruled_at a.form (at_end a kept now) k in
      let lt : k < length start = omega (arith, get-within cs k derived.collection derived.stands, length-map-range_with_len (begun_at cs kept now) 0 (length cs)) in
      solved a.form a.heads start ordered.order k lt (ordered.all k derived)
      ∙ ap (λ (rows : List Row). ended (kind_at cs k) rows rows ruled) (starts cs kept now k)
      ∙ merged (kind_at cs k) (set_at kept (place_in_kind Table cs k)) (set_at now (place_in_kind Input cs k)) ruled
  ends k (inr other) =
      let cs = a.form.collections in
      let lacks : ¬ Has k a.heads = λ stands. elim other [
        | inl none ↦ derived-some cs k (ordered.none_else k stands) none
        | inr port ↦ derived-no_port cs k (ordered.none_else k stands) port
      ] in
      untouched a.form a.heads (at_start cs kept now) k lacks
      ∙ starts cs kept now k
      ∙ begun_ends (kind_at cs k) (set_at kept (place_in_kind Table cs k)) (set_at now (place_in_kind Input cs k)) (ruled_at a.form (at_end a kept now) k) other

-- the rules of a collection, by its number and by its name
ended-number : (cs : List Collection) (rules : List RuleForm) (name : Name) (kept now : List Row) (env : Env)
    → ended (kind_of cs name) kept now (union_of (declared cs) env (rules_at cs rules (collection_number cs name))) ≡ ended (kind_of cs name) kept now (union_of (declared cs) env (rules_of rules name))
ended-number cs rules name kept now env = elim (cases_lt (collection_number cs name) (length cs)) [
  | inl lt ↦ ap (λ (own : List RuleForm). ended (kind_of cs name) kept now (union_of (declared cs) env own)) (rules-number cs rules name lt)
  | inr le ↦
      let none : kind_of cs name ≡ None = sym (kind-number cs name) ∙ begun-past cs (collection_number cs name) le in
      ap (λ (o : Option Kind). ended o kept now (union_of (declared cs) env (rules_at cs rules (collection_number cs name)))) none
      ∙ sym (ap (λ (o : Option Kind). ended o kept now (union_of (declared cs) env (rules_of rules name))) none)
]

pub end_solves : (a : Accepted) (kept now : Sets) → IsOrdered a.form.collections a.form.rules a.heads → Solves a.form (set_named Table a.form.collections kept) (set_named Input a.form.collections now) (end_env a kept now)
end_solves a kept now ordered name =
    let cs = a.form.collections in
    let k = collection_number cs name in
    ends a kept now ordered k (derived_or cs k)
    ∙ ap (λ (o : Option Kind). ended o (set_named Table cs kept name) (set_named Input cs now name) (ruled_at a.form (at_end a kept now) k)) (kind-number cs name)
    ∙ ended-number cs a.form.rules name (set_named Table cs kept name) (set_named Input cs now name) (end_env a kept now)

-- where a name is no head, it is a port or names no collection
same_ports : (a : Accepted) (kept now env other : Env) → IsOrdered a.form.collections a.form.rules a.heads → Solves a.form kept now env → Solves a.form kept now other → (name : Name) → ¬ Has (collection_number a.form.collections name) a.heads → env name ≡ other name
same_ports a kept now env other ordered s t name lacks =
    let cs = a.form.collections in
    let which : (kind_of cs name ≡ None) ⊎ (kind_of cs name ≡ Some Input) = elim (derived_or cs (collection_number cs name)) [
      | inl derived ↦ absurd (lacks (ordered.all (collection_number cs name) derived))
      | inr is ↦ elim is [ inl e ↦ inl (sym (kind-number cs name) ∙ e) | inr e ↦ inr (sym (kind-number cs name) ∙ e) ]
    ] in
    s name ∙ sym (begun_ends (kind_of cs name) (kept name) (now name) (union_of (declared cs) env (rules_of a.form.rules name)) which)
    ∙ begun_ends (kind_of cs name) (kept name) (now name) (union_of (declared cs) other (rules_of a.form.rules name)) which ∙ sym (t name)

pub one_solution : (a : Accepted) (kept now env other : Env) → IsOrdered a.form.collections a.form.rules a.heads → Solves a.form kept now env → Solves a.form kept now other → (name : Name) → env name ≡ other name
one_solution a kept now env other ordered s t =
    agree a.form a.heads ordered.order kept now env other s t (same_ports a kept now env other ordered s t)
    (λ n stands. let derived = ordered.none_else (collection_number a.form.collections n) stands in get-within a.form.collections (collection_number a.form.collections n) derived.collection derived.stands)

-- ---- what a step makes

pub length-at_end : (a : Accepted) (kept now : Sets) → length (at_end a kept now) ≡ length a.form.collections
length-at_end a kept now = length-heads a.form a.heads (at_start a.form.collections kept now) ∙ length-map-range_with_len (begun_at a.form.collections kept now) 0 (length a.form.collections)

pub set-made : (kind : Kind) (a : Accepted) (kept now : Sets) (name : Name) → kind_of a.form.collections name ≡ Some kind → set_named kind a.form.collections (sets_of_kind kind a.form.collections (at_end a kept now)) name ≡ end_env a kept now name
set-made kind a kept now name is = set-of_kind kind a.form.collections (at_end a kept now) (collection_number a.form.collections name) (length-at_end a kept now) (kind-number a.form.collections name ∙ is)
