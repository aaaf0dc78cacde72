-- The roots of all collections are what the rules say of the finished table.
use Rattle.std.proofs.Common.{◌≡◌, ◌<◌, ◌≤◌, ℕ, zero, suc, Bool, true, false, cond, List, [], ◌∷◌, ◌++◌, length, map, get_or, slice_get, None, Some, refl, ap, ◌∙◌, sym, subst, ◌⊎◌, inl, inr, arith}
use Rattle.std.specs.List.{fold, range_with_len}
use Rattle.std.specs.Option.{option_map}
use Rattle.std.proofs.lemmas.Bool.{cases_eq, cases_lt}
use Rattle.std.proofs.lemmas.List.{length-map, length-set, get_or-set_same, get_or-set_other, set_past, get_or_past, ext_get_or}
use Rattle.std.proofs.lemmas.List.FromFn.{length-map-range_with_len}
use Rattle.blz_value.specs.Members.{Has}
use Rattle.blz_value.proofs.Membership.{Has-append_left, Has-append_right}
use Rattle.blz_value.specs.Names.{place_of}
use Rattle.blz_value.proofs.Maps.{same_map}
use Rattle.bloom_forms.specs.declared.module.Kind.TheVariants.{Input}
use Rattle.bloom_forms.specs.declared.module.Collection.{Collection}
use Rattle.bloom_forms.specs.Columns.{columns_of, pair_numbers}
use Rattle.bloom_forms.specs.Form.{RuleForm, Form, Accepted}
use Rattle.bloom_forms.specs.Heads.{names_of, InOrder, IsOrdered, IsDerived}
use Rattle.bloom_forms.specs.Kinds.{is_input, kind_at}
use Rattle.bloom_forms.specs.Lookup.{collection_number, declared}
use Rattle.bloom_forms.specs.Query.{Name, Query}
use Rattle.bloom_forms.specs.Query.Query.{base, select, project, join, notin, group, at_least}
use Rattle.bloom_forms.specs.Rows.{item_numbers, column_numbers}
use Rattle.bloom_forms.specs.Step.{rules_at}
use Rattle.bloom_forms.proofs.Ends.Equated.{names_none}
use Rattle.bloom_forms.proofs.Collections.Numbers.{get-within, derived_or, derived-no_port}
use Rattle.bloom_forms.proofs.Collections.KindSets.{get-kind}
use Rattle.bloom_forms.specs.HeadRoots.{agreed_root, attribute_roots, first_roots, roots_numbered, roots_named, rule_roots, head_roots, with_head_roots, roots_table}
use Rattle.bloom_forms.specs.Roots.{Roots, roots_at, joined_roots, roots_of}
use Rattle.bloom_forms.specs.RootsLaw.{HavePortRoots, HaveHeadRoots, HaveRootsOfColumns, AreRootsOf}

-- ---- what an expression names decides its roots

same_roots : (columns : Name → List Name) (env other : Name → Roots) (q : Query) → ((n : Name) → Has n (names_of q) → env n ≡ other n) → roots_of columns env q ≡ roots_of columns other q
same_roots columns env other (base n) same = same n (inl refl)
same_roots columns env other (select q f) same = same_roots columns env other q same
same_roots columns env other (project q items) same = ap (λ (roots : Roots). roots_at roots (item_numbers (columns_of columns q) items)) (same_roots columns env other q same)
same_roots columns env other (join a b pairs) same =
    let numbers = pair_numbers (columns_of columns a) (columns_of columns b) pairs in
    ap (λ (roots : Roots). joined_roots numbers roots (roots_of columns env b)) (same_roots columns env other a (λ n h. same n (Has-append_left n (names_of a) (names_of b) h)))
    ∙ ap (λ (roots : Roots). joined_roots numbers (roots_of columns other a) roots) (same_roots columns env other b (λ n h. same n (Has-append_right n (names_of a) (names_of b) h)))
same_roots columns env other (notin a b pairs) same = same_roots columns env other a (λ n h. same n (Has-append_left n (names_of a) (names_of b) h))
same_roots columns env other (group q keys agg name) same = ap (λ (roots : Roots). roots_at roots (column_numbers (columns_of columns q) keys) ++ None ∷ []) (same_roots columns env other q same)
same_roots columns env other (at_least q keys bound) same = ap (λ (roots : Roots). roots_at roots (column_numbers (columns_of columns q) keys)) (same_roots columns env other q same)

-- ---- the heads one after the other

module _ (form : Form) where
  untouched_roots : (heads : List ℕ) (table : List Roots) (k : ℕ) → ¬ Has k heads → roots_numbered (fold (with_head_roots form) table heads) k ≡ roots_numbered table k
  untouched_roots [] table k lacks = refl
  untouched_roots (h ∷ heads) table k lacks = untouched_roots heads (with_head_roots form table h) k (λ m. lacks (inr m)) ∙ get_or-set_other table h k _ [] (λ e. lacks (inl (sym e)))

  length-head_roots : (table : List Roots) (h : ℕ) → length (head_roots form table h) ≡ length (roots_numbered table h)
  length-head_roots table h = length-map-range_with_len (agreed_root (map (rule_roots form.collections table) (rules_at form.collections form.rules h))) 0 (length (roots_numbered table h))

  -- a head keeps the number of roots of each collection
  keeps_length : (table : List Roots) (h k : ℕ) → length (roots_numbered (with_head_roots form table h) k) ≡ length (roots_numbered table k)
  keeps_length table h k = elim (cases_eq k h) [
    | inr ne ↦ ap length (get_or-set_other table h k (head_roots form table h) [] ne)
    | inl e ↦ elim (cases_lt h (length table)) [
      | inl lt ↦
          subst (λ (j : ℕ). length (roots_numbered (with_head_roots form table h) j) ≡ length (roots_numbered table j)) (sym e)
          (ap length (get_or-set_same table h (head_roots form table h) [] lt) ∙ length-head_roots table h)
      | inr le ↦ ap (λ (more : List Roots). length (roots_numbered more k)) (set_past table h (head_roots form table h) le)
    ]
  ]

  length-table : (heads : List ℕ) (table : List Roots) → length (fold (with_head_roots form) table heads) ≡ length table
  length-table [] table = refl
  length-table (h ∷ heads) table = length-table heads (with_head_roots form table h) ∙ length-set table h (head_roots form table h)

  keep_length : (heads : List ℕ) (table : List Roots) (k : ℕ) → length (roots_numbered (fold (with_head_roots form) table heads) k) ≡ length (roots_numbered table k)
  keep_length [] table k = refl
  keep_length (h ∷ heads) table k = keep_length heads (with_head_roots form table h) k ∙ keeps_length table h k

  -- what the rules of a head name, and how many columns it has, decides its roots
  same_head_roots : (table end : List Roots) (h : ℕ) → length (roots_numbered table h) ≡ length (roots_numbered end h)
      → ((rule : RuleForm) (n : Name) → Has rule (rules_at form.collections form.rules h) → Has n (names_of rule.1) → roots_named form.collections table n ≡ roots_named form.collections end n)
      → head_roots form table h ≡ head_roots form end h
  same_head_roots table end h lengths same =
      let cs = form.collections in
      let rules = rules_at cs form.rules h in
      ap (λ (given : List Roots). map (agreed_root given) (range_with_len 0 (length (roots_numbered table h))))
      (same_map (rule_roots cs table) (rule_roots cs end) rules (λ rule of_head. same_roots (declared cs) (roots_named cs table) (roots_named cs end) rule.1 (λ n names. same rule n of_head names)))
      ∙ ap (λ (count : ℕ). map (agreed_root (map (rule_roots cs end) rules)) (range_with_len 0 count)) lengths

  -- each head has at the end what its rules give at the end
  solved_roots : (heads : List ℕ) (table : List Roots) → InOrder form.collections form.rules heads → (k : ℕ) → k < length table → Has k heads
      → roots_numbered (fold (with_head_roots form) table heads) k ≡ head_roots form (fold (with_head_roots form) table heads) k
  solved_roots [] table order k lt stands = absurd stands
  solved_roots (h ∷ heads) table order k lt (inl e) =
      let end = fold (with_head_roots form) table (h ∷ heads) in
      subst (λ (j : ℕ). roots_numbered end j ≡ head_roots form end j) e (
      untouched_roots heads (with_head_roots form table h) h order.0 ∙ get_or-set_same table h (head_roots form table h) [] (omega (arith, lt, e))
      ∙ same_head_roots table end h (sym (keep_length (h ∷ heads) table h))
      (λ rule n of_head names. sym (untouched_roots (h ∷ heads) table (collection_number form.collections n) (names_none form h heads order rule n of_head names)))
      )
  solved_roots (h ∷ heads) table order k lt (inr stands) =
      solved_roots heads (with_head_roots form table h) order.2 k (omega (arith, lt, length-set table h (head_roots form table h))) stands

-- ---- before the first head

get_or-map_some : {X Y : Type 0} (f : X → Y) (xs : List X) (k : ℕ) (x : X) (d : Y) → slice_get xs k ≡ Some x → get_or (map f xs) k d ≡ f x
get_or-map_some f [] k x d e = cc
get_or-map_some f (y ∷ xs) zero x d e = let same : y ≡ x = cc in ap f same
get_or-map_some f (y ∷ xs) (suc k) x d e = get_or-map_some f xs k x d e

length-first_roots : (names : List Name) (c : Collection) → length (first_roots names c) ≡ length c.columns
length-first_roots names c = go (is_input c.kind)
  where
    go : (b : Bool) → length (cond b (attribute_roots names c.columns) (map (λ (column : Name). None) c.columns)) ≡ length c.columns
    go true = length-map c.columns (place_of names)
    go false = length-map c.columns (λ (column : Name). None)

module _ (names : List Name) (a : Accepted) (ordered : IsOrdered a.form.collections a.form.rules a.heads) where
  abbrev start : List Roots
  start = map (first_roots names) a.form.collections

  port_roots : HavePortRoots names a.form (roots_table names a)
  port_roots number c stands is =
      let lacks : ¬ Has number a.heads = λ m. derived-no_port a.form.collections number (ordered.none_else number m) (ap (option_map (λ (d : Collection). d.kind)) stands ∙ ap Some is) in
      untouched_roots a.form a.heads start number lacks ∙ get_or-map_some (first_roots names) a.form.collections number c [] stands ∙ rw is refl

  solves_roots : HaveHeadRoots a.form (roots_table names a)
  solves_roots head derived =
      let lt : head < length start = omega (arith, get-within a.form.collections head derived.collection derived.stands, length-map a.form.collections (first_roots names)) in
      solved_roots a.form a.heads start ordered.order head lt (ordered.all head derived)

  root_counts : HaveRootsOfColumns a.form (roots_table names a)
  root_counts number c stands = keep_length a.form a.heads start number ∙ ap length (get_or-map_some (first_roots names) a.form.collections number c [] stands) ∙ length-first_roots names c

  pub table_solves : AreRootsOf names a.form (roots_table names a)
  table_solves = record {
    all = length-table a.form a.heads start ∙ length-map a.form.collections (first_roots names);
    ports = port_roots;
    heads = solves_roots;
    counts = root_counts;
  }

-- ---- one table

past : (cs : List Collection) (k : ℕ) → kind_at cs k ≡ None → length cs ≤ k
past [] k none = omega arith
past (c ∷ cs) zero none = cc
past (c ∷ cs) (suc k) none = omega (arith, past cs k none)

module _ (names : List Name) (form : Form) (table other : List Roots) (t : AreRootsOf names form table) (o : AreRootsOf names form other) where
  agree_ports : (k : ℕ) → (kind_at form.collections k ≡ None) ⊎ (kind_at form.collections k ≡ Some Input) → roots_numbered table k ≡ roots_numbered other k
  agree_ports k (inl none) =
      let le : length form.collections ≤ k = past form.collections k none in
      get_or_past table k [] (omega (arith, le, t.all)) ∙ sym (get_or_past other k [] (omega (arith, le, o.all)))
  agree_ports k (inr port) =
      let c = get-kind form.collections k Input port in
      t.ports k c.0 c.1 c.2 ∙ sym (o.ports k c.0 c.1 c.2)

  agree_roots : (heads : List ℕ) → InOrder form.collections form.rules heads → ((k : ℕ) → ¬ Has k heads → roots_numbered table k ≡ roots_numbered other k) → ((k : ℕ) → Has k heads → IsDerived form.collections k) → (k : ℕ) → roots_numbered table k ≡ roots_numbered other k
  agree_roots [] order same derived k = same k (λ h. h)
  agree_roots (h ∷ heads) order same derived k = agree_roots heads order.2 further (λ j m. derived j (inr m)) k
    where
      head : roots_numbered table h ≡ roots_numbered other h
      head =
          let is = derived h (inl refl) in
          t.heads h is
          ∙ same_head_roots form table other h (t.counts h is.collection is.stands ∙ sym (o.counts h is.collection is.stands)) (λ rule n of_head names. same (collection_number form.collections n) (names_none form h heads order rule n of_head names))
          ∙ sym (o.heads h is)

      further : (j : ℕ) → ¬ Has j heads → roots_numbered table j ≡ roots_numbered other j
      further j lacks = elim (cases_eq h j) [
        | inl e ↦ subst (λ (i : ℕ). roots_numbered table i ≡ roots_numbered other i) e head
        | inr ne ↦ same j (λ stands. elim stands [ inl e ↦ ne e | inr m ↦ lacks m ])
      ]

pub one_table : (names : List Name) (a : Accepted) (table : List Roots) → IsOrdered a.form.collections a.form.rules a.heads → AreRootsOf names a.form table → table ≡ roots_table names a
one_table names a table ordered t =
    let cs = a.form.collections in
    let finished = roots_table names a in
    let o = table_solves names a ordered in
    let ports : (k : ℕ) → ¬ Has k a.heads → roots_numbered table k ≡ roots_numbered finished k = λ k lacks. elim (derived_or cs k) [
      | inl derived ↦ absurd (lacks (ordered.all k derived))
      | inr is ↦ agree_ports names a.form table finished t o k is
    ] in
    ext_get_or [] table finished (t.all ∙ sym o.all) (λ k lt. agree_roots names a.form table finished t o a.heads ordered.order ports ordered.none_else k)
