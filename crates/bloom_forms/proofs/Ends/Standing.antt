-- After a step of a checked module the next one, with nothing arriving, leaves the tables as they are and puts out no other row.
-- What the collections then hold is known: ports and momentary scratches nothing, tables and other scratches what they held at the end of the step.
-- This solves the equations of the next step, so it is what that step makes.
use Rattle.std.proofs.Common.{◌≡◌, ◌++◌, ℕ, Bool, true, false, cond, Option, None, Some, List, [], ◌∷◌, refl, ap, ◌∙◌, sym, subst, inl, inr}
use Rattle.std.specs.Prelude.{◌==◌}
use Rattle.std.specs.Option.{option_map_or}
use Rattle.std.specs.List.{list_all}
use Rattle.std.specs.Str.{bytes_eq}
use Rattle.std.proofs.lemmas.Bool.{cases_Bool, true≢false}
use Rattle.std.proofs.lemmas.List.Sums.{AllPass-from_list_all}
use Rattle.std.proofs.lemmas.Slice.Eq.{bytes_eq-Decides}
use Rattle.blz_value.specs.Members.{Has, IsWithin}
use Rattle.blz_value.specs.Record.{Row}
use Rattle.blz_value.specs.Sets.{set_of, IsRowSet}
use Rattle.blz_value.proofs.Membership.{All-of_member, Has-append_right, Has-from_filter, Has-flat_map, Has-from_flat_map}
use Rattle.blz_value.proofs.SetLaws.{sorted_set_of, Has-set_of, Has-from_set_of}
use Rattle.bloom_forms.specs.declared.module.Kind.{Kind}
use Rattle.bloom_forms.specs.declared.module.Kind.TheVariants.{Input, Output, Table, Scratch}
use Rattle.bloom_forms.specs.declared.module.Collection.{Collection}
use Rattle.bloom_forms.specs.declared.program.Program.TheVariants.{Module}
use Rattle.bloom_forms.specs.Checks.{IsChecked}
use Rattle.bloom_forms.specs.Equations.{Env, set_named, end_env, rules_of, Solves}
use Rattle.bloom_forms.specs.Form.{RuleForm, Accepted}
use Rattle.bloom_forms.specs.Heads.{names_of}
use Rattle.bloom_forms.specs.Kinds.{has_kind, is_readable, is_scratch, kind_at, place_in_kind}
use Rattle.bloom_forms.specs.Laws.{StandsStill}
use Rattle.bloom_forms.specs.Lookup.{collection_number, kind_of, declared}
use Rattle.bloom_forms.specs.Program.{columns_of_kind}
use Rattle.bloom_forms.specs.ProgramStep.{no_arrivals, empty_tables}
use Rattle.bloom_forms.specs.Query.{Name}
use Rattle.bloom_forms.specs.Query.Query.{base}
use Rattle.bloom_forms.specs.Reads.{is_momentary}
use Rattle.bloom_forms.specs.Rows.{rows_of}
use Rattle.bloom_forms.specs.Step.{Sets, set_at, ended, rules_at, union_of, ruled_at, at_end, tables_after}
use Rattle.bloom_forms.proofs.Ends.Equated.{same_rows, same_union, ends, end_solves, one_solution, length-at_end, set-made}
use Rattle.bloom_forms.proofs.Collections.Numbers.{derived_or, set-of_kind}
use Rattle.bloom_forms.proofs.Reach.Quiet.{empty_rows, input_momentary, scratch_momentary, names_momentary, table_later, rule_momentary, momentary_none}
use Rattle.bloom_forms.proofs.Ends.SameEnds.{same_kinds, kinds_by, absorbs, none_at}

all_of : {X : Type 0} (p : X → Bool) (xs : List X) (x : X) → list_all p xs ≡ true → Has x xs → p x ≡ true
all_of p xs x all h = All-of_member (λ y. p y ≡ true) xs x (AllPass-from_list_all p xs all) h

-- no rows of rules that have none
none_of_rules : (columns : Name → List Name) (env : Env) (rules : List RuleForm) → ((r : RuleForm) → Has r rules → rows_of columns env r.1 ≡ []) → union_of columns env rules ≡ []
none_of_rules columns env [] none = refl
none_of_rules columns env (r ∷ rules) none = ap (λ (rows : List Row). rows ++ union_of columns env rules) (none r (inl refl)) ∙ none_of_rules columns env rules (λ q h. none q (inr h))

-- rules that give no more give no more together
within_rules : (columns : Name → List Name) (env other : Env) (rules : List RuleForm) → ((r : RuleForm) → Has r rules → IsWithin (rows_of columns env r.1) (rows_of columns other r.1)) → IsWithin (union_of columns env rules) (union_of columns other rules)
within_rules columns env other rules each row h =
    let m = Has-from_flat_map (λ (rule : RuleForm). rows_of columns env rule.1) row rules h in
    Has-flat_map (λ (rule : RuleForm). rows_of columns other rule.1) m.0 row rules m.1 (each m.0 m.1 row m.2)

same_rules : (columns : Name → List Name) (env other : Env) (rules : List RuleForm) → ((r : RuleForm) → Has r rules → rows_of columns env r.1 ≡ rows_of columns other r.1) → union_of columns env rules ≡ union_of columns other rules
same_rules columns env other [] same = refl
same_rules columns env other (r ∷ rules) same = λ i. same r (inl refl) i ++ same_rules columns env other rules (λ q h. same q (inr h)) i

-- what a collection holds while nothing arrives, where a momentary scratch holds nothing
abbrev held : Option Kind → (momentary : Bool) → (end ruled : List Row) → List Row
held None momentary end ruled = []
held (Some Input) momentary end ruled = []
held (Some Table) momentary end ruled = end
held (Some Scratch) momentary end ruled = cond momentary [] end
held (Some Output) momentary end ruled = ruled

unruled : (o : Option Kind) (momentary : Bool) (end ruled other : List Row) → option_map_or is_readable o false ≡ true → held o momentary end ruled ≡ held o momentary end other
unruled None momentary end ruled other readable = refl
unruled (Some Input) momentary end ruled other readable = refl
unruled (Some Table) momentary end ruled other readable = refl
unruled (Some Scratch) momentary end ruled other readable = refl
unruled (Some Output) momentary end ruled other readable = absurd (true≢false (sym readable))

module _ (a : Accepted) (checked : IsChecked a.form a.heads) (kept now : Sets) where
  abbrev cs : List Collection
  cs = a.form.collections

  abbrev rules : List RuleForm
  rules = a.form.rules

  abbrev columns : Name → List Name
  columns = declared cs

  abbrev first : Env
  first = end_env a kept now

  abbrev after : Sets
  after = tables_after a kept now

  abbrev nothing : Sets
  nothing = no_arrivals (Module a)

  abbrev is_now : Name → Bool
  is_now n = is_momentary cs rules (base n)

  -- what is held before outputs get their rows, and with these
  abbrev before : Env
  before n = held (kind_of cs n) (is_now n) (first n) []

  abbrev still : Env
  still n = held (kind_of cs n) (is_now n) (first n) (set_of (union_of columns before (rules_of rules n)))

  own_rules : (n : Name) (r : RuleForm) → Has r (rules_of rules n) → Has r rules × (r.0 ≡ n)
  own_rules n r h = let m = Has-from_filter (λ (rule : RuleForm). bytes_eq rule.0 n) r rules h in (m.0, (bytes_eq-Decides r.0 n).0 m.1)

  readable : (r : RuleForm) → Has r rules → (n : Name) → Has n (names_of r.1) → has_kind is_readable cs n ≡ true
  readable r stands n h = all_of (has_kind is_readable cs) (names_of r.1) n (checked.rules r stands).known h

  read_same : (r : RuleForm) → Has r rules → (n : Name) → Has n (names_of r.1) → still n ≡ before n
  read_same r stands n h = unruled (kind_of cs n) (is_now n) (first n) (set_of (union_of columns before (rules_of rules n))) [] (readable r stands n h)

  -- a momentary rule gives nothing
  none_now : (n : Name) → is_now n ≡ true → before n ≡ []
  none_now n t = go (kind_of cs n) refl
    where
      go : (o : Option Kind) → kind_of cs n ≡ o → held o (is_now n) (first n) [] ≡ []
      go None is = refl
      go (Some Input) is = refl
      go (Some Table) is = absurd (table_later cs rules checked.few_collections n is t)
      go (Some Scratch) is = ap (λ (b : Bool). cond b [] (first n)) t
      go (Some Output) is = refl

  rule_none : (r : RuleForm) → Has r rules → is_momentary cs rules r.1 ≡ true → rows_of columns before r.1 ≡ []
  rule_none r stands t = momentary_none cs rules checked.few_collections columns before r.1 (checked.rules r stands).unmixed (λ n h. none_now n) t

  -- any other rule gives what it gave
  later_same : (r : RuleForm) → Has r rules → is_momentary cs rules r.1 ≡ false → (n : Name) → Has n (names_of r.1) → before n ≡ first n
  later_same r stands f n h = go (kind_of cs n) refl (readable r stands n h)
    where
      never : is_now n ≡ true → ⊥
      never t = true≢false (sym (names_momentary cs rules checked.few_collections r.1 n h t) ∙ f)

      go : (o : Option Kind) → kind_of cs n ≡ o → option_map_or is_readable o false ≡ true → held o (is_now n) (first n) [] ≡ first n
      go None is known = absurd (true≢false (sym known))
      go (Some Input) is known = absurd (never (input_momentary cs rules checked.few_collections n is))
      go (Some Table) is known = refl
      go (Some Scratch) is known = elim (cases_Bool (is_now n)) [ inl t ↦ absurd (never t) | inr f ↦ ap (λ (b : Bool). cond b [] (first n)) f ]
      go (Some Output) is known = absurd (true≢false (sym known))

  rule_same : (r : RuleForm) → Has r rules → is_momentary cs rules r.1 ≡ false → rows_of columns before r.1 ≡ rows_of columns first r.1
  rule_same r stands f = same_rows columns before first r.1 (later_same r stands f)

  rule_within : (r : RuleForm) → Has r rules → IsWithin (rows_of columns before r.1) (rows_of columns first r.1)
  rule_within r stands row h = elim (cases_Bool (is_momentary cs rules r.1)) [
    | inl t ↦ absurd (subst (λ (rows : List Row). Has row rows) (rule_none r stands t) h)
    | inr f ↦ subst (λ (rows : List Row). Has row rows) (rule_same r stands f) h
  ]

  -- ---- the equations of the next step

  first_is : (n : Name) (o : Option Kind) → kind_of cs n ≡ o → first n ≡ ended o (set_named Table cs kept n) (set_named Input cs now n) (union_of columns first (rules_of rules n))
  first_is n o is = end_solves a kept now checked.ordered n ∙ ap (λ (p : Option Kind). ended p (set_named Table cs kept n) (set_named Input cs now n) (union_of columns first (rules_of rules n))) is

  table_still : (n : Name) → kind_of cs n ≡ Some Table → first n ≡ set_of (set_named Table cs after n ++ union_of columns before (rules_of rules n))
  table_still n is =
      let old = set_named Table cs kept n in
      let given = union_of columns first (rules_of rules n) in
      let made = first_is n (Some Table) is in
      let inside : IsWithin (union_of columns before (rules_of rules n)) (first n) = λ row h.
      let there = within_rules columns before first (rules_of rules n) (λ r m. rule_within r (own_rules n r m).0) row h in
      subst (λ (rows : List Row). Has row rows) (sym made) (Has-set_of row (old ++ given) (Has-append_right row old given there)) in
      absorbs (first n) (union_of columns before (rules_of rules n)) (subst IsRowSet (sym made) (sorted_set_of (old ++ given))) inside
      ∙ ap (λ (rows : List Row). set_of (rows ++ union_of columns before (rules_of rules n))) (sym (set-made Table a kept now n is))

  scratch_still : (n : Name) → kind_of cs n ≡ Some Scratch → cond (is_now n) [] (first n) ≡ set_of (union_of columns before (rules_of rules n))
  scratch_still n is = elim (cases_Bool (is_now n)) [
    | inl t ↦
        ap (λ (b : Bool). cond b [] (first n)) t
        ∙ sym (ap set_of (none_of_rules columns before (rules_of rules n) (λ r m.
        let own = own_rules n r m in
        rule_none r own.0 (rule_momentary cs rules checked.few_collections n r is own.1 (checked.rules r own.0).pure t))))
    | inr f ↦
        ap (λ (b : Bool). cond b [] (first n)) f
        ∙ first_is n (Some Scratch) is
        ∙ ap set_of (sym (same_rules columns before first (rules_of rules n) (λ r m. rule_same r (own_rules n r m).0 (later n is r (own_rules n r m) f))))
  ]
    where
      later : (n : Name) → kind_of cs n ≡ Some Scratch → (r : RuleForm) → Has r rules × (r.0 ≡ n) → is_now n ≡ false → is_momentary cs rules r.1 ≡ false
      later n is r own f = elim (cases_Bool (is_momentary cs rules r.1)) [
        | inl t ↦ absurd (true≢false (sym (scratch_momentary cs rules checked.few_collections n r own.0 own.1 (ap (λ (o : Option Kind). option_map_or is_scratch o false) is) t) ∙ f))
        | inr g ↦ g
      ]

  solves : Solves a.form (set_named Table cs after) (set_named Input cs nothing) still
  solves n =
      go (kind_of cs n) refl
      ∙ ap (ended (kind_of cs n) (set_named Table cs after n) (set_named Input cs nothing n)) (sym (same_union columns still before (rules_of rules n) (λ r m. read_same r (own_rules n r m).0)))
    where
      go : (o : Option Kind) → kind_of cs n ≡ o → held o (is_now n) (first n) (set_of (union_of columns before (rules_of rules n))) ≡ ended o (set_named Table cs after n) (set_named Input cs nothing n) (union_of columns before (rules_of rules n))
      go None is = refl
      go (Some Input) is = sym (none_at (columns_of_kind Input cs) (place_in_kind Input cs (collection_number cs n)))
      go (Some Table) is = table_still n is
      go (Some Scratch) is = scratch_still n is
      go (Some Output) is = refl

  abbrev next : Env
  next = end_env a after nothing

  next_is : (n : Name) → next n ≡ still n
  next_is = one_solution a (set_named Table cs after) (set_named Input cs nothing) next still checked.ordered (end_solves a after nothing checked.ordered) solves

  next_within : (r : RuleForm) → Has r rules → IsWithin (rows_of columns next r.1) (rows_of columns first r.1)
  next_within r stands row h =
      rule_within r stands row (subst (λ (rows : List Row). Has row rows) (same_rows columns next before r.1 (λ n m. next_is n ∙ read_same r stands n m)) h)

  -- ---- the collections by their numbers

  rule_stands : (k : ℕ) (r : RuleForm) → Has r (rules_at cs rules k) → Has r rules
  rule_stands k r h = (Has-from_filter (λ (rule : RuleForm). collection_number cs rule.0 == k) r rules h).0

  ruled_within : (k : ℕ) → IsWithin (ruled_at a.form (at_end a after nothing) k) (ruled_at a.form (at_end a kept now) k)
  ruled_within k = within_rules columns next first (rules_at cs rules k) (λ r m. next_within r (rule_stands k r m))

  by_kind : (old coming : Sets) (k : ℕ) (o : Option Kind) → kind_at cs k ≡ o → set_at (at_end a old coming) k ≡ ended o (set_at old (place_in_kind Table cs k)) (set_at coming (place_in_kind Input cs k)) (ruled_at a.form (at_end a old coming) k)
  by_kind old coming k o is = ends a old coming checked.ordered k (derived_or cs k) ∙ ap (λ (p : Option Kind). ended p (set_at old (place_in_kind Table cs k)) (set_at coming (place_in_kind Input cs k)) (ruled_at a.form (at_end a old coming) k)) is

  table_same : (k : ℕ) → kind_at cs k ≡ Some Table → set_at (at_end a after nothing) k ≡ set_at (at_end a kept now) k
  table_same k is =
      let old = set_at kept (place_in_kind Table cs k) in
      let given = ruled_at a.form (at_end a kept now) k in
      let made = by_kind kept now k (Some Table) is in
      let inside : IsWithin (ruled_at a.form (at_end a after nothing) k) (set_at (at_end a kept now) k) = λ row h.
      subst (λ (rows : List Row). Has row rows) (sym made) (Has-set_of row (old ++ given) (Has-append_right row old given (ruled_within k row h))) in
      by_kind after nothing k (Some Table) is
      ∙ ap (λ (rows : List Row). set_of (rows ++ ruled_at a.form (at_end a after nothing) k)) (set-of_kind Table cs (at_end a kept now) k (length-at_end a kept now) is)
      ∙ sym (absorbs (set_at (at_end a kept now) k) (ruled_at a.form (at_end a after nothing) k) (subst IsRowSet (sym made) (sorted_set_of (old ++ given))) inside)

  output_within : (k : ℕ) → kind_at cs k ≡ Some Output → IsWithin (set_at (at_end a after nothing) k) (set_at (at_end a kept now) k)
  output_within k is row h =
      subst (λ (rows : List Row). Has row rows) (sym (by_kind kept now k (Some Output) is))
      (Has-set_of row (ruled_at a.form (at_end a kept now) k) (ruled_within k row (Has-from_set_of row (ruled_at a.form (at_end a after nothing) k) (subst (λ (rows : List Row). Has row rows) (by_kind after nothing k (Some Output) is) h))))

  pub tables_stand : tables_after a after nothing ≡ after
  tables_stand = same_kinds Table cs (at_end a after nothing) (at_end a kept now) (length-at_end a after nothing) (length-at_end a kept now) table_same

module _ (a : Accepted) (checked : IsChecked a.form a.heads) where
  abbrev empty : Sets
  empty = empty_tables (Module a)

  abbrev none : Sets
  none = no_arrivals (Module a)

  abbrev collections : List Collection
  collections = a.form.collections

  empty_solves : Solves a.form (set_named Table collections empty) (set_named Input collections none) (λ n. [])
  empty_solves n = go (kind_of collections n)
    where
      table : set_named Table collections empty n ≡ []
      table = none_at (columns_of_kind Table collections) (place_in_kind Table collections (collection_number collections n))

      port : set_named Input collections none n ≡ []
      port = none_at (columns_of_kind Input collections) (place_in_kind Input collections (collection_number collections n))

      ruled : union_of (declared collections) (λ m. []) (rules_of a.form.rules n) ≡ []
      ruled = none_of_rules (declared collections) (λ m. []) (rules_of a.form.rules n) (λ r m. empty_rows (declared collections) (λ q. []) (λ q. refl) r.1)

      go : (o : Option Kind) → [] ≡ ended o (set_named Table collections empty n) (set_named Input collections none n) (union_of (declared collections) (λ m. []) (rules_of a.form.rules n))
      go None = refl
      go (Some Input) = sym port
      go (Some Output) = sym (ap set_of ruled)
      go (Some Scratch) = sym (ap set_of ruled)
      go (Some Table) = sym (λ i. set_of (table i ++ ruled i))

  empty_env : (n : Name) → end_env a empty none n ≡ []
  empty_env = one_solution a (set_named Table collections empty) (set_named Input collections none) (end_env a empty none) (λ n. []) checked.ordered (end_solves a empty none checked.ordered) empty_solves

  empty_output : (k : ℕ) → kind_at collections k ≡ Some Output → set_at (at_end a empty none) k ≡ []
  empty_output k is =
      by_kind a checked empty none empty none k (Some Output) is
      ∙ ap set_of (none_of_rules (declared collections) (end_env a empty none) (rules_at collections a.form.rules k) (λ r m. empty_rows (declared collections) (end_env a empty none) empty_env r.1))

  -- a checked module stands still
  pub module_stands : StandsStill (Module a)
  module_stands = record {
    tables = λ kept now. tables_stand a checked kept now;
    outputs = λ kept now. kinds_by (λ (rows other : List Row). IsWithin rows other) (λ row h. h) Output collections (at_end a (tables_after a kept now) none) (at_end a kept now) (length-at_end a (tables_after a kept now) none) (length-at_end a kept now) (output_within a checked kept now);
    empty = kinds_by (λ (rows other : List Row). rows ≡ []) refl Output collections (at_end a empty none) (at_end a empty none) (length-at_end a empty none) (length-at_end a empty none) empty_output;
  }
