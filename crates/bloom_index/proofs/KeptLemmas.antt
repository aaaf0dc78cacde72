-- The tables after a step have rows of their widths, and what is table-only holds at the end of the step what it holds over them with nothing arriving.
use Rattle.std.proofs.Common.{◌≡◌, ℕ, Bool, true, false, not, List, [], ◌∷◌, ◌++◌, length, get_or, IsTrue, Option, None, Some, refl, ap, ◌∙◌, sym, subst, inl, inr}
use Rattle.std.specs.Prelude.{◌==◌}
use Rattle.std.specs.List.{fold}
use Rattle.std.specs.Option.{option_map_or}
use Rattle.std.specs.Str.{bytes_eq}
use Rattle.std.proofs.lemmas.Bool.{cases_Bool, true≢false, eq-eqb, eqb-true}
use Rattle.std.proofs.lemmas.Slice.Eq.{bytes_eq-Decides}
use Rattle.blz_value.specs.Members.{Has}
use Rattle.blz_value.specs.Record.{Row}
use Rattle.blz_value.specs.Sets.{set_of, IsRowSet}
use Rattle.blz_value.proofs.Membership.{All-of_member, all_member, Has-append_cases, Has-filter, Has-from_filter, Has-from_flat_map, Has-get_or}
use Rattle.blz_value.proofs.SetLaws.{sorted_set_of, Has-from_set_of}
use Rattle.bloom_eval.proofs.EmptyTables.{empties_wide}
use Rattle.bloom_forms.specs.declared.module.Kind.{Kind}
use Rattle.bloom_forms.specs.declared.module.Kind.TheVariants.{Input, Output, Table, Scratch}
use Rattle.bloom_forms.specs.declared.module.Collection.{Collection}
use Rattle.bloom_forms.specs.declared.program.Program.TheVariants.{Module}
use Rattle.bloom_forms.specs.Checks.{IsChecked}
use Rattle.bloom_forms.specs.Columns.{columns_of}
use Rattle.bloom_forms.specs.Equations.{Env, set_named, end_env, rules_of}
use Rattle.bloom_forms.specs.Form.{RuleForm, Accepted}
use Rattle.bloom_forms.specs.Heads.{names_of}
use Rattle.bloom_forms.specs.Kinds.{has_kind, is_readable, is_scratch, kind_at}
use Rattle.bloom_forms.specs.Lookup.{collection_number, kind_of, declared}
use Rattle.bloom_forms.specs.OverTables.{over, env_over, without_table_rules}
use Rattle.bloom_forms.specs.Program.{columns_of_kind, port_columns}
use Rattle.bloom_forms.specs.ProgramStep.{no_arrivals}
use Rattle.bloom_forms.specs.Query.{Name, Query}
use Rattle.bloom_forms.specs.Query.Query.{base}
use Rattle.bloom_forms.specs.Reads.{is_momentary}
use Rattle.bloom_forms.specs.Rows.{rows_of}
use Rattle.bloom_forms.specs.Step.{Sets, set_at, ended, rows_named, at_start, rules_at, union_of, ruled_at, with_head, at_end, tables_after}
use Rattle.bloom_forms.specs.Widths.{AreSetsOf}
use Rattle.bloom_forms.proofs.Collections.Numbers.{kind-number}
use Rattle.bloom_forms.proofs.Ends.Equated.{same_rows, end_solves, length-at_end, set-made}
use Rattle.bloom_forms.proofs.Ends.OverTables.{over_solved, end_over}
use Rattle.bloom_forms.proofs.Ends.Wide.{wide_rows}
use Rattle.bloom_forms.proofs.Reach.Quiet.{input_momentary, scratch_momentary, names_momentary}
use Rattle.bloom_forms.proofs.Reach.ReadsLemmas.{by_names}
use Rattle.bloom_eval.specs.Taken.{AreSetsOfAll}
use Rattle.bloom_eval.proofs.Widths.{columns_at, columns-number, wide_at, wide_named, set_wide, kinds_wide, are_begun}
use Rattle.bloom_index.specs.Code.Growth.{kind_grows}
use Rattle.bloom_index.specs.Code.Kept.{held_over}
use Rattle.bloom_index.specs.Code.Lasting.{lasts_at, rules_last, AreLasting}
use Rattle.bloom_index.proofs.NamedNumbers.{by_number}

module _ (a : Accepted) (checked : IsChecked a.form a.heads) where
  abbrev cs : List Collection
  cs = a.form.collections

  abbrev all_rules : List RuleForm
  all_rules = a.form.rules

  abbrev nothing : Sets
  nothing = no_arrivals (Module a)

  -- ---- widths

  held_wide : (sets : Sets) (h : ℕ) → AreSetsOfAll cs sets → (row : Row) → Has row (set_at sets h) → length row ≡ length (columns_at cs h)
  held_wide sets h all row m = All-of_member (λ (r : Row). length r ≡ length (columns_at cs h)) (set_at sets h) row (wide_at cs sets all h) m

  ruled_wide : (sets : Sets) (h : ℕ) → AreSetsOfAll cs sets → (row : Row) → Has row (ruled_at a.form sets h) → length row ≡ length (columns_at cs h)
  ruled_wide sets h all row m =
      let env = rows_named cs sets in
      let of_rule = Has-from_flat_map (λ (rule : RuleForm). rows_of (declared cs) env rule.1) row (rules_at cs all_rules h) m in
      let rule = of_rule.0 in
      let own = Has-from_filter (λ (r : RuleForm). collection_number cs r.0 == h) rule all_rules of_rule.1 in
      All-of_member (λ (r : Row). length r ≡ length (columns_of (declared cs) rule.1)) (rows_of (declared cs) env rule.1) row (wide_rows (declared cs) env (wide_named cs sets all) rule.1) of_rule.2
      ∙ (checked.rules rule own.0).width
      ∙ ap length (sym (columns-number cs rule.0) ∙ ap (columns_at cs) (eqb-true (collection_number cs rule.0) h own.1))

  ended_wide : (sets : Sets) (h : ℕ) → AreSetsOfAll cs sets → (o : Option Kind) (row : Row) → Has row (ended o (set_at sets h) (set_at sets h) (ruled_at a.form sets h)) → length row ≡ length (columns_at cs h)
  ended_wide sets h all None row m = absurd m
  ended_wide sets h all (Some Input) row m = held_wide sets h all row m
  ended_wide sets h all (Some Output) row m = ruled_wide sets h all row (Has-from_set_of row (ruled_at a.form sets h) m)
  ended_wide sets h all (Some Scratch) row m = ruled_wide sets h all row (Has-from_set_of row (ruled_at a.form sets h) m)
  ended_wide sets h all (Some Table) row m = elim (Has-append_cases row (set_at sets h) (ruled_at a.form sets h) (Has-from_set_of row (set_at sets h ++ ruled_at a.form sets h) m)) [
    | inl old ↦ held_wide sets h all row old
    | inr new ↦ ruled_wide sets h all row new
  ]

  heads_wide : (heads : List ℕ) (sets : Sets) → AreSetsOfAll cs sets → AreSetsOfAll cs (fold (with_head a.form) sets heads)
  heads_wide [] sets all = all
  heads_wide (h ∷ heads) sets all =
      let rows = ended (kind_at cs h) (set_at sets h) (set_at sets h) (ruled_at a.form sets h) in
      heads_wide heads (with_head a.form sets h) (set_wide cs sets h rows all (λ k d lt. ended_wide sets h all (kind_at cs h) (get_or rows k d) (Has-get_or rows k d lt)))

  -- what the collections hold at the end of a step has their widths
  pub end_wide : (tables now : Sets) → AreSetsOf (columns_of_kind Table cs) tables → AreSetsOf (columns_of_kind Input cs) now → AreSetsOfAll cs (at_end a tables now)
  end_wide tables now kept ports = heads_wide a.heads (at_start cs tables now) (are_begun cs tables now kept ports).wide

  pub after_wide : (tables now : Sets) → AreSetsOf (columns_of_kind Table cs) tables → AreSetsOf (columns_of_kind Input cs) now → AreSetsOf (columns_of_kind Table cs) (tables_after a tables now)
  after_wide tables now kept ports = kinds_wide Table cs (at_end a tables now) (end_wide tables now kept ports)

  -- also with nothing arriving
  pub quiet_wide : (tables : Sets) → AreSetsOf (columns_of_kind Table cs) tables → AreSetsOfAll cs (at_end a tables nothing)
  quiet_wide tables kept = end_wide tables nothing kept (empties_wide (port_columns (Module a)))

  -- ---- tables that stand still

  pub still_ends : (tables : Sets) → tables_after a tables (no_arrivals (Module a)) ≡ tables → (k : ℕ) → set_at (at_end a tables (no_arrivals (Module a))) k ≡ set_at (held_over a tables) k
  still_ends tables still k =
      by_number cs checked.distinct (at_end a tables nothing) (held_over a tables) (length-at_end a tables nothing) (length-at_end (without_table_rules a) tables nothing) k
      (λ n is. end_over a checked.ordered tables nothing n ∙ ap (λ (after : Sets). env_over a after nothing n) still)

  -- ---- what doesn't depend on what arrives

  table_only : (q : Query) → not (is_momentary cs all_rules q) ≡ true → is_momentary cs all_rules q ≡ false
  table_only q only = elim (cases_Bool (is_momentary cs all_rules q)) [ inl t ↦ absurd (true≢false (sym only ∙ ap not t)) | inr f ↦ f ]

  quiet_name : (q : Query) (m : Name) → Has m (names_of q) → is_momentary cs all_rules q ≡ false → is_momentary cs all_rules (base m) ≡ false
  quiet_name q m h quiet = elim (cases_Bool (is_momentary cs all_rules (base m))) [
    | inl t ↦ absurd (true≢false (sym (names_momentary cs all_rules checked.few_collections q m h t) ∙ quiet))
    | inr f ↦ f
  ]

  own_rule : (n : Name) (rule : RuleForm) → Has rule (rules_of all_rules n) → Has rule all_rules × (rule.0 ≡ n)
  own_rule n rule h = let m = Has-from_filter (λ (r : RuleForm). bytes_eq r.0 n) rule all_rules h in (m.0, (bytes_eq-Decides rule.0 n).0 m.1)

  numbered_rule : (n : Name) (rule : RuleForm) → Has rule (rules_of all_rules n) → Has rule (rules_at cs all_rules (collection_number cs n))
  numbered_rule n rule h =
      let own = own_rule n rule h in
      Has-filter (λ (r : RuleForm). collection_number cs r.0 == collection_number cs n) rule all_rules own.0 (eq-eqb (collection_number cs rule.0) (collection_number cs n) (ap (collection_number cs) own.1))

  module _ (kept now : Sets) where
    abbrev after : Sets
    after = tables_after a kept now

    abbrev arriving : Env
    arriving = env_over a after now

    abbrev standing : Env
    standing = env_over a after nothing

    sorted : (n : Name) → kind_of cs n ≡ Some Table → IsRowSet (set_named Table cs after n)
    sorted n is =
        let given = union_of (declared cs) (end_env a kept now) (rules_of all_rules n) in
        let made : end_env a kept now n ≡ set_of (set_named Table cs kept n ++ given) = end_solves a kept now checked.ordered n ∙ ap (λ (o : Option Kind). ended o (set_named Table cs kept n) (set_named Input cs now n) given) is in
        subst IsRowSet (sym (set-made Table a kept now n is ∙ made)) (sorted_set_of (set_named Table cs kept n ++ given))

    over_by : (coming : Sets) (n : Name) (o : Option Kind) → kind_of cs n ≡ o → env_over a after coming n ≡ over o (set_named Table cs after n) (set_named Input cs coming n) (union_of (declared cs) (env_over a after coming) (rules_of all_rules n))
    over_by coming n o is = over_solved a checked.ordered after coming sorted n ∙ ap (λ (p : Option Kind). over p (set_named Table cs after n) (set_named Input cs coming n) (union_of (declared cs) (env_over a after coming) (rules_of all_rules n))) is

    same_table : (n : Name) → kind_of cs n ≡ Some Table → arriving n ≡ standing n
    same_table n is = over_by now n (Some Table) is ∙ sym (over_by nothing n (Some Table) is)

    -- a name that a rule may read, and that is not momentary, holds the same
    abbrev IsSame : Name → Type 0
    IsSame n = has_kind is_readable cs n ≡ true → is_momentary cs all_rules (base n) ≡ false → arriving n ≡ standing n

    quiet_rule : (rule : RuleForm) → Has rule all_rules → is_momentary cs all_rules rule.1 ≡ false → ((m : Name) → Has m (names_of rule.1) → IsSame m) → rows_of (declared cs) arriving rule.1 ≡ rows_of (declared cs) standing rule.1
    quiet_rule rule stands quiet each =
        same_rows (declared cs) arriving standing rule.1 (λ m h. each m h (all_member (has_kind is_readable cs) (names_of rule.1) m (checked.rules rule stands).known h) (quiet_name rule.1 m h quiet))

    quiet_union : (list : List RuleForm) → ((rule : RuleForm) → Has rule list → rows_of (declared cs) arriving rule.1 ≡ rows_of (declared cs) standing rule.1) → union_of (declared cs) arriving list ≡ union_of (declared cs) standing list
    quiet_union [] each = refl
    quiet_union (rule ∷ list) each = λ i. each rule (inl refl) i ++ quiet_union list (λ r h. each r (inr h)) i

    scratch_quiet : (n : Name) → kind_of cs n ≡ Some Scratch → is_momentary cs all_rules (base n) ≡ false → (rule : RuleForm) → Has rule (rules_of all_rules n) → is_momentary cs all_rules rule.1 ≡ false
    scratch_quiet n is quiet rule h =
        let own = own_rule n rule h in
        elim (cases_Bool (is_momentary cs all_rules rule.1)) [
          | inl t ↦ absurd (true≢false (sym (scratch_momentary cs all_rules checked.few_collections n rule own.0 own.1 (ap (λ (o : Option Kind). option_map_or is_scratch o false) is) t) ∙ quiet))
          | inr f ↦ f
        ]

    same_step : (n : Name) → ((rule : RuleForm) (m : Name) → Has rule (rules_at cs all_rules (collection_number cs n)) → Has m (names_of rule.1) → IsSame m) → IsSame n
    same_step n below readable quiet = go (kind_of cs n) refl readable
      where
        go : (o : Option Kind) → kind_of cs n ≡ o → option_map_or is_readable o false ≡ true → arriving n ≡ standing n
        go None is known = absurd (true≢false (sym known))
        go (Some Input) is known = absurd (true≢false (sym (input_momentary cs all_rules checked.few_collections n is) ∙ quiet))
        go (Some Output) is known = absurd (true≢false (sym known))
        go (Some Table) is known = same_table n is
        go (Some Scratch) is known =
            over_by now n (Some Scratch) is
            ∙ ap set_of (quiet_union (rules_of all_rules n) (λ rule h. quiet_rule rule (own_rule n rule h).0 (scratch_quiet n is quiet rule h) (λ m names. below rule m (numbered_rule n rule h) names)))
            ∙ sym (over_by nothing n (Some Scratch) is)

    same_name : (n : Name) → IsSame n
    same_name = by_names a checked IsSame same_step

    -- a collection that is table-only holds the same
    same_lasting : (n : Name) → kind_grows (kind_of cs n) (rules_last a.form (collection_number cs n)) ≡ true → arriving n ≡ standing n
    same_lasting n last = go (kind_of cs n) refl last
      where
        ruled : rules_last a.form (collection_number cs n) ≡ true → union_of (declared cs) arriving (rules_of all_rules n) ≡ union_of (declared cs) standing (rules_of all_rules n)
        ruled all = quiet_union (rules_of all_rules n) (λ rule h.
            quiet_rule rule (own_rule n rule h).0
            (table_only rule.1 (all_member (λ (r : RuleForm). not (is_momentary cs all_rules r.1)) (rules_at cs all_rules (collection_number cs n)) rule all (numbered_rule n rule h)))
            (λ m names. same_name m))

        go : (o : Option Kind) → kind_of cs n ≡ o → kind_grows o (rules_last a.form (collection_number cs n)) ≡ true → arriving n ≡ standing n
        go None is t = absurd (true≢false (sym t))
        go (Some Input) is t = absurd (true≢false (sym t))
        go (Some Table) is t = same_table n is
        go (Some Output) is t = over_by now n (Some Output) is ∙ ap set_of (ruled t) ∙ sym (over_by nothing n (Some Output) is)
        go (Some Scratch) is t = over_by now n (Some Scratch) is ∙ ap set_of (ruled t) ∙ sym (over_by nothing n (Some Scratch) is)

  pub after_ends : (lasting : List Bool) → AreLasting a lasting → (tables now : Sets) (k : ℕ) → IsTrue (lasts_at lasting k) → set_at (at_end a tables now) k ≡ set_at (held_over a (tables_after a tables now)) k
  after_ends lasting are tables now k t =
      by_number cs checked.distinct (at_end a tables now) (held_over a (tables_after a tables now)) (length-at_end a tables now) (length-at_end (without_table_rules a) (tables_after a tables now) nothing) k (λ n is.
      let last : kind_grows (kind_of cs n) (rules_last a.form (collection_number cs n)) ≡ true = (
      ap (λ (o : Option Kind). kind_grows o (rules_last a.form (collection_number cs n))) (sym (kind-number cs n))
      ∙ ap (λ (j : ℕ). kind_grows (kind_at cs j) (rules_last a.form j)) is
      ∙ sym (are.each k)
      ∙ t
      ) in
      end_over a checked.ordered tables now n ∙ same_lasting tables now n last)
