-- A set of collections that is closed under what rules read has nothing, the same, or no new rows in a step, where its ports and tables have.
use Rattle.std.proofs.Common.{◌≡◌, ◌++◌, ℕ, true, Some, List, [], ◌∷◌, refl, ◌∙◌, sym, subst, inl, inr}
use Rattle.std.proofs.lemmas.Bool.{cases_Bool, true≢false}
use Rattle.blz_value.specs.Members.{Has, HaveEqualMembers}
use Rattle.blz_value.specs.Record.{Row}
use Rattle.blz_value.proofs.Membership.{append_within}
use Rattle.blz_value.proofs.RowSets.{same_set_of}
use Rattle.blz_value.proofs.SetLaws.{Has-from_set_of, same_row_sets}
use Rattle.blz_value.specs.Bits.{bit_of, meets}
use Rattle.blz_value.specs.Closure.{within, IsClosed, IsLeastClosed}
use Rattle.blz_value.proofs.Least.{closure-least}
use Rattle.blz_value.proofs.Members.{in-within, meets-within}
use Rattle.blz_value.proofs.Reached.{closed-map}
use Rattle.bloom_forms.specs.declared.module.Kind.TheVariants.{Input, Table}
use Rattle.bloom_forms.specs.declared.module.Collection.{Collection}
use Rattle.bloom_forms.specs.declared.program.Program.TheVariants.{Module}
use Rattle.bloom_forms.specs.Checks.{IsChecked}
use Rattle.bloom_forms.specs.Equations.{Env, end_env}
use Rattle.bloom_forms.specs.Form.{RuleForm, Accepted}
use Rattle.bloom_forms.specs.Heads.{names_of}
use Rattle.bloom_forms.specs.Kinds.{kind_at, place_in_kind}
use Rattle.bloom_forms.specs.Lookup.{declared}
use Rattle.bloom_forms.specs.ProgramStep.{tables_after_step}
use Rattle.bloom_forms.specs.Query.{Name}
use Rattle.bloom_forms.specs.Reads.{named, arrow, arrows, cone}
use Rattle.bloom_forms.specs.Step.{Sets, set_at, union_of}
use Rattle.bloom_forms.proofs.Faults.Ordering.{in_named}
use Rattle.bloom_forms.proofs.Reach.ByCones.{IsBelow, read_below, by_cones}
use Rattle.bloom_forms.proofs.Ends.EquationsLemmas.{FromRule, is_end, from_union, in_union, port_end, table_end, scratch_end, from_table, table_kept, table_ruled, next_table}
use Rattle.bloom_forms.proofs.Reach.MomentaryLemmas.{now, port_now}
use Rattle.bloom_forms.proofs.Reach.ReadsLemmas.{number_of, small_number, rules_named, rule_stands, by_names, IsRead, reads, IsIn}
use Rattle.bloom_forms.proofs.Ends.StepsLemmas.{table_rows}
use Rattle.bloom_forms.specs.Runs.{query_rows}
use Rattle.bloom_forms.proofs.Rows.Linear.{IsLinear}
use Rattle.bloom_forms.proofs.Rows.Through.{has_source, rule_linear}

-- How the proof goes.
-- Take a set of collections that has, with a head, all that the head's rules name.
-- Go through the names of the set by induction over cones.
-- Where its ports and its tables are empty, each rule has no row, so the next tables are empty.
-- Where they are the same in two steps, each rule has the same rows.
-- Where nothing arrives and the tables are those of the end of a step, a further step adds nothing.

-- a list without members is empty
pub none_is : (rows : List Row) → ((row : Row) → Has row rows → ⊥) → rows ≡ []
none_is [] none = refl
none_is (row ∷ rows) none = absurd (none row (inl refl))

module _ (a : Accepted) (checked : IsChecked a.form a.heads) (set : ℕ) (closed : IsClosed (arrows a.form.collections a.form.rules) set) where
  abbrev cs : List Collection
  cs = a.form.collections

  abbrev columns : Name → List Name
  columns = declared cs

  -- the collection of the name is in the set
  abbrev pub IsInSet : Name → Type 0
  IsInSet n = meets (bit_of (number_of a checked n)) set ≡ true

  -- the rule reads only what is in the set
  abbrev pub ReadsSet : RuleForm → Type 0
  ReadsSet rule = within (cone cs a.form.rules rule.1) set ≡ true

  pub head_reads : (n : Name) → IsInSet n → (rule : RuleForm) → Has rule (rules_named a checked n) → ReadsSet rule
  head_reads n inside rule of_head =
      let s = rule_stands a checked (number_of a checked n) rule of_head in
      let fires : within (bit_of (number_of a checked rule.0)) set ≡ true = rw s.1 (meets-within (number_of a checked n) set inside) in
      let own : IsLeastClosed (named cs rule.1) (arrows cs a.form.rules) (cone cs a.form.rules rule.1) = closure-least (named cs rule.1) (arrows cs a.form.rules) in
      own.least set (closed-map (arrow cs) a.form.rules set closed rule s.0 fires) closed

  pub below_in : (rule : RuleForm) → ReadsSet rule → (n : Name) → IsBelow a checked rule n → IsInSet n
  below_in rule inside n below = in-within (number_of a checked n) (cone cs a.form.rules rule.1) set (small_number a checked n) below inside

  pub read_in : (rule : RuleForm) → ReadsSet rule → (n : Name) → IsIn a checked rule.1 n → IsInSet n
  read_in rule inside n h = below_in rule inside n (read_below a checked rule n h)

  pub named_in_set : (rule : RuleForm) → ReadsSet rule → (n : Name) → Has n (names_of rule.1) → IsInSet n
  named_in_set rule inside n h =
      let own : IsLeastClosed (named cs rule.1) (arrows cs a.form.rules) (cone cs a.form.rules rule.1) = closure-least (named cs rule.1) (arrows cs a.form.rules) in
      below_in rule inside n (in-within (number_of a checked n) (named cs rule.1) (cone cs a.form.rules rule.1) (small_number a checked n) (in_named cs rule.1 n h (small_number a checked n)) own.contains)

  -- tables of the set have no rows; nothing arrives at its ports
  abbrev pub KeepsNothing : Sets → Type 0
  KeepsNothing kept = (n : Name) → IsInSet n → kind_at cs (number_of a checked n) ≡ Some Table → (row : Row) → Has row (table_rows a checked (number_of a checked n) kept) → ⊥

  abbrev pub IsQuiet : Sets → Type 0
  IsQuiet arriving = (n : Name) → IsInSet n → kind_at cs (number_of a checked n) ≡ Some Input → (row : Row) → Has row (set_at arriving (place_in_kind Input cs (number_of a checked n))) → ⊥

  -- ---- nothing comes of nothing

  module _ (kept arriving : Sets) (old : KeepsNothing kept) (quiet : IsQuiet arriving) where
    pub name_nothing : (n : Name) → IsRead a checked n → IsInSet n → (row : Row) → Has row (end_env a kept arriving n) → ⊥
    name_nothing = by_names a checked (λ n. IsRead a checked n → IsInSet n → (row : Row) → Has row (end_env a kept arriving n) → ⊥) each
      where
        from_rule : (n : Name)
            → ((rule : RuleForm) (m : Name) → Has rule (rules_named a checked n) → Has m (names_of rule.1) → IsRead a checked m → IsInSet m → (row : Row) → Has row (end_env a kept arriving m) → ⊥)
            → IsInSet n → (row : Row) → FromRule a checked (end_env a kept arriving) (number_of a checked n) row → ⊥
        from_rule n below inside row f =
            let s = has_source columns (end_env a kept arriving) f.rule.1 row f.stands in
            below f.rule s.name f.of_head s.stands (reads a checked f.rule (rule_stands a checked (number_of a checked n) f.rule f.of_head).0 s.name s.stands) (named_in_set f.rule (head_reads n inside f.rule f.of_head) s.name s.stands) s.row s.held

        each : (n : Name)
            → ((rule : RuleForm) (m : Name) → Has rule (rules_named a checked n) → Has m (names_of rule.1) → IsRead a checked m → IsInSet m → (row : Row) → Has row (end_env a kept arriving m) → ⊥)
            → IsRead a checked n → IsInSet n → (row : Row) → Has row (end_env a kept arriving n) → ⊥
        each n below (inl is) inside row h = quiet n inside is row (subst (λ (x : List Row). Has row x) (port_end a checked kept arriving (number_of a checked n) is) h)
        each n below (inr (inl is)) inside row h = elim (from_table a checked kept arriving (number_of a checked n) is row h) [ inl k ↦ old n inside is row k | inr f ↦ from_rule n below inside row f ]
        each n below (inr (inr is)) inside row h =
            from_rule n below inside row (from_union a checked (end_env a kept arriving) (number_of a checked n) row (Has-from_set_of row (union_of columns (end_env a kept arriving) (rules_named a checked n)) (subst (λ (x : List Row). Has row x) (scratch_end a checked kept arriving (number_of a checked n) is) h)))

    pub rule_nothing : (rule : RuleForm) → Has rule a.form.rules → ReadsSet rule → (row : Row)
        → Has row (query_rows a rule.1 kept arriving) → ⊥
    rule_nothing rule stands inside row h =
        let s = has_source columns (end_env a kept arriving) rule.1 row h in
        name_nothing s.name (reads a checked rule stands s.name s.stands) (named_in_set rule inside s.name s.stands) s.row s.held

    pub next_nothing : KeepsNothing (tables_after_step (Module a) kept arriving)
    next_nothing n inside is row h = name_nothing n (inr (inl is)) inside row (subst (λ (x : List Row). Has row x) (next_table a checked kept arriving (number_of a checked n) is) h)

  -- ---- the same comes of the same

  abbrev pub KeepSame : Sets → Sets → Type 0
  KeepSame kept other = (n : Name) → IsInSet n → kind_at cs (number_of a checked n) ≡ Some Table → table_rows a checked (number_of a checked n) kept ≡ table_rows a checked (number_of a checked n) other

  abbrev pub ArriveSame : Sets → Sets → Type 0
  ArriveSame arriving other = (n : Name) → IsInSet n → kind_at cs (number_of a checked n) ≡ Some Input → HaveEqualMembers (set_at arriving (place_in_kind Input cs (number_of a checked n))) (set_at other (place_in_kind Input cs (number_of a checked n)))

  module _ (kept arriving other_kept other_arriving : Sets) (old : KeepSame kept other_kept) (come : ArriveSame arriving other_arriving) where
    abbrev first : Env
    first = end_env a kept arriving

    abbrev second : Env
    second = end_env a other_kept other_arriving

    rule_linear_same : (rule : RuleForm) → Has rule a.form.rules → ReadsSet rule → ((n : Name) → IsIn a checked rule.1 n → kind_at cs (number_of a checked n) ≡ Some Table → first n ≡ second n) → IsLinear a checked {J = Unit {0}} (λ j. first) second rule.1
    rule_linear_same rule stands inside tables = rule_linear a checked rule stands {J = Unit {0}} (λ j. first) second (λ j. is_end a checked kept arriving) (is_end a checked other_kept other_arriving)
        (λ n h is.
        let k = number_of a checked n in
        let same = come n (read_in rule inside n h) is in
        record {
          some = λ row g. (tt, subst (λ (x : List Row). Has row x) (sym (port_end a checked kept arriving k is)) (same.1 row (subst (λ (x : List Row). Has row x) (port_end a checked other_kept other_arriving k is) g)));
          inside = λ j row g. subst (λ (x : List Row). Has row x) (sym (port_end a checked other_kept other_arriving k is)) (same.0 row (subst (λ (x : List Row). Has row x) (port_end a checked kept arriving k is) g));
        })
        (λ n h is j. tables n h is)

    members_same : (rule : RuleForm) → IsLinear a checked {J = Unit {0}} (λ j. first) second rule.1 → HaveEqualMembers (query_rows a rule.1 kept arriving) (query_rows a rule.1 other_kept other_arriving)
    members_same rule l = elim (cases_Bool (now a checked rule.1)) [
      | inl t ↦ let u = l.union t in (λ row h. u.inside tt row h, λ row h. (u.some row h).1)
      | inr f ↦ let e = l.same f tt in (λ row h. subst (λ (x : List Row). Has row x) e h, λ row h. subst (λ (x : List Row). Has row x) (sym e) h)
    ]

    tables_same : (n : Name) → IsInSet n → kind_at cs (number_of a checked n) ≡ Some Table → first n ≡ second n
    tables_same = by_cones a checked (λ n. IsInSet n → kind_at cs (number_of a checked n) ≡ Some Table → first n ≡ second n) (λ n below inside is.
        let k = number_of a checked n in
        let rules : (rule : RuleForm) → Has rule (rules_named a checked n) → HaveEqualMembers (query_rows a rule.1 kept arriving) (query_rows a rule.1 other_kept other_arriving) = λ rule of_head.
        members_same rule (rule_linear_same rule (rule_stands a checked k rule of_head).0 (head_reads n inside rule of_head)
        (λ m h. below rule m of_head (read_below a checked rule m h) (read_in rule (head_reads n inside rule of_head) m h))) in
        let kept_rows = table_rows a checked k kept in
        let other_rows = table_rows a checked k other_kept in
        let ruled = union_of columns first (rules_named a checked n) in
        let other_ruled = union_of columns second (rules_named a checked n) in
        let e = old n inside is in
        table_end a checked kept arriving k is
        ∙ same_set_of (kept_rows ++ ruled) (other_rows ++ other_ruled) (
          append_within kept_rows ruled other_rows other_ruled (λ row h. subst (λ (x : List Row). Has row x) e h) (λ row h. let f = from_union a checked first k row h in in_union a checked second k row (record { rule = f.rule; of_head = f.of_head; stands = (rules f.rule f.of_head).0 row f.stands })),
          append_within other_rows other_ruled kept_rows ruled (λ row h. subst (λ (x : List Row). Has row x) (sym e) h) (λ row h. let f = from_union a checked second k row h in in_union a checked first k row (record { rule = f.rule; of_head = f.of_head; stands = (rules f.rule f.of_head).1 row f.stands })),
        )
        ∙ sym (table_end a checked other_kept other_arriving k is))

    pub ended_same : (n : Name) → IsInSet n → kind_at cs (number_of a checked n) ≡ Some Table
        → end_env a kept arriving n ≡ end_env a other_kept other_arriving n
    ended_same = tables_same

    pub rule_same : (rule : RuleForm) → Has rule a.form.rules → ReadsSet rule
        → HaveEqualMembers (query_rows a rule.1 kept arriving) (query_rows a rule.1 other_kept other_arriving)
    rule_same rule stands inside = members_same rule (rule_linear_same rule stands inside (λ n h. tables_same n (read_in rule inside n h)))

    pub next_same : KeepSame (tables_after_step (Module a) kept arriving) (tables_after_step (Module a) other_kept other_arriving)
    next_same n inside is = next_table a checked kept arriving (number_of a checked n) is ∙ tables_same n inside is ∙ sym (next_table a checked other_kept other_arriving (number_of a checked n) is)

  -- ---- nothing arrives any more

  -- each table of the set has what it has at the end of some step
  abbrev pub KeepsEnd : Sets → Env → Type 0
  KeepsEnd kept end = (n : Name) → IsInSet n → kind_at cs (number_of a checked n) ≡ Some Table → table_rows a checked (number_of a checked n) kept ≡ end n

  module _ (kept arriving start once : Sets) (old : KeepsEnd kept (end_env a start once)) (quiet : IsQuiet arriving) where
    abbrev env : Env
    env = end_env a kept arriving

    abbrev end : Env
    end = end_env a start once

    pub still_end : (n : Name) → IsInSet n → kind_at cs (number_of a checked n) ≡ Some Table
        → end_env a kept arriving n ≡ end_env a start once n
    still_end = by_cones a checked (λ n. IsInSet n → kind_at cs (number_of a checked n) ≡ Some Table → env n ≡ end n) (λ n below inside is.
        let k = number_of a checked n in
        let e = old n inside is in
        let rule_in_end : (rule : RuleForm) → Has rule (rules_named a checked n) → (row : Row) → Has row (query_rows a rule.1 kept arriving) → Has row (query_rows a rule.1 start once) = λ rule of_head row h.
        let stands = (rule_stands a checked k rule of_head).0 in
        let reads_set = head_reads n inside rule of_head in
        elim (cases_Bool (now a checked rule.1)) [
          | inl t ↦ absurd (
              let l = rule_linear a checked rule stands {J = ⊥} (λ j. absurd j) env (λ j. absurd j) (is_end a checked kept arriving)
              (λ m g port. record {
                some = λ r p. absurd (quiet m (read_in rule reads_set m g) port r (subst (λ (x : List Row). Has r x) (port_end a checked kept arriving (number_of a checked m) port) p));
                inside = λ j. absurd j;
              })
              (λ m g table j. absurd j) in
              ((l.union t).some row h).0)
          | inr f ↦
              let l = rule_linear a checked rule stands {J = Unit {0}} (λ j. env) end (λ j. is_end a checked kept arriving) (is_end a checked start once)
              (λ m g port. absurd (true≢false (sym (port_now a checked rule.1 m g port) ∙ f)))
              (λ m g table j. below rule m of_head (read_below a checked rule m g) (read_in rule reads_set m g) table) in
              subst (λ (x : List Row). Has row x) (l.same f tt) h
        ] in
        same_row_sets (env n) (end n) ((is_end a checked kept arriving).tables n is) ((is_end a checked start once).tables n is) (
          λ row h. elim (from_table a checked kept arriving k is row h) [
            | inl o ↦ subst (λ (x : List Row). Has row x) e o
            | inr f ↦ table_ruled a checked start once k is row (record { rule = f.rule; of_head = f.of_head; stands = rule_in_end f.rule f.of_head row f.stands })
          ],
          λ row h. table_kept a checked kept arriving k is row (subst (λ (x : List Row). Has row x) (sym e) h),
        ))

    pub next_end : KeepsEnd (tables_after_step (Module a) kept arriving) (end_env a start once)
    next_end n inside is = next_table a checked kept arriving (number_of a checked n) is ∙ still_end n inside is
