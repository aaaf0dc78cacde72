-- Over a run a rule has in each step the rows that it has over each class.
use Rattle.std.proofs.Common.{◌≡◌, ◌++◌, ℕ, true, Some, List, [], ◌∷◌, map, refl, ap, ◌∙◌, sym, subst, inl, inr}
use Rattle.std.specs.Prelude.{is_some}
use Rattle.std.proofs.lemmas.List.{map-append}
use Rattle.blz_value.specs.Members.{Has}
use Rattle.blz_value.specs.Record.{Row}
use Rattle.blz_value.proofs.Membership.{Has-append_left, Has-append_right}
use Rattle.blz_value.proofs.SetLaws.{Has-set_of, Has-from_set_of}
use Rattle.blz_value.specs.declared.attrs.Fd.{Fd}
use Rattle.blz_value.specs.Bits.{bit_of, meets}
use Rattle.blz_value.proofs.Within.{within-refl}
use Rattle.bloom_forms.specs.declared.module.Kind.TheVariants.{Input, Table, Scratch}
use Rattle.bloom_forms.specs.declared.module.Collection.{Collection}
use Rattle.bloom_forms.specs.declared.program.Program.TheVariants.{Module}
use Rattle.bloom_forms.specs.Checks.{IsChecked}
use Rattle.bloom_forms.specs.Equations.{Env, end_env}
use Rattle.bloom_forms.specs.Form.{RuleForm, Accepted}
use Rattle.bloom_forms.specs.Heads.{names_of}
use Rattle.bloom_forms.specs.Kinds.{kind_at, place_in_kind}
use Rattle.bloom_forms.specs.Lookup.{declared}
use Rattle.bloom_forms.specs.ProgramStep.{tables_after_step}
use Rattle.bloom_forms.specs.Query.{Name, Query}
use Rattle.bloom_forms.specs.Query.Query.{base}
use Rattle.bloom_forms.specs.Reads.{cone}
use Rattle.bloom_forms.specs.Step.{Sets, union_of}
use Rattle.bloom_forms.specs.Steps.{tables_after_steps, AreArrivals}
use Rattle.bloom_forms.proofs.Reach.ByCones.{IsBelow}
use Rattle.bloom_forms.proofs.Ends.EquationsLemmas.{from_union, in_union, port_end, from_table, table_kept, table_ruled, scratch_end, next_table}
use Rattle.bloom_forms.proofs.Reach.ReadsLemmas.{number_of, rules_named, rule_stands, by_names, IsRead, reads}
use Rattle.bloom_forms.proofs.Ends.StepsLemmas.{table_rows, nothing_kept, longer, one_more}
use Rattle.bloom_forms.proofs.Collections.KindNumbersLemmas.{place_within, number_at_place}
use Rattle.bloom_forms.specs.Annotation.{rule_gate, rule_use}
use Rattle.bloom_forms.proofs.Combining.GateSets.{IsGated, own_gated, other_gated}
use Rattle.bloom_forms.specs.Classes.{columns_at, key_of, IsInClosure, Arriving, AreKeyed, of_class}
use Rattle.bloom_forms.specs.Runs.{query_rows}
use Rattle.bloom_forms.specs.Splitting.{StepsSplit}
use Rattle.bloom_forms.proofs.Split.Apart.{kept_after, IsInside, name_inside, rule_inside, used_port, keeps_apart}
use Rattle.bloom_forms.proofs.Split.ClassesLemmas.{from_class, in_class}
use Rattle.bloom_forms.proofs.Rows.Linear.{IsUnionOf}
use Rattle.bloom_forms.proofs.Split.Sharing.{IsShared, shared}

-- How the proof goes.
-- Go along the steps of the run, and in each step along the names that the rule reads.
-- A port splits by definition; a scratch and a table hold what their rules give.
-- A rule splits where the names that it names do, since it keeps the classes apart (shared).
-- So the tables after a step split where those before it did.
-- After all earlier steps the rows of the rule split, and over all steps too.

module _ (names : List Name) (a : Accepted) (checked : IsChecked a.form a.heads) (rule : RuleForm) (stands : Has rule a.form.rules) (key : List ℕ) (class_of : Row → Row) (fds : List Fd)
    (all : List Sets) (arrivals : AreArrivals (Module a) all) (keyed : AreKeyed names (Module a) all (λ port. is_some (rule_use names a rule port)) fds key) (closed : IsInClosure key (rule_gate names a rule) fds) where
  abbrev cs : List Collection
  cs = a.form.collections

  abbrev columns : Name → List Name
  columns = declared cs

  -- the records of a class
  abbrev part : Row → Sets → Sets
  part class arriving = of_class names (Module a) key class_of class arriving

  -- tables that the rule reads have the rows that they have over each class
  abbrev KeptShared : (kept : Sets) → (parts : Row → Sets) → Type 0
  KeptShared kept parts = (n : Name) → IsBelow a checked rule n → kind_at cs (number_of a checked n) ≡ Some Table
      → IsUnionOf {J = Row} (λ class. table_rows a checked (number_of a checked n) (parts class)) (table_rows a checked (number_of a checked n) kept)

  abbrev parts_after : List Sets → Row → Sets
  parts_after done class = tables_after_steps (Module a) (map (part class) done)

  module _ (done : List Sets) (arriving : Sets) (among : (other : Sets) → Has other (done ++ arriving ∷ []) → Has other all) (old : KeptShared (kept_after names a checked rule stands key class_of fds all arrivals keyed closed done) (parts_after done)) where
    abbrev kept : Sets
    kept = tables_after_steps (Module a) done

    abbrev kept_of : Row → Sets
    kept_of class = parts_after done class

    abbrev each : Row → Env
    each class = end_env a (kept_of class) (part class arriving)

    abbrev whole : Env
    whole = end_env a kept arriving

    abbrev Shared : Query → Type 0
    Shared q = IsShared columns {J = Row} each whole q

    rule_shared : (other : RuleForm) → Has other a.form.rules
        → IsInside names a checked rule stands key class_of fds all arrivals keyed closed other.1
        → IsGated names a (rule_gate names a rule) other.1 → ((n : Name) → Has n (names_of other.1) → Shared (base n))
        → Shared other.1
    rule_shared other there inside gated parts = shared columns {J = Row} each whole other.1
        (keeps_apart names a checked rule stands key class_of fds all arrivals keyed closed done arriving among other.1 inside gated (checked.rules other there).unmixed (λ n h. reads a checked other there n h)) parts

    -- a port
    port_shared : (n : Name) → IsBelow a checked rule n → kind_at cs (number_of a checked n) ≡ Some Input → Shared (base n)
    port_shared n below is =
        let k = number_of a checked n in
        let port = place_in_kind Input cs k in
        let lt = place_within Input cs k is in
        let read = subst (λ (m : ℕ). meets (bit_of m) (cone cs a.form.rules rule.1) ≡ true) (sym (number_at_place Input cs k is)) below in
        let used = used_port names a checked rule stands key class_of fds all arrivals keyed closed port lt read in
        record {
          some = λ row h.
              let x : Arriving (Module a) all (λ p. is_some (rule_use names a rule p)) = record { port = port; used = used; now = arriving; came = among arriving (Has-append_right arriving done (arriving ∷ []) (inl refl)); row = row; stands = subst (λ (rows : List Row). Has row rows) (port_end a checked kept arriving k is) h } in
              let class = class_of (key_of names (columns_at (Module a) port) key row) in
              (class, subst (λ (rows : List Row). Has row rows) (sym (port_end a checked (kept_of class) (part class arriving) k is)) (in_class names (Module a) key class_of class arriving port row (record { within = lt; stands = x.stands; keyed = keyed.keyed x; is = refl })));
          inside = λ class row h. subst (λ (rows : List Row). Has row rows) (sym (port_end a checked kept arriving k is)) (from_class names (Module a) key class_of class arriving port row (subst (λ (rows : List Row). Has row rows) (port_end a checked (kept_of class) (part class arriving) k is) h)).stands;
        }

    -- a head whose rules name collections with such rows
    from_rule : (n : Name) → IsBelow a checked rule n
        → ((other : RuleForm) (m : Name) → Has other (rules_named a checked n) → Has m (names_of other.1) → Shared (base m))
        → (other : RuleForm) → Has other (rules_named a checked n) → Shared other.1
    from_rule n below parts other of_head =
        let s = rule_stands a checked (number_of a checked n) other of_head in
        let read = subst (λ (k : ℕ). meets (bit_of k) (cone cs a.form.rules rule.1) ≡ true) (sym s.1) below in
        rule_shared other s.0 (rule_inside names a checked rule stands key class_of fds all arrivals keyed closed n below other of_head) (other_gated names a rule other s.0 read) (λ m h. parts other m of_head h)

    table_shared : (n : Name) → IsBelow a checked rule n → kind_at cs (number_of a checked n) ≡ Some Table
        → ((other : RuleForm) → Has other (rules_named a checked n) → Shared other.1) → Shared (base n)
    table_shared n below is rules =
        let k = number_of a checked n in
        let o = old n below is in
        record {
          some = λ row h. elim (from_table a checked kept arriving k is row h) [
            | inl before ↦ let s = o.some row before in (s.0, table_kept a checked (kept_of s.0) (part s.0 arriving) k is row s.1)
            | inr f ↦ let s = (rules f.rule f.of_head).some row f.stands in (s.0, table_ruled a checked (kept_of s.0) (part s.0 arriving) k is row (record { rule = f.rule; of_head = f.of_head; stands = s.1 }))
          ];
          inside = λ class row h. elim (from_table a checked (kept_of class) (part class arriving) k is row h) [
            | inl before ↦ table_kept a checked kept arriving k is row (o.inside class row before)
            | inr f ↦ table_ruled a checked kept arriving k is row (record { rule = f.rule; of_head = f.of_head; stands = (rules f.rule f.of_head).inside class row f.stands })
          ];
        }

    scratch_shared : (n : Name) → kind_at cs (number_of a checked n) ≡ Some Scratch
        → ((other : RuleForm) → Has other (rules_named a checked n) → Shared other.1) → Shared (base n)
    scratch_shared n is rules =
        let k = number_of a checked n in
        let ruled : Env → List Row = λ (env : Env). union_of columns env (rules_named a checked n) in
        record {
          some = λ row h.
              let f = from_union a checked whole k row (Has-from_set_of row (ruled whole) (subst (λ (rows : List Row). Has row rows) (scratch_end a checked kept arriving k is) h)) in
              let s = (rules f.rule f.of_head).some row f.stands in
              (s.0, subst (λ (rows : List Row). Has row rows) (sym (scratch_end a checked (kept_of s.0) (part s.0 arriving) k is)) (Has-set_of row (ruled (each s.0)) (in_union a checked (each s.0) k row (record { rule = f.rule; of_head = f.of_head; stands = s.1 }))));
          inside = λ class row h.
              let f = from_union a checked (each class) k row (Has-from_set_of row (ruled (each class)) (subst (λ (rows : List Row). Has row rows) (scratch_end a checked (kept_of class) (part class arriving) k is) h)) in
              subst (λ (rows : List Row). Has row rows) (sym (scratch_end a checked kept arriving k is)) (Has-set_of row (ruled whole) (in_union a checked whole k row (record { rule = f.rule; of_head = f.of_head; stands = (rules f.rule f.of_head).inside class row f.stands })));
        }

    name_shared : (n : Name) → IsRead a checked n → IsBelow a checked rule n → Shared (base n)
    name_shared = by_names a checked (λ n. IsRead a checked n → IsBelow a checked rule n → Shared (base n)) each_name
      where
        below_name : (n : Name) → IsBelow a checked rule n → (other : RuleForm) (m : Name)
            → Has other (rules_named a checked n) → Has m (names_of other.1) → IsBelow a checked rule m
        below_name n below other m of_head h = name_inside names a checked rule stands key class_of fds all arrivals keyed closed other.1 (rule_inside names a checked rule stands key class_of fds all arrivals keyed closed n below other of_head) m h

        rules_of_head : (n : Name)
            → ((other : RuleForm) (m : Name) → Has other (rules_named a checked n) → Has m (names_of other.1) → IsRead a checked m → IsBelow a checked rule m → Shared (base m))
            → IsBelow a checked rule n → (other : RuleForm) → Has other (rules_named a checked n) → Shared other.1
        rules_of_head n parts below = from_rule n below (λ other m of_head h. parts other m of_head h (reads a checked other (rule_stands a checked (number_of a checked n) other of_head).0 m h) (below_name n below other m of_head h))

        each_name : (n : Name)
            → ((other : RuleForm) (m : Name) → Has other (rules_named a checked n) → Has m (names_of other.1) → IsRead a checked m → IsBelow a checked rule m → Shared (base m))
            → IsRead a checked n → IsBelow a checked rule n → Shared (base n)
        each_name n parts (inl is) below = port_shared n below is
        each_name n parts (inr (inl is)) below = table_shared n below is (rules_of_head n parts below)
        each_name n parts (inr (inr is)) below = scratch_shared n is (rules_of_head n parts below)

    -- the tables after the step
    next_shared : KeptShared (tables_after_step (Module a) kept arriving) (λ class. tables_after_step (Module a) (kept_of class) (part class arriving))
    next_shared n below is =
        let k = number_of a checked n in
        let u = name_shared n (inr (inl is)) below in
        record {
          some = λ row h.
              let s = u.some row (subst (λ (rows : List Row). Has row rows) (next_table a checked kept arriving k is) h) in
              (s.0, subst (λ (rows : List Row). Has row rows) (sym (next_table a checked (kept_of s.0) (part s.0 arriving) k is)) s.1);
          inside = λ class row h. subst (λ (rows : List Row). Has row rows) (sym (next_table a checked kept arriving k is)) (u.inside class row (subst (λ (rows : List Row). Has row rows) (next_table a checked (kept_of class) (part class arriving) k is) h));
        }

    -- the rule itself
    pub own_shared : Shared rule.1
    own_shared = rule_shared rule stands (within-refl (cone cs a.form.rules rule.1)) (own_gated names a rule)
        (λ n h. name_shared n (reads a checked rule stands n h) (name_inside names a checked rule stands key class_of fds all arrivals keyed closed rule.1 (within-refl (cone cs a.form.rules rule.1)) n h))

  -- ---- any steps

  abbrev HoldsAfter : List Sets → Type 0
  HoldsAfter done = ((other : Sets) → Has other done → Has other all) → KeptShared (tables_after_steps (Module a) done) (parts_after done)

  none_shared : HoldsAfter []
  none_shared among n below is = record {
    some = λ row h. absurd (nothing_kept a checked (number_of a checked n) row h);
    inside = λ class row h. absurd (nothing_kept a checked (number_of a checked n) row h);
  }

  more_shared : (done : List Sets) (arriving : Sets) → HoldsAfter done → HoldsAfter (done ++ arriving ∷ [])
  more_shared done arriving holds among =
      let kept_is = one_more (Module a) done arriving in
      let parts_are : (class : Row) → parts_after (done ++ arriving ∷ []) class ≡ tables_after_step (Module a) (parts_after done class) (part class arriving) = λ class. ap (tables_after_steps (Module a)) (map-append (part class) done (arriving ∷ [])) ∙ one_more (Module a) (map (part class) done) (part class arriving) in
      let next = next_shared done arriving among (holds (λ other h. among other (Has-append_left other done (arriving ∷ []) h))) in
      let first = subst (λ (kept : Sets). KeptShared kept (λ class. tables_after_step (Module a) (parts_after done class) (part class arriving))) (sym kept_is) next in
      subst (λ (parts : Row → Sets). KeptShared (tables_after_steps (Module a) (done ++ arriving ∷ [])) parts) (λ i class. sym (parts_are class) i) first

  pub all_shared : (done : List Sets) → HoldsAfter done
  all_shared done = longer HoldsAfter more_shared done [] none_shared

pub rules_split : (names : List Name) (a : Accepted) → IsChecked a.form a.heads → (rule : RuleForm)
    → Has rule a.form.rules
    → StepsSplit names (Module a) (query_rows a rule.1) (λ port. is_some (rule_use names a rule port)) (rule_gate names a rule)
rules_split names a checked rule stands earlier arriving fds key class_of arrivals keyed closed row =
    let all = earlier ++ arriving ∷ [] in
    let kept = all_shared names a checked rule stands key class_of fds all arrivals keyed closed earlier (λ other h. Has-append_left other earlier (arriving ∷ []) h) in
    let u = own_shared names a checked rule stands key class_of fds all arrivals keyed closed earlier arriving (λ other h. h) kept in
    (λ h. u.some row h, λ p. u.inside p.0 row p.1)
