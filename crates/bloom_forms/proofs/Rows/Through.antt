-- What holds of the ports and tables that an expression reads through scratches goes over to its rows: growth, unions, and that a row needs a row there.
use Rattle.std.proofs.Common.{◌≡◌, ◌&&◌, true, false, List, Some, refl, ap, ◌∙◌, sym, subst, inl, inr, ◌⊎◌}
use Rattle.std.proofs.lemmas.Bool.{and_parts, and_from, true≢false}
use Rattle.blz_value.specs.Members.{Has, IsWithin}
use Rattle.blz_value.specs.Record.{Row}
use Rattle.blz_value.specs.Sets.{set_of, IsRowSet}
use Rattle.blz_value.proofs.Membership.{Has-append_left, Has-filter, all_member}
use Rattle.blz_value.proofs.SetLaws.{sorted_set_of, Has-set_of, Has-from_set_of}
use Rattle.blz_value.proofs.OperatorsLemmas.{from_select, from_project, from_join, from_notin, from_group, from_at_least}
use Rattle.blz_value.proofs.Maps.{flat_map_same}
use Rattle.blz_value.specs.Bits.{meets}
use Rattle.bloom_forms.specs.declared.module.Kind.TheVariants.{Input, Table, Scratch}
use Rattle.bloom_forms.specs.declared.module.Collection.{Collection}
use Rattle.bloom_forms.specs.Checks.{IsChecked}
use Rattle.bloom_forms.specs.Columns.{columns_of, pair_numbers}
use Rattle.bloom_forms.specs.Equations.{Env}
use Rattle.bloom_forms.specs.Form.{RuleForm, Accepted}
use Rattle.bloom_forms.specs.Heads.{names_of}
use Rattle.bloom_forms.specs.Kinds.{has_kind, is_scratch, kind_at}
use Rattle.bloom_forms.specs.Lookup.{declared}
use Rattle.bloom_forms.specs.Query.{Name, Query}
use Rattle.bloom_forms.specs.Query.Query.{base, select, project, join, notin, group, at_least}
use Rattle.bloom_forms.specs.Reads.{set_of_name, direct}
use Rattle.bloom_forms.specs.Rows.{formula_holds, item_numbers, column_numbers, numbered_agg, row_bound, rows_of}
use Rattle.bloom_forms.specs.Step.{union_of}
use Rattle.bloom_forms.specs.Plain.{is_plain, is_free, scratch_rules_read}
use Rattle.bloom_forms.proofs.Collections.KindSets.{named-kind}
use Rattle.bloom_forms.proofs.Ends.EquationsLemmas.{IsEnd, from_union, in_union}
use Rattle.bloom_forms.proofs.Reach.PlainLemmas.{grows}
use Rattle.bloom_forms.proofs.Reach.MomentaryLemmas.{now, port_now, table_later, scratch_now}
use Rattle.bloom_forms.proofs.Reach.ReadsLemmas.{number_of, rules_named, rule_stands, IsRead, reads, IsIn, named_in, scratch_in, through_scratches}
use Rattle.bloom_forms.proofs.Rows.Linear.{IsUnionOf, IsLinear, linear}

-- How the proof goes.
-- The ports and tables that an expression reads, directly or through scratches, are given in two ways.
-- Go from these to the names that it reads, scratch by scratch (through_scratches).
-- A scratch holds what its rules give, so what holds of their rows holds of it.
-- For an expression without group and notin: more stays more (grows).
-- For a momentary one: the union stays the union (linear).

-- a row of an expression needs a row of a collection that it names
pub record HasSource (env : Env) (named : List Name) : Type 0 where
  pub name : Name
  pub stands : Has name named
  pub row : Row
  pub held : Has row (env name)

pub has_source : (columns : Name → List Name) (env : Env) (q : Query) (row : Row) → Has row (rows_of columns env q)
    → HasSource env (names_of q)
has_source columns env (base n) row h = record { name = n; stands = inl refl; row = row; held = h }
has_source columns env (select q f) row h = has_source columns env q row (from_select (formula_holds (columns_of columns q) f) (rows_of columns env q) row h).0
has_source columns env (project q items) row h = let m = from_project (item_numbers (columns_of columns q) items) (rows_of columns env q) row h in has_source columns env q m.source m.stands
has_source columns env (join a b pairs) row h =
    let m = from_join (pair_numbers (columns_of columns a) (columns_of columns b) pairs) (rows_of columns env a) (rows_of columns env b) row h in
    let s = has_source columns env a m.left m.left_stands in
    record { name = s.name; stands = Has-append_left s.name (names_of a) (names_of b) s.stands; row = s.row; held = s.held }
has_source columns env (notin a b pairs) row h =
    let m = from_notin (pair_numbers (columns_of columns a) (columns_of columns b) pairs) (rows_of columns env a) (rows_of columns env b) row h in
    let s = has_source columns env a row m.stands in
    record { name = s.name; stands = Has-append_left s.name (names_of a) (names_of b) s.stands; row = s.row; held = s.held }
has_source columns env (group q keys agg name) row h = let m = from_group (column_numbers (columns_of columns q) keys) (numbered_agg (columns_of columns q) agg) (rows_of columns env q) row h in has_source columns env q m.source m.stands
has_source columns env (at_least q keys bound) row h = let m = from_at_least (column_numbers (columns_of columns q) keys) (row_bound bound) (rows_of columns env q) row h in has_source columns env q m.source m.stands

module _ (a : Accepted) (checked : IsChecked a.form a.heads) (rule : RuleForm) (stands : Has rule a.form.rules) where
  abbrev cs : List Collection
  cs = a.form.collections

  abbrev q : Query
  q = rule.1

  abbrev rows : Env → List Row
  rows env = rows_of (declared cs) env q

  -- ---- emptiness

  -- a port or a table that is read has a row
  pub record HasLeaf (env : Env) : Type 0 where
    pub name : Name
    pub read : IsIn a checked q name
    pub kind : (kind_at cs (number_of a checked name) ≡ Some Input) ⊎ (kind_at cs (number_of a checked name) ≡ Some Table)
    pub row : Row
    pub held : Has row (env name)

  pub has_leaf : (env : Env) → IsEnd a checked env → (row : Row) → Has row (rows env) → HasLeaf env
  has_leaf env ended row h =
      let s = has_source (declared cs) env q row h in
      through_scratches a checked q (λ n. (r : Row) → Has r (env n) → HasLeaf env)
      (λ n inside is r g. record { name = n; read = inside; kind = inl is; row = r; held = g })
      (λ n inside is r g. record { name = n; read = inside; kind = inr is; row = r; held = g })
      (λ n inside is below r g.
      let ruled = union_of (declared cs) env (rules_named a checked n) in
      let f = from_union a checked env (number_of a checked n) r (Has-from_set_of r ruled (subst (λ (x : List Row). Has r x) (ended.scratches n is) g)) in
      let t = has_source (declared cs) env f.rule.1 r f.stands in
      below f.rule t.name f.of_head t.stands t.row t.held)
      s.name (reads a checked rule stands s.name s.stands) (named_in a checked q s.name s.stands) s.row s.held

  -- ---- growth

  module _ (later : now a checked q ≡ false) where
    sorted_read : (env : Env) → IsEnd a checked env → (n : Name) → IsRead a checked n → IsIn a checked q n → IsRowSet (env n)
    sorted_read env ended n (inl is) inside = absurd (true≢false (sym (port_now a checked q n inside is) ∙ later))
    sorted_read env ended n (inr (inl is)) inside = ended.tables n is
    sorted_read env ended n (inr (inr is)) inside = subst (λ (x : List Row). IsRowSet x) (sym (ended.scratches n is)) (sorted_set_of (union_of (declared cs) env (rules_named a checked n)))

    pub free_grows : (env more : Env) → IsEnd a checked env → IsEnd a checked more → is_free cs a.form.rules q ≡ true
        → ((n : Name) → IsIn a checked q n → kind_at cs (number_of a checked n) ≡ Some Table → IsWithin (env n) (more n))
        → IsWithin (rows env) (rows more)
    free_grows env more first second free tables =
        let both = and_parts (is_plain q) _ free in
        let scratch_plain : (n : Name) → IsIn a checked q n → kind_at cs (number_of a checked n) ≡ Some Scratch → (r : RuleForm) → Has r (rules_named a checked n) → is_plain r.1 ≡ true = λ n inside is r of_head.
        let s = rule_stands a checked (number_of a checked n) r of_head in
        let own : has_kind is_scratch cs r.0 ≡ true = named-kind is_scratch cs r.0 Scratch (ap (kind_at cs) s.1 ∙ is) refl in
        let there : meets (set_of_name cs r.0) (direct cs a.form.rules q) ≡ true = rw s.1 inside in
        all_member (λ (x : RuleForm). is_plain x.1) (scratch_rules_read cs a.form.rules q) r both.1 (Has-filter (λ (x : RuleForm). has_kind is_scratch cs x.0 && meets (set_of_name cs x.0) (direct cs a.form.rules q)) r a.form.rules s.0 (and_from _ _ own there)) in
        let each = through_scratches a checked q (λ n. IsWithin (env n) (more n))
        (λ n inside is. absurd (true≢false (sym (port_now a checked q n inside is) ∙ later)))
        tables
        (λ n inside is below row h.
        let ruled = union_of (declared cs) env (rules_named a checked n) in
        let grown = union_of (declared cs) more (rules_named a checked n) in
        let f = from_union a checked env (number_of a checked n) row (Has-from_set_of row ruled (subst (λ (x : List Row). Has row x) (first.scratches n is) h)) in
        let s = rule_stands a checked (number_of a checked n) f.rule f.of_head in
        let there = grows (declared cs) env more f.rule.1 (scratch_plain n inside is f.rule f.of_head)
        (λ m names. sorted_read env first m (reads a checked f.rule s.0 m names) (scratch_in a checked q n inside is f.rule m f.of_head names))
        (λ m names. below f.rule m f.of_head names) row f.stands in
        subst (λ (x : List Row). Has row x) (sym (second.scratches n is)) (Has-set_of row grown (in_union a checked more (number_of a checked n) row (record { rule = f.rule; of_head = f.of_head; stands = there }))))
        in
        grows (declared cs) env more q both.0
        (λ n names. sorted_read env first n (reads a checked rule stands n names) (named_in a checked q n names))
        (λ n names. each n (reads a checked rule stands n names) (named_in a checked q n names))

  -- ---- linearity

  module _ {J : Type 0} (each : J → Env) (whole : Env) (ended : (j : J) → IsEnd a checked (each j)) (all_ended : IsEnd a checked whole)
      (ports : (n : Name) → IsIn a checked q n → kind_at cs (number_of a checked n) ≡ Some Input → IsUnionOf {J = J} (λ j. each j n) (whole n))
      (tables : (n : Name) → IsIn a checked q n → kind_at cs (number_of a checked n) ≡ Some Table → (j : J) → each j n ≡ whole n) where
    abbrev Linear : Query → Type 0
    Linear p = IsLinear a checked each whole p

    scratch_linear : (n : Name) → kind_at cs (number_of a checked n) ≡ Some Scratch
        → ((r : RuleForm) → Has r (rules_named a checked n) → Linear r.1) → Linear (base n)
    scratch_linear n is parts =
        let ruled : Env → List Row = λ (env : Env). union_of (declared cs) env (rules_named a checked n) in
        record {
          union = λ t. record {
            some = λ row h.
                let f = from_union a checked whole (number_of a checked n) row (Has-from_set_of row (ruled whole) (subst (λ (x : List Row). Has row x) (all_ended.scratches n is) h)) in
                let s = ((parts f.rule f.of_head).union (scratch_now a checked n is f.rule f.of_head ∙ t)).some row f.stands in
                (s.0, subst (λ (x : List Row). Has row x) (sym ((ended s.0).scratches n is)) (Has-set_of row (ruled (each s.0)) (in_union a checked (each s.0) (number_of a checked n) row (record { rule = f.rule; of_head = f.of_head; stands = s.1 }))));
            inside = λ j row h.
                let f = from_union a checked (each j) (number_of a checked n) row (Has-from_set_of row (ruled (each j)) (subst (λ (x : List Row). Has row x) ((ended j).scratches n is) h)) in
                let s = ((parts f.rule f.of_head).union (scratch_now a checked n is f.rule f.of_head ∙ t)).inside j row f.stands in
                subst (λ (x : List Row). Has row x) (sym (all_ended.scratches n is)) (Has-set_of row (ruled whole) (in_union a checked whole (number_of a checked n) row (record { rule = f.rule; of_head = f.of_head; stands = s })));
          };
          same = λ g j.
              (ended j).scratches n is
              ∙ ap (λ (x : List Row). set_of x) (flat_map_same (λ (r : RuleForm). rows_of (declared cs) (each j) r.1) (λ (r : RuleForm). rows_of (declared cs) whole r.1) (rules_named a checked n) (λ r of_head. (parts r of_head).same (scratch_now a checked n is r of_head ∙ g) j))
              ∙ sym (all_ended.scratches n is);
        }

    all_linear : (n : Name) → IsRead a checked n → IsIn a checked q n → Linear (base n)
    all_linear = through_scratches a checked q (λ n. Linear (base n))
        (λ n inside is. record { union = λ t. ports n inside is; same = λ g j. absurd (true≢false (sym (port_now a checked (base n) n (named_in a checked (base n) n (inl refl)) is) ∙ g)) })
        (λ n inside is. record { union = λ t. absurd (true≢false (sym t ∙ table_later a checked n is)); same = λ g j. tables n inside is j })
        (λ n inside is below. scratch_linear n is (λ r of_head. linear a checked each whole r.1 (checked.rules r (rule_stands a checked (number_of a checked n) r of_head).0).unmixed (λ m names. below r m of_head names)))

    pub rule_linear : Linear q
    rule_linear = linear a checked each whole q (checked.rules rule stands).unmixed (λ n names. all_linear n (reads a checked rule stands n names) (named_in a checked q n names))
