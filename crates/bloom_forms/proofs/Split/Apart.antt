-- Over the classes of a key that lies in the closure of its gate, a rule and all that it reads keep the classes apart.
use Rattle.std.proofs.Common.{◌≡◌, ◌<◌, ◌++◌, ℕ, Bool, true, false, Some, List, [], ◌∷◌, length, map, get_or, refl, ap, ◌∙◌, sym, subst, inl, inr}
use Rattle.std.specs.Prelude.{is_some}
use Rattle.std.specs.Ordering.{eq_by_cmp}
use Rattle.std.specs.Cmp.{Equal-is}
use Rattle.std.proofs.lemmas.Bool.{cases_lt, true≢false}
use Rattle.std.proofs.lemmas.List.{get_or_past, map-append}
use Rattle.blz_value.specs.Members.{Has}
use Rattle.blz_value.specs.Operators.{cells}
use Rattle.blz_value.specs.Record.{Row}
use Rattle.blz_value.specs.Sets.{IsRowSet}
use Rattle.blz_value.specs.Test.{cell}
use Rattle.blz_value.specs.Value.{value_cmp}
use Rattle.blz_value.specs.ValueOrder.{value_cmp_exact}
use Rattle.blz_value.proofs.Membership.{All-of_member, Has-get_or, Has-from_map, Has-from_filter, Has-append_left, Has-append_right, all_member}
use Rattle.blz_value.proofs.SetLaws.{sorted_set_of}
use Rattle.blz_value.specs.declared.attrs.Fd.{Fd}
use Rattle.blz_value.specs.Bits.{bit_of, meets}
use Rattle.blz_value.specs.Closure.{within, IsLeastClosed}
use Rattle.blz_value.proofs.Within.{within-trans, within-or_l, within-or_r}
use Rattle.blz_value.proofs.Members.{in-within, meets-within, member_small}
use Rattle.blz_value.proofs.Least.{closure-least}
use Rattle.blz_value.proofs.Reached.{closed-map, least-monotone}
use Rattle.blz_value.proofs.Booleans.{neither}
use Rattle.bloom_forms.specs.declared.module.Kind.TheVariants.{Input}
use Rattle.bloom_forms.specs.declared.module.Collection.{Collection}
use Rattle.bloom_forms.specs.declared.program.Program.TheVariants.{Module}
use Rattle.bloom_forms.specs.Checks.{IsChecked}
use Rattle.bloom_forms.specs.Columns.{columns_of, pair_numbers}
use Rattle.bloom_forms.specs.Equations.{Env, end_env}
use Rattle.bloom_forms.specs.Faults.{mixes}
use Rattle.bloom_forms.specs.Fits.{repeats}
use Rattle.bloom_forms.specs.Form.{RuleForm, Accepted}
use Rattle.bloom_forms.specs.Heads.{names_of}
use Rattle.bloom_forms.specs.Kinds.{same_kind, kind_at}
use Rattle.bloom_forms.specs.Lookup.{declared}
use Rattle.bloom_forms.specs.Program.{columns_of_kind, port_columns}
use Rattle.bloom_forms.specs.Query.{Name, Query}
use Rattle.bloom_forms.specs.Query.Query.{base, select, project, join, notin, group, at_least}
use Rattle.bloom_forms.specs.Reads.{named, arrow, arrows, cone, facts_of}
use Rattle.bloom_forms.specs.Rows.{column_numbers, rows_of}
use Rattle.bloom_forms.specs.Step.{Sets, set_at, union_of}
use Rattle.bloom_forms.specs.Widths.{AreSetsOf}
use Rattle.bloom_forms.specs.KindNumbers.{number_in_kind}
use Rattle.bloom_forms.specs.Steps.{tables_after_steps, AreArrivals}
use Rattle.bloom_forms.proofs.Faults.Ordering.{in_named}
use Rattle.bloom_forms.proofs.Reach.ByCones.{IsBelow}
use Rattle.bloom_forms.proofs.Ends.EquationsLemmas.{IsEnd, is_end}
use Rattle.bloom_forms.proofs.Reach.PlainLemmas.{sorted_rows}
use Rattle.bloom_forms.proofs.Reach.MomentaryLemmas.{now, port_now}
use Rattle.bloom_forms.proofs.Reach.ReadsLemmas.{number_of, small_number, rules_named, rule_stands, IsRead, named_in}
use Rattle.bloom_forms.proofs.Collections.KindNumbersLemmas.{number_at_place, at_place}
use Rattle.bloom_forms.specs.Copies.{IsCopyOf}
use Rattle.bloom_forms.specs.CopiesLaw.{query_roots}
use Rattle.bloom_forms.specs.Good.{good_tables}
use Rattle.bloom_forms.specs.Gates.{set_of_roots}
use Rattle.bloom_forms.specs.Roots.{Roots, root_at, roots_at}
use Rattle.bloom_forms.specs.Annotation.{rule_gate, rule_use}
use Rattle.bloom_forms.proofs.Copies.ModuleOrigins.{module_expressions}
use Rattle.bloom_forms.proofs.Combining.Using.{uses_by_cone}
use Rattle.bloom_forms.proofs.Copies.AttributesLemmas.{has_root, value_is, in_pairs, in_keys}
use Rattle.bloom_forms.proofs.Combining.GateSets.{sets_of, IsGated}
use Rattle.bloom_forms.specs.Classes.{columns_at, key_of, IsInClosure, Arriving, HasAll, AgreeOn, AreKeyed, of_class}
use Rattle.bloom_forms.specs.Runs.{query_rows}
use Rattle.bloom_forms.proofs.Split.Agreeing.{one_key}
use Rattle.bloom_forms.proofs.Split.ClassesLemmas.{from_class, arrivals_of_class}
use Rattle.bloom_forms.proofs.Split.Sharing.{AreApart, AreKeptApart, KeepsApart}

-- How the proof goes.
-- Each row of a name has an origin: one record that arrived, of which all columns with roots are copies.
-- Rows that agree on the keys or the pairs of an operator agree on its set of roots.
-- So their origins agree on the gate, which lies in that set, hence on the key (one_key).
-- The records of one class have one value of the key, so both rows are of the same class.
-- This is what KeepsApart asks of each operator of the rule and of all that it reads.

-- equal cells of equal keys
pub cells_at : (numbers : List ℕ) (r s : Row) → cells numbers r ≡ cells numbers s → (number : ℕ) → Has number numbers
    → cell r number ≡ cell s number
cells_at [] r s same number h = absurd h
cells_at (n ∷ numbers) r s same number (inl e) = let first : cell r n ≡ cell s n = cc in subst (λ (k : ℕ). cell r k ≡ cell s k) e first
cells_at (n ∷ numbers) r s same number (inr h) = let rest : cells numbers r ≡ cells numbers s = cc in cells_at numbers r s rest number h

-- no port of a checked module has a column twice
pub own_columns : (a : Accepted) → IsChecked a.form a.heads → (port : ℕ) → repeats (columns_at (Module a) port) ≡ false
own_columns a checked port = elim (cases_lt port (length (columns_of_kind Input a.form.collections))) [
  | inl lt ↦
      let m = Has-from_map (λ (c : Collection). c.columns) (get_or (columns_of_kind Input a.form.collections) port []) _ (Has-get_or (columns_of_kind Input a.form.collections) port [] lt) in
      let c = Has-from_filter (λ (d : Collection). same_kind Input d.kind) m.0 a.form.collections m.1 in
      subst (λ (columns : List Name). repeats columns ≡ false) m.2 (checked.collections m.0 c.0).distinct
  | inr past ↦ subst (λ (columns : List Name). repeats columns ≡ false) (sym (get_or_past (columns_of_kind Input a.form.collections) port [] past)) refl
]

module _ (names : List Name) (a : Accepted) (checked : IsChecked a.form a.heads) (rule : RuleForm) (stands : Has rule a.form.rules) (key : List ℕ) (class_of : Row → Row) (fds : List Fd)
    (all : List Sets) (arrivals : AreArrivals (Module a) all) (keyed : AreKeyed names (Module a) all (λ port. is_some (rule_use names a rule port)) fds key) (closed : IsInClosure key (rule_gate names a rule) fds) where
  abbrev cs : List Collection
  cs = a.form.collections

  abbrev columns : Name → List Name
  columns = declared cs

  abbrev used : ℕ → Bool
  used port = is_some (rule_use names a rule port)

  abbrev gate : ℕ
  gate = rule_gate names a rule

  -- the records of a class
  abbrev pub of : Row → Sets → Sets
  of class arriving = of_class names (Module a) key class_of class arriving

  abbrev pub kept_after : List Sets → Sets
  kept_after done = tables_after_steps (Module a) done

  -- ---- cones

  whole_cone : IsLeastClosed (named cs rule.1) (arrows cs a.form.rules) (cone cs a.form.rules rule.1)
  whole_cone = closure-least (named cs rule.1) (arrows cs a.form.rules)

  -- the expression reads only what the rule reads
  abbrev pub IsInside : Query → Type 0
  IsInside q = within (cone cs a.form.rules q) (cone cs a.form.rules rule.1) ≡ true

  pub name_inside : (q : Query) → IsInside q → (n : Name) → Has n (names_of q) → IsBelow a checked rule n
  name_inside q inside n h =
      let own : IsLeastClosed (named cs q) (arrows cs a.form.rules) (cone cs a.form.rules q) = closure-least (named cs q) (arrows cs a.form.rules) in
      let there = in-within (number_of a checked n) (named cs q) (cone cs a.form.rules q) (small_number a checked n) (in_named cs q n h (small_number a checked n)) own.contains in
      in-within (number_of a checked n) (cone cs a.form.rules q) (cone cs a.form.rules rule.1) (small_number a checked n) there inside

  pub rule_inside : (n : Name) → IsBelow a checked rule n → (other : RuleForm) → Has other (rules_named a checked n) → IsInside other.1
  rule_inside n below other of_head =
      let s = rule_stands a checked (number_of a checked n) other of_head in
      let fires : within (bit_of (number_of a checked other.0)) (cone cs a.form.rules rule.1) ≡ true = rw s.1 (meets-within (number_of a checked n) (cone cs a.form.rules rule.1) below) in
      let own : IsLeastClosed (named cs other.1) (arrows cs a.form.rules) (cone cs a.form.rules other.1) = closure-least (named cs other.1) (arrows cs a.form.rules) in
      own.least (cone cs a.form.rules rule.1) (closed-map (arrow cs) a.form.rules (cone cs a.form.rules rule.1) whole_cone.closed other s.0 fires) whole_cone.closed

  left_inside : (p q : Query) (pairs : List (Name × Name)) → IsInside (join p q pairs) → IsInside p
  left_inside p q pairs inside = within-trans (cone cs a.form.rules p) (cone cs a.form.rules (join p q pairs)) (cone cs a.form.rules rule.1)
      (least-monotone (named cs p) (named cs (join p q pairs)) (arrows cs a.form.rules) _ _ (within-or_l (named cs p) (named cs q)) (closure-least (named cs p) (arrows cs a.form.rules)) (closure-least (named cs (join p q pairs)) (arrows cs a.form.rules))) inside

  right_inside : (p q : Query) (pairs : List (Name × Name)) → IsInside (join p q pairs) → IsInside q
  right_inside p q pairs inside = within-trans (cone cs a.form.rules q) (cone cs a.form.rules (join p q pairs)) (cone cs a.form.rules rule.1)
      (least-monotone (named cs q) (named cs (join p q pairs)) (arrows cs a.form.rules) _ _ (within-or_r (named cs p) (named cs q)) (closure-least (named cs q) (arrows cs a.form.rules)) (closure-least (named cs (join p q pairs)) (arrows cs a.form.rules))) inside

  -- ---- origins of a class

  pub used_port : (port : ℕ) → port < length (port_columns (Module a))
      → meets (bit_of (number_in_kind Input cs port)) (cone cs a.form.rules rule.1) ≡ true → used port ≡ true
  used_port port lt there =
      let m = at_place Input cs port lt in
      let same : m.number ≡ number_in_kind Input cs port = sym (number_at_place Input cs m.number m.is) ∙ ap (number_in_kind Input cs) m.stands in
      let is : kind_at cs (number_in_kind Input cs port) ≡ Some Input = subst (λ (k : ℕ). kind_at cs k ≡ Some Input) same m.is in
      uses_by_cone a.form a.heads checked rule (number_in_kind Input cs port) stands is (good_tables a) gate ∙ there

  -- a record of a class of which all columns of a row that have roots are copies
  pub record IsTraced (class : Row) (roots : Roots) (row : Row) : Type 0 where
    pub source : Arriving (Module a) all used
    pub of_class : class_of (key_of names (columns_at (Module a) source.port) key source.row) ≡ class
    pub is : IsCopyOf names (columns_at (Module a) source.port) source.row roots row

  module _ (done : List Sets) (arriving : Sets) (among : (other : Sets) → Has other (done ++ arriving ∷ []) → Has other all) where
    traced : (class : Row) (q : Query) → IsInside q → (row : Row)
        → Has row (query_rows a q (kept_after (map (of class) done)) (of class arriving))
        → IsTraced class (query_roots names a q) row
    traced class q inside row h =
        let split : map (of class) (done ++ arriving ∷ []) ≡ map (of class) done ++ of class arriving ∷ [] = map-append (of class) done (arriving ∷ []) in
        let own : AreArrivals (Module a) (done ++ arriving ∷ []) = λ k d lt. All-of_member (AreSetsOf (port_columns (Module a))) all (get_or (done ++ arriving ∷ []) k d) arrivals (among _ (Has-get_or (done ++ arriving ∷ []) k d lt)) in
        let parts : AreArrivals (Module a) (map (of class) done ++ of class arriving ∷ []) = subst (λ (nows : List Sets). AreArrivals (Module a) nows) split (arrivals_of_class names (Module a) key class_of class (done ++ arriving ∷ []) own) in
        let o = module_expressions names a checked (map (of class) done) (of class arriving) q row parts h in
        let m = Has-from_map (of class) o.now (done ++ arriving ∷ []) (subst (λ (nows : List Sets). Has o.now nows) (sym split) o.came) in
        let c = from_class names (Module a) key class_of class m.0 o.port o.copied (subst (λ (n : Sets). Has o.copied (set_at n o.port)) (sym m.2) o.arrived) in
        let read : meets (bit_of (number_in_kind Input cs o.port)) (cone cs a.form.rules rule.1) ≡ true = in_cone_of_rule q inside o.port c.within o.source in
        record {
          source = record { port = o.port; used = used_port o.port c.within read; now = m.0; came = among m.0 m.1; row = o.copied; stands = c.stands };
          of_class = c.is;
          is = o.is;
        }
      where
        in_cone_of_rule : (q : Query) → IsInside q → (port : ℕ) → port < length (port_columns (Module a))
            → meets (bit_of (number_in_kind Input cs port)) (cone cs a.form.rules q) ≡ true
            → meets (bit_of (number_in_kind Input cs port)) (cone cs a.form.rules rule.1) ≡ true
        in_cone_of_rule q inside port lt h = in-within (number_in_kind Input cs port) (cone cs a.form.rules q) (cone cs a.form.rules rule.1) (member_small (number_in_kind Input cs port) (cone cs a.form.rules q) h) h inside

    -- ---- one class

    -- rows that agree in the attributes of a set in which the gate lies are of one class
    one_class : (set : ℕ) → within gate set ≡ true → (i j : Row) (first second : Roots) (l r : Row) → IsTraced i first l
        → IsTraced j second r
        → ((n : ℕ) → meets (bit_of n) set ≡ true → (left : ℕ) × (right : ℕ) × (root_at first left ≡ Some n) × (root_at second right ≡ Some n) × (cell l left ≡ cell r right))
        → i ≡ j
    one_class set inside i j first second l r s t same =
        let x = s.source in let y = t.source in
        let left = columns_at (Module a) x.port in let right = columns_at (Module a) y.port in
        let has_x : HasAll names (Module a) x set = λ n h. let p = same n h in let c = s.is p.0 n p.2 in has_root names left c.0 n c.1 in
        let has_y : HasAll names (Module a) y set = λ n h. let p = same n h in let c = t.is p.1 n p.3 in has_root names right c.0 n c.1 in
        let agree_xy : AgreeOn names (Module a) x y set = λ n h.
        let p = same n h in
        let c = s.is p.0 n p.2 in
        let d = t.is p.1 n p.3 in
        value_is names left (own_columns a checked x.port) x.row c.0 n c.1 ∙ sym c.2 ∙ p.4 ∙ d.2 ∙ sym (value_is names right (own_columns a checked y.port) y.row d.0 n d.1) in
        sym s.of_class ∙ ap class_of (one_key names (Module a) all used fds key keyed gate set inside closed x y has_x has_y agree_xy) ∙ t.of_class

    -- ---- operators

    abbrev pub each : Row → Env
    each class = end_env a (kept_after (map (of class) done)) (of class arriving)

    abbrev pub whole : Env
    whole = end_env a (kept_after done) arriving

    abbrev mixed : Query → Bool
    mixed q = mixes cs (facts_of cs a.form.rules) q

    abbrev roots : Query → Roots
    roots q = query_roots names a q

    -- the set of the roots of some keys
    abbrev keys_set : Query → List Name → ℕ
    keys_set q keys = set_of_roots (roots_at (roots q) (column_numbers (columns_of columns q) keys))

    -- a table-only expression over sorted tables
    sorted_part : (env : Env) → IsEnd a checked env → (q : Query) → now a checked q ≡ false
        → ((n : Name) → Has n (names_of q) → IsRead a checked n) → IsRowSet (rows_of columns env q)
    sorted_part env ended q later known = sorted_rows columns env q (λ n h. elim (known n h) [
      | inl is ↦ absurd (true≢false (sym (port_now a checked q n (named_in a checked q n h) is) ∙ later))
      | inr (inl is) ↦ ended.tables n is
      | inr (inr is) ↦ subst (λ (rows : List Row). IsRowSet rows) (sym (ended.scratches n is)) (sorted_set_of (union_of columns env (rules_named a checked n)))
    ])

    apart : (p q : Query) (pairs : List (Name × Name)) → IsInside (join p q pairs) → IsGated names a gate (join p q pairs) → AreApart columns {J = Row} each whole p q (pair_numbers (columns_of columns p) (columns_of columns q) pairs)
    apart p q pairs inside gated i j l r in_l in_r agrees =
        let numbers = pair_numbers (columns_of columns p) (columns_of columns q) pairs in
        one_class _ (gated _ (inl refl)) i j (roots p) (roots q) l r (traced i p (left_inside p q pairs inside) l in_l) (traced j q (right_inside p q pairs inside) r in_r) (λ n h.
        let m = in_pairs numbers (roots p) (roots q) n h in
        let same = all_member (λ (pair : ℕ × ℕ). eq_by_cmp value_cmp (cell l pair.0) (cell r pair.1)) numbers m.0 agrees m.1 in
        (m.0.0, m.0.1, m.2, m.3, value_cmp_exact (cell l m.0.0) (cell r m.0.1) ((Equal-is (value_cmp (cell l m.0.0) (cell r m.0.1))).0 same)))

    kept_apart : (q : Query) (keys : List Name) → IsInside q → within gate (keys_set q keys) ≡ true → now a checked q ≡ false → ((n : Name) → Has n (names_of q) → IsRead a checked n) → AreKeptApart columns {J = Row} each whole q (column_numbers (columns_of columns q) keys)
    kept_apart q keys inside gated later known =
        let numbers = column_numbers (columns_of columns q) keys in
        record {
          apart = λ i j r s in_r in_s same. one_class (keys_set q keys) gated i j (roots q) (roots q) r s (traced i q inside r in_r) (traced j q inside s in_s) (λ n h.
              let m = in_keys (roots q) numbers n h in (m.0, m.0, m.2, m.2, cells_at numbers r s same m.0 m.1));
          sorted = λ j. sorted_part (each j) (is_end a checked (kept_after (map (of j) done)) (of j arriving)) q later known;
          whole_sorted = sorted_part whole (is_end a checked (kept_after done) arriving) q later known;
        }

    pub keeps_apart : (q : Query) → IsInside q → IsGated names a gate q → mixed q ≡ false → ((n : Name) → Has n (names_of q) → IsRead a checked n) → KeepsApart columns {J = Row} each whole q
    keeps_apart (base name) inside gated unmixed known = tt
    keeps_apart (select q f) inside gated unmixed known = keeps_apart q inside gated unmixed known
    keeps_apart (project q items) inside gated unmixed known = keeps_apart q inside gated unmixed known
    keeps_apart (join p q pairs) inside gated unmixed known =
        let none = neither (mixed p) _ unmixed in
        let others = neither (mixed q) _ none.1 in (
          apart p q pairs inside gated,
          keeps_apart p (left_inside p q pairs inside) (λ set h. gated set (inr (Has-append_left set (sets_of names a p) (sets_of names a q) h))) none.0 (λ n h. known n (Has-append_left n (names_of p) (names_of q) h)),
          keeps_apart q (right_inside p q pairs inside) (λ set h. gated set (inr (Has-append_right set (sets_of names a p) (sets_of names a q) h))) others.0 (λ n h. known n (Has-append_right n (names_of p) (names_of q) h)),
        )
    keeps_apart (notin p q pairs) inside gated unmixed known =
        let none = neither (mixed p) _ unmixed in
        let others = neither (mixed q) _ none.1 in (
          apart p q pairs inside gated,
          keeps_apart p (left_inside p q pairs inside) (λ set h. gated set (inr (Has-append_left set (sets_of names a p) (sets_of names a q) h))) none.0 (λ n h. known n (Has-append_left n (names_of p) (names_of q) h)),
          keeps_apart q (right_inside p q pairs inside) (λ set h. gated set (inr (Has-append_right set (sets_of names a p) (sets_of names a q) h))) others.0 (λ n h. known n (Has-append_right n (names_of p) (names_of q) h)),
        )
    keeps_apart (group q keys agg name) inside gated unmixed known =
        let none = neither (mixed q) (now a checked q) unmixed in
        (kept_apart q keys inside (gated _ (inl refl)) none.1 known, keeps_apart q inside (λ set h. gated set (inr h)) none.0 known)
    keeps_apart (at_least q keys bound) inside gated unmixed known =
        let none = neither (mixed q) (now a checked q) unmixed in
        (kept_apart q keys inside (gated _ (inl refl)) none.1 known, keeps_apart q inside (λ set h. gated set (inr h)) none.0 known)
