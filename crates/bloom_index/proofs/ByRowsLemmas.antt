-- A module that keeps nothing and whose rules choose rows of ports: of one record it puts out what its rules choose.
-- Each rule has the record or nothing, so an output has it where one of its rules does, and no set that counts has more than one row.
use Rattle.std.proofs.Common.{◌≡◌, ◌<◌, ◌≤◌, ◌∙◌, ◌==◌, ◌&&◌, ◌||◌, ◌⊎◌, inl, inr, ℕ, zero, suc, Bool, true, false, cond, Option, None, Some, Result, Ok, Err, OnOk, List, [], ◌∷◌, ◌++◌, length, get_or, map, filter, refl, ap, sym, subst, arith}
use Rattle.std.specs.Option.{option_map_or}
use Rattle.std.specs.List.{All, list_all, list_any}
use Rattle.std.proofs.lemmas.Bool.{and_parts, cases_eq, true≢false, eq-eqb, ne_eqb}
use Rattle.std.proofs.lemmas.List.{length-map}
use Rattle.std.proofs.lemmas.List.FromFn.{length-map-range_with_len}
use Rattle.blz_value.specs.Members.{Has}
use Rattle.blz_value.specs.Record.{Row}
use Rattle.blz_value.specs.Sets.{set_of}
use Rattle.blz_value.specs.Test.{test_holds, TestFits}
use Rattle.blz_value.proofs.Membership.{Has-append_cases, Has-from_map, Has-get_or, all_member}
use Rattle.blz_value.proofs.SetLaws.{Has-set_of, Has-from_set_of, sorted_set_of, same_row_sets}
use Rattle.blz_set.specs.RecordSet.{row_limit}
use Rattle.bloom_forms.specs.declared.module.Kind.{Kind}
use Rattle.bloom_forms.specs.declared.module.Kind.TheVariants.{Input, Output, Table, Scratch}
use Rattle.bloom_forms.specs.declared.module.Collection.{Collection}
use Rattle.bloom_forms.specs.declared.numbered.NumberedExpr.{NumberedExpr, Base, Select', Project', Join', NotIn', Group', AtLeast'}
use Rattle.bloom_forms.specs.declared.numbered.NumberedRule.{NumberedRule}
use Rattle.bloom_forms.specs.Checks.{IsChecked}
use Rattle.bloom_forms.specs.Form.{RuleForm, Accepted}
use Rattle.bloom_forms.specs.KindNumbers.{number_in_kind}
use Rattle.bloom_forms.specs.Kinds.{same_kind, of_kind, kind_at, place_in_kind, is_input}
use Rattle.bloom_forms.specs.Lookup.{collection_number, declared}
use Rattle.bloom_forms.specs.Numbered.{IsNumbered, AreNumbered}
use Rattle.bloom_forms.specs.Program.{columns_of_kind}
use Rattle.bloom_forms.specs.Query.{Name, Query}
use Rattle.bloom_forms.specs.Query.Query.{base, select, project, join, notin, group, at_least}
use Rattle.bloom_forms.specs.Rows.{rows_of}
use Rattle.bloom_forms.specs.Step.{Sets, set_at, rows_named, rules_at, union_of, at_end, sets_of_kind, tables_after, outputs_of}
use Rattle.bloom_forms.specs.Widths.{AreSetsOf}
use Rattle.bloom_forms.proofs.Collections.KindNumbersLemmas.{number_at_place, place_within}
use Rattle.bloom_forms.proofs.Collections.Numbers.{derived-some, derived-no_port}
use Rattle.bloom_forms.proofs.Ends.EquationsLemmas.{port_end, output_end}
use Rattle.bloom_eval.specs.NumberedRows.{numbered_rows, numbered_sets, TestsFit}
use Rattle.bloom_eval.specs.StepAnswers.{AllFit, counted_sets, part_sets, rule_sets}
use Rattle.bloom_eval.proofs.ByNumbers.{same_rows, same_sets, tests_fit}
use Rattle.bloom_eval.specs.Arrivals.{timestep_of}
use Rattle.bloom_eval.proofs.Widths.{wide_named, length-sets_of}
use Rattle.bloom_index.specs.Code.ByRows.{is_port, is_choice, is_choice_of, is_passing, only_chooses, chooses, Fits, chooses_for, chosen_rows}
use Rattle.bloom_index.specs.declared.step.Parts.{Parts}
use Rattle.bloom_index.specs.Code.Kept.{kept_tables, PutsOut}
use Rattle.bloom_index.proofs.Arriving.{arrives_here, arrives_elsewhere}
use Rattle.bloom_index.proofs.KeptLemmas.{end_wide}

-- ---- which modules

-- an expression chooses by names exactly where it does by numbers
pub same_choice : (cs : List Collection) (q : Query) (e : NumberedExpr) → IsNumbered cs q e → is_choice_of cs e ≡ is_choice cs q
same_choice cs (base name) (Base number) is = ap (is_port cs) is
same_choice cs (select q f) (Select' p e test) is = same_choice cs q e is.0
same_choice cs (project q items) (Project' p e columns) is = refl
same_choice cs (join a b pairs) (Join' p left r right numbers) is = refl
same_choice cs (notin a b pairs) (NotIn' p left r right numbers) is = refl
same_choice cs (group q keys agg name) (Group' p e numbers by) is = refl
same_choice cs (at_least q keys bound) (AtLeast' p e numbers count) is = refl
same_choice cs q e is = absurd is

-- and so do all rules
pub same_choices : (cs : List Collection) (forms : List RuleForm) (rules : List NumberedRule) → AreNumbered cs forms rules → list_all (λ (rule : NumberedRule). is_choice_of cs rule.body) rules ≡ list_all (λ (rule : RuleForm). is_choice cs rule.1) forms
same_choices cs [] [] is = refl
same_choices cs [] (rule ∷ rules) is = absurd is
same_choices cs (form ∷ forms) [] is = absurd is
same_choices cs (form ∷ forms) (rule ∷ rules) is =
    let first = same_choice cs form.1 rule.body is.0.body in
    let others = same_choices cs forms rules is.1 in
    λ i. first i && others i

-- a collection that is a port
port_kind : (o : Option Kind) → option_map_or is_input o false ≡ true → o ≡ Some Input
port_kind None t = absurd (true≢false (sym t))
port_kind (Some Input) t = refl
port_kind (Some Output) t = absurd (true≢false (sym t))
port_kind (Some Table) t = absurd (true≢false (sym t))
port_kind (Some Scratch) t = absurd (true≢false (sym t))

-- ---- no tables

no_table : (kind : Kind) → is_passing kind ≡ true → same_kind Table kind ≡ false
no_table Input t = refl
no_table Output t = refl
no_table Table t = absurd (true≢false (sym t))
no_table Scratch t = absurd (true≢false (sym t))

pub no_tables_of : (cs : List Collection) → list_all (λ (c : Collection). is_passing c.kind) cs ≡ true → of_kind Table cs ≡ []
no_tables_of [] all = refl
no_tables_of (c ∷ cs) all =
    let parts = and_parts (is_passing c.kind) (list_all (λ (d : Collection). is_passing d.kind) cs) all in
    rw (no_table c.kind parts.0) (no_tables_of cs parts.1)

pub no_table_sets : (cs : List Collection) (sets : Sets) → list_all (λ (c : Collection). is_passing c.kind) cs ≡ true → sets_of_kind Table cs sets ≡ []
no_table_sets [] sets all = refl
no_table_sets (c ∷ cs) [] all = refl
no_table_sets (c ∷ cs) (rows ∷ sets) all =
    let parts = and_parts (is_passing c.kind) (list_all (λ (d : Collection). is_passing d.kind) cs) all in
    rw (no_table c.kind parts.0) (no_table_sets cs sets parts.1)

-- ---- the record or nothing

-- the rows of a test over the record or nothing
tested : (test : Row → Bool) (row : Row) (b : Bool) → set_of (filter test (cond b (row ∷ []) [])) ≡ cond (b && test row) (row ∷ []) []
tested test row false = refl
tested test row true = go (test row)
  where
    go : (t : Bool) → set_of (cond t (row ∷ []) []) ≡ cond t (row ∷ []) []
    go true = refl
    go false = refl

one_row : (b : Bool) (row : Row) → length (cond b (row ∷ []) []) ≤ row_limit
one_row true row = omega arith
one_row false row = omega arith

-- rows that are all the record, and are there where something holds
record AreRowIf (row : Row) (b : Bool) (rows : List Row) : Type 0 where
  only : (r : Row) → Has r rows → (row ≡ r) × (b ≡ true)
  all : b ≡ true → Has row rows

-- the set of them is the record or nothing
set_if : (row : Row) (b : Bool) (rows : List Row) → AreRowIf row b rows → set_of rows ≡ cond b (row ∷ []) []
set_if row true rows are = same_row_sets (set_of rows) (set_of (row ∷ [])) (sorted_set_of rows) (sorted_set_of (row ∷ [])) (
  λ r h. inl (are.only r (Has-from_set_of r rows h)).0,
  λ r h. elim h [ inl e ↦ subst (λ (q : Row). Has q (set_of rows)) e (Has-set_of row rows (are.all refl)) | inr none ↦ absurd none ],
)
set_if row false [] are = refl
set_if row false (r ∷ rows) are = absurd (true≢false (sym (are.only r (inl refl)).1))

-- and of more
rows_if : (row : Row) (b c : Bool) (rows : List Row) → AreRowIf row c rows → AreRowIf row (b || c) (cond b (row ∷ []) [] ++ rows)
rows_if row true c rows are = record {
  only = λ r h. elim h [ inl e ↦ (e, refl) | inr more ↦ ((are.only r more).0, refl) ];
  all = λ t. inl refl;
}
rows_if row false c rows are = are

-- ---- what a step gives

module _ (a : Accepted) (checked : IsChecked a.form a.heads) (chosen : only_chooses a.form ≡ true) (rules : List NumberedRule) (numbered : AreNumbered a.form.collections a.form.rules rules) where
  abbrev cs : List Collection
  cs = a.form.collections

  abbrev passes : Collection → Bool
  passes c = is_passing c.kind

  abbrev rule_choice : RuleForm → Bool
  rule_choice rule = is_choice cs rule.1

  abbrev body_choice : NumberedRule → Bool
  body_choice rule = is_choice_of cs rule.body

  pub passing : list_all passes cs ≡ true
  passing = (and_parts (list_all passes cs) (list_all rule_choice a.form.rules) chosen).0

  choosing : list_all body_choice rules ≡ true
  choosing = same_choices cs a.form.rules rules numbered ∙ (and_parts (list_all passes cs) (list_all rule_choice a.form.rules) chosen).1

  body_chooses : (rule : NumberedRule) → Has rule rules → is_choice_of cs rule.body ≡ true
  body_chooses rule among = all_member body_choice rules rule choosing among

  -- nothing is kept, and no set for a table is one for each
  pub no_kept_wide : AreSetsOf (columns_of_kind Table cs) []
  no_kept_wide = subst (λ (l : List Collection). AreSetsOf (map (λ (c : Collection). c.columns) l) []) (sym (no_tables_of cs passing)) tt

  module _ (now : Sets) (ports : AreSetsOf (columns_of_kind Input cs) now) (port : ℕ) (row : Row) (arrives : (k : ℕ) → kind_at cs k ≡ Some Input → set_at now (place_in_kind Input cs k) ≡ cond (k == port) (row ∷ []) []) where
    abbrev end : Sets
    end = at_end a [] now

    -- an expression has the record or nothing
    pub rows_chosen : (e : NumberedExpr) → is_choice_of cs e ≡ true → numbered_rows end e ≡ cond (chooses e port row) (row ∷ []) []
    rows_chosen (Base number) t =
        let is = port_kind (kind_at cs number) t in
        port_end a checked [] now number is ∙ arrives number is
    rows_chosen (Select' p e test) t =
        ap (λ (rows : List Row). set_of (filter (test_holds test) rows)) (rows_chosen e t) ∙ tested (test_holds test) row (chooses e port row)
    rows_chosen (Project' p e columns) t = absurd (true≢false (sym t))
    rows_chosen (Join' p left r right pairs) t = absurd (true≢false (sym t))
    rows_chosen (NotIn' p left r right pairs) t = absurd (true≢false (sym t))
    rows_chosen (Group' p e keys agg) t = absurd (true≢false (sym t))
    rows_chosen (AtLeast' p e keys bound) t = absurd (true≢false (sym t))

    -- and so has each part
    parts_fit : (e : NumberedExpr) → is_choice_of cs e ≡ true → AllFit (numbered_sets end e)
    parts_fit (Base number) t rows (inl e) = subst (λ (l : List Row). length l ≤ row_limit) (sym (rows_chosen (Base number) t) ∙ e) (one_row (chooses (Base number) port row) row)
    parts_fit (Base number) t rows (inr none) = absurd none
    parts_fit (Select' p e test) t rows (inl is) = subst (λ (l : List Row). length l ≤ row_limit) (sym (rows_chosen (Select' p e test) t) ∙ is) (one_row (chooses (Select' p e test) port row) row)
    parts_fit (Select' p e test) t rows (inr more) = parts_fit e t rows more
    parts_fit (Project' p e columns) t rows among = absurd (true≢false (sym t))
    parts_fit (Join' p left r right pairs) t rows among = absurd (true≢false (sym t))
    parts_fit (NotIn' p left r right pairs) t rows among = absurd (true≢false (sym t))
    parts_fit (Group' p e keys agg) t rows among = absurd (true≢false (sym t))
    parts_fit (AtLeast' p e keys bound) t rows among = absurd (true≢false (sym t))

    -- each test fits the record where it is asked of it
    fits_row : (e : NumberedExpr) → is_choice_of cs e ≡ true → TestsFit end e → Fits e port row
    fits_row (Base number) t fit = tt
    fits_row (Select' p e test) t fit = (fits_row e t fit.0, λ has. (subst (λ (rows : List Row). All (λ (r : Row). TestFits test (length r)) rows) (rows_chosen e t ∙ ap (λ (b : Bool). cond b (row ∷ []) []) has) fit.1) 0 row (omega arith))
    fits_row (Project' p e columns) t fit = tt
    fits_row (Join' p left r right pairs) t fit = tt
    fits_row (NotIn' p left r right pairs) t fit = tt
    fits_row (Group' p e keys agg) t fit = tt
    fits_row (AtLeast' p e keys bound) t fit = tt

    forms_fit : (forms : List RuleForm) (some : List NumberedRule) → AreNumbered cs forms some → list_all body_choice some ≡ true → (rule : NumberedRule) → Has rule some → Fits rule.body port row
    forms_fit [] [] is all rule among = absurd among
    forms_fit [] (r ∷ some) is all rule among = absurd is
    forms_fit (form ∷ forms) [] is all rule among = absurd is
    forms_fit (form ∷ forms) (r ∷ some) is all rule (inl e) =
        let parts = and_parts (body_choice r) (list_all body_choice some) all in
        subst (λ (x : NumberedRule). Fits x.body port row) e (fits_row r.body parts.0 (tests_fit cs end (wide_named cs end (end_wide a checked [] now no_kept_wide ports)) form.1 r.body is.0.body))
    forms_fit (form ∷ forms) (r ∷ some) is all rule (inr among) =
        forms_fit forms some is.1 (and_parts (body_choice r) (list_all body_choice some) all).1 rule among

    pub rules_fit : (rule : NumberedRule) → Has rule rules → Fits rule.body port row
    rules_fit = forms_fit a.form.rules rules numbered choosing

    -- ---- outputs

    abbrev given : List RuleForm → List Row
    given forms = union_of (declared cs) (rows_named cs end) forms

    forms_give : (head : ℕ) (forms : List RuleForm) (some : List NumberedRule) → AreNumbered cs forms some → list_all body_choice some ≡ true → AreRowIf row (list_any (chooses_for head port row) some) (given (rules_at cs forms head))
    forms_give head [] [] is all = record { only = λ r none. absurd none; all = λ t. absurd (true≢false (sym t)) }
    forms_give head [] (r ∷ some) is all = absurd is
    forms_give head (form ∷ forms) [] is all = absurd is
    forms_give head (form ∷ forms) (r ∷ some) is all =
        let parts = and_parts (body_choice r) (list_all body_choice some) all in
        let others = list_any (chooses_for head port row) some in
        let rest : AreRowIf row others (given (rules_at cs forms head)) = forms_give head forms some is.1 parts.1 in
        let own : rows_of (declared cs) (rows_named cs end) form.1 ≡ cond (chooses r.body port row) (row ∷ []) [] = sym (same_rows cs end form.1 r.body is.0.body) ∙ rows_chosen r.body parts.0 in
        let named : (r.head == head) ≡ (collection_number cs form.0 == head) = ap (λ (n : ℕ). n == head) is.0.head in
        let step : (b : Bool) → AreRowIf row ((b && chooses r.body port row) || others) (given (cond b (form ∷ rules_at cs forms head) (rules_at cs forms head))) = λ b. elim b as (λ (d : Bool). AreRowIf row ((d && chooses r.body port row) || others) (given (cond d (form ∷ rules_at cs forms head) (rules_at cs forms head)))) [
          | true ↦ subst (λ (l : List Row). AreRowIf row (chooses r.body port row || others) (l ++ given (rules_at cs forms head))) (sym own) (rows_if row (chooses r.body port row) others (given (rules_at cs forms head)) rest)
          | false ↦ rest
        ] in
        subst (λ (b : Bool). AreRowIf row ((b && chooses r.body port row) || others) (given (rules_at cs (form ∷ forms) head))) (sym named) (step (collection_number cs form.0 == head))

    -- an output has what its rules choose
    pub output_chosen : (k : ℕ) → kind_at cs k ≡ Some Output → set_at end k ≡ chosen_rows rules port row k
    output_chosen k is =
        output_end a checked [] now k is
        ∙ set_if row (list_any (chooses_for k port row) rules) (given (rules_at cs a.form.rules k)) (forms_give k a.form.rules rules numbered choosing)

    -- ---- the sets that count

    passing_at : (l : List Collection) → list_all passes l ≡ true → (k : ℕ) → (kind_at l k ≡ None) ⊎ ((kind_at l k ≡ Some Input) ⊎ (kind_at l k ≡ Some Output))
    passing_at [] all k = inl refl
    passing_at (c ∷ l) all zero = by_kind c.kind (and_parts (passes c) (list_all passes l) all).0
      where
        by_kind : (kind : Kind) → is_passing kind ≡ true → (Some kind ≡ None) ⊎ ((Some kind ≡ Some Input) ⊎ (Some kind ≡ Some Output))
        by_kind Input t = inr (inl refl)
        by_kind Output t = inr (inr refl)
        by_kind Table t = absurd (true≢false (sym t))
        by_kind Scratch t = absurd (true≢false (sym t))
    passing_at (c ∷ l) all (suc k) = passing_at l (and_parts (passes c) (list_all passes l) all).1 k

    head_fits : (k : ℕ) → Has k a.heads → length (set_at end k) ≤ row_limit
    head_fits k among = elim (passing_at cs passing k) [
      | inl none ↦ absurd (derived-some cs k (checked.ordered.none_else k among) none)
      | inr other ↦ elim other [
        | inl is ↦ absurd (derived-no_port cs k (checked.ordered.none_else k among) is)
        | inr is ↦ subst (λ (l : List Row). length l ≤ row_limit) (sym (output_chosen k is)) (one_row (list_any (chooses_for k port row) rules) row)
      ]
    ]

    bodies_fit : (forms : List RuleForm) (some : List NumberedRule) → AreNumbered cs forms some → list_all body_choice some ≡ true → AllFit (rule_sets (declared cs) (rows_named cs end) forms)
    bodies_fit [] [] is all rows among = absurd among
    bodies_fit [] (r ∷ some) is all rows among = absurd is
    bodies_fit (form ∷ forms) [] is all rows among = absurd is
    bodies_fit (form ∷ forms) (r ∷ some) is all rows among =
        let parts = and_parts (body_choice r) (list_all body_choice some) all in
        elim (Has-append_cases rows (part_sets (declared cs) (rows_named cs end) form.1) (rule_sets (declared cs) (rows_named cs end) forms) among) [
          | inl own ↦ parts_fit r.body parts.0 rows (subst (λ (l : Sets). Has rows l) (sym (same_sets cs end form.1 r.body is.0.body)) own)
          | inr later ↦ bodies_fit forms some is.1 parts.1 rows later
        ]

    pub all_fit : AllFit (counted_sets a [] now)
    all_fit rows among = elim (Has-append_cases rows (map (set_at end) a.heads) (rule_sets (declared cs) (rows_named cs end) a.form.rules) among) [
      | inl own ↦
          let h = Has-from_map (set_at end) rows a.heads own in
          subst (λ (l : List Row). length l ≤ row_limit) h.2 (head_fits h.0 h.1)
      | inr later ↦ bodies_fit a.form.rules rules numbered choosing rows later
    ]

-- ---- what arrives

-- one record arrives at a port, and nothing at any other
pub arrives_once : (cs : List Collection) (ports at port : ℕ) (row : Row) → kind_at cs port ≡ Some Input → place_in_kind Input cs port ≡ at → ((k : ℕ) → kind_at cs k ≡ Some Input → place_in_kind Input cs k < length (timestep_of ports ((at, row) ∷ [])))
    → (k : ℕ) → kind_at cs k ≡ Some Input → set_at (timestep_of ports ((at, row) ∷ [])) (place_in_kind Input cs k) ≡ cond (k == port) (row ∷ []) []
arrives_once cs ports at port row is place within k other = elim (cases_eq k port) [
  | inl e ↦
      sym (arrives_here ports at row (place_in_kind Input cs k) (within k other) (eq-eqb at (place_in_kind Input cs k) (sym place ∙ ap (place_in_kind Input cs) (sym e))))
      ∙ sym (ap (λ (b : Bool). cond b (row ∷ []) []) (eq-eqb k port e))
  | inr apart ↦
      sym (arrives_elsewhere ports at row (place_in_kind Input cs k) (within k other) (ne_eqb at (place_in_kind Input cs k) (λ same. apart (sym (number_at_place Input cs k other) ∙ ap (number_in_kind Input cs) (sym same ∙ sym place) ∙ number_at_place Input cs port is))))
      ∙ sym (ap (λ (b : Bool). cond b (row ∷ []) []) (ne_eqb k port apart))
]

-- each port has a set
pub port_within : (cs : List Collection) (now : Sets) → AreSetsOf (columns_of_kind Input cs) now → (k : ℕ) → kind_at cs k ≡ Some Input → place_in_kind Input cs k < length now
port_within cs now wide k is = omega (arith, place_within Input cs k is, length-sets_of (columns_of_kind Input cs) now wide)

-- ---- what is put out

-- all that the outputs have is what they may put out
pub puts_all : (a : Accepted) (kept now outs : Sets) → outs ≡ outputs_of a kept now → PutsOut a kept now outs
puts_all a kept now outs is = subst (PutsOut a kept now) (sym is) (record { many = refl; only = λ place row h. h; new = λ place row h lacks. h })

-- ---- a step over one record

-- a port has a place among the ports
pub port_place : (cs : List Collection) (ports at : ℕ) (row : Row) → at < ports → AreSetsOf (columns_of_kind Input cs) (timestep_of ports ((at, row) ∷ [])) → at < length (of_kind Input cs)
port_place cs ports at row lt wide =
    let at_port : ℕ → List Row = λ n. set_of (map (λ (entry : ℕ × Row). entry.1) (filter (λ (entry : ℕ × Row). entry.0 == n) ((at, row) ∷ []))) in
    omega (arith, lt, length-map-range_with_len at_port 0 ports, length-sets_of (columns_of_kind Input cs) (timestep_of ports ((at, row) ∷ [])) wide, length-map (of_kind Input cs) (λ (c : Collection). c.columns))

module _ (a : Accepted) (checked : IsChecked a.form a.heads) (chosen : only_chooses a.form ≡ true) (rules : List NumberedRule) (numbered : AreNumbered a.form.collections a.form.rules rules) (ports at port : ℕ) (row : Row) (is : kind_at a.form.collections port ≡ Some Input) (place : place_in_kind Input a.form.collections port ≡ at) (wide : AreSetsOf (columns_of_kind Input a.form.collections) (timestep_of ports ((at, row) ∷ []))) where
  abbrev one : Sets
  one = timestep_of ports ((at, row) ∷ [])

  comes : (k : ℕ) → kind_at a.form.collections k ≡ Some Input → set_at one (place_in_kind Input a.form.collections k) ≡ cond (k == port) (row ∷ []) []
  comes = arrives_once a.form.collections ports at port row is place (λ k other. port_within a.form.collections one wide k other)

  pub row_fits : All (λ (rule : NumberedRule). Fits rule.body port row) rules
  row_fits k d lt = rules_fit a checked chosen rules numbered one wide port row comes (get_or rules k d) (Has-get_or rules k d lt)

  pub row_put : (k : ℕ) → kind_at a.form.collections k ≡ Some Output → set_at (at_end a [] one) k ≡ chosen_rows rules port row k
  row_put k out = output_chosen a checked chosen rules numbered one wide port row comes k out

  pub row_few : AllFit (counted_sets a [] one)
  row_few = all_fit a checked chosen rules numbered one wide port row comes

-- ---- nothing is kept

module _ (a : Accepted) (chosen : only_chooses a.form ≡ true) where
  no_table_here : list_all (λ (c : Collection). is_passing c.kind) a.form.collections ≡ true
  no_table_here = (and_parts (list_all (λ (c : Collection). is_passing c.kind) a.form.collections) (list_all (λ (rule : RuleForm). is_choice a.form.collections rule.1) a.form.rules) chosen).0

  pub none_kept : (parts : Option Parts) → kept_tables a parts ≡ []
  none_kept None = ap (λ (l : List Collection). map (λ (columns : List Name). []) (map (λ (c : Collection). c.columns) l)) (no_tables_of a.form.collections no_table_here)
  none_kept (Some parts) = no_table_sets a.form.collections parts.rows.items no_table_here

  pub none_after : (kept now : Sets) → tables_after a kept now ≡ []
  none_after kept now = no_table_sets a.form.collections (at_end a kept now) no_table_here

-- ---- answers

-- what follows where there is one
pub on_ok : {X Y : Type 0} (P Q : Type 0) (r : Result X Y) → (P → Q) → OnOk r P → OnOk r Q
on_ok P Q (Ok x) then h = then h
on_ok P Q (Err e) then h = h

-- and what holds anyway
pub on_any : {X Y : Type 0} {Q : Type 0} (r : Result X Y) → Q → OnOk r Q
on_any (Ok x) q = q
on_any (Err e) q = tt
