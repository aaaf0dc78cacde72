-- Origins of the rows of a module, over any steps.
use Rattle.std.proofs.Common.{◌≡◌, ℕ, true, false, List, [], ◌∷◌, ◌++◌, get_or, Option, None, Some, refl, ◌∙◌, sym, subst, ◌⊎◌, inl, inr}
use Rattle.std.specs.List.{fold}
use Rattle.std.specs.Option.{option_map_or}
use Rattle.std.proofs.lemmas.Bool.{eq-eqb}
use Rattle.std.specs.Prelude.{◌==◌}
use Rattle.blz_value.specs.Members.{Has}
use Rattle.blz_value.specs.Record.{Row}
use Rattle.blz_value.proofs.Membership.{All-of_member, Has-append_left, Has-append_right, Has-filter}
use Rattle.blz_value.specs.Bits.{bit_of, meets}
use Rattle.blz_value.specs.Closure.{closure}
use Rattle.bloom_forms.proofs.Ends.StepsLemmas.{no_row}
use Rattle.bloom_forms.specs.declared.module.Kind.{Kind}
use Rattle.bloom_forms.specs.declared.module.Kind.TheVariants.{Input, Output, Table, Scratch}
use Rattle.bloom_forms.specs.declared.program.Program.TheVariants.{Module}
use Rattle.bloom_forms.specs.Checks.{IsChecked}
use Rattle.bloom_forms.specs.Form.{RuleForm, Accepted}
use Rattle.bloom_forms.specs.Heads.{IsDerived}
use Rattle.bloom_forms.specs.Kinds.{is_head, place_in_kind}
use Rattle.bloom_forms.specs.Lookup.{collection_number, kind_of}
use Rattle.bloom_forms.specs.Program.{columns_of_kind, port_columns, table_columns}
use Rattle.bloom_forms.specs.ProgramStep.{tables_after_step, empty_tables}
use Rattle.bloom_forms.specs.Query.{Name}
use Rattle.bloom_forms.specs.Reads.{arrows, named}
use Rattle.bloom_forms.specs.Step.{Sets, at_end}
use Rattle.bloom_forms.specs.Widths.{AreSetsOf}
use Rattle.bloom_forms.specs.KindNumbers.{number_in_kind}
use Rattle.bloom_forms.specs.Steps.{tables_after_steps, AreArrivals}
use Rattle.bloom_forms.proofs.Ends.Equated.{length-at_end}
use Rattle.bloom_forms.proofs.Collections.Numbers.{kind-number, derived_or}
use Rattle.bloom_forms.proofs.Collections.KindNumbersLemmas.{columns-of_kind, number-place, row-of_kind}
use Rattle.bloom_forms.specs.Copies.{IsCopyOf, HasOrigin}
use Rattle.bloom_forms.specs.CopiesLaw.{ExpressionsHaveOrigins, RulesHaveOrigins, OutputsHaveOrigins, query_roots}
use Rattle.bloom_forms.specs.HeadRoots.{roots_numbered, roots_table}
use Rattle.bloom_forms.specs.Roots.{Roots}
use Rattle.bloom_forms.proofs.Copies.Arrived.{IsArrived, HasArrived, query_arrived, rule_arrived}
use Rattle.bloom_forms.proofs.Copies.Runs.{KeptArrived, input_same, all_arrived, tables_arrived}

-- what holds of empty tables and stays over each step over one of some arrivals holds after any such steps
pub stays : (P : Sets → Type 0) (step : Sets → Sets → Sets) (all nows : List Sets) → ((kept now : Sets) → Has now all → P kept → P (step kept now)) → ((now : Sets) → Has now nows → Has now all) → (kept : Sets) → P kept → P (fold step kept nows)
stays P step all [] each inside kept holds = holds
stays P step all (now ∷ nows) each inside kept holds = stays P step all nows each (λ n h. inside n (inr h)) (step kept now) (each kept now (inside now (inl refl)) holds)

pub now_among : (earlier : List Sets) (now : Sets) → Has now (earlier ++ now ∷ [])
now_among earlier now = Has-append_right now earlier (now ∷ []) (inl refl)

pub earlier_among : (earlier : List Sets) (now other : Sets) → Has other earlier → Has other (earlier ++ now ∷ [])
earlier_among earlier now other h = Has-append_left other earlier (now ∷ []) h

-- a copy of a record that arrived has it as its origin
origin : (names : List Name) (a : Accepted) (all : List Sets) (read : ℕ) (given : Roots) (row : Row) → IsArrived names a all read given row
    → HasOrigin names (Module a) all (λ port. meets (bit_of (number_in_kind Input a.form.collections port)) (closure read (arrows a.form.collections a.form.rules))) given row
origin names a all read given row arrived =
    let cs = a.form.collections in
    let port = place_in_kind Input cs arrived.number in
    let input = input_same arrived.port.kind arrived.is_port in
    let number : number_in_kind Input cs port ≡ arrived.number = number-place Input cs arrived.number arrived.port arrived.stands input in
    let columns : get_or (columns_of_kind Input cs) port [] ≡ arrived.port.columns = columns-of_kind Input cs arrived.number arrived.port arrived.stands input in
    record {
      now = arrived.now;
      came = arrived.came;
      port = port;
      source = subst (λ (n : ℕ). meets (bit_of n) (closure read (arrows cs a.form.rules)) ≡ true) (sym number) arrived.fed;
      copied = arrived.source;
      arrived = arrived.arrived;
      is = subst (λ (own : List Name). IsCopyOf names own arrived.source given row) (sym columns) arrived.are;
    }

-- a rule's head is no input
head_derived : (a : Accepted) → IsChecked a.form a.heads → (rule : RuleForm) → Has rule a.form.rules → IsDerived a.form.collections (collection_number a.form.collections rule.0)
head_derived a checked rule stands = elim (derived_or a.form.collections (collection_number a.form.collections rule.0)) [
  | inl derived ↦ derived
  | inr is ↦ absurd (no_head (kind_of a.form.collections rule.0) (checked.rules rule stands).head (elim is [ inl e ↦ inl (sym (kind-number a.form.collections rule.0) ∙ e) | inr e ↦ inr (sym (kind-number a.form.collections rule.0) ∙ e) ]))
]
  where
    no_head : (o : Option Kind) → option_map_or is_head o false ≡ true → (o ≡ None) ⊎ (o ≡ Some Input) → ⊥
    no_head None holds is = cc
    no_head (Some Input) holds is = cc
    no_head (Some Output) holds (inl e) = cc
    no_head (Some Output) holds (inr e) = cc
    no_head (Some Table) holds (inl e) = cc
    no_head (Some Table) holds (inr e) = cc
    no_head (Some Scratch) holds (inl e) = cc
    no_head (Some Scratch) holds (inr e) = cc

module _ (names : List Name) (a : Accepted) (checked : IsChecked a.form a.heads) where
  module _ (earlier : List Sets) (now : Sets) (arrivals : AreArrivals (Module a) (earlier ++ now ∷ [])) where
    abbrev all : List Sets
    all = earlier ++ now ∷ []

    abbrev kept : Sets
    kept = tables_after_steps (Module a) earlier

    sets_of : (other : Sets) → Has other all → AreSetsOf (port_columns (Module a)) other
    sets_of other h = All-of_member (AreSetsOf (port_columns (Module a))) all other arrivals h

    kept_arrived : KeptArrived names a all kept
    kept_arrived =
        stays (KeptArrived names a all) (tables_after_step (Module a)) all earlier
        (λ old other h holds. tables_arrived names a all checked.few_collections checked.ordered old other h (sets_of other h) holds)
        (earlier_among earlier now) (empty_tables (Module a)) (λ k is row h. absurd (no_row (table_columns (Module a)) (place_in_kind Table a.form.collections k) row h))

    arrived : (k : ℕ) → HasArrived names a all checked.few_collections (at_end a kept now) k
    arrived = all_arrived names a all checked.few_collections checked.ordered kept now (now_among earlier now) (sets_of now (now_among earlier now)) kept_arrived

  pub module_expressions : ExpressionsHaveOrigins names a
  module_expressions earlier now q row arrivals h =
      let cs = a.form.collections in
      origin names a (earlier ++ now ∷ []) (named cs q) (query_roots names a q) row
      (query_arrived names a (earlier ++ now ∷ []) checked.few_collections (at_end a (kept earlier now arrivals) now) (length-at_end a (kept earlier now arrivals) now) q (λ n read. arrived earlier now arrivals (collection_number cs n)) row h)

  pub module_rules : RulesHaveOrigins names a
  module_rules earlier now rule row arrivals stands h =
      let cs = a.form.collections in
      let head = collection_number cs rule.0 in
      let of_head = Has-filter (λ (r : RuleForm). collection_number cs r.0 == head) rule a.form.rules stands (eq-eqb head head refl) in
      origin names a (earlier ++ now ∷ []) (named cs rule.1) (roots_numbered (roots_table names a) head) row
      (rule_arrived names a (earlier ++ now ∷ []) checked.few_collections checked.ordered head (head_derived a checked rule stands) rule of_head row
      (query_arrived names a (earlier ++ now ∷ []) checked.few_collections (at_end a (kept earlier now arrivals) now) (length-at_end a (kept earlier now arrivals) now) rule.1 (λ n read. arrived earlier now arrivals (collection_number cs n)) row h))

  pub module_outputs : OutputsHaveOrigins names (Module a)
  module_outputs earlier now output row arrivals h =
      let cs = a.form.collections in
      let number = number_in_kind Output cs output in
      origin names a (earlier ++ now ∷ []) (bit_of number) (roots_numbered (roots_table names a) number) row
      (arrived earlier now arrivals number row (row-of_kind Output cs (at_end a (kept earlier now arrivals) now) output row h))
