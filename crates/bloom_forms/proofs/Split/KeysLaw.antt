-- Rows over the records of one value of a key have that value, in columns whose roots are the key.
use Rattle.std.proofs.Common.{◌≡◌, ◌++◌, ℕ, false, List, [], ◌∷◌, map, refl, ◌∙◌, sym, subst}
use Rattle.std.proofs.lemmas.List.{map-append}
use Rattle.blz_value.specs.Members.{Has}
use Rattle.blz_value.specs.Operators.{cells}
use Rattle.blz_value.specs.Record.{Row}
use Rattle.blz_value.specs.Test.{cell}
use Rattle.blz_value.proofs.Membership.{Has-get_or, Has-from_map}
use Rattle.bloom_forms.specs.declared.program.Program.{Program}
use Rattle.bloom_forms.specs.declared.program.Program.TheVariants.{Module}
use Rattle.bloom_forms.specs.Checks.{IsChecked}
use Rattle.bloom_forms.specs.Fits.{repeats}
use Rattle.bloom_forms.specs.Form.{Accepted}
use Rattle.bloom_forms.specs.Program.{port_columns}
use Rattle.bloom_forms.specs.Query.{Name}
use Rattle.bloom_forms.specs.Step.{Sets, set_at}
use Rattle.bloom_forms.specs.Steps.{AreArrivals}
use Rattle.bloom_forms.specs.Proper.{IsProper, HasDistinctColumns}
use Rattle.bloom_forms.proofs.Reach.ProperLemmas.{HasOwnColumns, module_own_columns, own_columns}
use Rattle.bloom_forms.specs.Copies.{IsCopyOf, HasOrigin}
use Rattle.bloom_forms.specs.Roots.{Roots}
use Rattle.bloom_forms.specs.Attributes.{value_in}
use Rattle.bloom_forms.proofs.Copies.AllOrigins.{outputs_origins}
use Rattle.bloom_forms.proofs.Copies.ModuleOrigins.{module_rules}
use Rattle.bloom_forms.proofs.Copies.AttributesLemmas.{value_is}
use Rattle.bloom_forms.specs.Classes.{columns_at, key_of, of_class}
use Rattle.bloom_forms.specs.Splitting.{AreKeyColumns, RulesKeepKeys, OutputsKeepKeys}
use Rattle.bloom_forms.proofs.Split.ClassesLemmas.{from_class, arrivals_of_class}

-- the values of a copy are those of its source
cells_of : (names columns : List Name) → repeats columns ≡ false → (source : Row) (roots : Roots) (row : Row)
    → IsCopyOf names columns source roots row → (numbers key : List ℕ) → AreKeyColumns roots numbers key
    → cells numbers row ≡ key_of names columns key source
cells_of names columns distinct source roots row copy [] [] are = refl
cells_of names columns distinct source roots row copy [] (attribute ∷ key) are = absurd are
cells_of names columns distinct source roots row copy (number ∷ numbers) [] are = absurd are
cells_of names columns distinct source roots row copy (number ∷ numbers) (attribute ∷ key) are =
    let c = copy number attribute are.0 in
    let first : cell row number ≡ value_in names columns source attribute = c.2 ∙ sym (value_is names columns distinct source c.0 attribute c.1) in
    let rest = cells_of names columns distinct source roots row copy numbers key are.1 in
    λ i. first i ∷ rest i

module _ (names : List Name) (program : Program) (own : HasOwnColumns program) (key : List ℕ) (value : Row) where
  abbrev part : Sets → Sets
  part now = of_class names program key (λ values. values) value now

  -- arrivals of one value, as those before a step and those of the step
  pub value_arrivals : (earlier : List Sets) (now : Sets) → AreArrivals program (earlier ++ now ∷ [])
      → AreArrivals program (map part earlier ++ part now ∷ [])
  value_arrivals earlier now arrivals = subst (λ (nows : List Sets). AreArrivals program nows) (map-append part earlier (now ∷ [])) (arrivals_of_class names program key (λ values. values) value (earlier ++ now ∷ []) arrivals)

  pub has_value : (earlier : List Sets) (now : Sets) (is_source : ℕ → _) (roots : Roots) (row : Row) (numbers : List ℕ)
      → HasOrigin names program (map part earlier ++ part now ∷ []) is_source roots row
      → AreKeyColumns roots numbers key → cells numbers row ≡ value
  has_value earlier now is_source roots row numbers o are =
      let m = Has-from_map part o.now (earlier ++ now ∷ []) (subst (λ (nows : List Sets). Has o.now nows) (sym (map-append part earlier (now ∷ []))) o.came) in
      let c = from_class names program key (λ values. values) value m.0 o.port o.copied (subst (λ (n : Sets). Has o.copied (set_at n o.port)) (sym m.2) o.arrived) in
      let distinct = own (columns_at program o.port) (Has-get_or (port_columns program) o.port [] c.within) in
      cells_of names (columns_at program o.port) distinct o.copied roots row o.is numbers key are ∙ c.is

pub rules_keep_keys : (names : List Name) (a : Accepted) → IsChecked a.form a.heads → RulesKeepKeys names a
rules_keep_keys names a checked rule stands earlier now key numbers value row arrivals are h =
    let own = module_own_columns a checked in
    let part : Sets → Sets = λ n. of_class names (Module a) key (λ values. values) value n in
    has_value names (Module a) own key value earlier now _ _ row numbers (module_rules names a checked (map part earlier) (part now) rule row (value_arrivals names (Module a) own key value earlier now arrivals) stands h) are

pub outputs_keep_keys : (names : List Name) (program : Program) → IsProper program → HasDistinctColumns program → OutputsKeepKeys names program
outputs_keep_keys names program proper distinct output earlier now key numbers value row arrivals are h =
    let own = own_columns program proper distinct in
    let part : Sets → Sets = λ n. of_class names program key (λ values. values) value n in
    has_value names program own key value earlier now _ _ row numbers (outputs_origins names program proper (map part earlier) (part now) output row (value_arrivals names program own key value earlier now arrivals) h) are
