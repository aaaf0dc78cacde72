-- A checked module can be run.
use Rattle.std.proofs.Common.{◌≡◌, ◌≢◌, ℕ, true, false, Option, None, Some, List, slice_get, refl, sym, ◌∙◌}
use Rattle.std.specs.Option.{option_map, option_map_or}
use Rattle.bloom_forms.specs.declared.module.Kind.{Kind}
use Rattle.bloom_forms.specs.declared.module.Kind.TheVariants.{Input}
use Rattle.bloom_forms.specs.declared.module.Collection.{Collection}
use Rattle.bloom_forms.specs.Checks.{IsRule, IsChecked}
use Rattle.bloom_forms.specs.Form.{RuleForm, Form, Accepted}
use Rattle.bloom_forms.specs.Heads.{IsDerived}
use Rattle.bloom_forms.specs.Kinds.{has_kind, is_head}
use Rattle.bloom_forms.specs.Lookup.{collection_named, collection_number}
use Rattle.bloom_forms.specs.Query.{Name}
use Rattle.bloom_forms.proofs.Collections.Numbers.{get-number}
use Rattle.bloom_eval.specs.StepAnswers.{IsGoodRule, IsRunnable}

-- a head that a rule may have is the name of a collection that is no input
head_kind : (kind : Kind) → is_head kind ≡ true → kind ≢ Input
head_kind kind e same = let no : is_head kind ≡ false = rw same refl in let bad : true ≡ false = sym e ∙ no in cc

derived_by : (cs : List Collection) (name : Name) (o : Option Collection) → slice_get cs (collection_number cs name) ≡ o → option_map_or is_head (option_map (λ c. c.kind) o) false ≡ true → IsDerived cs (collection_number cs name)
derived_by cs name None at e = cc
derived_by cs name (Some c) at e = record { collection = c; stands = at; none_arrives = head_kind c.kind e }

derived : (cs : List Collection) (name : Name) → has_kind is_head cs name ≡ true → IsDerived cs (collection_number cs name)
derived cs name e = derived_by cs name (collection_named cs name) (get-number cs name) e

good_rule : (m : Form) (heads : List ℕ) → IsChecked m heads → (r : RuleForm) → IsRule m.collections m.rules r → IsGoodRule m.collections heads r
good_rule m heads checked r rule = record {
  head = checked.ordered.all (collection_number m.collections r.0) (derived m.collections r.0 rule.head);
  wide = rule.width;
}

pub runnable : (a : Accepted) → IsChecked a.form a.heads → IsRunnable a
runnable a checked = record { ordered = checked.ordered; rules = λ r stands. good_rule a.form a.heads checked r (checked.rules r stands) }
