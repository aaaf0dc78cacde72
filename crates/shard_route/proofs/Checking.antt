-- What the check says of a copy is what its module and its depth say.
use Rattle.std.proofs.Common.{◌≡◌, ◌∙◌, false, Some, ap, sym, subst}
use Rattle.std.specs.Prelude.{Ok, Err}
use Rattle.bloom_forms.specs.declared.fault.CheckFault.{CheckFault}
use Rattle.bloom_forms.specs.declared.fault.CheckFault.TheVariants.{Bad, NoMemory}
use Rattle.bloom_forms.specs.Checks.{IsChecked, Checks}
use Rattle.bloom_forms.specs.FirstFault.{first_fault}
use Rattle.bloom_forms.specs.Form.{Form, Accepted}
use Rattle.bloom_forms.specs.HeadOrder.{heads_of}
use Rattle.bloom_forms.specs.Query.{Name, Formula}
use Rattle.bloom_forms.specs.Reserved.{HasOwnNames}
use Rattle.shard_route.specs.Copies.{copied_form, is_too_deep, lacks_column}
use Rattle.shard_route.specs.Copying.{IsTestOf, GivesCopy, refused}
use Rattle.shard_route.specs.declared.fault.ShardFault.{ShardFault}
use Rattle.shard_route.proofs.Faultless.{deep, not_deep}
use Rattle.shard_route.proofs.OwnNames.{own_names, port_has}

module _ (a : Accepted) (test : Formula) (own copied : Form) (own_is : own ≡ a.form) (is : copied ≡ copied_form own test) where
  form_is : copied ≡ copied_form a.form test
  form_is = is ∙ ap (λ (m : Form). copied_form m test) own_is

  pub has_own_names : (column : Name) → IsTestOf column test → lacks_column column a.form ≡ false → IsChecked a.form a.heads → HasOwnNames copied
  has_own_names column of ports checked = subst HasOwnNames (sym form_is) (own_names a.form column test of ports checked.names)

  pub good_copy : (copy : Accepted) → copy.form ≡ copied → IsChecked copied copy.heads → copy.heads ≡ heads_of copied → GivesCopy a test (Ok copy)
  good_copy copy form checked heads =
      let whole_form = form ∙ form_is in
      let whole_heads = heads ∙ ap heads_of form_is in
      ((λ i. record { form = whole_form i; heads = whole_heads i }), subst (λ (m : Form). is_too_deep m ≡ false) form_is (not_deep copied copy.heads checked))

  pub refused_copy : (column : Name) → IsTestOf column test → lacks_column column a.form ≡ false → IsChecked a.form a.heads → (e : CheckFault) → Checks copied (Err e) → (fault : ShardFault) → fault ≡ refused e → GivesCopy a test (Err fault)
  refused_copy column of ports checked (Bad found) e fault same =
      subst (λ (f : ShardFault). GivesCopy a test (Err f)) (sym same) (deep a.form a.heads checked column test of (port_has column a.form.collections ports) found (subst (λ (m : Form). first_fault m ≡ Some found) form_is e))
  refused_copy column of ports checked NoMemory e fault same = subst (λ (f : ShardFault). GivesCopy a test (Err f)) (sym same) tt
