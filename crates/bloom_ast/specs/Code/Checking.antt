-- The parts of a check.
use Rattle.std.specs.Prelude.{ℕ, ◌≡◌, ◌≤◌, Option, None, Some, Result, Ok, Err, List, [], length}
use Rattle.std.specs.Global.{Vec}
use Rattle.bloom_forms.specs.declared.fault.CheckFault.{CheckFault}
use Rattle.bloom_forms.specs.declared.fault.CheckFault.TheVariants.{Bad, NoMemory}
use Rattle.bloom_forms.specs.declared.fault.ModuleFault.{ModuleFault}
use Rattle.bloom_forms.specs.declared.module.Collection.{Collection}
use Rattle.bloom_forms.specs.Checks.{IsChecked}
use Rattle.bloom_forms.specs.HeadOrder.{key_at, heads_on, heads_of}
use Rattle.bloom_forms.specs.Faults.{fault_in, later_kinds}
use Rattle.bloom_forms.specs.FirstFault.{first_fault}
use Rattle.bloom_forms.specs.Form.{RuleForm, Form}
use Rattle.bloom_forms.specs.Literals.{RulesHaveLiterals}
use Rattle.bloom_forms.specs.Reads.{arrows, facts_of, keys_of}

-- the heads in their order where there is no fault, and else the first fault; where the literals can be held the module is checked
abbrev pub ChecksHeads : Form → Result (Vec ℕ) CheckFault → Type 0
ChecksHeads m (Ok heads) = (heads.items ≡ heads_of m) × (RulesHaveLiterals m.rules → IsChecked m heads.items)
ChecksHeads m (Err (Bad fault)) = first_fault m ≡ Some fault
ChecksHeads m (Err NoMemory) = Unit {0}

-- few collections and rules, where there is no fault of size
abbrev pub AreFew : List Collection → List RuleForm → Option ModuleFault → Type 0
AreFew cs rules None = (length cs ≤ 32) × (length rules ≤ 64)
AreFew cs rules (Some fault) = Unit {0}

-- the kinds after the first have no fault, and the heads are by their keys
pub record IsLater (cs : List Collection) (rules : List RuleForm) (heads : List ℕ) : Type 0 where
  pub clean : fault_in (facts_of cs rules) later_kinds cs rules ≡ None
  pub are : heads ≡ heads_on (key_at (keys_of cs (arrows cs rules))) 0 cs []

abbrev pub Later : List Collection → List RuleForm → Result (Vec ℕ) CheckFault → Type 0
Later cs rules (Ok heads) = IsLater cs rules heads.items
Later cs rules (Err (Bad fault)) = fault_in (facts_of cs rules) later_kinds cs rules ≡ Some fault
Later cs rules (Err NoMemory) = Unit {0}
