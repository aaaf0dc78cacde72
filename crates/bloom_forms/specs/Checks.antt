-- What holds of a module that was checked, and what a check answers.
use Rattle.std.specs.Prelude.{ℕ, ◌≡◌, ◌≢◌, ◌≤◌, IsTrue, IsFalse, None, Some, Result, Ok, Err, List, length}
use Rattle.std.specs.List.{list_all, AllPairs}
use Rattle.blz_value.specs.Members.{Has}
use Rattle.bloom_forms.specs.declared.fault.CheckFault.{CheckFault}
use Rattle.bloom_forms.specs.declared.fault.CheckFault.TheVariants.{Bad, NoMemory}
use Rattle.bloom_forms.specs.declared.module.Collection.{Collection}
use Rattle.bloom_forms.specs.Bounds.{passes_bounds}
use Rattle.bloom_forms.specs.Columns.{columns_of}
use Rattle.bloom_forms.specs.Faults.{recursive_rule, mixes, is_mixed}
use Rattle.bloom_forms.specs.FirstFault.{first_fault}
use Rattle.bloom_forms.specs.Fits.{is_width, repeats, query_fits}
use Rattle.bloom_forms.specs.Form.{RuleForm, Form, Accepted}
use Rattle.bloom_forms.specs.Heads.{names_of, IsOrdered}
use Rattle.bloom_forms.specs.Kinds.{has_kind, is_head, is_readable}
use Rattle.bloom_forms.specs.Literals.{HasLiterals}
use Rattle.bloom_forms.specs.Lookup.{declared}
use Rattle.bloom_forms.specs.Reads.{arrows, facts_of}
use Rattle.bloom_forms.specs.Reserved.{HasOwnNames}

-- a collection has one to eight columns, each once
pub record IsCollection (c : Collection) : Type 0 where
  pub width : IsTrue (is_width (length c.columns))
  pub distinct : IsFalse (repeats c.columns)

-- a rule's text is within the bounds, its literals can be held, its names are known, its columns fit, it doesn't read its head, and it mixes no momentary parts with others
pub record IsRule (cs : List Collection) (rules : List RuleForm) (r : RuleForm) : Type 0 where
  pub bounded : IsFalse (passes_bounds r.1)
  pub literals : HasLiterals r.1
  pub head : IsTrue (has_kind is_head cs r.0)
  pub known : IsTrue (list_all (has_kind is_readable cs) (names_of r.1))
  pub fits : IsTrue (query_fits (declared cs) r.1)
  pub width : length (columns_of (declared cs) r.1) ≡ length (declared cs r.0)
  pub free : IsFalse (recursive_rule cs (arrows cs rules) r)
  pub unmixed : IsFalse (mixes cs (facts_of cs rules) r.1)
  pub pure : IsFalse (is_mixed cs (facts_of cs rules) r)

-- the module has no fault, and the heads are in order
pub record IsChecked (m : Form) (heads : List ℕ) : Type 0 where
  pub names : HasOwnNames m
  pub clean : first_fault m ≡ None
  pub few_collections : length m.collections ≤ 32
  pub few_rules : length m.rules ≤ 64
  pub collections : (c : Collection) → Has c m.collections → IsCollection c
  pub distinct : AllPairs (λ c d. c.name ≢ d.name) m.collections
  pub rules : (r : RuleForm) → Has r m.rules → IsRule m.collections m.rules r
  pub ordered : IsOrdered m.collections m.rules heads

-- the module itself with heads in order where it has no fault, and else its first fault
abbrev pub Checks : Form → Result Accepted CheckFault → Type 0
Checks m (Ok accepted) = (accepted.form ≡ m) × IsChecked m accepted.heads
Checks m (Err (Bad fault)) = first_fault m ≡ Some fault
Checks m (Err NoMemory) = Unit {0}
