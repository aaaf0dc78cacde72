-- What is asked of the test of a copy, and what is answered on the way to copies.
use Rattle.std.specs.Prelude.{◌≡◌, true, false, Result, Ok, Err, List, map}
use Rattle.bloom_forms.specs.declared.fault.CheckFault.{CheckFault}
use Rattle.bloom_forms.specs.declared.fault.CheckFault.TheVariants.{Bad, NoMemory}
use Rattle.bloom_forms.specs.Bounds.{is_long}
use Rattle.bloom_forms.specs.Fits.{formula_fits, has_name}
use Rattle.bloom_forms.specs.Form.{Accepted}
use Rattle.bloom_forms.specs.Query.{Name, Formula}
use Rattle.bloom_forms.specs.Reserved.{formula_names}
use Rattle.blz_value.specs.Members.{Has}
use Rattle.shard_route.specs.declared.fault.ShardFault.{ShardFault}
use Rattle.shard_route.specs.declared.fault.ShardFault.TheVariants as fault
use Rattle.shard_route.specs.Copies.{copied_form, copy_of, is_too_deep, has_deep_copy}

-- a test of one column alone, within the bounds of the grammar
pub record IsTestOf (column : Name) (test : Formula) : Type 0 where
  pub names : (name : Name) → Has name (formula_names test) → name ≡ column
  pub fits : (columns : List Name) → has_name columns column ≡ true → formula_fits columns test ≡ true
  pub short : is_long test ≡ false

-- what a fault of a copy says
abbrev pub refused : CheckFault → ShardFault
refused (Bad found) = fault.TooDeep
refused NoMemory = fault.NoMemory

-- the copy, where no rule of it is too deep, else TooDeep
abbrev pub GivesCopy : Accepted → Formula → Result Accepted ShardFault → Type 0
GivesCopy a test (Ok copy) = (copy ≡ copy_of a test) × (is_too_deep (copied_form a.form test) ≡ false)
GivesCopy a test (Err fault.TooDeep) = is_too_deep (copied_form a.form test) ≡ true
GivesCopy a test (Err fault.NoMemory) = Unit {0}
GivesCopy a test (Err other) = ⊥

-- the copies, where no rule of one is too deep, else TooDeep
abbrev pub GivesCopies : Accepted → List Formula → Result (List Accepted) ShardFault → Type 0
GivesCopies a tests (Ok copies) = (copies ≡ map (copy_of a) tests) × (has_deep_copy a.form tests ≡ false)
GivesCopies a tests (Err fault.TooDeep) = has_deep_copy a.form tests ≡ true
GivesCopies a tests (Err fault.NoMemory) = Unit {0}
GivesCopies a tests (Err other) = ⊥
