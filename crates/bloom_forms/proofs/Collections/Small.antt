-- A checked module has at most 32 collections, each with at most eight columns.
use Rattle.std.proofs.Common.{ℕ, ◌≤◌, IsTrue, arith, List, length, get_or}
use Rattle.blz_value.proofs.Membership.{Has-get_or}
use Rattle.bloom_forms.specs.Checks.{IsChecked}
use Rattle.bloom_forms.specs.Fits.{is_width}
use Rattle.bloom_forms.specs.Form.{Form}
use Rattle.bloom_forms.specs.Program.{IsSmall}

pub at_most_eight : (n : ℕ) → IsTrue (is_width n) → n ≤ 8
at_most_eight n wide = grind (wide, arith)

pub small : (m : Form) (heads : List ℕ) → IsChecked m heads → IsSmall m.collections
small m heads checked = record { few = checked.few_collections; narrow = λ i c lt. let held = get_or m.collections i c in at_most_eight (length held.columns) (checked.collections held (Has-get_or m.collections i c lt)).width }

pub few : (m : Form) (heads : List ℕ) → IsChecked m heads → length m.collections ≤ 32
few m heads checked = checked.few_collections
