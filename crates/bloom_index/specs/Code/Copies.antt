-- Copies of tests.
use Rattle.std.specs.Prelude.{◌≡◌}
use Rattle.blz_value.specs.declared.test.Test.{Test, Compare, And', Or', Not'}

-- the copy compares the same in the same places; the boxes in which its parts stand are others
abbrev pub IsCopy : (test copy : Test) → Type 0
IsCopy (Compare left op right) (Compare first by second) = (first ≡ left) × (by ≡ op) × (second ≡ right)
IsCopy (And' p a q b) (And' r c s d) = IsCopy a c × IsCopy b d
IsCopy (Or' p a q b) (Or' r c s d) = IsCopy a c × IsCopy b d
IsCopy (Not' p a) (Not' q b) = IsCopy a b
IsCopy test copy = ⊥
