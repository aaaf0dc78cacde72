-- What the roots of all collections are, told of the finished table, without an order of heads.
use Rattle.std.specs.Prelude.{ℕ, ◌≡◌, Some, List, length, slice_get}
use Rattle.bloom_forms.specs.declared.module.Kind.TheVariants.{Input}
use Rattle.bloom_forms.specs.declared.module.Collection.{Collection}
use Rattle.bloom_forms.specs.Form.{Form}
use Rattle.bloom_forms.specs.Heads.{IsDerived}
use Rattle.bloom_forms.specs.Query.{Name}
use Rattle.bloom_forms.specs.HeadRoots.{attribute_roots, roots_numbered, head_roots}
use Rattle.bloom_forms.specs.Roots.{Roots}

-- the roots of each port are those of its columns' names
abbrev pub HavePortRoots : (names : List Name) → Form → List Roots → Type 0
HavePortRoots names form table = (number : ℕ) (c : Collection) → slice_get form.collections number ≡ Some c → c.kind ≡ Input → roots_numbered table number ≡ attribute_roots names c.columns

-- the roots of each other collection are those on which its rules agree
abbrev pub HaveHeadRoots : Form → List Roots → Type 0
HaveHeadRoots form table = (head : ℕ) → IsDerived form.collections head → roots_numbered table head ≡ head_roots form table head

-- each collection has as many roots as columns
abbrev pub HaveRootsOfColumns : Form → List Roots → Type 0
HaveRootsOfColumns form table = (number : ℕ) (c : Collection) → slice_get form.collections number ≡ Some c → length (roots_numbered table number) ≡ length c.columns

-- the roots of all collections are what the names of the ports' columns and the rules say
pub record AreRootsOf (names : List Name) (form : Form) (table : List Roots) : Type 0 where
  pub all : length table ≡ length form.collections
  pub ports : HavePortRoots names form table
  pub heads : HaveHeadRoots form table
  pub counts : HaveRootsOfColumns form table
