-- An order of heads in which each comes after those that its rules read.
use Rattle.std.specs.Prelude.{ℕ, ◌≡◌, ◌≢◌, Some, List, [], ◌∷◌, ◌++◌, slice_get}
use Rattle.blz_value.specs.Members.{Has}
use Rattle.bloom_forms.specs.declared.module.Kind.TheVariants.{Input}
use Rattle.bloom_forms.specs.declared.module.Collection.{Collection}
use Rattle.bloom_forms.specs.Form.{RuleForm}
use Rattle.bloom_forms.specs.Lookup.{collection_number}
use Rattle.bloom_forms.specs.Query.{Name, Query}
use Rattle.bloom_forms.specs.Query.Query.{base, select, project, join, notin, group, at_least}

-- the names of the collections that stand in an expression
abbrev pub names_of : Query → List Name
names_of (base name) = name ∷ []
names_of (select q f) = names_of q
names_of (project q items) = names_of q
names_of (join a b pairs) = names_of a ++ names_of b
names_of (notin a b pairs) = names_of a ++ names_of b
names_of (group q keys agg name) = names_of q
names_of (at_least q keys bound) = names_of q

-- a rule of the collection h names the collection m
pub record HasRule (cs : List Collection) (rules : List RuleForm) (h m : ℕ) : Type 0 where
  pub rule : RuleForm
  pub stands : Has rule rules
  pub head : collection_number cs rule.0 ≡ h
  pub name : Name
  pub read : Has name (names_of rule.1)
  pub is : collection_number cs name ≡ m

-- the collection h is there and is no input
pub record IsDerived (cs : List Collection) (h : ℕ) : Type 0 where
  pub collection : Collection
  pub stands : slice_get cs h ≡ Some collection
  pub none_arrives : collection.kind ≢ Input

-- no head stands twice, and none has a rule that names itself or a later one
abbrev pub InOrder : List Collection → List RuleForm → List ℕ → Type 0
InOrder cs rules [] = Unit {0}
InOrder cs rules (h ∷ heads) = ¬ Has h heads × ((m : ℕ) → Has m (h ∷ heads) → ¬ HasRule cs rules h m) × InOrder cs rules heads

-- the heads are the collections that are no inputs, in such an order
pub record IsOrdered (cs : List Collection) (rules : List RuleForm) (heads : List ℕ) : Type 0 where
  pub all : (h : ℕ) → IsDerived cs h → Has h heads
  pub none_else : (h : ℕ) → Has h heads → IsDerived cs h
  pub order : InOrder cs rules heads
