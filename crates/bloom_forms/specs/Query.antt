-- Expressions and predicates, without where they lie in memory.
use Rattle.std.specs.Prelude.{ℕ, ℤ, List}
use Rattle.blz_value.specs.declared.test.Op.{Op}
use Rattle.bloom_forms.specs.declared.expr.NamedAgg.{NamedAgg}
use Rattle.bloom_forms.specs.declared.expr.Term.{Term}

-- a name, as its bytes
abbrev pub Name : Type 0
Name = List ℕ

-- a predicate: a comparison of two terms; both, one of two, not
pub data Formula : Type 0 where
  compare : Term → Op → Term → Formula
  both : Formula → Formula → Formula
  either : Formula → Formula → Formula
  not_so : Formula → Formula

-- an expression: a collection; rows chosen; columns under new names; pairs of rows that agree; rows that agree with none; keys with an aggregate; keys that occur so often
pub data Query : Type 0 where
  base : Name → Query
  select : Query → Formula → Query
  project : Query → List (Name × Name) → Query
  join : Query → Query → List (Name × Name) → Query
  notin : Query → Query → List (Name × Name) → Query
  group : Query → List Name → NamedAgg → Name → Query
  at_least : Query → List Name → ℤ → Query
