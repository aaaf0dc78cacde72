-- An expression by numbers, beside the names of its columns.
use Rattle.std.specs.Prelude.{◌≡◌, ◌≤◌, List, length}
use Rattle.bloom_forms.specs.declared.module.Collection.{Collection}
use Rattle.bloom_forms.specs.declared.numbering.NumberedPart.{NumberedPart}
use Rattle.bloom_forms.specs.Borrowed.{names_in}
use Rattle.bloom_forms.specs.Columns.{columns_of}
use Rattle.bloom_forms.specs.Lookup.{declared}
use Rattle.bloom_forms.specs.Numbered.{IsNumbered}
use Rattle.bloom_forms.specs.Query.{Query}

-- a part is an expression by numbers with the expression's columns, which are few
pub record IsNumberedPart (cs : List Collection) (q : Query) (part : NumberedPart) : Type 0 where
  pub expr : IsNumbered cs q part.expr.value
  pub columns : names_in part.columns.items ≡ columns_of (declared cs) q
  pub few : length part.columns.items ≤ 8
