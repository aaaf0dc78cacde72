-- The end of a step, which gives each table and each output its set.
use Rattle.std.specs.Prelude.{cond, List, [], ◌∷◌}
use Rattle.blz_value.specs.Record.{Row}
use Rattle.bloom_forms.specs.declared.module.Kind.{Kind}
use Rattle.bloom_forms.specs.Kinds.{same_kind}
use Rattle.bloom_forms.specs.Step.{Sets}

-- the rows of a collection, where it is of the kind
abbrev pub placed : (kind of : Kind) → List Row → Sets
placed kind of rows = cond (same_kind kind of) (rows ∷ []) []
