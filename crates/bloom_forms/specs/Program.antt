-- Programs: their ports, outputs and tables, each by its columns.
use Rattle.std.specs.Prelude.{ℕ, ◌≤◌, ◌<◌, ◌≢◌, List, [], ◌∷◌, ◌++◌, map, length, codes, All, AllPairs, slice_index_or}
use Rattle.std.specs.List.{remove}
use Rattle.bloom_forms.specs.declared.module.Kind.{Kind}
use Rattle.bloom_forms.specs.declared.module.Kind.TheVariants.{Input, Output, Table}
use Rattle.bloom_forms.specs.declared.module.Collection.{Collection}
use Rattle.bloom_forms.specs.declared.program.Program.{Program}
use Rattle.bloom_forms.specs.declared.program.Program.TheVariants.{Module, Split, Latest, Number}
use Rattle.bloom_forms.specs.Query.{Name}
use Rattle.bloom_forms.specs.Kinds.{of_kind}
use Rattle.bloom_forms.specs.StockSteps.{keys_in_order}

-- at most 32 collections, each with at most eight columns
pub record IsSmall (cs : List Collection) : Type 0 where
  pub few : length cs ≤ 32
  pub narrow : All (λ c. length c.columns ≤ 8) cs

-- a stock body has at most eight columns, and its split and its keys are distinct numbers below their count
abbrev pub IsStock : Program → Type 0
IsStock (Module a) = Unit {0}
IsStock (Split columns split) = (length columns ≤ 8) × (split < length columns)
IsStock (Latest columns keys) = (length columns ≤ 8) × All (λ key. key < length columns) keys × AllPairs (λ a b. a ≢ b) keys
IsStock (Number columns) = length columns ≤ 8

-- the columns of the collections of a kind, in declared order
abbrev pub columns_of_kind : Kind → List Collection → List (List Name)
columns_of_kind kind cs = map (λ c. c.columns) (of_kind kind cs)

-- the key columns, in their order among the columns
abbrev pub key_columns : List Name → List ℕ → List Name
key_columns columns keys = map (λ key. slice_index_or columns key []) (keys_in_order (length columns) keys)

-- the columns of each port
abbrev pub port_columns : Program → List (List Name)
port_columns (Module a) = columns_of_kind Input a.form.collections
port_columns (Split columns split) = columns ∷ []
port_columns (Latest columns keys) = columns ∷ key_columns columns keys ∷ []
port_columns (Number columns) = columns ∷ []

-- the columns of each output
abbrev pub output_columns : Program → List (List Name)
output_columns (Module a) = columns_of_kind Output a.form.collections
output_columns (Split columns split) = (remove columns split ++ codes "at" ∷ codes "word" ∷ []) ∷ []
output_columns (Latest columns keys) = columns ∷ []
output_columns (Number columns) = (columns ++ codes "n" ∷ []) ∷ []

-- the columns of each table
abbrev pub table_columns : Program → List (List Name)
table_columns (Module a) = columns_of_kind Table a.form.collections
table_columns (Split columns split) = []
table_columns (Latest columns keys) = columns ∷ []
table_columns (Number columns) = (columns ++ codes "n" ∷ []) ∷ []
