-- Components: the entry that a table gives, or the path of its first break.
use Rattle.std.specs.Prelude.{ℕ, ℤ, pos, List, [], ◌∷◌, Option, Some, None, unwrap_or, Result, Ok, Err, codes}
use Rattle.toml.specs.Data.{Members, as_integer}
use Rattle.topo_forms.specs.declared.topology.ComponentEntry.{ComponentEntry}
use Rattle.topo_forms.specs.declared.topology.Side.{Side}
use Rattle.topo_forms.specs.declared.topology.Body.{Body}
use Rattle.topo_forms.specs.declared.topology.Body.TheVariants as bodies
use Rattle.topo_forms.specs.declared.topology.Stock.{Stock}
use Rattle.topo_forms.specs.declared.topology.Stock.TheVariants as stocks
use Rattle.topo_forms.specs.declared.topology.ModeName.{ModeName}
use Rattle.topo_forms.specs.declared.topology.ModeName.TheVariants as modes
use Rattle.topo_read.specs.declared.values.FileName.{FileName}
use Rattle.topo_read.specs.declared.values.StockName.{StockName}
use Rattle.topo_read.specs.declared.values.StockName.TheVariants as named
use Rattle.topo_read.specs.Values.{name_in, names_in, some_names_in, file_in, stock_in, mode_in}
use Rattle.topo_read.specs.Tables.{side_in, declared_in}
use Rattle.topo_read.specs.Fields.{◌>>=◌, Path, required, optional, optional_list, absent, only_keys}

-- the stock body of this name, with the other fields that it has and without those that it hasn't
unfoldable pub stock_with : StockName → List (List ℕ) → Members → Result Stock Path
stock_with named.Split columns table = do
  split ← required name_in (codes "split") table
  no_keys ← absent (codes "keys") table
  Ok (stocks.Split columns split)
stock_with named.Latest columns table = do
  no_split ← absent (codes "split") table
  keys ← required some_names_in (codes "keys") table
  Ok (stocks.Latest columns keys)
stock_with named.Number columns table = do
  no_split ← absent (codes "split") table
  no_keys ← absent (codes "keys") table
  Ok (stocks.Number columns)

-- the stock body of this name
unfoldable pub stock_of : StockName → Members → Result Stock Path
stock_of name table = do
  columns ← required names_in (codes "columns") table
  stock_with name columns table

-- none of the fields of stock bodies
unfoldable pub no_stock : Members → Result (Unit {0}) Path
no_stock table = do
  no_columns ← absent (codes "columns") table
  no_split ← absent (codes "split") table
  absent (codes "keys") table

-- the body of this module or of this stock body; both are a break at the second
unfoldable pub body_with : Option FileName → Option StockName → Members → Result Body Path
body_with (Some file) (Some s) table = Err (codes "stock")
body_with (Some file) None table = no_stock table >>= (λ none. Ok (bodies.Module file.name))
body_with None (Some s) table = stock_of s table >>= (λ s. Ok (bodies.Stock s))
body_with None None table = no_stock table >>= (λ none. Ok bodies.None)

-- the body
unfoldable pub body_of : Members → Result Body Path
body_of table = do
  file ← optional file_in (codes "module") table
  s ← optional stock_in (codes "stock") table
  body_with file s table

-- an empty list under a key that may not stand here
abbrev pub empty_at : {X : Type 0} → List ℕ → Members → Result (List X) Path
empty_at key table = absent key table >>= (λ none. Ok [])

-- the ports or outputs under this key, which a component with a body doesn't have
unfoldable pub sides_of : Body → List ℕ → Members → Result (List Side) Path
sides_of (bodies.Module file) key table = empty_at key table
sides_of (bodies.Stock s) key table = empty_at key table
sides_of bodies.None key table = optional_list side_in key table

-- the key of a mode
unfoldable pub key_of : ModeName → Members → Result (List (List ℕ)) Path
key_of modes.Free table = empty_at (codes "key") table
key_of modes.Pass table = required some_names_in (codes "key") table
key_of modes.Seal table = required some_names_in (codes "key") table
key_of modes.Order table = empty_at (codes "key") table

-- one replica where nothing is said
abbrev pub or_one : Option ℤ → ℤ
or_one replicas = unwrap_or replicas (pos 1)

-- mode free where nothing is said
abbrev pub or_free : Option ModeName → ModeName
or_free m = unwrap_or m modes.Free

-- the keys of a component
abbrev pub component_keys : List (List ℕ)
component_keys =
    codes "name" ∷ codes "module" ∷ codes "stock" ∷ codes "columns" ∷ codes "split" ∷ codes "keys"
    ∷ codes "inputs" ∷ codes "outputs" ∷ codes "notes" ∷ codes "replicas" ∷ codes "mode" ∷ codes "key" ∷ []

-- a component: its fields in this order, and last the keys that it doesn't have
unfoldable pub component_of : Members → Result ComponentEntry Path
component_of table = do
  name ← required name_in (codes "name") table
  body ← body_of table
  inputs ← sides_of body (codes "inputs") table
  outputs ← sides_of body (codes "outputs") table
  notes ← optional_list declared_in (codes "notes") table
  replicas ← optional as_integer (codes "replicas") table
  m ← optional mode_in (codes "mode") table
  key ← key_of (or_free m) table
  only ← only_keys component_keys table
  Ok (record { name = name; body = body; inputs = inputs; outputs = outputs; notes = notes; replicas = or_one replicas; mode = or_free m; key = key })
