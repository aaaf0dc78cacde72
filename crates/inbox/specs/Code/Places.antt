-- The places of each partition's records in the log.
use Rattle.std.specs.Prelude.{◌≡◌, ◌++◌, ◌∷◌, ℕ, List, [], if◌then◌else◌}
use Rattle.std.specs.BTreeMap.{BTreeMap, get}
use Rattle.std.specs.Global.{Vec}
use Rattle.std.specs.Option.{option_map_or}
use Rattle.blz_value.specs.Record.{Row, record_cmp}
use Rattle.topo_forms.specs.Messages.{is_same_row}

abbrev pub places_of : BTreeMap Row (Vec ℕ) → (key : Row) → List ℕ
places_of places key = option_map_or (λ own. own.items) (get record_cmp places key) []

-- one place more is one of this partition
abbrev pub PutsPlace : (old new : BTreeMap Row (Vec ℕ)) → (key : Row) → (place : ℕ) → Type 0
PutsPlace old new key place = (k : Row) → places_of new k ≡ (if is_same_row key k then places_of old k ++ place ∷ [] else places_of old k)
