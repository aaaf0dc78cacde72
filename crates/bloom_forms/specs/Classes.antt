-- Records by the values of a key, and their classes.
use Rattle.std.specs.Prelude.{ℕ, ◌≡◌, Bool, IsTrue, if◌then◌else◌, List, [], map, filter, slice_index_or}
use Rattle.std.specs.List.{list_all, enumerate_from}
use Rattle.std.specs.Ordering.{eq_by_cmp}
use Rattle.blz_value.specs.Members.{Has}
use Rattle.blz_value.specs.Record.{Row, record_cmp}
use Rattle.blz_value.specs.declared.attrs.Fd.{Fd}
use Rattle.blz_value.specs.Bits.{bit_of, meets}
use Rattle.blz_value.specs.Closure.{closure}
use Rattle.bloom_forms.specs.declared.program.Program.{Program}
use Rattle.bloom_forms.specs.Program.{port_columns}
use Rattle.bloom_forms.specs.Query.{Name}
use Rattle.bloom_forms.specs.Step.{Sets, set_at}
use Rattle.bloom_forms.specs.Attributes.{has_attribute, value_in}

-- ---- attributes of a record

-- the columns of a port
abbrev pub columns_at : Program → (port : ℕ) → List Name
columns_at program port = slice_index_or (port_columns program) port []

-- ---- the key, a list of attributes

-- some columns have each attribute of a key
abbrev pub has_key : (names columns : List Name) → (key : List ℕ) → Bool
has_key names columns key = list_all (has_attribute names columns) key

-- the values that a record has in a key
abbrev pub key_of : (names columns : List Name) → (key : List ℕ) → Row → Row
key_of names columns key row = map (value_in names columns row) key

-- each attribute of a key is in the closure of a gate
abbrev pub IsInClosure : (key : List ℕ) → (gate : ℕ) → List Fd → Type 0
IsInClosure key gate fds = (attribute : ℕ) → Has attribute key → IsTrue (meets (bit_of attribute) (closure gate fds))

-- ---- arriving records

-- a record that arrives, in one of some timesteps, at a port that passes a test
pub record Arriving (program : Program) (nows : List Sets) (is_used : ℕ → Bool) : Type 0 where
  pub port : ℕ
  pub used : IsTrue (is_used port)
  pub now : Sets
  pub came : Has now nows
  pub row : Row
  pub stands : Has row (set_at now port)

-- the record's port has each attribute of a set
abbrev pub HasAll : (names : List Name) → (program : Program) → {nows : List Sets} → {is_used : ℕ → Bool}
    → Arriving program nows is_used → (set : ℕ) → Type 0
HasAll names program x set = (attribute : ℕ) → IsTrue (meets (bit_of attribute) set) → IsTrue (has_attribute names (columns_at program x.port) attribute)

-- two records have the same value in each attribute of a set
abbrev pub AgreeOn : (names : List Name) → (program : Program) → {nows : List Sets} → {is_used : ℕ → Bool}
    → (x y : Arriving program nows is_used) → (set : ℕ) → Type 0
AgreeOn names program x y set = (attribute : ℕ) → IsTrue (meets (bit_of attribute) set)
    → value_in names (columns_at program x.port) x.row attribute ≡ value_in names (columns_at program y.port) y.row attribute

-- each used port at which a record arrives has the key's columns, and has all of a dependency's `to` with all of its `from`; and the dependencies hold in the arriving records jointly
pub record AreKeyed (names : List Name) (program : Program) (nows : List Sets) (is_used : ℕ → Bool) (fds : List Fd) (key : List ℕ) : Type 0 where
  pub keyed : (x : Arriving program nows is_used) → IsTrue (has_key names (columns_at program x.port) key)
  pub whole : (x : Arriving program nows is_used) (fd : Fd) → Has fd fds → HasAll names program x fd.from.bits
      → HasAll names program x fd.to.bits
  pub hold : (x y : Arriving program nows is_used) (fd : Fd) → Has fd fds → HasAll names program x fd.from.bits
      → HasAll names program x fd.to.bits → HasAll names program y fd.from.bits → HasAll names program y fd.to.bits
      → AgreeOn names program x y fd.from.bits → AgreeOn names program x y fd.to.bits

-- ---- classes, by any function of the values of the key

-- the records of a class at a port: none where the port lacks an attribute of the key
abbrev pub rows_of_class : (names : List Name) → (key : List ℕ) → (class_of : Row → Row) → (class : Row)
    → (columns : List Name) → List Row → List Row
rows_of_class names key class_of class columns rows =
    if has_key names columns key then filter (λ row. eq_by_cmp record_cmp (class_of (key_of names columns key row)) class) rows else []

-- of some arrivals those of a class
abbrev pub of_class : (names : List Name) → Program → (key : List ℕ) → (class_of : Row → Row) → (class : Row) → Sets → Sets
of_class names program key class_of class now = map (λ place. rows_of_class names key class_of class place.1 (set_at now place.0)) (enumerate_from 0 (port_columns program))
