-- A list is a row where it is as long as the types.
use Rattle.std.proofs.Common.{◌≡◌, ◌≢◌, ◌==◌, ℕ, true, false, List, length, None, refl, arith}
use Rattle.std.proofs.lemmas.Bool.Decides.{nat_tests}
use Rattle.serde_json.specs.Events.{items_len}
use Rattle.serde_json.specs.View.{items_view}
use Rattle.serde_json.specs.declared.value.Value.{Value}
use Rattle.serde_json.proofs.Views.{items_len-items_view}
use Rattle.topo_forms.specs.declared.topology.ColumnType.{ColumnType}
use Rattle.data_read.specs.Values.{values_in, row_in}

equal : (a b c : ℕ) → a ≡ b → b ≡ c → (a == c) ≡ true
equal a b c e f = grind (arith, nat_tests)

unequal : (a b c : ℕ) → a ≡ b → b ≢ c → (a == c) ≡ false
unequal a b c e f = grind (arith, nat_tests)

pub row_wide : (types : List ColumnType) (values : List Value) → length values ≡ length types → row_in types (items_view values) ≡ values_in types (items_view values)
row_wide types values e = rw (equal (items_len (items_view values)) (length values) (length types) (items_len-items_view values) e) refl

pub row_other : (types : List ColumnType) (values : List Value) → length values ≢ length types → row_in types (items_view values) ≡ None
row_other types values e = rw (unequal (items_len (items_view values)) (length values) (length types) (items_len-items_view values) e) refl
