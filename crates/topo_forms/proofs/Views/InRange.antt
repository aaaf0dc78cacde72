-- Numbers of parts in a valid topology are those of parts that are there.
use Rattle.std.proofs.Common.{◌≡◌, ◌<◌, ℕ, Some, length, get_or, [], arith}
use Rattle.topo_forms.specs.Bounded.{IsBounded}
use Rattle.topo_forms.specs.Valid.{IsValid}
use Rattle.topo_forms.specs.View.{View, origin_of, ends_of, stream_at, component_at}

pub origin_within : (v : View) → IsValid v → (s c o : ℕ) → s < length v.streams → origin_of v s ≡ Some (c, o) → c < length v.components
origin_within v valid s c o lt e = (valid.numbered.origins s (c, o) lt e).0

-- each port has a row of notes, and each output an entry in it
pub row_within : (v : View) → IsValid v → (c p : ℕ) → c < length v.components → p < length (component_at v c).ports → p < length (component_at v c).notes
row_within v valid c p lt pt = let e = (valid.components c lt).note_rows in omega (arith, e, pt)

pub note_within : (v : View) → IsValid v → (c p o : ℕ) → c < length v.components → p < length (component_at v c).ports → o < length (component_at v c).outputs
    → o < length (get_or (component_at v c).notes p [])
note_within v valid c p o lt pt ot = let e = (valid.components c lt).note_row p pt in omega (arith, e, ot)

-- few of each
module _ (v : View) (bounded : IsBounded v) where
  pub few_columns : (s : ℕ) → s < length v.streams → length (stream_at v s).columns < 4294967296
  few_columns s lt = let few = bounded.columns s lt in omega (arith, few)

  pub few_ends : (s : ℕ) → s < length v.streams → length (ends_of v s) < 4294967296
  few_ends s lt = let few = bounded.ends s lt in omega (arith, few)

  pub few_ports : (c : ℕ) → c < length v.components → length (component_at v c).ports < 4294967296
  few_ports c lt = let few = bounded.ports c lt in omega (arith, few)

  pub few_outputs : (c : ℕ) → c < length v.components → length (component_at v c).outputs < 4294967296
  few_outputs c lt = let few = bounded.outputs c lt in omega (arith, few)
