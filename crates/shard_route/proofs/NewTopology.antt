-- What the code has in hand is the new topology with its modules, which may be validated.
use Rattle.std.proofs.Common.{◌≡◌, ◌∙◌, ◌+◌, ◌<◌, ◌≤◌, ℕ, zero, suc, Bool, false, List, length, map, refl, ap, sym, subst, arith}
use Rattle.std.specs.List.{filter_map, range_with_len}
use Rattle.std.proofs.lemmas.List.{length-map}
use Rattle.blz_value.specs.Members.{Has}
use Rattle.blz_value.proofs.Ranges.{Has-range}
use Rattle.bloom_forms.specs.Form.{Accepted}
use Rattle.bloom_forms.specs.Query.{Name, Formula}
use Rattle.topo_forms.specs.declared.topology.ComponentEntry.{ComponentEntry}
use Rattle.topo_forms.specs.declared.topology.StreamEntry.{StreamEntry}
use Rattle.topo_forms.specs.declared.topology.Topology.{Topology}
use Rattle.topo_forms.specs.Allowed.{IsAllowed}
use Rattle.topo_forms.specs.Valid.{needs_module}
use Rattle.shard_route.specs.Copies.{copy_of}
use Rattle.shard_route.specs.Routing.{numbers_to, sharded_topology, sharded_modules, are_bad_names, has_bad_names}
use Rattle.shard_route.proofs.Allowing.{sharded_allowed}
use Rattle.shard_route.proofs.ModuleCounts.{each_module}

module _ (t : Topology) (name : Name) (numbers : List ℕ) (there : Topology) (is : there ≡ sharded_topology t name numbers) (components : List ComponentEntry) (same : components ≡ t.components) where
  good_names : (streams : List StreamEntry) (bad : Bool) → streams ≡ there.streams → bad ≡ are_bad_names components streams name numbers → bad ≡ false → has_bad_names t name numbers ≡ false
  good_names streams bad of_there tested fine =
      let cs = sym same in
      let ss = sym (of_there ∙ ap (λ (x : Topology). x.streams) is) in
      (λ i. are_bad_names (cs i) (ss i) name numbers) ∙ sym tested ∙ fine

  -- it is one that a topology file allows
  pub allowed_there : (streams : List StreamEntry) (bad : Bool) → streams ≡ there.streams → bad ≡ are_bad_names components streams name numbers → bad ≡ false → ((i : ℕ) → Has i numbers → i < 10) → IsAllowed t → IsAllowed there
  allowed_there streams bad of_there tested fine small allowed = subst IsAllowed (sym is) (sharded_allowed t name numbers small allowed (good_names streams bad of_there tested fine))

  -- it has as many modules as components with one
  pub each_there : (copies modules all given : List Accepted) → length copies ≡ length numbers → length modules ≡ length (filter_map needs_module t.components)
      → all ≡ sharded_modules name copies components modules → given ≡ all → length given ≡ length (filter_map needs_module there.components)
  each_there copies modules all given as_many each made lent =
      ap length (lent ∙ made) ∙ (λ i. length (sharded_modules name copies (same i) modules)) ∙ each_module name numbers copies as_many t.components modules each
      ∙ ap (λ (x : Topology). length (filter_map needs_module x.components)) (sym is)

-- ---- numbers

count_numbers : (at n : ℕ) → length (range_with_len at n) ≡ n
count_numbers at zero = refl
count_numbers at (suc n) = ap suc (count_numbers (at + 1) n)

-- there are as many copies as numbers
pub as_many : {X : Type 0} (a : Accepted) (formula : X → Formula) (tests : List X) (copies lent : List Accepted) (numbers given : List ℕ) → copies ≡ map (copy_of a) (map formula tests) → lent ≡ copies → numbers ≡ numbers_to (length tests) → given ≡ numbers
    → length lent ≡ length given
as_many a formula tests copies lent numbers given made lends counted gives =
    ap length (lends ∙ made) ∙ length-map (map formula tests) (copy_of a) ∙ length-map tests formula ∙ sym (ap length (gives ∙ counted) ∙ count_numbers 1 (length tests))

-- and each number is one of eight
pub small_numbers : (count : ℕ) (numbers given : List ℕ) → count ≤ 8 → numbers ≡ numbers_to count → given ≡ numbers → (i : ℕ) → Has i given → i < 10
small_numbers count numbers given few counted gives i h =
    let within : i < 1 + count = Has-range 1 count i (subst (λ (ns : List ℕ). Has i ns) (gives ∙ counted) h) in
    omega (arith, within, few)
