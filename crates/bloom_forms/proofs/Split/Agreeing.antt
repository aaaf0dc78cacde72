-- Records that agree on a gate have one key.
use Rattle.std.proofs.Common.{◌≡◌, ℕ, Bool, true, List}
use Rattle.blz_value.proofs.Maps.{same_map}
use Rattle.blz_value.specs.declared.attrs.Fd.{Fd}
use Rattle.blz_value.specs.Closure.{within}
use Rattle.blz_value.proofs.Members.{in-within, member_small}
use Rattle.blz_value.proofs.Keeping.{HoldsOn, closure_keeps}
use Rattle.bloom_forms.specs.declared.program.Program.{Program}
use Rattle.bloom_forms.specs.Query.{Name}
use Rattle.bloom_forms.specs.Step.{Sets}
use Rattle.bloom_forms.specs.Attributes.{has_attribute, value_in}
use Rattle.bloom_forms.specs.Classes.{columns_at, key_of, IsInClosure, Arriving, HasAll, AgreeOn, AreKeyed}

module _ (names : List Name) (program : Program) (nows : List Sets) (is_used : ℕ → Bool) (fds : List Fd) (key : List ℕ) (keyed : AreKeyed names program nows is_used fds key) where
  -- both records have the attribute, with one value
  abbrev Both : Arriving program nows is_used → Arriving program nows is_used → ℕ → Type 0
  Both x y n = (has_attribute names (columns_at program x.port) n ≡ true) × (has_attribute names (columns_at program y.port) n ≡ true) × (value_in names (columns_at program x.port) x.row n ≡ value_in names (columns_at program y.port) y.row n)

  pub one_key : (gate set : ℕ) → within gate set ≡ true → IsInClosure key gate fds
      → (x y : Arriving program nows is_used) → HasAll names program x set → HasAll names program y set
      → AgreeOn names program x y set
      → key_of names (columns_at program x.port) key x.row ≡ key_of names (columns_at program y.port) key y.row
  one_key gate set inside closed x y has_x has_y agree =
      let start : HoldsOn (Both x y) gate = λ n h. let there = in-within n gate set (member_small n gate h) h inside in (has_x n there, has_y n there, agree n there) in
      let all = closure_keeps (Both x y) fds gate (λ fd stands from.
      let first : HasAll names program x fd.from.bits = λ n h. (from n h).0 in
      let second : HasAll names program y fd.from.bits = λ n h. (from n h).1 in
      let first_to = keyed.whole x fd stands first in
      let second_to = keyed.whole y fd stands second in
      let same = keyed.hold x y fd stands first first_to second second_to (λ n h. (from n h).2) in
      λ n h. (first_to n h, second_to n h, same n h)) start in
      same_map (value_in names (columns_at program x.port) x.row) (value_in names (columns_at program y.port) y.row) key (λ n h. (all n (closed n h)).2)
