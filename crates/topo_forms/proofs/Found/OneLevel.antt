-- Upheld dependencies and carried seals: one level.
use Rattle.std.proofs.Common.{◌≡◌, ◌<◌, ℕ, Bool, ◌&&◌, ◌||◌, Option, None, Some, length, arith, ap, ◌∙◌}
use Rattle.std.proofs.Math.Bool.{or-false}
use Rattle.blz_value.specs.Members.{Has}
use Rattle.blz_value.proofs.Membership.{Has-from_filter, Has-from_flat_map}
use Rattle.blz_value.specs.declared.attrs.Fd.{Fd}
use Rattle.blz_value.specs.Closure.{within}
use Rattle.topo_forms.specs.Carried.{may_carry, streams_behind, streams_towards, carriers, carries_key}
use Rattle.blz_value.specs.Arrows.{is_key}
use Rattle.blz_value.proofs.Ranges.{Has-below as from_below}
use Rattle.topo_forms.specs.Dependencies.{upholds_alone, hands_on, streams_before, upholders, upholds}
use Rattle.topo_forms.specs.Laws.{upholds_next, carries_next, UpholdsLaw, CarriesLaw}
use Rattle.topo_forms.specs.View.{View, End, origin_of, stream_at, stream_numbers, streams_to, streams_into, ports_towards, goes_into, goes_to}
use Rattle.topo_forms.proofs.Regions.Spreading.{in_below, numbers_within, one_level, belongs}

module _ (v : View) (few : length v.streams < 65) where
  small : (s : ℕ) → Has s (stream_numbers v) → s < 64
  small s has = omega (arith, few, from_below (length v.streams) s has)

  small_into : (c s : ℕ) → Has s (streams_into v c) → s < 64
  small_into c s has = small s (Has-from_filter (goes_into v c) s (stream_numbers v) has).0

  small_towards : (c o s : ℕ) → Has s (streams_towards v c o) → s < 64
  small_towards c o s has =
      let from = Has-from_flat_map (streams_to v c) s (ports_towards v c o) has in
      small s (Has-from_filter (goes_to v c from.0) s (stream_numbers v) from.2).0

  upholds_at : (fd : Fd) (s : ℕ) → s < length v.streams → upholds v fd s ≡ belongs (upholds_alone v fd) (λ u. hands_on v fd (origin_of v u)) (λ u. streams_before v (origin_of v u)) (stream_numbers v) small s
  unfolding upholders
  upholds_at fd s lt = one_level (upholds_alone v fd) (λ u. hands_on v fd (origin_of v u)) (λ u. streams_before v (origin_of v u)) (stream_numbers v) small s (in_below (length v.streams) s lt)

pub upholds_law : UpholdsLaw
unfolding upholders
upholds_law v few fd s lt = upholds_at v few fd s lt ∙ go (origin_of v s)
  where
    go : (o : Option End) → (upholds_alone v fd s || (hands_on v fd o && within (streams_before v o) (upholders v fd))) ≡ upholds_next v fd (upholds v fd) s o
    go None = or-false (upholds_alone v fd s)
    go (Some output) = ap (λ (b : Bool). upholds_alone v fd s || (hands_on v fd (Some output) && b)) (numbers_within (upholders v fd) (streams_into v output.0) (small_into v few output.0))

pub carries_law : CarriesLaw
unfolding carriers
carries_law v few key s lt =
    one_level (λ u. is_key key (stream_at v u).key) (λ u. may_carry v key (origin_of v u)) (λ u. streams_behind v (origin_of v u)) (stream_numbers v) (small v few) s (in_below (length v.streams) s lt)
    ∙ go (origin_of v s)
  where
    go : (o : Option End) → (is_key key (stream_at v s).key || (may_carry v key o && within (streams_behind v o) (carriers v key))) ≡ carries_next v key (carries_key v key) s o
    go None = or-false (is_key key (stream_at v s).key)
    go (Some output) = ap (λ (b : Bool). is_key key (stream_at v s).key || (may_carry v key (Some output) && b)) (numbers_within (carriers v key) (streams_towards v output.0 output.1) (small_towards v few output.0 output.1))
