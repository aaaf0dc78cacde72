-- In a valid topology no other streams fit the equations of upheld dependencies and of carried keys.
-- An output that hands something on stands outside cycles, so what its equation asks of other streams
-- comes from earlier regions: two solutions agree region by region.
use Rattle.std.proofs.Common.{◌≡◌, ◌<◌, ◌==◌, ◌&&◌, ◌||◌, ℕ, zero, suc, Bool, true, false, Option, None, Some, length, refl, arith, ap, sym, subst, ◌∙◌}
use Rattle.std.specs.List.{list_all}
use Rattle.std.proofs.lemmas.Bool.{true≢false, false_from_ne_true, eqb-true}
use Rattle.blz_value.specs.Members.{Has}
use Rattle.blz_value.proofs.Membership.{Has-from_any, Has-from_filter, Has-from_flat_map}
use Rattle.blz_value.specs.declared.attrs.Attrs.{Attrs}
use Rattle.blz_value.specs.declared.attrs.Fd.{Fd}
use Rattle.bloom_forms.specs.declared.mode.Mode.{Mode}
use Rattle.bloom_forms.specs.declared.mode.Mode.TheVariants.{Free, Pass, Seal, Order}
use Rattle.topo_forms.specs.Carried.{may_carry, streams_towards, carries_key}
use Rattle.blz_value.specs.Arrows.{is_key}
use Rattle.blz_value.proofs.Booleans.{not_true, both_true}
use Rattle.blz_value.proofs.Ranges.{Has-below as from_below}
use Rattle.blz_value.proofs.Lists.{all_on}
use Rattle.topo_forms.specs.Dependencies.{upholds_alone, hands_on, upholds}
use Rattle.topo_forms.specs.Laws.{upholds_next, carries_next, UpholdsOnce, CarriesOnce}
use Rattle.topo_forms.specs.Regions.{region_of, is_in_cycle}
use Rattle.topo_forms.specs.Valid.{IsValid}
use Rattle.topo_forms.specs.View.{View, End, stream_at, origin_of, ends_of, is_order, is_order_mode, mode_of, mode_key, stream_numbers, streams_into, streams_to, ports_towards, goes_into, goes_to, same_end}
use Rattle.topo_forms.proofs.Found.OneLevel.{upholds_law, carries_law}
use Rattle.topo_forms.proofs.Regions.Lower.{feeds_edge, lower_outside}

module _ (v : View) (valid : IsValid v) where
  few : length v.streams < 65
  few = omega (arith, valid.numbered.few_streams)

  -- sources first, then streams by the region from which they come
  abbrev rank : Option End → ℕ
  rank None = zero
  rank (Some output) = suc (region_of v output.0)

  -- what goes into a component outside cycles that isn't Order comes before what it sends
  earlier : (c : ℕ) → is_order v c ≡ false → is_in_cycle v c ≡ false → (u : ℕ) → u < length v.streams
      → (end : End) → Has end (ends_of v u) → end.0 ≡ c → rank (origin_of v u) < suc (region_of v c)
  earlier c free outside u lt end has same = go (origin_of v u) refl
    where
      go : (o : Option End) → origin_of v u ≡ o → rank o < suc (region_of v c)
      go None e = let first : 0 < suc (region_of v c) = omega arith in first
      go (Some output) e =
          let free_end : is_order v end.0 ≡ false = subst (λ (n : ℕ). is_order v n ≡ false) (sym same) free in
          let out_end : is_in_cycle v end.0 ≡ false = subst (λ (n : ℕ). is_in_cycle v n ≡ false) (sym same) outside in
          let lower : region_of v output.0 < region_of v end.0 = lower_outside v valid (output.0, end.0) (feeds_edge v valid u output end lt e has free_end) out_end in
          let here : region_of v output.0 < region_of v c = subst (λ (n : ℕ). region_of v output.0 < region_of v n) same lower in
          let next : suc (region_of v output.0) < suc (region_of v c) = omega (arith, here) in
          next

  -- an equation of a stream that asks of earlier streams alone
  abbrev IsLocal : ((ℕ → Bool) → ℕ → Option End → Bool) → Type 0
  IsLocal next = (f g : ℕ → Bool) (s : ℕ) → s < length v.streams
      → ((u : ℕ) → u < length v.streams → rank (origin_of v u) < rank (origin_of v s) → f u ≡ g u)
      → next f s (origin_of v s) ≡ next g s (origin_of v s)

  -- two solutions of such equations agree, by the ranks below a bound
  agree : (next : (ℕ → Bool) → ℕ → Option End → Bool) → IsLocal next → (f g : ℕ → Bool)
      → ((s : ℕ) → s < length v.streams → f s ≡ next f s (origin_of v s)) → ((s : ℕ) → s < length v.streams → g s ≡ next g s (origin_of v s))
      → (n s : ℕ) → s < length v.streams → rank (origin_of v s) < n → f s ≡ g s
  agree next local f g fits_f fits_g zero s lt below = absurd (let e : ⊥ = omega (arith, below) in e)
  agree next local f g fits_f fits_g (suc n) s lt below =
      fits_f s lt
      ∙ local f g s lt (λ u lu lower. agree next local f g fits_f fits_g n u lu (omega (arith, below, lower)))
      ∙ sym (fits_g s lt)

  -- ---- dependencies

  handed : (fd : Fd) (output : End) → hands_on v fd (Some output) ≡ true → (is_order v output.0 ≡ false) × (is_in_cycle v output.0 ≡ false)
  handed fd output h =
      let bodied = both_true _ _ h in
      let free = both_true _ _ bodied.1 in
      let outside = both_true _ _ free.1 in
      (not_true (is_order v output.0) free.0, not_true (is_in_cycle v output.0) outside.0)

  upholds_local : (fd : Fd) → IsLocal (upholds_next v fd)
  upholds_local fd f g s lt same = go (origin_of v s) refl
    where
      go : (o : Option End) → origin_of v s ≡ o → upholds_next v fd f s o ≡ upholds_next v fd g s o
      go None e = refl
      go (Some output) e = by (hands_on v fd (Some output)) refl
        where
          by : (b : Bool) → hands_on v fd (Some output) ≡ b → (upholds_alone v fd s || (hands_on v fd (Some output) && list_all f (streams_into v output.0))) ≡ (upholds_alone v fd s || (hands_on v fd (Some output) && list_all g (streams_into v output.0)))
          by false h = rw h refl
          by true h =
              let outside = handed fd output h in
              ap (λ (b : Bool). upholds_alone v fd s || (hands_on v fd (Some output) && b)) (all_on f g (streams_into v output.0) (λ u has.
              let into = Has-from_filter (goes_into v output.0) u (stream_numbers v) has in
              let lu = from_below (length v.streams) u into.0 in
              let end = Has-from_any (λ (x : End). output.0 == x.0) (ends_of v u) into.1 in
              same u lu (subst (λ (o : Option End). rank (origin_of v u) < rank o) (sym e) (earlier output.0 outside.0 outside.1 u lu end.0 end.1 (sym (eqb-true output.0 end.0.0 end.2))))))

  -- ---- keys

  -- a mode with a key is no Order
  keyed_free : (mode : Mode) (key : ℕ) → is_key key (mode_key mode) ≡ true → is_order_mode mode ≡ false
  keyed_free Free key h = refl
  keyed_free (Pass own) key h = refl
  keyed_free (Seal own) key h = refl
  keyed_free Order key h = absurd (true≢false (sym h))

  keyed_some : (key : ℕ) (own : Option Attrs) → is_key key own ≡ true → own ≡ None → ⊥
  keyed_some key own h none = true≢false (sym h ∙ ap (is_key key) none)

  carried : (key : ℕ) (output : End) → output.0 < length v.components → may_carry v key (Some output) ≡ true → (is_order v output.0 ≡ false) × (is_in_cycle v output.0 ≡ false)
  carried key output lc h =
      let bodied = both_true _ _ h in
      let keyed = both_true _ _ bodied.1 in (
        keyed_free (mode_of v output.0) key keyed.0,
        false_from_ne_true (is_in_cycle v output.0) (λ cyclic. keyed_some key (mode_key (mode_of v output.0)) keyed.0 ((valid.components output.0 lc).no_seal cyclic)),
      )

  carries_local : (key : ℕ) → IsLocal (carries_next v key)
  carries_local key f g s lt same = go (origin_of v s) refl
    where
      go : (o : Option End) → origin_of v s ≡ o → carries_next v key f s o ≡ carries_next v key g s o
      go None e = refl
      go (Some output) e = by (may_carry v key (Some output)) refl
        where
          by : (b : Bool) → may_carry v key (Some output) ≡ b → (is_key key (stream_at v s).key || (may_carry v key (Some output) && list_all f (streams_towards v output.0 output.1))) ≡ (is_key key (stream_at v s).key || (may_carry v key (Some output) && list_all g (streams_towards v output.0 output.1)))
          by false h = rw h refl
          by true h =
              let outside = carried key output (valid.numbered.origins s output lt e).0 h in
              ap (λ (b : Bool). is_key key (stream_at v s).key || (may_carry v key (Some output) && b)) (all_on f g (streams_towards v output.0 output.1) (λ u has.
              let port = Has-from_flat_map (streams_to v output.0) u (ports_towards v output.0 output.1) has in
              let into = Has-from_filter (goes_to v output.0 port.0) u (stream_numbers v) port.2 in
              let lu = from_below (length v.streams) u into.0 in
              let end = Has-from_any (λ (x : End). same_end (output.0, port.0) x) (ends_of v u) into.1 in
              let there = both_true (output.0 == end.0.0) (port.0 == end.0.1) end.2 in
              same u lu (subst (λ (o : Option End). rank (origin_of v u) < rank o) (sym e) (earlier output.0 outside.0 outside.1 u lu end.0 end.1 (sym (eqb-true output.0 end.0.0 there.0))))))

pub upholds_once : UpholdsOnce
upholds_once v valid fd holds fits s lt =
    agree v valid (upholds_next v fd) (upholds_local v valid fd) holds (upholds v fd) fits (upholds_law v (few v valid) fd)
    (suc (rank v valid (origin_of v s))) s lt (omega arith)

pub carries_once : CarriesOnce
carries_once v valid key holds fits s lt =
    agree v valid (carries_next v key) (carries_local v valid key) holds (carries_key v key) fits (carries_law v (few v valid) key)
    (suc (rank v valid (origin_of v s))) s lt (omega arith)
