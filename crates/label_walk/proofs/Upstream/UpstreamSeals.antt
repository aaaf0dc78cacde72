-- Upheld dependencies and carried seals look upstream only.
use Rattle.std.proofs.Common.{◌≡◌, ◌<◌, ℕ, zero, suc, not, nat_eq, nat_lt, Bool, true, false, ◌&&◌, ◌||◌, is_some, if◌then◌else◌, Option, None, Some, List, [], length, filter, get_or, refl, arith, ap, sym, subst, ◌∙◌, bit_or}
use Rattle.std.specs.List.{list_all, flat_map}
use Rattle.std.specs.Option.{option_map_or, option_and_then}
use Rattle.std.proofs.lemmas.Bool.{true≢false, false_from_ne_true, eqb-true}
use Rattle.blz_value.specs.declared.attrs.Attrs.{Attrs}
use Rattle.blz_value.specs.declared.attrs.Fd.{Fd}
use Rattle.blz_value.specs.Closure.{within, closure}
use Rattle.blz_value.specs.Members.{Has}
use Rattle.blz_value.proofs.Membership.{Has-filter, Has-from_filter, Has-from_any, Has-from_flat_map, any_from_Has}
use Rattle.bloom_forms.specs.declared.mode.Mode.{Mode}
use Rattle.bloom_forms.specs.declared.mode.Mode.TheVariants as mode
use Rattle.topo_forms.specs.Carried.{is_confluent, is_confluent_output, allows_notes, may_carry, streams_towards, carries_key, key_before, carries}
use Rattle.blz_value.specs.Arrows.{is_key}
use Rattle.topo_forms.specs.Dependencies.{upholds_alone, hands_on, upholds, is_usable, has_to_with_from, usable_fds}
use Rattle.blz_value.specs.Graph.{Edge, is_in}
use Rattle.topo_forms.specs.Laws.{upholds_next, carries_next}
use Rattle.topo_forms.specs.Regions.{edges, region_of, is_in_cycle}
use Rattle.blz_value.specs.NumberSets.{below}
use Rattle.blz_value.proofs.Booleans.{not_true as not_so, both_true}
use Rattle.blz_value.proofs.Ranges.{Has-below as from_below}
use Rattle.blz_value.proofs.Lists.{all_on as all_alike, filter_same as filter_alike}
use Rattle.topo_forms.specs.View.{View, End, Component, no_output, stream_at, component_at, same_end, goes_to, goes_into, origin_of, ends_of, mode_of, mode_key, is_order, is_order_mode, has_body, has_stream, own_attrs, ports_towards, stream_numbers, streams_to, streams_into}
use Rattle.topo_forms.proofs.Found.OneLevel.{upholds_law, carries_law}
use Rattle.topo_forms.proofs.Regions.Lower.{feeds_edge, lower_outside}
use Rattle.label_walk.proofs.Upstream.Alike.{holding, Alike, same_component}
use Rattle.label_walk.proofs.Upstream.UpstreamRegions.{cycle_same}
use Rattle.label_walk.proofs.Tests.{and_false}

-- a later region has a higher rank, and sources have the least
abbrev pub rank_from : View → Option End → ℕ
rank_from v origin = option_map_or (λ output. suc (region_of v output.0)) origin 0

abbrev pub rank : View → (stream : ℕ) → ℕ
rank v s = rank_from v (origin_of v s)

module _ (b : View) (xs ys : List Component) (set : ℕ) (alike : Alike b xs ys set) where
  abbrev v : View
  v = holding b xs

  abbrev w : View
  w = holding b ys

  abbrev pub Inside : ℕ → Type 0
  Inside s = (output : End) → origin_of b s ≡ Some output → is_in output.0 set ≡ true

  -- ---- by rank

  pub by_rank : (P : ℕ → Type 0) → ((s : ℕ) → s < length b.streams → Inside s → ((u : ℕ) → u < length b.streams → Inside u → rank v u < rank v s → P u) → P s)
      → (n s : ℕ) → rank v s < n → s < length b.streams → Inside s → P s
  by_rank P step zero s low lt inside = absurd (omega arith)
  by_rank P step (suc n) s low lt inside = step s lt inside (λ u ltu insideu lower. by_rank P step n u (omega arith) ltu insideu)

  -- ---- streams into a component of the set that isn't Order

  pub record Feeding (c u : ℕ) : Type 0 where
    pub stands : u < length b.streams
    pub inside : Inside u
    pub lower : is_in_cycle v c ≡ false → rank v u < suc (region_of v c)

  pub feeding : (c u : ℕ) → is_in c set ≡ true → is_order v c ≡ false → Has u (streams_into b c) → Feeding c u
  feeding c u here free has =
      let kept = Has-from_filter (goes_into b c) u (stream_numbers b) has in
      let lt = from_below (length b.streams) u kept.0 in
      let goes = Has-from_any (λ (end : End). nat_eq c end.0) (ends_of b u) kept.1 in
      let there : c ≡ goes.0.0 = eqb-true c goes.0.0 goes.2 in
      let edge : (output : End) → origin_of b u ≡ Some output → Has {X = Edge} (output.0, c) (edges v) = (λ output is.
      subst (λ (d : ℕ). Has {X = Edge} (output.0, d) (edges v)) (sym there) (feeds_edge v alike.first u output goes.0 lt is goes.1 (subst (λ (d : ℕ). is_order v d ≡ false) there free))) in
      record {
        stands = lt;
        inside = λ output is. alike.before (output.0, c) (edge output is) here;
        lower = λ acyclic. low (origin_of b u) refl acyclic edge;
      }
    where
      low : (o : Option End) → origin_of b u ≡ o → is_in_cycle v c ≡ false → ((output : End) → origin_of b u ≡ Some output → Has {X = Edge} (output.0, c) (edges v)) → rank_from v o < suc (region_of v c)
      low None is acyclic edge = omega arith
      low (Some output) is acyclic edge = omega (arith, lower_outside v alike.first (output.0, c) (edge output is) acyclic)

  pub to_into : (c p u : ℕ) → Has u (streams_to b c p) → Has u (streams_into b c)
  to_into c p u has =
      let kept = Has-from_filter (goes_to b c p) u (stream_numbers b) has in
      let goes = Has-from_any (λ (end : End). same_end (c, p) end) (ends_of b u) kept.1 in
      Has-filter (goes_into b c) u (stream_numbers b) kept.0 (any_from_Has (λ (end : End). nat_eq c end.0) goes.0 (ends_of b u) goes.1 (both_true (nat_eq c goes.0.0) (nat_eq p goes.0.1) goes.2).0)

  rank_is : (s : ℕ) (output : End) → origin_of b s ≡ Some output → rank v s ≡ suc (region_of v output.0)
  rank_is s output is = ap (rank_from v) is

  -- ---- components

  pub component_same : (c : ℕ) → is_in c set ≡ true → component_at v c ≡ component_at w c
  component_same c here = same_component b xs ys alike.freed c (alike.modes c here)

  few : length b.streams < 65
  few = let valid = alike.first in omega (arith, valid.numbered.few_streams)

  -- ---- upheld dependencies

  hands_same : (fd : Fd) (output : End) → is_in output.0 set ≡ true → hands_on v fd (Some output) ≡ hands_on w fd (Some output)
  hands_same fd output here =
      let one = component_same output.0 here in let cycle = cycle_same b xs ys set alike output.0 here in
      λ i. is_some (one i).program && (not (is_order_mode (one i).mode) && (not (cycle i) && within (bit_or fd.from.bits fd.to.bits) (own_attrs (get_or (one i).outputs output.1 no_output))))

  pub upholds_same : (fd : Fd) (s : ℕ) → s < length b.streams → Inside s → upholds v fd s ≡ upholds w fd s
  upholds_same fd s lt inside = by_rank (λ u. upholds v fd u ≡ upholds w fd u) step (suc (rank v s)) s (omega arith) lt inside
    where
      step : (s : ℕ) → s < length b.streams → Inside s → ((u : ℕ) → u < length b.streams → Inside u → rank v u < rank v s → upholds v fd u ≡ upholds w fd u) → upholds v fd s ≡ upholds w fd s
      step s lt inside before = upholds_law v few fd s lt ∙ by (origin_of b s) refl ∙ sym (upholds_law w few fd s lt)
        where
          by : (o : Option End) → origin_of b s ≡ o → upholds_next v fd (upholds v fd) s o ≡ upholds_next w fd (upholds w fd) s o
          by None is = refl
          by (Some output) is =
              let here = inside output is in let hands = hands_same fd output here in
              λ i. upholds_alone b fd s || (go (hands_on v fd (Some output)) refl hands i)
            where
              go : (x : Bool) → hands_on v fd (Some output) ≡ x → hands_on v fd (Some output) ≡ hands_on w fd (Some output)
                  → (hands_on v fd (Some output) && list_all (upholds v fd) (streams_into b output.0)) ≡ (hands_on w fd (Some output) && list_all (upholds w fd) (streams_into b output.0))
              go true q hands =
                  let a = both_true (has_body v output.0) _ q in
                  let c = both_true (not (is_order v output.0)) _ a.1 in
                  let d = both_true (not (is_in_cycle v output.0)) _ c.1 in
                  let free = not_so (is_order v output.0) c.0 in
                  let acyclic = not_so (is_in_cycle v output.0) d.0 in
                  let more = all_alike (upholds v fd) (upholds w fd) (streams_into b output.0) (λ u has.
                  let f = feeding output.0 u (inside output is) free has in
                  before u f.stands f.inside (let low = f.lower acyclic in let own = rank_is s output is in omega (arith, low, own))) in
                  λ i. hands i && more i
              go false q hands = and_false _ _ q ∙ sym (and_false _ _ (sym hands ∙ q))

  pub usable_same : (c : ℕ) → is_in c set ≡ true → is_order v c ≡ false → usable_fds v c ≡ usable_fds w c
  unfolding usable_fds
  usable_same c here free = filter_alike (is_usable v c) (is_usable w c) b.fds (λ fd has.
      all_alike (λ s. upholds v fd s && has_to_with_from b fd s) (λ s. upholds w fd s && has_to_with_from b fd s) (streams_into b c) (λ s into.
      let f = feeding c s here free into in
      ap (λ (x : Bool). x && has_to_with_from b fd s) (upholds_same fd s f.stands f.inside)))

  -- ---- carried seals

  confluent_same : (output : End) → is_in output.0 set ≡ true → is_confluent_output v output.0 output.1 ≡ is_confluent_output w output.0 output.1
  confluent_same output here =
      let one = component_same output.0 here in
      λ i. list_all (λ p. option_map_or is_confluent (get_or (get_or (one i).notes p []) output.1 None) true) (filter (λ p. is_some (get_or (get_or (one i).notes p []) output.1 None)) (below (length (one i).ports)))

  allows_same : (output : End) → is_in output.0 set ≡ true → (m n : Mode) → m ≡ n → allows_notes v m output.0 output.1 ≡ allows_notes w n output.0 output.1
  allows_same output here m n e = go m ∙ ap (λ (m : Mode). allows_notes w m output.0 output.1) e
    where
      go : (m : Mode) → allows_notes v m output.0 output.1 ≡ allows_notes w m output.0 output.1
      go mode.Free = refl
      go (mode.Pass key) = confluent_same output here
      go (mode.Seal key) = refl
      go mode.Order = refl

  towards_same : (output : End) → is_in output.0 set ≡ true → ports_towards v output.0 output.1 ≡ ports_towards w output.0 output.1
  towards_same output here =
      let one = component_same output.0 here in
      λ i. filter (λ p. is_some (get_or (get_or (one i).notes p []) output.1 None)) (below (length (one i).ports))

  ordered_never : (v : View) (key : ℕ) (output : End) → is_order v output.0 ≡ true → may_carry v key (Some output) ≡ false
  ordered_never v key output ordered = false_from_ne_true _ (λ h.
      let a = both_true (has_body v output.0) _ h in
      let c = both_true (is_key key (mode_key (mode_of v output.0))) _ a.1 in
      go (mode_of v output.0) ordered c.0)
    where
      go : (m : Mode) → is_order_mode m ≡ true → is_key key (mode_key m) ≡ true → ⊥
      go mode.Free p q = true≢false (sym q)
      go (mode.Pass k) p q = true≢false (sym p)
      go (mode.Seal k) p q = true≢false (sym p)
      go mode.Order p q = true≢false (sym q)

  may_same : (key : ℕ) (output : End) → is_in output.0 set ≡ true → may_carry v key (Some output) ≡ may_carry w key (Some output)
  may_same key output here = by (is_order v output.0) refl
    where
      by : (x : Bool) → is_order v output.0 ≡ x → may_carry v key (Some output) ≡ may_carry w key (Some output)
      by true q = ordered_never v key output q ∙ sym (ordered_never w key output (sym (ap is_order_mode (alike.modes output.0 here)) ∙ q))
      by false q =
          let one = component_same output.0 here in let ports = towards_same output here in let fds = usable_same output.0 here q in
          let notes = allows_same output here (mode_of v output.0) (mode_of w output.0) (alike.modes output.0 here) in
          λ i. is_some (one i).program && (is_key key (mode_key (one i).mode)
          && (nat_lt 0 (length (ports i)) && (list_all (has_stream b output.0) (ports i)
          && (within key (closure (get_or (one i).outputs output.1 no_output).gate.bits (fds i))
          && (within key (own_attrs (get_or (one i).outputs output.1 no_output))
          && notes i)))))

  -- who may carry has a key, isn't Order and not in a cycle
  record Waits (output : End) : Type 0 where
    free : is_order v output.0 ≡ false
    acyclic : is_in_cycle v output.0 ≡ false

  who_carries : (key : ℕ) (output : End) → output.0 < length xs → may_carry v key (Some output) ≡ true → Waits output
  who_carries key output lc h =
      let valid = alike.first in
      let a = both_true (has_body v output.0) _ h in
      let c = both_true (is_key key (mode_key (mode_of v output.0))) _ a.1 in
      record {
        free = false_from_ne_true _ (λ ordered. true≢false (sym h ∙ ordered_never v key output ordered));
        acyclic = false_from_ne_true _ (λ cyclic. keyless (mode_key (mode_of v output.0)) ((valid.components output.0 lc).no_seal cyclic) c.0);
      }
    where
      keyless : (k : Option Attrs) → k ≡ None → is_key key k ≡ true → ⊥
      keyless None e q = true≢false (sym q)
      keyless (Some k) e q = absurd cc

  pub carries_key_same : (key s : ℕ) → s < length b.streams → Inside s → carries_key v key s ≡ carries_key w key s
  carries_key_same key s lt inside = by_rank (λ u. carries_key v key u ≡ carries_key w key u) step (suc (rank v s)) s (omega arith) lt inside
    where
      step : (s : ℕ) → s < length b.streams → Inside s → ((u : ℕ) → u < length b.streams → Inside u → rank v u < rank v s → carries_key v key u ≡ carries_key w key u) → carries_key v key s ≡ carries_key w key s
      step s lt inside before = carries_law v few key s lt ∙ by (origin_of b s) refl ∙ sym (carries_law w few key s lt)
        where
          by : (o : Option End) → origin_of b s ≡ o → carries_next v key (carries_key v key) s o ≡ carries_next w key (carries_key w key) s o
          by None is = refl
          by (Some output) is =
              let here = inside output is in let may = may_same key output here in
              λ i. is_key key (stream_at b s).key || (go (may_carry v key (Some output)) refl may i)
            where
              go : (x : Bool) → may_carry v key (Some output) ≡ x → may_carry v key (Some output) ≡ may_carry w key (Some output)
                  → (may_carry v key (Some output) && list_all (carries_key v key) (streams_towards v output.0 output.1)) ≡ (may_carry w key (Some output) && list_all (carries_key w key) (streams_towards w output.0 output.1))
              go true q may =
                  let valid = alike.first in
                  let lc : output.0 < length xs = (valid.numbered.origins s output lt is).0 in
                  let waits = who_carries key output lc q in
                  let more = all_alike (carries_key v key) (carries_key w key) (streams_towards v output.0 output.1) (λ u has.
                  let from = Has-from_flat_map (streams_to b output.0) u (ports_towards v output.0 output.1) has in
                  let f = feeding output.0 u (inside output is) waits.free (to_into output.0 from.0 u from.2) in
                  before u f.stands f.inside (let low = f.lower waits.acyclic in let own = rank_is s output is in omega (arith, low, own))) in
                  let ports = towards_same output (inside output is) in
                  let all = more ∙ ap (λ (ps : List ℕ). list_all (carries_key w key) (flat_map (streams_to b output.0) ps)) ports in
                  λ i. may i && all i
              go false q may = and_false _ _ q ∙ sym (and_false _ _ (sym may ∙ q))

  pub carries_same : (s : ℕ) → s < length b.streams → Inside s → carries v s ≡ carries w s
  unfolding carries
  carries_same s lt inside = let before = key_same (origin_of b s) refl in λ i. option_and_then (λ (key : Attrs). if carries_key_same key.bits s lt inside i then Some key else None) (before i)
    where
      key_same : (o : Option End) → origin_of b s ≡ o → key_before v s o ≡ key_before w s o
      key_same None is = refl
      key_same (Some output) is = ap mode_key (alike.modes output.0 (inside output is))
