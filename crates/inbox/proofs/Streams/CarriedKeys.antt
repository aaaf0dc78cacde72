-- A stream carries a key one level at a time; a stream or a port that carries it has its columns, and it comes from lower regions.
use Rattle.std.proofs.Common.{if◌then◌else◌, ◌≡◌, refl, ap, sym, subst, ◌∙◌, ℕ, ◌<◌, ◌&&◌, nat_lt, true, false, List, length, map, inl, inr, Option, None, Some, arith}
use Rattle.std.specs.List.{list_all, zip}
use Rattle.std.specs.Option.{option_map, option_and_then, unwrap_or}
use Rattle.std.proofs.lemmas.Bool.{or_cases, and_from}
use Rattle.std.proofs.lemmas.Option.{slice_get-get_or}
use Rattle.blz_value.specs.Members.{Has}
use Rattle.blz_value.proofs.Membership.{Has-flat_map, all_member, all_from, Has-get_or}
use Rattle.blz_value.specs.declared.attrs.Attrs.{Attrs}
use Rattle.blz_value.specs.Closure.{within, closure}
use Rattle.blz_value.proofs.Within.{within-trans}
use Rattle.bloom_forms.specs.Gates.{set_of_roots}
use Rattle.bloom_forms.specs.Roots.{Roots}
use Rattle.bloom_forms.proofs.Copies.Copying.{root-within}
use Rattle.bloom_forms.specs.declared.mode.Mode.{Mode}
use Rattle.bloom_forms.specs.declared.mode.Mode.TheVariants.{Free, Pass, Seal, Order}
use Rattle.topo_forms.specs.Carried.{may_carry, allows_notes, streams_towards, carries_key, key_before, carries, port_carries}
use Rattle.blz_value.specs.Arrows.{is_key}
use Rattle.blz_value.proofs.Booleans.{both_true}
use Rattle.blz_value.proofs.Options.{is_key-is}
use Rattle.topo_forms.specs.Data.{key_places}
use Rattle.topo_forms.specs.Dependencies.{usable_fds}
use Rattle.topo_forms.specs.Laws.{carries_next}
use Rattle.topo_forms.specs.Regions.{region_of, is_in_cycle}
use Rattle.topo_forms.specs.Valid.{IsValid}
use Rattle.topo_forms.specs.View.{View, End, origin_of, stream_at, port_at, output_at, own_attrs, component_at, mode_of, mode_key, is_order, is_order_mode, has_body, has_stream, goes_to, streams_to, ports_towards, stream_of, Output, own_root, stream_attrs}
use Rattle.topo_forms.proofs.Found.OneLevel.{carries_law}
use Rattle.topo_forms.proofs.Regions.Lower.{feeds_edge, lower_outside}
use Rattle.inbox.specs.Emission.{output_key}
use Rattle.inbox.specs.Wiring.{carried_places, instance_for}
use Rattle.inbox.proofs.WiringLemmas.{get_or-below, length-below}
use Rattle.inbox.specs.StreamLaws.{StreamKeyLaw, PortKeyLaw, CarriedLaw}
use Rattle.inbox.specs.Agreement.{IsCarriedBy}
use Rattle.inbox.proofs.Columns.Attributes.{root_within, roots_within, own_column}
use Rattle.inbox.proofs.Streams.IntoPorts.{goes_is, own_stream, stream_into, attrs_into, into_port, some_stream}

-- ---- keys

carried_by : (v : View) (s : ℕ) (o : Option End) (own : Attrs) → origin_of v s ≡ o → key_before v s o ≡ Some own → carries_key v own.bits s ≡ true → carries v s ≡ Some own
unfolding carries
carried_by v s o own is before does =
    ap (λ (p : Option End). option_and_then (λ key. if carries_key v key.bits s then Some key else None) (key_before v s p)) is
    ∙ ap (option_and_then (λ key. if carries_key v key.bits s then Some key else None)) before
    ∙ ap (λ b. if b then Some own else None) does

-- what a stream carries is the key before it
carries_cases : (v : View) (s : ℕ) (o : Option Attrs) (key : Attrs) → option_and_then (λ own. if carries_key v own.bits s then Some own else None) o ≡ Some key → (o ≡ Some key) × (carries_key v key.bits s ≡ true)
carries_cases v s None key e = cc
carries_cases v s (Some own) key e =
    elim (carries_key v own.bits s) as (λ b. carries_key v own.bits s ≡ b → (Some own ≡ Some key) × (carries_key v key.bits s ≡ true)) [
      | true ↦ λ t.
          let same : Some own ≡ Some key = sym (ap (λ b. if b then Some own else None) t) ∙ e in
          (same, subst (λ (k : Attrs). carries_key v k.bits s ≡ true) (let is : own ≡ key = cc in is) t)
      | false ↦ λ f. let none : None ≡ Some key = sym (ap (λ b. if b then Some own else None) f) ∙ e in cc
    ] refl

-- the key that a stream carries is that of its component's mode
pub carries-from : (v : View) (s : ℕ) (key : Attrs) → carries v s ≡ Some key → (key_before v s (origin_of v s) ≡ Some key) × (carries_key v key.bits s ≡ true)
unfolding carries
carries-from v s key e = carries_cases v s (key_before v s (origin_of v s)) key e

-- a source that carries a key has declared it
pub key_of_source : (v : View) (s : ℕ) (places : List ℕ) → origin_of v s ≡ None → carried_places v s ≡ Some places
    → (own : Attrs) × ((stream_at v s).key ≡ Some own) × (places ≡ key_places (stream_at v s).columns own.bits)
key_of_source v s places is carried = by_key (carries v s) refl
  where
    by_key : (key : Option Attrs) → carries v s ≡ key → (own : Attrs) × ((stream_at v s).key ≡ Some own) × (places ≡ key_places (stream_at v s).columns own.bits)
    by_key None none = let bad : None ≡ Some places = sym (ap (option_map (λ key. key_places (stream_at v s).columns key.bits)) none) ∙ carried in cc
    by_key (Some own) some =
        let at : Some (key_places (stream_at v s).columns own.bits) ≡ Some places = sym (ap (option_map (λ key. key_places (stream_at v s).columns key.bits)) some) ∙ carried in
        let same : key_places (stream_at v s).columns own.bits ≡ places = cc in
        (own, sym (ap (key_before v s) is) ∙ (carries-from v s own some).0, sym same)

-- the output may carry the key
pub record MayCarry (v : View) (key c o : ℕ) : Type 0 where
  pub body : has_body v c ≡ true
  pub own_key : Attrs
  pub mode : mode_key (mode_of v c) ≡ Some own_key
  pub is : own_key.bits ≡ key
  pub streams : (p : ℕ) → Has p (ports_towards v c o) → has_stream v c p ≡ true
  pub closed : within key (closure (output_at v c o).gate.bits (usable_fds v c)) ≡ true
  pub own : within key (own_attrs (output_at v c o)) ≡ true
  pub notes : allows_notes v (mode_of v c) c o ≡ true

pub may_carry-is : (v : View) (key c o : ℕ) → may_carry v key (Some (c, o)) ≡ true → MayCarry v key c o
may_carry-is v key c o e =
    let a = both_true (has_body v c) _ e in
    let b = both_true (is_key key (mode_key (mode_of v c))) _ a.1 in
    let d = both_true (nat_lt 0 (length (ports_towards v c o))) _ b.1 in
    let f = both_true (list_all (has_stream v c) (ports_towards v c o)) _ d.1 in
    let g = both_true (within key (closure (output_at v c o).gate.bits (usable_fds v c))) _ f.1 in
    let h = both_true (within key (own_attrs (output_at v c o))) (allows_notes v (mode_of v c) c o) g.1 in
    let k = is_key-is key (mode_key (mode_of v c)) b.0 in
    record {
      body = a.0;
      own_key = k.0;
      mode = k.1;
      is = k.2;
      streams = λ p m. all_member (has_stream v c) (ports_towards v c o) p f.0 m;
      closed = g.0;
      own = h.0;
      notes = h.1;
    }

module _ (v : View) (valid : IsValid v) where
  few : length v.streams < 65
  few = let n = valid.numbered.few_streams in omega (arith, n)

  -- the stream of an output carries a key only where it may, and the streams into the ports with a note towards it do
  pub carried_output : (key s : ℕ) (output : End) → s < length v.streams → origin_of v s ≡ Some output → carries_key v key s ≡ true
      → (may_carry v key (Some output) ≡ true) × (list_all (carries_key v key) (streams_towards v output.0 output.1) ≡ true)
  carried_output key s output lt is does =
      let next : carries_next v key (carries_key v key) s (Some output) ≡ true = ap (carries_next v key (carries_key v key) s) (sym is) ∙ sym (carries_law v few key s lt) ∙ does in
      elim (or_cases (is_key key (stream_at v s).key) (may_carry v key (Some output) && list_all (carries_key v key) (streams_towards v output.0 output.1)) next) [
        | inl own ↦
            let k = is_key-is key (stream_at v s).key own in
            let none : Some output ≡ None = sym is ∙ (valid.columns s lt).of_source k.0 k.1 in
            cc
        | inr both ↦ both_true (may_carry v key (Some output)) (list_all (carries_key v key) (streams_towards v output.0 output.1)) both
      ]

  -- and a source only a key of its own
  pub carried_source : (key s : ℕ) → s < length v.streams → origin_of v s ≡ None → carries_key v key s ≡ true → (own : Attrs) × ((stream_at v s).key ≡ Some own) × (own.bits ≡ key)
  carried_source key s lt is does =
      is_key-is key (stream_at v s).key (ap (carries_next v key (carries_key v key) s) (sym is) ∙ sym (carries_law v few key s lt) ∙ does)

  -- a stream that carries a key has its places
  pub carried_at : (key s : ℕ) → s < length v.streams → carries_key v key s ≡ true → carried_places v s ≡ Some (key_places (stream_at v s).columns key)
  carried_at key s lt does = go (origin_of v s) refl
    where
      of_key : (own : Attrs) → own.bits ≡ key → carries v s ≡ Some own → carried_places v s ≡ Some (key_places (stream_at v s).columns key)
      of_key own is e = ap (option_map (λ (k : Attrs). key_places (stream_at v s).columns k.bits)) e ∙ ap (λ (k : ℕ). Some (key_places (stream_at v s).columns k)) is

      go : (o : Option End) → origin_of v s ≡ o → carried_places v s ≡ Some (key_places (stream_at v s).columns key)
      go None e =
          let k = carried_source key s lt e does in
          of_key k.0 k.2 (carried_by v s None k.0 e k.1 (ap (λ (n : ℕ). carries_key v n s) k.2 ∙ does))
      go (Some output) e =
          let both = carried_output key s output lt e does in
          let m = may_carry-is v key output.0 output.1 both.0 in
          of_key m.own_key m.is (carried_by v s (Some output) m.own_key e m.mode (ap (λ (n : ℕ). carries_key v n s) m.is ∙ does))

  -- each port with a note towards an output that carries a key does
  pub towards_carries : (key c o p : ℕ) → MayCarry v key c o → list_all (carries_key v key) (streams_towards v c o) ≡ true → Has p (ports_towards v c o) → port_carries v key c p ≡ true
  towards_carries key c o p may behind h =
      and_from (has_stream v c p) (list_all (carries_key v key) (streams_to v c p)) (may.streams p h)
      (all_from (carries_key v key) (streams_to v c p) (λ s m. all_member (carries_key v key) (streams_towards v c o) s behind (Has-flat_map (streams_to v c) p s (ports_towards v c o) h m)))

  -- a component with a key isn't in a cycle, and isn't Order
  keyed_mode : (mode : Mode) (key : Attrs) → mode_key mode ≡ Some key → is_order_mode mode ≡ false
  keyed_mode Free key e = cc
  keyed_mode (Pass k) key e = refl
  keyed_mode (Seal k) key e = refl
  keyed_mode Order key e = cc

  pub not_ordered : (c : ℕ) (key : Attrs) → mode_key (mode_of v c) ≡ Some key → is_order v c ≡ false
  not_ordered c key mode = keyed_mode (mode_of v c) key mode

  pub not_cyclic : (c : ℕ) (key : Attrs) → c < length v.components → mode_key (mode_of v c) ≡ Some key → is_in_cycle v c ≡ false
  not_cyclic c key lt mode = elim (is_in_cycle v c) as (λ b. is_in_cycle v c ≡ b → b ≡ false) [
    | true ↦ λ t. let none : Some key ≡ None = sym mode ∙ (valid.components c lt).no_seal t in cc
    | false ↦ λ f. refl
  ] refl

  -- a stream into a component with a key comes from a lower region
  pub comes_lower : (c p s : ℕ) (output : End) (key : Attrs) → c < length v.components → mode_key (mode_of v c) ≡ Some key → s < length v.streams → origin_of v s ≡ Some output → goes_to v c p s ≡ true → region_of v output.0 < region_of v c
  comes_lower c p s output key there mode lt is goes =
      lower_outside v valid (output.0, c) (feeds_edge v valid s output (c, p) lt is (goes_is v c p s goes) (not_ordered c key mode)) (not_cyclic c key there mode)

  -- the places at which an instance counts for the seals of an output
  pub output_places : (c o s j : ℕ) (places : List ℕ) → s < length v.streams → origin_of v s ≡ Some (c, o) → carried_places v s ≡ Some places → output_key (instance_for v c j) o ≡ Some places
  output_places c o s j places lt is carried =
      let there : o < length (component_at v c).outputs = (valid.numbered.origins s (c, o) lt is).1 in
      let outputs : List (Option (List ℕ)) = (instance_for v c j).outputs in
      let long : o < length outputs = subst (λ n. o < n) (sym (length-below (λ p. option_and_then (carried_places v) (stream_of v c p)) (length (component_at v c).outputs))) there in
      ap (option_and_then (λ key. key)) (slice_get-get_or outputs o None long
      ∙ ap Some (get_or-below (λ p. option_and_then (carried_places v) (stream_of v c p)) (length (component_at v c).outputs) o None there
      ∙ ap (option_and_then (carried_places v)) (own_stream v valid c o s lt is) ∙ carried))

-- ---- the columns of a key

-- columns that are their own roots are columns
pub own_columns_within : (output : Output) → within (own_attrs output) (set_of_roots output.columns) ≡ true
own_columns_within output = roots_within (map own_root (zip output.columns output.roots)) (set_of_roots output.columns) (λ a h.
    let n = own_column output a h in
    root_within output.columns a (subst (λ (z : Option ℕ). Has z output.columns) n.1 (Has-get_or output.columns n.0 None (root-within output.columns n.0 a n.1))))

-- a stream that carries a key has its columns
pub stream_key_law : StreamKeyLaw
stream_key_law v key s valid lt carries = by_origin (origin_of v s) refl
  where
    by_origin : (o : Option End) → origin_of v s ≡ o → within key (stream_attrs v s).bits ≡ true
    by_origin None from =
        let k = carried_source v valid key s lt from carries in
        subst (λ (n : ℕ). within n (stream_attrs v s).bits ≡ true) k.2 ((valid.columns s lt).of_key k.0 k.1)
    by_origin (Some output) from =
        let own : within key (own_attrs (output_at v output.0 output.1)) ≡ true = (may_carry-is v key output.0 output.1 (carried_output v valid key s output lt from carries).0).own in
        subst (λ (z : Roots). within key (set_of_roots z) ≡ true) (sym ((valid.columns s lt).of_output output from))
        (within-trans key (own_attrs (output_at v output.0 output.1)) (set_of_roots (output_at v output.0 output.1).columns) own (own_columns_within (output_at v output.0 output.1)))

-- so has a port that carries it
pub port_key_law : PortKeyLaw
port_key_law v key c p valid carries =
    let both = both_true (has_stream v c p) (list_all (carries_key v key) (streams_to v c p)) carries in
    let one = some_stream v c p both.0 in
    let own = all_member (carries_key v key) (streams_to v c p) one.0 both.1 (into_port v c p one.0 one.1.stands one.1.goes) in
    (both.0, subst (λ (n : ℕ). within key n ≡ true) (sym (attrs_into v valid c p one.0 one.1.stands one.1.goes)) (stream_key_law v key one.0 valid one.1.stands own))

-- the places of a key in the columns of a stream
abbrev places_of : View → (stream : ℕ) → Option Attrs → Option (List ℕ)
places_of v s = option_map (λ (key : Attrs). key_places (stream_at v s).columns key.bits)

-- the key that the stream of an output carries
pub carried_law : CarriedLaw
carried_law v s c o places valid lt from h = by_key (carries v s) refl
  where
    by_key : (key : Option Attrs) → carries v s ≡ key → IsCarriedBy v s c o places
    by_key None none = let bad : None ≡ Some places = sym (ap (places_of v s) none) ∙ h in cc
    by_key (Some key) some =
        let is : Some (key_places (stream_at v s).columns key.bits) ≡ Some places = sym (ap (places_of v s) some) ∙ h in
        let own = carries-from v s key some in
        let both = carried_output v valid key.bits s (c, o) lt from own.1 in
        record {
          key = key;
          of_mode = sym (ap (key_before v s) from) ∙ own.0;
          at = sym (ap (λ (p : Option (List ℕ)). unwrap_or p places) is);
          may = both.0;
          behind = both.1;
        }

-- the places of a key in the columns of a stream are those in the columns of a port to which it goes
pub port_places : (v : View) → IsValid v → (key c p s : ℕ) → s < length v.streams → goes_to v c p s ≡ true → key_places (stream_at v s).columns key ≡ key_places (map Some (port_at v c p).columns) key
port_places v valid key c p s lt goes = ap (λ columns. key_places columns key) (stream_into v valid c p s lt goes)
