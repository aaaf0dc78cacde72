-- A key that a stream carries isn't empty and holds attributes of the topology.
use Rattle.std.proofs.Common.{◌≡◌, ◌≢◌, ◌≤◌, ◌<◌, ◌^◌, ◌||◌, not, inl, inr, ℕ, nat_lt, nat_le, Bool, true, false, if◌then◌else◌, Option, None, Some, List, [], ◌∷◌, length, map, get_or, refl, arith, ap, sym, subst, ◌∙◌, bit_or}
use Rattle.std.specs.List.{list_all}
use Rattle.std.specs.Option.{option_and_then}
use Rattle.std.proofs.Math.Pow.{pow-lt}
use Rattle.std.proofs.lemmas.Bool.{true≢false}
use Rattle.std.proofs.lemmas.Nat.{or_lt, pow_pos}
use Rattle.blz_value.specs.declared.attrs.Attrs.{Attrs}
use Rattle.blz_value.specs.Bits.{bit_of, meets}
use Rattle.blz_value.proofs.Members.{in-empty}
use Rattle.blz_value.specs.Members.{Has}
use Rattle.blz_value.specs.Name.{is_name}
use Rattle.blz_value.proofs.Membership.{Has-get_or, Has-flat_map, Has-from_map, all_member}
use Rattle.bloom_forms.specs.Form.{Accepted}
use Rattle.bloom_forms.specs.Query.{Name}
use Rattle.blz_value.specs.Arrows.{with_all}
use Rattle.bloom_forms.proofs.Collections.Chosen.{in_chosen}
use Rattle.topo_forms.specs.declared.fault.TopoKind.TheVariants as kind
use Rattle.topo_forms.specs.declared.topology.ComponentEntry.{ComponentEntry}
use Rattle.topo_forms.specs.declared.topology.ModeName.{ModeName}
use Rattle.topo_forms.specs.declared.topology.ModeName.TheVariants as written
use Rattle.topo_forms.specs.declared.topology.SourceEntry.{SourceEntry}
use Rattle.topo_forms.specs.declared.topology.Topology.{Topology}
use Rattle.topo_forms.specs.Allowed.{IsAllowed, allows_source, allows_body, allows_component, allows_note, allows_key, are_names}
use Rattle.topo_forms.specs.Carried.{carries_key, key_before, carries}
use Rattle.blz_value.specs.NumberSets.{set_of_numbers}
use Rattle.blz_value.proofs.Booleans.{not_false, both_true, neither}
use Rattle.topo_forms.specs.Sites.{Site, site_at, attribute_number, no_entry, no_site}
use Rattle.topo_forms.specs.Valid.{IsValid, IsWhole, Validated}
use Rattle.topo_forms.specs.Validity.{fault_of}
use Rattle.topo_forms.specs.Validity.Twice.{names_within}
use Rattle.topo_forms.specs.Validity.Unknown.{misses_port, misses_attribute, misses_note, unknown_in_body}
use Rattle.topo_forms.specs.View.{View, Component, End, Stream, stream_at, origin_of, mode_of, mode_key}
use Rattle.topo_forms.specs.ViewOf.{attribute_set, key_of, mode_from, view_of, modules_in}
use Rattle.topo_forms.proofs.Columns.AttributeNames.{source_column-has}
use Rattle.topo_forms.proofs.Faults.NoFault.{no_source, source_fine, site_fine, few_attributes, length_sites}
use Rattle.topo_forms.proofs.Views.ViewNumbers.{site_entry, length_components}
use Rattle.topo_forms.proofs.Views.ViewParts.{sites, attributes, seen, at_component, at_source, at_stream, which_stream}
use Rattle.topo_forms.proofs.Views.ViewRuns.{column_there, from_names}
use Rattle.coord_modes.specs.Keys.{IsKeyIn}

-- ---- sets of numbers below a bound

bit-lt : (k n : ℕ) → n < k → bit_of n < 2 ^ k
unfolding bit_of
bit-lt k n lt = by (nat_lt n 64)
  where
    by : (b : Bool) → (if b then 2 ^ n else 0) < 2 ^ k
    by true = pow-lt lt
    by false = pow_pos k

bits-lt : (k s : ℕ) (ns : List ℕ) → ((n : ℕ) → Has n ns → n < k) → s < 2 ^ k → with_all s (map bit_of ns) < 2 ^ k
bits-lt k s [] low small = small
bits-lt k s (n ∷ ns) low small = bits-lt k (bit_or s (bit_of n)) ns (λ m has. low m (inr has)) (or_lt k s (bit_of n) small (bit-lt k n (low n (inl refl))))

set_filled : (n : ℕ) (ns : List ℕ) → n < 64 → Has n ns → set_of_numbers ns ≢ 0
set_filled n ns lt has empty =
    let here : meets (bit_of n) (set_of_numbers ns) ≡ true = in_chosen (λ (k : ℕ). true) (λ (k : ℕ). k) ns n has refl lt in
    true≢false (sym here ∙ ap (meets (bit_of n)) empty ∙ in-empty n)

-- ---- keys of names

module _ (names : List Name) (few : length names ≤ 64) where
  below : (name : Name) → Has name names → attribute_number names name < length names
  below name has = (column_there names name has).0

  abbrev Fits : Attrs → Type 0
  Fits key = (key.bits ≢ 0) × (key.bits < 2 ^ length names)

  filled_fits : (name : Name) (key : List Name) → ((other : Name) → Has other (name ∷ key) → Has other names) → Fits (attribute_set names (name ∷ key))
  filled_fits name key held = (
    set_filled (attribute_number names name) (map (attribute_number names) (name ∷ key)) (let lt = below name (held name (inl refl)) in omega (arith, lt, few)) (inl refl),
    bits-lt (length names) 0 (map (attribute_number names) (name ∷ key)) (λ n has.
        let from = Has-from_map (attribute_number names) n (name ∷ key) has in
        subst (λ (m : ℕ). m < length names) from.2 (below from.0 (held from.0 from.1))) (pow_pos (length names)),
  )

  key_of_fits : (names_of_key : List Name) (key : Attrs) → ((other : Name) → Has other names_of_key → Has other names) → key_of names names_of_key ≡ Some key → Fits key
  key_of_fits [] key held e = let bad : None ≡ Some key = e in cc
  key_of_fits (name ∷ rest) key held e = let same : attribute_set names (name ∷ rest) ≡ key = cc in subst Fits same (filled_fits name rest held)

  some_fits : (names_of_key : List Name) → nat_le 1 (length names_of_key) ≡ true → ((other : Name) → Has other names_of_key → Has other names) → Fits (attribute_set names names_of_key)
  some_fits [] le held = absurd (true≢false (sym le))
  some_fits (name ∷ rest) le held = filled_fits name rest held

  mode_fits : (m : ModeName) (names_of_key : List Name) (key : Attrs) → allows_key m names_of_key ≡ true → ((other : Name) → Has other names_of_key → Has other names)
      → mode_key (mode_from names m names_of_key) ≡ Some key → Fits key
  mode_fits written.Free ns key allowed held e = let bad : None ≡ Some key = e in cc
  mode_fits written.Order ns key allowed held e = let bad : None ≡ Some key = e in cc
  mode_fits written.Pass ns key allowed held e =
      let same : attribute_set names ns ≡ key = cc in
      subst Fits same (some_fits ns (both_true (nat_le 1 (length ns)) (are_names ns) allowed).0 held)
  mode_fits written.Seal ns key allowed held e =
      let same : attribute_set names ns ≡ key = cc in
      subst Fits same (some_fits ns (both_true (nat_le 1 (length ns)) (are_names ns) allowed).0 held)

-- ---- keys that are written

module _ (t : Topology) (modules : List Accepted) (allowed : IsAllowed t) (clean : fault_of t modules ≡ None) where
  abbrev v : View
  v = seen t modules

  abbrev ats : List Name
  ats = attributes t modules

  few : length ats ≤ 64
  few = few_attributes t modules clean

  source_key : (i : ℕ) (key : Attrs) → i < length t.sources → (stream_at v i).key ≡ Some key → Fits ats few key
  source_key i key lt e =
      let s : SourceEntry = get_or t.sources i no_source in
      let fine = neither (not (names_within s.seal s.columns)) (misses_port (sites t modules) s.to) (source_fine t modules clean kind.Unknown (inr (inr (inl refl))) i no_source lt) in
      key_of_fits ats few s.seal key (λ name has.
      source_column-has t.sources (sites t modules) name (Has-flat_map (λ (x : SourceEntry). x.columns) s name t.sources (Has-get_or t.sources i no_source lt)
      (from_names s.seal s.columns (not_false (names_within s.seal s.columns) fine.0) name has)))
      (subst (λ (x : Stream). x.key ≡ Some key) (at_source t modules i lt) e)

  component_key : (c : ℕ) (key : Attrs) → c < length v.components → mode_key (mode_of v c) ≡ Some key → Fits ats few key
  unfolding view_of
  component_key c key lt e =
      let ls : c < length (sites t modules) = omega (arith, lt, length_components t modules clean) in
      let lc : c < length t.components = omega (arith, ls, length_sites t.components modules) in
      let site : Site = site_at (sites t modules) c in
      let entry : ComponentEntry = get_or t.components c no_entry in
      let same : site.entry ≡ entry = site_entry t.components modules c lc in
      let fine = neither (unknown_in_body site.entry.body) _ (site_fine t modules clean kind.Unknown (inr (inr (inl refl))) c no_site ls) in
      let keys = neither (not (names_within site.entry.key ats)) (misses_attribute ats site.entry.notes || misses_note site site.entry.notes) fine.1 in
      let one = both_true _ _ allowed in
      let two = both_true (list_all allows_source t.sources) _ one.1 in
      let three = both_true (list_all allows_component t.components) _ two.1 in
      let own : allows_component entry ≡ true = all_member allows_component t.components entry three.0 (Has-get_or t.components c no_entry lc) in
      let body = both_true (is_name entry.name) _ own in
      let notes = both_true (allows_body entry.body entry.inputs entry.outputs) _ body.1 in
      let allows : allows_key entry.mode entry.key ≡ true = (both_true (list_all allows_note entry.notes) (allows_key entry.mode entry.key) notes.1).1 in
      mode_fits ats few site.entry.mode site.entry.key key (subst (λ (x : ComponentEntry). allows_key x.mode x.key ≡ true) (sym same) allows)
      (from_names site.entry.key ats (not_false (names_within site.entry.key ats) keys.0))
      (subst (λ (x : Component). mode_key x.mode ≡ Some key) (at_component t modules c ls) e)

  before_fits : IsValid v → (s : ℕ) (o : Option End) (key : Attrs) → s < length v.streams → origin_of v s ≡ o → key_before v s o ≡ Some key → Fits ats few key
  before_fits valid s None key lt is e = elim (which_stream t modules s lt) [
    | inl first ↦ source_key s key first e
    | inr other ↦ absurd (
        let written : (stream_at v s).key ≡ None = subst (λ (n : ℕ). (stream_at v n).key ≡ None) other.2 (ap (λ (x : Stream). x.key) (at_stream t modules other.0 other.1)) in
        let bad : None ≡ Some key = sym written ∙ e in cc)
  ]
  before_fits valid s (Some output) key lt is e = component_key output.0 key (valid.numbered.origins s output lt is).0 e

-- ---- what a stream carries

-- what a stream carries is the key before it
carries_cases : (v : View) (s : ℕ) (o : Option Attrs) (key : Attrs) → option_and_then (λ own. if carries_key v own.bits s then Some own else None) o ≡ Some key → (o ≡ Some key) × (carries_key v key.bits s ≡ true)
carries_cases v s None key e = let bad : None ≡ Some key = e in cc
carries_cases v s (Some own) key e = by (carries_key v own.bits s) refl e
  where
    by : (b : Bool) → carries_key v own.bits s ≡ b → (if b then Some own else None) ≡ Some key → (Some own ≡ Some key) × (carries_key v key.bits s ≡ true)
    by true t e = (e, subst (λ (k : Attrs). carries_key v k.bits s ≡ true) (let is : own ≡ key = cc in is) t)
    by false f e = let bad : None ≡ Some key = e in cc

pub carries-from : (v : View) (s : ℕ) (key : Attrs) → carries v s ≡ Some key → (key_before v s (origin_of v s) ≡ Some key) × (carries_key v key.bits s ≡ true)
unfolding carries
carries-from v s key e = carries_cases v s (key_before v s (origin_of v s)) key e

pub carried_by : (v : View) (s : ℕ) (own : Attrs) → key_before v s (origin_of v s) ≡ Some own → carries_key v own.bits s ≡ true → carries v s ≡ Some own
unfolding carries
carried_by v s own before does =
    ap (option_and_then (λ key. if carries_key v key.bits s then Some key else None)) before ∙ ap (λ (b : Bool). if b then Some own else None) does

module _ (now : Validated) (whole : IsWhole now) (valid : IsValid now.view) where
  view_is : now.view ≡ seen now.topology (modules_in now.view)
  unfolding view_of
  view_is = whole.is

  -- the key isn't empty and holds attributes of the topology only
  pub carried_key : (s : ℕ) (key : Attrs) → s < length now.view.streams → carries now.view s ≡ Some key → IsKeyIn now.view key
  carried_key s key lt e =
      let fits = subst (λ (x : View). IsValid x → (s : ℕ) (key : Attrs) → s < length x.streams → key_before x s (origin_of x s) ≡ Some key → (key.bits ≢ 0) × (key.bits < 2 ^ length x.attributes)) (sym view_is)
      (λ valid s key lt e. before_fits now.topology (modules_in now.view) whole.allowed whole.clean valid s (origin_of (seen now.topology (modules_in now.view)) s) key lt refl e)
      valid s key lt (carries-from now.view s key e).0 in
      record { filled = fits.0; within = fits.1 }
