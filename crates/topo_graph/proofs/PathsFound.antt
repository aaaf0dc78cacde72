-- What is found of paths is what carried seals say.
use Rattle.std.proofs.Common.{◌≡◌, ◌<◌, inl, inr, ℕ, nat_lt, Bool, ◌&&◌, if◌then◌else◌, Option, None, Some, List, [], ◌∷◌, map, filter, length, refl, arith, ap, ◌∙◌}
use Rattle.std.specs.List.{enumerate_from, list_all, zip}
use Rattle.std.specs.Option.{option_and_then}
use Rattle.std.proofs.lemmas.Bool.{cases_Bool}
use Rattle.blz_value.specs.declared.attrs.Attrs.{Attrs}
use Rattle.blz_value.specs.declared.attrs.Fd.{Fd}
use Rattle.blz_value.specs.Bits.{bit_of, meets}
use Rattle.blz_value.specs.Closure.{within, closure}
use Rattle.blz_value.specs.Arrows.{arrow_from, with_all, bit_if}
use Rattle.blz_value.specs.declared.carried.Path.{Path}
use Rattle.topo_forms.specs.Carried.{allows_notes, may_carry, streams_behind, streams_towards, carriers, carries_key, key_before, carries}
use Rattle.blz_value.specs.Arrows.{is_key}
use Rattle.topo_forms.specs.Found.{HasEnds, usable_at}
use Rattle.topo_graph.specs.Code.Paths.{fds_by, is_some_set, path_from, path_by, paths_by}
use Rattle.blz_value.specs.Carried.{start_by, arrow_by, carriers_by, carried_if, carried_by}
use Rattle.topo_graph.specs.Code.Ports.{all_rows, at_port}
use Rattle.topo_forms.specs.Dependencies.{is_usable, usable_fds}
use Rattle.blz_value.specs.Graph.{is_in}
use Rattle.blz_value.specs.NumberSets.{set_of_numbers, spreading}
use Rattle.blz_value.proofs.Maps.{same_map as map_on}
use Rattle.blz_value.proofs.Ranges.{Has-below as from_below}
use Rattle.topo_forms.specs.View.{View, End, origin_of, stream_at, output_at, own_attrs, has_body, has_stream, mode_of, mode_key, ports_towards, stream_numbers}
use Rattle.topo_graph.proofs.PortsFound.{behind_found, fed_found}
use Rattle.topo_forms.proofs.Lists.Tables.{placed, where-is}

fds-same : (test : Fd → Bool) (by : ℕ → Bool) (f : Fd → ℕ) (fds : List Fd) → ((fd : Fd) → by (f fd) ≡ test fd) → map (λ (pair : Fd × ℕ). pair.0) (filter (λ pair. by pair.1) (zip fds (map f fds))) ≡ filter test fds
fds-same test by f [] same = refl
fds-same test by f (fd ∷ fds) same =
    let one = same fd in
    let more = fds-same test by f fds same in
    elim (cases_Bool (test fd)) [
      | inl t ↦ rw (one, t) (λ i. fd ∷ more i)
      | inr e ↦ rw (one, e) more
    ]

module _ (v : View) (given : HasEnds v) where
  abbrev pub usable : List ℕ
  usable = map (usable_at v) v.fds

  abbrev pub paths : List Path
  paths = paths_by v (all_rows v) usable

  abbrev path : ℕ → Path
  path s = path_by v (all_rows v) usable s

  own_fds : (c : ℕ) → c < length v.components → fds_by v.fds usable c ≡ usable_fds v c
  unfolding usable_fds
  own_fds c lt = fds-same (is_usable v c) (is_in c) (usable_at v) v.fds (λ fd. where-is (λ d. is_usable v d fd) (length v.components) c (omega (arith, given.few_components)) lt)

  start-same : (key s : ℕ) → start_by key (s, path s) ≡ bit_if (is_key key (stream_at v s).key) s
  start-same key s = go (origin_of v s)
    where
      go : (o : Option End) → start_by key (s, path_from v (all_rows v) usable (stream_at v s).key o) ≡ bit_if (is_key key (stream_at v s).key) s
      go None = refl
      go (Some output) = refl

  arrow-same : (key s : ℕ) → s < length v.streams → arrow_by key (s, path s) ≡ spreading (λ u. may_carry v key (origin_of v u)) (λ u. streams_behind v (origin_of v u)) s
  arrow-same key s lt = go (origin_of v s) refl
    where
      go : (o : Option End) → origin_of v s ≡ o → arrow_by key (s, path_from v (all_rows v) usable (stream_at v s).key o) ≡ arrow_from (streams_behind v o) (bit_if (may_carry v key o) s)
      go None is = refl
      go (Some output) is =
          let gate = (output_at v output.0 output.1).gate.bits in
          let own = own_attrs (output_at v output.0 output.1) in
          let towards = ports_towards v output.0 output.1 in
          let behind : with_all 0 (map (at_port (all_rows v) output.0) towards) ≡ set_of_numbers (streams_towards v output.0 output.1) = behind_found v output.0 output.1 in
          let fed : list_all is_some_set (map (at_port (all_rows v) output.0) towards) ≡ list_all (has_stream v output.0) towards = fed_found v output.0 output.1 given.few_streams in
          let fds : fds_by v.fds usable output.0 ≡ usable_fds v output.0 = own_fds output.0 (given.origins s output lt is) in
          λ i. arrow_from (behind i) (bit_if (has_body v output.0
          && (is_key key (mode_key (mode_of v output.0)) && (nat_lt 0 (length towards) && (fed i
          && (within key (closure gate (fds i)) && (within key own && allows_notes v (mode_of v output.0) output.0 output.1)))))) s)

  -- the streams that carry a key
  pub carriers-same : (key : ℕ) → carriers_by paths key ≡ carriers v key
  unfolding carriers
  carriers-same key =
      let starts = placed path (start_by key) (length v.streams) ∙ map_on (λ s. start_by key (s, path s)) (λ s. bit_if (is_key key (stream_at v s).key) s) (stream_numbers v) (λ s has. start-same key s) in
      let arrows = placed path (arrow_by key) (length v.streams) ∙ map_on (λ s. arrow_by key (s, path s)) (spreading (λ u. may_carry v key (origin_of v u)) (λ u. streams_behind v (origin_of v u))) (stream_numbers v) (λ s has. arrow-same key s (from_below (length v.streams) s has)) in
      λ i. closure (with_all 0 (starts i)) (arrows i)

  key-same : (s : ℕ) → (path s).key ≡ key_before v s (origin_of v s)
  key-same s = go (origin_of v s)
    where
      go : (o : Option End) → (path_from v (all_rows v) usable (stream_at v s).key o).key ≡ key_before v s o
      go None = refl
      go (Some output) = refl

  carried-one : (s : ℕ) → carried_by paths (s, path s) ≡ carries v s
  unfolding carries
  carried-one s = ap (option_and_then (carried_if paths s)) (key-same s) ∙ go (key_before v s (origin_of v s))
    where
      go : (o : Option Attrs) → option_and_then (carried_if paths s) o ≡ option_and_then (λ key. if carries_key v key.bits s then Some key else None) o
      go None = refl
      go (Some key) = ap (λ (set : ℕ). if meets (bit_of s) set then Some key else None) (carriers-same key.bits)

  -- the key that each stream carries
  pub carried-same : map (carried_by paths) (enumerate_from 0 paths) ≡ map (carries v) (stream_numbers v)
  carried-same = placed path (carried_by paths) (length v.streams) ∙ map_on (λ s. carried_by paths (s, path s)) (carries v) (stream_numbers v) (λ s has. carried-one s)
