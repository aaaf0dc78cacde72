-- What is found of lines is what dependencies say.
use Rattle.std.proofs.Common.{◌≡◌, ◌<◌, ℕ, not, is_none, Bool, true, false, ◌&&◌, ◌||◌, Option, None, Some, List, map, length, get_or, refl, arith, ap, ◌∙◌, bit_or}
use Rattle.blz_value.specs.declared.attrs.Fd.{Fd}
use Rattle.blz_value.specs.Bits.{bit_of, meets}
use Rattle.blz_value.specs.Closure.{within, closure}
use Rattle.blz_value.specs.Members.{Has}
use Rattle.blz_value.proofs.Membership.{Has-from_filter}
use Rattle.blz_value.specs.Arrows.{arrow_from, with_all, bit_if}
use Rattle.topo_graph.specs.declared.lines.Line.{Line}
use Rattle.topo_forms.specs.Found.{HasEnds, usable_at}
use Rattle.topo_graph.specs.Code.Lines.{into_set, all_into, line_from, line_by, lines_by, alone_by, start_by, arrow_by, upholders_by, is_good, good_by, good_set, usable_by}
use Rattle.topo_forms.specs.Data.{has_both}
use Rattle.topo_forms.specs.Dependencies.{upholds_alone, hands_on, streams_before, upholders, upholds, has_to_with_from, is_usable}
use Rattle.blz_value.specs.Graph.{is_in}
use Rattle.topo_forms.specs.Regions.{is_in_cycle}
use Rattle.blz_value.specs.NumberSets.{spreading}
use Rattle.blz_value.proofs.Maps.{same_map as map_on}
use Rattle.blz_value.proofs.Ranges.{Has-below as from_below, at_below}
use Rattle.blz_value.proofs.Lists.{all_on}
use Rattle.topo_forms.specs.View.{View, End, origin_of, has_body, is_order, goes_into, stream_attrs, own_attrs, output_at, streams_into, stream_numbers, component_numbers}
use Rattle.topo_forms.proofs.Regions.Spreading.{numbers_within}
use Rattle.topo_forms.proofs.Lists.Tables.{placed, where-is}

grouped : (a b c d : Bool) → ((a && (b && c)) && d) ≡ (a && (b && (c && d)))
grouped false b c d = refl
grouped true false c d = refl
grouped true true c d = refl

module _ (v : View) (given : HasEnds v) where
  abbrev pub cycles : List Bool
  cycles = map (is_in_cycle v) (component_numbers v)

  abbrev pub lines : List Line
  lines = lines_by v cycles (all_into v)

  abbrev line : ℕ → Line
  line s = line_by v cycles (all_into v) s

  at_cycles : (c : ℕ) → c < length v.components → get_or cycles c false ≡ is_in_cycle v c
  at_cycles c lt = at_below (is_in_cycle v) (length v.components) c false lt

  at_into : (c : ℕ) → c < length v.components → get_or (all_into v) c 0 ≡ into_set v c
  at_into c lt = at_below (into_set v) (length v.components) c 0 lt

  line_columns : (s : ℕ) → (line s).columns ≡ (stream_attrs v s).bits
  line_columns s = go (origin_of v s)
    where
      go : (o : Option End) → (line_from v cycles (all_into v) (stream_attrs v s).bits o).columns ≡ (stream_attrs v s).bits
      go None = refl
      go (Some output) = refl

  alone-same : (fd : Fd) (s : ℕ) → alone_by fd (line s) ≡ upholds_alone v fd s
  alone-same fd s = go (origin_of v s)
    where
      go : (o : Option End) → alone_by fd (line_from v cycles (all_into v) (stream_attrs v s).bits o) ≡ (not (has_both fd (stream_attrs v s).bits) || is_none o)
      go None = refl
      go (Some output) = refl

  arrow-same : (fd : Fd) (s : ℕ) → s < length v.streams → arrow_by fd (s, line s) ≡ spreading (λ u. hands_on v fd (origin_of v u)) (λ u. streams_before v (origin_of v u)) s
  arrow-same fd s lt = go (origin_of v s) refl
    where
      go : (o : Option End) → origin_of v s ≡ o → arrow_by fd (s, line_from v cycles (all_into v) (stream_attrs v s).bits o) ≡ arrow_from (streams_before v o) (bit_if (hands_on v fd o) s)
      go None is = refl
      go (Some output) is =
          let inside = given.origins s output lt is in
          let cycle = at_cycles output.0 inside in
          let before = at_into output.0 inside in
          let whole = grouped (has_body v output.0) (not (is_order v output.0)) (not (is_in_cycle v output.0)) (within (bit_or fd.from.bits fd.to.bits) (own_attrs (output_at v output.0 output.1))) in
          let own = within (bit_or fd.from.bits fd.to.bits) (own_attrs (output_at v output.0 output.1)) in
          (λ i. arrow_from (before i) (bit_if ((has_body v output.0 && (not (is_order v output.0) && not (cycle i))) && own) s))
          ∙ ap (λ (b : Bool). arrow_from (into_set v output.0) (bit_if b s)) whole

  -- the streams that uphold a dependency
  pub upholders-same : (fd : Fd) → upholders_by lines fd ≡ upholders v fd
  unfolding upholders
  upholders-same fd =
      let starts = placed line (start_by fd) (length v.streams) ∙ map_on (λ s. start_by fd (s, line s)) (λ s. bit_if (upholds_alone v fd s) s) (stream_numbers v) (λ s has. ap (λ (b : Bool). bit_if b s) (alone-same fd s)) in
      let arrows = placed line (arrow_by fd) (length v.streams) ∙ map_on (λ s. arrow_by fd (s, line s)) (spreading (λ u. hands_on v fd (origin_of v u)) (λ u. streams_before v (origin_of v u))) (stream_numbers v) (λ s has. arrow-same fd s (from_below (length v.streams) s has)) in
      λ i. closure (with_all 0 (starts i)) (arrows i)

  good-same : (fd : Fd) (s : ℕ) → s < length v.streams → meets (bit_of s) (good_set lines fd (upholders v fd)) ≡ (upholds v fd s && has_to_with_from v fd s)
  good-same fd s lt =
      ap (λ (ns : List ℕ). meets (bit_of s) (with_all 0 ns)) (placed line (good_by fd (upholders v fd)) (length v.streams))
      ∙ where-is (λ u. is_good fd (upholders v fd) (u, line u)) (length v.streams) s given.few_streams lt
      ∙ ap (λ (columns : ℕ). is_in s (upholders v fd) && (not (within fd.from.bits columns) || within fd.to.bits columns)) (line_columns s)

  usable_where : (fd : Fd) (c : ℕ) → within (into_set v c) (good_set lines fd (upholders v fd)) ≡ is_usable v c fd
  usable_where fd c =
      numbers_within (good_set lines fd (upholders v fd)) (streams_into v c) (λ s has. omega (arith, given.few_streams, small s has))
      ∙ all_on (λ s. meets (bit_of s) (good_set lines fd (upholders v fd))) (λ s. upholds v fd s && has_to_with_from v fd s) (streams_into v c) (λ s has. good-same fd s (small s has))
    where
      small : (s : ℕ) → Has s (streams_into v c) → s < length v.streams
      small s has = from_below (length v.streams) s (Has-from_filter (goes_into v c) s (stream_numbers v) has).0

  -- the components at which it is usable
  pub usable-same : (fd : Fd) → usable_by (all_into v) (good_set lines fd (upholders_by lines fd)) ≡ usable_at v fd
  usable-same fd =
      ap (λ (u : ℕ). usable_by (all_into v) (good_set lines fd u)) (upholders-same fd)
      ∙ ap (with_all 0) (placed (into_set v) (λ place. bit_if (within place.1 (good_set lines fd (upholders v fd))) place.0) (length v.components)
      ∙ map_on (λ c. bit_if (within (into_set v c) (good_set lines fd (upholders v fd))) c) (λ c. bit_if (is_usable v c fd) c) (component_numbers v) (λ c has. ap (λ (b : Bool). bit_if b c) (usable_where fd c)))
