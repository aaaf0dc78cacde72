-- Labels look upstream only.
use Rattle.std.proofs.Common.{◌≡◌, ◌<◌, ℕ, suc, nat_lt, Bool, true, false, if◌then◌else◌, Option, None, Some, List, [], length, map, fold, get_or, refl, arith, ap, sym, ◌∙◌}
use Rattle.std.specs.List.{flat_map, filter_map}
use Rattle.blz_value.specs.Members.{Has}
use Rattle.blz_value.proofs.Membership.{Has-from_filter}
use Rattle.blz_value.specs.declared.attrs.Attrs.{Attrs}
use Rattle.blz_value.specs.Bits.{bit_of, meets, members}
use Rattle.bloom_forms.specs.declared.note.Note.{Note}
use Rattle.bloom_forms.specs.declared.note.Note.TheVariants.{CR}
use Rattle.bloom_forms.specs.Note.{combine}
use Rattle.bloom_forms.specs.declared.mode.Mode.TheVariants.{Free}
use Rattle.topo_forms.specs.Carried.{carries}
use Rattle.blz_value.specs.Arrows.{is_key}
use Rattle.topo_forms.specs.Dependencies.{usable_fds}
use Rattle.blz_value.specs.Graph.{is_in}
use Rattle.topo_forms.specs.Regions.{region_of, region_set}
use Rattle.blz_value.specs.NumberSets.{below, set_of_numbers}
use Rattle.blz_value.proofs.Maps.{flat_map_same as flat_alike}
use Rattle.topo_forms.specs.View.{View, End, Component, no_port, no_attrs, origin_of, is_order, is_order_mode, is_replicated, mode_of, note_at, port_numbers, streams_to}
use Rattle.topo_forms.proofs.Regions.Lower.{lower_outside, lower_into}
use Rattle.label_rules.specs.declared.label.Label.{Label}
use Rattle.label_rules.specs.declared.label.Label.TheVariants.{Seal, Async, Run, Inst, Diverge}
use Rattle.label_rules.specs.PathTable.{pass_path}
use Rattle.label_rules.specs.Reconciliation.{reconcile}
use Rattle.label_walk.specs.Labels.{AreLabels, as_carried, label_by, region_label, outside_label}
use Rattle.label_walk.specs.Paths.{label_at, port_paths, output_paths, notes_in, without_gate, region_inputs}
use Rattle.label_walk.proofs.Upstream.Alike.{holding, Alike}
use Rattle.label_walk.proofs.Upstream.ListsAlike.{any_alike}
use Rattle.label_walk.proofs.Labelling.Computed.{computed}
use Rattle.label_walk.proofs.Labelling.OneLabelling.{Feeds, same_by}
use Rattle.label_walk.proofs.Upstream.UpstreamRegions.{region_same, region_inside, cycle_same}
use Rattle.label_walk.proofs.Upstream.UpstreamSeals.{rank, rank_from, Inside, by_rank, component_same, usable_same, carries_same}
use Rattle.label_walk.proofs.Tests.{if_yes}

module _ (b : View) (xs ys : List Component) (set : ℕ) (alike : Alike b xs ys set) where
  abbrev v : View
  v = holding b xs

  abbrev w : View
  w = holding b ys

  -- ---- over the same labels both topologies give a stream of the set the same label

  module _ (labels : List Label) where
    same_port : (c p : ℕ) → is_in c set ≡ true → is_order v c ≡ false → (note : Option Note) → port_paths v labels c p note ≡ port_paths w labels c p note
    same_port c p here free None = refl
    same_port c p here free (Some note) =
        let one = component_same b xs ys set alike c here in let fds = usable_same b xs ys set alike c here free in
        λ i. map (λ s. pass_path (label_at labels s) note (record { bits = set_of_numbers (get_or (one i).ports p no_port).columns }) (one i).mode (fds i)) (streams_to b c p)

    same_outputs : (c o : ℕ) → is_in c set ≡ true → is_order v c ≡ false → output_paths v labels c o ≡ output_paths w labels c o
    same_outputs c o here free =
        let one = component_same b xs ys set alike c here in
        flat_alike (λ p. port_paths v labels c p (note_at v c p o)) (λ p. port_paths w labels c p (note_at w c p o)) (port_numbers v c)
        (λ p has. same_port c p here free (note_at v c p o) ∙ ap (port_paths w labels c p) (λ i. get_or (get_or (one i).notes p []) o None))
        ∙ ap (flat_map (λ p. port_paths w labels c p (note_at w c p o))) (λ i. below (length (one i).ports))

    carried_alike : (s : ℕ) (label : Label) → carries v s ≡ carries w s → as_carried v s label ≡ as_carried w s label
    carried_alike s (Seal key) e = ap (λ (own : Option Attrs). if is_key key.bits own then Seal key else Async) e
    carried_alike s Async e = refl
    carried_alike s Run e = refl
    carried_alike s Inst e = refl
    carried_alike s Diverge e = refl

    same_outside : (s : ℕ) (output : End) → s < length b.streams → Inside b xs ys set alike s → is_in output.0 set ≡ true → is_order v output.0 ≡ false → outside_label v labels s output ≡ outside_label w labels s output
    same_outside s output lt inside here free =
        let one = component_same b xs ys set alike output.0 here in let fds = usable_same b xs ys set alike output.0 here free in let paths = same_outputs output.0 output.1 here free in
        carried_alike s (reconcile (output_paths v labels output.0 output.1) (mode_of v output.0) (is_replicated v output.0) (usable_fds v output.0)) (carries_same b xs ys set alike s lt inside)
        ∙ ap (as_carried w s) (λ i. reconcile (paths i) (one i).mode (nat_lt 1 (one i).replicas) (fds i))

    same_region : (r : ℕ) → ((d : ℕ) → is_in d r ≡ true → is_in d set ≡ true) → region_label v labels r ≡ region_label w labels r
    same_region r inside =
        let of_member : (m : ℕ) → Has m (members r) → is_in m set ≡ true = (λ m has. inside m (Has-from_filter (λ n. meets (bit_of n) r) m (below 64) has).1) in
        let notes = flat_alike (notes_in v) (notes_in w) (members r) (λ m has. let one = component_same b xs ys set alike m (of_member m has) in λ i. flat_map (filter_map (λ note. note)) (one i).notes) in
        let several = any_alike (is_replicated v) (is_replicated w) (members r) (λ m has. let one = component_same b xs ys set alike m (of_member m has) in λ i. nat_lt 1 (one i).replicas) in
        λ i. reconcile (map (λ input. pass_path (label_at labels input.0) (without_gate (fold combine CR (notes i))) no_attrs Free []) (region_inputs b r)) Free (several i) []

    view_same : (s : ℕ) (output : End) → s < length b.streams → Inside b xs ys set alike s → is_in output.0 set ≡ true → label_by v labels s (Some output) ≡ label_by w labels s (Some output)
    view_same s output lt inside here = by (is_order v output.0) refl
      where
        order : is_order v output.0 ≡ is_order w output.0
        order = ap is_order_mode (alike.modes output.0 here)

        by : (x : Bool) → is_order v output.0 ≡ x → label_by v labels s (Some output) ≡ label_by w labels s (Some output)
        by true q = if_yes (is_order v output.0) Run _ q ∙ sym (if_yes (is_order w output.0) Run _ (sym order ∙ q))
        by false q =
            let cycle = cycle_same b xs ys set alike output.0 here in
            let region = same_region (region_set v output.0) (λ d h. region_inside b xs ys set alike output.0 d here h) ∙ ap (region_label w labels) (region_same b xs ys set alike output.0 here) in
            let outside = same_outside s output lt inside here q in
            λ i. if order i then Run else (if cycle i then region i else outside i)

  -- ---- two lists of labels

  -- a component of the set in a region with a lower number
  abbrev Kind : End → ℕ → Type 0
  Kind output d = (is_in d set ≡ true) × (region_of v d < region_of v output.0)

  pub label_same : (first second : List Label) → AreLabels v first → AreLabels w second → (s : ℕ) → s < length b.streams → Inside b xs ys set alike s → label_at first s ≡ label_at second s
  label_same first second of_first of_second s lt inside = by_rank b xs ys set alike (λ u. label_at first u ≡ label_at second u) step (suc (rank v s)) s (omega arith) lt inside
    where
      step : (s : ℕ) → s < length b.streams → Inside b xs ys set alike s → ((u : ℕ) → u < length b.streams → Inside b xs ys set alike u → rank v u < rank v s → label_at first u ≡ label_at second u) → label_at first s ≡ label_at second s
      step s lt inside before =
          computed v first s (origin_of b s) (label_at first s) (of_first.are s lt)
          ∙ by (origin_of b s) refl
          ∙ sym (computed w second s (origin_of b s) (label_at second s) (of_second.are s lt))
        where
          by : (o : Option End) → origin_of b s ≡ o → label_by v first s o ≡ label_by w second s o
          by None is = refl
          by (Some output) is =
              let valid = alike.first in
              let lc : output.0 < length xs = (valid.numbered.origins s output lt is).0 in
              same_by v alike.first first second (Kind output) (agree output is) s output lc (feeds output lc (inside output is)) ∙ view_same second s output lt inside (inside output is)
            where
              agree : (output : End) → origin_of b s ≡ Some output → (u : ℕ) → u < length b.streams → ((from : End) → origin_of b u ≡ Some from → Kind output from.0) → label_at first u ≡ label_at second u
              agree output is u ltu from = before u ltu (λ end e. (from end e).0) (let own : rank v s ≡ suc (region_of v output.0) = ap (rank_from v) is in low (origin_of b u) refl own)
                where
                  low : (o : Option End) → origin_of b u ≡ o → rank v s ≡ suc (region_of v output.0) → rank_from v o < rank v s
                  low None e own = omega arith
                  low (Some end) e own = let f = (from end e).1 in omega arith

              feeds : (output : End) → output.0 < length xs → is_in output.0 set ≡ true → Feeds v alike.first (Kind output) output.0
              feeds output lc here = record {
                outside = λ acyclic d edge. (alike.before (d, output.0) edge here, lower_outside v alike.first (d, output.0) edge acyclic);
                into = λ e edge within away. (alike.before e edge (region_inside b xs ys set alike output.0 e.1 here within), lower_into v alike.first output.0 lc e edge within away);
              }
