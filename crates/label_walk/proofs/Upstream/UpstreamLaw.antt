-- What is upstream decides: the laws.
use Rattle.std.proofs.Common.{◌≡◌, ◌<◌, ℕ, zero, suc, ◌∷◌, [], get_or, arith, true, Some, List, length, arith, sym, subst}
use Rattle.topo_forms.specs.Dependencies.{upholds, usable_fds}
use Rattle.topo_forms.specs.Carried.{carries}
use Rattle.blz_value.specs.Graph.{is_in}
use Rattle.topo_forms.specs.Valid.{IsValid}
use Rattle.topo_forms.specs.View.{View, End, Stream, no_stream}
use Rattle.label_walk.specs.LabelLaws.{DifferInModes, LabelsLookUpstream}
use Rattle.label_walk.specs.Upstream.{AgreeUpstream, IsSameRegion, RegionsLookUpstream, UsableLooksUpstream, UpheldLooksUpstream, CarriedLooksUpstream, LabelLooksUpstream}
use Rattle.label_walk.proofs.Upstream.Alike.{holding, Alike, edge_kept}
use Rattle.label_walk.proofs.Upstream.UpstreamRegions.{region_same, region_inside, cycle_same}
use Rattle.label_walk.specs.Labels.{AreLabels}
use Rattle.label_walk.proofs.Upstream.UpstreamLabels.{label_same}
use Rattle.label_walk.proofs.Upstream.UpstreamSeals.{upholds_same, usable_same, carries_same}

-- the second topology is the first with its components
pub held : (v w : View) → DifferInModes v w → w ≡ holding v w.components
held v w d = let a = sym d.attributes in let s = sym d.streams in let f = sym d.fds in λ i. record { attributes = a i; streams = s i; components = w.components; fds = f i }

pub alike : (v w : View) (set : ℕ) → AgreeUpstream v w set → Alike v v.components w.components set
alike v w set agree =
    let second : IsValid (holding v w.components) = subst IsValid (held v w agree.differ) agree.second in
    record {
      first = agree.first;
      second = second;
      freed = agree.differ.components;
      modes = agree.modes;
      before = agree.closed;
      after = λ e has inside. agree.closed e (edge_kept v w.components v.components set (λ c here. sym (agree.modes c here)) e has inside) inside;
    }

pub regions_look_upstream : RegionsLookUpstream
regions_look_upstream v w set c agree lt here =
    subst (λ (x : View). IsSameRegion v x set c) (sym (held v w agree.differ)) (record {
      members = region_same v v.components w.components set (alike v w set agree) c here;
      cyclic = cycle_same v v.components w.components set (alike v w set agree) c here;
      inside = λ d. region_inside v v.components w.components set (alike v w set agree) c d here;
    })

pub usable_looks_upstream : UsableLooksUpstream
usable_looks_upstream v w set c agree lt here free =
    subst (λ (x : View). usable_fds v c ≡ usable_fds x c) (sym (held v w agree.differ)) (usable_same v v.components w.components set (alike v w set agree) c here free)

pub upheld_looks_upstream : UpheldLooksUpstream
upheld_looks_upstream v w set s fd agree lt from =
    subst (λ (x : View). upholds v fd s ≡ upholds x fd s) (sym (held v w agree.differ)) (upholds_same v v.components w.components set (alike v w set agree) fd s lt from)

pub carried_looks_upstream : CarriedLooksUpstream
carried_looks_upstream v w set s agree lt from =
    subst (λ (x : View). carries v s ≡ carries x s) (sym (held v w agree.differ)) (carries_same v v.components w.components set (alike v w set agree) s lt from)

pub label_looks_upstream : LabelLooksUpstream
label_looks_upstream v w set s a b agree first second lt from =
    label_same v v.components w.components set (alike v w set agree) a b first (subst (λ (x : View). AreLabels x b) (held v w agree.differ) second) s lt from

-- a number with an origin is that of a stream
is_stream : (streams : List Stream) (s : ℕ) (output : End) → (get_or streams s no_stream).origin ≡ Some output → s < length streams
is_stream [] s output e = absurd cc
is_stream (x ∷ streams) zero output e = omega arith
is_stream (x ∷ streams) (suc s) output e = omega (arith, is_stream streams s output e)

pub labels_look_upstream : LabelsLookUpstream
labels_look_upstream v w set a b first second differ closed closed_too modes of_first of_second s output is here =
    label_looks_upstream v w set s a b (record { first = first; second = second; differ = differ; closed = closed; modes = modes }) of_first of_second
    (is_stream v.streams s output is) (λ other e. let same : output ≡ other = cc in subst (λ (end : End). is_in end.0 set ≡ true) same here)
