-- The plan goes by the first members.
use Rattle.std.proofs.Common.{◌≡◌, ℕ, List, fold, sym, subst, ◌∙◌}
use Rattle.std.proofs.lemmas.Result.{IfOk-weaker}
use Rattle.label_walk.specs.Paths.{AreComponents}
use Rattle.topo_forms.specs.View.{View}
use Rattle.coord_synth.specs.Code.Shapes.{AreFirsts, plan_at}
use Rattle.coord_modes.specs.Plan.{freed, planned_by}
use Rattle.coord_synth.proofs.FirstLemmas.{first_within}
use Rattle.coord_synth.proofs.WrittenLemmas.{both}
use Rattle.coord_synth.proofs.PlannedModes.{by_firsts}
use Rattle.coord_synth.proofs.planning.planned_by.Goals as goal

pub plan_regions-requires : goal.plan_regions-requires
plan_regions-requires c = subst (λ (firsts : List ℕ). AreComponents c.in_ok-start.start.view firsts) (sym c.deref.ensures.value) (first_within c.in_ok-start.start.view c.known-2.ensures c.in_ok-firsts.firsts.items c.in_ok-firsts.ensures)

pub returns : goal.returns
returns c =
    let steps = c.args.steps in
    let v = c.args.valid.now.view in
    let firsts = c.in_ok-firsts.firsts.items in
    let start : c.in_ok-start.start.view ≡ freed c.args.valid.now.view = c.in_ok-start.ensures.view in
    let are : AreFirsts (freed c.args.valid.now.view) c.in_ok-firsts.firsts.items = subst (λ (x : View). AreFirsts x c.in_ok-firsts.firsts.items) start c.in_ok-firsts.ensures in
    let whole : fold (plan_at c.args.steps) c.in_ok-start.start.view c.deref.result.now ≡ planned_by c.args.steps c.args.valid.now.view =
    (let value = c.deref.ensures.value in λ i. fold (plan_at c.args.steps) (start i) (value i)) ∙ by_firsts steps v c.known.ensures firsts are in
    record {
      view = IfOk-weaker c.plan_regions.result (λ n. n.view ≡ fold (plan_at c.args.steps) c.in_ok-start.start.view c.deref.result.now) (λ n. n.view ≡ planned_by c.args.steps c.args.valid.now.view) (λ n e. e ∙ whole) c.plan_regions.ensures.view;
      topology = both c.plan_regions.result c.args.valid.now.topology (planned_by c.args.steps c.args.valid.now.view) c.in_ok-start.start (fold (plan_at c.args.steps) c.in_ok-start.start.view c.deref.result.now) whole c.in_ok-start.ensures.written c.plan_regions.ensures.view c.plan_regions.ensures.written;
    }
