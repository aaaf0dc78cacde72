-- The set is that of the region.
use Rattle.std.proofs.Common.{◌≡◌, ℕ, List, IfOk, subst, sym}
use Rattle.std.proofs.lemmas.Result.{IfOk-weaker}
use Rattle.topo_forms.specs.View.{End}
use Rattle.label_walk.specs.Paths.{AreInputs, region_at, region_inputs}
use Rattle.label_walk.proofs.Ranges.{inputs_within}
use Rattle.label_walk.proofs.cycles.region_inputs.Goals as goal

pub returns : goal.returns
returns c =
    let is : IfOk c.set_inputs.result (λ inputs. inputs.items ≡ region_inputs c.args.valid.now.view (region_at c.args.valid.now.view c.args.region)) =
    subst (λ (set : ℕ). IfOk c.set_inputs.result (λ inputs. inputs.items ≡ region_inputs c.args.valid.now.view set)) c.region_members.ensures c.set_inputs.ensures in
    record {
      inputs = is;
      within = IfOk-weaker c.set_inputs.result (λ inputs. inputs.items ≡ region_inputs c.args.valid.now.view (region_at c.args.valid.now.view c.args.region)) (λ inputs. AreInputs c.args.valid.now.view inputs.items)
          (λ inputs same. subst (λ (xs : List (ℕ × End)). AreInputs c.args.valid.now.view xs) (sym same) (inputs_within c.args.valid.now.view c.known.ensures (region_at c.args.valid.now.view c.args.region))) is;
    }
