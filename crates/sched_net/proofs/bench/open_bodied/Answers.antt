use Rattle.std.proofs.Common.{◌∙◌, ap, map, subst, List, ℕ}
use Rattle.blz_value.specs.Members.{Has}
use Rattle.bloom_eval.specs.Step.{nothing_kept}
use Rattle.topo_forms.specs.View.{program_of}
use Rattle.sched_net.proofs.TakingLemmas.{instances_there, all_have_bodies}
use Rattle.sched_net.proofs.bench.open_bodied.Goals as goal

pub check_all-requires-clause-there : goal.check_all-requires-clause-there
check_all-requires-clause-there g c n h = instances_there c.args.valid.now.view n (subst (λ (l : List ℕ). Has n l) (c.as_slice.ensures.value ∙ c.in_ok-wanted.ensures) h)

pub check_all-requires-clause-bodies : goal.check_all-requires-clause-bodies
check_all-requires-clause-bodies g c n h = all_have_bodies c.args.valid.now.view c.requires.bodies n (subst (λ (l : List ℕ). Has n l) (c.as_slice.ensures.value ∙ c.in_ok-wanted.ensures) h)

pub take_and_load-requires-clause-there : goal.take_and_load-requires-clause-there
take_and_load-requires-clause-there g c n h = instances_there c.args.valid.now.view n (subst (λ (l : List ℕ). Has n l) (c.as_slice-3.ensures.value ∙ c.in_ok-wanted.ensures) h)

pub take_and_load-requires-clause-bodies : goal.take_and_load-requires-clause-bodies
take_and_load-requires-clause-bodies g c n h = all_have_bodies c.args.valid.now.view c.requires.bodies n (subst (λ (l : List ℕ). Has n l) (c.as_slice-3.ensures.value ∙ c.in_ok-wanted.ensures) h)

pub returns-clause-kept : goal.returns-clause-kept
returns-clause-kept g c =
    c.in_ok-shells.ensures.kept ∙ ap (λ (l : List ℕ). map (λ n. nothing_kept (program_of c.args.valid.now.view n)) l) (c.as_slice-3.ensures.value ∙ c.in_ok-wanted.ensures)
