use Rattle.std.proofs.Common.{◌∙◌, ◌<◌, ℕ, List, [], Bor, Option, IsSome, ap, length, map, subst, sym}
use Rattle.bloom_forms.specs.declared.program.Program.{Program}
use Rattle.topo_forms.specs.View.{View, program_of}
use Rattle.topo_forms.specs.Data.{IsData}
use Rattle.topo_forms.specs.Valid.{Validated}
use Rattle.sched_net.specs.Again.{StoodOver}
use Rattle.sched_net.specs.Bench.{instance_components}
use Rattle.sched_net.specs.Net.{Stands}
use Rattle.sched_net.specs.declared.step.Step.TheVariants as named
use Rattle.sched_net.proofs.AgainLemmas.{run_over}
use Rattle.sched_net.proofs.FirstLemmas.{new_runs, runs_after}
use Rattle.why_trace.specs.Code.Trials.{sought_of}
use Rattle.why_trace.proofs.TrialLemmas.{found_yielded}
use Rattle.why_trace.proofs.trial.Trial.is_yielded_by.Goals as goal

pub run-applied-requires : goal.run-applied-requires
run-applied-requires g c = record {
  runs = new_runs c.args.self.now.valid.now.view c.args.net.now.valid.now.view c.args.self.now.given.now _ _ c.args.net.now.books (ap (λ (t : Validated). t.view) c.requires.same) c.requires.stands;
}

pub is_found-requires-clause-runs : goal.is_found-requires-clause-runs
is_found-requires-clause-runs g c =
    let net = c.args.net.now in
    let after = c.run-applied.new.net in
    runs_after named.Event c.args.self.now.valid.now.view net.valid.now.view c.args.self.now.given.now c.args.lines.now _ _ _ net.books after.books c.run-applied.result
    (ap (λ (t : Validated). t.view) c.requires.same) c.requires.stands c.run-applied.ensures.applies

pub start_again-requires-clause-fits : goal.start_again-requires-clause-fits
start_again-requires-clause-fits g c =
    subst (λ (v : View). IsData v c.args.self.now.given.now) (sym (ap (λ (valid : Bor Validated). valid.now.view) c.run-applied.ensures.valid ∙ ap (λ (t : Validated). t.view) c.requires.same)) c.requires.data

pub start_again-requires-clause-bodies : goal.start_again-requires-clause-bodies
start_again-requires-clause-bodies g c =
    subst (λ (v : View). (k : ℕ) → k < length v.components → IsSome (program_of v k)) (sym (ap (λ (valid : Bor Validated). valid.now.view) c.run-applied.ensures.valid ∙ ap (λ (t : Validated). t.view) c.requires.same)) c.requires.stands.books.bodies

pub start_again-requires-clause-programs : goal.start_again-requires-clause-programs
start_again-requires-clause-programs g c =
    c.run-applied.ensures.loaded ∙ c.requires.stands.programs
    ∙ ap (λ (v : View). map (program_of v) (instance_components v)) (sym (ap (λ (valid : Bor Validated). valid.now.view) c.run-applied.ensures.valid ∙ ap (λ (t : Validated). t.view) c.requires.same))

pub start_again-requires-clause-stood : goal.start_again-requires-clause-stood
start_again-requires-clause-stood g c =
    let net = c.args.net.now in
    let after = c.run-applied.new.net in
    let loaded = map (λ b. (goal.Component-dyn g (b.vtable, b.value)).program b.value) net.shells.items in
    let kept = map (λ b. (goal.Component-dyn g (b.vtable, b.value)).kept b.value) after.shells.items in
    subst (λ (l : List (Option Program)). StoodOver after.valid.now.view c.args.self.now.given.now l kept after.books) (sym c.run-applied.ensures.loaded)
    (subst (λ (v : View). StoodOver v c.args.self.now.given.now loaded kept after.books) (sym (ap (λ (valid : Bor Validated). valid.now.view) c.run-applied.ensures.valid ∙ ap (λ (t : Validated). t.view) c.requires.same))
    (run_over named.Event c.args.self.now.valid.now.view net.valid.now.view c.args.self.now.given.now c.args.lines.now loaded _ kept net.books after.books c.run-applied.result
    (ap (λ (t : Validated). t.view) c.requires.same) c.requires.stands c.run-applied.ensures.applies))

pub returns-clause-stands : goal.returns-clause-stands
returns-clause-stands g c =
    let new = c.start_again.new.self in
    let loaded = map (λ b. (goal.Component-dyn g (b.vtable, b.value)).program b.value) new.shells.items in
    let kept = map (λ b. (goal.Component-dyn g (b.vtable, b.value)).kept b.value) new.shells.items in
    subst (λ (v : View). Stands v c.args.self.now.given.now [] loaded kept new.books)
    (ap (λ (valid : Bor Validated). valid.now.view) c.run-applied.ensures.valid ∙ ap (λ (t : Validated). t.view) c.requires.same) c.in_ok-start_again.ensures.stands

pub returns-clause-found : goal.returns-clause-found
returns-clause-found g c =
    let net = c.args.net.now in
    let after = c.run-applied.new.net in
    found_yielded (sought_of c.args.self.now) net.valid.now.view c.args.lines.now _ _ _ net.books after.books c.run-applied.result c.in_ok-found.found
    (ap (λ (t : Validated). t.view) c.requires.same) c.requires.stands c.run-applied.ensures.applies c.in_ok-found.ensures
