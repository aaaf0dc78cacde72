use Rattle.std.proofs.Common.{◌≡◌, List, Ok, Err, ap, length, subst, ◌∙◌}
use Rattle.bloom_forms.specs.Form.{Accepted}
use Rattle.topo_forms.specs.Valid.{Validated}
use Rattle.topo_forms.specs.Validity.{fault_of}
use Rattle.command_checks.specs.Checks as check
use Rattle.command_checks.specs.Code.Topologies.{from_modules}
use Rattle.command_checks.specs.Ends.{files_states}
use Rattle.command_checks.specs.Found.{found_shown}
use Rattle.command_checks.specs.Ran.{Gives}
use Rattle.command_checks.proofs.ModulesLemmas.{fault_stops, modules_come, has_modules}
use Rattle.command_checks.proofs.ScriptLemmas.{stop_handed}
use Rattle.command_checks.proofs.topologies.found_with.Goals as goal

pub validated-requires-clause-each : goal.validated-requires-clause-each
validated-requires-clause-each c = ap length c.deref.ensures.value ∙ c.requires.each

pub returns-in_err-valid-clause-ran : goal.returns-in_err-valid-clause-ran
returns-in_err-valid-clause-ran c files =
    let t = c.args.topology.now in
    let modules = c.args.modules.items in
    let stop = c.in_err-valid.field-0.0 in
    let given = subst (λ (ms : List Accepted). Gives (λ (valid : Validated). valid) (Err stop) (check.valid_with t ms (fault_of t ms))) c.deref.ensures.value c.in_err-valid.ensures in
    stop_handed found_shown (files_states files files) (from_modules t modules) c.from_residual.result stop c.from_residual.ensures.1 (fault_stops files t modules stop given)

pub returns : goal.returns
returns c =
    let t = c.args.topology.now in
    let modules = c.args.modules.items in
    let valid = c.in_ok-valid.valid in
    let is = subst (λ (ms : List Accepted). check.valid_with t ms (fault_of t ms) ≡ Ok valid) c.deref.ensures.value c.in_ok-valid.ensures in
    record {
      ran = λ files. modules_come files t modules valid is;
      modules = has_modules t modules valid c.requires.each c.requires.allowed is;
    }
