use Rattle.std.proofs.Common.{Option, ap, subst}
use Rattle.data_read.specs.Reading.{data_of}
use Rattle.report_lines.specs.declared.refusal.Refusal.{Refusal}
use Rattle.command_checks.specs.Checks as check
use Rattle.command_checks.specs.Ran.{IsStopAt}
use Rattle.command_checks.proofs.GivenLemmas.{data_gives}
use Rattle.command_checks.proofs.given_data.data_in.Goals as goal

pub returns-in-Ok-clause-gives : goal.returns-in-Ok-clause-gives
returns-in-Ok-clause-gives c = ap (check.data_in c.args.valid.now.view) c.in-Ok.ensures.reading

pub returns-in_ok-data_refusal-in-Err-clause-gives : goal.returns-in_ok-data_refusal-in-Err-clause-gives
returns-in_ok-data_refusal-in-Err-clause-gives c =
    data_gives c.args.valid.now.view c.in-Err.fault (data_of c.args.valid.now c.args.bytes.now) c.stop_at.result c.in-Err.ensures.reading
    (subst (λ (refused : Option Refusal). IsStopAt refused c.stop_at.result) c.in_ok-data_refusal-in-Err.ensures c.stop_at.ensures)
