use Rattle.std.proofs.Common.{◌∙◌, ◌++◌, Err, ap, codes, sym, subst}
use Rattle.std.specs.Fmt.{decimal}
use Rattle.sched_text.specs.declared.fault.ScheduleFault.TheVariants as faults
use Rattle.sched_text.specs.Reading.{GivesEvent, event_reading}
use Rattle.worked_calls.specs.Shown.{line_shown}
use Rattle.worked_calls.proofs.calls.event_shown.Goals as goal

pub returns-in_ok-format-in-Err-Text : goal.returns-in_ok-format-in-Err-Text
returns-in_ok-format-in-Err-Text c =
    let read : GivesEvent (event_reading c.args.line.now) (Err (faults.Text c.in-Err-Text.line)) = subst (λ fault. GivesEvent (event_reading c.args.line.now) (Err fault)) c.in-Err-Text.field-0-is c.in-Err-Text.ensures.read in
    let one = ap (λ number. codes "line " ++ (decimal number ++ codes "\n")) read.1 in
    ap (λ v. v.items) c.into_bytes.ensures.value ∙ (c.in_ok-format-in-Err-Text.ensures.ok ∙ (one ∙ sym (ap line_shown read.0)))
