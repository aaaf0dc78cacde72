use Rattle.sched_text.proofs.PrintableLemmas.{line_gives}
use Rattle.sched_text.proofs.reading.read_line.Goals as goal

pub returns-in-Ok-clause-printable : goal.returns-in-Ok-clause-printable
returns-in-Ok-clause-printable c = line_gives c.args.line.now c.in-Ok.event c.in-Ok.ensures
