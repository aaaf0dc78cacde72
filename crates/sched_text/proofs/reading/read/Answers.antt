use Rattle.sched_text.proofs.PrintableLemmas.{reads_printable}
use Rattle.sched_text.proofs.reading.read.Goals as goal

pub returns-clause-printable : goal.returns-clause-printable
returns-clause-printable c = rw c.from_lines.ensures (reads_printable c.args.text.now c.in_ok-read_lines.field-0.items c.in_ok-read_lines.ensures)
