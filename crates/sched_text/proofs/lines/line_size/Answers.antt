use Rattle.std.proofs.Common.{Some, None, subst}
use Rattle.memchr.specs.Find.{IsFirstByte, is_byte}
use Rattle.sched_text.proofs.LinesLemmas.{before_first_feed}
use Rattle.sched_text.proofs.lines.line_size.Goals as goal

pub returns-in-Some-clause-value : goal.returns-in-Some-clause-value
returns-in-Some-clause-value c = before_first_feed c.args.text.now (Some c.in-Some.size) (subst (IsFirstByte (is_byte 10) c.args.text.now) c.in-Some.is c.memchr.ensures)

pub returns-in-None-clause-value : goal.returns-in-None-clause-value
returns-in-None-clause-value c = before_first_feed c.args.text.now None (subst (IsFirstByte (is_byte 10) c.args.text.now) c.in-None.is c.memchr.ensures)
