use Rattle.std.proofs.Common.{subst, sym}
use Rattle.topo_forms.specs.Valid.{Validated}
use Rattle.sched_run.specs.Making.{IsTextOf}
use Rattle.sched_run.specs.Naming.{CanBeWritten}
use Rattle.blazes_commands.proofs.making.printed.Goals as goal

pub text-requires : goal.text-requires
text-requires g c = subst (λ (s : Validated). CanBeWritten s.view c.args.made.now) (sym c.valid.ensures) c.requires.written

pub returns : goal.returns
returns g c = record {
  text = subst (λ (s : Validated). IsTextOf s.view c.args.made.now c.in_ok-text.field-0.items) c.valid.ensures c.in_ok-text.ensures;
  status = c.status_of.ensures;
}
