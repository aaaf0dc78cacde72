use Rattle.std.proofs.Common.{◌≡◌, drop}
use Rattle.data_read.specs.Broken.{first_broken_from}
use Rattle.data_read.specs.Code.Apart.{AllApart}
use Rattle.data_read.proofs.dependencies.first_broken.Given as goal

abbrev pub invariant-loop-number : goal.invariant-loop-number
invariant-loop-number l = record {
  rest : first_broken_from l.valid.view l.number (drop l.number l.valid.view.fds) l.sources ≡ first_broken_from l.valid.view 0 l.valid.view.fds l.sources;
  apart : AllApart l.valid.view l.sources l.known.apart.bits;
}
