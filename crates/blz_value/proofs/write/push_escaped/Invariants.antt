-- the bytes before the run, and behind them the run, which is its own text
use Rattle.std.proofs.Common.{◌≡◌, ◌≤◌, ◌++◌, take, drop}
use Rattle.blz_value.specs.Text.{escaped, BeginsWith}
use Rattle.blz_value.proofs.write.push_escaped.Given as goal

abbrev pub invariant-loop-i : goal.invariant-loop-i
invariant-loop-i l = record {
  before : l.start ≤ l.i;
  written : l.into.items ++ drop l.start (take l.i l.bytes) ≡ l.initial.into.items ++ escaped (take l.i l.bytes);
  begins : BeginsWith l.initial.into.items l.into.items;
}
