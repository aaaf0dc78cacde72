-- so many slots without a text
use Rattle.std.proofs.Common.{◌≡◌, length}
use Rattle.std.specs.List.{All}
use Rattle.topo_forms.specs.View.{View}
use Rattle.sched_run.specs.Code.Pieces.{HasPieceText}
use Rattle.sched_run.proofs.pieces.Texts.new.Given as goal

abbrev pub invariant-loop : goal.invariant-loop
invariant-loop l = record { many : length l.slots.items ≡ l.counter; each : (v : View) → All (HasPieceText v) l.slots.items }
