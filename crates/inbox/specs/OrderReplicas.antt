-- A replica of an Order component holds what its program puts out over the first entries of the log.
use Rattle.std.specs.Prelude.{◌≡◌, ◌<◌, ℕ, max, Some, length, map, true, slice_get}
use Rattle.std.specs.List.{fold}
use Rattle.bloom_forms.specs.declared.program.Program.{Program}
use Rattle.bloom_forms.specs.Program.{port_columns}
use Rattle.topo_forms.specs.View.{is_order_mode, Stream}
use Rattle.inbox.specs.Lives.{Lives, all_lives}
use Rattle.inbox.specs.Wiring.{Wiring, instance_at}

-- how many entries were taken in the life in which most were
abbrev pub most_taken : Lives → ℕ
most_taken lives = fold max 0 (map (λ life. life.taken) (all_lives lives))

-- a stream is that of an output of an Order component that has this program
pub record IsOrderOutput (w : Wiring) (stream component output replica : ℕ) (program : Program) : Type 0 where
  pub line : Stream
  pub numbered : slice_get w.streams stream ≡ Some line
  pub origin : line.origin ≡ Some (component, output)
  pub body : (instance_at w component replica).program ≡ Some program
  pub order : is_order_mode (instance_at w component replica).mode ≡ true
  pub ports : length (instance_at w component replica).ports ≡ length (port_columns program)
  pub output_there : output < length (instance_at w component replica).outputs
