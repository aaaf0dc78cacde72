-- What a net leaves in the shells that it gives back.
use Rattle.std.specs.Prelude.{◌≡◌, ◌<◌, ℕ, Option, List, length}
use Rattle.bloom_forms.specs.declared.program.Program.{Program}
use Rattle.bloom_forms.specs.Step.{Sets}
use Rattle.topo_forms.specs.Data.{Data}
use Rattle.topo_forms.specs.View.{View, replicas_of}
use Rattle.inbox.specs.Events.{Step}
use Rattle.inbox.specs.Lives.{kept_after}
use Rattle.inbox.specs.Wiring.{wiring_of, instance_at}
use Rattle.messages.specs.Lists.{list_at}
use Rattle.sched_net.specs.Net.{Stands, execution_in}
use Rattle.inbox.specs.Places.{instance_place}
use Rattle.sched_net.specs.declared.books.Books.{Books}

-- the tables are those with which the last life of each instance ends, for whatever steps the net stands
abbrev pub AreLastTables : View → (loaded : List (Option Program)) → (tables : List Sets) → Books → Type 0
AreLastTables v loaded tables b = (given : Data) (steps : List Step) (stands : Stands v given steps loaded tables b) (c r : ℕ) → c < length v.components → r < replicas_of v c
    → list_at tables (instance_place v c r) ≡ (kept_after (instance_at (wiring_of v) c r) ((execution_in stands.books).logs c) ((execution_in stands.books).lives c r)).tables
