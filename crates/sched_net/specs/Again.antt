-- A net that stood over some data, unless a fault ended it, can go back to where it was opened over them.
use Rattle.std.specs.Prelude.{◌≡◌, false, Option, List}
use Rattle.bloom_forms.specs.declared.program.Program.{Program}
use Rattle.bloom_forms.specs.Step.{Sets}
use Rattle.topo_forms.specs.Data.{Data}
use Rattle.topo_forms.specs.View.{View}
use Rattle.inbox.specs.Events.{Step}
use Rattle.sched_net.specs.Net.{Stands}
use Rattle.sched_net.specs.declared.books.Books.{Books}

-- it stands for some steps over the data, where no fault ended it
abbrev pub StoodOver : View → Data → (loaded : List (Option Program)) → (tables : List Sets) → Books → Type 0
StoodOver v given loaded tables b = b.ended ≡ false → (steps : List Step) × Stands v given steps loaded tables b
