-- Books that can go back to no step.
use Rattle.std.specs.Prelude.{◌≡◌, false, List}
use Rattle.topo_forms.specs.Data.{Data}
use Rattle.topo_forms.specs.View.{View}
use Rattle.inbox.specs.Events.{Step}
use Rattle.sched_net.specs.Net.{BooksRun, BooksStand}
use Rattle.sched_net.specs.declared.books.Books.{Books}

-- they stand for some steps over the data, where no fault ended the net
abbrev pub BooksStoodOver : View → Data → Books → Type 0
BooksStoodOver v given b = b.ended ≡ false → (steps : List Step) × BooksStand v given steps b

-- they run, where no fault ended the net
abbrev pub RanBefore : View → Books → Type 0
RanBefore v b = b.ended ≡ false → BooksRun v b
