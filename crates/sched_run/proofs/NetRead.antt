-- What holds of the topology and the books that are read of a net holds of the net's own, and the other way round.
use Rattle.std.proofs.Common.{◌≡◌, sym, subst}
use Rattle.topo_forms.specs.Valid.{Validated}
use Rattle.topo_forms.specs.View.{View}
use Rattle.sched_net.specs.declared.books.Books.{Books}

-- of what is read, where it holds of the own
pub of_read : (holds : View → Books → Type 0) (read own : Validated) (read_books books : Books) → read ≡ own → read_books ≡ books → holds own.view books → holds read.view read_books
of_read holds read own read_books books same alike is = subst (λ (s : Validated). holds s.view read_books) (sym same) (subst (holds own.view) (sym alike) is)

-- of the own, where it holds of what is read
pub of_own : (holds : View → Books → Type 0) (read own : Validated) (read_books books : Books) → read ≡ own → read_books ≡ books → holds read.view read_books → holds own.view books
of_own holds read own read_books books same alike is = subst (λ (s : Validated). holds s.view books) same (subst (holds read.view) alike is)
