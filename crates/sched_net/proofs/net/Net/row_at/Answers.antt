use Rattle.std.proofs.Common.{List, length, slice_get, ap, sym, ◌∙◌, arith}
use Rattle.blz_value.specs.Record.{Row}
use Rattle.sched_net.proofs.ListPlaces.{id_given, record_lent, none_lent}
use Rattle.sched_net.proofs.net.Net.row_at.Goals as goal

pub get-requires : goal.get-requires
get-requires g c =
    let within = id_given c.args.self.now.books.lists.records c.args.messages.now c.args.index c.in-Some.id c.requires (sym c.row.ensures ∙ c.in-Some.is) in
    omega (arith, within, ap (λ (l : List Row). length l) c.pool.ensures)

pub returns-in-Some : goal.returns-in-Some
returns-in-Some g c =
    record_lent c.args.self.now.books.lists.records c.args.messages.now c.args.index c.in-Some.id c.get.result.now (sym c.row.ensures ∙ c.in-Some.is)
    (ap (λ (l : List Row). slice_get l c.in-Some.id) (sym c.pool.ensures) ∙ c.get.ensures.record)

pub returns-in-None : goal.returns-in-None
returns-in-None g c = none_lent c.args.self.now.books.lists.records (slice_get c.args.messages.now c.args.index) (sym c.row.ensures ∙ c.in-None.is)
