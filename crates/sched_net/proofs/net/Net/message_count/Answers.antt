use Rattle.std.proofs.Common.{◌∙◌, sym}
use Rattle.messages.specs.Lists.{read_lists}
use Rattle.sched_net.specs.Net.{execution_in}
use Rattle.messages.proofs.ListsLemmas.{total-read}
use Rattle.sched_net.proofs.Showing.{all_shown}
use Rattle.sched_net.proofs.net.Net.message_count.Goals as goal

pub returns : goal.returns
returns g c given steps stand =
    let b = c.args.self.now.books in
    c.count.ensures.count
    ∙ sym (total-read b.lists)
    ∙ sym (all_shown c.args.self.now.valid.now.view given (execution_in stand) stand.seats stand.tables (read_lists b.lists) c.known.ensures stand.stands.stands stand.shows)
