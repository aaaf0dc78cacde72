use Rattle.std.proofs.Common.{◌≡◌, ◌∙◌, [], length, refl, ap, sym, subst}
use Rattle.blz_set.specs.References.{shown}
use Rattle.blz_value.specs.Sets.{set_of}
use Rattle.topo_forms.specs.Messages.{rows_in}
use Rattle.messages.specs.Lists.{read_list}
use Rattle.sched_net.proofs.EmittedSeen.{none_past, seen_sorted, seen_contents, seen_in_order, ordered_sends}
use Rattle.sched_net.proofs.SortedRows.{set_of-shown}
use Rattle.sched_net.proofs.net.Net.sorted_rows.Goals as goal

pub returns-clause-contents : goal.returns-clause-contents
returns-clause-contents g c sends given steps stand =
    let view = c.args.self.now.valid.now.view in
    let books = c.args.self.now.books in
    seen_sorted view given steps books stand c.known.ensures c.args.stream c.args.replica sends c.messages.result c.messages.ensures.list c.in_ok-rows.rows.items c.sort_unstable.new.self.items c.in_ok-rows.ensures c.sort_unstable.ensures.permutation c.sort_unstable.ensures.sorted
    ∙ seen_contents view given steps books stand c.known.ensures c.args.stream c.args.replica sends c.messages.result c.messages.ensures.list (shown c.in_ok-rows.rows.items) c.in_ok-rows.ensures

pub returns-clause-ordered : goal.returns-clause-ordered
returns-clause-ordered g c component output program ordered given steps stand =
    let view = c.args.self.now.valid.now.view in
    let books = c.args.self.now.books in
    let sends = ordered_sends view given steps books stand c.known.ensures c.args.stream c.args.replica component output program ordered in
    seen_sorted view given steps books stand c.known.ensures c.args.stream c.args.replica sends c.messages.result c.messages.ensures.list c.in_ok-rows.rows.items c.sort_unstable.new.self.items c.in_ok-rows.ensures c.sort_unstable.ensures.permutation c.sort_unstable.ensures.sorted
    ∙ seen_in_order view given steps books stand c.known.ensures c.args.stream c.args.replica component output program c.messages.result (shown c.in_ok-rows.rows.items) ordered c.messages.ensures.list c.in_ok-rows.ensures

pub returns-clause-past : goal.returns-clause-past
returns-clause-past g c past =
    let none : shown c.in_ok-rows.rows.items ≡ [] = c.in_ok-rows.ensures ∙ ap (λ l. rows_in (read_list c.args.self.now.books.lists.records l)) (c.messages.ensures.list ∙ none_past c.args.self.now.valid.now.view c.args.self.now.books.lists.lists c.args.stream c.args.replica past) in
    set_of-shown c.in_ok-rows.rows.items c.sort_unstable.new.self.items c.sort_unstable.ensures.permutation c.sort_unstable.ensures.sorted (subst (λ l. length (set_of l) ≡ length l) (sym none) refl)
    ∙ ap set_of none
