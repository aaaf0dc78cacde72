use Rattle.std.proofs.Common.{◌∙◌, ap, length, List, arith}
use Rattle.blz_set.specs.References.{shown}
use Rattle.messages.specs.declared.message.Message.{Message}
use Rattle.sched_net.proofs.EmittedSeen.{few_read_rows, seen_within, seen_contents, seen_in_order, if_ok_so}
use Rattle.sched_net.proofs.net.Net.contents.Goals as goal

pub set_within-requires : goal.set_within-requires
set_within-requires g c =
    let inside = seen_within c.args.self.now.valid.now.view c.args.self.now.books.lists.lists c.args.stream c.args.replica in
    few_read_rows c.args.self.now.books.lists c.messages.result c.in_ok-copies_of.field-0.items (c.in_ok-copies_of.ensures ∙ ap shown c.deref.ensures.value ∙ c.in_ok-rows.ensures)
    (omega (arith, inside, ap (λ (l : List Message). length l) c.messages.ensures.list)) c.known-2.ensures.few

pub returns-clause-contents : goal.returns-clause-contents
returns-clause-contents g c sends =
    if_ok_so c.set_within.result _ _
    (λ set is given steps stand. is ∙ seen_contents c.args.self.now.valid.now.view given steps c.args.self.now.books stand c.known.ensures c.args.stream c.args.replica sends c.messages.result c.messages.ensures.list c.in_ok-copies_of.field-0.items (c.in_ok-copies_of.ensures ∙ ap shown c.deref.ensures.value ∙ c.in_ok-rows.ensures))
    c.set_within.ensures

pub returns-clause-ordered : goal.returns-clause-ordered
returns-clause-ordered g c =
    if_ok_so c.set_within.result _ _
    (λ set is component output program ordered given steps stand. is ∙ seen_in_order c.args.self.now.valid.now.view given steps c.args.self.now.books stand c.known.ensures c.args.stream c.args.replica component output program c.messages.result c.in_ok-copies_of.field-0.items ordered c.messages.ensures.list (c.in_ok-copies_of.ensures ∙ ap shown c.deref.ensures.value ∙ c.in_ok-rows.ensures))
    c.set_within.ensures
