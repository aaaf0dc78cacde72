use Rattle.std.proofs.Common.{◌∙◌, ℕ, List, [], ap, get_or, length, subst, arith}
use Rattle.std.proofs.lemmas.List.{get_or_default}
use Rattle.topo_forms.specs.Feeds.{Feed}
use Rattle.sched_run.specs.Code.Looking.{IsLane}
use Rattle.sched_run.specs.Code.Watch.{heard_at, port_place}
use Rattle.sched_run.specs.Code.Works.{HasNames}
use Rattle.sched_run.proofs.TablesLemmas.{closing_heard, closing_logged, instance_inside, port_inside}
use Rattle.sched_run.proofs.tables.Tables.closing.Goals as goal

pub index-requires : goal.index-requires
index-requires c =
    let v = c.args.valid.now.view in
    let own = subst (IsLane v) c.in-Deliver.is (subst (HasNames v) c.in-Message.is c.requires.names) in
    let inside = instance_inside v c.in-Deliver.component c.in-Deliver.replica own.is.there own.within in
    omega (arith, inside, c.instance-instance.ensures, c.requires.counts.heard.instances)

pub list-requires : goal.list-requires
list-requires c =
    let v = c.args.valid.now.view in
    let own = subst (IsLane v) c.in-Deliver.is (subst (HasNames v) c.in-Message.is c.requires.names) in
    let inside = instance_inside v c.in-Deliver.component c.in-Deliver.replica own.is.there own.within in
    let many = c.requires.counts.heard.streams c.instance-instance.result (omega (arith, inside, c.instance-instance.ensures)) in
    let read = ap (λ (l : List (List ℕ)). length l) (c.index.ensures ∙ get_or_default c.args.self.now.heard.items c.instance-instance.result c.index.result.now [] (omega (arith, inside, c.instance-instance.ensures, c.requires.counts.heard.instances))) in
    let same = ap (λ (f : Feed). f.stream) c.feed.view_is in
    let stream = own.is.stream in
    omega (arith, many, read, same, stream)

pub returns-in-Deliver : goal.returns-in-Deliver
returns-in-Deliver c =
    let v = c.args.valid.now.view in
    let heard = c.args.self.now.heard.items in
    let own = subst (IsLane v) c.in-Deliver.is (subst (HasNames v) c.in-Message.is c.requires.names) in
    let inside = instance_inside v c.in-Deliver.component c.in-Deliver.replica own.is.there own.within in
    let read = c.index.ensures ∙ get_or_default heard c.instance-instance.result c.index.result.now [] (omega (arith, inside, c.instance-instance.ensures, c.requires.counts.heard.instances)) in
    closing_heard v c.args.self.now _ _ _ c.in-Message.is _ _ _ _ _ c.in-Deliver.is
    (c.list.ensures
    ∙ ap (λ (f : Feed). get_or c.index.result.now f.stream []) c.feed.view_is
    ∙ ap (λ (l : List (List ℕ)). get_or l c.in-Deliver.feed.stream []) read
    ∙ ap (λ n. heard_at heard n c.in-Deliver.feed.stream) c.instance-instance.ensures)

pub list-requires-in-Order : goal.list-requires-in-Order
list-requires-in-Order c =
    let v = c.args.valid.now.view in
    let own = subst (IsLane v) c.in-Order.is (subst (HasNames v) c.in-Message.is c.requires.names) in
    let port = ap (λ (f : Feed). f.port) c.feed-in-Order.view_is in
    let at_port = c.port_place.ensures ∙ ap (port_place c.in-Order.component) port in
    let inside = port_inside v _ _ (length c.args.self.now.logs) c.bounded.ensures own.is.there own.is.port c.requires.counts.logs in
    omega (arith, inside, at_port)

pub returns-in-Order : goal.returns-in-Order
returns-in-Order c =
    let port = ap (λ (f : Feed). f.port) c.feed-in-Order.view_is in
    closing_logged c.args.valid.now.view c.args.self.now _ _ _ c.in-Message.is _ _ _ c.in-Order.is
    (c.list-in-Order.ensures ∙ ap (λ n. get_or c.args.self.now.logs n []) (c.port_place.ensures ∙ ap (port_place c.in-Order.component) port))
