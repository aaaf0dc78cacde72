use Rattle.std.proofs.Common.{◌≡◌, ◌∙◌, ap, arith, length}
use Rattle.std.specs.List.{flat_map}
use Rattle.topo_forms.specs.Feeds.{feeds_from}
use Rattle.blz_value.specs.NumberSets.{below}
use Rattle.topo_forms.specs.View.{component_at, streams_to}
use Rattle.inbox.specs.Senders.{senders_for}
use Rattle.inbox.proofs.SendersLemmas.{feeds_sent}
use Rattle.inbox.proofs.instance.feeds_of.Goals as goal

pub returns : goal.returns
returns c =
    let v = c.args.valid.now.view in
    let end : c.loop-port.port ≡ length (component_at v c.args.component).ports = omega arith in
    c.loop-port.invariant
    ∙ ap (λ n. flat_map (λ p. flat_map (λ s. feeds_from p s (senders_for v c.args.component c.args.replica s)) (streams_to v c.args.component p)) (below n)) end
    ∙ feeds_sent v c.args.component c.args.replica
