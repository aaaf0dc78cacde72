use Rattle.std.proofs.Common.{◌∙◌, ◌&&◌, ap, sym}
use Rattle.std.specs.List.{list_all}
use Rattle.topo_forms.specs.Carried.{carries_key}
use Rattle.topo_forms.specs.View.{goes_to, stream_numbers, streams_to}
use Rattle.inbox.proofs.Keeping.Whole.{all-filter}
use Rattle.inbox.proofs.instance.port_carries.Goals as goal

pub returns-then-is_fed : goal.returns-then-is_fed
returns-then-is_fed c =
    let v = c.args.valid.now.view in
    c.all_carry.ensures
    ∙ sym (all-filter (goes_to v c.args.component c.args.port) (carries_key v c.args.key.bits) (stream_numbers v))
    ∙ sym (ap (λ b. b && list_all (carries_key v c.args.key.bits) (streams_to v c.args.component c.args.port)) (sym c.is_fed.ensures ∙ c.if-is_fed.true))
