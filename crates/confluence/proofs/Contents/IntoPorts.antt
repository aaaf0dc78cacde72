-- What is in all contents of a stream arrives at each port to which the stream goes.
use Rattle.std.proofs.Common.{◌≡◌, ◌<◌, ℕ, true, false, length, ap, ◌∙◌, sym, subst}
use Rattle.blz_value.specs.Members.{Has}
use Rattle.blz_value.specs.Record.{Row}
use Rattle.bloom_forms.specs.Step.{set_at}
use Rattle.topo_forms.specs.Data.{Data}
use Rattle.topo_forms.specs.Feeds.{Feed}
use Rattle.topo_forms.specs.Valid.{IsValid}
use Rattle.topo_forms.specs.View.{View, is_order, replicas_of, stream_replicas, component_at, goes_to}
use Rattle.inbox.specs.Instances.{Instance}
use Rattle.inbox.specs.Wiring.{wiring_of, instance_at}
use Rattle.inbox.specs.Executions.{Execution, contents}
use Rattle.inbox.proofs.WiringLemmas.{instance-wired, instance-ports}
use Rattle.inbox.proofs.Streams.IntoPorts.{goes_is}
use Rattle.confluence.specs.Complete.{contents_into}
use Rattle.confluence.proofs.Contents.Heard.{in_into}
use Rattle.confluence.proofs.Contents.Pairing.{port_feed}

pub in_port : (v : View) (d : Data) (y : Execution) → IsValid v → (c j p s : ℕ) (r : Row) → is_order v c ≡ false → j < replicas_of v c → s < length v.streams → goes_to v c p s ≡ true
    → ((i : ℕ) → i < stream_replicas v s → Has r (contents (wiring_of v) d y s i)) → Has r (set_at (contents_into (wiring_of v) d y c j) p)
in_port v d y valid c j p s r unordered there lt goes each =
    let at = valid.numbered.ends s (c, p) lt (goes_is v c p s goes) in
    let f = port_feed v c j p s valid unordered lt goes there in
    let feed : Feed = record { port = p; stream = s; sender = f.sender } in
    let is = instance-wired v c j at.0 there in
    let of_feed : Has feed (instance_at (wiring_of v) c j).feeds = subst (λ (z : Instance). Has feed z.feeds) (sym is) f.there in
    let ports : length (instance_at (wiring_of v) c j).ports ≡ length (component_at v c).ports = ap (λ (z : Instance). length z.ports) is ∙ instance-ports v c j in
    in_into (wiring_of v) d y c j feed r of_feed (subst (λ (n : ℕ). p < n) (sym ports) at.1) (each f.sender f.within)
