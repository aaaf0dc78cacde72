use Rattle.std.proofs.Common.{rules, ◌≡◌, true}
use Rattle.topo_forms.specs.Data.{has_both, key_places}
use Rattle.topo_forms.specs.View.{stream_at, stream_attrs}
use Rattle.data_read.proofs.PairLemmas.{placed_more, sides_here}
use Rattle.data_read.proofs.dependencies.push_placed.Goals as goal

pub returns : goal.returns
returns c =
    let v = c.args.valid.now.view in
    let columns : c.in_ok-columns.columns.items ≡ (stream_at v c.args.source).columns = search rules in
    let from : c.in_ok-from.from.items ≡ key_places c.in_ok-columns.columns.items c.args.fd.from.bits = search rules in
    let to : c.in_ok-to.to.items ≡ key_places c.in_ok-columns.columns.items c.args.fd.to.bits = search rules in
    let both : has_both c.args.fd (stream_attrs v c.args.source).bits ≡ true = search rules in
    let rows : c.deref-4.result.now ≡ c.args.lists.now.rows = search rules in
    placed_more c.args.all.now.items c.push.new.self.items _ _ c.in_ok-push.ensures.items
    (sides_here v c.args.fd c.args.source c.args.lists.now c.in_ok-columns.columns.items c.in_ok-from.from.items c.in_ok-to.to.items c.deref-4.result.now columns both from to rows)
