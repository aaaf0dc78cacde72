use Rattle.std.proofs.Common.{◌∙◌, Some, ap, sym, arith}
use Rattle.bloom_forms.specs.Roots.{are_same}
use Rattle.topo_forms.specs.View.{stream_at}
use Rattle.inbox.proofs.KeyColumns.{place_found, place_missing}
use Rattle.inbox.proofs.keys.place_of.Goals as goal

pub returns-then-is_column : goal.returns-then-is_column
returns-then-is_column c =
    sym (place_found c.args.attribute (stream_at c.args.valid.now.view c.args.stream).columns c.loop-place.place (omega (arith, c.loop-place-test.true, c.stream_width-width.ensures)) c.loop-place.invariant
    (ap (λ o. are_same o (Some c.args.attribute)) (sym c.stream_column.ensures) ∙ sym c.is_column.ensures ∙ c.if-is_column.true))

pub returns : goal.returns
returns c =
    c.stream_width-width.ensures
    ∙ sym (place_missing c.args.attribute (stream_at c.args.valid.now.view c.args.stream).columns (λ k less. c.loop-place.invariant k (omega (arith, less, c.loop-place-test.false, c.stream_width-width.ensures))))
