use Rattle.std.proofs.Common.{◌∙◌, ap, bit_or}
use Rattle.data_read.proofs.ApartLemmas.{one_apart}
use Rattle.data_read.proofs.dependencies.apart.is_known_apart.Goals as goal

pub returns-then-apart-clause-known : goal.returns-then-apart-clause-known
returns-then-apart-clause-known c =
    one_apart c.args.valid.now.view c.args.sources.now c.args.known.now.apart.bits c.union-known-then-apart.result.bits c.args.attribute
    (c.union-known-then-apart.ensures ∙ ap (bit_or c.args.known.now.apart.bits) c.of-own.ensures) c.requires.known (c.in_ok-apart.ensures c.if-apart.true)
