use Rattle.std.proofs.Common.{refl}
use Rattle.data_read.proofs.ApartLemmas.{none_apart}
use Rattle.data_read.proofs.dependencies.first_broken.Goals as goal

pub loop-number-init : goal.loop-number-init
loop-number-init c = record { rest = refl; apart = none_apart c.args.valid.now.view c.args.sources.now c.none_known-known.result.apart.bits c.none_known-known.ensures }
