-- The wiring of planned word count is the one over which its worked row is computed.
use Rattle.std.proofs.Common.{◌≡◌, refl}
use Rattle.blz_value.specs.Bits.{bit_of, meets}
use Rattle.blz_value.specs.Closure.{within, closure, step}
use Rattle.topo_forms.specs.Carried.{carries, carriers}
use Rattle.topo_forms.specs.Dependencies.{usable_fds}
use Rattle.topo_forms.proofs.Worked.WordCount.{word_count_with, sealed_at}
use Rattle.inbox.specs.Wiring.{wiring_of}
use Rattle.inbox.proofs.Worked.Words.{word_count}

pub wired : wiring_of (word_count_with (sealed_at 1)) ≡ word_count
unfolding wiring_of carries carriers usable_fds bit_of meets within closure step
wired = refl
