use Rattle.std.proofs.Common.{◌≡◌, ◌&&◌, not, if◌then◌else◌, map, drop}
use Rattle.blz_value.specs.Bits.{bit_of, meets}
use Rattle.blz_value.specs.Arrows.{with_all, bit_if}
use Rattle.path_facts.specs.Readings.{bad_among}
use Rattle.path_facts.proofs.readings.bad_tables.Given as goal

abbrev pub invariant-loop-reading : goal.invariant-loop-reading
invariant-loop-reading l = with_all l.set.bits (map (λ reading. bit_if (meets (bit_of reading.head) l.tables.bits && (if reading.is_momentary then meets l.tables.bits reading.direct.bits else not reading.is_free)) reading.head) (drop l.reading-index l.readings)) ≡ bad_among l.tables.bits l.readings
