-- with the parts so far
use Rattle.std.proofs.Common.{◌≡◌, ◌++◌, List, take}
use Rattle.blz_value.specs.Record.{Row}
use Rattle.blz_value.specs.Sets.{set_of}
use Rattle.inbox.proofs.sources.add_parts.Given as goal

abbrev pub invariant-loop-part : goal.invariant-loop-part
invariant-loop-part l = (own : List Row) → l.fn.keys.keys ≡ set_of own → l.keys.keys ≡ set_of (own ++ take l.part-index l.parts)
