-- What is kept by key of a part, in the form for one that only grows or the form for others.
use Rattle.bloom_growth.specs.Kept.{Kept}
use Rattle.bloom_growth.specs.KeptForms.{side_kept, keyed_kept}
use Rattle.bloom_parts.specs.declared.part_rows.PartRows.{PartRows}
use Rattle.bloom_parts.specs.declared.part_rows.PartRows.TheVariants.{Growing, Keyed}

abbrev pub kept_of : PartRows → Kept
kept_of (Growing side) = side_kept side
kept_of (Keyed keyed) = keyed_kept keyed
