-- That aggregates and bags stand for rows is a fact.
use Rattle.std.specs.Prelude.{ℕ, Option, None, Some, List}
use Rattle.std.specs.BTreeMap.{BTreeMap}
use Rattle.indexmap.specs.IndexMap.{IndexMap}
use Rattle.std.specs.Coded.{Π_prop}
use Rattle.std.proofs.Props.{props}
use Rattle.blz_value.specs.declared.aggregate.Agg.{Agg}
use Rattle.blz_value.specs.declared.aggregate.Agg.TheVariants as by
use Rattle.std.specs.declared.cmp.Ordering.{Ordering}
use Rattle.blz_value.specs.Groups.{column_values, with_key}
use Rattle.blz_value.specs.Record.{Row, record_cmp}
use Rattle.blz_value.specs.Value.{value_cmp}
use Rattle.bloom_growth.specs.declared.bag.Bag.{Bag}
use Rattle.bloom_growth.specs.declared.tally.Kept.{Kept}
use Rattle.bloom_growth.specs.declared.tally.Kept.TheVariants as kinds
use Rattle.bloom_growth.specs.declared.tally.Kept.TheVariants.{Nothing, Values}
use Rattle.bloom_growth.specs.declared.tally.Tally.{Tally}
use Rattle.bloom_growth.specs.declared.turning_groups.TurningGroups.{TurningGroups}
use Rattle.bloom_growth.specs.Bags.{IsBag}
use Rattle.bloom_growth.specs.Tallies.{IsKept}
use Rattle.bloom_growth.specs.TurningGroups.{IsTalliedAt, AreTallied, TalliesStand, tally_at}
use Rattle.bloom_growth.specs.Counts.{AreCounted}

AreCounted-prop : {K : Type 0} (cmp : K → K → Ordering) (keys : List K) (counts : BTreeMap K ℕ) → IsProp (AreCounted cmp keys counts)
AreCounted-prop cmp keys counts = hlevel props

pub IsBag-prop : (rows : List Row) (bag : Bag) → IsProp (IsBag rows bag)
IsBag-prop rows bag = let counted = AreCounted-prop record_cmp rows bag.counts in hlevel (counted, props)

IsKept-prop : (agg : Agg) (rows : List Row) (kept : Kept) → IsProp (IsKept agg rows kept)
IsKept-prop by.Count rows Nothing = hlevel props
IsKept-prop (by.Sum column) rows (kinds.Sum sum) = hlevel props
IsKept-prop (by.Min column) rows (Values values) = AreCounted-prop value_cmp (column_values column rows) values
IsKept-prop (by.Max column) rows (Values values) = AreCounted-prop value_cmp (column_values column rows) values
IsKept-prop agg rows kept = hlevel

IsTalliedAt-prop : (agg : Agg) (rows : List Row) (tally : Option Tally) → IsProp (IsTalliedAt agg rows tally)
IsTalliedAt-prop agg rows None = hlevel props
IsTalliedAt-prop agg rows (Some tally) = let kept = IsKept-prop agg rows tally.kept in hlevel (kept, props)

AreTallied-prop : {S : Type 0} (keys : List ℕ) (agg : Agg) (rows : List Row) (tallies : IndexMap Row Tally S) → IsProp (AreTallied keys agg rows tallies)
AreTallied-prop keys agg rows tallies = Π_prop (λ key. IsTalliedAt-prop agg (with_key keys key rows) (tally_at tallies key))

pub TalliesStand-prop : (keys : List ℕ) (agg : Agg) (rows : List Row) (groups : TurningGroups) → IsProp (TalliesStand keys agg rows groups)
TalliesStand-prop keys agg rows groups = let tallied = AreTallied-prop keys agg rows groups.tallies in hlevel (tallied, props)
