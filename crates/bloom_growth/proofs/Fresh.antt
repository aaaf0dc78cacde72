-- What is kept before the first row.
use Rattle.std.proofs.Common.{◌≡◌, ◌∙◌, ℕ, Option, None, unwrap_or, List, [], ap, sym, subst}
use Rattle.std.specs.BTreeMap.{BTreeMap, IsEmpty, is_at, get}
use Rattle.std.specs.Map.{lookup}
use Rattle.std.specs.Ordering.{eq_by_cmp}
use Rattle.indexmap.specs.IndexMap.{IndexMap}
use Rattle.blz_value.specs.declared.aggregate.Agg.{Agg}
use Rattle.blz_value.specs.Groups.{with_key}
use Rattle.blz_value.specs.Record.{Row, record_cmp}
use Rattle.bloom_growth.specs.declared.side.Side.{Side}
use Rattle.bloom_growth.specs.declared.tally.Tally.{Tally}
use Rattle.bloom_growth.specs.declared.turning_groups.TurningGroups.{TurningGroups}
use Rattle.bloom_growth.specs.Sides.{IsSideOf, IsFreshSide}
use Rattle.bloom_growth.specs.TurningGroups.{IsTalliedAt, AreFreshTallies, TalliesStand, tally_at}

-- each key of an empty map finds nothing
pub none_found : {X : Type 0} (m : BTreeMap Row X) → IsEmpty m → (key : Row) → get record_cmp m key ≡ None
none_found {X} m none key = ap (λ (entries : List (Row × X)). lookup (is_at (record_cmp key)) entries) none

none_tallied : {S : Type 0} (m : IndexMap Row Tally S) → m.entries ≡ [] → (key : Row) → tally_at m key ≡ None
none_tallied m none key = ap (λ (entries : List (Row × Tally)). lookup (eq_by_cmp record_cmp key) entries) none

pub side_of_none : (columns : List ℕ) (side : Side) (rows : List Row) → IsFreshSide columns side → rows ≡ [] → IsSideOf columns rows side
side_of_none columns side rows fresh none key =
    ap (λ (o : Option (List Row)). unwrap_or o []) (none_found side.sets fresh.none key) ∙ sym (ap (with_key columns key) none)

pub tallies_of_none : (keys : List ℕ) (agg : Agg) (rows : List Row) (groups : TurningGroups) → AreFreshTallies keys agg groups → rows ≡ [] → TalliesStand keys agg rows groups
tallies_of_none keys agg rows groups fresh none = record {
  keys_are = fresh.keys_are;
  agg_is = fresh.agg_is;
  tallied = λ key. subst (λ (o : Option Tally). IsTalliedAt agg (with_key keys key rows) o) (sym (none_tallied groups.tallies fresh.none key)) (ap (with_key keys key) none);
}
