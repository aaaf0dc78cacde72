-- Changes of parts: what an operator answers.
use Rattle.std.proofs.Common.{◌≡◌, ◌∙◌, ℕ, ◌≤◌, Bool, true, false, IsTrue, List, [], ◌∷◌, ◌++◌, length, Result, Ok, Err, refl, sym, subst, inl, arith}
use Rattle.std.specs.Prelude.{nat_le}
use Rattle.std.proofs.lemmas.List.{length-map}
use Rattle.blz_value.specs.declared.aggregate.Agg.{Agg}
use Rattle.blz_value.specs.Groups.{with_key, aggregate, group_rows, at_least_rows}
use Rattle.blz_value.specs.Members.{Has, IsWithin}
use Rattle.blz_value.specs.Operators.{cells, select_rows, project_rows}
use Rattle.blz_value.specs.Record.{Row}
use Rattle.blz_value.specs.Sets.{set_of, IsRowSet}
use Rattle.blz_value.proofs.OperatorsLemmas.{from_select, in_select}
use Rattle.blz_value.proofs.RowSets.{length-set_of-le}
use Rattle.blz_value.proofs.SetLaws.{sorted_set_of}
use Rattle.blz_set.specs.Answers.{Gives}
use Rattle.blz_set.specs.RecordSet.{row_limit}
use Rattle.blz_set.specs.declared.fault.SetFault.{SetFault}
use Rattle.blz_set.specs.declared.fault.SetFault.TheVariants.{TooManyRows, NoMemory}
use Rattle.blz_set.proofs.RecordSets.{length-filter-le}
use Rattle.bloom_growth.specs.declared.turn.Turn.{Turn}
use Rattle.bloom_growth.specs.declared.turning_groups.TurningGroups.{TurningGroups}
use Rattle.bloom_growth.specs.Turned.{Turned, TurnsInto}
use Rattle.bloom_growth.specs.TurningGroups.{TalliesStand, GroupsTurn}
use Rattle.bloom_growth.proofs.TurnedLemmas.{is_missing, came, comes, went, goes}
use Rattle.bloom_parts.specs.declared.change.Change.{Change}
use Rattle.bloom_parts.specs.Turns.{rows_in, HasTurned, Turns, TurnsTo}

-- a change of these rows
pub turns_from : (kept : Bool) (old new rows gone : List Row) (made : Change) → made.kept ≡ kept → rows_in made.rows ≡ rows → rows_in made.gone ≡ gone → IsRowSet new → length new ≤ row_limit → HasTurned kept old new rows gone → TurnsTo kept old new (Ok made)
turns_from kept old new rows gone made e r g sorted few h = (
  e,
  record {
    sorted = sorted;
    few = few;
    rows = subst (λ (b : Bool). HasTurned b old new (rows_in made.rows) (rows_in made.gone)) (sym e) (subst (λ (l : List Row). HasTurned kept old new l (rows_in made.gone)) (sym r) (subst (λ (l : List Row). HasTurned kept old new rows l) (sym g) h));
  },
)

-- a turn of parts that are kept
pub turned_into : (old new : List Row) (turn : Turn) (made : Change) → made.kept ≡ true → rows_in made.rows ≡ turn.more → rows_in made.gone ≡ turn.gone → length old ≤ row_limit → TurnsInto old new (Ok turn) → TurnsTo true old new (Ok made)
turned_into old new turn made e r g few t = turns_from true old new turn.more turn.gone made e r g t.0.new_sorted t.1 (t.0, few)

-- its fault
pub into_fault : (kept : Bool) (old new : List Row) (fault : SetFault) → TurnsInto old new (Err fault) → TurnsTo kept old new (Err fault)
into_fault kept old new TooManyRows h = h
into_fault kept old new NoMemory h = tt

pub flagged : (a b : Bool) (old new : List Row) (r : Result Change SetFault) → a ≡ b → TurnsTo a old new r → TurnsTo b old new r
flagged a b old new r e h = subst (λ (z : Bool). TurnsTo z old new r) e h

-- a fault that can't be
pub no_fault : (kept : Bool) (old new rows : List Row) (fault : SetFault) → length rows ≤ row_limit → Gives rows (Err fault) → TurnsTo kept old new (Err fault)
no_fault kept old new rows TooManyRows few h = absurd (omega (arith, few, h))
no_fault kept old new rows NoMemory few h = tt

-- the change of a part that is kept
pub turned_of : (old new : List Row) (part : Change) → Turns old new part → part.kept ≡ true → Turned old new (rows_in part.rows) (rows_in part.gone) × (length old ≤ row_limit)
turned_of old new part t is = subst (λ (b : Bool). HasTurned b old new (rows_in part.rows) (rows_in part.gone)) is t.rows

-- the same by lists that are its rows
pub turned_as : (old new more gone : List Row) (part : Change) → Turns old new part → part.kept ≡ true → more ≡ rows_in part.rows → gone ≡ rows_in part.gone → Turned old new more gone
turned_as old new more gone part t is m g =
    subst (λ (l : List Row). Turned old new l gone) (sym m) (subst (λ (l : List Row). Turned old new (rows_in part.rows) l) (sym g) (turned_of old new part t is).0)

no_row_in : (xs : List Row) → ((q : Row) → Has q xs → ⊥) → xs ≡ []
no_row_in [] none = refl
no_row_in (x ∷ xs) none = absurd (none x (inl refl))

-- a part that has all its old rows lost none
pub none_lost : (old new more gone : List Row) → Turned old new more gone → IsWithin old new → gone ≡ []
none_lost old new more gone t within = no_row_in gone (λ q h. let w = went old new more gone t q h in w.1 (within q w.0))

-- a change that is lent on
pub lent_turns : (old new : List Row) (change lent : Change) → lent.kept ≡ change.kept → rows_in lent.rows ≡ rows_in change.rows → rows_in lent.gone ≡ rows_in change.gone → Turns old new change → Turns old new lent
lent_turns old new change lent e r g t = record {
  sorted = t.sorted;
  few = t.few;
  rows = subst (λ (b : Bool). HasTurned b old new (rows_in lent.rows) (rows_in lent.gone)) (sym e)
      (subst (λ (l : List Row). HasTurned change.kept old new l (rows_in lent.gone)) (sym r) (subst (λ (l : List Row). HasTurned change.kept old new (rows_in change.rows) l) (sym g) t.rows));
}

-- ---- select

pub few_selected : (p : Row → Bool) (rows : List Row) → length rows ≤ row_limit → length (set_of (select_rows p rows)) ≤ row_limit
few_selected p rows few = omega (arith, length-set_of-le (select_rows p rows), length-filter-le p rows)

module _ (p : Row → Bool) (old new more gone : List Row) (t : Turned old new more gone) where
  pub select_turned : Turned (set_of (select_rows p old)) (set_of (select_rows p new)) (set_of (select_rows p more)) (set_of (select_rows p gone))
  select_turned = record {
    old_sorted = sorted_set_of (select_rows p old);
    new_sorted = sorted_set_of (select_rows p new);
    more_is = is_missing (set_of (select_rows p old)) (set_of (select_rows p new)) (set_of (select_rows p more)) (sorted_set_of (select_rows p new)) (sorted_set_of (select_rows p more))
        (λ q h. let m = from_select p more q h in let c = came old new more gone t q m.0 in (in_select p new q c.0 m.1, λ held. c.1 (from_select p old q held).0))
        (λ q h lacks. let m = from_select p new q h in in_select p more q (comes old new more gone t q m.0 (λ held. lacks (in_select p old q held m.1))) m.1);
    gone_is = is_missing (set_of (select_rows p new)) (set_of (select_rows p old)) (set_of (select_rows p gone)) (sorted_set_of (select_rows p old)) (sorted_set_of (select_rows p gone))
        (λ q h. let m = from_select p gone q h in let c = went old new more gone t q m.0 in (in_select p old q c.0 m.1, λ held. c.1 (from_select p new q held).0))
        (λ q h lacks. let m = from_select p old q h in in_select p gone q (goes old new more gone t q m.0 (λ held. lacks (in_select p new q held m.1))) m.1);
  }

-- what is selected of a part that is kept
pub select_turns : (p : Row → Bool) (old new : List Row) (part made : Change) → Turns old new part → part.kept ≡ true → made.kept ≡ true → rows_in made.rows ≡ set_of (select_rows p (rows_in part.rows)) → rows_in made.gone ≡ set_of (select_rows p (rows_in part.gone)) → TurnsTo part.kept (set_of (select_rows p old)) (set_of (select_rows p new)) (Ok made)
select_turns p old new part made t is e r g =
    let turned = turned_of old new part t is in
    turns_from part.kept (set_of (select_rows p old)) (set_of (select_rows p new)) (set_of (select_rows p (rows_in part.rows))) (set_of (select_rows p (rows_in part.gone))) made (e ∙ sym is) r g (sorted_set_of (select_rows p new)) (few_selected p new t.few)
    (subst (λ (b : Bool). HasTurned b (set_of (select_rows p old)) (set_of (select_rows p new)) (set_of (select_rows p (rows_in part.rows))) (set_of (select_rows p (rows_in part.gone)))) (sym is)
    (select_turned p old new (rows_in part.rows) (rows_in part.gone) turned.0, few_selected p old turned.1))

-- ---- group and atleast

-- a group has no more rows than its part
pub few_grouped : (keys : List ℕ) (agg : Agg) (rows : List Row) → length rows ≤ row_limit → length (set_of (group_rows keys agg rows)) ≤ row_limit
few_grouped keys agg rows few =
    omega (arith, length-set_of-le (group_rows keys agg rows), length-map (project_rows keys rows) (λ (key : Row). key ++ aggregate agg (with_key keys key rows) ∷ []), length-map rows (cells keys))

-- the keys of an atleast are keys of rows of its part
pub few_often : (keys : List ℕ) (bound : ℕ) (rows : List Row) → length rows ≤ row_limit → length (set_of (at_least_rows keys bound rows)) ≤ row_limit
few_often keys bound rows few =
    omega (arith, length-set_of-le (at_least_rows keys bound rows), length-filter-le (λ (key : Row). nat_le bound (length (with_key keys key rows))) (project_rows keys rows), length-map rows (cells keys))

-- a part that is kept turned, and the aggregates are those of its old rows
pub groups_turn : (keys : List ℕ) (agg : Agg) (old new more gone : List Row) (part : Change) (groups : TurningGroups) → part.kept ≡ true → more ≡ rows_in part.rows → gone ≡ rows_in part.gone → Turns old new part → TalliesStand keys agg old groups → GroupsTurn keys agg old new more gone groups
groups_turn keys agg old new more gone part groups is m g t stands = record { turned = turned_as old new more gone part t is m g; few_old = (turned_of old new part t is).1; few_new = t.few; stand = stands }

-- ---- rows that a head has already

-- where it has all old ones, those that come make it have all new ones
pub gets : (kept : Bool) (old new turned gone : List Row) (rows : List Row) → HasTurned kept old new turned gone → (IsTrue kept → IsWithin old rows) → (q : Row) → Has q new → ¬ Has q rows → Has q turned
gets true old new turned gone rows t within q h lacks = comes old new turned gone t.0 q h (λ held. lacks (within refl q held))
gets false old new turned gone rows t within q h lacks = subst (λ (l : List Row). Has q l) (sym t) h
