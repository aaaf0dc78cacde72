-- Aggregates by keys, where rows come and go, and the rows that they make.
use Rattle.std.proofs.Common.{◌≡◌, ℕ, ◌<◌, Bool, IsTrue, ◌↔◌, true, false, cond, List, [], ◌∷◌, length, Option, Some, None, Result, Ok, Err, IfOk, OnOk, refl, ap, ◌∙◌, sym, subst, inl, inr, arith}
use Rattle.std.proofs.lemmas.Bool.{cases_Bool}
use Rattle.indexmap.specs.IndexMap.{IndexMap}
use Rattle.std.specs.BTreeSet.{insert_key}
use Rattle.std.specs.Ordering.{eq_by_cmp}
use Rattle.blz_value.specs.declared.aggregate.Agg.{Agg}
use Rattle.blz_value.specs.declared.aggregate.Agg.TheVariants as by
use Rattle.blz_value.specs.declared.value.Value.{Value}
use Rattle.blz_value.specs.Groups.{aggregate, column_values, exact_sum, with_key}
use Rattle.blz_value.specs.Members.{Has}
use Rattle.blz_value.specs.Operators.{cells}
use Rattle.blz_value.specs.Record.{Row, record_cmp}
use Rattle.blz_value.specs.Sets.{set_of, IsRowSet}
use Rattle.blz_value.specs.Test.{cell}
use Rattle.blz_value.specs.Value.{value_cmp}
use Rattle.blz_value.proofs.Membership.{Has-from_filter}
use Rattle.blz_value.proofs.OperatorsLemmas.{sorted_filter}
use Rattle.blz_value.proofs.RowSets.{set_of-sorted}
use Rattle.blz_value.proofs.SetLaws.{Has-set_of, Has-from_set_of}
use Rattle.blz_value.proofs.Lists.{same-self as own_key}
use Rattle.blz_set.specs.RecordSet.{row_limit}
use Rattle.blz_set.proofs.RecordSets.{length-filter-le}
use Rattle.blz_set.proofs.Runs.{same_row}
use Rattle.bloom_growth.specs.declared.tally.Kept.{Kept}
use Rattle.bloom_growth.specs.declared.tally.Kept.TheVariants.{Nothing, Sum, Values}
use Rattle.bloom_growth.specs.declared.tally.Tally.{Tally}
use Rattle.bloom_growth.specs.Tallies.{IsKept, IsTally}
use Rattle.bloom_growth.specs.TurningGroups.{IsTalliedAt, AreTallied, tally_at}
use Rattle.bloom_growth.specs.Counts.{times, given}
use Rattle.bloom_growth.specs.Code.Tallies.{KeepsOthers, GoesOn, GoesBack, IsLeft, IsStep, LeavesAt, value_of}
use Rattle.bloom_growth.proofs.CountsLemmas.{count_insert}
use Rattle.bloom_growth.proofs.AggregateLemmas.{length_more, sum_insert}
use Rattle.bloom_growth.proofs.SidesLemmas.{apart, with_own_key, with_other_key}

-- ---- the rows in another order

-- lists on which each aggregate comes to the same
pub record AreAlike (xs ys : List Row) : Type 0 where
  pub lengths : length xs ≡ length ys
  pub sums : (column : ℕ) → exact_sum (column_values column xs) ≡ exact_sum (column_values column ys)
  pub counts : (column : ℕ) (value : Value) → times value_cmp (column_values column xs) value ≡ times value_cmp (column_values column ys) value
  pub within : (row : Row) → Has row ys → Has row xs

kept_alike : (agg : Agg) (xs ys : List Row) (kept : Kept) → AreAlike xs ys → IsKept agg xs kept → IsKept agg ys kept
kept_alike by.Count xs ys Nothing same h = tt
kept_alike by.Count xs ys (Sum sum) same h = absurd h
kept_alike by.Count xs ys (Values values) same h = absurd h
kept_alike (by.Sum column) xs ys Nothing same h = absurd h
kept_alike (by.Sum column) xs ys (Sum sum) same h = (h.0 ∙ same.sums column, λ row m. h.1 row (same.within row m))
kept_alike (by.Sum column) xs ys (Values values) same h = absurd h
kept_alike (by.Min column) xs ys Nothing same h = absurd h
kept_alike (by.Min column) xs ys (Sum sum) same h = absurd h
kept_alike (by.Min column) xs ys (Values values) same h = λ value. h value ∙ ap given (same.counts column value)
kept_alike (by.Max column) xs ys Nothing same h = absurd h
kept_alike (by.Max column) xs ys (Sum sum) same h = absurd h
kept_alike (by.Max column) xs ys (Values values) same h = λ value. h value ∙ ap given (same.counts column value)

no_rows : (xs ys : List Row) → length xs ≡ length ys → xs ≡ [] → ys ≡ []
no_rows xs [] e none = refl
no_rows xs (y ∷ ys) e none = let zero_long = ap (length {A = Row}) none in absurd (omega (arith, e, zero_long))

pub tallied_alike : (agg : Agg) (xs ys : List Row) (tally : Option Tally) → AreAlike xs ys → IsTalliedAt agg xs tally → IsTalliedAt agg ys tally
tallied_alike agg xs ys None same h = no_rows xs ys same.lengths h
tallied_alike agg xs ys (Some tally) same h = (
  record { count = h.0.count ∙ same.lengths; kept = kept_alike agg xs ys tally.kept same h.0.kept },
  subst (λ (n : ℕ). 0 < n) same.lengths h.1,
)

module _ (row : Row) (run : List Row) (sorted : IsRowSet run) (lacks : ¬ Has row run) where
  inserted : set_of (row ∷ run) ≡ insert_key record_cmp run row
  inserted = ap (λ (l : List Row). insert_key record_cmp l row) (set_of-sorted run sorted)

  pub in_order : AreAlike (row ∷ run) (set_of (row ∷ run))
  in_order = record {
    lengths = sym (length_more row run sorted lacks);
    sums = λ column. sym (ap (λ (l : List Row). exact_sum (column_values column l)) inserted ∙ sum_insert column row run lacks);
    counts = λ column value. sym (ap (λ (l : List Row). times value_cmp (column_values column l) value) inserted ∙ count_insert (λ (r : Row). cell r column) (λ (other : Value). eq_by_cmp value_cmp other value) row run lacks);
    within = λ q h. Has-from_set_of q (row ∷ run) h;
  }

  pub out_of_order : AreAlike (set_of (row ∷ run)) (row ∷ run)
  out_of_order = record {
    lengths = sym in_order.lengths;
    sums = λ column. sym (in_order.sums column);
    counts = λ column value. sym (in_order.counts column value);
    within = λ q h. Has-set_of q (row ∷ run) h;
  }

-- ---- one row more and one row less

module _ {S : Type 0} (columns : List ℕ) (agg : Agg) (row : Row) (rows : List Row) (sorted : IsRowSet rows) (few : length rows < row_limit) (lacks : ¬ Has row rows) (key : Row) (same : key ≡ cells columns row) (old new : IndexMap Row Tally S) where
  run_sorted : IsRowSet (with_key columns key rows)
  run_sorted = sorted_filter (λ (r : Row). eq_by_cmp record_cmp (cells columns r) key) rows sorted

  run_few : length (with_key columns key rows) < row_limit
  run_few = omega (arith, few, length-filter-le (λ (r : Row). eq_by_cmp record_cmp (cells columns r) key) rows)

  run_lacks : ¬ Has row (with_key columns key rows)
  run_lacks h = lacks (Has-from_filter (λ (r : Row). eq_by_cmp record_cmp (cells columns r) key) row rows h).0

  -- the rows of the key with the row
  whole : set_of (row ∷ with_key columns key rows) ≡ with_key columns key (set_of (row ∷ rows))
  whole =
      ap (λ (k : Row). set_of (row ∷ with_key columns k rows)) same ∙ with_own_key columns row rows sorted
      ∙ ap (λ (k : Row). with_key columns k (set_of (row ∷ rows))) (sym same)

  different : (q : Row) → eq_by_cmp record_cmp key q ≡ false → ¬ (q ≡ key)
  different q e p = let tied : eq_by_cmp record_cmp key q ≡ true = subst (λ (z : Row). eq_by_cmp record_cmp key z ≡ true) (sym p) (own_key key) in cc

  pub tallied_more : GoesOn agg key row old new → AreTallied columns agg rows old → AreTallied columns agg (set_of (row ∷ rows)) new
  tallied_more goes are q = elim (cases_Bool (eq_by_cmp record_cmp key q)) [
    | inl e ↦
        let made = goes.at_key (with_key columns key rows) run_few (are key) in
        let ordered = tallied_alike agg (row ∷ with_key columns key rows) (set_of (row ∷ with_key columns key rows)) (tally_at new key) (in_order row (with_key columns key rows) run_sorted run_lacks) made in
        subst (λ (k : Row). IsTalliedAt agg (with_key columns k (set_of (row ∷ rows))) (tally_at new k)) (same_row key q e) (subst (λ (l : List Row). IsTalliedAt agg l (tally_at new key)) whole ordered)
    | inr e ↦
        subst (λ (o : Option Tally). IsTalliedAt agg (with_key columns q (set_of (row ∷ rows))) o) (sym (goes.others q (different q e)))
        (subst (λ (l : List Row). IsTalliedAt agg l (tally_at old q)) (with_other_key columns row rows sorted q (λ p. different q e (p ∙ sym same))) (are q))
  ]

  pub tallied_less : GoesBack agg key row old new → AreTallied columns agg (set_of (row ∷ rows)) old → AreTallied columns agg rows new
  tallied_less goes are q = elim (cases_Bool (eq_by_cmp record_cmp key q)) [
    | inl e ↦
        let ordered = subst (λ (l : List Row). IsTalliedAt agg l (tally_at old key)) (sym whole) (are key) in
        let plain = tallied_alike agg (set_of (row ∷ with_key columns key rows)) (row ∷ with_key columns key rows) (tally_at old key) (out_of_order row (with_key columns key rows) run_sorted run_lacks) ordered in
        subst (λ (k : Row). IsTalliedAt agg (with_key columns k rows) (tally_at new k)) (same_row key q e) (goes.at_key (with_key columns key rows) run_few plain)
    | inr e ↦
        subst (λ (o : Option Tally). IsTalliedAt agg (with_key columns q rows) o) (sym (goes.others q (different q e)))
        (subst (λ (l : List Row). IsTalliedAt agg l (tally_at old q)) (sym (with_other_key columns row rows sorted q (λ p. different q e (p ∙ sym same)))) (are q))
  ]

-- ---- what functions of one row give

-- what follows where all goes well
pub ok_on : {T E A B : Type 0} (r : Result T E) → OnOk r A → (A → B) → OnOk r B
ok_on (Ok x) a f = f a
ok_on (Err e) a f = tt

pub both_ok : {E A : Type 0} (r : Result Bool E) (B C : Bool → Type 0) → OnOk r A → IfOk r B → ((last : Bool) → A → B last → C last) → IfOk r C
both_ok (Ok last) B C a b f = f last a b
both_ok (Err e) B C a b f = tt

emptied : (run : List Row) → length run ≡ 0 → run ≡ []
emptied [] e = refl
emptied (r ∷ run) e = absurd (omega (arith, e))

pub some_value : (agg : Agg) (run : List Row) (value : Value) → value ≡ aggregate agg run → 0 < length run → Some value ≡ value_of agg run
some_value agg [] value is some = absurd (omega arith)
some_value agg (row ∷ run) value is some = ap (λ (v : Value). Some v) is

module _ {S : Type 0} (agg : Agg) (key row : Row) (old new : IndexMap Row Tally S) where
  -- what an update leaves at the key and at others
  at_own : (w : Option Tally) → ((q : Row) → tally_at new q ≡ cond (eq_by_cmp record_cmp key q) w (tally_at old q)) → tally_at new key ≡ w
  at_own w updates = updates key ∙ ap (λ (b : Bool). cond b w (tally_at old key)) (own_key key)

  at_others : (w : Option Tally) → ((q : Row) → tally_at new q ≡ cond (eq_by_cmp record_cmp key q) w (tally_at old q)) → KeepsOthers key old new
  at_others w updates other different = updates other ∙ ap (λ (b : Bool). cond b w (tally_at old other)) (apart key other different)

  -- a tally that goes on
  pub on_at : (tally next : Tally) → Some tally ≡ tally_at old key → ((q : Row) → tally_at new q ≡ cond (eq_by_cmp record_cmp key q) (Some next) (tally_at old q))
      → ((rows : List Row) → length rows < row_limit → IsTally agg rows tally → IsTally agg (row ∷ rows) next) → GoesOn agg key row old new
  on_at tally next found updates step = record {
    at_key = λ run few at.
        let held : IsTally agg run tally × (0 < length run) = subst (λ (o : Option Tally). IsTalliedAt agg run o) (sym found) at in
        subst (λ (o : Option Tally). IsTalliedAt agg (row ∷ run) o) (sym (at_own (Some next) updates)) (step run few held.0, omega arith);
    others = at_others (Some next) updates;
  }

  -- the tally of a first row
  pub first_at : (one : Tally) → tally_at old key ≡ None → ((q : Row) → tally_at new q ≡ cond (eq_by_cmp record_cmp key q) (Some one) (tally_at old q)) → IsTally agg (row ∷ []) one → GoesOn agg key row old new
  first_at one none updates is = record {
    at_key = λ run few at.
        let empty : run ≡ [] = subst (λ (o : Option Tally). IsTalliedAt agg run o) none at in
        subst (λ (o : Option Tally). IsTalliedAt agg (row ∷ run) o) (sym (at_own (Some one) updates)) (subst (λ (l : List Row). IsTally agg (row ∷ l) one) (sym empty) is, omega arith);
    others = at_others (Some one) updates;
  }

  -- what a tally that goes on was and is
  pub steps_at : (tally next : Tally) (before after : Value) → Some tally ≡ tally_at old key → ((q : Row) → tally_at new q ≡ cond (eq_by_cmp record_cmp key q) (Some next) (tally_at old q))
      → ((rows : List Row) → IsTally agg rows tally → before ≡ aggregate agg rows) → ((rows : List Row) → IsTally agg rows next → after ≡ aggregate agg rows) → IsStep agg key old new (record { before = Some before; after = after })
  steps_at tally next before after found updates was is = record {
    was = λ run at.
        let held : IsTally agg run tally × (0 < length run) = subst (λ (o : Option Tally). IsTalliedAt agg run o) (sym found) at in
        some_value agg run before (was run held.0) held.1;
    is = λ run at.
        let held : IsTally agg run next × (0 < length run) = subst (λ (o : Option Tally). IsTalliedAt agg run o) (at_own (Some next) updates) at in
        is run held.0;
  }

  -- a tally that goes back
  pub left_at : (last : Bool) (tally next : Tally) → Some tally ≡ tally_at old key → ((q : Row) → tally_at new q ≡ cond (eq_by_cmp record_cmp key q) (Some next) (tally_at old q))
      → ((rows : List Row) → length rows < row_limit → IsTally agg (row ∷ rows) tally → IsTally agg rows next) → ((rows : List Row) → IsTally agg (row ∷ rows) tally → IsTrue last ↔ (length rows ≡ 0)) → LeavesAt last agg key row old new
  left_at last tally next found updates step ends = record {
    at_key = λ run few at.
        let held : IsTally agg (row ∷ run) tally × (0 < length (row ∷ run)) = subst (λ (o : Option Tally). IsTalliedAt agg (row ∷ run) o) (sym found) at in
        subst (λ (o : Option Tally). IsLeft last agg run o) (sym (at_own (Some next) updates)) (step run few held.0, ends run held.0);
    others = at_others (Some next) updates;
  }

-- a tally without rows that goes
pub off_at : {S : Type 0} (agg : Agg) (key row : Row) (old middle new : IndexMap Row Tally S) → LeavesAt true agg key row old middle → ((q : Row) → tally_at new q ≡ cond (eq_by_cmp record_cmp key q) None (tally_at middle q)) → GoesBack agg key row old new
off_at agg key row old middle new leaves updates = record {
  at_key = λ run few at. subst (λ (o : Option Tally). IsTalliedAt agg run o) (sym (at_own agg key row middle new None updates)) (nothing run (tally_at middle key) (leaves.at_key run few at));
  others = λ other different. at_others agg key row middle new None updates other different ∙ leaves.others other different;
}
  where
    nothing : (run : List Row) (o : Option Tally) → IsLeft true agg run o → run ≡ []
    nothing run None h = absurd h
    nothing run (Some tally) h = emptied run (h.1.0 refl)
