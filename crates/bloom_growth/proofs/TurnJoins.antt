-- What comes and what goes of a join of two parts that turn.
use Rattle.std.proofs.Common.{IsTrue, ◌≡◌, ◌<◌, ◌≤◌, ◌+◌, ℕ, List, [], ◌++◌, length, Result, Ok, Err, ap, ◌∙◌, sym, subst, inl, inr, arith}
use Rattle.std.specs.List.{All}
use Rattle.blz_value.specs.Members.{Has}
use Rattle.blz_value.specs.Operators.{Pairs, join_rows}
use Rattle.blz_value.specs.Record.{Row}
use Rattle.blz_value.specs.Sets.{set_of, IsRowSet}
use Rattle.blz_value.proofs.Membership.{Has-append_left, Has-append_right, Has-append_cases, All-of_member}
use Rattle.blz_value.proofs.OperatorsLemmas.{from_join, in_join, length-within}
use Rattle.blz_value.proofs.RowSets.{same_set_of}
use Rattle.blz_value.proofs.SetLaws.{sorted_set_of, Has-set_of, Has-from_set_of}
use Rattle.blz_set.specs.Growth.{Grows}
use Rattle.blz_set.specs.Missing.{missing_from}
use Rattle.blz_set.specs.RecordSet.{row_limit}
use Rattle.blz_set.specs.declared.fault.SetFault.{SetFault}
use Rattle.blz_set.specs.declared.fault.SetFault.TheVariants.{TooManyRows, NoMemory}
use Rattle.blz_set.proofs.Unions.{length_union}
use Rattle.bloom_growth.specs.Code.Joins.{turned_rows, MakesFresh, PartGrows, MakesLost, lost_rows}
use Rattle.bloom_growth.specs.Growth.{Extends}
use Rattle.bloom_growth.specs.Kept.{Kept, KeepsForm, IsKeptOf, IsGrownTo, IsTurnedTo, PartTurns}
use Rattle.bloom_growth.specs.ByKey.{AreByKey}
use Rattle.bloom_growth.specs.JoinTurns.{HaveWidth, JoinTurns}
use Rattle.bloom_growth.specs.Turned.{Turned, TurnsInto}
use Rattle.bloom_growth.proofs.Extending.{old_is_in, fresh_is_in, old_or_fresh, from_turned, in_turned}
use Rattle.bloom_growth.proofs.JoinedLemmas.{same_joined}
use Rattle.bloom_growth.proofs.TurnedLemmas.{from_missing, is_missing, stays}

-- one growth after another read backwards, from what stays
pub record Between (old new more gone mid : List Row) : Type 0 where
  pub before : Extends mid old gone
  pub after : Extends mid new more
  pub apart : (row : Row) → Has row more → Has row gone → ⊥

pub between : (old new more gone : List Row) → Turned old new more gone → Between old new more gone (missing_from gone old)
between old new more gone t = let s = stays old new more gone t in record { before = s.0; after = s.1; apart = s.2 }

-- the same, seen from the other end
pub back : (old new more gone mid : List Row) → Between old new more gone mid → Between new old gone more mid
back old new more gone mid b = record { before = b.after; after = b.before; apart = λ row g m. b.apart row m g }

-- a row that comes wasn't there
pub not_before : (old new more gone mid : List Row) → Between old new more gone mid → (q : Row) → Has q more → Has q old → ⊥
not_before old new more gone mid b q m held = elim (old_or_fresh mid old gone b.before q held) [ inl k ↦ b.after.apart q m k | inr g ↦ b.apart q m g ]

width_at : (width : ℕ) (rows : List Row) (q : Row) → All (λ row. length row ≡ width) rows → Has q rows → length q ≡ width
width_at width rows q wide h = All-of_member (λ (row : Row). length row ≡ width) rows q wide h

-- the rows that come, as they are made
abbrev pub gained_rows : Pairs → (lm ln rk rm : List Row) → List Row
gained_rows pairs lm ln rk rm = set_of (set_of (join_rows pairs lm rk) ++ turned_rows pairs ln rm)

module _ (pairs : Pairs) (lo ln lm lg lk ro rn rm rg rk : List Row) (l : Between lo ln lm lg lk) (r : Between ro rn rm rg rk) (wide tall : ℕ) (lw : HaveWidth wide lo ln) (rw' : HaveWidth tall ro rn) where
  made_new : (q : Row) → Has q (set_of (join_rows pairs lm rk) ++ turned_rows pairs ln rm) → Has q (set_of (join_rows pairs ln rn)) × ¬ Has q (set_of (join_rows pairs lo ro))
  made_new q h = elim (Has-append_cases q (set_of (join_rows pairs lm rk)) (turned_rows pairs ln rm) h) [
    | inl a ↦
        let j = from_join pairs lm rk q a in
        let left : Has j.left ln = fresh_is_in lk ln lm l.after j.left j.left_stands in
        let right : Has j.right rn = old_is_in rk rn rm r.after j.right j.right_stands in (
          in_join pairs ln rn q (record { left = j.left; left_stands = left; right = j.right; right_stands = right; agrees = j.agrees; is = j.is }),
          λ held.
              let o = from_join pairs lo ro q held in
              let same = same_joined pairs j.left j.right o.left o.right j.agrees o.agrees (width_at wide ln j.left lw.1 left ∙ sym (width_at wide lo o.left lw.0 o.left_stands)) (width_at tall rn j.right rw'.1 right ∙ sym (width_at tall ro o.right rw'.0 o.right_stands)) (j.is ∙ sym o.is) in
              not_before lo ln lm lg lk l j.left j.left_stands (subst (λ (z : Row). Has z lo) (sym same.0) o.left_stands),
        )
    | inr b ↦
        let j = from_turned pairs ln rm q b in
        let right : Has j.right rn = fresh_is_in rk rn rm r.after j.right j.right_stands in (
          in_join pairs ln rn q (record { left = j.left; left_stands = j.left_stands; right = j.right; right_stands = right; agrees = j.agrees; is = j.is }),
          λ held.
              let o = from_join pairs lo ro q held in
              let same = same_joined pairs j.left j.right o.left o.right j.agrees o.agrees (width_at wide ln j.left lw.1 j.left_stands ∙ sym (width_at wide lo o.left lw.0 o.left_stands)) (width_at tall rn j.right rw'.1 right ∙ sym (width_at tall ro o.right rw'.0 o.right_stands)) (j.is ∙ sym o.is) in
              not_before ro rn rm rg rk r j.right j.right_stands (subst (λ (z : Row). Has z ro) (sym same.1) o.right_stands),
        )
  ]

  made_all : (q : Row) → Has q (set_of (join_rows pairs ln rn)) → ¬ Has q (set_of (join_rows pairs lo ro)) → Has q (set_of (join_rows pairs lm rk) ++ turned_rows pairs ln rm)
  made_all q h lacks =
      let first = set_of (join_rows pairs lm rk) in
      let rest = turned_rows pairs ln rm in
      let j = from_join pairs ln rn q h in
      elim (old_or_fresh rk rn rm r.after j.right j.right_stands) [
        | inr m ↦ Has-append_right q first rest (in_turned pairs ln rm q (record { left = j.left; left_stands = j.left_stands; right = j.right; right_stands = m; agrees = j.agrees; is = j.is }))
        | inl k ↦ elim (old_or_fresh lk ln lm l.after j.left j.left_stands) [
          | inr m ↦ Has-append_left q first rest (in_join pairs lm rk q (record { left = j.left; left_stands = m; right = j.right; right_stands = k; agrees = j.agrees; is = j.is }))
          | inl stayed ↦ absurd (lacks (in_join pairs lo ro q (record { left = j.left; left_stands = old_is_in lk lo lg l.before j.left stayed; right = j.right; right_stands = old_is_in rk ro rg r.before j.right k; agrees = j.agrees; is = j.is })))
        ]
      ]

  -- what is made is what comes
  pub gained_is : gained_rows pairs lm ln rk rm ≡ missing_from (set_of (join_rows pairs lo ro)) (set_of (join_rows pairs ln rn))
  gained_is =
      let made = set_of (join_rows pairs lm rk) ++ turned_rows pairs ln rm in
      is_missing (set_of (join_rows pairs lo ro)) (set_of (join_rows pairs ln rn)) (set_of made) (sorted_set_of (join_rows pairs ln rn)) (sorted_set_of made) (λ q h. made_new q (Has-from_set_of q made h)) (λ q h lacks. Has-set_of q made (made_all q h lacks))

-- either order of what goes
lost_swapped : (pairs : Pairs) (lo lg rg rk : List Row) → set_of (set_of (turned_rows pairs lo rg) ++ join_rows pairs lg rk) ≡ gained_rows pairs lg lo rk rg
lost_swapped pairs lo lg rg rk =
    let a = turned_rows pairs lo rg in
    let b = join_rows pairs lg rk in
    same_set_of (set_of a ++ b) (set_of b ++ a) (
      λ q h. elim (Has-append_cases q (set_of a) b h) [ inl x ↦ Has-append_right q (set_of b) a (Has-from_set_of q a x) | inr y ↦ Has-append_left q (set_of b) a (Has-set_of q b y) ],
      λ q h. elim (Has-append_cases q (set_of b) a h) [ inl y ↦ Has-append_right q (set_of a) b (Has-from_set_of q b y) | inr x ↦ Has-append_left q (set_of a) b (Has-set_of q a x) ],
    )

-- as many rows as there were and those that are new
length_extends : (old new fresh : List Row) → Extends old new fresh → length new ≡ length old + length fresh
length_extends old new fresh e =
    let fresh_is : fresh ≡ missing_from old fresh = is_missing old fresh fresh e.fresh_sorted e.fresh_sorted (λ q h. (h, e.apart q h)) (λ q h lacks. h) in
    ap (length {A = Row}) e.all ∙ length_union old fresh e.sorted e.fresh_sorted ∙ ap (λ (l : List Row). length old + length l) (sym fresh_is)

-- a turn's rows, counted
pub length_turned : (old new more gone : List Row) → Turned old new more gone → length new + length gone ≡ length old + length more
length_turned old new more gone t =
    let s = stays old new more gone t in
    omega (arith, length_extends (missing_from gone old) old gone s.0, length_extends (missing_from gone old) new more s.1)

-- ---- the code

-- what is kept, after rows went
pub part_shrunk : (columns : List ℕ) (old new more gone : List Row) (before after : Kept) → PartTurns columns old new more gone before → KeepsForm before after
    → ((rows : List Row) → IsRowSet rows → (IsTrue before.grows → gone ≡ []) → AreByKey before.columns rows before.sets → AreByKey before.columns (missing_from gone rows) after.sets) → IsKeptOf columns (missing_from gone old) after
part_shrunk columns old new more gone before after t form shrink = record {
  columns_are = form.columns ∙ t.kept_is.columns_are;
  by_key = subst (λ (cs : List ℕ). AreByKey cs (missing_from gone old) after.sets) t.kept_is.columns_are (shrink old t.turned.old_sorted t.none_gone (subst (λ (cs : List ℕ). AreByKey cs old before.sets) (sym t.kept_is.columns_are) t.kept_is.by_key));
}

-- and after rows came
pub part_grown : (columns : List ℕ) (old new more : List Row) (before after : Kept) → PartGrows columns old new more before → KeepsForm before after
    → ((old new : List Row) → Extends old new more → length new ≤ row_limit → AreByKey before.columns old before.sets → AreByKey before.columns new after.sets) → IsKeptOf columns new after
part_grown columns old new more before after t form grow = record {
  columns_are = form.columns ∙ t.kept_is.columns_are;
  by_key = subst (λ (cs : List ℕ). AreByKey cs new after.sets) t.kept_is.columns_are (grow old new t.extends t.few (subst (λ (cs : List ℕ). AreByKey cs old before.sets) (sym t.kept_is.columns_are) t.kept_is.by_key));
}

-- what stays of a part grows to its new rows
pub grows_on : (columns : List ℕ) (old new more gone : List Row) (before middle : Kept) → PartTurns columns old new more gone before → IsKeptOf columns (missing_from gone old) middle → PartGrows columns (missing_from gone old) new more middle
grows_on columns old new more gone before middle t kept = record { extends = (stays old new more gone t.turned).1; few = t.few; kept_is = kept }

module _ (pairs : Pairs) (lo lg ro rg : List Row) (left_within : (q : Row) → Has q lg → Has q lo) (right_within : (q : Row) → Has q rg → Has q ro) where
  -- what goes was there
  lost_first_within : (q : Row) → Has q (turned_rows pairs lo rg) → Has q (set_of (join_rows pairs lo ro))
  lost_first_within q h =
      let j = from_turned pairs lo rg q h in
      in_join pairs lo ro q (record { left = j.left; left_stands = j.left_stands; right = j.right; right_stands = right_within j.right j.right_stands; agrees = j.agrees; is = j.is })

  lost_within : (q : Row) → Has q (set_of (turned_rows pairs lo rg) ++ join_rows pairs lg (missing_from rg ro)) → Has q (set_of (join_rows pairs lo ro))
  lost_within q h =
      let rk = missing_from rg ro in
      elim (Has-append_cases q (set_of (turned_rows pairs lo rg)) (join_rows pairs lg rk) h) [
        | inl a ↦ lost_first_within q (Has-from_set_of q (turned_rows pairs lo rg) a)
        | inr b ↦
            let j = from_join pairs lg rk q (Has-set_of q (join_rows pairs lg rk) b) in
            in_join pairs lo ro q (record { left = j.left; left_stands = left_within j.left j.left_stands; right = j.right; right_stands = (from_missing rg ro j.right j.right_stands).0; agrees = j.agrees; is = j.is })
      ]

  pub lost_first_fault : (new : List Row) (fault : SetFault) → Grows {X = Unit {0}} [] (turned_rows pairs lo rg) new (Err fault) → MakesLost pairs lo lg ro rg (Err fault)
  lost_first_fault new TooManyRows over =
      omega (arith, over, length-within (set_of (turned_rows pairs lo rg)) (set_of (join_rows pairs lo ro)) (sorted_set_of (turned_rows pairs lo rg)) (λ q h. lost_first_within q (Has-from_set_of q (turned_rows pairs lo rg) h)))
  lost_first_fault new NoMemory h = tt

  pub lost_second_fault : (set new : List Row) (fault : SetFault) → set ≡ set_of (turned_rows pairs lo rg) → Grows {X = Unit {0}} set (join_rows pairs lg (missing_from rg ro)) new (Err fault) → MakesLost pairs lo lg ro rg (Err fault)
  lost_second_fault set new TooManyRows is h =
      let rows = set_of (turned_rows pairs lo rg) ++ join_rows pairs lg (missing_from rg ro) in
      let over : row_limit < length (set_of rows) = subst (λ (l : List Row). row_limit < length (set_of (l ++ join_rows pairs lg (missing_from rg ro)))) is h in
      omega (arith, over, length-within (set_of rows) (set_of (join_rows pairs lo ro)) (sorted_set_of rows) (λ q h. lost_within q (Has-from_set_of q rows h)))
  lost_second_fault set new NoMemory is h = tt

module _ (pairs : Pairs) (lo ln lm lg ro rn rm rg : List Row) (left right : Kept) (count : ℕ) (t : JoinTurns pairs lo ln lm lg ro rn rm rg left right count) where
  -- the joined rows turned
  pub joined_turned : (more gone : List Row) → more ≡ gained_rows pairs lm ln (missing_from rg ro) rm → gone ≡ lost_rows pairs lo lg ro rg → Turned (set_of (join_rows pairs lo ro)) (set_of (join_rows pairs ln rn)) more gone
  joined_turned more gone more_is gone_is =
      let l = between lo ln lm lg t.left_turns.turned in
      let r = between ro rn rm rg t.right_turns.turned in
      let kept = missing_from lg lo in
      let others = missing_from rg ro in
      record {
        old_sorted = sorted_set_of (join_rows pairs lo ro);
        new_sorted = sorted_set_of (join_rows pairs ln rn);
        more_is = more_is ∙ gained_is pairs lo ln lm lg kept ro rn rm rg others l r t.left_width t.right_width t.left_wide t.right_wide;
        gone_is = gone_is ∙ lost_swapped pairs lo lg rg others
            ∙ gained_is pairs ln lo lg lm kept rn ro rg rm others (back lo ln lm lg kept l) (back ro rn rm rg others r) t.left_width t.right_width (t.left_wide.1, t.left_wide.0) (t.right_wide.1, t.right_wide.0);
      }

-- a turn's rows, counted
pub counted_turn : (old new more gone : List Row) → Turned old new more gone → (length new + length gone ≡ length old + length more) × (length gone ≤ length old)
counted_turn old new more gone t =
    let before = length_extends (missing_from gone old) old gone (stays old new more gone t).0 in
    (length_turned old new more gone t, omega (arith, before))

module _ (pairs : Pairs) (lo ln lm lg ro rn rm rg : List Row) (left right : Kept) (count : ℕ) (t : JoinTurns pairs lo ln lm lg ro rn rm rg left right count) where
  -- there never were too many
  pub lost_fault : (fault : SetFault) → MakesLost pairs lo lg ro rg (Err fault) → TurnsInto (set_of (join_rows pairs lo ro)) (set_of (join_rows pairs ln rn)) (Err fault)
  lost_fault TooManyRows over = absurd (omega (arith, over, t.few))
  lost_fault NoMemory h = tt

  pub gained_fault : (fault : SetFault) → MakesFresh pairs lm ln (missing_from rg ro) rm rn (Err fault) → TurnsInto (set_of (join_rows pairs lo ro)) (set_of (join_rows pairs ln rn)) (Err fault)
  gained_fault TooManyRows over = over
  gained_fault NoMemory h = tt

-- rows went, and others came
pub part_turned : (columns : List ℕ) (old new more gone : List Row) (before middle after : Kept) (r : Result (Unit {0}) SetFault) → PartTurns columns old new more gone before → IsKeptOf columns (missing_from gone old) middle → KeepsForm middle after
    → ((old new : List Row) → Extends old new more → length new ≤ row_limit → AreByKey middle.columns old middle.sets → IsGrownTo middle.columns new after.sets r) → IsTurnedTo columns new after r
part_turned columns old new more gone before middle after (Ok x) t kept form grow = part_grown columns (missing_from gone old) new more middle after (grows_on columns old new more gone before middle t kept) form grow
part_turned columns old new more gone before middle after (Err TooManyRows) t kept form grow =
    let mid = missing_from gone old in
    grow mid new (stays old new more gone t.turned).1 t.few (subst (λ (cs : List ℕ). AreByKey cs mid middle.sets) (sym kept.columns_are) kept.by_key)
part_turned columns old new more gone before middle after (Err NoMemory) t kept form grow = tt
