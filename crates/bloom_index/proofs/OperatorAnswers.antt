-- What an operator answers of its parts is what is evaluated of the whole.
use Rattle.std.proofs.Common.{◌≡◌, ◌∙◌, ◌≤◌, ℕ, Bool, true, IsTrue, List, ◌++◌, length, Result, Ok, Err, OnOk, Global, refl, ap, sym, subst, inl, inr}
use Rattle.std.specs.Prelude.{◌&&◌, ◌||◌, slice_get}
use Rattle.std.specs.List.{All}
use Rattle.std.specs.declared.boxed.Box.{Box}
use Rattle.std.specs.Result.{IsErrAnd}
use Rattle.std.proofs.lemmas.Result.{on_ok_weaker}
use Rattle.std.proofs.Math.Bool.{and-true}
use Rattle.blz_value.specs.declared.aggregate.Agg.{Agg}
use Rattle.blz_value.specs.declared.aggregate.Agg.TheVariants.{Count}
use Rattle.blz_value.specs.declared.test.Test.{Test}
use Rattle.blz_value.specs.Groups.{group_rows, at_least_rows}
use Rattle.blz_value.specs.Operators.{Pairs, select_rows, project_rows, join_rows, notin_rows}
use Rattle.blz_value.specs.Record.{Row}
use Rattle.blz_value.specs.Sets.{set_of}
use Rattle.blz_value.specs.Test.{test_holds, TestFits}
use Rattle.blz_value.proofs.Membership.{Has-append_left, Has-append_right}
use Rattle.blz_set.specs.RecordSet.{row_limit}
use Rattle.blz_set.specs.declared.fault.SetFault.{SetFault}
use Rattle.bloom_forms.specs.declared.numbered.NumberedExpr.{NumberedExpr}
use Rattle.bloom_forms.specs.declared.numbered.NumberedExpr as expr
use Rattle.bloom_forms.specs.Step.{set_at}
use Rattle.bloom_eval.specs.NumberedRows.{numbered_rows, numbered_sets}
use Rattle.bloom_growth.specs.declared.bag.Bag.{Bag}
use Rattle.bloom_growth.specs.declared.turn_joins.KeptJoin.{KeptJoin}
use Rattle.bloom_growth.specs.declared.turn_notins.KeptNotIn.{KeptNotIn}
use Rattle.bloom_growth.specs.declared.turning_groups.TurningGroups.{TurningGroups}
use Rattle.bloom_growth.specs.Bags.{IsBag}
use Rattle.bloom_growth.specs.TurningGroups.{TalliesStand}
use Rattle.bloom_growth.specs.Whole.{counted_rows}
use Rattle.bloom_growth.proofs.BagRows.{on_ok}
use Rattle.bloom_parts.specs.declared.change.Change.{Change}
use Rattle.bloom_parts.specs.declared.part_rows.PartRows.{PartRows}
use Rattle.bloom_parts.specs.KeptParts.{JoinStands, NotInStands, IsWide, JoinChanges, NotInChanges}
use Rattle.bloom_parts.specs.Turns.{rows_in, HasTurnedAt, Turns, TurnsTo}
use Rattle.bloom_index.specs.declared.plan.Plan.{Plan}
use Rattle.bloom_index.specs.declared.plan.Plan as plan
use Rattle.bloom_index.specs.Code.Evaluation.{Stands, IsReady, Evaluates}
use Rattle.bloom_index.specs.Code.Growth.{grows}
use Rattle.bloom_index.specs.Code.Lasting.{lasts_at, lasts}
use Rattle.bloom_index.specs.Code.Plans.{expr_of}
use Rattle.bloom_index.proofs.Evaluating.{part_of, IsAnswered, refused, answered, both_fit, all_turned, all_lost, part_changes}

-- ---- no part

pub base_answered : (held : List Change) (number : ℕ) (change : Change) → ((last : Bool) (old new : List Row) → HasTurnedAt last old new (slice_get held number) → (change.kept ≡ last) × Turns old new change)
    → (ready : IsReady (expr_of (plan.Base number)) (plan.Base number) held) → Evaluates (expr_of (plan.Base number)) (plan.Base number) (plan.Base number) held ready (Ok change)
base_answered held number change turned ready =
    let at = turned (lasts_at ready.lasting number) (set_at ready.old number) (set_at ready.new number) (ready.turned number) in
    (at, record { same = refl; kept = tt }, λ rows h. elim h [ inl e ↦ subst (λ (l : List Row). length l ≤ row_limit) e at.1.few | inr none ↦ absurd none ])

-- ---- one part

module _ (held : List Change) (q : Box (Unit {0}) Global) (m : Plan) where
  abbrev select_part : (test : Test) → IsReady (expr_of (plan.Select' q m test)) (plan.Select' q m test) held → IsReady (expr_of m) m held
  select_part test ready = part_of (expr_of (plan.Select' q m test)) (plan.Select' q m test) m held ready ready.stands.kept ready.enough ready.fit_old.0 ready.fit.0 ready.wide

  abbrev project_part : (columns : List ℕ) (bag : Bag) → IsReady (expr_of (plan.Project' q m columns bag)) (plan.Project' q m columns bag) held → IsReady (expr_of m) m held
  project_part columns bag ready = part_of (expr_of (plan.Project' q m columns bag)) (plan.Project' q m columns bag) m held ready ready.stands.kept.0 ready.enough ready.fit_old ready.fit ready.wide.0

  abbrev group_part : (groups : TurningGroups) → IsReady (expr_of (plan.Group' q m groups)) (plan.Group' q m groups) held → IsReady (expr_of m) m held
  group_part groups ready = part_of (expr_of (plan.Group' q m groups)) (plan.Group' q m groups) m held ready ready.stands.kept.0 ready.enough.0 ready.fit_old ready.fit ready.wide

  abbrev at_least_part : (bound : ℕ) (groups : TurningGroups) → IsReady (expr_of (plan.AtLeast' q m bound groups)) (plan.AtLeast' q m bound groups) held → IsReady (expr_of m) m held
  at_least_part bound groups ready = part_of (expr_of (plan.AtLeast' q m bound groups)) (plan.AtLeast' q m bound groups) m held ready ready.stands.kept.0 ready.enough.0 ready.fit_old ready.fit ready.wide

  -- a fault of the part
  module _ (after1 after : Plan) (fault : SetFault) (of : IsAnswered m after1 held (Err fault)) (r : Result Change SetFault) (is : IsErrAnd r (λ d. d ≡ fault)) where
    pub select_refused : (test : Test) (ready : IsReady (expr_of (plan.Select' q m test)) (plan.Select' q m test) held) → Evaluates (expr_of (plan.Select' q m test)) (plan.Select' q m test) after held ready r
    select_refused test ready = refused (expr_of (plan.Select' q m test)) (expr_of m) (plan.Select' q m test) m after after1 held r fault ready (select_part test ready) refl (λ sets rows h. inr h) is (of (expr_of m) (select_part test ready))

    pub project_refused : (columns : List ℕ) (bag : Bag) (ready : IsReady (expr_of (plan.Project' q m columns bag)) (plan.Project' q m columns bag) held) → Evaluates (expr_of (plan.Project' q m columns bag)) (plan.Project' q m columns bag) after held ready r
    project_refused columns bag ready = refused (expr_of (plan.Project' q m columns bag)) (expr_of m) (plan.Project' q m columns bag) m after after1 held r fault ready (project_part columns bag ready) refl (λ sets rows h. inr h) is (of (expr_of m) (project_part columns bag ready))

    pub group_refused : (groups : TurningGroups) (ready : IsReady (expr_of (plan.Group' q m groups)) (plan.Group' q m groups) held) → Evaluates (expr_of (plan.Group' q m groups)) (plan.Group' q m groups) after held ready r
    group_refused groups ready = refused (expr_of (plan.Group' q m groups)) (expr_of m) (plan.Group' q m groups) m after after1 held r fault ready (group_part groups ready) refl (λ sets rows h. inr h) is (of (expr_of m) (group_part groups ready))

    pub at_least_refused : (bound : ℕ) (groups : TurningGroups) (ready : IsReady (expr_of (plan.AtLeast' q m bound groups)) (plan.AtLeast' q m bound groups) held) → Evaluates (expr_of (plan.AtLeast' q m bound groups)) (plan.AtLeast' q m bound groups) after held ready r
    at_least_refused bound groups ready = refused (expr_of (plan.AtLeast' q m bound groups)) (expr_of m) (plan.AtLeast' q m bound groups) m after after1 held r fault ready (at_least_part bound groups ready) refl (λ sets rows h. inr h) is (of (expr_of m) (at_least_part bound groups ready))

  module _ (after : Plan) (part : Change) (answered_part : IsAnswered m after held (Ok part)) where
    -- what a select, a group and an atleast ask of the change of their part
    pub select_rows_fit : (test : Test) → IsReady (expr_of (plan.Select' q m test)) (plan.Select' q m test) held → All (λ row. TestFits test (length row)) (rows_in part.rows)
    select_rows_fit test ready =
        let of = answered_part (expr_of m) (select_part test ready) in
        all_turned (λ (row : Row). TestFits test (length row)) (numbered_rows ready.old (expr_of m)) (numbered_rows ready.new (expr_of m)) part of.0.1 ready.fit.1

    pub select_gone_fit : (test : Test) → IsReady (expr_of (plan.Select' q m test)) (plan.Select' q m test) held → IsTrue part.kept → All (λ row. TestFits test (length row)) (rows_in part.gone)
    select_gone_fit test ready is =
        let of = answered_part (expr_of m) (select_part test ready) in
        all_lost (λ (row : Row). TestFits test (length row)) (numbered_rows ready.old (expr_of m)) (numbered_rows ready.new (expr_of m)) part of.0.1 is ready.fit_old.1

    pub group_kept : (groups : TurningGroups) → IsReady (expr_of (plan.Group' q m groups)) (plan.Group' q m groups) held → IsTrue part.kept
    group_kept groups ready =
        let of = answered_part (expr_of m) (group_part groups ready) in
        of.0.0 ∙ ready.enough.1

    pub at_least_kept : (bound : ℕ) (groups : TurningGroups) → IsReady (expr_of (plan.AtLeast' q m bound groups)) (plan.AtLeast' q m bound groups) held → IsTrue part.kept
    at_least_kept bound groups ready =
        let of = answered_part (expr_of m) (at_least_part bound groups ready) in
        of.0.0 ∙ ready.enough.1

    module _ (r : Result Change SetFault) where
      pub select_answered : (test : Test) → ((old new : List Row) → Turns old new part → TurnsTo part.kept (set_of (select_rows (test_holds test) old)) (set_of (select_rows (test_holds test) new)) r)
          → (ready : IsReady (expr_of (plan.Select' q m test)) (plan.Select' q m test) held) → Evaluates (expr_of (plan.Select' q m test)) (plan.Select' q m test) (plan.Select' q after test) held ready r
      select_answered test turned ready =
          let of = answered_part (expr_of m) (select_part test ready) in
          let stands : Stands ready.growing ready.lasting ready.new (expr_of (plan.Select' q m test)) (plan.Select' q after test) = record { same = ap (λ (x : NumberedExpr). expr.Select' q x test) of.1.same; kept = of.1.kept } in
          answered (expr_of (plan.Select' q m test)) (plan.Select' q m test) (plan.Select' q after test) held ready part.kept (numbered_sets ready.new (expr_of m)) r of.0.0 refl of.2 (turned (numbered_rows ready.old (expr_of m)) (numbered_rows ready.new (expr_of m)) of.0.1) (on_ok r stands)

      -- the columns are lent
      pub project_answered : (lent columns : List ℕ) (lent_is : lent ≡ columns) (bag new_bag : Bag)
          → ((old new : List Row) → Turns old new part → IsWide old new → (IsTrue part.kept → IsBag (counted_rows lent old) bag) → TurnsTo part.kept (set_of (project_rows lent old)) (set_of (project_rows lent new)) r)
          → OnOk r ((old new : List Row) → Turns old new part → IsWide old new → (IsTrue part.kept → IsBag (counted_rows lent old) bag) → IsTrue part.kept → IsBag (counted_rows lent new) new_bag)
          → (ready : IsReady (expr_of (plan.Project' q m columns bag)) (plan.Project' q m columns bag) held) → Evaluates (expr_of (plan.Project' q m columns bag)) (plan.Project' q m columns bag) (plan.Project' q after columns new_bag) held ready r
      project_answered lent columns lent_is bag new_bag turned kept ready =
          let of = answered_part (expr_of m) (project_part columns bag ready) in
          let old = numbered_rows ready.old (expr_of m) in
          let new = numbered_rows ready.new (expr_of m) in
          let flag : part.kept ≡ lasts ready.lasting (expr_of m) = of.0.0 in
          let before : IsTrue part.kept → IsBag (counted_rows columns old) bag = λ is. ready.stands.kept.1 (sym flag ∙ is) in
          let lent_before : IsTrue part.kept → IsBag (counted_rows lent old) bag = subst (λ (l : List ℕ). IsTrue part.kept → IsBag (counted_rows l old) bag) (sym lent_is) before in
          let stands : (IsTrue (lasts ready.lasting (expr_of m)) → IsBag (counted_rows lent new) new_bag) → Stands ready.growing ready.lasting ready.new (expr_of (plan.Project' q m columns bag)) (plan.Project' q after columns new_bag) = λ k. record {
            same = ap (λ (x : NumberedExpr). expr.Project' q x columns) of.1.same;
            kept = (of.1.kept, subst (λ (X : Type 0). X) (λ i. IsTrue (lasts ready.lasting (sym of.1.same i)) → IsBag (counted_rows (lent_is i) (numbered_rows ready.new (sym of.1.same i))) new_bag) k);
          } in
          answered (expr_of (plan.Project' q m columns bag)) (plan.Project' q m columns bag) (plan.Project' q after columns new_bag) held ready part.kept (numbered_sets ready.new (expr_of m)) r flag refl of.2
          (subst (λ (l : List ℕ). TurnsTo part.kept (set_of (project_rows l old)) (set_of (project_rows l new)) r) lent_is (turned old new of.0.1 ready.wide.1 lent_before))
          (on_ok_weaker r (λ k. stands (λ last. k old new of.0.1 ready.wide.1 lent_before (flag ∙ last))) kept)

      -- the part of a group and of an atleast is kept
      pub group_answered : (groups new_groups : TurningGroups)
          → ((ks : List ℕ) (a : Agg) (old new : List Row) → Turns old new part → TalliesStand ks a old groups → TurnsTo true (set_of (group_rows ks a old)) (set_of (group_rows ks a new)) r)
          → OnOk r ((ks : List ℕ) (a : Agg) (old new : List Row) → Turns old new part → TalliesStand ks a old groups → TalliesStand ks a new new_groups)
          → (ready : IsReady (expr_of (plan.Group' q m groups)) (plan.Group' q m groups) held) → Evaluates (expr_of (plan.Group' q m groups)) (plan.Group' q m groups) (plan.Group' q after new_groups) held ready r
      group_answered groups new_groups turned kept ready =
          let of = answered_part (expr_of m) (group_part groups ready) in
          let keys = groups.keys.items in
          let agg = groups.agg in
          let old = numbered_rows ready.old (expr_of m) in
          let new = numbered_rows ready.new (expr_of m) in
          let before : TalliesStand keys agg old groups = ready.stands.kept.1 ready.enough.1 in
          let stands : TalliesStand keys agg new new_groups → Stands ready.growing ready.lasting ready.new (expr_of (plan.Group' q m groups)) (plan.Group' q after new_groups) = λ k. record {
            same = λ i. expr.Group' q (of.1.same i) (k.keys_are i) (k.agg_is i);
            kept = (of.1.kept, subst (λ (X : Type 0). X) (λ i. IsTrue (lasts ready.lasting (sym of.1.same i)) → TalliesStand (sym k.keys_are i) (sym k.agg_is i) (numbered_rows ready.new (sym of.1.same i)) new_groups) (λ last. k));
          } in
          answered (expr_of (plan.Group' q m groups)) (plan.Group' q m groups) (plan.Group' q after new_groups) held ready true (numbered_sets ready.new (expr_of m)) r (sym ready.enough.1) refl of.2 (turned keys agg old new of.0.1 before)
          (on_ok_weaker r (λ k. stands (k keys agg old new of.0.1 before)) kept)

      pub at_least_answered : (bound : ℕ) (groups new_groups : TurningGroups)
          → ((ks : List ℕ) (old new : List Row) → Turns old new part → TalliesStand ks Count old groups → TurnsTo true (set_of (at_least_rows ks bound old)) (set_of (at_least_rows ks bound new)) r)
          → OnOk r ((ks : List ℕ) (old new : List Row) → Turns old new part → TalliesStand ks Count old groups → TalliesStand ks Count new new_groups)
          → (ready : IsReady (expr_of (plan.AtLeast' q m bound groups)) (plan.AtLeast' q m bound groups) held) → Evaluates (expr_of (plan.AtLeast' q m bound groups)) (plan.AtLeast' q m bound groups) (plan.AtLeast' q after bound new_groups) held ready r
      at_least_answered bound groups new_groups turned kept ready =
          let of = answered_part (expr_of m) (at_least_part bound groups ready) in
          let keys = groups.keys.items in
          let old = numbered_rows ready.old (expr_of m) in
          let new = numbered_rows ready.new (expr_of m) in
          let before : TalliesStand keys Count old groups = ready.stands.kept.1 ready.enough.1 in
          let stands : TalliesStand keys Count new new_groups → Stands ready.growing ready.lasting ready.new (expr_of (plan.AtLeast' q m bound groups)) (plan.AtLeast' q after bound new_groups) = λ k. record {
            same = λ i. expr.AtLeast' q (of.1.same i) (k.keys_are i) bound;
            kept = (of.1.kept, subst (λ (X : Type 0). X) (λ i. IsTrue (lasts ready.lasting (sym of.1.same i)) → TalliesStand (sym k.keys_are i) Count (numbered_rows ready.new (sym of.1.same i)) new_groups) (λ last. k));
          } in
          answered (expr_of (plan.AtLeast' q m bound groups)) (plan.AtLeast' q m bound groups) (plan.AtLeast' q after bound new_groups) held ready true (numbered_sets ready.new (expr_of m)) r (sym ready.enough.1) refl of.2 (turned keys old new of.0.1 before)
          (on_ok_weaker r (λ k. stands (k keys old new of.0.1 before)) kept)

-- ---- two parts

either_kept : (l0 l r0 r : Bool) → l0 ≡ l → r0 ≡ r → IsTrue (l || r) → IsTrue (l0 || r0)
either_kept l0 l r0 r le re h = subst IsTrue (sym (ap (λ (b : Bool). b || r0) le ∙ ap (λ (b : Bool). l || b) re)) h

module _ (held : List Change) (p : Box (Unit {0}) Global) (m : Plan) (q : Box (Unit {0}) Global) (n : Plan) (pairs : Pairs) where
  module _ (kept : KeptJoin PartRows PartRows) (ready : IsReady (expr_of (plan.Join' p m q n pairs kept)) (plan.Join' p m q n pairs kept) held) where
    abbrev join_left : IsReady (expr_of m) m held
    join_left = part_of (expr_of (plan.Join' p m q n pairs kept)) (plan.Join' p m q n pairs kept) m held ready ready.stands.kept.0 ready.enough.0 ready.fit_old.0 ready.fit.0 ready.wide.0

    abbrev join_right : IsReady (expr_of n) n held
    join_right = part_of (expr_of (plan.Join' p m q n pairs kept)) (plan.Join' p m q n pairs kept) n held ready ready.stands.kept.1 ready.enough.1 ready.fit_old.1 ready.fit.1 ready.wide.1

    module _ (m1 n1 : Plan) (left right : Change) (one : Evaluates (expr_of m) m m1 held join_left (Ok left)) (two : Evaluates (expr_of n) n n1 held join_right (Ok right)) where
      join_changes : JoinChanges pairs (grows ready.growing (expr_of m)) (grows ready.growing (expr_of n)) (numbered_rows ready.old (expr_of m)) (numbered_rows ready.new (expr_of m)) (numbered_rows ready.old (expr_of n)) (numbered_rows ready.new (expr_of n)) left right kept
      join_changes = record {
        left_changes = part_changes ready.growing ready.old ready.new ready.grown (expr_of m) left one.0.1;
        right_changes = part_changes ready.growing ready.old ready.new ready.grown (expr_of n) right two.0.1;
        left_wide = ready.wide.2;
        right_wide = ready.wide.3;
        stands = subst (λ (l : Bool). JoinStands pairs (grows ready.growing (expr_of m)) l (grows ready.growing (expr_of n)) right.kept (numbered_rows ready.old (expr_of m)) (numbered_rows ready.old (expr_of n)) kept) (sym one.0.0)
            (subst (λ (r : Bool). JoinStands pairs (grows ready.growing (expr_of m)) (lasts ready.lasting (expr_of m)) (grows ready.growing (expr_of n)) r (numbered_rows ready.old (expr_of m)) (numbered_rows ready.old (expr_of n)) kept) (sym two.0.0) ready.stands.kept.2);
      }

      -- what is kept after it, by the parts' own expressions, which are those of before
      join_stands : (after : KeptJoin PartRows PartRows) → JoinStands pairs (grows ready.growing (expr_of m)) left.kept (grows ready.growing (expr_of n)) right.kept (numbered_rows ready.new (expr_of m)) (numbered_rows ready.new (expr_of n)) after
          → Stands ready.growing ready.lasting ready.new (expr_of (plan.Join' p m q n pairs kept)) (plan.Join' p m1 q n1 pairs after)
      join_stands after s = record {
        same = λ i. expr.Join' p (one.1.same i) q (two.1.same i) pairs;
        kept = (
          one.1.kept,
          two.1.kept,
          subst (λ (X : Type 0). X) (λ i. JoinStands pairs (grows ready.growing (sym one.1.same i)) (lasts ready.lasting (sym one.1.same i)) (grows ready.growing (sym two.1.same i)) (lasts ready.lasting (sym two.1.same i)) (numbered_rows ready.new (sym one.1.same i)) (numbered_rows ready.new (sym two.1.same i)) after)
              (subst (λ (l : Bool). JoinStands pairs (grows ready.growing (expr_of m)) l (grows ready.growing (expr_of n)) (lasts ready.lasting (expr_of n)) (numbered_rows ready.new (expr_of m)) (numbered_rows ready.new (expr_of n)) after) one.0.0
              (subst (λ (r : Bool). JoinStands pairs (grows ready.growing (expr_of m)) left.kept (grows ready.growing (expr_of n)) r (numbered_rows ready.new (expr_of m)) (numbered_rows ready.new (expr_of n)) after) two.0.0 s)),
        );
      }

  -- a fault of a part of a join
  module _ (kept : KeptJoin PartRows PartRows) (after1 after : Plan) (fault : SetFault) (r : Result Change SetFault) (is : IsErrAnd r (λ d. d ≡ fault)) where
    pub join_left_refused : IsAnswered m after1 held (Err fault) → (ready : IsReady (expr_of (plan.Join' p m q n pairs kept)) (plan.Join' p m q n pairs kept) held) → Evaluates (expr_of (plan.Join' p m q n pairs kept)) (plan.Join' p m q n pairs kept) after held ready r
    join_left_refused of ready = refused (expr_of (plan.Join' p m q n pairs kept)) (expr_of m) (plan.Join' p m q n pairs kept) m after after1 held r fault ready (join_left kept ready) refl (λ sets rows h. inr (Has-append_left rows (numbered_sets sets (expr_of m)) (numbered_sets sets (expr_of n)) h)) is (of (expr_of m) (join_left kept ready))

    pub join_right_refused : IsAnswered n after1 held (Err fault) → (ready : IsReady (expr_of (plan.Join' p m q n pairs kept)) (plan.Join' p m q n pairs kept) held) → Evaluates (expr_of (plan.Join' p m q n pairs kept)) (plan.Join' p m q n pairs kept) after held ready r
    join_right_refused of ready = refused (expr_of (plan.Join' p m q n pairs kept)) (expr_of n) (plan.Join' p m q n pairs kept) n after after1 held r fault ready (join_right kept ready) refl (λ sets rows h. inr (Has-append_right rows (numbered_sets sets (expr_of m)) (numbered_sets sets (expr_of n)) h)) is (of (expr_of n) (join_right kept ready))

  module _ (kept : KeptJoin PartRows PartRows) (m1 n1 : Plan) (left right : Change) (first : IsAnswered m m1 held (Ok left)) (second : IsAnswered n n1 held (Ok right)) where
    pub one_kept : IsReady (expr_of (plan.Join' p m q n pairs kept)) (plan.Join' p m q n pairs kept) held → IsTrue (left.kept || right.kept)
    one_kept ready =
        let one = first (expr_of m) (join_left kept ready) in
        let two = second (expr_of n) (join_right kept ready) in
        either_kept left.kept (lasts ready.lasting (expr_of m)) right.kept (lasts ready.lasting (expr_of n)) one.0.0 two.0.0 ready.enough.2

    -- the pairs are lent
    pub join_answered : (lent : Pairs) (lent_is : lent ≡ pairs) (after : KeptJoin PartRows PartRows) (r : Result Change SetFault)
        → ((lg rg : Bool) (lo ln ro rn : List Row) → JoinChanges lent lg rg lo ln ro rn left right kept → TurnsTo (left.kept && right.kept) (set_of (join_rows lent lo ro)) (set_of (join_rows lent ln rn)) r)
        → OnOk r ((lg rg : Bool) (lo ln ro rn : List Row) → JoinChanges lent lg rg lo ln ro rn left right kept → JoinStands lent lg left.kept rg right.kept ln rn after)
        → (ready : IsReady (expr_of (plan.Join' p m q n pairs kept)) (plan.Join' p m q n pairs kept) held) → Evaluates (expr_of (plan.Join' p m q n pairs kept)) (plan.Join' p m q n pairs kept) (plan.Join' p m1 q n1 pairs after) held ready r
    join_answered lent lent_is after r turned kept_after ready =
        let one = first (expr_of m) (join_left kept ready) in
        let two = second (expr_of n) (join_right kept ready) in
        let changes : JoinChanges lent (grows ready.growing (expr_of m)) (grows ready.growing (expr_of n)) (numbered_rows ready.old (expr_of m)) (numbered_rows ready.new (expr_of m)) (numbered_rows ready.old (expr_of n)) (numbered_rows ready.new (expr_of n)) left right kept =
        subst (λ (l : Pairs). JoinChanges l (grows ready.growing (expr_of m)) (grows ready.growing (expr_of n)) (numbered_rows ready.old (expr_of m)) (numbered_rows ready.new (expr_of m)) (numbered_rows ready.old (expr_of n)) (numbered_rows ready.new (expr_of n)) left right kept) (sym lent_is) (join_changes kept ready m1 n1 left right one two) in
        answered (expr_of (plan.Join' p m q n pairs kept)) (plan.Join' p m q n pairs kept) (plan.Join' p m1 q n1 pairs after) held ready (left.kept && right.kept) (numbered_sets ready.new (expr_of m) ++ numbered_sets ready.new (expr_of n)) r
        (ap (λ (l : Bool). l && right.kept) one.0.0 ∙ ap (λ (l : Bool). lasts ready.lasting (expr_of m) && l) two.0.0) refl (both_fit (numbered_sets ready.new (expr_of m)) (numbered_sets ready.new (expr_of n)) one.2 two.2)
        (subst (λ (l : Pairs). TurnsTo (left.kept && right.kept) (set_of (join_rows l (numbered_rows ready.old (expr_of m)) (numbered_rows ready.old (expr_of n)))) (set_of (join_rows l (numbered_rows ready.new (expr_of m)) (numbered_rows ready.new (expr_of n)))) r) lent_is (turned _ _ _ _ _ _ changes))
        (on_ok_weaker r (λ k. join_stands kept ready m1 n1 left right one two after (subst (λ (l : Pairs). JoinStands l (grows ready.growing (expr_of m)) left.kept (grows ready.growing (expr_of n)) right.kept (numbered_rows ready.new (expr_of m)) (numbered_rows ready.new (expr_of n)) after) lent_is (k _ _ _ _ _ _ changes))) kept_after)

  module _ (kept : KeptNotIn PartRows) (ready : IsReady (expr_of (plan.NotIn' p m q n pairs kept)) (plan.NotIn' p m q n pairs kept) held) where
    abbrev notin_left : IsReady (expr_of m) m held
    notin_left = part_of (expr_of (plan.NotIn' p m q n pairs kept)) (plan.NotIn' p m q n pairs kept) m held ready ready.stands.kept.0 ready.enough.0 ready.fit_old.0 ready.fit.0 ready.wide.0

    abbrev notin_right : IsReady (expr_of n) n held
    notin_right = part_of (expr_of (plan.NotIn' p m q n pairs kept)) (plan.NotIn' p m q n pairs kept) n held ready ready.stands.kept.1 ready.enough.1 ready.fit_old.1 ready.fit.1 ready.wide.1

    module _ (m1 n1 : Plan) (left right : Change) (one : Evaluates (expr_of m) m m1 held notin_left (Ok left)) (two : Evaluates (expr_of n) n n1 held notin_right (Ok right)) where
      notin_changes : NotInChanges pairs (grows ready.growing (expr_of n)) (numbered_rows ready.old (expr_of m)) (numbered_rows ready.new (expr_of m)) (numbered_rows ready.old (expr_of n)) (numbered_rows ready.new (expr_of n)) left right kept
      notin_changes = record {
        left_turned = one.0.1;
        right_changes = part_changes ready.growing ready.old ready.new ready.grown (expr_of n) right two.0.1;
        stands = subst (λ (l : Bool). NotInStands pairs l (grows ready.growing (expr_of n)) right.kept (numbered_rows ready.old (expr_of m)) (numbered_rows ready.old (expr_of n)) kept) (sym one.0.0)
            (subst (λ (r : Bool). NotInStands pairs (lasts ready.lasting (expr_of m)) (grows ready.growing (expr_of n)) r (numbered_rows ready.old (expr_of m)) (numbered_rows ready.old (expr_of n)) kept) (sym two.0.0) ready.stands.kept.2);
      }

      notin_stands : (after : KeptNotIn PartRows) → NotInStands pairs left.kept (grows ready.growing (expr_of n)) right.kept (numbered_rows ready.new (expr_of m)) (numbered_rows ready.new (expr_of n)) after
          → Stands ready.growing ready.lasting ready.new (expr_of (plan.NotIn' p m q n pairs kept)) (plan.NotIn' p m1 q n1 pairs after)
      notin_stands after s = record {
        same = λ i. expr.NotIn' p (one.1.same i) q (two.1.same i) pairs;
        kept = (
          one.1.kept,
          two.1.kept,
          subst (λ (X : Type 0). X) (λ i. NotInStands pairs (lasts ready.lasting (sym one.1.same i)) (grows ready.growing (sym two.1.same i)) (lasts ready.lasting (sym two.1.same i)) (numbered_rows ready.new (sym one.1.same i)) (numbered_rows ready.new (sym two.1.same i)) after)
              (subst (λ (l : Bool). NotInStands pairs l (grows ready.growing (expr_of n)) (lasts ready.lasting (expr_of n)) (numbered_rows ready.new (expr_of m)) (numbered_rows ready.new (expr_of n)) after) one.0.0
              (subst (λ (r : Bool). NotInStands pairs left.kept (grows ready.growing (expr_of n)) r (numbered_rows ready.new (expr_of m)) (numbered_rows ready.new (expr_of n)) after) two.0.0 s)),
        );
      }

  -- a fault of a part of a notin
  module _ (kept : KeptNotIn PartRows) (after1 after : Plan) (fault : SetFault) (r : Result Change SetFault) (is : IsErrAnd r (λ d. d ≡ fault)) where
    pub notin_left_refused : IsAnswered m after1 held (Err fault) → (ready : IsReady (expr_of (plan.NotIn' p m q n pairs kept)) (plan.NotIn' p m q n pairs kept) held) → Evaluates (expr_of (plan.NotIn' p m q n pairs kept)) (plan.NotIn' p m q n pairs kept) after held ready r
    notin_left_refused of ready = refused (expr_of (plan.NotIn' p m q n pairs kept)) (expr_of m) (plan.NotIn' p m q n pairs kept) m after after1 held r fault ready (notin_left kept ready) refl (λ sets rows h. inr (Has-append_left rows (numbered_sets sets (expr_of m)) (numbered_sets sets (expr_of n)) h)) is (of (expr_of m) (notin_left kept ready))

    pub notin_right_refused : IsAnswered n after1 held (Err fault) → (ready : IsReady (expr_of (plan.NotIn' p m q n pairs kept)) (plan.NotIn' p m q n pairs kept) held) → Evaluates (expr_of (plan.NotIn' p m q n pairs kept)) (plan.NotIn' p m q n pairs kept) after held ready r
    notin_right_refused of ready = refused (expr_of (plan.NotIn' p m q n pairs kept)) (expr_of n) (plan.NotIn' p m q n pairs kept) n after after1 held r fault ready (notin_right kept ready) refl (λ sets rows h. inr (Has-append_right rows (numbered_sets sets (expr_of m)) (numbered_sets sets (expr_of n)) h)) is (of (expr_of n) (notin_right kept ready))

  -- the right part is kept
  pub right_kept : (kept : KeptNotIn PartRows) (n1 : Plan) (right : Change) → IsAnswered n n1 held (Ok right) → IsReady (expr_of (plan.NotIn' p m q n pairs kept)) (plan.NotIn' p m q n pairs kept) held → IsTrue right.kept
  right_kept kept n1 right second ready =
      let two = second (expr_of n) (notin_right kept ready) in
      two.0.0 ∙ ready.enough.2

  module _ (kept : KeptNotIn PartRows) (m1 n1 : Plan) (left right : Change) (first : IsAnswered m m1 held (Ok left)) (second : IsAnswered n n1 held (Ok right)) where
    pub notin_answered : (lent : Pairs) (lent_is : lent ≡ pairs) (after : KeptNotIn PartRows) (r : Result Change SetFault)
        → ((rg : Bool) (lo ln ro rn : List Row) → NotInChanges lent rg lo ln ro rn left right kept → TurnsTo left.kept (set_of (notin_rows lent lo ro)) (set_of (notin_rows lent ln rn)) r)
        → OnOk r ((rg : Bool) (lo ln ro rn : List Row) → NotInChanges lent rg lo ln ro rn left right kept → NotInStands lent left.kept rg right.kept ln rn after)
        → (ready : IsReady (expr_of (plan.NotIn' p m q n pairs kept)) (plan.NotIn' p m q n pairs kept) held) → Evaluates (expr_of (plan.NotIn' p m q n pairs kept)) (plan.NotIn' p m q n pairs kept) (plan.NotIn' p m1 q n1 pairs after) held ready r
    notin_answered lent lent_is after r turned kept_after ready =
        let one = first (expr_of m) (notin_left kept ready) in
        let two = second (expr_of n) (notin_right kept ready) in
        let changes : NotInChanges lent (grows ready.growing (expr_of n)) (numbered_rows ready.old (expr_of m)) (numbered_rows ready.new (expr_of m)) (numbered_rows ready.old (expr_of n)) (numbered_rows ready.new (expr_of n)) left right kept =
        subst (λ (l : Pairs). NotInChanges l (grows ready.growing (expr_of n)) (numbered_rows ready.old (expr_of m)) (numbered_rows ready.new (expr_of m)) (numbered_rows ready.old (expr_of n)) (numbered_rows ready.new (expr_of n)) left right kept) (sym lent_is) (notin_changes kept ready m1 n1 left right one two) in
        answered (expr_of (plan.NotIn' p m q n pairs kept)) (plan.NotIn' p m q n pairs kept) (plan.NotIn' p m1 q n1 pairs after) held ready left.kept (numbered_sets ready.new (expr_of m) ++ numbered_sets ready.new (expr_of n)) r
        (one.0.0 ∙ sym (ap (λ (l : Bool). lasts ready.lasting (expr_of m) && l) ready.enough.2 ∙ and-true (lasts ready.lasting (expr_of m)))) refl (both_fit (numbered_sets ready.new (expr_of m)) (numbered_sets ready.new (expr_of n)) one.2 two.2)
        (subst (λ (l : Pairs). TurnsTo left.kept (set_of (notin_rows l (numbered_rows ready.old (expr_of m)) (numbered_rows ready.old (expr_of n)))) (set_of (notin_rows l (numbered_rows ready.new (expr_of m)) (numbered_rows ready.new (expr_of n)))) r) lent_is (turned _ _ _ _ _ changes))
        (on_ok_weaker r (λ k. notin_stands kept ready m1 n1 left right one two after (subst (λ (l : Pairs). NotInStands l left.kept (grows ready.growing (expr_of n)) right.kept (numbered_rows ready.new (expr_of m)) (numbered_rows ready.new (expr_of n)) after) lent_is (k _ _ _ _ _ changes))) kept_after)
