-- The rules of a head one after the other: those so far gave their rows, and those that are left give the rest.
use Rattle.std.proofs.Common.{◌≡◌, ◌≢◌, ◌<◌, ◌≤◌, ◌+◌, ℕ, IsTrue, [], drop, get_or, List, length, Some, Result, Ok, Err, refl, sym, subst, inl, inr}
use Rattle.std.specs.Prelude.{slice_get, slice_set}
use Rattle.std.specs.Result.{IsErrAnd}
use Rattle.std.proofs.lemmas.Option.{slice_get_read}
use Rattle.blz_value.specs.Members.{Has}
use Rattle.blz_value.specs.Record.{Row}
use Rattle.blz_value.proofs.Membership.{Has-get_or}
use Rattle.blz_set.specs.RecordSet.{row_limit, IsRecordSet}
use Rattle.blz_set.specs.declared.fault.SetFault.{SetFault}
use Rattle.blz_set.specs.declared.fault.SetFault.TheVariants.{TooManyRows, NoMemory}
use Rattle.blz_set.proofs.Unions.{handed_on}
use Rattle.bloom_forms.specs.declared.numbered.NumberedRule.{NumberedRule}
use Rattle.bloom_forms.specs.Lookup.{declared}
use Rattle.bloom_forms.specs.Step.{rows_named, rules_at}
use Rattle.bloom_eval.specs.Counted.{Adds}
use Rattle.bloom_parts.specs.declared.change.Change.{Change}
use Rattle.bloom_parts.specs.Turns.{rows_in}
use Rattle.bloom_index.specs.declared.plan.Plan.{Plan}
use Rattle.bloom_growth.specs.Growth.{Extends}
use Rattle.bloom_index.specs.Code.HeadRules.{AreReady, HasOldHead, AreTurned, GrowsHead}
use Rattle.bloom_index.specs.Code.Heads.{HasOldRows, GrowsBy}
use Rattle.bloom_growth.proofs.BagsLemmas.{extends_none}
use Rattle.bloom_growth.proofs.Extending.{sorted_new, old_is_in}
use Rattle.bloom_index.proofs.HeadRulesLemmas.{own_adds, other_adds, own_fault, none_adds, ready_at, none_turned, own_turned, other_turned, all_turned, grown_fault}

-- ---- a head that grows

module _ (rules : List NumberedRule) (head : ℕ) (plans : List Plan) (held : List Change) (ready : AreReady rules head plans held) where
  -- what the rules that are left add makes all that the rules of the head add
  abbrev pub Rest : (first rows : List Row) (i : ℕ) → Type 0
  Rest first rows i =
      let cs = ready.a.form.collections in
      let forms = ready.a.form.rules in
      (new : List Row) (r : Result (List Row) SetFault) → Adds {X = List Row} (declared cs) (rows_named cs ready.new) (rules_at cs (drop i forms) head) rows new r
      → Adds {X = List Row} (declared cs) (rows_named cs ready.new) (rules_at cs forms head) first new r

  -- so many rules gave their rows to a head that grows
  pub record IsGrowingAt (first rows fresh : List Row) (i : ℕ) (now : List Plan) : Type 0 where
    pub extends : Extends first rows fresh
    pub few : length rows ≤ row_limit
    pub turned : AreTurned ready.growing ready.lasting ready.new rules head i plans now
    pub rest : Rest first rows i

  pub grow_begins : (rows fresh : List Row) → IsRecordSet rows → fresh ≡ [] → IsGrowingAt rows rows fresh 0 plans
  grow_begins rows fresh set none = record {
    extends = extends_none rows fresh set.sorted none;
    few = set.small;
    turned = none_turned ready.growing ready.lasting ready.new rules head plans;
    rest = λ new r adds. adds;
  }

  module _ (first : List Row) (i : ℕ) (rule : NumberedRule) (lt : i < length rules) (is : rule ≡ get_or rules i rule) where
    there : slice_get rules i ≡ Some rule
    there = slice_get_read rules (length rules) i rule refl lt is

    pub among : Has rule rules
    among = subst (λ (r : NumberedRule). Has r rules) (sym is) (Has-get_or rules i rule lt)

    pub grow_other : (rows fresh rows2 fresh2 : List Row) (now after : List Plan) → rule.head ≢ head → rows2 ≡ rows → fresh2 ≡ fresh → after ≡ now → IsGrowingAt first rows fresh i now → IsGrowingAt first rows2 fresh2 (i + 1) after
    grow_other rows fresh rows2 fresh2 now after differ same also put g =
        let cs = ready.a.form.collections in
        let forms = ready.a.form.rules in
        subst (λ (z : List Row). IsGrowingAt first z fresh2 (i + 1) after) (sym same) (subst (λ (z : List Row). IsGrowingAt first rows z (i + 1) after) (sym also) (record {
          extends = g.extends;
          few = g.few;
          turned = other_turned ready.growing ready.lasting ready.new rules head i rule plans now after there differ put g.turned;
          rest = λ new r adds. g.rest new r (other_adds (List Row) cs forms rules ready.numbered ready.new head i rule lt is differ rows new r adds);
        }))

    module _ (same : rule.head ≡ head) (plan : Plan) (kept : slice_get plans i ≡ Some plan) where
      pub has_old : (rows fresh : List Row) → HasOldHead rules head plans held ready first → Extends first rows fresh → HasOldRows rule.body plan held (ready_at rules head plans held ready i rule plan lt is kept same) rows
      has_old rows fresh has e = λ g q h. old_is_in first rows fresh e q (has rule among same g q h)

      pub grow_own : (rows fresh rows2 fresh2 made1 made2 : List Row) (now after : List Plan) (plan2 : Plan) → i < length now → rows2 ≡ made1 → fresh2 ≡ made2 → after ≡ slice_set now i plan2 → IsGrowingAt first rows fresh i now
          → GrowsBy rule.body plan plan2 held (ready_at rules head plans held ready i rule plan lt is kept same) first rows made1 made2 (Ok (tt {0})) → IsGrowingAt first rows2 fresh2 (i + 1) after
      grow_own rows fresh rows2 fresh2 made1 made2 now after plan2 within put_rows put_fresh put g by =
          let cs = ready.a.form.collections in
          let forms = ready.a.form.rules in
          subst (λ (z : List Row). IsGrowingAt first z fresh2 (i + 1) after) (sym put_rows) (subst (λ (z : List Row). IsGrowingAt first made1 z (i + 1) after) (sym put_fresh) (record {
            extends = by.3;
            few = by.2 made1 (inl refl);
            turned = own_turned ready.growing ready.lasting ready.new rules head i rule plans now after plan2 within there same put by.1 g.turned;
            rest = λ new r adds. g.rest new r (own_adds (List Row) cs forms rules ready.numbered ready.new head i rule lt is same rows made1 new r by.0 (λ s h. by.2 s (inr h)) adds);
          }))

      pub grow_refused : (rows fresh made1 made2 rows2 : List Row) (now after : List Plan) (plan2 : Plan) (r : Result Change SetFault) (fault : SetFault) → IsErrAnd r (λ d. d ≡ fault) → IsGrowingAt first rows fresh i now
          → GrowsBy rule.body plan plan2 held (ready_at rules head plans held ready i rule plan lt is kept same) first rows made1 made2 (Err fault) → GrowsHead rules head plans held ready first rows2 after r
      grow_refused rows fresh made1 made2 rows2 now after plan2 r fault was g by =
          let cs = ready.a.form.collections in
          let forms = ready.a.form.rules in
          let refused : Adds {X = List Row} (declared cs) (rows_named cs ready.new) (rules_at cs forms head) first rows2 (Err fault) =
          g.rest rows2 (Err fault) (own_fault (List Row) cs forms rules ready.numbered ready.new head i rule lt is same rows made1 rows2 fault (grown_fault (List Row) rule.body plan plan2 held (ready_at rules head plans held ready i rule plan lt is kept same) first rows made1 made2 fault by)) in
          subst (GrowsHead rules head plans held ready first rows2 after) (sym (handed_on Change r fault was)) (go fault refused)
        where
          go : (d : SetFault) → Adds {X = List Row} (declared ready.a.form.collections) (rows_named ready.a.form.collections ready.new) (rules_at ready.a.form.collections ready.a.form.rules head) first rows2 (Err d) → GrowsHead rules head plans held ready first rows2 after (Err d)
          go TooManyRows h = h
          go NoMemory h = tt

  pub grow_ends : (first rows fresh : List Row) (i : ℕ) (now : List Plan) (change : Change) → length rules ≤ i → IsTrue change.kept → rows_in change.rows ≡ fresh → rows_in change.gone ≡ [] → IsGrowingAt first rows fresh i now → GrowsHead rules head plans held ready first rows now (Ok change)
  grow_ends first rows fresh i now change le kept come gone g =
      let cs = ready.a.form.collections in
      let forms = ready.a.form.rules in
      let added = g.rest rows (Ok fresh) (none_adds (List Row) cs forms rules ready.numbered ready.new head i le rows (sorted_new first rows fresh g.extends) g.few fresh) in
      (added.0, added.1, kept, subst (Extends first rows) (sym come) g.extends, gone, all_turned ready.growing ready.lasting ready.new rules head i plans now ready.many le g.turned)
