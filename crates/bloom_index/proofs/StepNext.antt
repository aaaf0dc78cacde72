-- The heads of a module in a step, one after the other: what is kept, what evaluation sees, and what the outputs have.
use Rattle.std.proofs.Common.{◌≡◌, ◌≢◌, ◌<◌, ◌≤◌, ℕ, Bool, true, false, IsTrue, ◌∷◌, ◌++◌, [], get_or, drop, ◌+◌, List, length, Some, Result, Ok, Err, refl, ap, ◌∙◌, sym, subst, inl, inr, arith}
use Rattle.std.specs.Prelude.{slice_get, slice_set}
use Rattle.std.proofs.lemmas.Bool.{cases_eq, cases_Bool, true≢false}
use Rattle.std.proofs.lemmas.List.{get_or-set_same, get_or-set_other, length-set, length-map, map-set, drop_all}
use Rattle.std.proofs.lemmas.Option.{slice_get_within, slice_get_cases, same_Some}
use Rattle.blz_value.specs.Members.{Has, IsWithin}
use Rattle.blz_value.specs.Record.{Row}
use Rattle.blz_value.specs.Sets.{set_of}
use Rattle.blz_value.proofs.Membership.{Has-get_or, All-of_member}
use Rattle.blz_value.proofs.OperatorsLemmas.{length-within}
use Rattle.blz_value.proofs.Options.{Has-slice_get}
use Rattle.blz_set.specs.RecordSet.{row_limit, IsRecordSet}
use Rattle.blz_set.specs.declared.fault.SetFault.{SetFault}
use Rattle.blz_set.specs.declared.fault.SetFault.TheVariants.{TooManyRows}
use Rattle.bloom_forms.specs.declared.module.Kind.TheVariants.{Output}
use Rattle.bloom_forms.specs.declared.module.Collection.{Collection}
use Rattle.bloom_forms.specs.declared.numbered.NumberedRule.{NumberedRule}
use Rattle.bloom_forms.specs.Form.{Accepted}
use Rattle.bloom_forms.specs.Kinds.{kind_at}
use Rattle.bloom_forms.specs.Step.{Sets, set_at, at_start, ruled_at, at_end}
use Rattle.bloom_forms.specs.Widths.{AreWide}
use Rattle.bloom_forms.proofs.Ends.Equated.{untouched}
use Rattle.bloom_eval.specs.Taken.{AreSetsOfAll, TakesHeads}
use Rattle.bloom_eval.specs.StepAnswers.{AllFit, SomeIsOver, counted_sets}
use Rattle.bloom_eval.proofs.Runnable.{runnable}
use Rattle.bloom_eval.proofs.Taking.{IsAt, at_next, at_refused}
use Rattle.bloom_eval.proofs.Widths.{columns_at, length-sets_of_all, wide_at, set_wide}
use Rattle.bloom_growth.specs.declared.bag.Bag.{Bag}
use Rattle.bloom_growth.specs.Growth.{Extends}
use Rattle.bloom_growth.specs.Turned.{Turned}
use Rattle.bloom_growth.proofs.BagsLemmas.{extends_none}
use Rattle.bloom_growth.proofs.Extending.{sorted_new, old_is_in}
use Rattle.bloom_growth.proofs.TurnedLemmas.{came, comes, turned_by}
use Rattle.bloom_parts.specs.declared.change.Change.{Change}
use Rattle.bloom_parts.specs.Turns.{HasTurnedAt, rows_in, HasTurned, Turns}
use Rattle.bloom_parts.proofs.Turning.{turned_of, turns_from}
use Rattle.bloom_index.specs.declared.plan.Plan.{Plan}
use Rattle.bloom_index.specs.declared.step.Parts.{Parts}
use Rattle.bloom_index.specs.Code.Evaluation.{HaveTurned, Stands}
use Rattle.bloom_index.specs.Code.Growth.{grows_at, IsGrown}
use Rattle.bloom_index.specs.Code.HeadRules.{AreReady, AreTurned, AllLast, HasOldHead, HasGiven, GrowsHead, TurnsHead, MakesHead, head_sets}
use Rattle.bloom_index.specs.Code.Heads.{AreNew}
use Rattle.bloom_index.specs.Code.Lasting.{lasts_at}
use Rattle.bloom_index.specs.Code.StepSets.{held_sets}
use Rattle.bloom_index.proofs.HeadRulesLemmas.{got_set, got_other}
use Rattle.bloom_index.proofs.KeptLemmas.{quiet_wide}
use Rattle.bloom_index.proofs.LastsLemmas.{all_last}
use Rattle.bloom_index.proofs.StandsAlong.{AgreeOn, stands_along, given_along}
use Rattle.bloom_index.proofs.StepHeads.{IsStep, quiet, IsView, no_table, few_rules, keeps_enough, both, within, taken, own_form, agree, takes, takes_none, old_head, grown_head, past_head}
use Rattle.bloom_index.proofs.StepLoops.{one_left}

-- a set that grows turns, and nothing goes
pub grown_turns : (before made : List Row) (change : Change) → IsTrue change.kept → Extends before made (rows_in change.rows) → rows_in change.gone ≡ [] → length made ≤ row_limit → Turns before made change
grown_turns before made change kept e none few =
    let more = rows_in change.rows in
    let gone = rows_in change.gone in
    let turned : Turned before made more gone = turned_by before made more gone before (extends_none before gone e.sorted none) e (λ row m g. absurd (subst (λ (l : List Row). Has row l) none g)) in
    let few_old : length before ≤ row_limit = omega (arith, few, length-within before made e.sorted (old_is_in before made more e)) in
    (turns_from true before made more gone change kept refl refl (sorted_new before made more e) few (turned, few_old)).1

module _ (a : Accepted) (rules : List NumberedRule) (growing lasting : List Bool) (tables now : Sets) (st : IsStep a rules growing lasting tables now) where
  abbrev cs : List Collection
  cs = a.form.collections

  abbrev old : Sets
  old = quiet a tables

  abbrev end : Sets
  end = at_end a tables now

  -- these heads are left: what is kept of them is that of a step with nothing arriving, and of the others that of the end
  pub record IsMid (parts : Parts) (held : List Change) (left : List ℕ) : Type 0 where
    pub sets : Sets
    pub past : Sets
    pub seen : Sets
    pub at : IsAt a (at_start a.form.collections tables now) sets left
    pub view : IsView a rules growing lasting tables now st sets left past seen
    pub start_is : (k : ℕ) → Has k left → set_at sets k ≡ set_at (at_start a.form.collections tables now) k
    pub turned : HaveTurned lasting past seen held
    pub wide_old : AreSetsOfAll a.form.collections past
    pub wide : AreSetsOfAll a.form.collections seen
    pub held_many : length held ≡ length a.form.collections
    pub growing_is : parts.growing.items ≡ growing
    pub lasting_is : parts.lasting.items ≡ lasting
    pub rows_many : length parts.rows.items ≡ length a.form.collections
    pub rows_left : (k : ℕ) → IsTrue (grows_at growing k) → Has k left → set_at parts.rows.items k ≡ set_at (quiet a tables) k
    pub rows_done : (k : ℕ) → IsTrue (grows_at growing k) → ¬ Has k left → set_at parts.rows.items k ≡ set_at (at_end a tables now) k
    pub bags_many : length parts.bags.items ≡ length a.form.collections
    pub bags_left : (k : ℕ) (bag : Bag) → slice_get parts.bags.items k ≡ Some bag → grows_at growing k ≡ false → Has k left → HasGiven lasting (quiet a tables) rules k bag
    pub bags_done : (k : ℕ) (bag : Bag) → slice_get parts.bags.items k ≡ Some bag → grows_at growing k ≡ false → ¬ Has k left → HasGiven lasting (at_end a tables now) rules k bag
    pub plans_many : length parts.plans.items ≡ length rules
    pub plans_left : (j : ℕ) (rule : NumberedRule) (plan : Plan) → slice_get rules j ≡ Some rule → slice_get parts.plans.items j ≡ Some plan → Has rule.head left → Stands growing lasting (quiet a tables) rule.body plan
    pub plans_done : (j : ℕ) (rule : NumberedRule) (plan : Plan) → slice_get rules j ≡ Some rule → slice_get parts.plans.items j ≡ Some plan → ¬ Has rule.head left → Stands growing lasting (at_end a tables now) rule.body plan
    pub outs : (k : ℕ) → kind_at a.form.collections k ≡ Some Output → ¬ Has k left → AreNew (set_at (quiet a tables) k) (set_at (at_end a tables now) k) (set_at (held_sets held) k)

  module _ (parts : Parts) (held : List Change) (h : ℕ) (left : List ℕ) (m : IsMid parts held (h ∷ left)) where
    abbrev before : List Row
    before = set_at old h

    -- what the rules of the head give
    abbrev ruled : List Row
    ruled = ruled_at a.form m.seen h

    pub mid_within : h < length a.form.collections
    mid_within = within a rules growing lasting tables now st m.sets h left m.at

    -- sets that hold the same of what isn't left agree on the bodies of the head's rules
    pub same_bodies : (xs ys : Sets) → ((k : ℕ) → ¬ Has k (h ∷ left) → kind_at a.form.collections k ≢ Some Output → set_at xs k ≡ set_at ys k) → (rule : NumberedRule) → Has rule rules → (own : rule.head ≡ h) → AgreeOn lasting xs ys rule.body
    same_bodies xs ys same rule among own = agree a rules growing lasting tables now st m.sets h left m.at xs ys same rule (own_form a rules growing lasting tables now st m.sets h left m.at rule among own)

    pub old_past : (k : ℕ) → ¬ Has k (h ∷ left) → kind_at a.form.collections k ≢ Some Output → set_at (quiet a tables) k ≡ set_at m.past k
    old_past k lacks out = sym (m.view.past_is k lacks)

    -- what evaluation sees of what a rule of the head reads is what there is in the end
    seen_end : (k : ℕ) → ¬ Has k (h ∷ left) → kind_at cs k ≢ Some Output → set_at m.seen k ≡ set_at end k
    seen_end k lacks out = m.view.seen_is k out ∙ taken a rules growing lasting tables now st m.sets h left m.at k lacks

    -- ---- what a head asks

    -- its rules can be evaluated
    abbrev pub mid_ready : AreReady rules h parts.plans.items held
    mid_ready = record {
      a = a;
      growing = growing;
      lasting = lasting;
      old = m.past;
      new = m.seen;
      numbered = st.numbered;
      few = few_rules a rules growing lasting tables now st;
      many = m.plans_many;
      turned = m.turned;
      grown = m.view.grew;
      wide_old = m.wide_old;
      wide = m.wide;
      enough = keeps_enough a rules growing lasting tables now st;
      stands = λ k rule plan at kept same. let among = Has-slice_get rules k rule at in
          stands_along growing lasting old m.past rule.body plan (same_bodies old m.past old_past rule among same) (m.plans_left k rule plan at kept (inl (sym same)));
    }

    pub mid_old : IsTrue (grows_at growing h) → HasOldHead rules h parts.plans.items held mid_ready (set_at parts.rows.items h)
    mid_old grow rule among same t q here = subst (λ (l : List Row). Has q l) (sym (m.rows_left h grow (inl refl))) (old_head a rules growing lasting tables now st m.sets h left m.at m.past m.seen m.view rule among same t q here)

    pub mid_given : (bag : Bag) → slice_get parts.bags.items h ≡ Some bag → grows_at growing h ≡ false → HasGiven lasting m.past rules h bag
    mid_given bag at none = given_along lasting old m.past rules h bag (same_bodies old m.past old_past) (m.bags_left h bag at none (inl refl))

    pub mid_last : grows_at growing h ≡ false → IsTrue (lasts_at lasting h) → AllLast lasting rules h
    mid_last none last = all_last a st.checked lasting st.last h (no_table a rules growing lasting tables now st h none) last rules st.numbered

    -- ---- what it gets

    -- what is kept after the head, where its change is the answer
    pub record HasChanged (parts2 : Parts) (whole : Bool) (result : Result Change SetFault) : Type 0 where
      pub growing_is : parts2.growing.items ≡ growing
      pub lasting_is : parts2.lasting.items ≡ lasting
      pub rows : parts2.rows.items ≡ slice_set parts.rows.items h (set_at parts2.rows.items h)
      pub bags : length parts2.bags.items ≡ length parts.bags.items
      pub others : (k : ℕ) → ¬ (k ≡ h) → slice_get parts2.bags.items k ≡ slice_get parts.bags.items k
      pub grown : HasOldHead rules h parts.plans.items held mid_ready (set_at parts.rows.items h) → IsTrue (grows_at growing h) → GrowsHead rules h parts.plans.items held mid_ready (set_at parts.rows.items h) (set_at parts2.rows.items h) parts2.plans.items result
      pub turned : (was is : Bag) → slice_get parts.bags.items h ≡ Some was → slice_get parts2.bags.items h ≡ Some is → HasGiven lasting m.past rules h was → AllLast lasting rules h → grows_at growing h ≡ false → IsTrue (lasts_at lasting h) → TurnsHead rules h parts.plans.items held mid_ready is parts2.plans.items result
      pub made : (was is : Bag) → slice_get parts.bags.items h ≡ Some was → slice_get parts2.bags.items h ≡ Some is → HasGiven lasting m.past rules h was → grows_at growing h ≡ false → lasts_at lasting h ≡ false → MakesHead rules h parts.plans.items held mid_ready whole is parts2.plans.items result

    -- the head has its rows in the end, of which evaluation sees some where it is an output
    record IsTaken (parts2 : Parts) (change : Change) : Type 0 where
      made : List Row
      shown : List Row
      is : made ≡ set_of (set_at m.sets h ++ ruled_at a.form m.seen h)
      fit : AllFit (made ∷ head_sets a m.seen h)
      turned : HasTurnedAt (lasts_at lasting h) (set_at (quiet a tables) h) shown (Some change)
      inside : IsWithin shown made
      plain : kind_at a.form.collections h ≢ Some Output → shown ≡ made
      grew : IsTrue (grows_at growing h) → IsGrown (set_at (quiet a tables) h) shown
      rows : IsTrue (grows_at growing h) → set_at parts2.rows.items h ≡ made
      bag : (bag : Bag) → slice_get parts2.bags.items h ≡ Some bag → grows_at growing h ≡ false → HasGiven lasting m.seen rules h bag
      plans : AreTurned growing lasting m.seen rules h (length rules) parts.plans.items parts2.plans.items
      news : kind_at a.form.collections h ≡ Some Output → AreNew (set_at (quiet a tables) h) made (rows_in change.rows)

    module _ (parts2 : Parts) (held2 : List Change) (change : Change) (whole : Bool) (c : HasChanged parts2 whole (Ok change)) (put : held2 ≡ slice_set held h change) (t : IsTaken parts2 change) where
      abbrev sets2 : Sets
      sets2 = slice_set m.sets h t.made

      abbrev past2 : Sets
      past2 = slice_set m.past h before

      abbrev seen2 : Sets
      seen2 = slice_set m.seen h t.shown

      lacks_h : ¬ Has h left
      lacks_h = m.at.order.0

      -- a collection that is left isn't the head
      apart : (k : ℕ) → Has k left → k ≢ h
      apart k has e = lacks_h (subst (λ (j : ℕ). Has j left) e has)

      at2 : IsAt a (at_start a.form.collections tables now) (slice_set m.sets h t.made) left
      at2 = at_next a (runnable a st.checked) (at_start a.form.collections tables now) m.sets h left m.at (Unit {0}) sets2 (tt {0}) (takes a rules growing lasting tables now st m.sets h left m.at m.past m.seen m.view t.made t.is t.fit)

      at_h : (l : Sets) (rows : List Row) → length l ≡ length a.form.collections → set_at (slice_set l h rows) h ≡ rows
      at_h l rows many = get_or-set_same l h rows [] (omega (arith, mid_within, many))

      aside : (l : Sets) (rows : List Row) (k : ℕ) → k ≢ h → set_at (slice_set l h rows) k ≡ set_at l k
      aside l rows k differ = get_or-set_other l h k rows [] differ

      made_at : set_at sets2 h ≡ t.made
      made_at = at_h m.sets t.made (length-sets_of_all cs m.sets m.at.wide)

      past_at : set_at past2 h ≡ before
      past_at = at_h m.past before (length-sets_of_all cs m.past m.wide_old)

      seen_at : set_at seen2 h ≡ t.shown
      seen_at = at_h m.seen t.shown (length-sets_of_all cs m.seen m.wide)

      made_end : t.made ≡ set_at end h
      made_end = sym made_at ∙ sym (untouched a.form left sets2 h lacks_h) ∙ ap (λ (l : Sets). set_at l h) at2.rest

      wider : (k : ℕ) → k ≢ h → ¬ Has k left → ¬ Has k (h ∷ left)
      wider k differ lacks has = elim has [ inl e ↦ differ (sym e) | inr n ↦ lacks n ]

      view2 : IsView a rules growing lasting tables now st (slice_set m.sets h t.made) left (slice_set m.past h (set_at (quiet a tables) h)) (slice_set m.seen h t.shown)
      view2 = record {
        seen_is = λ k out. elim (cases_eq k h) [
          | inl e ↦ ap (set_at seen2) e ∙ seen_at ∙ t.plain (λ o. out (ap (kind_at cs) e ∙ o)) ∙ sym made_at ∙ sym (ap (set_at sets2) e)
          | inr differ ↦ aside m.seen t.shown k differ ∙ m.view.seen_is k out ∙ sym (aside m.sets t.made k differ)
        ];
        past_is = λ k lacks. elim (cases_eq k h) [
          | inl e ↦ ap (set_at past2) e ∙ past_at ∙ sym (ap (set_at old) e)
          | inr differ ↦ aside m.past before k differ ∙ m.view.past_is k (wider k differ lacks)
        ];
        grew = λ k g. elim (cases_eq k h) [
          | inl e ↦
              let past_is = ap (set_at past2) e ∙ past_at in
              let seen_is = ap (set_at seen2) e ∙ seen_at in
              subst (λ (X : Type 0). X) (λ i. IsGrown (sym past_is i) (sym seen_is i)) (t.grew (ap (grows_at growing) (sym e) ∙ g))
          | inr differ ↦
              let past_is = aside m.past before k differ in
              let seen_is = aside m.seen t.shown k differ in
              subst (λ (X : Type 0). X) (λ i. IsGrown (sym past_is i) (sym seen_is i)) (m.view.grew k g)
        ];
      }

      turned_on : HaveTurned lasting (slice_set m.past h (set_at (quiet a tables) h)) (slice_set m.seen h t.shown) held2
      turned_on k = elim (cases_eq k h) [
        | inl e ↦
            let last_is : lasts_at lasting h ≡ lasts_at lasting k = ap (lasts_at lasting) (sym e) in
            let past_is : before ≡ set_at past2 k = sym past_at ∙ sym (ap (set_at past2) e) in
            let seen_is : t.shown ≡ set_at seen2 k = sym seen_at ∙ sym (ap (set_at seen2) e) in
            let change_is : Some change ≡ slice_get held2 k = sym (ap (λ (l : List Change). slice_get l k) put ∙ ap (slice_get (slice_set held h change)) e ∙ got_set held h change (omega (arith, mid_within, m.held_many))) in
            subst (λ (X : Type 0). X) (λ i. HasTurnedAt (last_is i) (past_is i) (seen_is i) (change_is i)) t.turned
        | inr differ ↦
            let past_is : set_at m.past k ≡ set_at past2 k = sym (aside m.past before k differ) in
            let seen_is : set_at m.seen k ≡ set_at seen2 k = sym (aside m.seen t.shown k differ) in
            let change_is : slice_get held k ≡ slice_get held2 k = sym (ap (λ (l : List Change). slice_get l k) put ∙ got_other held h k change differ) in
            subst (λ (X : Type 0). X) (λ i. HasTurnedAt (lasts_at lasting k) (past_is i) (seen_is i) (change_is i)) (m.turned k)
      ]

      wide2 : AreSetsOfAll a.form.collections (slice_set m.seen h t.shown)
      wide2 =
          let made_wide : AreWide (length (columns_at cs h)) t.made = subst (λ (rows : List Row). AreWide (length (columns_at cs h)) rows) made_at (wide_at cs sets2 at2.wide h) in
          set_wide cs m.seen h t.shown m.wide (λ k d lt. All-of_member (λ (r : Row). length r ≡ length (columns_at cs h)) t.made (get_or t.shown k d) made_wide (t.inside (get_or t.shown k d) (Has-get_or t.shown k d lt)))

      plan_there : (j : ℕ) (rule : NumberedRule) (plan : Plan) → slice_get rules j ≡ Some rule → slice_get parts2.plans.items j ≡ Some plan → rule.head ≢ h → slice_get parts.plans.items j ≡ Some plan
      plan_there j rule plan at kept differ = sym (t.plans.other j rule (slice_get_within rules j rule at) at differ) ∙ kept

      -- the rows of the changes
      shown_is : held_sets held2 ≡ slice_set (held_sets held) h (rows_in change.rows)
      shown_is = ap held_sets put ∙ map-set (λ (x : Change). rows_in x.rows) held h change

      shown_at : set_at (held_sets held2) h ≡ rows_in change.rows
      shown_at = ap (λ (l : Sets). set_at l h) shown_is ∙ at_h (held_sets held) (rows_in change.rows) (length-map held (λ (x : Change). rows_in x.rows) ∙ m.held_many)

      mid_next : IsMid parts2 held2 left
      mid_next = record {
        sets = sets2;
        past = past2;
        seen = seen2;
        at = at2;
        view = view2;
        start_is = λ k has. aside m.sets t.made k (apart k has) ∙ m.start_is k (inr has);
        turned = turned_on;
        wide_old = set_wide cs m.past h before m.wide_old (wide_at cs old (quiet_wide a st.checked tables st.kept) h);
        wide = wide2;
        held_many = ap length put ∙ length-set held h change ∙ m.held_many;
        growing_is = c.growing_is;
        lasting_is = c.lasting_is;
        rows_many = ap length c.rows ∙ length-set parts.rows.items h (set_at parts2.rows.items h) ∙ m.rows_many;
        rows_left = λ k g has. ap (λ (l : Sets). set_at l k) c.rows ∙ aside parts.rows.items (set_at parts2.rows.items h) k (apart k has) ∙ m.rows_left k g (inr has);
        rows_done = λ k g lacks. elim (cases_eq k h) [
          | inl e ↦ ap (set_at parts2.rows.items) e ∙ t.rows (ap (grows_at growing) (sym e) ∙ g) ∙ made_end ∙ sym (ap (set_at end) e)
          | inr differ ↦ ap (λ (l : Sets). set_at l k) c.rows ∙ aside parts.rows.items (set_at parts2.rows.items h) k differ ∙ m.rows_done k g (wider k differ lacks)
        ];
        bags_many = c.bags ∙ m.bags_many;
        bags_left = λ k bag at none has. m.bags_left k bag (sym (c.others k (apart k has)) ∙ at) none (inr has);
        bags_done = λ k bag at none lacks. elim (cases_eq k h) [
          | inl e ↦
              let own = t.bag bag (ap (slice_get parts2.bags.items) (sym e) ∙ at) (ap (grows_at growing) (sym e) ∙ none) in
              subst (λ (j : ℕ). HasGiven lasting end rules j bag) (sym e) (given_along lasting m.seen end rules h bag (same_bodies m.seen end seen_end) own)
          | inr differ ↦ m.bags_done k bag (sym (c.others k differ) ∙ at) none (wider k differ lacks)
        ];
        plans_many = t.plans.many ∙ m.plans_many;
        plans_left = λ j rule plan at kept has. m.plans_left j rule plan at (plan_there j rule plan at kept (apart rule.head has)) (inr has);
        plans_done = λ j rule plan at kept lacks. elim (cases_eq rule.head h) [
          | inl same ↦ stands_along growing lasting m.seen end rule.body plan (same_bodies m.seen end seen_end rule (Has-slice_get rules j rule at) same) (t.plans.own j rule plan (slice_get_within rules j rule at) at kept same)
          | inr differ ↦ m.plans_done j rule plan at (plan_there j rule plan at kept differ) (wider rule.head differ lacks)
        ];
        outs = λ k out lacks. elim (cases_eq k h) [
          | inl e ↦
              let own = subst (λ (X : Type 0). X) (λ i. AreNew before (made_end i) (sym shown_at i)) (t.news (ap (kind_at cs) (sym e) ∙ out)) in
              subst (λ (j : ℕ). AreNew (set_at old j) (set_at end j) (set_at (held_sets held2) j)) (sym e) own
          | inr differ ↦
              let rows_are : set_at (held_sets held2) k ≡ set_at (held_sets held) k = ap (λ (l : Sets). set_at l k) shown_is ∙ aside (held_sets held) (rows_in change.rows) k differ in
              subst (AreNew (set_at old k) (set_at end k)) (sym rows_are) (m.outs k out (wider k differ lacks))
        ];
      }

    -- ---- a head that grows, one that is kept, and one that isn't

    -- it began with nothing, or is a table
    plainly : grows_at growing h ≡ false → set_of ruled ≡ set_of (set_at m.sets h ++ ruled)
    plainly none = ap (λ (rows : List Row). set_of (rows ++ ruled)) (sym (m.at.fresh h (inl refl) (no_table a rules growing lasting tables now st h none)))

    past_is : grows_at growing h ≡ false → set_of (ruled_at a.form m.past h) ≡ before
    past_is none = past_head a rules growing lasting tables now st m.sets h left m.at m.past m.seen m.view (no_table a rules growing lasting tables now st h none)

    never : grows_at growing h ≡ false → IsTrue (grows_at growing h) → ⊥
    never none t = true≢false (sym t ∙ none)

    grown_is : IsTrue (grows_at growing h) → set_of (set_at parts.rows.items h ++ ruled) ≡ set_of (set_at m.sets h ++ ruled)
    grown_is grow = ap (λ (rows : List Row). set_of (rows ++ ruled)) (m.rows_left h grow (inl refl)) ∙ grown_head a rules growing lasting tables now st m.sets h left m.at m.past m.seen m.view grow (m.start_is h (inl refl))

    grown_taken : (parts2 : Parts) (change : Change) → IsTrue (grows_at growing h) → GrowsHead rules h parts.plans.items held mid_ready (set_at parts.rows.items h) (set_at parts2.rows.items h) parts2.plans.items (Ok change) → IsTaken parts2 change
    grown_taken parts2 change grow (is, fit, kept, e, none, plans) =
        let made = set_at parts2.rows.items h in
        let more = rows_in change.rows in
        let own : Extends before made more = subst (λ (rows : List Row). Extends rows made more) (m.rows_left h grow (inl refl)) e in
        let turns = grown_turns before made change kept own none (fit made (inl refl)) in
        let last : IsTrue (lasts_at lasting h) = both a rules growing lasting tables now st h grow in
        let turned = (turned_of before made change turns kept).0 in
        record {
          made = made;
          shown = made;
          is = is ∙ grown_is grow;
          fit = fit;
          turned = (kept ∙ sym last, turns);
          inside = λ q x. x;
          plain = λ o. refl;
          grew = λ t. record { old_sorted = own.sorted; new_sorted = turned.new_sorted; within = old_is_in before made more own };
          rows = λ t. refl;
          bag = λ bag at no. absurd (never no grow);
          plans = plans;
          news = λ out. record { only = λ q x. (came before made more (rows_in change.gone) turned q x).0; all = comes before made more (rows_in change.gone) turned };
        }

    turned_taken : (parts2 : Parts) (change : Change) (is : Bag) → slice_get parts2.bags.items h ≡ Some is → grows_at growing h ≡ false → IsTrue (lasts_at lasting h) → TurnsHead rules h parts.plans.items held mid_ready is parts2.plans.items (Ok change) → IsTaken parts2 change
    turned_taken parts2 change is at none last ((kept, turns), given, fit, plans) =
        let made = set_of ruled in
        let more = rows_in change.rows in
        let own : Turns before made change = subst (λ (rows : List Row). Turns rows made change) (past_is none) turns in
        let turned = (turned_of before made change own kept).0 in
        record {
          made = made;
          shown = made;
          is = plainly none;
          fit = fit;
          turned = (kept ∙ sym last, own);
          inside = λ q x. x;
          plain = λ o. refl;
          grew = λ t. absurd (never none t);
          rows = λ t. absurd (never none t);
          bag = λ bag here no. subst (λ (b : Bag). HasGiven lasting m.seen rules h b) (same_Some is bag (sym at ∙ here)) given;
          plans = plans;
          news = λ out. record { only = λ q x. (came before made more (rows_in change.gone) turned q x).0; all = comes before made more (rows_in change.gone) turned };
        }

    made_taken : (parts2 : Parts) (change : Change) (is : Bag) (whole : Bool) → slice_get parts2.bags.items h ≡ Some is → grows_at growing h ≡ false → lasts_at lasting h ≡ false → IsRecordSet (rows_in change.rows) → (kind_at a.form.collections h ≢ Some Output → IsTrue whole) → MakesHead rules h parts.plans.items held mid_ready whole is parts2.plans.items (Ok change) → IsTaken parts2 change
    made_taken parts2 change is whole at none passing set asked (kept, made, given, plans) =
        let shown = rows_in change.rows in
        record {
          made = set_of ruled;
          shown = shown;
          is = plainly none;
          fit = made.fit;
          turned = (kept ∙ sym passing, record { sorted = set.sorted; few = set.small; rows = subst (λ (b : Bool). HasTurned b before shown shown (rows_in change.gone)) (sym kept) refl });
          inside = made.news.only;
          plain = λ o. made.all (asked o);
          grew = λ t. absurd (never none t);
          rows = λ t. absurd (never none t);
          bag = λ bag here no. subst (λ (b : Bag). HasGiven lasting m.seen rules h b) (same_Some is bag (sym at ∙ here)) given;
          plans = plans;
          news = λ out. subst (λ (rows : List Row). AreNew rows (set_of ruled) shown) (past_is none) made.news;
        }

    -- ---- the next head, or a fault

    -- each collection has a bag
    bag_at : (bags : List Bag) → length bags ≡ length cs → (bag : Bag) × (slice_get bags h ≡ Some bag)
    bag_at bags many = elim (slice_get_cases bags h).1 [ inl there ↦ (there.0, there.2) | inr past ↦ absurd (omega (arith, past.0, many, mid_within)) ]

    pub head_next : (parts2 : Parts) (held2 : List Change) (change : Change) (whole : Bool) → HasChanged parts2 whole (Ok change) → held2 ≡ slice_set held h change → IsRecordSet (rows_in change.rows) → (kind_at a.form.collections h ≢ Some Output → IsTrue whole) → IsMid parts2 held2 left
    head_next parts2 held2 change whole c put set asked =
        let was = bag_at parts.bags.items m.bags_many in
        let is = bag_at parts2.bags.items (c.bags ∙ m.bags_many) in
        mid_next parts2 held2 change whole c put (elim (cases_Bool (grows_at growing h)) [
          | inl grow ↦ grown_taken parts2 change grow (c.grown (mid_old grow) grow)
          | inr none ↦
              let given = mid_given was.0 was.1 none in
              elim (cases_Bool (lasts_at lasting h)) [
                | inl last ↦ turned_taken parts2 change is.0 is.1 none last (c.turned was.0 is.0 was.1 is.1 given (mid_last none last) none last)
                | inr passing ↦ made_taken parts2 change is.0 whole is.1 none passing set asked (c.made was.0 is.0 was.1 is.1 given none passing)
              ]
        ])

    over_now : (rows : List Row) → rows ≡ set_of (set_at m.sets h ++ ruled) → SomeIsOver (rows ∷ head_sets a m.seen h) → SomeIsOver (counted_sets a tables now)
    over_now rows is over =
        let own = subst (λ (l : List Row). SomeIsOver (l ∷ head_sets a m.seen h)) is over in
        let refused = takes_none a rules growing lasting tables now st m.sets h left m.at m.past m.seen m.view m.sets TooManyRows (λ e. own) in
        let all : TakesHeads {X = Unit {0}} a (at_start a.form.collections tables now) m.sets (Err TooManyRows) =
        at_refused a (runnable a st.checked) (at_start a.form.collections tables now) m.sets h left m.at (Unit {0}) (Unit {0}) m.sets m.sets TooManyRows refused in
        all

    pub head_refused : (parts2 : Parts) (whole : Bool) (fault : SetFault) → HasChanged parts2 whole (Err fault) → fault ≡ TooManyRows → SomeIsOver (counted_sets a tables now)
    head_refused parts2 whole fault changed many =
        let c : HasChanged parts2 whole (Err TooManyRows) = subst (λ (f : SetFault). HasChanged parts2 whole (Err f)) many changed in
        let was = bag_at parts.bags.items m.bags_many in
        let is = bag_at parts2.bags.items (c.bags ∙ m.bags_many) in
        elim (cases_Bool (grows_at growing h)) [
          | inl grow ↦ over_now (set_of (set_at parts.rows.items h ++ ruled)) (grown_is grow) (c.grown (mid_old grow) grow)
          | inr none ↦
              let given = mid_given was.0 was.1 none in
              elim (cases_Bool (lasts_at lasting h)) [
                | inl last ↦ over_now (set_of ruled) (plainly none) (c.turned was.0 is.0 was.1 is.1 given (mid_last none last) none last)
                | inr passing ↦ over_now (set_of ruled) (plainly none) (c.made was.0 is.0 was.1 is.1 given none passing)
              ]
        ]

  -- ---- the heads one after the other

  -- one of those that are left
  pub mid_one : (parts : Parts) (held own : List Change) (read : List ℕ) (i : ℕ) → own ≡ held → read ≡ a.heads → i < length read → IsMid parts held (drop i a.heads) → IsMid parts own (get_or read i 0 ∷ drop (i + 1) a.heads)
  mid_one parts held own read i same is lt m = one_left (IsMid parts own) a.heads read i is lt (subst (λ (l : List Change). IsMid parts l (drop i a.heads)) (sym same) m)

  -- none is left
  pub mid_none : (parts : Parts) (held : List Change) (read : List ℕ) (i : ℕ) → read ≡ a.heads → length read ≤ i → IsMid parts held (drop i a.heads) → IsMid parts held []
  mid_none parts held read i is le m = subst (IsMid parts held) (drop_all i a.heads (omega (arith, le, ap (length {A = ℕ}) is))) m
