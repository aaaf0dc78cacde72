-- What is kept at the end of a step stands over the new tables, which stand still.
use Rattle.std.proofs.Common.{◌≡◌, ℕ, Bool, IsTrue, List, length, Option, ap, ◌∙◌, sym, subst}
use Rattle.bloom_forms.specs.declared.module.Kind.{Kind}
use Rattle.bloom_forms.specs.declared.module.Kind.TheVariants.{Input, Table}
use Rattle.bloom_forms.specs.declared.numbered.NumberedRule.{NumberedRule}
use Rattle.bloom_forms.specs.declared.program.Program.TheVariants.{Module}
use Rattle.bloom_forms.specs.Checks.{IsChecked}
use Rattle.bloom_forms.specs.Form.{Accepted}
use Rattle.bloom_forms.specs.Laws.{StandsStill}
use Rattle.bloom_forms.specs.Program.{columns_of_kind}
use Rattle.bloom_forms.specs.ProgramStep.{no_arrivals}
use Rattle.bloom_forms.specs.Step.{Sets, set_at, at_end, tables_after}
use Rattle.bloom_forms.specs.Widths.{AreSetsOf}
use Rattle.bloom_forms.proofs.Ends.Equated.{length-at_end}
use Rattle.bloom_forms.proofs.Ends.SameEnds.{same_kinds}
use Rattle.bloom_forms.proofs.Ends.Standing.{module_stands}
use Rattle.bloom_growth.specs.declared.bag.Bag.{Bag}
use Rattle.bloom_index.specs.declared.plan.Plan.{Plan}
use Rattle.bloom_index.specs.declared.step.Parts.{Parts}
use Rattle.bloom_index.specs.Code.Growth.{grows_at, kind_grows, rules_grow, AreGrowing}
use Rattle.bloom_index.specs.Code.Kept.{tables_in, held_over, PlansStand, BagsStand, PartsStand}
use Rattle.bloom_index.specs.Code.Lasting.{lasts_at, AreLasting, GrowLast}
use Rattle.bloom_index.specs.Code.Plans.{expr_of, ArePlans, rules_by}
use Rattle.bloom_index.proofs.KeptLemmas.{still_ends, after_ends, after_wide}
use Rattle.bloom_index.proofs.StandsAlong.{agree_all, plan_along, given_along}

-- ---- sets that hold the same of what is kept

-- what is kept by plans stands over both
pub plans_along : (growing lasting : List Bool) (xs ys : Sets) → ((k : ℕ) → IsTrue (lasts_at lasting k) → set_at xs k ≡ set_at ys k) → (plans : List Plan) → PlansStand growing lasting xs plans → PlansStand growing lasting ys plans
plans_along growing lasting xs ys same plans stand m among = plan_along growing lasting xs ys m (agree_all lasting xs ys same (expr_of m)) (stand m among)

-- and so do bags
pub bags_along : (growing lasting : List Bool) (xs ys : Sets) → ((k : ℕ) → IsTrue (lasts_at lasting k) → set_at xs k ≡ set_at ys k) → (rules : List NumberedRule) (bags : List Bag) → BagsStand growing lasting xs rules bags → BagsStand growing lasting ys rules bags
bags_along growing lasting xs ys same rules bags stand number bag is other = given_along lasting xs ys rules number bag (λ rule among own. agree_all lasting xs ys same rule.body) (stand number bag is other)

module _ (a : Accepted) (checked : IsChecked a.form a.heads) (growing lasting : List Bool) where
  -- ---- the beginning of a step: what stands over tables that stand still, stands over what the collections hold with nothing arriving

  pub plans_begin : (tables : Sets) → tables_after a tables (no_arrivals (Module a)) ≡ tables → (plans : List Plan) → PlansStand growing lasting (held_over a tables) plans → PlansStand growing lasting (at_end a tables (no_arrivals (Module a))) plans
  plans_begin tables still plans stand = plans_along growing lasting (held_over a tables) (at_end a tables (no_arrivals (Module a))) (λ k t. sym (still_ends a checked tables still k)) plans stand

  pub bags_begin : (tables : Sets) → tables_after a tables (no_arrivals (Module a)) ≡ tables → (rules : List NumberedRule) (bags : List Bag) → BagsStand growing lasting (held_over a tables) rules bags → BagsStand growing lasting (at_end a tables (no_arrivals (Module a))) rules bags
  bags_begin tables still rules bags stand = bags_along growing lasting (held_over a tables) (at_end a tables (no_arrivals (Module a))) (λ k t. sym (still_ends a checked tables still k)) rules bags stand

  -- ---- its end

  module _ (are : AreLasting a lasting) (tables now : Sets) where
    pub plans_after : (plans : List Plan) → PlansStand growing lasting (at_end a tables now) plans → PlansStand growing lasting (held_over a (tables_after a tables now)) plans
    plans_after plans stand = plans_along growing lasting (at_end a tables now) (held_over a (tables_after a tables now)) (after_ends a checked lasting are tables now) plans stand

    pub bags_after : (rules : List NumberedRule) (bags : List Bag) → BagsStand growing lasting (at_end a tables now) rules bags → BagsStand growing lasting (held_over a (tables_after a tables now)) rules bags
    bags_after rules bags stand = bags_along growing lasting (at_end a tables now) (held_over a (tables_after a tables now)) (after_ends a checked lasting are tables now) rules bags stand

-- ---- all that is kept

-- what is kept stands for what the collections hold at the end of a step
pub record AreEnded (a : Accepted) (growing lasting : List Bool) (tables now : Sets) (parts : Parts) : Type 0 where
  pub many : length parts.rows.items ≡ length a.form.collections
  pub many_bags : length parts.bags.items ≡ length a.form.collections
  pub growing_is : parts.growing.items ≡ growing
  pub lasting_is : parts.lasting.items ≡ lasting
  pub rows : (k : ℕ) → IsTrue (grows_at growing k) → set_at parts.rows.items k ≡ set_at (at_end a tables now) k
  pub numbered : ArePlans a.form.collections a.form.rules parts.plans.items
  pub plans : PlansStand growing lasting (at_end a tables now) parts.plans.items
  pub bags : BagsStand growing lasting (at_end a tables now) (rules_by a.form.collections a.form.rules parts.plans.items) parts.bags.items

module _ (a : Accepted) (checked : IsChecked a.form a.heads) (growing lasting : List Bool) (grow : AreGrowing a growing) (last : AreLasting a lasting) (both : GrowLast growing lasting) (tables now : Sets) (parts : Parts) (ended : AreEnded a growing lasting tables now parts) where
  -- the tables among what is kept are the new ones
  pub tables_ended : tables_in a parts.rows.items ≡ tables_after a tables now
  tables_ended =
      same_kinds Table a.form.collections parts.rows.items (at_end a tables now) ended.many (length-at_end a tables now)
      (λ k is. ended.rows k (grow.each k ∙ ap (λ (o : Option Kind). kind_grows o (rules_grow a.form k)) is))

  -- so what is kept stands
  pub parts_ended : AreSetsOf (columns_of_kind Table a.form.collections) tables → AreSetsOf (columns_of_kind Input a.form.collections) now → PartsStand a parts
  parts_ended kept ports =
      let back : tables_after a tables now ≡ tables_in a parts.rows.items = sym tables_ended in
      let mine : growing ≡ parts.growing.items = sym ended.growing_is in
      let own : lasting ≡ parts.lasting.items = sym ended.lasting_is in
      let still : StandsStill (Module a) = module_stands a checked in
      let rules = rules_by a.form.collections a.form.rules parts.plans.items in
      record {
        many = ended.many;
        many_bags = ended.many_bags;
        wide = subst (λ (l : Sets). AreSetsOf (columns_of_kind Table a.form.collections) l) back (after_wide a checked tables now kept ports);
        growing = subst (AreGrowing a) mine grow;
        lasting = subst (AreLasting a) own last;
        rows = λ k g. let grows : IsTrue (grows_at growing k) = ap (λ (l : List Bool). grows_at l k) mine ∙ g in
            ended.rows k grows ∙ after_ends a checked lasting last tables now k (both k grows) ∙ ap (λ (l : Sets). set_at (held_over a l) k) back;
        bags = subst (λ (X : Type 0). X) (λ i. BagsStand (mine i) (own i) (held_over a (back i)) rules parts.bags.items) (bags_after a checked growing lasting last tables now rules parts.bags.items ended.bags);
        numbered = ended.numbered;
        plans = subst (λ (X : Type 0). X) (λ i. PlansStand (mine i) (own i) (held_over a (back i)) parts.plans.items) (plans_after a checked growing lasting last tables now parts.plans.items ended.plans);
        still = subst (λ (l : Sets). tables_after a l (no_arrivals (Module a)) ≡ l) back (still.tables tables now);
      }
