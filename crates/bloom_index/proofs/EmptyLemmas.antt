-- What is kept of a module before its first step stands for empty tables.
use Rattle.std.proofs.Common.{◌≡◌, ◌<◌, ◌+◌, ℕ, List, [], ◌∷◌, ◌++◌, length, take, map, get_or, refl, ap, ◌∙◌, sym, subst, inl, inr}
use Rattle.std.specs.List.{AllZip}
use Rattle.std.proofs.lemmas.Bool.{cases_Bool}
use Rattle.std.proofs.lemmas.List.{length-append, length-map, take_more}
use Rattle.std.proofs.lemmas.Slice.Zip.{all_zipped_more}
use Rattle.blz_value.specs.Record.{Row}
use Rattle.blz_value.proofs.Membership.{Has-append_cases}
use Rattle.blz_value.proofs.Options.{Has-slice_get}
use Rattle.bloom_eval.proofs.EmptyTables.{empties_wide}
use Rattle.bloom_forms.specs.declared.module.Kind.{Kind}
use Rattle.bloom_forms.specs.declared.module.Kind.TheVariants.{Table}
use Rattle.bloom_forms.specs.declared.module.Collection.{Collection}
use Rattle.bloom_forms.specs.declared.numbered.NumberedRule.{NumberedRule}
use Rattle.bloom_forms.specs.declared.program.Program.TheVariants.{Module}
use Rattle.bloom_forms.specs.Form.{Accepted}
use Rattle.bloom_forms.specs.Kinds.{same_kind}
use Rattle.bloom_forms.specs.Numbered.{AreNumbered}
use Rattle.bloom_forms.specs.Program.{columns_of_kind}
use Rattle.bloom_forms.specs.ProgramStep.{no_arrivals, empty_tables}
use Rattle.bloom_forms.specs.Query.{Name}
use Rattle.bloom_forms.specs.Step.{Sets, set_at, sets_of_kind, at_end, tables_after}
use Rattle.bloom_forms.specs.Widths.{AreSetsOf}
use Rattle.bloom_forms.proofs.Ends.Equated.{length-at_end}
use Rattle.bloom_forms.proofs.Ends.SameEnds.{same_by_places, none_at}
use Rattle.bloom_growth.specs.declared.bag.Bag.{Bag}
use Rattle.bloom_growth.specs.Bags.{IsBag}
use Rattle.bloom_index.specs.declared.plan.Plan.{Plan}
use Rattle.bloom_index.specs.declared.step.Parts.{Parts}
use Rattle.bloom_index.specs.Code.Emptiness.{IsFresh, AreNoBags}
use Rattle.bloom_index.specs.Code.Growth.{AreGrowing}
use Rattle.bloom_index.specs.Code.Heads.{kept_rules}
use Rattle.bloom_index.specs.Code.Kept.{tables_in, held_over, PartsStand}
use Rattle.bloom_index.specs.Code.Lasting.{AreLasting}
use Rattle.bloom_index.specs.Code.Plans.{rules_by}
use Rattle.bloom_index.proofs.Copying.{fresh_plans}
use Rattle.bloom_index.proofs.FreshLemmas.{AreEmpty, all_fresh, none_given, ends_empty, no_tables, no_ports, nothing_held}

-- ---- rules

-- one rule more
pub zip_more : {A B : Type 0} (R : A → B → Type 0) (xs : List A) (ys zs : List B) (i : ℕ) (x : A) (y : B) → i < length xs → x ≡ get_or xs i x → zs ≡ ys ++ y ∷ [] → AllZip R (take i xs) ys → R x y → AllZip R (take (i + 1) xs) zs
zip_more {A} R xs ys zs i x y lt is more all one =
    let pushed : AllZip R (take i xs ++ x ∷ []) (ys ++ y ∷ []) = all_zipped_more R (take i xs) ys x y all one in
    let taken : take (i + 1) xs ≡ take i xs ++ x ∷ [] = take_more xs i x lt ∙ ap (λ (z : A). take i xs ++ z ∷ []) (sym is) in
    subst (λ l. AllZip R l zs) (sym taken) (subst (AllZip R (take i xs ++ x ∷ [])) (sym more) pushed)

-- ---- bags

-- one bag more
pub bag_more : (i : ℕ) (bags more : List Bag) (bag : Bag) → more ≡ bags ++ bag ∷ [] → IsBag [] bag → AreNoBags i bags → AreNoBags (i + 1) more
bag_more i bags more bag is own are = subst (AreNoBags (i + 1)) (sym is) (record {
  many = length-append bags (bag ∷ []) ∙ ap (λ n. n + 1) are.many;
  each = λ b h. elim (Has-append_cases b bags (bag ∷ []) h) [
    | inl before ↦ are.each b before
    | inr last ↦ elim last [ inl e ↦ subst (λ (z : Bag). IsBag [] z) e own | inr n ↦ absurd n ]
  ];
})

-- ---- tables

-- an empty set for each collection gives one for each of a kind
none_of_kind : (kind : Kind) (cs : List Collection) → sets_of_kind kind cs (map (λ (c : Collection). []) cs) ≡ map (λ (columns : List Name). []) (columns_of_kind kind cs)
none_of_kind kind [] = refl
none_of_kind kind (c ∷ cs) = elim (cases_Bool (same_kind kind c.kind)) [
  | inl e ↦ rw e (ap (λ (sets : Sets). [] ∷ sets) (none_of_kind kind cs))
  | inr e ↦ rw e (none_of_kind kind cs)
]

pub fresh_tables : (a : Accepted) (rows : Sets) → rows ≡ map (λ (c : Collection). []) a.form.collections → tables_in a rows ≡ empty_tables (Module a)
fresh_tables a rows none = ap (sets_of_kind Table a.form.collections) none ∙ none_of_kind Table a.form.collections

module _ (a : Accepted) where
  ends_none : at_end a (empty_tables (Module a)) (no_arrivals (Module a)) ≡ map (λ (c : Collection). []) a.form.collections
  ends_none =
      let cs = a.form.collections in
      let end = at_end a (empty_tables (Module a)) (no_arrivals (Module a)) in
      same_by_places end (map (λ (c : Collection). []) cs) (length-at_end a (empty_tables (Module a)) (no_arrivals (Module a)) ∙ sym (length-map cs (λ (c : Collection). [])))
      (λ k. ends_empty a (empty_tables (Module a)) (no_arrivals (Module a)) (no_tables a) (no_ports a) k ∙ sym (none_at cs k))

  empty_still : tables_after a (empty_tables (Module a)) (no_arrivals (Module a)) ≡ empty_tables (Module a)
  empty_still = fresh_tables a (at_end a (empty_tables (Module a)) (no_arrivals (Module a))) ends_none

  -- what is kept of all
  pub parts_fresh : (parts : Parts) (rules : List NumberedRule) → AreNumbered a.form.collections a.form.rules rules → AreGrowing a parts.growing.items → AreLasting a parts.lasting.items → parts.rows.items ≡ map (λ (c : Collection). []) a.form.collections
      → AreNoBags (length a.form.collections) parts.bags.items → AllZip (λ (rule : NumberedRule) (plan : Plan). IsFresh parts.growing.items rule.body plan) rules parts.plans.items → PartsStand a parts
  parts_fresh parts rules numbered growing lasting none bags fresh =
      let cs = a.form.collections in
      let tables : tables_in a parts.rows.items ≡ empty_tables (Module a) = fresh_tables a parts.rows.items none in
      let over : Sets = held_over a (tables_in a parts.rows.items) in
      let held : AreEmpty over = subst (λ (t : Sets). AreEmpty (held_over a t)) (sym tables) (nothing_held a (empty_tables (Module a)) (no_tables a)) in
      record {
        many = ap length none ∙ length-map cs (λ (c : Collection). []);
        many_bags = bags.many;
        wide = subst (AreSetsOf (columns_of_kind Table cs)) (sym tables) (empties_wide (columns_of_kind Table cs));
        growing = growing;
        lasting = lasting;
        rows = λ number grow. ap (λ (sets : Sets). set_at sets number) none ∙ none_at cs number ∙ sym (held number);
        numbered = fresh_plans cs parts.growing.items a.form.rules rules parts.plans.items numbered fresh;
        bags = λ number bag is other needs. subst (λ (rows : List Row). IsBag rows bag) (sym (none_given over held (kept_rules parts.lasting.items (rules_by cs a.form.rules parts.plans.items) number))) (bags.each bag (Has-slice_get parts.bags.items number bag is));
        plans = all_fresh over held parts.growing.items parts.lasting.items rules parts.plans.items fresh;
        still = subst (λ (t : Sets). tables_after a t (no_arrivals (Module a)) ≡ t) (sym tables) empty_still;
      }
