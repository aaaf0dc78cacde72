-- The beginning and the end of the heads of a step: what is kept stands for the tables of before, and then for the new ones.
use Rattle.std.proofs.Common.{◌≡◌, ◌≢◌, ℕ, zero, suc, Bool, true, false, cond, IsTrue, ◌∷◌, [], map, List, length, Option, None, Some, refl, ap, ◌∙◌, sym, subst, ◌⊎◌, inl, inr, arith}
use Rattle.std.specs.Prelude.{slice_get}
use Rattle.std.specs.List.{range_with_len, AllZip}
use Rattle.std.proofs.lemmas.Bool.{cases_Bool, cases_lt, true≢false}
use Rattle.std.proofs.lemmas.List.{get_or_past, length-map}
use Rattle.std.proofs.lemmas.List.FromFn.{length-map-range_with_len, get_or-map-range_with_len}
use Rattle.std.proofs.lemmas.Option.{same_Some}
use Rattle.std.proofs.lemmas.Slice.Zip.{AllZip-long}
use Rattle.blz_value.specs.Members.{Has}
use Rattle.blz_value.specs.Record.{Row}
use Rattle.blz_value.proofs.Options.{Has-slice_get as got_has}
use Rattle.blz_value.proofs.Lists.{past_none}
use Rattle.blz_set.specs.RecordSet.{IsRecordSet}
use Rattle.blz_set.proofs.RecordSets.{none_is_set}
use Rattle.bloom_forms.specs.declared.module.Kind.{Kind}
use Rattle.bloom_forms.specs.declared.module.Kind.TheVariants.{Input, Output, Table, Scratch}
use Rattle.bloom_forms.specs.declared.module.Collection.{Collection}
use Rattle.bloom_forms.specs.declared.numbered.NumberedRule.{NumberedRule}
use Rattle.bloom_forms.specs.declared.program.Program.TheVariants.{Module}
use Rattle.bloom_forms.specs.Form.{Accepted}
use Rattle.bloom_forms.specs.Kinds.{same_kind, kind_at, place_in_kind}
use Rattle.bloom_forms.specs.ProgramStep.{no_arrivals}
use Rattle.bloom_forms.specs.Step.{Sets, set_at, begun, begun_at, at_start, at_end, sets_of_kind, tables_after}
use Rattle.bloom_forms.specs.Widths.{AreWide}
use Rattle.bloom_forms.proofs.Collections.Numbers.{derived_or, set-of_kind}
use Rattle.bloom_forms.proofs.Ends.Equated.{starts, length-at_end}
use Rattle.bloom_forms.proofs.Ends.SameEnds.{one_kind}
use Rattle.bloom_eval.specs.Taken.{AreSetsOfAll}
use Rattle.bloom_eval.specs.StepAnswers.{AllFit, counted_sets}
use Rattle.bloom_eval.proofs.Runnable.{runnable}
use Rattle.bloom_eval.proofs.Taking.{at_first, at_last}
use Rattle.bloom_eval.proofs.Widths.{columns_at, wide_at, all_wide, are_begun}
use Rattle.bloom_growth.proofs.BagsLemmas.{extends_none}
use Rattle.bloom_parts.specs.declared.change.Change.{Change}
use Rattle.bloom_parts.specs.Turns.{HasTurnedAt, rows_in, HasTurned, Turns}
use Rattle.bloom_index.specs.declared.plan.Plan.{Plan}
use Rattle.bloom_index.specs.declared.step.Parts.{Parts}
use Rattle.bloom_index.specs.Code.Evaluation.{Stands}
use Rattle.bloom_index.specs.Code.Growth.{grows_at, kind_grows, rules_grow, IsGrown}
use Rattle.bloom_index.specs.Code.Heads.{AreNew}
use Rattle.bloom_index.specs.Code.Kept.{tables_in, held_over, PlansStand, BagsStand, PartsStand, PutsOut}
use Rattle.bloom_index.specs.Code.Lasting.{lasts_at, rules_last}
use Rattle.bloom_index.specs.Code.Plans.{rules_by}
use Rattle.bloom_index.specs.Code.StepSets.{held_sets, IsBegunAt, AreBegunAt}
use Rattle.bloom_index.proofs.KeptLemmas.{still_ends, quiet_wide}
use Rattle.bloom_index.proofs.PlanRules.{rules_stand, plans_numbered, rules_are, plans_stand}
use Rattle.bloom_index.proofs.StandsAfter.{plans_begin, bags_begin, AreEnded, tables_ended, parts_ended}
use Rattle.bloom_index.proofs.StandsAlong.{given_along}
use Rattle.bloom_index.proofs.StepHeads.{form_of, IsStep, quiet, both}
use Rattle.bloom_index.proofs.StepNext.{grown_turns, IsMid}

-- ---- lists side by side

pub zip_at : {X Y : Type 0} (R : X → Y → Type 0) (xs : List X) (ys : List Y) (k : ℕ) (x : X) (y : Y) → AllZip R xs ys → slice_get xs k ≡ Some x → slice_get ys k ≡ Some y → R x y
zip_at R [] [] k x y all at also = absurd (let bad : None ≡ Some x = at in cc)
zip_at R [] (z ∷ ys) k x y all at also = absurd all
zip_at R (z ∷ xs) [] k x y all at also = absurd all
zip_at {X = X} {Y = Y} R (u ∷ xs) (v ∷ ys) zero x y all at also =
    let first = same_Some u x at in
    let second = same_Some v y also in
    subst (λ (w : X). R w y) first (subst (R u) second all.0)
zip_at R (u ∷ xs) (v ∷ ys) (suc k) x y all at also = zip_at R xs ys k x y all.1 at also

pub zip_from : {X Y : Type 0} (R : X → Y → Type 0) (xs : List X) (ys : List Y) → length ys ≡ length xs → ((k : ℕ) (x : X) (y : Y) → slice_get xs k ≡ Some x → slice_get ys k ≡ Some y → R x y) → AllZip R xs ys
zip_from R [] [] many each = tt
zip_from R [] (v ∷ ys) many each = absurd (omega (arith, many))
zip_from R (u ∷ xs) [] many each = absurd (omega (arith, many))
zip_from R (u ∷ xs) (v ∷ ys) many each = (each 0 u v refl refl, zip_from R xs ys (omega (arith, many)) (λ k x y at also. each (suc k) x y at also))

-- ---- three lists of sets by kinds

-- a fact on three sets for each collection of a kind, by its place among these
kinds_by3 : (R : List Row → List Row → List Row → Type 0) → R [] [] [] → (kind : Kind) (cs : List Collection) (xs ys zs : Sets) → length xs ≡ length cs → length ys ≡ length cs → length zs ≡ length cs → ((k : ℕ) → kind_at cs k ≡ Some kind → R (set_at xs k) (set_at ys k) (set_at zs k)) → (place : ℕ) → R (set_at (sets_of_kind kind cs xs) place) (set_at (sets_of_kind kind cs ys) place) (set_at (sets_of_kind kind cs zs) place)
kinds_by3 R none kind [] xs ys zs many also third each place = none
kinds_by3 R none kind (c ∷ cs) [] ys zs many also third each place = absurd (omega (arith, many))
kinds_by3 R none kind (c ∷ cs) (x ∷ xs) [] zs many also third each place = absurd (omega (arith, also))
kinds_by3 R none kind (c ∷ cs) (x ∷ xs) (y ∷ ys) [] many also third each place = absurd (omega (arith, third))
kinds_by3 R none kind (c ∷ cs) (x ∷ xs) (y ∷ ys) (z ∷ zs) many also third each place =
    go (same_kind kind c.kind) refl place (kinds_by3 R none kind cs xs ys zs (omega (arith, many)) (omega (arith, also)) (omega (arith, third)) (λ k is. each (suc k) is))
  where
    go : (b : Bool) → same_kind kind c.kind ≡ b → (place : ℕ) → ((place : ℕ) → R (set_at (sets_of_kind kind cs xs) place) (set_at (sets_of_kind kind cs ys) place) (set_at (sets_of_kind kind cs zs) place)) → R (set_at (sets_of_kind kind (c ∷ cs) (x ∷ xs)) place) (set_at (sets_of_kind kind (c ∷ cs) (y ∷ ys)) place) (set_at (sets_of_kind kind (c ∷ cs) (z ∷ zs)) place)
    go true t zero more = rw t (each 0 (ap Some (one_kind kind c.kind t)))
    go true t (suc place) more = rw t (more place)
    go false f place more = rw f (more place)

-- lists of sets for the same collections have as many of a kind
same_count : (kind : Kind) (cs : List Collection) (xs ys : Sets) → length xs ≡ length cs → length ys ≡ length cs → length (sets_of_kind kind cs xs) ≡ length (sets_of_kind kind cs ys)
same_count kind [] xs ys many also = refl
same_count kind (c ∷ cs) [] ys many also = absurd (omega (arith, many))
same_count kind (c ∷ cs) (x ∷ xs) [] many also = absurd (omega (arith, also))
same_count kind (c ∷ cs) (x ∷ xs) (y ∷ ys) many also = elim (cases_Bool (same_kind kind c.kind)) [
  | inl t ↦ rw t (ap suc (same_count kind cs xs ys (omega (arith, many)) (omega (arith, also))))
  | inr f ↦ rw f (same_count kind cs xs ys (omega (arith, many)) (omega (arith, also)))
]

-- ---- kinds of what is kept

-- what is kept is no port
kept_kind : (o : Option Kind) (ruled : Bool) → kind_grows o ruled ≡ true → (o ≡ Some Table) ⊎ ((o ≡ Some Output) ⊎ (o ≡ Some Scratch))
kept_kind None ruled t = absurd (true≢false (sym t))
kept_kind (Some Input) ruled t = absurd (true≢false (sym t))
kept_kind (Some Output) ruled t = inr (inl refl)
kept_kind (Some Table) ruled t = inl refl
kept_kind (Some Scratch) ruled t = inr (inr refl)

-- a collection that is no table begins with what arrives
begun_without : (o : Option Kind) (table port : List Row) → o ≢ Some Table → begun o [] port ≡ begun o table port
begun_without None table port other = refl
begun_without (Some Input) table port other = refl
begun_without (Some Output) table port other = refl
begun_without (Some Table) table port other = absurd (other refl)
begun_without (Some Scratch) table port other = refl

-- ---- the beginning

module _ (a : Accepted) (rules : List NumberedRule) (growing lasting : List Bool) (tables now : Sets) (st : IsStep a rules growing lasting tables now) where
  abbrev cs : List Collection
  cs = a.form.collections

  abbrev old : Sets
  old = quiet a tables

  abbrev first : Sets
  first = at_start a.form.collections tables now

  abbrev end : Sets
  end = at_end a tables now

  lasts_kind : (k : ℕ) → IsTrue (lasts_at lasting k) → (kind_at cs k ≡ Some Table) ⊎ ((kind_at cs k ≡ Some Output) ⊎ (kind_at cs k ≡ Some Scratch))
  lasts_kind k l = kept_kind (kind_at cs k) (rules_last a.form k) (sym (st.last.each k) ∙ l)

  -- what is no head is not kept, and doesn't grow
  no_head : (ruled : Bool) (k : ℕ) → ¬ Has k a.heads → kind_grows (kind_at cs k) ruled ≡ false
  no_head ruled k lacks = elim (derived_or cs k) [
    | inl derived ↦ absurd (lacks (st.checked.ordered.all k derived))
    | inr other ↦ elim other [ inl e ↦ ap (λ (o : Option Kind). kind_grows o ruled) e | inr e ↦ ap (λ (o : Option Kind). kind_grows o ruled) e ]
  ]

  begins : (k : ℕ) (o : Option Kind) → kind_at cs k ≡ o → set_at first k ≡ begun o (set_at tables (place_in_kind Table cs k)) (set_at now (place_in_kind Input cs k))
  begins k o is = starts cs tables now k ∙ ap (λ (p : Option Kind). begun p (set_at tables (place_in_kind Table cs k)) (set_at now (place_in_kind Input cs k))) is

  -- what is kept begins with a set that isn't too large
  start_set : (rows : Sets) → ((k : ℕ) → IsRecordSet (set_at rows k)) → tables ≡ tables_in a rows → length rows ≡ length cs → (k : ℕ) → IsTrue (lasts_at lasting k) → IsRecordSet (set_at first k)
  start_set rows sets are many k l = elim (lasts_kind k l) [
    | inl e ↦ subst IsRecordSet (sym (begins k (Some Table) e ∙ ap (λ (l : Sets). set_at l (place_in_kind Table cs k)) are ∙ set-of_kind Table cs rows k many e)) (sets k)
    | inr other ↦ elim other [
      | inl e ↦ subst IsRecordSet (sym (begins k (Some Output) e)) none_is_set
      | inr e ↦ subst IsRecordSet (sym (begins k (Some Scratch) e)) none_is_set
    ]
  ]

  -- and has nothing new
  begun_none : (k : ℕ) → IsTrue (lasts_at lasting k) → set_at (at_start cs [] now) k ≡ []
  begun_none k l =
      let at : (o : Option Kind) → kind_at cs k ≡ o → set_at (at_start cs [] now) k ≡ begun o (set_at [] (place_in_kind Table cs k)) (set_at now (place_in_kind Input cs k)) = λ o is. starts cs [] now k ∙ ap (λ (p : Option Kind). begun p (set_at [] (place_in_kind Table cs k)) (set_at now (place_in_kind Input cs k))) is in
      elim (lasts_kind k l) [
        | inl e ↦ at (Some Table) e
        | inr other ↦ elim other [ inl e ↦ at (Some Output) e | inr e ↦ at (Some Scratch) e ]
      ]

  -- what isn't kept is no table, and begins with what arrives
  begun_all : (k : ℕ) → lasts_at lasting k ≡ false → set_at (at_start cs [] now) k ≡ set_at first k
  begun_all k passing =
      starts cs [] now k
      ∙ begun_without (kind_at cs k) (set_at tables (place_in_kind Table cs k)) (set_at now (place_in_kind Input cs k)) (λ is. true≢false (sym (st.last.each k ∙ ap (λ (o : Option Kind). kind_grows o (rules_last a.form k)) is) ∙ passing))
      ∙ sym (starts cs tables now k)

  -- what evaluation takes for old: what is kept and isn't taken begins anew, anything else has what it has with nothing arriving
  abbrev first_past : ℕ → List Row
  first_past k = cond (lasts_at lasting k) (set_at first k) (set_at old k)

  abbrev past : Sets
  past = map first_past (range_with_len 0 (length cs))

  past_at : (k : ℕ) (b : Bool) → lasts_at lasting k ≡ b → set_at past k ≡ cond b (set_at first k) (set_at old k)
  past_at k b is = elim (cases_lt k (length cs)) [
    | inl lt ↦ get_or-map-range_with_len first_past 0 (length cs) k k [] lt (omega arith)
    | inr le ↦
        get_or_past past k [] (omega (arith, le, length-map-range_with_len first_past 0 (length cs)))
        ∙ sym (get_or_past old k [] (omega (arith, le, length-at_end a tables (no_arrivals (Module a)))))
        ∙ sym (ap (λ (c : Bool). cond c (set_at first k) (set_at old k)) (get_or_past lasting k false (omega (arith, le, st.last.many))))
  ] ∙ ap (λ (c : Bool). cond c (set_at first k) (set_at old k)) is

  first_wide : AreSetsOfAll cs first
  first_wide = (are_begun cs tables now st.kept st.ports).wide

  past_wide : AreSetsOfAll cs past
  past_wide = all_wide cs past (length-map-range_with_len first_past 0 (length cs)) (λ k. elim (cases_Bool (lasts_at lasting k)) [
    | inl l ↦ subst (λ (rows : List Row). AreWide (length (columns_at cs k)) rows) (sym (past_at k true l)) (wide_at cs first first_wide k)
    | inr passing ↦ subst (λ (rows : List Row). AreWide (length (columns_at cs k)) rows) (sym (past_at k false passing)) (wide_at cs old (quiet_wide a st.checked tables st.kept) k)
  ])

  -- a rule's head is one of the heads
  rule_head : (rule : NumberedRule) → Has rule rules → Has rule.head a.heads
  rule_head rule among =
      let f = form_of cs a.form.rules rules st.numbered rule among in
      subst (λ (n : ℕ). Has n a.heads) (sym f.2.head) ((runnable a st.checked).rules f.0 f.1).head

  module _ (parts : Parts) (held : List Change) (stands : PartsStand a parts) (growing_is : parts.growing.items ≡ growing) (lasting_is : parts.lasting.items ≡ lasting) (tables_are : tables ≡ tables_in a parts.rows.items) (rules_is : rules_by a.form.collections a.form.rules parts.plans.items ≡ rules) (sets : (k : ℕ) → IsRecordSet (set_at parts.rows.items k)) (begun_by : AreBegunAt a.form.collections lasting now (length a.form.collections) held) where
    turned_at : (k : ℕ) (o : Option Change) → slice_get held k ≡ o → HasTurnedAt (lasts_at lasting k) (set_at past k) (set_at first k) o
    turned_at k None at =
        let le = past_none held k at in (
          get_or_past first k [] (omega (arith, le, begun_by.many, length-map-range_with_len (begun_at cs tables now) 0 (length cs))),
          get_or_past lasting k false (omega (arith, le, begun_by.many, st.last.many)),
        )
    turned_at k (Some change) at =
        let b : IsBegunAt cs lasting now k change = begun_by.each k change at in
        let rows = rows_in change.rows in
        let is = set_at first k in (
          b.kept,
          elim (cases_Bool (lasts_at lasting k)) [
            | inl l ↦
                let own = start_set parts.rows.items sets tables_are stands.many k l in
                subst (λ (l : List Row). Turns l is change) (sym (past_at k true l)) (grown_turns is is change (b.kept ∙ l) (extends_none is rows own.sorted (b.rows ∙ begun_none k l)) b.none_gone own.small)
            | inr passing ↦
                let same : rows ≡ is = b.rows ∙ begun_all k passing in
                let own : IsRecordSet is = subst IsRecordSet same b.set in
                record { sorted = own.sorted; few = own.small; rows = subst (λ (f : Bool). HasTurned f (set_at past k) is rows (rows_in change.gone)) (sym (b.kept ∙ passing)) same }
          ],
        )

    abbrev BodyStands : NumberedRule → Plan → Type 0
    BodyStands rule plan = Stands growing lasting old rule.body plan

    plans_over : AllZip BodyStands rules parts.plans.items
    plans_over =
        let plans = plans_begin a st.checked growing lasting tables st.still parts.plans.items (subst (λ (X : Type 0). X) (λ i. PlansStand (growing_is i) (lasting_is i) (held_over a (sym tables_are i)) parts.plans.items) stands.plans) in
        subst (λ (l : List NumberedRule). AllZip BodyStands l parts.plans.items) rules_is (rules_stand a.form.collections growing lasting old a.form.rules parts.plans.items stands.numbered plans)

    bags_over : BagsStand growing lasting (quiet a tables) rules parts.bags.items
    bags_over = bags_begin a st.checked growing lasting tables st.still rules parts.bags.items (subst (λ (X : Type 0). X) (λ i. BagsStand (growing_is i) (lasting_is i) (held_over a (sym tables_are i)) (rules_is i) parts.bags.items) stands.bags)

    -- before the first head
    pub mid_starts : IsMid a rules growing lasting tables now st parts held a.heads
    mid_starts = record {
      sets = first;
      past = past;
      seen = first;
      at = at_first a first (runnable a st.checked) (are_begun cs tables now st.kept st.ports);
      view = record {
        seen_is = λ k out. refl;
        past_is = λ k lacks. past_at k false (st.last.each k ∙ no_head (rules_last a.form k) k lacks);
        grew = λ k g. let l = both a rules growing lasting tables now st k g in
            let own = start_set parts.rows.items sets tables_are stands.many k l in
            subst (λ (l : List Row). IsGrown l (set_at first k)) (sym (past_at k true l)) (record { old_sorted = own.sorted; new_sorted = own.sorted; within = λ q h. h });
      };
      start_is = λ k has. refl;
      turned = λ k. turned_at k (slice_get held k) refl;
      wide_old = past_wide;
      wide = first_wide;
      held_many = begun_by.many;
      growing_is = growing_is;
      lasting_is = lasting_is;
      rows_many = stands.many;
      rows_left = λ k g has. stands.rows k (ap (λ (l : List Bool). grows_at l k) growing_is ∙ g) ∙ ap (λ (l : Sets). set_at (held_over a l) k) (sym tables_are) ∙ sym (still_ends a st.checked tables st.still k);
      rows_done = λ k g lacks. absurd (true≢false (sym g ∙ st.are.each k ∙ no_head (rules_grow a.form k) k lacks));
      bags_many = stands.many_bags;
      bags_left = λ k bag at none has. bags_over k bag at none;
      bags_done = λ k bag at none lacks. given_along lasting old end rules k bag (λ rule among own. absurd (lacks (subst (λ (j : ℕ). Has j a.heads) own (rule_head rule among)))) (bags_over k bag at none);
      plans_many = AllZip-long BodyStands rules parts.plans.items plans_over;
      plans_left = λ j rule plan at kept has. zip_at BodyStands rules parts.plans.items j rule plan plans_over at kept;
      plans_done = λ j rule plan at kept lacks. absurd (lacks (rule_head rule (got_has rules j rule at)));
      outs = λ k out lacks. absurd (elim (derived_or cs k) [
        | inl derived ↦ lacks (st.checked.ordered.all k derived)
        | inr other ↦ elim other [
          | inl e ↦ let bad : None ≡ Some Output = sym e ∙ out in cc
          | inr e ↦ let bad : Some Input ≡ Some Output = sym e ∙ out in cc
        ]
      ]);
    }

  -- ---- the end

  module _ (parts : Parts) (held : List Change) (m : IsMid a rules growing lasting tables now st parts held []) where
    -- each plan stands for its rule
    all_stand : AllZip (λ (rule : NumberedRule) (plan : Plan). Stands growing lasting end rule.body plan) rules parts.plans.items
    all_stand = zip_from (λ (rule : NumberedRule) (plan : Plan). Stands growing lasting end rule.body plan) rules parts.plans.items m.plans_many (λ j rule plan at kept. m.plans_done j rule plan at kept (λ none. none))

    ended : AreEnded a growing lasting tables now parts
    ended = record {
      many = m.rows_many;
      many_bags = m.bags_many;
      growing_is = m.growing_is;
      lasting_is = m.lasting_is;
      rows = λ k g. m.rows_done k g (λ none. none);
      numbered = plans_numbered a.form.collections growing lasting end a.form.rules rules parts.plans.items st.numbered all_stand;
      plans = plans_stand a.form.collections growing lasting end rules parts.plans.items all_stand;
      bags = subst (λ (l : List NumberedRule). BagsStand growing lasting end l parts.bags.items) (sym (rules_are a.form.collections growing lasting end a.form.rules rules parts.plans.items st.numbered all_stand)) (λ k bag at none. m.bags_done k bag at none (λ lacks. lacks));
    }

    -- what is kept stands for the new tables
    pub tables_end : tables_in a parts.rows.items ≡ tables_after a tables now
    tables_end = tables_ended a st.checked growing lasting st.are st.last (both a rules growing lasting tables now st) tables now parts ended

    pub parts_end : PartsStand a parts
    parts_end = parts_ended a st.checked growing lasting st.are st.last (both a rules growing lasting tables now st) tables now parts ended st.kept st.ports

    pub fits_end : AllFit (counted_sets a tables now)
    fits_end = (at_last (Unit {0}) a first m.sets (runnable a st.checked) m.at (tt {0})).1

    -- what is put out
    pub puts_out : (outs : Sets) → outs ≡ sets_of_kind Output a.form.collections (held_sets held) → PutsOut a tables now outs
    puts_out outs are =
        let many = length-map held (λ (change : Change). rows_in change.rows) ∙ m.held_many in
        let by_place : (place : ℕ) → AreNew (set_at (sets_of_kind Output cs old) place) (set_at (sets_of_kind Output cs end) place) (set_at (sets_of_kind Output cs (held_sets held)) place) =
        kinds_by3 (λ (was is rows : List Row). AreNew was is rows) (record { only = λ q h. h; all = λ q h lacks. h }) Output cs old end (held_sets held) (length-at_end a tables (no_arrivals (Module a))) (length-at_end a tables now) many
        (λ k out. m.outs k out (λ none. none)) in
        subst (PutsOut a tables now) (sym are) (record {
          many = same_count Output cs (held_sets held) end many (length-at_end a tables now);
          only = λ place row h. (by_place place).only row h;
          new = λ place row h lacks. (by_place place).all row h lacks;
        })
