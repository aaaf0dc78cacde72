-- What the rules of a head give, those that are kept and the others, one rule after the other.
use Rattle.std.proofs.Common.{◌≡◌, ◌≢◌, ◌⊎◌, ◌∙◌, ℕ, ◌<◌, ◌≤◌, ◌+◌, ◌==◌, ◌&&◌, Bool, true, false, not, cond, IsTrue, Some, List, [], ◌∷◌, ◌++◌, length, filter, take, get_or, take_all, Result, Ok, Err, refl, ap, sym, subst, inl, inr, arith}
use Rattle.std.specs.Prelude.{slice_get, slice_set}
use Rattle.std.specs.Result.{IsErrAnd}
use Rattle.std.specs.List.{AllZip, flat_map}
use Rattle.std.proofs.lemmas.Bool.{cases_Bool, eq-eqb, eqb-true, ne_eqb}
use Rattle.std.proofs.lemmas.Grind.{flat_map-append}
use Rattle.std.proofs.lemmas.List.{append-nil, length-map, take_more, map-append}
use Rattle.std.proofs.lemmas.List.Elements.{filter-append}
use Rattle.std.proofs.lemmas.Option.{slice_get_read}
use Rattle.std.proofs.lemmas.Slice.Zip.{AllZip-long, all_zipped_more}
use Rattle.blz_value.specs.Members.{Has, IsWithin}
use Rattle.blz_value.specs.Record.{Row}
use Rattle.blz_value.specs.Sets.{set_of}
use Rattle.blz_value.proofs.Booleans.{and_true, both_true}
use Rattle.blz_value.proofs.Lists.{Has-take}
use Rattle.blz_value.proofs.Membership.{Has-append_cases, Has-filter, Has-from_filter, Has-flat_map, Has-from_flat_map, Has-get_or}
use Rattle.blz_value.proofs.OperatorsLemmas.{length-within}
use Rattle.blz_value.proofs.RowSets.{set_of-append_set}
use Rattle.blz_value.proofs.SetLaws.{sorted_set_of, Has-set_of, Has-from_set_of}
use Rattle.blz_set.specs.declared.fault.SetFault.{SetFault}
use Rattle.blz_set.specs.declared.fault.SetFault.TheVariants.{TooManyRows, NoMemory}
use Rattle.blz_set.proofs.RecordSets.{length-filter-le}
use Rattle.blz_set.proofs.Unions.{handed_on}
use Rattle.bloom_forms.specs.declared.module.Collection.{Collection}
use Rattle.bloom_forms.specs.declared.numbered.NumberedRule.{NumberedRule}
use Rattle.bloom_forms.specs.Form.{RuleForm}
use Rattle.bloom_forms.specs.Lookup.{declared}
use Rattle.bloom_forms.specs.Numbered.{AreNumbered}
use Rattle.bloom_forms.specs.Rows.{rows_of}
use Rattle.bloom_forms.specs.Step.{Sets, rows_named, rules_at, ruled_at, union_of}
use Rattle.bloom_eval.specs.NumberedRows.{numbered_rows, numbered_sets}
use Rattle.bloom_eval.specs.StepAnswers.{AllFit, part_sets, rule_sets}
use Rattle.bloom_eval.proofs.ByNumbers.{same_rows, same_sets}
use Rattle.bloom_parts.specs.declared.change.Change.{Change}
use Rattle.bloom_parts.specs.Bodies.{BodyRows, BodyTurns}
use Rattle.bloom_parts.specs.Turns.{rows_in, HasTurned, Turns}
use Rattle.bloom_index.specs.declared.heads.HeadParts.{HeadParts}
use Rattle.bloom_index.specs.declared.plan.Plan.{Plan}
use Rattle.bloom_index.specs.Code.Evaluation.{Evaluates}
use Rattle.bloom_index.specs.Code.HeadRules.{AreReady, AddsRule, AreTurned, MakesParts}
use Rattle.bloom_index.specs.Code.Heads.{body_of, bodies_of, kept_rules, passing_rules, rows_given}
use Rattle.bloom_index.specs.Code.Lasting.{lasts}
use Rattle.bloom_index.proofs.HeadRulesLemmas.{ready_at, none_turned, own_turned, other_turned, all_turned}

-- ---- the rules of a head by numbers

-- the rules of a head
abbrev pub own_rules : List NumberedRule → (head : ℕ) → List NumberedRule
own_rules rules head = filter (λ rule. rule.head == head) rules

-- two lists whose parts are the same, of which the first is left out in both or in none
picked : {X : Type 0} (b : Bool) (one other : List X) (rest others : List X) → one ≡ other → rest ≡ others → cond b (one ++ rest) rest ≡ cond b (other ++ others) others
picked true one other rest others e f = λ i. e i ++ f i
picked false one other rest others e f = f

picked_map : {X Y : Type 0} (f : X → List Y) (b : Bool) (x : X) (xs : List X) → flat_map f (cond b (x ∷ xs) xs) ≡ cond b (f x ++ flat_map f xs) (flat_map f xs)
picked_map f true x xs = refl
picked_map f false x xs = refl

module _ (cs : List Collection) (sets : Sets) (head : ℕ) where
  -- their rows are those of the head's rules
  pub named_rows : (forms : List RuleForm) (rules : List NumberedRule) → AreNumbered cs forms rules → rows_given sets (own_rules rules head) ≡ union_of (declared cs) (rows_named cs sets) (rules_at cs forms head)
  named_rows [] [] all = refl
  named_rows [] (r ∷ rules) all = absurd all
  named_rows (f ∷ forms) [] all = absurd all
  named_rows (f ∷ forms) (r ∷ rules) all =
      let g = λ (rule : NumberedRule). numbered_rows sets rule.body in
      let h = λ (rule : RuleForm). rows_of (declared cs) (rows_named cs sets) rule.1 in
      picked_map g (r.head == head) r (own_rules rules head)
      ∙ picked (r.head == head) (g r) (h f) (rows_given sets (own_rules rules head)) (union_of (declared cs) (rows_named cs sets) (rules_at cs forms head)) (same_rows cs sets f.1 r.body all.0.body) (named_rows forms rules all.1)
      ∙ sym (picked_map h (r.head == head) f (rules_at cs forms head))
      ∙ ap (λ (n : ℕ). union_of (declared cs) (rows_named cs sets) (cond (n == head) (f ∷ rules_at cs forms head) (rules_at cs forms head))) all.0.head

  -- and so are the rows of the parts of their bodies
  named_sets : (forms : List RuleForm) (rules : List NumberedRule) → AreNumbered cs forms rules → flat_map (λ rule. numbered_sets sets rule.body) (own_rules rules head) ≡ rule_sets (declared cs) (rows_named cs sets) (rules_at cs forms head)
  named_sets [] [] all = refl
  named_sets [] (r ∷ rules) all = absurd all
  named_sets (f ∷ forms) [] all = absurd all
  named_sets (f ∷ forms) (r ∷ rules) all =
      let g = λ (rule : NumberedRule). numbered_sets sets rule.body in
      let h = λ (rule : RuleForm). part_sets (declared cs) (rows_named cs sets) rule.1 in
      picked_map g (r.head == head) r (own_rules rules head)
      ∙ picked (r.head == head) (g r) (h f) (flat_map g (own_rules rules head)) (rule_sets (declared cs) (rows_named cs sets) (rules_at cs forms head)) (same_sets cs sets f.1 r.body all.0.body) (named_sets forms rules all.1)
      ∙ sym (picked_map h (r.head == head) f (rules_at cs forms head))
      ∙ ap (λ (n : ℕ). rule_sets (declared cs) (rows_named cs sets) (cond (n == head) (f ∷ rules_at cs forms head) (rules_at cs forms head))) all.0.head

-- those of some elements that pass, with one element more
picked_more : {X : Type 0} (p : X → Bool) (xs : List X) (i : ℕ) (x : X) → i < length xs → x ≡ get_or xs i x → (b : Bool) → p x ≡ b → filter p (take (i + 1) xs) ≡ filter p (take i xs) ++ cond b (x ∷ []) []
picked_more p xs i x lt is b e =
    ap (filter p) (take_more xs i x lt ∙ ap (λ y. take i xs ++ y ∷ []) (sym is))
    ∙ filter-append p (take i xs) (x ∷ [])
    ∙ ap (λ (c : Bool). filter p (take i xs) ++ cond c (x ∷ []) []) e

-- the rows of a part that isn't kept
rows_of_all : (old new : List Row) (part : Change) → Turns old new part → part.kept ≡ false → rows_in part.rows ≡ new
rows_of_all old new part t is = subst (λ (b : Bool). HasTurned b old new (rows_in part.rows) (rows_in part.gone)) is t.rows

-- ---- the rules so far

module _ (rules : List NumberedRule) (head : ℕ) (plans : List Plan) (held : List Change) (ready : AreReady rules head plans held) where
  -- the rows that the head's rules give
  pub ruled : (sets : Sets) → rows_given sets (own_rules rules head) ≡ ruled_at ready.a.form sets head
  ruled sets = named_rows ready.a.form.collections sets head ready.a.form.rules rules ready.numbered

  -- a rule of the head gives its rows to it
  in_ruled : (sets : Sets) (rule : NumberedRule) → Has rule rules → rule.head ≡ head → IsWithin (numbered_rows sets rule.body) (ruled_at ready.a.form sets head)
  in_ruled sets rule among same q h =
      subst (λ (l : List Row). Has q l) (ruled sets)
      (Has-flat_map (λ (r : NumberedRule). numbered_rows sets r.body) rule q (own_rules rules head) (Has-filter (λ (r : NumberedRule). r.head == head) rule rules among (eq-eqb rule.head head same)) h)

  pub passing_in : (sets : Sets) (i : ℕ) → IsWithin (rows_given sets (passing_rules ready.lasting (take i rules) head)) (ruled_at ready.a.form sets head)
  passing_in sets i q h =
      let of = Has-from_flat_map (λ (r : NumberedRule). numbered_rows sets r.body) q (passing_rules ready.lasting (take i rules) head) h in
      let own = Has-from_filter (λ (r : NumberedRule). r.head == head && not (lasts ready.lasting r.body)) of.0 (take i rules) of.1 in
      in_ruled sets of.0 (Has-take i of.0 rules own.0) (eqb-true of.0.head head (both_true (of.0.head == head) (not (lasts ready.lasting of.0.body)) own.1).0) q of.2

  pub kept_in : (sets : Sets) → IsWithin (rows_given sets (kept_rules ready.lasting rules head)) (ruled_at ready.a.form sets head)
  kept_in sets q h =
      let of = Has-from_flat_map (λ (r : NumberedRule). numbered_rows sets r.body) q (kept_rules ready.lasting rules head) h in
      let own = Has-from_filter (λ (r : NumberedRule). r.head == head && lasts ready.lasting r.body) of.0 rules of.1 in
      in_ruled sets of.0 own.0 (eqb-true of.0.head head (both_true (of.0.head == head) (lasts ready.lasting of.0.body) own.1).0) q of.2

  -- a rule is kept or not
  pub ruled_cases : (sets : Sets) (q : Row) → Has q (ruled_at ready.a.form sets head) → Has q (rows_given sets (passing_rules ready.lasting rules head)) ⊎ Has q (rows_given sets (kept_rules ready.lasting rules head))
  ruled_cases sets q h =
      let rows = λ (r : NumberedRule). numbered_rows sets r.body in
      let of = Has-from_flat_map rows q (own_rules rules head) (subst (λ (l : List Row). Has q l) (sym (ruled sets)) h) in
      let own = Has-from_filter (λ (r : NumberedRule). r.head == head) of.0 rules of.1 in
      elim (cases_Bool (lasts ready.lasting of.0.body)) [
        | inl is_kept ↦ inr (Has-flat_map rows of.0 q (kept_rules ready.lasting rules head) (Has-filter (λ (r : NumberedRule). r.head == head && lasts ready.lasting r.body) of.0 rules own.0 (and_true (of.0.head == head) (lasts ready.lasting of.0.body) own.1 is_kept)) of.2)
        | inr not_kept ↦ inl (Has-flat_map rows of.0 q (passing_rules ready.lasting rules head) (Has-filter (λ (r : NumberedRule). r.head == head && not (lasts ready.lasting r.body)) of.0 rules own.0 (and_true (of.0.head == head) (not (lasts ready.lasting of.0.body)) own.1 (ap not not_kept))) of.2)
      ]

  -- so many rules were evaluated: those that are kept changed, and the others gave the set
  pub record ArePartsAt (i : ℕ) (parts : HeadParts) (now : List Plan) : Type 0 where
    pub each : AllZip BodyTurns (bodies_of ready.old ready.new (kept_rules ready.lasting (take i rules) head)) parts.changes.items
    pub rows : rows_in parts.rows ≡ set_of (rows_given ready.new (passing_rules ready.lasting (take i rules) head))
    pub fit : (rule : NumberedRule) → Has rule (take i rules) → rule.head ≡ head → AllFit (numbered_sets ready.new rule.body)
    pub turned : AreTurned ready.growing ready.lasting ready.new rules head i plans now

  pub parts_begin : (parts : HeadParts) → parts.changes.items ≡ [] → rows_in parts.rows ≡ [] → ArePartsAt 0 parts plans
  parts_begin parts none empty = record {
    each = subst (λ (l : List Change). AllZip BodyTurns [] l) (sym none) tt;
    rows = empty;
    fit = λ rule h. absurd h;
    turned = none_turned ready.growing ready.lasting ready.new rules head plans;
  }

  module _ (i : ℕ) (rule : NumberedRule) (lt : i < length rules) (is : rule ≡ get_or rules i rule) where
    there : slice_get rules i ≡ Some rule
    there = slice_get_read rules (length rules) i rule refl lt is

    among : Has rule rules
    among = subst (λ (r : NumberedRule). Has r rules) (sym is) (Has-get_or rules i rule lt)

    kept_more : (b : Bool) → (rule.head == head && lasts ready.lasting rule.body) ≡ b → kept_rules ready.lasting (take (i + 1) rules) head ≡ kept_rules ready.lasting (take i rules) head ++ cond b (rule ∷ []) []
    kept_more b e = picked_more (λ (r : NumberedRule). r.head == head && lasts ready.lasting r.body) rules i rule lt is b e

    passing_more : (b : Bool) → (rule.head == head && not (lasts ready.lasting rule.body)) ≡ b → passing_rules ready.lasting (take (i + 1) rules) head ≡ passing_rules ready.lasting (take i rules) head ++ cond b (rule ∷ []) []
    passing_more b e = picked_more (λ (r : NumberedRule). r.head == head && not (lasts ready.lasting r.body)) rules i rule lt is b e

    -- a list without one more
    kept_same : (rule.head == head && lasts ready.lasting rule.body) ≡ false → kept_rules ready.lasting (take (i + 1) rules) head ≡ kept_rules ready.lasting (take i rules) head
    kept_same e = kept_more false e ∙ append-nil (kept_rules ready.lasting (take i rules) head)

    passing_same : (rule.head == head && not (lasts ready.lasting rule.body)) ≡ false → passing_rules ready.lasting (take (i + 1) rules) head ≡ passing_rules ready.lasting (take i rules) head
    passing_same e = passing_more false e ∙ append-nil (passing_rules ready.lasting (take i rules) head)

    fit_more : ((r : NumberedRule) → Has r (take i rules) → r.head ≡ head → AllFit (numbered_sets ready.new r.body)) → (rule.head ≡ head → AllFit (numbered_sets ready.new rule.body)) → (r : NumberedRule) → Has r (take (i + 1) rules) → r.head ≡ head → AllFit (numbered_sets ready.new r.body)
    fit_more before own r h same =
        let next : take (i + 1) rules ≡ take i rules ++ rule ∷ [] = take_more rules i rule lt ∙ ap (λ (x : NumberedRule). take i rules ++ x ∷ []) (sym is) in
        elim (Has-append_cases r (take i rules) (rule ∷ []) (subst (λ (l : List NumberedRule). Has r l) next h)) [
          | inl b ↦ before r b same
          | inr o ↦ elim o [ inl e ↦ subst (λ (x : NumberedRule). AllFit (numbered_sets ready.new x.body)) e (own (ap (λ (x : NumberedRule). x.head) e ∙ same)) | inr n ↦ absurd n ]
        ]

    pub parts_other : (parts parts2 : HeadParts) (now after : List Plan) → rule.head ≢ head → parts2 ≡ parts → after ≡ now → ArePartsAt i parts now → ArePartsAt (i + 1) parts2 after
    parts_other parts parts2 now after differ same put g =
        let apart = ne_eqb rule.head head differ in
        subst (λ (p : HeadParts). ArePartsAt (i + 1) p after) (sym same) (record {
          each = subst (λ (l : List NumberedRule). AllZip BodyTurns (bodies_of ready.old ready.new l) parts.changes.items) (sym (kept_same (ap (λ (b : Bool). b && lasts ready.lasting rule.body) apart))) g.each;
          rows = g.rows ∙ ap (λ (l : List NumberedRule). set_of (rows_given ready.new l)) (sym (passing_same (ap (λ (b : Bool). b && not (lasts ready.lasting rule.body)) apart)));
          fit = fit_more g.fit (λ own. absurd (differ own));
          turned = other_turned ready.growing ready.lasting ready.new rules head i rule plans now after there differ put g.turned;
        })

    module _ (same : rule.head ≡ head) (plan : Plan) (kept : slice_get plans i ≡ Some plan) where
      own : (rule.head == head) ≡ true
      own = eq-eqb rule.head head same

      -- a rule of the head that is kept changed
      kept_own : (parts made : HeadParts) (change : Change) (now : List Plan) → IsTrue change.kept → change.kept ≡ lasts ready.lasting rule.body → Turns (numbered_rows ready.old rule.body) (numbered_rows ready.new rule.body) change
          → AddsRule {X = Unit {0}} change parts made (Ok (tt {0})) → ArePartsAt i parts now
          → AllZip BodyTurns (bodies_of ready.old ready.new (kept_rules ready.lasting (take (i + 1) rules) head)) made.changes.items × (rows_in made.rows ≡ set_of (rows_given ready.new (passing_rules ready.lasting (take (i + 1) rules) head)))
      kept_own parts made change now is_kept flag turns adds g =
          let last : lasts ready.lasting rule.body ≡ true = sym flag ∙ is_kept in
          let body = body_of ready.old ready.new rule in
          let so_far = kept_rules ready.lasting (take i rules) head in
          let next : bodies_of ready.old ready.new (kept_rules ready.lasting (take (i + 1) rules) head) ≡ bodies_of ready.old ready.new so_far ++ body ∷ [] =
          ap (bodies_of ready.old ready.new) (kept_more true (and_true (rule.head == head) (lasts ready.lasting rule.body) own last)) ∙ map-append (body_of ready.old ready.new) so_far (rule ∷ []) in
          let put : made.changes.items ≡ parts.changes.items ++ change ∷ [] = adds.0 ∙ ap (λ (b : Bool). cond b (parts.changes.items ++ change ∷ []) parts.changes.items) is_kept in
          let none : (rule.head == head && not (lasts ready.lasting rule.body)) ≡ false = ap (λ (b : Bool). b && not (lasts ready.lasting rule.body)) own ∙ ap not last in (
            subst (λ (l : List BodyRows). AllZip BodyTurns l made.changes.items) (sym next) (subst (λ (l : List Change). AllZip BodyTurns (bodies_of ready.old ready.new so_far ++ body ∷ []) l) (sym put)
                (all_zipped_more BodyTurns (bodies_of ready.old ready.new so_far) parts.changes.items body change g.each (record { kept = is_kept; turned = turns }))),
            adds.1
                ∙ ap (λ (b : Bool). cond b (rows_in parts.rows) (set_of (rows_in parts.rows ++ rows_in change.rows))) is_kept
                ∙ g.rows
                ∙ ap (λ (l : List NumberedRule). set_of (rows_given ready.new l)) (sym (passing_same none)),
          )

      -- another of the head gave its rows
      passing_own : (parts made : HeadParts) (change : Change) (now : List Plan) → change.kept ≡ false → change.kept ≡ lasts ready.lasting rule.body → Turns (numbered_rows ready.old rule.body) (numbered_rows ready.new rule.body) change
          → AddsRule {X = Unit {0}} change parts made (Ok (tt {0})) → ArePartsAt i parts now
          → AllZip BodyTurns (bodies_of ready.old ready.new (kept_rules ready.lasting (take (i + 1) rules) head)) made.changes.items × (rows_in made.rows ≡ set_of (rows_given ready.new (passing_rules ready.lasting (take (i + 1) rules) head)))
      passing_own parts made change now not_kept flag turns adds g =
          let passes : lasts ready.lasting rule.body ≡ false = sym flag ∙ not_kept in
          let so_far = passing_rules ready.lasting (take i rules) head in
          let put : made.changes.items ≡ parts.changes.items = adds.0 ∙ ap (λ (b : Bool). cond b (parts.changes.items ++ change ∷ []) parts.changes.items) not_kept in
          let none : (rule.head == head && lasts ready.lasting rule.body) ≡ false = ap (λ (b : Bool). b && lasts ready.lasting rule.body) own ∙ passes in
          let next : rows_given ready.new (passing_rules ready.lasting (take (i + 1) rules) head) ≡ rows_given ready.new so_far ++ numbered_rows ready.new rule.body =
          ap (rows_given ready.new) (passing_more true (and_true (rule.head == head) (not (lasts ready.lasting rule.body)) own (ap not passes)))
          ∙ flat_map-append (λ (r : NumberedRule). numbered_rows ready.new r.body) so_far (rule ∷ [])
          ∙ ap (λ (l : List Row). rows_given ready.new so_far ++ l) (append-nil (numbered_rows ready.new rule.body)) in (
            subst (λ (l : List NumberedRule). AllZip BodyTurns (bodies_of ready.old ready.new l) made.changes.items) (sym (kept_same none)) (subst (λ (l : List Change). AllZip BodyTurns (bodies_of ready.old ready.new (kept_rules ready.lasting (take i rules) head)) l) (sym put) g.each),
            adds.1
                ∙ ap (λ (b : Bool). cond b (rows_in parts.rows) (set_of (rows_in parts.rows ++ rows_in change.rows))) not_kept
                ∙ ap (λ (l : List Row). set_of (l ++ rows_in change.rows)) g.rows
                ∙ ap (λ (l : List Row). set_of (set_of (rows_given ready.new so_far) ++ l)) (rows_of_all (numbered_rows ready.old rule.body) (numbered_rows ready.new rule.body) change turns not_kept)
                ∙ set_of-append_set (rows_given ready.new so_far) (numbered_rows ready.new rule.body)
                ∙ ap set_of (sym next),
          )

      pub parts_own : (parts parts2 made : HeadParts) (change : Change) (now after : List Plan) (plan2 : Plan) → i < length now → parts2 ≡ made → after ≡ slice_set now i plan2
          → Evaluates rule.body plan plan2 held (ready_at rules head plans held ready i rule plan lt is kept same) (Ok change) → AddsRule {X = Unit {0}} change parts made (Ok (tt {0})) → ArePartsAt i parts now → ArePartsAt (i + 1) parts2 after
      parts_own parts parts2 made change now after plan2 within is_made put by adds g =
          let both : AllZip BodyTurns (bodies_of ready.old ready.new (kept_rules ready.lasting (take (i + 1) rules) head)) made.changes.items × (rows_in made.rows ≡ set_of (rows_given ready.new (passing_rules ready.lasting (take (i + 1) rules) head))) = elim (cases_Bool change.kept) [
            | inl is_kept ↦ kept_own parts made change now is_kept by.0.0 by.0.1 adds g
            | inr not_kept ↦ passing_own parts made change now not_kept by.0.0 by.0.1 adds g
          ] in
          subst (λ (p : HeadParts). ArePartsAt (i + 1) p after) (sym is_made) (record {
            each = both.0;
            rows = both.1;
            fit = fit_more g.fit (λ e. by.2);
            turned = own_turned ready.growing ready.lasting ready.new rules head i rule plans now after plan2 within there same put by.1 g.turned;
          })

      -- a fault of the evaluation
      pub parts_refused : (after : List Plan) (plan2 : Plan) (r : Result HeadParts SetFault) (fault : SetFault) → IsErrAnd r (λ d. d ≡ fault)
          → Evaluates rule.body plan plan2 held (ready_at rules head plans held ready i rule plan lt is kept same) (Err fault) → MakesParts rules head plans held ready after r
      parts_refused after plan2 r fault was by = subst (MakesParts rules head plans held ready after) (sym (handed_on HeadParts r fault was)) (go fault by)
        where
          go : (d : SetFault) → Evaluates rule.body plan plan2 held (ready_at rules head plans held ready i rule plan lt is kept same) (Err d) → MakesParts rules head plans held ready after (Err d)
          go TooManyRows over = record {
            rows = over.rows;
            stands = inr (subst (λ (l : Sets). Has over.rows l) (named_sets ready.a.form.collections ready.new head ready.a.form.rules rules ready.numbered)
                (Has-flat_map (λ (r : NumberedRule). numbered_sets ready.new r.body) rule over.rows (own_rules rules head) (Has-filter (λ (r : NumberedRule). r.head == head) rule rules among own) over.stands));
            over = over.over;
          }
          go NoMemory h = tt

      -- too many rows of the rules that aren't kept
      pub parts_over : (parts made : HeadParts) (change : Change) (now after : List Plan) (plan2 : Plan) (r : Result HeadParts SetFault) (fault : SetFault) → IsErrAnd r (λ d. d ≡ fault)
          → Evaluates rule.body plan plan2 held (ready_at rules head plans held ready i rule plan lt is kept same) (Ok change) → AddsRule {X = Unit {0}} change parts made (Err fault) → ArePartsAt i parts now → MakesParts rules head plans held ready after r
      parts_over parts made change now after plan2 r fault was by adds g = subst (MakesParts rules head plans held ready after) (sym (handed_on HeadParts r fault was)) (go fault adds)
        where
          within : change.kept ≡ false → IsWithin (set_of (rows_in parts.rows ++ rows_in change.rows)) (set_of (ruled_at ready.a.form ready.new head))
          within not_kept q h = Has-set_of q (ruled_at ready.a.form ready.new head) (elim (Has-append_cases q (rows_in parts.rows) (rows_in change.rows) (Has-from_set_of q (rows_in parts.rows ++ rows_in change.rows) h)) [
            | inl b ↦ passing_in ready.new i q (Has-from_set_of q (rows_given ready.new (passing_rules ready.lasting (take i rules) head)) (subst (λ (l : List Row). Has q l) g.rows b))
            | inr o ↦ in_ruled ready.new rule among same q (subst (λ (l : List Row). Has q l) (rows_of_all (numbered_rows ready.old rule.body) (numbered_rows ready.new rule.body) change by.0.1 not_kept) o)
          ])

          go : (d : SetFault) → AddsRule {X = Unit {0}} change parts made (Err d) → MakesParts rules head plans held ready after (Err d)
          go TooManyRows over = record {
            rows = set_of (ruled_at ready.a.form ready.new head);
            stands = inl refl;
            over = omega (arith, over.1, length-within (set_of (rows_in parts.rows ++ rows_in change.rows)) (set_of (ruled_at ready.a.form ready.new head)) (sorted_set_of (rows_in parts.rows ++ rows_in change.rows)) (within over.0));
          }
          go NoMemory h = tt

  pub parts_end : (i : ℕ) (parts : HeadParts) (now : List Plan) → length rules ≤ i → ArePartsAt i parts now → MakesParts rules head plans held ready now (Ok parts)
  parts_end i parts now le g =
      let all = take_all i rules le in
      let kept = kept_rules ready.lasting rules head in
      let each = subst (λ (l : List NumberedRule). AllZip BodyTurns (bodies_of ready.old ready.new (kept_rules ready.lasting l head)) parts.changes.items) all g.each in (
        record {
          few = omega (
            arith,
            ready.few,
            AllZip-long BodyTurns (bodies_of ready.old ready.new kept) parts.changes.items each,
            length-map kept (body_of ready.old ready.new),
            length-filter-le (λ (r : NumberedRule). r.head == head && lasts ready.lasting r.body) rules,
          );
          each = each;
        },
        g.rows ∙ ap (λ (l : List NumberedRule). set_of (rows_given ready.new (passing_rules ready.lasting l head))) all,
        λ rows h.
            let of = Has-from_flat_map (λ (r : NumberedRule). numbered_sets ready.new r.body) rows (own_rules rules head) (subst (λ (l : Sets). Has rows l) (sym (named_sets ready.a.form.collections ready.new head ready.a.form.rules rules ready.numbered)) h) in
            let own = Has-from_filter (λ (r : NumberedRule). r.head == head) of.0 rules of.1 in
            g.fit of.0 (subst (λ (l : List NumberedRule). Has of.0 l) (sym all) own.0) (eqb-true of.0.head head own.1) rows of.2,
        all_turned ready.growing ready.lasting ready.new rules head i plans now ready.many le g.turned,
      )
