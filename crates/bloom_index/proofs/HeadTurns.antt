-- What a head becomes by what its rules give.
use Rattle.std.proofs.Common.{◌≡◌, ◌∙◌, ℕ, ◌<◌, ◌≤◌, ◌==◌, ◌&&◌, not, Bool, true, false, IsTrue, List, [], ◌++◌, length, take_all, Result, Ok, Err, refl, ap, sym, subst, inl, inr, arith}
use Rattle.std.specs.Result.{IsErrAnd}
use Rattle.std.proofs.lemmas.Bool.{cases_Bool, eq-eqb, eqb-true, ne_eqb, true≢false}
use Rattle.std.proofs.lemmas.List.{append-nil, length-map, nil_from_length}
use Rattle.std.proofs.lemmas.List.Folds.{flat_map-map}
use Rattle.blz_value.specs.Members.{Has, IsWithin}
use Rattle.blz_value.specs.Record.{Row}
use Rattle.blz_value.specs.Sets.{set_of, IsRowSet}
use Rattle.blz_value.proofs.Booleans.{and_true}
use Rattle.blz_value.proofs.Lists.{filter_same}
use Rattle.blz_value.proofs.Membership.{Has-append_cases, Has-append_left, Has-append_right}
use Rattle.blz_value.proofs.OperatorsLemmas.{length-within}
use Rattle.blz_value.proofs.RowSets.{same_set_of, set_of-sorted, set_of-append_set}
use Rattle.blz_value.proofs.SetLaws.{sorted_set_of, Has-set_of, Has-from_set_of}
use Rattle.blz_set.specs.RecordSet.{row_limit}
use Rattle.blz_set.specs.declared.fault.SetFault.{SetFault}
use Rattle.blz_set.specs.declared.fault.SetFault.TheVariants.{TooManyRows, NoMemory}
use Rattle.blz_set.proofs.Unions.{handed_on}
use Rattle.bloom_forms.specs.declared.numbered.NumberedRule.{NumberedRule}
use Rattle.bloom_forms.specs.Step.{Sets, ruled_at}
use Rattle.bloom_eval.specs.StepAnswers.{AllFit}
use Rattle.bloom_growth.specs.declared.bag.Bag.{Bag}
use Rattle.bloom_growth.specs.declared.turn.Turn.{Turn}
use Rattle.bloom_growth.specs.Bags.{IsBag}
use Rattle.bloom_growth.specs.Turned.{TurnsInto}
use Rattle.bloom_growth.proofs.TurnedLemmas.{came, comes}
use Rattle.bloom_parts.specs.declared.change.Change.{Change}
use Rattle.bloom_parts.specs.Bodies.{AddsGiven, BodyRows, olds_of, news_of}
use Rattle.bloom_parts.specs.Turns.{rows_in}
use Rattle.bloom_parts.proofs.BodiesLemmas.{few_olds, many_bodies}
use Rattle.bloom_parts.proofs.Turning.{turned_into}
use Rattle.bloom_index.specs.declared.heads.HeadParts.{HeadParts}
use Rattle.bloom_index.specs.declared.plan.Plan.{Plan}
use Rattle.bloom_index.specs.Code.HeadRules.{AreReady, HasGiven, AllLast, MakesParts, TurnsHead, MakesHead, IsHeadMade, needs_bag, head_sets}
use Rattle.bloom_index.specs.Code.Heads.{body_of, bodies_of, kept_rules, passing_rules, rows_given}
use Rattle.bloom_index.specs.Code.Lasting.{lasts_at, lasts}
use Rattle.bloom_index.proofs.HeadParts.{own_rules, ruled, passing_in, kept_in, ruled_cases}

-- nothing comes and nothing goes
abbrev no_turn : Turn
no_turn = record { more = []; gone = [] }

none_turned : TurnsInto (set_of []) (set_of []) (Ok no_turn)
none_turned = (record { old_sorted = sorted_set_of []; new_sorted = sorted_set_of []; more_is = refl; gone_is = refl }, omega arith)

-- a set beside nothing
none_given : (whole : Bool) (rows : List Row) → IsRowSet rows → length rows ≤ row_limit → AddsGiven whole rows [] [] (Ok rows)
none_given whole rows sorted few = elim whole as (λ (b : Bool). AddsGiven b rows [] [] (Ok rows)) [ true ↦ (own, few) | false ↦ (own, subst (λ (l : List Row). length l ≤ row_limit) own few) ]
  where
    own : rows ≡ set_of (rows ++ [])
    own = sym (ap set_of (append-nil rows) ∙ set_of-sorted rows sorted)

module _ (rules : List NumberedRule) (head : ℕ) (plans : List Plan) (held : List Change) (ready : AreReady rules head plans held) where
  -- the bodies of the rules that are kept
  abbrev pub Bodies : List BodyRows
  Bodies = bodies_of ready.old ready.new (kept_rules ready.lasting rules head)

  olds_are : olds_of Bodies ≡ rows_given ready.old (kept_rules ready.lasting rules head)
  olds_are = flat_map-map (λ (body : BodyRows). body.old) (body_of ready.old ready.new) (kept_rules ready.lasting rules head)

  news_are : news_of Bodies ≡ rows_given ready.new (kept_rules ready.lasting rules head)
  news_are = flat_map-map (λ (body : BodyRows). body.new) (body_of ready.old ready.new) (kept_rules ready.lasting rules head)

  -- ---- a head that is kept

  module _ (all : AllLast ready.lasting rules head) (last : IsTrue (lasts_at ready.lasting head)) where
    all_kept : kept_rules ready.lasting rules head ≡ own_rules rules head
    all_kept = filter_same (λ (r : NumberedRule). r.head == head && lasts ready.lasting r.body) (λ (r : NumberedRule). r.head == head) rules (λ r h. elim (cases_Bool (r.head == head)) [
      | inl e ↦ and_true (r.head == head) (lasts ready.lasting r.body) e (all r h (eqb-true r.head head e)) ∙ sym e
      | inr e ↦ ap (λ (b : Bool). b && lasts ready.lasting r.body) e ∙ sym e
    ])

    ruled_kept : (sets : Sets) → rows_given sets (kept_rules ready.lasting rules head) ≡ ruled_at ready.a.form sets head
    ruled_kept sets = ap (rows_given sets) all_kept ∙ ruled rules head plans held ready sets

    ruled_old : olds_of Bodies ≡ ruled_at ready.a.form ready.old head
    ruled_old = olds_are ∙ ruled_kept ready.old

    ruled_new : news_of Bodies ≡ ruled_at ready.a.form ready.new head
    ruled_new = news_are ∙ ruled_kept ready.new

    count : length Bodies ≡ length (kept_rules ready.lasting rules head)
    count = length-map (kept_rules ready.lasting rules head) (body_of ready.old ready.new)

    -- it needs a bag exactly where it hasn't one rule
    several_need : ¬ (length Bodies ≡ 1) → IsTrue (needs_bag ready.lasting rules head)
    several_need several =
        let many = length (kept_rules ready.lasting rules head) in
        let differ : (many == 1) ≡ false = ne_eqb many 1 (λ e. several (count ∙ e)) in
        ap not (ap (λ (b : Bool). b && (many == 1)) last ∙ differ)

    need_several : IsTrue (needs_bag ready.lasting rules head) → ¬ (length Bodies ≡ 1)
    need_several need one =
        let many = length (kept_rules ready.lasting rules head) in
        let both : (lasts_at ready.lasting head && (many == 1)) ≡ true = and_true (lasts_at ready.lasting head) (many == 1) last (eq-eqb many 1 (sym count ∙ one)) in
        true≢false (sym need ∙ ap not both)

    pub bag_before : (bag : Bag) → HasGiven ready.lasting ready.old rules head bag → ¬ (length Bodies ≡ 1) → IsBag (olds_of Bodies) bag
    bag_before bag given several = subst (λ (l : List Row). IsBag l bag) (sym olds_are) (given (several_need several))

    pub head_turned : (parts : HeadParts) (bag after_bag : Bag) (turn : Turn) (change : Change) (after : List Plan) → change.kept ≡ true → rows_in change.rows ≡ turn.more → rows_in change.gone ≡ turn.gone → MakesParts rules head plans held ready after (Ok parts) → HasGiven ready.lasting ready.old rules head bag
        → TurnsInto (set_of (olds_of Bodies)) (set_of (news_of Bodies)) (Ok turn) → (¬ (length Bodies ≡ 1) → IsBag (olds_of Bodies) bag → IsBag (news_of Bodies) after_bag) → TurnsHead rules head plans held ready after_bag after (Ok change)
    head_turned parts bag after_bag turn change after kept more gone made given turns ended =
        let old = set_of (ruled_at ready.a.form ready.old head) in
        let new = set_of (ruled_at ready.a.form ready.new head) in
        let few : length old ≤ row_limit = subst (λ (l : List Row). length (set_of l) ≤ row_limit) ruled_old (few_olds Bodies parts.changes.items bag made.0 (bag_before bag given)) in
        let into : TurnsInto old new (Ok turn) = subst (λ (l : List Row). TurnsInto old (set_of l) (Ok turn)) ruled_new (subst (λ (l : List Row). TurnsInto (set_of l) (set_of (news_of Bodies)) (Ok turn)) ruled_old turns) in (
          turned_into old new turn change kept more gone few into,
          λ need. let several = need_several need in subst (λ (l : List Row). IsBag l after_bag) news_are (ended several (bag_before bag given several)),
          λ rows h. elim h [ inl own ↦ subst (λ (l : List Row). length l ≤ row_limit) own into.1 | inr m ↦ made.2 rows m ],
          made.3,
        )

    -- a fault of its bag
    pub head_turn_over : (bag : Bag) (after : List Plan) (r : Result Change SetFault) (fault : SetFault) → IsErrAnd r (λ d. d ≡ fault) → TurnsInto (set_of (olds_of Bodies)) (set_of (news_of Bodies)) (Err fault) → TurnsHead rules head plans held ready bag after r
    head_turn_over bag after r fault was turns = subst (TurnsHead rules head plans held ready bag after) (sym (handed_on Change r fault was)) (go fault turns)
      where
        go : (d : SetFault) → TurnsInto (set_of (olds_of Bodies)) (set_of (news_of Bodies)) (Err d) → TurnsHead rules head plans held ready bag after (Err d)
        go TooManyRows over = record { rows = set_of (ruled_at ready.a.form ready.new head); stands = inl refl; over = subst (λ (l : List Row). row_limit < length (set_of l)) ruled_new over }
        go NoMemory h = tt

  -- a fault of its rules
  pub head_turn_refused : (bag : Bag) (parts after : List Plan) (r : Result Change SetFault) (fault : SetFault) → IsErrAnd r (λ d. d ≡ fault) → MakesParts rules head plans held ready parts (Err fault) → TurnsHead rules head plans held ready bag after r
  head_turn_refused bag parts after r fault was made = subst (TurnsHead rules head plans held ready bag after) (sym (handed_on Change r fault was)) (go fault made)
    where
      go : (d : SetFault) → MakesParts rules head plans held ready parts (Err d) → TurnsHead rules head plans held ready bag after (Err d)
      go TooManyRows over = over
      go NoMemory h = tt

  -- ---- a head that isn't kept

  pub bag_standing : (bag : Bag) → lasts_at ready.lasting head ≡ false → HasGiven ready.lasting ready.old rules head bag → IsBag (olds_of Bodies) bag
  bag_standing bag momentary given =
      let need : IsTrue (needs_bag ready.lasting rules head) = ap (λ (b : Bool). not (b && (length (kept_rules ready.lasting rules head) == 1))) momentary in
      subst (λ (l : List Row). IsBag l bag) (sym olds_are) (given need)

  -- its rows are those of the rules that are kept and of the others
  made_is : (rows given : List Row) → rows ≡ set_of (rows_given ready.new (passing_rules ready.lasting rules head)) → given ≡ rows_given ready.new (kept_rules ready.lasting rules head) → set_of (rows ++ given) ≡ set_of (ruled_at ready.a.form ready.new head)
  made_is rows given passing kept =
      let others = rows_given ready.new (passing_rules ready.lasting rules head) in
      let own = rows_given ready.new (kept_rules ready.lasting rules head) in
      let all = ruled_at ready.a.form ready.new head in
      ap (λ (l : List Row). set_of (l ++ given)) passing
      ∙ set_of-append_set others given
      ∙ ap (λ (l : List Row). set_of (others ++ l)) kept
      ∙ same_set_of (others ++ own) all (
        λ q h. elim (Has-append_cases q others own h) [ inl o ↦ passing_rows ready.new q o | inr k ↦ kept_in rules head plans held ready ready.new q k ],
        λ q h. elim (ruled_cases rules head plans held ready ready.new q h) [ inl o ↦ Has-append_left q others own o | inr k ↦ Has-append_right q others own k ],
      )
    where
      passing_rows : (sets : Sets) → IsWithin (rows_given sets (passing_rules ready.lasting rules head)) (ruled_at ready.a.form sets head)
      passing_rows sets q h = passing_in rules head plans held ready sets (length rules) q (subst (λ (l : List NumberedRule). Has q (rows_given sets (passing_rules ready.lasting l head))) (sym (take_all (length rules) rules (omega arith))) h)

  -- what comes of the rules that are kept is among what they give
  pub more_within : (turn : Turn) → TurnsInto (set_of (olds_of Bodies)) (set_of (news_of Bodies)) (Ok turn) → IsWithin turn.more (set_of (news_of Bodies))
  more_within turn turns q h = (came (set_of (olds_of Bodies)) (set_of (news_of Bodies)) turn.more turn.gone turns.0 q h).0

  -- all its rows, or all but those that it had before
  head_is_made : (whole : Bool) (rows set : List Row) (turn : Turn) → rows ≡ set_of (rows_given ready.new (passing_rules ready.lasting rules head)) → AllFit (head_sets ready.a ready.new head) → TurnsInto (set_of (olds_of Bodies)) (set_of (news_of Bodies)) (Ok turn)
      → AddsGiven whole rows (news_of Bodies) turn.more (Ok set) → IsHeadMade ready.a ready.old ready.new head whole set
  head_is_made true rows set turn passing fit turns adds =
      let whole : set ≡ set_of (ruled_at ready.a.form ready.new head) = adds.0 ∙ made_is rows (news_of Bodies) passing news_are in
      record {
        news = record {
          only = λ q h. subst (λ (l : List Row). Has q l) whole h;
          all = λ q h lacks. subst (λ (l : List Row). Has q l) (sym whole) h;
        };
        all = λ asked. whole;
        fit = λ some h. elim h [ inl own ↦ subst (λ (l : List Row). length l ≤ row_limit) (whole ∙ own) adds.1 | inr m ↦ fit some m ];
      }
  head_is_made false rows set turn passing fit turns adds =
      let given = news_of Bodies in
      let whole = made_is rows given passing news_are in
      record {
        news = record {
          only = λ q h. subst (λ (l : List Row). Has q l) whole (Has-set_of q (rows ++ given) (elim (Has-append_cases q rows turn.more (Has-from_set_of q (rows ++ turn.more) (subst (λ (l : List Row). Has q l) adds.0 h))) [
            | inl o ↦ Has-append_left q rows given o
            | inr m ↦ Has-append_right q rows given (Has-from_set_of q given (more_within turn turns q m))
          ]));
          all = λ q h lacks. subst (λ (l : List Row). Has q l) (sym adds.0) (Has-set_of q (rows ++ turn.more) (elim (Has-append_cases q rows given (Has-from_set_of q (rows ++ given) (subst (λ (l : List Row). Has q l) (sym whole) h))) [
            | inl o ↦ Has-append_left q rows turn.more o
            | inr k ↦ Has-append_right q rows turn.more (comes (set_of (olds_of Bodies)) (set_of given) turn.more turn.gone turns.0 q (Has-set_of q given k) (λ held. lacks (Has-set_of q (ruled_at ready.a.form ready.old head) (was_there q (Has-from_set_of q (olds_of Bodies) held)))))
          ]));
        };
        all = λ asked. absurd (true≢false (sym asked));
        fit = λ some h. elim h [ inl own ↦ subst (λ (l : List Row). length l ≤ row_limit) (whole ∙ own) adds.1 | inr m ↦ fit some m ];
      }
    where
      was_there : IsWithin (olds_of Bodies) (ruled_at ready.a.form ready.old head)
      was_there q h = kept_in rules head plans held ready ready.old q (subst (λ (l : List Row). Has q l) olds_are h)

  pub head_made : (whole : Bool) (parts : HeadParts) (bag : Bag) (turn : Turn) (set : List Row) (change : Change) (after : List Plan) → change.kept ≡ false → rows_in change.rows ≡ set → MakesParts rules head plans held ready after (Ok parts) → TurnsInto (set_of (olds_of Bodies)) (set_of (news_of Bodies)) (Ok turn)
      → IsBag (news_of Bodies) bag → AddsGiven whole (rows_in parts.rows) (news_of Bodies) turn.more (Ok set) → MakesHead rules head plans held ready whole bag after (Ok change)
  head_made whole parts bag turn set change after kept is made turns stands adds = (
    kept,
    subst (IsHeadMade ready.a ready.old ready.new head whole) (sym is) (head_is_made whole (rows_in parts.rows) set turn made.1 made.2 turns adds),
    λ need. subst (λ (l : List Row). IsBag l bag) news_are stands,
    made.3,
  )

  -- where no rule is kept the others give all its rows, and its bag has none
  pub head_passing : (whole : Bool) (parts : HeadParts) (bag : Bag) (change : Change) (after : List Plan) → length parts.changes.items ≡ 0 → change.kept ≡ false → rows_in change.rows ≡ rows_in parts.rows → length (rows_in parts.rows) ≤ row_limit
      → MakesParts rules head plans held ready after (Ok parts) → IsBag (olds_of Bodies) bag → MakesHead rules head plans held ready whole bag after (Ok change)
  head_passing whole parts bag change after none kept is few made stands =
      let empty : Bodies ≡ [] = nil_from_length Bodies (many_bodies Bodies parts.changes.items made.0 ∙ none) in
      let others = rows_given ready.new (passing_rules ready.lasting rules head) in
      let sorted = subst IsRowSet (sym made.1) (sorted_set_of others) in
      head_made whole parts bag no_turn (rows_in parts.rows) change after kept is made
      (subst (λ (l : List BodyRows). TurnsInto (set_of (olds_of l)) (set_of (news_of l)) (Ok no_turn)) (sym empty) none_turned)
      (subst (λ (l : List BodyRows). IsBag (news_of l) bag) (sym empty) (subst (λ (l : List BodyRows). IsBag (olds_of l) bag) empty stands))
      (subst (λ (l : List BodyRows). AddsGiven whole (rows_in parts.rows) (news_of l) [] (Ok (rows_in parts.rows))) (sym empty) (none_given whole (rows_in parts.rows) sorted few))

  -- too many rows of the rules that are kept, or of all
  ruled_over : (rows : List Row) → IsWithin rows (ruled_at ready.a.form ready.new head) → row_limit < length (set_of rows) → row_limit < length (set_of (ruled_at ready.a.form ready.new head))
  ruled_over rows within over =
      let all = ruled_at ready.a.form ready.new head in
      omega (arith, over, length-within (set_of rows) (set_of all) (sorted_set_of rows) (λ q h. Has-set_of q all (within q (Has-from_set_of q rows h))))

  module _ (whole : Bool) (bag : Bag) (after : List Plan) (r : Result Change SetFault) (fault : SetFault) (was : IsErrAnd r (λ d. d ≡ fault)) where
    pub head_make_refused : (parts : List Plan) → MakesParts rules head plans held ready parts (Err fault) → MakesHead rules head plans held ready whole bag after r
    head_make_refused parts made = subst (MakesHead rules head plans held ready whole bag after) (sym (handed_on Change r fault was)) (go fault made)
      where
        go : (d : SetFault) → MakesParts rules head plans held ready parts (Err d) → MakesHead rules head plans held ready whole bag after (Err d)
        go TooManyRows over = over
        go NoMemory h = tt

    pub head_kept_over : TurnsInto (set_of (olds_of Bodies)) (set_of (news_of Bodies)) (Err fault) → MakesHead rules head plans held ready whole bag after r
    head_kept_over turns = subst (MakesHead rules head plans held ready whole bag after) (sym (handed_on Change r fault was)) (go fault turns)
      where
        go : (d : SetFault) → TurnsInto (set_of (olds_of Bodies)) (set_of (news_of Bodies)) (Err d) → MakesHead rules head plans held ready whole bag after (Err d)
        go TooManyRows over = record {
          rows = set_of (ruled_at ready.a.form ready.new head);
          stands = inl refl;
          over = ruled_over (news_of Bodies) (λ q h. kept_in rules head plans held ready ready.new q (subst (λ (l : List Row). Has q l) news_are h)) over;
        }
        go NoMemory h = tt

    pub head_made_over : (rows more : List Row) → rows ≡ set_of (rows_given ready.new (passing_rules ready.lasting rules head)) → AddsGiven whole rows (news_of Bodies) more (Err fault) → MakesHead rules head plans held ready whole bag after r
    head_made_over rows more passing adds = subst (MakesHead rules head plans held ready whole bag after) (sym (handed_on Change r fault was)) (go whole fault adds)
      where
        go : (b : Bool) (d : SetFault) → AddsGiven b rows (news_of Bodies) more (Err d) → MakesHead rules head plans held ready whole bag after (Err d)
        go true TooManyRows over = record { rows = set_of (ruled_at ready.a.form ready.new head); stands = inl refl; over = subst (λ (l : List Row). row_limit < length l) (made_is rows (news_of Bodies) passing news_are) over }
        go false TooManyRows over = record { rows = set_of (ruled_at ready.a.form ready.new head); stands = inl refl; over = subst (λ (l : List Row). row_limit < length l) (made_is rows (news_of Bodies) passing news_are) over }
        go true NoMemory h = tt
        go false NoMemory h = tt
