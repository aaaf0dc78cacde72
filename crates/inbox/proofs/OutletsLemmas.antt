-- What an instance emits into the lists of its outlets is what is emitted of its kept lists.
use Rattle.std.proofs.Common.{◌≡◌, ◌≢◌, ◌<◌, ◌≤◌, ◌+◌, ℕ, List, [], ◌∷◌, length, map, set, refl, ap, ◌∙◌, sym, subst, inl, inr, arith}
use Rattle.std.specs.List.{fold}
use Rattle.std.proofs.lemmas.Bool.{cases_eq}
use Rattle.std.proofs.lemmas.List.{get_or-set_same, get_or-set_other, length-set, same_lists, get_or_default}
use Rattle.std.proofs.lemmas.List.Sums.{sum_by-set, sum_by-cons}
use Rattle.blz_value.specs.Members.{Has}
use Rattle.blz_value.specs.Record.{Row}
use Rattle.blz_value.specs.Sets.{IsRowSet}
use Rattle.bloom_forms.specs.declared.program.Program.{Program}
use Rattle.bloom_forms.specs.ProgramStep.{outputs_of_step, standing_outputs}
use Rattle.bloom_forms.specs.Step.{Sets, set_at}
use Rattle.bloom_eval.specs.Changes.{AreChanges}
use Rattle.topo_forms.specs.Messages.{Message}
use Rattle.inbox.specs.Instances.{Instance}
use Rattle.inbox.specs.Emission.{Kept, list_of, with_rows, with_seals, output_key, seal_all, emit_step}
use Rattle.inbox.proofs.Lists.Growing.{get_or-each_by_place, length-each_by_place, with_rows-continues, with_seals-continues}
use Rattle.inbox.specs.Limits.{messages_in}
use Rattle.messages.specs.Lists.{list_at, total}
use Rattle.inbox.specs.Outlets.{emit_outlets, seal_outlets, AreApart, ShowsOutlet, ShowsOutlets, OthersStay, own_messages}
use Rattle.inbox.specs.declared.outlets.Outlet.{Outlet}
use Rattle.inbox.specs.Running.{StandingIsEmitted}
use Rattle.inbox.proofs.Emitting.{changes_append}
use Rattle.messages.proofs.ListsLemmas.{total-same}

-- ---- any change of each outlet's list

-- the lists after each outlet's list is changed
abbrev changed_outlets : (change : Outlet → List Message → List Message) → List Outlet → List (List Message) → List (List Message)
changed_outlets change [] lists = lists
changed_outlets change (o ∷ outlets) lists = changed_outlets change outlets (set lists o.place (change o (list_at lists o.place)))

module _ (change : Outlet → List Message → List Message) where
  length-changed : (outlets : List Outlet) (lists : List (List Message)) → length (changed_outlets change outlets lists) ≡ length lists
  length-changed [] lists = refl
  length-changed (o ∷ outlets) lists = length-changed outlets (set lists o.place (change o (list_at lists o.place))) ∙ length-set lists o.place (change o (list_at lists o.place))

  other-changed : (outlets : List Outlet) (lists : List (List Message)) (place : ℕ) → ((o : Outlet) → Has o outlets → o.place ≢ place) → list_at (changed_outlets change outlets lists) place ≡ list_at lists place
  other-changed [] lists place apart = refl
  other-changed (o ∷ outlets) lists place apart =
      other-changed outlets (set lists o.place (change o (list_at lists o.place))) place (λ p h. apart p (inr h))
      ∙ get_or-set_other lists o.place place (change o (list_at lists o.place)) [] (λ same. apart o (inl refl) (sym same))

  one-changed : (outlets : List Outlet) (lists : List (List Message)) (o : Outlet) → AreApart outlets → Has o outlets → o.place < length lists → list_at (changed_outlets change outlets lists) o.place ≡ change o (list_at lists o.place)
  one-changed [] lists o apart h within = absurd h
  one-changed (p ∷ outlets) lists o apart (inl same) within =
      let next : List (List Message) = set lists p.place (change p (list_at lists p.place)) in
      subst (λ q. list_at (changed_outlets change outlets next) q.place ≡ change q (list_at lists q.place)) same
      (other-changed outlets next p.place (λ q h is. apart.0 q h (sym is))
      ∙ get_or-set_same lists p.place (change p (list_at lists p.place)) [] (subst (λ q. q.place < length lists) (sym same) within))
  one-changed (p ∷ outlets) lists o apart (inr h) within =
      let next : List (List Message) = set lists p.place (change p (list_at lists p.place)) in
      one-changed outlets next o apart.1 h (subst (λ n. o.place < n) (sym (length-set lists p.place (change p (list_at lists p.place)))) within)
      ∙ ap (change o) (get_or-set_other lists p.place o.place (change p (list_at lists p.place)) [] (λ same. apart.0 o h (sym same)))

  pub others-changed : (outlets : List Outlet) (lists : List (List Message)) → OthersStay outlets lists (changed_outlets change outlets lists)
  others-changed outlets lists = record { as_many = length-changed outlets lists; others = λ place apart. other-changed outlets lists place apart }

-- ---- the two changes

emitted-is : (outlets : List Outlet) (outs : Sets) (lists : List (List Message)) → emit_outlets outlets outs lists ≡ changed_outlets (λ o list. with_rows list (set_at outs o.output)) outlets lists
emitted-is [] outs lists = refl
emitted-is (o ∷ outlets) outs lists = emitted-is outlets outs (set lists o.place (with_rows (list_at lists o.place) (set_at outs o.output)))

sealed-is : (outlets : List Outlet) (keys : List Row) (lists : List (List Message)) → seal_outlets outlets keys lists ≡ changed_outlets (λ o list. with_seals o.key list keys) outlets lists
sealed-is [] keys lists = refl
sealed-is (o ∷ outlets) keys lists = sealed-is outlets keys (set lists o.place (with_seals o.key (list_at lists o.place) keys))

pub others-emitted : (outlets : List Outlet) (outs : Sets) (lists : List (List Message)) → OthersStay outlets lists (emit_outlets outlets outs lists)
others-emitted outlets outs lists = subst (λ l. OthersStay outlets lists l) (sym (emitted-is outlets outs lists)) (others-changed (λ o list. with_rows list (set_at outs o.output)) outlets lists)

pub others_are_emitted : (outlets : List Outlet) (outs : Sets) (lists after : List (List Message)) → after ≡ emit_outlets outlets outs lists → OthersStay outlets lists after
others_are_emitted outlets outs lists after is = subst (λ l. OthersStay outlets lists l) (sym is) (others-emitted outlets outs lists)

pub others_are_sealed : (outlets : List Outlet) (keys : List Row) (lists after : List (List Message)) → after ≡ seal_outlets outlets keys lists → OthersStay outlets lists after
others_are_sealed outlets keys lists after is = subst (λ l. OthersStay outlets lists l) (sym is) (subst (λ l. OthersStay outlets lists l) (sym (sealed-is outlets keys lists)) (others-changed (λ o list. with_seals o.key list keys) outlets lists))

pub others_itself : (outlets : List Outlet) (lists : List (List Message)) → OthersStay outlets lists lists
others_itself outlets lists = record { as_many = refl; others = λ place apart. refl }

pub others-sealed : (outlets : List Outlet) (keys : List Row) (lists : List (List Message)) → OthersStay outlets lists (seal_outlets outlets keys lists)
others-sealed outlets keys lists = subst (λ l. OthersStay outlets lists l) (sym (sealed-is outlets keys lists)) (others-changed (λ o list. with_seals o.key list keys) outlets lists)

pub others_stay_on : (outlets : List Outlet) (a b c : List (List Message)) → OthersStay outlets a b → OthersStay outlets b c → OthersStay outlets a c
others_stay_on outlets a b c f g = record { as_many = g.as_many ∙ f.as_many; others = λ place apart. g.others place apart ∙ f.others place apart }

-- a step: its changes are emitted as its whole outputs are
pub step-shows : (program : Program) (outlets : List Outlet) (lists : List (List Message)) (kept : Kept) (now some : Sets) → AreApart outlets → ShowsOutlets outlets lists kept → StandingIsEmitted program kept
    → AreChanges (outputs_of_step program kept.tables now) (standing_outputs program kept.tables) some → ((n : ℕ) → IsRowSet (set_at some n))
    → ShowsOutlets outlets (emit_outlets outlets some lists) (emit_step program kept now)
step-shows program outlets lists kept now some apart shows standing changes sorted o h =
    let change : Outlet → List Message → List Message = λ p list. with_rows list (set_at some p.output) in
    let s = shows o h in
    let after : List (List Message) = changed_outlets change outlets lists in
    let at : list_at after o.place ≡ list_of (emit_step program kept now) o.output =
    one-changed change outlets lists o apart h s.place
    ∙ ap (λ l. with_rows l (set_at some o.output)) s.list
    ∙ changes_append program kept now some o.output standing s.output changes (sorted o.output)
    ∙ sym (get_or-each_by_place (λ output list. with_rows list (set_at (outputs_of_step program kept.tables now) output)) kept.lists o.output [] s.output) in
    subst (λ l. ShowsOutlet l (emit_step program kept now) o) (sym (emitted-is outlets some lists))
    (record {
      place = subst (λ n. o.place < n) (sym (length-changed change outlets lists)) s.place;
      output = subst (λ n. o.output < n) (sym (length-each_by_place (λ output list. with_rows list (set_at (outputs_of_step program kept.tables now) output)) kept.lists)) s.output;
      list = at;
    })

-- the seals
pub seals-show : (i : Instance) (outlets : List Outlet) (keys : List Row) (lists : List (List Message)) (kept : Kept) → AreApart outlets → ((o : Outlet) → Has o outlets → o.key ≡ output_key i o.output) → ShowsOutlets outlets lists kept
    → ShowsOutlets outlets (seal_outlets outlets keys lists) (record { tables = kept.tables; lists = seal_all i keys kept.lists })
seals-show i outlets keys lists kept apart own shows o h =
    let change : Outlet → List Message → List Message = λ p list. with_seals p.key list keys in
    let s = shows o h in
    let after : List (List Message) = changed_outlets change outlets lists in
    let at : list_at after o.place ≡ list_at (seal_all i keys kept.lists) o.output =
    one-changed change outlets lists o apart h s.place
    ∙ ap (λ l. with_seals o.key l keys) s.list
    ∙ ap (λ k. with_seals k (list_of kept o.output) keys) (own o h)
    ∙ sym (get_or-each_by_place (λ output list. with_seals (output_key i output) list keys) kept.lists o.output [] s.output) in
    subst (λ l. ShowsOutlet l (record { tables = kept.tables; lists = seal_all i keys kept.lists }) o) (sym (sealed-is outlets keys lists))
    (record {
      place = subst (λ n. o.place < n) (sym (length-changed change outlets lists)) s.place;
      output = subst (λ n. o.output < n) (sym (length-each_by_place (λ output list. with_seals (output_key i output) list keys) kept.lists)) s.output;
      list = at;
    })

-- ---- sizes

-- what the lists of outlets have, is what is kept has
pub own-shown : (outlets : List Outlet) (lists : List (List Message)) (kept : Kept) → ShowsOutlets outlets lists kept → own_messages outlets lists ≡ messages_in (map (λ o. o.output) outlets) kept
own-shown outlets lists kept shows = go 0 outlets shows
  where
    go : (n : ℕ) (os : List Outlet) → ShowsOutlets os lists kept → fold (λ a (o : Outlet). a + length (list_at lists o.place)) n os ≡ fold (λ a output. a + length (list_of kept output)) n (map (λ (o : Outlet). o.output) os)
    go n [] all = refl
    go n (o ∷ os) all =
        ap (λ l. fold (λ a (p : Outlet). a + length (list_at lists p.place)) (n + length l) os) (all o (inl refl)).list
        ∙ go (n + length (list_of kept o.output)) os (λ p h. all p (inr h))

same_own : (outlets : List Outlet) (a b : List (List Message)) → ((o : Outlet) → Has o outlets → list_at a o.place ≡ list_at b o.place) → own_messages outlets a ≡ own_messages outlets b
same_own outlets a b same = go 0 outlets same
  where
    go : (n : ℕ) (os : List Outlet) → ((o : Outlet) → Has o os → list_at a o.place ≡ list_at b o.place) → fold (λ s (o : Outlet). s + length (list_at a o.place)) n os ≡ fold (λ s (o : Outlet). s + length (list_at b o.place)) n os
    go n [] all = refl
    go n (o ∷ os) all =
        ap (λ l. fold (λ s (p : Outlet). s + length (list_at a p.place)) (n + length l) os) (all o (inl refl))
        ∙ go (n + length (list_at b o.place)) os (λ p h. all p (inr h))

-- where only the lists of outlets change, the others have as many messages as before
pub others-count : (outlets : List Outlet) (before after : List (List Message)) → AreApart outlets → ((o : Outlet) → Has o outlets → o.place < length before) → OthersStay outlets before after
    → total before + own_messages outlets after ≡ total after + own_messages outlets before
others-count [] before after apart within stay =
    let same : before ≡ after = same_lists before after (sym stay.as_many)
    (λ k d h. get_or_default before k d [] h ∙ sym (stay.others k (λ o none. absurd none)) ∙ get_or_default after k [] d (subst (λ n. k < n) (sym stay.as_many) h)) in
    ap (λ l. total l + 0) same
others-count (o ∷ outlets) before after apart within stay =
    let list : List Message = list_at after o.place in
    let mid : List (List Message) = set before o.place list in
    let here : o.place < length before = within o (inl refl) in
    let rest : total mid + own_messages outlets after ≡ total after + own_messages outlets mid = others-count outlets mid after apart.1
    (λ p h. subst (λ n. p.place < n) (sym (length-set before o.place list)) (within p (inr h)))
    (record {
      as_many = stay.as_many ∙ sym (length-set before o.place list);
      others = λ place off. elim (cases_eq place o.place) [
        | inl same ↦ ap (list_at after) same ∙ sym (ap (list_at mid) same ∙ get_or-set_same before o.place list [] here)
        | inr differ ↦
            stay.others place (λ p h. elim h [ inl is ↦ (λ at. differ (sym (ap (λ q. q.place) is ∙ at))) | inr more ↦ off p more ])
            ∙ sym (get_or-set_other before o.place place list [] differ)
      ];
    }) in
    let kept : own_messages outlets mid ≡ own_messages outlets before = same_own outlets mid before (λ p h. get_or-set_other before o.place p.place list [] (λ same. apart.0 p h (sym same))) in
    omega (arith, rest, kept, sum_by-set length before o.place list [] here, sum_by-cons (λ (p : Outlet). length (list_at after p.place)) o outlets, sum_by-cons (λ (p : Outlet). length (list_at before p.place)) o outlets)

-- emission makes the total no less
pub total-emitted : (outlets : List Outlet) (outs : Sets) (lists : List (List Message)) → ((o : Outlet) → Has o outlets → o.place < length lists) → total lists ≤ total (emit_outlets outlets outs lists)
total-emitted [] outs lists within = omega arith
total-emitted (o ∷ outlets) outs lists within =
    let list : List Message = with_rows (list_at lists o.place) (set_at outs o.output) in
    omega (
      arith,
      total-same lists o.place list (within o (inl refl)) (with_rows-continues (list_at lists o.place) (set_at outs o.output)),
      total-emitted outlets outs (set lists o.place list) (λ p h. subst (λ n. p.place < n) (sym (length-set lists o.place list)) (within p (inr h))),
    )

pub total-sealed : (outlets : List Outlet) (keys : List Row) (lists : List (List Message)) → ((o : Outlet) → Has o outlets → o.place < length lists) → total lists ≤ total (seal_outlets outlets keys lists)
total-sealed [] keys lists within = omega arith
total-sealed (o ∷ outlets) keys lists within =
    let list : List Message = with_seals o.key (list_at lists o.place) keys in
    omega (
      arith,
      total-same lists o.place list (within o (inl refl)) (with_seals-continues o.key (list_at lists o.place) keys),
      total-sealed outlets keys (set lists o.place list) (λ p h. subst (λ n. p.place < n) (sym (length-set lists o.place list)) (within p (inr h))),
    )

-- the lists of outlets have no more messages than all
pub own_at_most : (outlets : List Outlet) (lists : List (List Message)) → AreApart outlets → ((o : Outlet) → Has o outlets → o.place < length lists) → own_messages outlets lists ≤ total lists
own_at_most outlets lists apart within =
    let none : Outlet → List Message → List Message = λ o list. [] in
    let after : List (List Message) = changed_outlets none outlets lists in
    let counted : total lists + own_messages outlets after ≡ total after + own_messages outlets lists = others-count outlets lists after apart within (others-changed none outlets lists) in
    let gone : own_messages outlets after ≡ 0 = empty outlets (λ o h. one-changed none outlets lists o apart h (within o h)) after in
    omega (arith, counted, gone)
  where
    empty_from : (n : ℕ) (os : List Outlet) (ls : List (List Message)) → ((o : Outlet) → Has o os → list_at ls o.place ≡ []) → fold (λ a (o : Outlet). a + length (list_at ls o.place)) n os ≡ n
    empty_from n [] ls all = refl
    empty_from n (o ∷ os) ls all = ap (λ l. fold (λ a (p : Outlet). a + length (list_at ls p.place)) (n + length l) os) (all o (inl refl)) ∙ empty_from (n + 0) os ls (λ p h. all p (inr h)) ∙ (let e : n + 0 ≡ n = omega arith in e)

    empty : (os : List Outlet) → ((o : Outlet) → Has o os → list_at (changed_outlets (λ p list. []) outlets lists) o.place ≡ []) → (ls : List (List Message)) → own_messages os (changed_outlets (λ p list. []) outlets lists) ≡ 0
    empty os all ls = empty_from 0 os (changed_outlets (λ p list. []) outlets lists) all
