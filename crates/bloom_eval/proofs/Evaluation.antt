-- What the evaluation of an expression answers, by its parts.
use Rattle.std.proofs.Common.{◌≡◌, ◌≤◌, ◌∷◌, ◌++◌, List, length, inl, inr, Result, Ok, Err, IsErrAnd, refl, ap, ◌∙◌, sym, subst}
use Rattle.blz_value.specs.Record.{Row}
use Rattle.blz_value.proofs.Membership.{Has-append_left, Has-append_right, Has-append_cases}
use Rattle.blz_set.specs.RecordSet.{row_limit}
use Rattle.blz_set.specs.Answers.{Gives}
use Rattle.blz_set.specs.declared.fault.SetFault.{SetFault}
use Rattle.blz_set.specs.declared.fault.SetFault.TheVariants.{TooManyRows, NoMemory}
use Rattle.bloom_forms.specs.declared.numbered.NumberedExpr.{NumberedExpr}
use Rattle.bloom_forms.specs.Step.{Sets}
use Rattle.bloom_eval.specs.declared.rows.Rows.{Rows}
use Rattle.bloom_eval.specs.Code.Held.{rows_in}
use Rattle.bloom_eval.specs.NumberedRows.{numbered_rows, numbered_sets}
use Rattle.bloom_eval.specs.Code.Evaluates.{GivesRows, Evaluates}
use Rattle.bloom_eval.specs.StepAnswers.{AllFit}
use Rattle.blz_set.proofs.Unions.{handed_on}

-- rows that were given
pub gives_rows : (rows : List Row) (r : Result (List Row) SetFault) (set : List Row) (held : Rows) → r ≡ Ok set → rows_in held ≡ set → Gives rows r → GivesRows rows (Ok held)
gives_rows rows r set held is own gives = let g = subst (Gives rows) is gives in (own ∙ g.0, g.1)

-- a fault that was given
pub gives_fault : (rows : List Row) (r : Result (List Row) SetFault) (fault : SetFault) → r ≡ Err fault → Gives rows r → GivesRows rows (Err fault)
gives_fault rows r TooManyRows is gives = subst (Gives rows) is gives
gives_fault rows r NoMemory is gives = tt

-- the sets that count are the rows themselves and the sets of the parts
with_own : (own : List Row) (sets : Sets) (r : Result Rows SetFault) → AllFit sets → GivesRows own r → Evaluates own (own ∷ sets) r
with_own own sets (Ok held) fit gives = (gives.0, λ rows h. elim h [ inl e ↦ subst (λ (set : List Row). length set ≤ row_limit) e gives.1 | inr m ↦ fit rows m ])
with_own own sets (Err TooManyRows) fit gives = record { rows = own; stands = inl refl; over = gives }
with_own own sets (Err NoMemory) fit gives = tt

both_fit : (left right : Sets) → AllFit left → AllFit right → AllFit (left ++ right)
both_fit left right fit also rows h = elim (Has-append_cases rows left right h) [ inl l ↦ fit rows l | inr r ↦ also rows r ]

-- ---- an operator, given what the evaluation of its parts answered

module _ (sets : Sets) where
  -- what an evaluation answers
  abbrev pub Answers : NumberedExpr → Result Rows SetFault → Type 0
  Answers e r = Evaluates (numbered_rows sets e) (numbered_sets sets e) r

  -- over one part
  pub over_one : (e : NumberedExpr) (operator : List Row → List Row) (read : NumberedExpr) (part : Rows) (rows : List Row) (made : Result (List Row) SetFault) (r : Result Rows SetFault) → read ≡ e → Answers read (Ok part) → rows ≡ rows_in part → Gives (operator rows) made
      → ((wanted : List Row) → Gives wanted made → GivesRows wanted r) → Evaluates (operator (numbered_rows sets e)) (operator (numbered_rows sets e) ∷ numbered_sets sets e) r
  over_one e operator read part rows made r same answers lent gives hands =
      let own : rows ≡ numbered_rows sets e = lent ∙ answers.0 ∙ ap (numbered_rows sets) same in
      with_own (operator (numbered_rows sets e)) (numbered_sets sets e) r (subst (λ (x : NumberedExpr). AllFit (numbered_sets sets x)) same answers.1)
      (hands (operator (numbered_rows sets e)) (subst (λ (held : List Row). Gives (operator held) made) own gives))

  -- over two parts
  pub over_two : (e f : NumberedExpr) (operator : List Row → List Row → List Row) (first second : NumberedExpr) (left right : Rows) (lefts rights : List Row) (made : Result (List Row) SetFault) (r : Result Rows SetFault)
      → first ≡ e → second ≡ f → Answers first (Ok left) → Answers second (Ok right) → lefts ≡ rows_in left → rights ≡ rows_in right → Gives (operator lefts rights) made → ((wanted : List Row) → Gives wanted made → GivesRows wanted r)
      → Evaluates (operator (numbered_rows sets e) (numbered_rows sets f)) (operator (numbered_rows sets e) (numbered_rows sets f) ∷ (numbered_sets sets e ++ numbered_sets sets f)) r
  over_two e f operator first second left right lefts rights made r same also answers answered lent held gives hands =
      let own : lefts ≡ numbered_rows sets e = lent ∙ answers.0 ∙ ap (numbered_rows sets) same in
      let others : rights ≡ numbered_rows sets f = held ∙ answered.0 ∙ ap (numbered_rows sets) also in
      with_own (operator (numbered_rows sets e) (numbered_rows sets f)) (numbered_sets sets e ++ numbered_sets sets f) r
      (both_fit (numbered_sets sets e) (numbered_sets sets f) (subst (λ (x : NumberedExpr). AllFit (numbered_sets sets x)) same answers.1) (subst (λ (x : NumberedExpr). AllFit (numbered_sets sets x)) also answered.1))
      (hands (operator (numbered_rows sets e) (numbered_rows sets f)) (subst (λ (X : Type 0). X) (λ i. Gives (operator (own i) (others i)) made) gives))

  -- a fault of the left or the right part is one of the whole

  pub left_refused : (own : List Row) (e f read : NumberedExpr) (fault : SetFault) (r : Result Rows SetFault) → IsErrAnd r (λ d. d ≡ fault) → read ≡ e → Answers read (Err fault) → Evaluates own (own ∷ (numbered_sets sets e ++ numbered_sets sets f)) r
  left_refused own e f read fault r is same answers =
      subst (Evaluates own (own ∷ (numbered_sets sets e ++ numbered_sets sets f))) (sym (handed_on Rows r fault is)) (go fault (subst (λ (x : NumberedExpr). Answers x (Err fault)) same answers))
    where
      go : (d : SetFault) → Answers e (Err d) → Evaluates own (own ∷ (numbered_sets sets e ++ numbered_sets sets f)) (Err d)
      go TooManyRows over = record { rows = over.rows; stands = inr (Has-append_left over.rows (numbered_sets sets e) (numbered_sets sets f) over.stands); over = over.over }
      go NoMemory over = tt

  pub right_refused : (own : List Row) (e f read : NumberedExpr) (fault : SetFault) (r : Result Rows SetFault) → IsErrAnd r (λ d. d ≡ fault) → read ≡ f → Answers read (Err fault) → Evaluates own (own ∷ (numbered_sets sets e ++ numbered_sets sets f)) r
  right_refused own e f read fault r is same answers =
      subst (Evaluates own (own ∷ (numbered_sets sets e ++ numbered_sets sets f))) (sym (handed_on Rows r fault is)) (go fault (subst (λ (x : NumberedExpr). Answers x (Err fault)) same answers))
    where
      go : (d : SetFault) → Answers f (Err d) → Evaluates own (own ∷ (numbered_sets sets e ++ numbered_sets sets f)) (Err d)
      go TooManyRows over = record { rows = over.rows; stands = inr (Has-append_right over.rows (numbered_sets sets e) (numbered_sets sets f) over.stands); over = over.over }
      go NoMemory over = tt
