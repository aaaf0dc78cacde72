-- The evaluation of an expression from that of its parts.
use Rattle.std.proofs.Common.{◌≡◌, ◌∙◌, ◌≤◌, Bool, true, false, List, ◌∷◌, ◌++◌, length, get_or, Result, Ok, Err, OnOk, refl, ap, sym, subst, inl, inr}
use Rattle.std.specs.List.{All}
use Rattle.std.specs.Result.{IsErrAnd}
use Rattle.blz_value.specs.Members.{Has}
use Rattle.blz_value.specs.Record.{Row}
use Rattle.blz_value.proofs.Membership.{Has-append_cases, Has-get_or, All-of_member}
use Rattle.blz_set.specs.RecordSet.{row_limit}
use Rattle.blz_set.specs.declared.fault.SetFault.{SetFault}
use Rattle.blz_set.specs.declared.fault.SetFault.TheVariants.{TooManyRows, NoMemory}
use Rattle.blz_set.proofs.Unions.{handed_on}
use Rattle.bloom_forms.specs.declared.numbered.NumberedExpr.{NumberedExpr}
use Rattle.bloom_forms.specs.Step.{Sets}
use Rattle.bloom_eval.specs.NumberedRows.{numbered_rows, numbered_sets, TestsFit}
use Rattle.bloom_eval.specs.StepAnswers.{AllFit, SomeIsOver}
use Rattle.bloom_growth.proofs.TurnedLemmas.{came, went}
use Rattle.bloom_parts.specs.declared.change.Change.{Change}
use Rattle.bloom_parts.specs.KeptParts.{PartChanges}
use Rattle.bloom_parts.specs.Turns.{rows_in, HasTurned, Turns, TurnsTo}
use Rattle.bloom_parts.proofs.Turning.{flagged, none_lost, turned_of}
use Rattle.bloom_index.specs.declared.plan.Plan.{Plan}
use Rattle.bloom_index.specs.Code.Evaluation.{PlanStands, Stands, HaveGrown, JoinsFit, IsReady, Evaluates}
use Rattle.bloom_index.specs.Code.Growth.{grows}
use Rattle.bloom_index.specs.Code.Lasting.{lasts, KeepsEnough}
use Rattle.bloom_index.specs.Code.Plans.{expr_of}
use Rattle.bloom_index.proofs.Monotone.{grown}

-- ---- readiness

-- readiness of equal expressions and plans
abbrev pub moved : (e0 e : NumberedExpr) (m0 m : Plan) (held : List Change) → e0 ≡ e → m0 ≡ m → IsReady e0 m0 held → IsReady e m held
moved e0 e m0 m held ee em ready = record {
  growing = ready.growing;
  lasting = ready.lasting;
  old = ready.old;
  new = ready.new;
  turned = ready.turned;
  grown = ready.grown;
  stands = subst (λ (x : Plan). Stands ready.growing ready.lasting ready.old e x) em (subst (λ (x : NumberedExpr). Stands ready.growing ready.lasting ready.old x m0) ee ready.stands);
  enough = subst (KeepsEnough ready.lasting) ee ready.enough;
  fit_old = subst (TestsFit ready.old) ee ready.fit_old;
  fit = subst (TestsFit ready.new) ee ready.fit;
  wide = subst (JoinsFit ready.old ready.new) ee ready.wide;
}

-- readiness by the plan's own expression
abbrev pub ready_here : (e : NumberedExpr) (m : Plan) (held : List Change) → IsReady e m held → IsReady (expr_of m) m held
ready_here e m held ready = moved e (expr_of m) m m held (sym ready.stands.same) refl ready

-- the same of an equal plan
abbrev pub ready_as : (m0 m : Plan) (held : List Change) → m0 ≡ m → IsReady (expr_of m0) m0 held → IsReady (expr_of m) m held
ready_as m0 m held is ready = moved (expr_of m0) (expr_of m) m0 m held (ap expr_of is) is ready

-- readiness of a part
abbrev pub part_of : (e : NumberedExpr) (m m1 : Plan) (held : List Change) (ready : IsReady e m held) → PlanStands ready.growing ready.lasting ready.old m1 → KeepsEnough ready.lasting (expr_of m1) → TestsFit ready.old (expr_of m1) → TestsFit ready.new (expr_of m1) → JoinsFit ready.old ready.new (expr_of m1) → IsReady (expr_of m1) m1 held
part_of e m m1 held ready kept enough fit_old fit wide = record {
  growing = ready.growing;
  lasting = ready.lasting;
  old = ready.old;
  new = ready.new;
  turned = ready.turned;
  grown = ready.grown;
  stands = record { same = refl; kept = kept };
  enough = enough;
  fit_old = fit_old;
  fit = fit;
  wide = wide;
}

-- ---- answers

-- what is answered of equal expressions and plans
pub transport : (e0 e : NumberedExpr) (m0 m after : Plan) (held : List Change) (r : Result Change SetFault) (ee : e0 ≡ e) (em : m0 ≡ m) → ((ready : IsReady e m held) → Evaluates e m after held ready r) → (ready : IsReady e0 m0 held) → Evaluates e0 m0 after held ready r
transport e0 e m0 m after held (Ok change) ee em f ready =
    subst (λ (x : NumberedExpr). TurnsTo (lasts ready.lasting x) (numbered_rows ready.old x) (numbered_rows ready.new x) (Ok change) × Stands ready.growing ready.lasting ready.new x after × AllFit (numbered_sets ready.new x)) (sym ee) (f (moved e0 e m0 m held ee em ready))
transport e0 e m0 m after held (Err TooManyRows) ee em f ready = subst (λ (x : NumberedExpr). SomeIsOver (numbered_sets ready.new x)) (sym ee) (f (moved e0 e m0 m held ee em ready))
transport e0 e m0 m after held (Err NoMemory) ee em f ready = tt

-- it is answered, by whatever expression the plan is ready
abbrev pub IsAnswered : (m after : Plan) (held : List Change) → Result Change SetFault → Type 0
IsAnswered m after held r = (e : NumberedExpr) (ready : IsReady e m held) → Evaluates e m after held ready r

-- what is answered of an equal plan, which stands behind a box
pub behind : (m0 m after : Plan) (held : List Change) (r : Result Change SetFault) → m ≡ m0 → IsAnswered m after held r → IsAnswered m0 after held r
behind m0 m after held r is f e ready = transport e e m0 m after held r refl (sym is) (f e) ready

-- what is answered by the plan's own expression is answered
pub opened : (m0 m after : Plan) (held : List Change) (r : Result Change SetFault) → m0 ≡ m → ((ready : IsReady (expr_of m) m held) → Evaluates (expr_of m) m after held ready r) → IsAnswered m0 after held r
opened m0 m after held r is f e ready = transport e (expr_of m) m0 m after held r (sym ready.stands.same ∙ ap expr_of is) is f ready

-- a fault of a part is one of the whole
pub refused : (e e1 : NumberedExpr) (m m1 after after1 : Plan) (held : List Change) (r : Result Change SetFault) (fault : SetFault) (ready : IsReady e m held) (part : IsReady e1 m1 held) → part.new ≡ ready.new → ((sets : Sets) (rows : List Row) → Has rows (numbered_sets sets e1) → Has rows (numbered_sets sets e)) → IsErrAnd r (λ d. d ≡ fault) → Evaluates e1 m1 after1 held part (Err fault) → Evaluates e m after held ready r
refused e e1 m m1 after after1 held r fault ready part same within is answers = subst (Evaluates e m after held ready) (sym (handed_on Change r fault is)) (go fault answers)
  where
    go : (d : SetFault) → Evaluates e1 m1 after1 held part (Err d) → Evaluates e m after held ready (Err d)
    go TooManyRows over = record {
      rows = over.rows;
      stands = subst (λ (sets : Sets). Has over.rows (numbered_sets sets e)) same (within part.new over.rows over.stands);
      over = over.over;
    }
    go NoMemory h = tt

pub both_fit : (left right : Sets) → AllFit left → AllFit right → AllFit (left ++ right)
both_fit left right fit also rows h = elim (Has-append_cases rows left right h) [ inl l ↦ fit rows l | inr r ↦ also rows r ]

-- what an operator answers, whose parts fit
pub answered : (e : NumberedExpr) (m after : Plan) (held : List Change) (ready : IsReady e m held) (last : Bool) (sub : Sets) (r : Result Change SetFault) → last ≡ lasts ready.lasting e → numbered_sets ready.new e ≡ numbered_rows ready.new e ∷ sub → AllFit sub → TurnsTo last (numbered_rows ready.old e) (numbered_rows ready.new e) r → OnOk r (Stands ready.growing ready.lasting ready.new e after) → Evaluates e m after held ready r
answered e m after held ready last sub (Ok change) same sets fit made stands = (
  flagged last (lasts ready.lasting e) (numbered_rows ready.old e) (numbered_rows ready.new e) (Ok change) same made,
  stands,
  subst AllFit (sym sets) (λ rows h. elim h [ inl own ↦ subst (λ (l : List Row). length l ≤ row_limit) own made.1.few | inr m ↦ fit rows m ]),
)
answered e m after held ready last sub (Err TooManyRows) same sets fit made stands = record {
  rows = numbered_rows ready.new e;
  stands = subst (λ (l : Sets). Has (numbered_rows ready.new e) l) (sym sets) (inl refl);
  over = made;
}
answered e m after held ready last sub (Err NoMemory) same sets fit made stands = tt

-- ---- the change of a part

-- the rows of a change are rows of the part, before or after
pub all_turned : (P : Row → Type 0) (old new : List Row) (part : Change) → Turns old new part → All P new → All P (rows_in part.rows)
all_turned P old new part t all k d lt = All-of_member P new (get_or (rows_in part.rows) k d) all (within part.kept old new (rows_in part.rows) (rows_in part.gone) t.rows (get_or (rows_in part.rows) k d) (Has-get_or (rows_in part.rows) k d lt))
  where
    within : (kept : Bool) (old new rows gone : List Row) → HasTurned kept old new rows gone → (q : Row) → Has q rows → Has q new
    within true old new rows gone t q h = (came old new rows gone t.0 q h).0
    within false old new rows gone t q h = subst (λ (l : List Row). Has q l) t h

pub all_lost : (P : Row → Type 0) (old new : List Row) (part : Change) → Turns old new part → part.kept ≡ true → All P old → All P (rows_in part.gone)
all_lost P old new part t is all k d lt = All-of_member P old (get_or (rows_in part.gone) k d) all (went old new (rows_in part.rows) (rows_in part.gone) (turned_of old new part t is).0 (get_or (rows_in part.gone) k d) (Has-get_or (rows_in part.gone) k d lt)).0

-- where it grows it loses nothing
pub part_changes : (growing : List Bool) (old new : Sets) → HaveGrown growing old new → (e : NumberedExpr) (part : Change) → Turns (numbered_rows old e) (numbered_rows new e) part → PartChanges (grows growing e) (numbered_rows old e) (numbered_rows new e) part
part_changes growing old new have e part t = record {
  turned = t;
  none_gone = λ g is. none_lost (numbered_rows old e) (numbered_rows new e) (rows_in part.rows) (rows_in part.gone) (turned_of (numbered_rows old e) (numbered_rows new e) part t is).0 (grown growing old new have e g).within;
}
