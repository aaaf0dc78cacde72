-- What a stock body keeps after a step, refused or not, is one set with rows of the width of its columns.
use Rattle.std.proofs.Common.{◌≡◌, ◌<◌, ◌+◌, ℕ, get_or, List, [], ◌∷◌, ◌++◌, length, sym, subst, ◌⊎◌, inl, inr, arith, length-append, Result, Ok, Err, OnOk, OnErr}
use Rattle.blz_value.specs.Record.{Row}
use Rattle.bloom_forms.specs.Query.{Name}
use Rattle.bloom_forms.specs.Step.{Sets, set_at}
use Rattle.bloom_forms.specs.StockSteps.{latest_kept, number_kept}
use Rattle.bloom_forms.specs.Widths.{AreWide, AreSetsOf}
use Rattle.bloom_forms.proofs.Ends.StockWidths.{latest_kept-wide, number_kept-wide}

-- the first of some sets as code reads it
pub first_set : (sets : Sets) (first : List Row) → 0 < length sets → first ≡ get_or sets 0 first → first ≡ set_at sets 0
first_set [] first lt is = absurd (omega (arith, lt))
first_set (rows ∷ sets) first lt is = is

-- no rows have every width
pub none_left : (names : List Name) (new : List Row) → new ≡ [] → AreSetsOf (names ∷ []) (new ∷ [])
none_left names new none = subst (λ (rows : List Row). AreSetsOf (names ∷ []) (rows ∷ [])) (sym none) ((λ k d lt. absurd (omega (arith, lt))), tt)

pub latest_left : (columns : List Name) (keys : List ℕ) (old new put : List Row) → AreSetsOf (columns ∷ []) (old ∷ []) → AreWide (length columns) put → new ≡ latest_kept keys old put → AreSetsOf (columns ∷ []) (new ∷ [])
latest_left columns keys old new put was wide is = subst (λ (rows : List Row). AreSetsOf (columns ∷ []) (rows ∷ [])) (sym is) (latest_kept-wide (length columns) keys old put was.0 wide, tt)

pub number_left : (columns more : List Name) (old new arriving : List Row) → length more ≡ 1 → AreSetsOf ((columns ++ more) ∷ []) (old ∷ []) → AreWide (length columns) arriving → new ≡ number_kept old arriving → AreSetsOf ((columns ++ more) ∷ []) (new ∷ [])
number_left columns more old new arriving one was wide is =
    let longer : length (columns ++ more) ≡ length columns + 1 = omega (arith, length-append columns more, one) in
    let kept : AreWide (length columns + 1) old = subst (λ (n : ℕ). AreWide n old) longer was.0 in
    let after : AreWide (length (columns ++ more)) (number_kept old arriving) = subst (λ (n : ℕ). AreWide n (number_kept old arriving)) (sym longer) (number_kept-wide (length columns) old arriving kept wide) in
    subst (λ (rows : List Row). AreSetsOf ((columns ++ more) ∷ []) (rows ∷ [])) (sym is) (after, tt)

-- what was kept, or nothing
pub number_refused : (names : List Name) (old new : List Row) → AreSetsOf (names ∷ []) (old ∷ []) → (new ≡ old) ⊎ (new ≡ []) → AreSetsOf (names ∷ []) (new ∷ [])
number_refused names old new was (inl same) = subst (λ (rows : List Row). AreSetsOf (names ∷ []) (rows ∷ [])) (sym same) was
number_refused names old new was (inr none) = none_left names new none

-- whether the step was refused or not
pub latest_stepped : {X E : Type 0} (r : Result X E) (columns : List Name) (keys : List ℕ) (old new put : List Row) → AreSetsOf (columns ∷ []) (old ∷ []) → AreWide (length columns) put → OnOk r (new ≡ latest_kept keys old put) → OnErr r (new ≡ []) → AreSetsOf (columns ∷ []) (new ∷ [])
latest_stepped (Ok x) columns keys old new put was wide is none = latest_left columns keys old new put was wide is
latest_stepped (Err e) columns keys old new put was wide is none = none_left columns new none

pub number_stepped : {X E : Type 0} (r : Result X E) (columns more : List Name) (old new arriving : List Row) → length more ≡ 1 → AreSetsOf ((columns ++ more) ∷ []) (old ∷ []) → AreWide (length columns) arriving → OnOk r (new ≡ number_kept old arriving) → OnErr r ((new ≡ old) ⊎ (new ≡ [])) → AreSetsOf ((columns ++ more) ∷ []) (new ∷ [])
number_stepped (Ok x) columns more old new arriving one was wide is left = number_left columns more old new arriving one was wide is
number_stepped (Err e) columns more old new arriving one was wide is left = number_refused (columns ++ more) old new was left
