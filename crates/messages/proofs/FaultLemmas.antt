-- A fault that is handed on is that of the call which gave it.
use Rattle.std.proofs.Common.{◌≡◌, ◌∙◌, ap, sym, subst, Result, Ok, Err, IsErrAnd}
use Rattle.messages.specs.declared.fault.EventFault.{EventFault}

pub came_from : {X Y : Type 0} (r : Result X EventFault) (called : Result Y EventFault) (given fault : EventFault) → IsErrAnd r (λ d. d ≡ given) → called ≡ Err given → r ≡ Err fault → called ≡ Err fault
came_from (Ok x) called given fault handed was is = absurd handed
came_from {X} {Y} (Err d) called given fault handed was is =
    let same : d ≡ fault = cc in
    was ∙ ap (λ (f : EventFault). Err f) (sym handed ∙ same)

-- what holds of a fault holds of the answer that hands it on
pub handed_on : {X : Type 0} (P : Result X EventFault → Type 0) (r : Result X EventFault) (fault : EventFault) → IsErrAnd r (λ d. d ≡ fault) → P (Err fault) → P r
handed_on P (Ok x) fault h p = absurd h
handed_on P (Err d) fault h p = subst (λ f. P (Err f)) (sym h) p
