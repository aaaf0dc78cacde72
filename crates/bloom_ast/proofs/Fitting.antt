-- The columns of an expression that fits, found in one walk.
use Rattle.std.proofs.Common.{if◌then◌else◌, ◌≡◌, ◌&&◌, ◌==◌, length, ◌∙◌, not, List, refl, sym, Bool, true, false, Option, Some, None}
use Rattle.std.specs.Option.{option_and_then}
use Rattle.bloom_forms.specs.Columns.{columns_of}
use Rattle.bloom_forms.specs.Fits.{are_columns, operator_fits, query_fits}
use Rattle.bloom_forms.specs.Query.{Name, Query}
use Rattle.bloom_forms.specs.Query.Query.{base, select, project, join, notin, group, at_least}
use Rattle.bloom_ast.specs.Code.Fitting.{keep, fitting}

one : (o : Option (List Name)) (b : Bool) (columns : List Name) (next : List Name → Option (List Name)) (whole : List Name) (fit : Bool) → o ≡ (if b then Some columns else None) → next columns ≡ keep whole fit → option_and_then next o ≡ (if b && (fit && are_columns whole) then Some whole else None)
one o true columns next whole fit e f = rw (e, f) refl
one o false columns next whole fit e f = rw e refl

two : (o p : Option (List Name)) (a b : Bool) (left right : List Name) (next : List Name → List Name → Option (List Name)) (whole : List Name) (fit : Bool) → o ≡ (if a then Some left else None) → p ≡ (if b then Some right else None) → next left right ≡ keep whole fit → option_and_then (λ l. option_and_then (next l) p) o ≡ (if a && (b && (fit && are_columns whole)) then Some whole else None)
two o p true true left right next whole fit e g f = rw (e, g, f) refl
two o p true false left right next whole fit e g f = rw (e, g) refl
two o p false b left right next whole fit e g f = rw e refl

pub found : (declared : Name → List Name) (q : Query) → fitting declared q ≡ (if query_fits declared q then Some (columns_of declared q) else None)
found declared (base name) = refl
found declared (select q f) = one _ _ _ _ (columns_of declared (select q f)) (operator_fits declared (select q f)) (found declared q) refl
found declared (project q items) = one _ _ _ _ (columns_of declared (project q items)) (operator_fits declared (project q items)) (found declared q) refl
found declared (join a b pairs) = two _ _ _ _ _ _ _ (columns_of declared (join a b pairs)) (operator_fits declared (join a b pairs)) (found declared a) (found declared b) refl
found declared (notin a b pairs) = two _ _ _ _ _ _ _ (columns_of declared (notin a b pairs)) (operator_fits declared (notin a b pairs)) (found declared a) (found declared b) refl
found declared (group q keys agg name) = one _ _ _ _ (columns_of declared (group q keys agg name)) (operator_fits declared (group q keys agg name)) (found declared q) refl
found declared (at_least q keys bound) = one _ _ _ _ (columns_of declared (at_least q keys bound)) (operator_fits declared (at_least q keys bound)) (found declared q) refl

-- a rule's columns, told what was found of its body
pub misfit_none : (declared : Name → List Name) (q : Query) (head : List Name) → fitting declared q ≡ None → not (query_fits declared q && length (columns_of declared q) == length head) ≡ true
misfit_none declared q head e = none (query_fits declared q) (sym (found declared q) ∙ e)
  where
    none : (b : Bool) → (if b then Some (columns_of declared q) else None) ≡ None → not (b && length (columns_of declared q) == length head) ≡ true
    none true e = cc
    none false e = refl

pub misfit_some : (declared : Name → List Name) (q : Query) (columns head : List Name) → fitting declared q ≡ Some columns → not (query_fits declared q && length (columns_of declared q) == length head) ≡ not (length columns == length head)
misfit_some declared q columns head e = some (query_fits declared q) (sym (found declared q) ∙ e)
  where
    some : (b : Bool) → (if b then Some (columns_of declared q) else None) ≡ Some columns → not (b && length (columns_of declared q) == length head) ≡ not (length columns == length head)
    some true e = let same : columns_of declared q ≡ columns = cc in rw same refl
    some false e = cc
