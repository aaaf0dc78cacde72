-- A shell that emits in its place among others is the one that changes.
use Rattle.std.proofs.Common.{◌≡◌, ◌<◌, ℕ, Option, None, List, [], length, map, set, get_or, ap, ◌∙◌, sym, subst}
use Rattle.std.specs.Prelude.{Result, Ok, Err, OnOk}
use Rattle.std.proofs.lemmas.List.{map-set, get_or-map}
use Rattle.bloom_forms.specs.declared.program.Program.{Program}
use Rattle.bloom_forms.specs.Step.{Sets}
use Rattle.topo_forms.specs.Messages.{Message}
use Rattle.inbox.specs.Timesteps.{SetOff}
use Rattle.inbox.specs.Running.{EmitsAt, Emits, MeetsFirst, MeetsAt}
use Rattle.inbox.specs.Limits.{Limit}
use Rattle.messages.specs.declared.fault.EventFault.{EventFault}
use Rattle.inbox.specs.declared.outlets.Outlet.{Outlet}

emitted_at : {X : Type 0} (loads : X → Option Program) (keeps : X → Sets) (xs : List X) (place : ℕ) (x y : X) (outlets : List Outlet) (before after : List (List Message)) (s : SetOff) → place < length xs → x ≡ get_or xs place x
    → Emits (loads x) outlets (keeps x) (keeps y) before after s → EmitsAt (map loads xs) place outlets (map keeps xs) (map keeps (set xs place y)) before after s
emitted_at loads keeps xs place x y outlets before after s less is emits = record {
  tables_now = keeps y;
  changed = map-set keeps xs place y;
  emits =
      subst (λ o. Emits o outlets (get_or (map keeps xs) place []) (keeps y) before after s) (sym (get_or-map loads xs place x None less ∙ ap loads (sym is)))
      (subst (λ t. Emits (loads x) outlets t (keeps y) before after s) (sym (get_or-map keeps xs place x [] less ∙ ap keeps (sym is))) emits);
}

pub emits_there : {X : Type 0} (loads : X → Option Program) (keeps : X → Sets) (xs : List X) (place : ℕ) (x y : X) (outlets : List Outlet) (before after : List (List Message)) (s : SetOff) (r : Result (Unit {0}) EventFault) → place < length xs → x ≡ get_or xs place x
    → OnOk r (Emits (loads x) outlets (keeps x) (keeps y) before after s) → OnOk r (EmitsAt (map loads xs) place outlets (map keeps xs) (map keeps (set xs place y)) before after s)
emits_there loads keeps xs place x y outlets before after s (Ok done) less is emits = emitted_at loads keeps xs place x y outlets before after s less is emits
emits_there loads keeps xs place x y outlets before after s (Err fault) less is emits = tt

pub meets_there : (limit : Limit) {X : Type 0} (loads : X → Option Program) (keeps : X → Sets) (xs : List X) (place : ℕ) (x : X) (outlets : List Outlet) (before : List (List Message)) (s : SetOff) → place < length xs → x ≡ get_or xs place x
    → MeetsFirst limit (loads x) outlets (keeps x) before s → MeetsAt limit (map loads xs) place outlets (map keeps xs) before s
meets_there limit loads keeps xs place x outlets before s less is meets =
    subst (λ o. MeetsFirst limit o outlets (get_or (map keeps xs) place []) before s) (sym (get_or-map loads xs place x None less ∙ ap loads (sym is)))
    (subst (λ t. MeetsFirst limit (loads x) outlets t before s) (sym (get_or-map keeps xs place x [] less ∙ ap keeps (sym is))) meets)
