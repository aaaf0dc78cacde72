use Rattle.std.proofs.Common.{◌≡◌, ◌∙◌, ◌++◌, ◌∷◌, [], ℕ, List, Some, cond, ap, false, refl, rules, subst, sym}
use Rattle.std.specs.BTreeMap.{is_at}
use Rattle.std.specs.Global.{Vec}
use Rattle.std.specs.Map.{lookup}
use Rattle.blz_value.specs.Record.{Row, record_cmp}
use Rattle.inbox.specs.Code.Places.{places_of, PutsPlace}
use Rattle.inbox.proofs.Keeping.Places.{placed_after}
use Rattle.inbox.proofs.waiting.put_place.Goals as goal

pub returns : goal.returns
returns c =
    let no : c.in_ok-is_put.field-0 ≡ false = search rules in
    let old = c.args.places.now in
    let one = c.in_ok-one_place.field-0 in
    let same = c.in_ok-is_put.ensures.same no in
    subst (λ (key : Row). PutsPlace old c.insert.new.self key c.args.place) c.in_ok-own.ensures
    (placed_after old old c.insert.new.self c.in_ok-own.own one c.args.place
    (λ q. c.in_ok-insert.ensures.updates.0 q ∙ ap (λ (es : List (Row × Vec ℕ)). cond (is_at (record_cmp c.in_ok-own.own) q) (Some one) (lookup (is_at (record_cmp q)) es)) same)
    (c.in_ok-one_place.ensures ∙ ap (λ (own : List ℕ). own ++ c.args.place ∷ []) (sym (subst (λ (key : Row). places_of old key ≡ []) (sym c.in_ok-own.ensures) (c.in_ok-is_put.ensures.none no))))
    (λ q apart. refl))
