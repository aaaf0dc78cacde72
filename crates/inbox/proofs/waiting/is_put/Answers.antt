use Rattle.std.proofs.Common.{◌∙◌, ◌++◌, ◌∷◌, [], List, ℕ, ap, refl, rules, sym}
use Rattle.std.specs.Option.{option_map_or}
use Rattle.std.specs.Global.{Vec}
use Rattle.inbox.proofs.Keeping.Places.{placed_after}
use Rattle.inbox.proofs.waiting.is_put.Goals as goal

pub returns-in_ok-push-in-Some-clause-put : goal.returns-in_ok-push-in-Some-clause-put
returns-in_ok-push-in-Some-clause-put c = λ is k.
    let old = c.args.places.now in
    let key = c.args.key.now in
    let own = c.push.new.self in
    placed_after old old (c.get_mut.follows.lender own) key own c.args.place ((c.get_mut.follows.holds own).3 (search rules)).0
    (c.in_ok-push-in-Some.ensures.items ∙ ap (λ (o : List ℕ). o ++ c.args.place ∷ []) (ap (λ o. option_map_or (λ (v : Vec ℕ). v.items) o []) c.in-Some.ensures.value))
    (λ q apart. refl) k

pub returns-in-None-clause-none : goal.returns-in-None-clause-none
returns-in-None-clause-none c = λ is. sym (ap (λ o. option_map_or (λ (v : Vec ℕ). v.items) o []) c.in-None.ensures.value)
