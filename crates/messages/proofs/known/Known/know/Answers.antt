use Rattle.std.proofs.Common.{◌∙◌, ◌≡◌, ℕ, List, ap, set, rules}
use Rattle.messages.specs.Known.{is_known}
use Rattle.messages.proofs.KnownLemmas.{place_knows, place_same}
use Rattle.messages.proofs.known.Known.know.Goals as goal

pub returns-clause-ok : goal.returns-clause-ok
returns-clause-ok c =
    place_knows c.args.self.now c.make_places.new.places.items c.args.place c.args.number c.index_mut.result.now c.add.new.self c.in_ok-make_places.ensures.room c.index_mut.ensures.value
    (λ n k. c.make_places.ensures.same n k ∙ ap (λ (places : List (List ℕ)). is_known places n k) c.self.view_is) c.in_ok-add.ensures.also

pub returns-in_err-add-clause-err : goal.returns-in_err-add-clause-err
returns-in_err-add-clause-err c =
    let same : (n k : ℕ) → is_known (set c.make_places.new.places.items c.args.place c.add.new.self) n k ≡ is_known c.args.self.now n k =
    place_same c.args.self.now c.make_places.new.places.items c.args.place c.index_mut.result.now c.add.new.self c.in_ok-make_places.ensures.room c.index_mut.ensures.value
    (λ n k. c.make_places.ensures.same n k ∙ ap (λ (places : List (List ℕ)). is_known places n k) c.self.view_is) c.in_err-add.ensures.err in
    search (rules, same)
