use Rattle.std.proofs.Common.{◌∙◌, ℕ, List, [], ap, sym}
use Rattle.std.proofs.lemmas.List.{get_or_past, get_or_read}
use Rattle.messages.specs.Numbers.{has_number}
use Rattle.messages.proofs.NumbersLemmas.{none_set}
use Rattle.messages.proofs.known.knows_at.Goals as goal

pub returns-in-Some : goal.returns-in-Some
returns-in-Some c =
    c.contains.ensures
    ∙ ap (λ (words : List ℕ). has_number words c.args.number) (get_or_read c.args.places.now c.args.place c.in-Some.numbers.now c.in-Some.ensures.lookup.3.0 c.in-Some.ensures.lookup.1 [])

pub returns-in-None : goal.returns-in-None
returns-in-None c = sym (ap (λ (words : List ℕ). has_number words c.args.number) (get_or_past c.args.places.now c.args.place [] c.in-None.ensures.lookup.3) ∙ none_set c.args.number)
