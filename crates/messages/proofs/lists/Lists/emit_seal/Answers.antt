use Rattle.std.proofs.Common.{◌≡◌, ◌<◌, ◌∙◌, ◌++◌, ◌∷◌, [], set, ap, sym, subst}
use Rattle.std.specs.List.{list_any}
use Rattle.messages.specs.declared.message.Message.TheVariants.{Seal}
use Rattle.messages.specs.EmittedIds.{is_seal_of}
use Rattle.messages.specs.Lists.{Listed, list_at, total}
use Rattle.messages.specs.declared.fault.EventFault.TheVariants.{TooManyMessages}
use Rattle.messages.proofs.FaultLemmas.{came_from}
use Rattle.messages.proofs.ListSeals.{sealed-stays, sealed-becomes, sealed-exact, seal-over}
use Rattle.messages.proofs.ListsLemmas.{length-read_lists}
use Rattle.messages.proofs.lists.Lists.emit_seal.Goals as goal

pub returns-then-is_sealed-clause-ok : goal.returns-then-is_sealed-clause-ok
returns-then-is_sealed-clause-ok c =
    sealed-stays c.args.self.now c.args.place c.args.columns.now c.args.key.now
    (sym c.in_ok-is_sealed.ensures ∙ c.if-is_sealed.true)
    (subst (λ n. c.args.place < n) (sym (length-read_lists c.args.self.now)) c.requires.place)

pub put_seal-requires-clause-new : goal.put_seal-requires-clause-new
put_seal-requires-clause-new c = ap (λ (l : Listed). list_any (is_seal_of c.args.key.now) (list_at l.lists c.args.place)) c.count_with_key.ensures.same ∙ sym c.in_ok-is_sealed.ensures ∙ c.if-is_sealed.false

pub returns-in_err-put_seal-clause-too_many : goal.returns-in_err-put_seal-clause-too_many
returns-in_err-put_seal-clause-too_many c e =
    seal-over c.args.self.now c.args.place c.args.columns.now c.args.key.now c.requires.place
    (ap (λ (l : Listed). total l.lists) (sym c.count_with_key.ensures.same) ∙ c.put_seal.ensures.too_many (came_from c.from_residual-in_err-put_seal.result c.put_seal.result c.in_err-put_seal.field-0.0 TooManyMessages c.from_residual-in_err-put_seal.ensures.1 c.in_err-put_seal.was e))
    (sym c.in_ok-is_sealed.ensures ∙ c.if-is_sealed.false)

pub returns-clause-ok : goal.returns-clause-ok
returns-clause-ok c =
    let same : c.count_with_key.new.self ≡ c.args.self.now = c.count_with_key.ensures.same in
    sealed-becomes c.args.self.now c.put_seal.new.self c.args.place c.args.columns.now c.args.key.now c.in_ok-count.count
    (c.in_ok-put_seal.ensures.records ∙ ap (λ (l : Listed). l.records) same)
    (c.in_ok-put_seal.ensures.lists ∙ ap (λ (l : Listed). set l.lists c.args.place (list_at l.lists c.args.place ++ Seal c.args.key.now c.in_ok-count.count ∷ [])) same)
    (sym c.in_ok-is_sealed.ensures ∙ c.if-is_sealed.false)
    c.in_ok-count.ensures.count

pub returns-clause-exact : goal.returns-clause-exact
returns-clause-exact c =
    let same : c.count_with_key.new.self ≡ c.args.self.now = c.count_with_key.ensures.same in
    sealed-exact c.args.self.now c.put_seal.new.self c.args.place c.args.columns.now c.args.key.now c.requires.place c.requires.exact
    (c.in_ok-put_seal.ensures.records ∙ ap (λ (l : Listed). l.records) same)
    (sealed-becomes c.args.self.now c.put_seal.new.self c.args.place c.args.columns.now c.args.key.now c.in_ok-count.count
    (c.in_ok-put_seal.ensures.records ∙ ap (λ (l : Listed). l.records) same)
    (c.in_ok-put_seal.ensures.lists ∙ ap (λ (l : Listed). set l.lists c.args.place (list_at l.lists c.args.place ++ Seal c.args.key.now c.in_ok-count.count ∷ [])) same)
    (sym c.in_ok-is_sealed.ensures ∙ c.if-is_sealed.false)
    c.in_ok-count.ensures.count)
