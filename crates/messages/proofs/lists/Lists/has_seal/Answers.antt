use Rattle.std.proofs.Common.{◌≡◌, ap, refl, subst}
use Rattle.std.specs.Prelude.{IfOk}
use Rattle.std.specs.List.{list_any}
use Rattle.messages.specs.EmittedIds.{is_seal_of}
use Rattle.messages.specs.Lists.{Listed, list_at}
use Rattle.messages.proofs.ListSeals.{list_found}
use Rattle.messages.proofs.lists.Lists.has_seal.Goals as goal

pub returns : goal.returns
returns c =
    let here : c.index.result.now ≡ list_at c.args.self.now.lists c.args.place = list_found c.self.inside.lists.items c.args.self.now c.args.place c.index.result.now c.index.result.now (ap (λ (l : Listed). l.lists) c.self.view_is) c.requires c.index.ensures refl in
    subst (λ list. IfOk c.has_seal.result (λ has. has ≡ list_any (is_seal_of c.args.key.now) list)) here c.has_seal.ensures
