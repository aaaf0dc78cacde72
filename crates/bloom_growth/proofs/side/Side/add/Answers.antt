use Rattle.std.proofs.Common.{◌≡◌, ◌∙◌, ◌∷◌, ℕ, Bool, true, false, List, sym, ap, subst, rules}
use Rattle.blz_value.specs.Operators.{cells}
use Rattle.blz_value.specs.Sets.{set_of}
use Rattle.blz_set.proofs.Unions.{handed_on}
use Rattle.bloom_growth.specs.ByKey.{AddsAt, MakesByKey}
use Rattle.bloom_growth.proofs.SidesLemmas.{side_added, side_first, side_over}
use Rattle.bloom_growth.proofs.side.Side.add.Goals as goal

pub returns-in_err-add_at-clause-side : goal.returns-in_err-add_at-clause-side
returns-in_err-add_at-clause-side c = λ rows sorted side.
    let old = c.args.self.now in
    let row = c.args.row.now in
    let key : c.in_ok-key.key ≡ cells old.columns.items row = c.in_ok-key.ensures ∙ ap (λ (l : List ℕ). cells l row) c.deref.ensures.value in
    subst (MakesByKey old.columns.items (set_of (row ∷ rows)) c.add_at.new.sets) (sym (handed_on _ c.from_residual-in_err-add_at.result c.in_err-add_at.field-0.0 c.from_residual-in_err-add_at.ensures.1))
    (side_over old.columns.items row rows sorted old.sets c.in_ok-key.key key side c.add_at.new.sets c.add_at.new.sets c.in_err-add_at.field-0.0 c.in_err-add_at.ensures)

pub returns-then-branch-clause-side : goal.returns-then-branch-clause-side
returns-then-branch-clause-side c = λ rows sorted side.
    let old = c.args.self.now in
    let row = c.args.row.now in
    let key : c.in_ok-key.key ≡ cells old.columns.items row = c.in_ok-key.ensures ∙ ap (λ (l : List ℕ). cells l row) c.deref.ensures.value in
    let yes : c.in_ok-add_at.field-0 ≡ true = search rules in
    side_added old.columns.items row rows sorted old.sets c.in_ok-key.key key side c.add_at.new.sets (subst (λ (there : Bool). AddsAt there c.in_ok-key.key row old.sets c.add_at.new.sets) yes c.in_ok-add_at.ensures)

pub returns-clause-side : goal.returns-clause-side
returns-clause-side c = λ rows sorted side.
    let old = c.args.self.now in
    let row = c.args.row.now in
    let key : c.in_ok-key.key ≡ cells old.columns.items row = c.in_ok-key.ensures ∙ ap (λ (l : List ℕ). cells l row) c.deref.ensures.value in
    let no : c.in_ok-add_at.field-0 ≡ false = search rules in
    let same = subst (λ (there : Bool). AddsAt there c.in_ok-key.key row old.sets c.add_at.new.sets) no c.in_ok-add_at.ensures in
    side_first old.columns.items row rows sorted old.sets c.in_ok-key.key key side c.add_at.new.sets c.insert.new.self c.in_ok-copy.field-0 c.in_ok-set.set same c.in_ok-copy.ensures c.in_ok-set.ensures.0 c.in_ok-insert.ensures.updates.0
