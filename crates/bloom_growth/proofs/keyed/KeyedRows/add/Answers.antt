use Rattle.std.proofs.Common.{◌≡◌, ◌∙◌, ◌∷◌, [], ℕ, Bool, true, false, List, unwrap_or, sym, ap, subst, rules}
use Rattle.std.specs.BTreeMap.{is_at}
use Rattle.std.specs.Map.{lookup}
use Rattle.blz_value.specs.Operators.{cells}
use Rattle.blz_value.specs.Record.{Row, record_cmp}
use Rattle.blz_value.specs.Sets.{set_of}
use Rattle.bloom_growth.specs.ByKey.{rows_found, AddsAt}
use Rattle.bloom_growth.proofs.KeyedLemmas.{keyed_put}
use Rattle.bloom_growth.proofs.SidesLemmas.{side_added}
use Rattle.bloom_growth.proofs.keyed.KeyedRows.add.Goals as goal

pub returns-then-branch-clause-rows : goal.returns-then-branch-clause-rows
returns-then-branch-clause-rows c = λ rows sorted side.
    let old = c.args.self.now in
    let row = c.args.row.now in
    let key : c.in_ok-key.key ≡ cells old.columns.items row = c.in_ok-key.ensures ∙ ap (λ (l : List ℕ). cells l row) c.deref.ensures.value in
    let yes : c.in_ok-add_at.field-0 ≡ true = search rules in
    side_added old.columns.items row rows sorted old.sets c.in_ok-key.key key side c.add_at.new.sets (subst (λ (there : Bool). AddsAt there c.in_ok-key.key row old.sets c.add_at.new.sets) yes c.in_ok-add_at.ensures.added)

pub returns-clause-rows : goal.returns-clause-rows
returns-clause-rows c =
    let old = c.args.self.now in
    let row = c.args.row.now in
    let middle = c.add_at.new.sets in
    let key : c.in_ok-key.key ≡ cells old.columns.items row = c.in_ok-key.ensures ∙ ap (λ (l : List ℕ). cells l row) c.deref.ensures.value in
    let no : c.in_ok-add_at.field-0 ≡ false = search rules in
    let same = subst (λ (there : Bool). AddsAt there c.in_ok-key.key row old.sets middle) no c.in_ok-add_at.ensures.added in
    let stays : (other : Row) → rows_found middle other ≡ rows_found old.sets other = λ other. ap (λ (entries : List (Row × List Row)). unwrap_or (lookup (is_at (record_cmp other)) entries) []) same.0 in
    let made : c.insert.new.self ≡ set_of (row ∷ rows_found old.sets c.in_ok-key.key) =
    c.in_ok-insert.ensures.rows ∙ ap (λ (r : Row). set_of (r ∷ c.new-set.result)) c.in_ok-copy.ensures ∙ ap (λ (l : List Row). set_of (row ∷ l)) (c.new-set.ensures ∙ sym same.1) in
    keyed_put c.put.result old.columns.items row old.sets middle c.put.new.self.sets c.in_ok-key.key c.insert.new.self key made (stays c.in_ok-key.key ∙ same.1) (λ other different. stays other) c.put.ensures.rows c.put.ensures.left
