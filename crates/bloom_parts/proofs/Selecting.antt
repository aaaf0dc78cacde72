-- What is selected of all rows of a part.
use Rattle.std.proofs.Common.{◌≡◌, ◌∙◌, Bool, false, List, Ok, refl, ap, sym, subst}
use Rattle.blz_value.specs.Operators.{select_rows}
use Rattle.blz_value.specs.Record.{Row}
use Rattle.blz_value.specs.Sets.{set_of}
use Rattle.blz_value.proofs.SetLaws.{sorted_set_of}
use Rattle.bloom_parts.specs.declared.change.Change.{Change}
use Rattle.bloom_parts.specs.Turns.{rows_in, HasTurned, Turns, TurnsTo}
use Rattle.bloom_parts.proofs.Turning.{turns_from, few_selected}

pub select_all : (p : Row → Bool) (old new : List Row) (part made : Change) → Turns old new part → part.kept ≡ false → made.kept ≡ false → rows_in made.rows ≡ set_of (select_rows p (rows_in part.rows)) → TurnsTo part.kept (set_of (select_rows p old)) (set_of (select_rows p new)) (Ok made)
select_all p old new part made t is e r =
    let before = set_of (select_rows p old) in
    let after = set_of (select_rows p new) in
    let now : rows_in part.rows ≡ new = subst (λ (b : Bool). HasTurned b old new (rows_in part.rows) (rows_in part.gone)) is t.rows in
    let all : rows_in made.rows ≡ after = r ∙ ap (λ (l : List Row). set_of (select_rows p l)) now in
    turns_from part.kept before after (rows_in made.rows) (rows_in made.gone) made (e ∙ sym is) refl refl (sorted_set_of (select_rows p new)) (few_selected p new t.few)
    (subst (λ (b : Bool). HasTurned b before after (rows_in made.rows) (rows_in made.gone)) (sym is) all)
