use Rattle.std.proofs.Common.{◌≡◌, ◌==◌, ◌∙◌, List, length, refl, ap, sym}
use Rattle.std.proofs.lemmas.Bool.{eqb-true}
use Rattle.blz_value.specs.Record.{Row}
use Rattle.bloom_parts.specs.Turns.{rows_in}
use Rattle.bloom_parts.proofs.Putting.{put_where_none}
use Rattle.bloom_parts.proofs.change.Rows.put_onto.Goals as goal

pub returns-then-is_empty-clause-rows : goal.returns-then-is_empty-clause-rows
returns-then-is_empty-clause-rows c =
    let into = rows_in c.args.into.now in
    let none : length into ≡ 0 = eqb-true (length into) 0 (ap (λ (l : List Row). length l == 0) (sym c.as_rows.ensures) ∙ sym c.is_empty.ensures ∙ c.if-is_empty.true) in
    (put_where_none into (rows_in c.args.self) (rows_in c.args.self) none c.known.ensures refl).0

pub returns-then-is_empty-clause-few : goal.returns-then-is_empty-clause-few
returns-then-is_empty-clause-few c =
    let into = rows_in c.args.into.now in
    let none : length into ≡ 0 = eqb-true (length into) 0 (ap (λ (l : List Row). length l == 0) (sym c.as_rows.ensures) ∙ sym c.is_empty.ensures ∙ c.if-is_empty.true) in
    (put_where_none into (rows_in c.args.self) (rows_in c.args.self) none c.known.ensures refl).1
