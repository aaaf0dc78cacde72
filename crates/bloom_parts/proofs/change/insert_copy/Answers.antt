use Rattle.std.proofs.Common.{Bool, ◌++◌, ◌∷◌, [], sym, subst}
use Rattle.blz_set.specs.Answers.{Becomes}
use Rattle.blz_set.proofs.Unions.{handed_on}
use Rattle.blz_value.specs.Sets.{set_of}
use Rattle.bloom_parts.proofs.Putting.{put_one, put_one_fault}
use Rattle.bloom_parts.proofs.change.insert_copy.Goals as goal

pub returns-in_err-insert : goal.returns-in_err-insert
returns-in_err-insert c =
    let fault = c.in_err-insert.field-0.0 in
    subst (Becomes {X = Unit {0}} c.args.into.now (set_of (c.args.into.now ++ c.args.row.now ∷ [])) c.insert.new.self) (sym (handed_on _ c.from_residual-in_err-insert.result fault c.from_residual-in_err-insert.ensures.1))
    (put_one_fault Bool (Unit {0}) c.args.into.now c.insert.new.self c.args.row.now c.in_ok-copy.field-0 c.in_ok-copy.ensures fault c.in_err-insert.ensures.rows)

pub returns : goal.returns
returns c = put_one Bool (Unit {0}) c.args.into.now c.insert.new.self c.args.row.now c.in_ok-copy.field-0 c.in_ok-copy.ensures c.in_ok-insert.field-0 (tt {0}) c.in_ok-insert.ensures.rows
