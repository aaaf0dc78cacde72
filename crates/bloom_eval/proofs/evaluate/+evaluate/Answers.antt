use Rattle.std.proofs.Common.{subst}
use Rattle.blz_value.specs.Sets.{set_of}
use Rattle.blz_value.specs.Test.{test_holds}
use Rattle.blz_value.specs.Operators.{Pairs, select_rows, project_rows, join_rows, notin_rows}
use Rattle.blz_value.specs.Groups.{group_rows, at_least_rows}
use Rattle.blz_set.specs.Answers.{Gives}
use Rattle.bloom_eval.specs.Code.Held.{sets_in}
use Rattle.bloom_eval.specs.NumberedRows.{numbered_rows}
use Rattle.bloom_eval.proofs.Evaluation.{over_one, over_two, left_refused, right_refused}
use Rattle.bloom_eval.proofs.evaluate.+evaluate.Goals as goal

pub returns-in_err-left-in-Join : goal.returns-in_err-left-in-Join
returns-in_err-left-in-Join t c =
    let sets = sets_in c.args.held.now in
    rw c.in-Join.is (left_refused sets (set_of (join_rows c.in-Join.pairs (numbered_rows sets c.in-Join.left.value) (numbered_rows sets c.in-Join.right.value))) c.in-Join.left.value c.in-Join.right.value c.deref-in-Join.result.now c.in_err-left-in-Join.field-0.0
    c.from_residual-in_err-left-in-Join.result c.from_residual-in_err-left-in-Join.ensures.1 c.deref-in-Join.ensures c.in_err-left-in-Join.ensures)

pub returns-in_err-right-in-Join : goal.returns-in_err-right-in-Join
returns-in_err-right-in-Join t c =
    let sets = sets_in c.args.held.now in
    rw c.in-Join.is (right_refused sets (set_of (join_rows c.in-Join.pairs (numbered_rows sets c.in-Join.left.value) (numbered_rows sets c.in-Join.right.value))) c.in-Join.left.value c.in-Join.right.value c.deref-in-Join-2.result.now c.in_err-right-in-Join.field-0.0
    c.from_residual-in_err-right-in-Join.result c.from_residual-in_err-right-in-Join.ensures.1 c.deref-in-Join-2.ensures c.in_err-right-in-Join.ensures)

pub returns-in_err-left-in-NotIn : goal.returns-in_err-left-in-NotIn
returns-in_err-left-in-NotIn t c =
    let sets = sets_in c.args.held.now in
    rw c.in-NotIn.is (left_refused sets (set_of (notin_rows c.in-NotIn.pairs (numbered_rows sets c.in-NotIn.left.value) (numbered_rows sets c.in-NotIn.right.value))) c.in-NotIn.left.value c.in-NotIn.right.value c.deref-in-NotIn.result.now c.in_err-left-in-NotIn.field-0.0
    c.from_residual-in_err-left-in-NotIn.result c.from_residual-in_err-left-in-NotIn.ensures.1 c.deref-in-NotIn.ensures c.in_err-left-in-NotIn.ensures)

pub returns-in_err-right-in-NotIn : goal.returns-in_err-right-in-NotIn
returns-in_err-right-in-NotIn t c =
    let sets = sets_in c.args.held.now in
    rw c.in-NotIn.is (right_refused sets (set_of (notin_rows c.in-NotIn.pairs (numbered_rows sets c.in-NotIn.left.value) (numbered_rows sets c.in-NotIn.right.value))) c.in-NotIn.left.value c.in-NotIn.right.value c.deref-in-NotIn-2.result.now c.in_err-right-in-NotIn.field-0.0
    c.from_residual-in_err-right-in-NotIn.result c.from_residual-in_err-right-in-NotIn.ensures.1 c.deref-in-NotIn-2.ensures c.in_err-right-in-NotIn.ensures)

pub returns-in_ok-part-in-Select : goal.returns-in_ok-part-in-Select
returns-in_ok-part-in-Select t c =
    rw c.in-Select.is (over_one (sets_in c.args.held.now) c.in-Select.part.value (λ rows. set_of (select_rows (test_holds c.in-Select.test) rows)) c.deref.result.now c.in_ok-part-in-Select.part c.as_set.result.now c.select.result c.owned.result
    c.deref.ensures c.in_ok-part-in-Select.ensures c.as_set.ensures.rows c.select.ensures c.owned.ensures)

pub returns-in_ok-part-in-Project : goal.returns-in_ok-part-in-Project
returns-in_ok-part-in-Project t c =
    rw c.in-Project.is (over_one (sets_in c.args.held.now) c.in-Project.part.value (λ rows. set_of (project_rows c.in-Project.columns rows)) c.deref-in-Project.result.now c.in_ok-part-in-Project.part c.as_set-in-Project.result.now c.project.result c.owned-in-Project.result
    c.deref-in-Project.ensures c.in_ok-part-in-Project.ensures c.as_set-in-Project.ensures.rows (subst (λ columns. Gives (set_of (project_rows columns c.as_set-in-Project.result.now)) c.project.result) c.as_slice.ensures c.project.ensures) c.owned-in-Project.ensures)

pub returns-in_ok-part-in-Group : goal.returns-in_ok-part-in-Group
returns-in_ok-part-in-Group t c =
    rw c.in-Group.is (over_one (sets_in c.args.held.now) c.in-Group.part.value (λ rows. set_of (group_rows c.in-Group.keys c.in-Group.agg rows)) c.deref-in-Group.result.now c.in_ok-part-in-Group.part c.as_set-in-Group.result.now c.group.result c.owned-in-Group.result
    c.deref-in-Group.ensures c.in_ok-part-in-Group.ensures c.as_set-in-Group.ensures.rows (subst (λ columns. Gives (set_of (group_rows columns c.in-Group.agg c.as_set-in-Group.result.now)) c.group.result) c.as_slice-in-Group.ensures c.group.ensures) c.owned-in-Group.ensures)

pub returns-in_ok-part-in-AtLeast : goal.returns-in_ok-part-in-AtLeast
returns-in_ok-part-in-AtLeast t c =
    rw c.in-AtLeast.is (over_one (sets_in c.args.held.now) c.in-AtLeast.part.value (λ rows. set_of (at_least_rows c.in-AtLeast.keys c.in-AtLeast.bound rows)) c.deref-in-AtLeast.result.now c.in_ok-part-in-AtLeast.part c.as_set-in-AtLeast.result.now c.at_least.result c.owned-in-AtLeast.result
    c.deref-in-AtLeast.ensures c.in_ok-part-in-AtLeast.ensures c.as_set-in-AtLeast.ensures.rows (subst (λ columns. Gives (set_of (at_least_rows columns c.in-AtLeast.bound c.as_set-in-AtLeast.result.now)) c.at_least.result) c.as_slice-in-AtLeast.ensures c.at_least.ensures) c.owned-in-AtLeast.ensures)

pub returns-in_ok-right-in-Join : goal.returns-in_ok-right-in-Join
returns-in_ok-right-in-Join t c =
    rw c.in-Join.is (over_two (sets_in c.args.held.now) c.in-Join.left.value c.in-Join.right.value (λ lefts rights. set_of (join_rows c.in-Join.pairs lefts rights)) c.deref-in-Join.result.now c.deref-in-Join-2.result.now
    c.in_ok-left-in-Join.left c.in_ok-right-in-Join.right c.as_set-in-Join.result.now c.as_set-in-Join-2.result.now c.join.result c.owned-in-Join.result
    c.deref-in-Join.ensures c.deref-in-Join-2.ensures c.in_ok-left-in-Join.ensures c.in_ok-right-in-Join.ensures c.as_set-in-Join.ensures.rows c.as_set-in-Join-2.ensures.rows
    (subst (λ (pairs : Pairs). Gives (set_of (join_rows pairs c.as_set-in-Join.result.now c.as_set-in-Join-2.result.now)) c.join.result) c.as_slice-in-Join.ensures c.join.ensures) c.owned-in-Join.ensures)

pub returns-in_ok-right-in-NotIn : goal.returns-in_ok-right-in-NotIn
returns-in_ok-right-in-NotIn t c =
    rw c.in-NotIn.is (over_two (sets_in c.args.held.now) c.in-NotIn.left.value c.in-NotIn.right.value (λ lefts rights. set_of (notin_rows c.in-NotIn.pairs lefts rights)) c.deref-in-NotIn.result.now c.deref-in-NotIn-2.result.now
    c.in_ok-left-in-NotIn.left c.in_ok-right-in-NotIn.right c.as_set-in-NotIn.result.now c.as_set-in-NotIn-2.result.now c.antijoin.result c.owned-in-NotIn.result
    c.deref-in-NotIn.ensures c.deref-in-NotIn-2.ensures c.in_ok-left-in-NotIn.ensures c.in_ok-right-in-NotIn.ensures c.as_set-in-NotIn.ensures.rows c.as_set-in-NotIn-2.ensures.rows
    (subst (λ (pairs : Pairs). Gives (set_of (notin_rows pairs c.as_set-in-NotIn.result.now c.as_set-in-NotIn-2.result.now)) c.antijoin.result) c.as_slice-in-NotIn.ensures c.antijoin.ensures) c.owned-in-NotIn.ensures)
