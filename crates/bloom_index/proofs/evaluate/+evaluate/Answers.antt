use Rattle.std.proofs.Common.{Ok, Err}
use Rattle.bloom_index.proofs.Evaluating.{ready_as, behind, opened}
use Rattle.bloom_index.proofs.OperatorAnswers.{base_answered, select_refused, project_refused, group_refused, at_least_refused, select_rows_fit, select_gone_fit, group_kept, at_least_kept, select_answered, project_answered, group_answered, at_least_answered, join_left_refused, join_right_refused, one_kept, join_answered, notin_left_refused, notin_right_refused, right_kept, notin_answered}
use Rattle.bloom_index.proofs.evaluate.+evaluate.Goals as goal

pub returns-in_err-part-in-Select : goal.returns-in_err-part-in-Select
returns-in_err-part-in-Select t c = opened c.args.plan.now _ _ c.args.held.now c.from_residual.result c.in-Select.is
    (select_refused c.args.held.now _ c.in-Select.part.value c.evaluate.new.plan _ c.in_err-part-in-Select.field-0.0 (behind c.in-Select.part.value c.deref_mut.result.now c.evaluate.new.plan c.args.held.now (Err c.in_err-part-in-Select.field-0.0) c.deref_mut.ensures.value c.in_err-part-in-Select.ensures) c.from_residual.result c.from_residual.ensures.1 c.in-Select.test)

pub returns-in_err-part-in-Project : goal.returns-in_err-part-in-Project
returns-in_err-part-in-Project t c = opened c.args.plan.now _ _ c.args.held.now c.from_residual-in_err-part-in-Project.result c.in-Project.is
    (project_refused c.args.held.now _ c.in-Project.part.value c.evaluate-in-Project.new.plan _ c.in_err-part-in-Project.field-0.0 (behind c.in-Project.part.value c.deref_mut-in-Project.result.now c.evaluate-in-Project.new.plan c.args.held.now (Err c.in_err-part-in-Project.field-0.0) c.deref_mut-in-Project.ensures.value c.in_err-part-in-Project.ensures) c.from_residual-in_err-part-in-Project.result c.from_residual-in_err-part-in-Project.ensures.1 c.in-Project.columns c.in-Project.bag)

pub returns-in_err-part-in-Group : goal.returns-in_err-part-in-Group
returns-in_err-part-in-Group t c = opened c.args.plan.now _ _ c.args.held.now c.from_residual-in_err-part-in-Group.result c.in-Group.is
    (group_refused c.args.held.now _ c.in-Group.part.value c.evaluate-in-Group.new.plan _ c.in_err-part-in-Group.field-0.0 (behind c.in-Group.part.value c.deref_mut-in-Group.result.now c.evaluate-in-Group.new.plan c.args.held.now (Err c.in_err-part-in-Group.field-0.0) c.deref_mut-in-Group.ensures.value c.in_err-part-in-Group.ensures) c.from_residual-in_err-part-in-Group.result c.from_residual-in_err-part-in-Group.ensures.1 c.in-Group.groups)

pub returns-in_err-part-in-AtLeast : goal.returns-in_err-part-in-AtLeast
returns-in_err-part-in-AtLeast t c = opened c.args.plan.now _ _ c.args.held.now c.from_residual-in_err-part-in-AtLeast.result c.in-AtLeast.is
    (at_least_refused c.args.held.now _ c.in-AtLeast.part.value c.evaluate-in-AtLeast.new.plan _ c.in_err-part-in-AtLeast.field-0.0 (behind c.in-AtLeast.part.value c.deref_mut-in-AtLeast.result.now c.evaluate-in-AtLeast.new.plan c.args.held.now (Err c.in_err-part-in-AtLeast.field-0.0) c.deref_mut-in-AtLeast.ensures.value c.in_err-part-in-AtLeast.ensures) c.from_residual-in_err-part-in-AtLeast.result c.from_residual-in_err-part-in-AtLeast.ensures.1 c.in-AtLeast.bound c.in-AtLeast.groups)

pub returns-in_err-left-in-Join : goal.returns-in_err-left-in-Join
returns-in_err-left-in-Join t c = opened c.args.plan.now _ _ c.args.held.now c.from_residual-in_err-left-in-Join.result c.in-Join.is
    (join_left_refused c.args.held.now _ c.in-Join.left.value _ c.in-Join.right.value c.in-Join.pairs c.in-Join.kept c.evaluate-in-Join.new.plan _ c.in_err-left-in-Join.field-0.0 c.from_residual-in_err-left-in-Join.result c.from_residual-in_err-left-in-Join.ensures.1
    (behind c.in-Join.left.value c.deref_mut-in-Join.result.now c.evaluate-in-Join.new.plan c.args.held.now (Err c.in_err-left-in-Join.field-0.0) c.deref_mut-in-Join.ensures.value c.in_err-left-in-Join.ensures))

pub returns-in_err-right-in-Join : goal.returns-in_err-right-in-Join
returns-in_err-right-in-Join t c = opened c.args.plan.now _ _ c.args.held.now c.from_residual-in_err-right-in-Join.result c.in-Join.is
    (join_right_refused c.args.held.now _ c.in-Join.left.value _ c.in-Join.right.value c.in-Join.pairs c.in-Join.kept c.evaluate-in-Join-2.new.plan _ c.in_err-right-in-Join.field-0.0 c.from_residual-in_err-right-in-Join.result c.from_residual-in_err-right-in-Join.ensures.1
    (behind c.in-Join.right.value c.deref_mut-in-Join-2.result.now c.evaluate-in-Join-2.new.plan c.args.held.now (Err c.in_err-right-in-Join.field-0.0) c.deref_mut-in-Join-2.ensures.value c.in_err-right-in-Join.ensures))

pub returns-in_err-left-in-NotIn : goal.returns-in_err-left-in-NotIn
returns-in_err-left-in-NotIn t c = opened c.args.plan.now _ _ c.args.held.now c.from_residual-in_err-left-in-NotIn.result c.in-NotIn.is
    (notin_left_refused c.args.held.now _ c.in-NotIn.left.value _ c.in-NotIn.right.value c.in-NotIn.pairs c.in-NotIn.kept c.evaluate-in-NotIn.new.plan _ c.in_err-left-in-NotIn.field-0.0 c.from_residual-in_err-left-in-NotIn.result c.from_residual-in_err-left-in-NotIn.ensures.1
    (behind c.in-NotIn.left.value c.deref_mut-in-NotIn.result.now c.evaluate-in-NotIn.new.plan c.args.held.now (Err c.in_err-left-in-NotIn.field-0.0) c.deref_mut-in-NotIn.ensures.value c.in_err-left-in-NotIn.ensures))

pub returns-in_err-right-in-NotIn : goal.returns-in_err-right-in-NotIn
returns-in_err-right-in-NotIn t c = opened c.args.plan.now _ _ c.args.held.now c.from_residual-in_err-right-in-NotIn.result c.in-NotIn.is
    (notin_right_refused c.args.held.now _ c.in-NotIn.left.value _ c.in-NotIn.right.value c.in-NotIn.pairs c.in-NotIn.kept c.evaluate-in-NotIn-2.new.plan _ c.in_err-right-in-NotIn.field-0.0 c.from_residual-in_err-right-in-NotIn.result c.from_residual-in_err-right-in-NotIn.ensures.1
    (behind c.in-NotIn.right.value c.deref_mut-in-NotIn-2.result.now c.evaluate-in-NotIn-2.new.plan c.args.held.now (Err c.in_err-right-in-NotIn.field-0.0) c.deref_mut-in-NotIn-2.ensures.value c.in_err-right-in-NotIn.ensures))

pub select-requires-clause-rows : goal.select-requires-clause-rows
select-requires-clause-rows t c =
    select_rows_fit c.args.held.now _ c.in-Select.part.value c.evaluate.new.plan c.in_ok-part-in-Select.part (behind c.in-Select.part.value c.deref_mut.result.now c.evaluate.new.plan c.args.held.now (Ok c.in_ok-part-in-Select.part) c.deref_mut.ensures.value c.in_ok-part-in-Select.ensures) c.in-Select.test (ready_as c.args.plan.now _ c.args.held.now c.in-Select.is c.requires)

pub select-requires-clause-gone : goal.select-requires-clause-gone
select-requires-clause-gone t c =
    select_gone_fit c.args.held.now _ c.in-Select.part.value c.evaluate.new.plan c.in_ok-part-in-Select.part (behind c.in-Select.part.value c.deref_mut.result.now c.evaluate.new.plan c.args.held.now (Ok c.in_ok-part-in-Select.part) c.deref_mut.ensures.value c.in_ok-part-in-Select.ensures) c.in-Select.test (ready_as c.args.plan.now _ c.args.held.now c.in-Select.is c.requires)

pub group-requires : goal.group-requires
group-requires t c =
    group_kept c.args.held.now _ c.in-Group.part.value c.evaluate-in-Group.new.plan c.in_ok-part-in-Group.part (behind c.in-Group.part.value c.deref_mut-in-Group.result.now c.evaluate-in-Group.new.plan c.args.held.now (Ok c.in_ok-part-in-Group.part) c.deref_mut-in-Group.ensures.value c.in_ok-part-in-Group.ensures) c.in-Group.groups (ready_as c.args.plan.now _ c.args.held.now c.in-Group.is c.requires)

pub at_least-requires : goal.at_least-requires
at_least-requires t c =
    at_least_kept c.args.held.now _ c.in-AtLeast.part.value c.evaluate-in-AtLeast.new.plan c.in_ok-part-in-AtLeast.part (behind c.in-AtLeast.part.value c.deref_mut-in-AtLeast.result.now c.evaluate-in-AtLeast.new.plan c.args.held.now (Ok c.in_ok-part-in-AtLeast.part) c.deref_mut-in-AtLeast.ensures.value c.in_ok-part-in-AtLeast.ensures) c.in-AtLeast.bound c.in-AtLeast.groups (ready_as c.args.plan.now _ c.args.held.now c.in-AtLeast.is c.requires)

pub join-requires : goal.join-requires
join-requires t c =
    one_kept c.args.held.now _ c.in-Join.left.value _ c.in-Join.right.value c.in-Join.pairs c.in-Join.kept c.evaluate-in-Join.new.plan c.evaluate-in-Join-2.new.plan c.in_ok-left-in-Join.left c.in_ok-right-in-Join.right
    (behind c.in-Join.left.value c.deref_mut-in-Join.result.now c.evaluate-in-Join.new.plan c.args.held.now (Ok c.in_ok-left-in-Join.left) c.deref_mut-in-Join.ensures.value c.in_ok-left-in-Join.ensures)
    (behind c.in-Join.right.value c.deref_mut-in-Join-2.result.now c.evaluate-in-Join-2.new.plan c.args.held.now (Ok c.in_ok-right-in-Join.right) c.deref_mut-in-Join-2.ensures.value c.in_ok-right-in-Join.ensures)
    (ready_as c.args.plan.now _ c.args.held.now c.in-Join.is c.requires)

pub not_in-requires : goal.not_in-requires
not_in-requires t c =
    right_kept c.args.held.now _ c.in-NotIn.left.value _ c.in-NotIn.right.value c.in-NotIn.pairs c.in-NotIn.kept c.evaluate-in-NotIn-2.new.plan c.in_ok-right-in-NotIn.right
    (behind c.in-NotIn.right.value c.deref_mut-in-NotIn-2.result.now c.evaluate-in-NotIn-2.new.plan c.args.held.now (Ok c.in_ok-right-in-NotIn.right) c.deref_mut-in-NotIn-2.ensures.value c.in_ok-right-in-NotIn.ensures)
    (ready_as c.args.plan.now _ c.args.held.now c.in-NotIn.is c.requires)

pub returns-in-Base : goal.returns-in-Base
returns-in-Base t c = opened c.args.plan.now _ _ c.args.held.now (Ok c.base.result) c.in-Base.is (base_answered c.args.held.now c.in-Base.number c.base.result c.base.ensures)

pub returns-in_ok-part-in-Select : goal.returns-in_ok-part-in-Select
returns-in_ok-part-in-Select t c = opened c.args.plan.now _ _ c.args.held.now c.select.result c.in-Select.is
    (select_answered c.args.held.now _ c.in-Select.part.value c.evaluate.new.plan c.in_ok-part-in-Select.part (behind c.in-Select.part.value c.deref_mut.result.now c.evaluate.new.plan c.args.held.now (Ok c.in_ok-part-in-Select.part) c.deref_mut.ensures.value c.in_ok-part-in-Select.ensures) c.select.result c.in-Select.test c.select.ensures)

pub returns-in_ok-part-in-Project : goal.returns-in_ok-part-in-Project
returns-in_ok-part-in-Project t c = opened c.args.plan.now _ _ c.args.held.now c.project.result c.in-Project.is
    (project_answered c.args.held.now _ c.in-Project.part.value c.evaluate-in-Project.new.plan c.in_ok-part-in-Project.part (behind c.in-Project.part.value c.deref_mut-in-Project.result.now c.evaluate-in-Project.new.plan c.args.held.now (Ok c.in_ok-part-in-Project.part) c.deref_mut-in-Project.ensures.value c.in_ok-part-in-Project.ensures) c.project.result c.as_slice.result.now c.in-Project.columns c.as_slice.ensures c.in-Project.bag c.project.new.bag c.project.ensures.turned c.project.ensures.kept)

pub returns-in_ok-part-in-Group : goal.returns-in_ok-part-in-Group
returns-in_ok-part-in-Group t c = opened c.args.plan.now _ _ c.args.held.now c.group.result c.in-Group.is
    (group_answered c.args.held.now _ c.in-Group.part.value c.evaluate-in-Group.new.plan c.in_ok-part-in-Group.part (behind c.in-Group.part.value c.deref_mut-in-Group.result.now c.evaluate-in-Group.new.plan c.args.held.now (Ok c.in_ok-part-in-Group.part) c.deref_mut-in-Group.ensures.value c.in_ok-part-in-Group.ensures) c.group.result c.in-Group.groups c.group.new.groups c.group.ensures.turned c.group.ensures.kept)

pub returns-in_ok-part-in-AtLeast : goal.returns-in_ok-part-in-AtLeast
returns-in_ok-part-in-AtLeast t c = opened c.args.plan.now _ _ c.args.held.now c.at_least.result c.in-AtLeast.is
    (at_least_answered c.args.held.now _ c.in-AtLeast.part.value c.evaluate-in-AtLeast.new.plan c.in_ok-part-in-AtLeast.part (behind c.in-AtLeast.part.value c.deref_mut-in-AtLeast.result.now c.evaluate-in-AtLeast.new.plan c.args.held.now (Ok c.in_ok-part-in-AtLeast.part) c.deref_mut-in-AtLeast.ensures.value c.in_ok-part-in-AtLeast.ensures) c.at_least.result c.in-AtLeast.bound c.in-AtLeast.groups c.at_least.new.groups c.at_least.ensures.turned c.at_least.ensures.kept)

pub returns-in_ok-right-in-Join : goal.returns-in_ok-right-in-Join
returns-in_ok-right-in-Join t c = opened c.args.plan.now _ _ c.args.held.now c.join.result c.in-Join.is
    (join_answered c.args.held.now _ c.in-Join.left.value _ c.in-Join.right.value c.in-Join.pairs c.in-Join.kept c.evaluate-in-Join.new.plan c.evaluate-in-Join-2.new.plan c.in_ok-left-in-Join.left c.in_ok-right-in-Join.right
    (behind c.in-Join.left.value c.deref_mut-in-Join.result.now c.evaluate-in-Join.new.plan c.args.held.now (Ok c.in_ok-left-in-Join.left) c.deref_mut-in-Join.ensures.value c.in_ok-left-in-Join.ensures)
    (behind c.in-Join.right.value c.deref_mut-in-Join-2.result.now c.evaluate-in-Join-2.new.plan c.args.held.now (Ok c.in_ok-right-in-Join.right) c.deref_mut-in-Join-2.ensures.value c.in_ok-right-in-Join.ensures)
    c.as_slice-in-Join.result.now c.as_slice-in-Join.ensures c.join.new.memo c.join.result c.join.ensures.turned c.join.ensures.kept)

pub returns-in_ok-right-in-NotIn : goal.returns-in_ok-right-in-NotIn
returns-in_ok-right-in-NotIn t c = opened c.args.plan.now _ _ c.args.held.now c.not_in.result c.in-NotIn.is
    (notin_answered c.args.held.now _ c.in-NotIn.left.value _ c.in-NotIn.right.value c.in-NotIn.pairs c.in-NotIn.kept c.evaluate-in-NotIn.new.plan c.evaluate-in-NotIn-2.new.plan c.in_ok-left-in-NotIn.left c.in_ok-right-in-NotIn.right
    (behind c.in-NotIn.left.value c.deref_mut-in-NotIn.result.now c.evaluate-in-NotIn.new.plan c.args.held.now (Ok c.in_ok-left-in-NotIn.left) c.deref_mut-in-NotIn.ensures.value c.in_ok-left-in-NotIn.ensures)
    (behind c.in-NotIn.right.value c.deref_mut-in-NotIn-2.result.now c.evaluate-in-NotIn-2.new.plan c.args.held.now (Ok c.in_ok-right-in-NotIn.right) c.deref_mut-in-NotIn-2.ensures.value c.in_ok-right-in-NotIn.ensures)
    c.as_slice-in-NotIn.result.now c.as_slice-in-NotIn.ensures c.not_in.new.memo c.not_in.result c.not_in.ensures.turned c.not_in.ensures.kept)
