use Rattle.std.proofs.Common.{◌++◌, ℕ, Bool, List, Bor, sym, subst}
use Rattle.std.specs.declared.ops.ControlFlow.{ControlFlow}
use Rattle.std.specs.declared.ops.ControlFlow.TheVariants.{Continue, Break}
use Rattle.blz_set.specs.Pairs.{lefts_of, rights_of}
use Rattle.bloom_growth.specs.declared.side.Side.{Side}
use Rattle.bloom_index.specs.Code.Plans.{expr_of}
use Rattle.bloom_index.specs.Code.SideParts.{grown_side, numbered_sides, IsKept, Finds}
use Rattle.bloom_index.proofs.SidePlaces.{finds_first, finds_later, part_finds, transport, found_in}
use Rattle.bloom_index.proofs.sides.+find_side.Goals as goal

pub returns-in-Select : goal.returns-in-Select
returns-in-Select t c = transport c.args.plan.now _ c.args.number c.find_side.result c.in-Select.is (λ growing kept.
    found_in c.in-Select.part.value c.deref.result.now c.args.number c.find_side.result c.deref.ensures c.find_side.ensures growing _ kept kept.stands)

pub returns-in-Project : goal.returns-in-Project
returns-in-Project t c = transport c.args.plan.now _ c.args.number c.find_side-in-Project.result c.in-Project.is (λ growing kept.
    found_in c.in-Project.part.value c.deref-in-Project.result.now c.args.number c.find_side-in-Project.result c.deref-in-Project.ensures c.find_side-in-Project.ensures growing _ kept kept.stands.0)

pub returns-in-Group : goal.returns-in-Group
returns-in-Group t c = transport c.args.plan.now _ c.args.number c.find_side-in-Group.result c.in-Group.is (λ growing kept.
    found_in c.in-Group.part.value c.deref-in-Group.result.now c.args.number c.find_side-in-Group.result c.deref-in-Group.ensures c.find_side-in-Group.ensures growing _ kept kept.stands.0)

pub returns-in-AtLeast : goal.returns-in-AtLeast
returns-in-AtLeast t c = transport c.args.plan.now _ c.args.number c.find_side-in-AtLeast.result c.in-AtLeast.is (λ growing kept.
    found_in c.in-AtLeast.part.value c.deref-in-AtLeast.result.now c.args.number c.find_side-in-AtLeast.result c.deref-in-AtLeast.ensures c.find_side-in-AtLeast.ensures growing _ kept kept.stands.0)

pub returns-in_err-number-in-Join : goal.returns-in_err-number-in-Join
returns-in_err-number-in-Join t c =
    let l = c.in-Join.left.value in
    let r = c.in-Join.right.value in
    let rows = c.in-Join.kept in
    let lefts = lefts_of c.in-Join.field-2 in
    let rights = rights_of c.in-Join.field-2 in
    let side = c.in_err-number-in-Join.field-0.0 in
    subst (λ (x : ControlFlow (Bor Side) ℕ). (growing : List Bool) (kept : IsKept growing c.args.plan.now) → Finds kept.sets (numbered_sides growing (expr_of c.args.plan.now)) c.args.number x) (sym c.from_residual.ensures)
    (transport c.args.plan.now _ c.args.number (Break side) c.in-Join.is (λ growing kept.
    finds_first kept.sets (grown_side growing (expr_of l) lefts) (numbered_sides growing (expr_of l) ++ (grown_side growing (expr_of r) rights ++ numbered_sides growing (expr_of r))) c.args.number side
    (part_finds growing kept.lasting kept.last (expr_of l) kept.sets lefts rows.left c.args.number (Break side) c.in_err-number-in-Join.ensures kept.stands.2.left)))

pub returns-in_err-number-in-Join-2 : goal.returns-in_err-number-in-Join-2
returns-in_err-number-in-Join-2 t c =
    let l = c.in-Join.left.value in
    let r = c.in-Join.right.value in
    let rows = c.in-Join.kept in
    let lefts = lefts_of c.in-Join.field-2 in
    let rights = rights_of c.in-Join.field-2 in
    let n1 = c.in_ok-number-in-Join.number in
    let side = c.in_err-number-in-Join-2.field-0.0 in
    subst (λ (x : ControlFlow (Bor Side) ℕ). (growing : List Bool) (kept : IsKept growing c.args.plan.now) → Finds kept.sets (numbered_sides growing (expr_of c.args.plan.now)) c.args.number x) (sym c.from_residual-in_err-number-in-Join-2.ensures)
    (transport c.args.plan.now _ c.args.number (Break side) c.in-Join.is (λ growing kept.
    finds_later kept.sets (grown_side growing (expr_of l) lefts) (numbered_sides growing (expr_of l) ++ (grown_side growing (expr_of r) rights ++ numbered_sides growing (expr_of r))) c.args.number n1 (Break side)
    (part_finds growing kept.lasting kept.last (expr_of l) kept.sets lefts rows.left c.args.number (Continue n1) c.in_ok-number-in-Join.ensures kept.stands.2.left)
    (finds_first kept.sets (numbered_sides growing (expr_of l)) (grown_side growing (expr_of r) rights ++ numbered_sides growing (expr_of r)) n1 side
    (found_in l c.deref-in-Join.result.now n1 (Break side) c.deref-in-Join.ensures c.in_err-number-in-Join-2.ensures growing _ kept kept.stands.0))))

pub returns-in_err-number-in-Join-3 : goal.returns-in_err-number-in-Join-3
returns-in_err-number-in-Join-3 t c =
    let l = c.in-Join.left.value in
    let r = c.in-Join.right.value in
    let rows = c.in-Join.kept in
    let lefts = lefts_of c.in-Join.field-2 in
    let rights = rights_of c.in-Join.field-2 in
    let n1 = c.in_ok-number-in-Join.number in
    let n2 = c.in_ok-number-in-Join-2.number in
    let side = c.in_err-number-in-Join-3.field-0.0 in
    subst (λ (x : ControlFlow (Bor Side) ℕ). (growing : List Bool) (kept : IsKept growing c.args.plan.now) → Finds kept.sets (numbered_sides growing (expr_of c.args.plan.now)) c.args.number x) (sym c.from_residual-in_err-number-in-Join-3.ensures)
    (transport c.args.plan.now _ c.args.number (Break side) c.in-Join.is (λ growing kept.
    finds_later kept.sets (grown_side growing (expr_of l) lefts) (numbered_sides growing (expr_of l) ++ (grown_side growing (expr_of r) rights ++ numbered_sides growing (expr_of r))) c.args.number n1 (Break side)
    (part_finds growing kept.lasting kept.last (expr_of l) kept.sets lefts rows.left c.args.number (Continue n1) c.in_ok-number-in-Join.ensures kept.stands.2.left)
    (finds_later kept.sets (numbered_sides growing (expr_of l)) (grown_side growing (expr_of r) rights ++ numbered_sides growing (expr_of r)) n1 n2 (Break side)
    (found_in l c.deref-in-Join.result.now n1 (Continue n2) c.deref-in-Join.ensures c.in_ok-number-in-Join-2.ensures growing _ kept kept.stands.0)
    (finds_first kept.sets (grown_side growing (expr_of r) rights) (numbered_sides growing (expr_of r)) n2 side
    (part_finds growing kept.lasting kept.last (expr_of r) kept.sets rights rows.right n2 (Break side) c.in_err-number-in-Join-3.ensures kept.stands.2.right)))))

pub returns-in_ok-number-in-Join-3 : goal.returns-in_ok-number-in-Join-3
returns-in_ok-number-in-Join-3 t c =
    let l = c.in-Join.left.value in
    let r = c.in-Join.right.value in
    let rows = c.in-Join.kept in
    let lefts = lefts_of c.in-Join.field-2 in
    let rights = rights_of c.in-Join.field-2 in
    let n1 = c.in_ok-number-in-Join.number in
    let n2 = c.in_ok-number-in-Join-2.number in
    let n3 = c.in_ok-number-in-Join-3.number in
    let found = c.find_side-in-Join-2.result in
    transport c.args.plan.now _ c.args.number found c.in-Join.is (λ growing kept.
    finds_later kept.sets (grown_side growing (expr_of l) lefts) (numbered_sides growing (expr_of l) ++ (grown_side growing (expr_of r) rights ++ numbered_sides growing (expr_of r))) c.args.number n1 found
    (part_finds growing kept.lasting kept.last (expr_of l) kept.sets lefts rows.left c.args.number (Continue n1) c.in_ok-number-in-Join.ensures kept.stands.2.left)
    (finds_later kept.sets (numbered_sides growing (expr_of l)) (grown_side growing (expr_of r) rights ++ numbered_sides growing (expr_of r)) n1 n2 found
    (found_in l c.deref-in-Join.result.now n1 (Continue n2) c.deref-in-Join.ensures c.in_ok-number-in-Join-2.ensures growing _ kept kept.stands.0)
    (finds_later kept.sets (grown_side growing (expr_of r) rights) (numbered_sides growing (expr_of r)) n2 n3 found
    (part_finds growing kept.lasting kept.last (expr_of r) kept.sets rights rows.right n2 (Continue n3) c.in_ok-number-in-Join-3.ensures kept.stands.2.right)
    (found_in r c.deref-in-Join-2.result.now n3 found c.deref-in-Join-2.ensures c.find_side-in-Join-2.ensures growing _ kept kept.stands.1))))

pub returns-in_err-number-in-NotIn : goal.returns-in_err-number-in-NotIn
returns-in_err-number-in-NotIn t c =
    let l = c.in-NotIn.left.value in
    let r = c.in-NotIn.right.value in
    let rows = c.in-NotIn.kept in
    let rights = rights_of c.in-NotIn.field-2 in
    let side = c.in_err-number-in-NotIn.field-0.0 in
    subst (λ (x : ControlFlow (Bor Side) ℕ). (growing : List Bool) (kept : IsKept growing c.args.plan.now) → Finds kept.sets (numbered_sides growing (expr_of c.args.plan.now)) c.args.number x) (sym c.from_residual-in_err-number-in-NotIn.ensures)
    (transport c.args.plan.now _ c.args.number (Break side) c.in-NotIn.is (λ growing kept.
    finds_first kept.sets (numbered_sides growing (expr_of l)) (grown_side growing (expr_of r) rights ++ numbered_sides growing (expr_of r)) c.args.number side
    (found_in l c.deref-in-NotIn.result.now c.args.number (Break side) c.deref-in-NotIn.ensures c.in_err-number-in-NotIn.ensures growing _ kept kept.stands.0)))

pub returns-in_err-number-in-NotIn-2 : goal.returns-in_err-number-in-NotIn-2
returns-in_err-number-in-NotIn-2 t c =
    let l = c.in-NotIn.left.value in
    let r = c.in-NotIn.right.value in
    let rows = c.in-NotIn.kept in
    let rights = rights_of c.in-NotIn.field-2 in
    let n1 = c.in_ok-number-in-NotIn.number in
    let side = c.in_err-number-in-NotIn-2.field-0.0 in
    subst (λ (x : ControlFlow (Bor Side) ℕ). (growing : List Bool) (kept : IsKept growing c.args.plan.now) → Finds kept.sets (numbered_sides growing (expr_of c.args.plan.now)) c.args.number x) (sym c.from_residual-in_err-number-in-NotIn-2.ensures)
    (transport c.args.plan.now _ c.args.number (Break side) c.in-NotIn.is (λ growing kept.
    finds_later kept.sets (numbered_sides growing (expr_of l)) (grown_side growing (expr_of r) rights ++ numbered_sides growing (expr_of r)) c.args.number n1 (Break side)
    (found_in l c.deref-in-NotIn.result.now c.args.number (Continue n1) c.deref-in-NotIn.ensures c.in_ok-number-in-NotIn.ensures growing _ kept kept.stands.0)
    (finds_first kept.sets (grown_side growing (expr_of r) rights) (numbered_sides growing (expr_of r)) n1 side
    (part_finds growing kept.lasting kept.last (expr_of r) kept.sets rights rows.right n1 (Break side) c.in_err-number-in-NotIn-2.ensures kept.stands.2.right))))

pub returns-in_ok-number-in-NotIn-2 : goal.returns-in_ok-number-in-NotIn-2
returns-in_ok-number-in-NotIn-2 t c =
    let l = c.in-NotIn.left.value in
    let r = c.in-NotIn.right.value in
    let rows = c.in-NotIn.kept in
    let rights = rights_of c.in-NotIn.field-2 in
    let n1 = c.in_ok-number-in-NotIn.number in
    let n2 = c.in_ok-number-in-NotIn-2.number in
    let found = c.find_side-in-NotIn-2.result in
    transport c.args.plan.now _ c.args.number found c.in-NotIn.is (λ growing kept.
    finds_later kept.sets (numbered_sides growing (expr_of l)) (grown_side growing (expr_of r) rights ++ numbered_sides growing (expr_of r)) c.args.number n1 found
    (found_in l c.deref-in-NotIn.result.now c.args.number (Continue n1) c.deref-in-NotIn.ensures c.in_ok-number-in-NotIn.ensures growing _ kept kept.stands.0)
    (finds_later kept.sets (grown_side growing (expr_of r) rights) (numbered_sides growing (expr_of r)) n1 n2 found
    (part_finds growing kept.lasting kept.last (expr_of r) kept.sets rights rows.right n1 (Continue n2) c.in_ok-number-in-NotIn-2.ensures kept.stands.2.right)
    (found_in r c.deref-in-NotIn-2.result.now n2 found c.deref-in-NotIn-2.ensures c.find_side-in-NotIn-2.ensures growing _ kept kept.stands.1)))
