use Rattle.std.proofs.Common.{◌≡◌, ◌++◌, ◌∷◌, [], ◌&&◌, ◌∙◌, List, Option, Result, IfOk, Bor, map, ap, subst}
use Rattle.std.specs.Global.{Vec}
use Rattle.std.specs.Option.{option_and_then}
use Rattle.std.specs.declared.alloc.AllocError.{AllocError}
use Rattle.bloom_forms.specs.declared.expr.Expr.{Expr}
use Rattle.bloom_forms.specs.Columns.{joined_columns}
use Rattle.bloom_forms.specs.Fits.{formula_fits, items_fit, pairs_fit, keys_fit, aggregate_fits}
use Rattle.bloom_forms.specs.Form.{query_of, formula_of}
use Rattle.bloom_forms.specs.Lookup.{declared}
use Rattle.bloom_forms.specs.Query.{Name}
use Rattle.bloom_ast.specs.Code.Fitting.{keep, fitting, found_in}
use Rattle.bloom_ast.proofs.fits.+fitting_columns.Goals as goal

-- what was found of a part is what was found of the part that stands in the box
found_of : (of : Name → List Name) (e read : Expr) (part : Option (List Name)) → read ≡ e → part ≡ fitting of (query_of read) → part ≡ fitting of (query_of e)
found_of of e read part same is = is ∙ ap (λ (x : Expr). fitting of (query_of x)) same

module _ (r : Result (Option (Vec (Bor Name))) AllocError) where
  -- over one part
  one : (next : List Name → Option (List Name)) (part whole : Option (List Name)) → part ≡ whole → IfOk r (λ found. found_in found ≡ option_and_then next part) → IfOk r (λ found. found_in found ≡ option_and_then next whole)
  one next part whole is = subst (λ (o : Option (List Name)). IfOk r (λ found. found_in found ≡ option_and_then next o)) is

  -- over two parts
  two : (next : List Name → List Name → Option (List Name)) (left right first second : Option (List Name)) → left ≡ first → right ≡ second
      → IfOk r (λ found. found_in found ≡ option_and_then (λ a. option_and_then (next a) right) left) → IfOk r (λ found. found_in found ≡ option_and_then (λ a. option_and_then (next a) second) first)
  two next left right first second is also = subst (λ (X : Type 0). X) (λ j. IfOk r (λ found. found_in found ≡ option_and_then (λ a. option_and_then (next a) (also j)) (is j)))

pub returns-in_ok-part-in-Select : goal.returns-in_ok-part-in-Select
returns-in_ok-part-in-Select t c =
    let of = declared c.args.collections.now in
    rw c.in-Select.is (c.select_columns.ensures ∙ ap (option_and_then (λ columns. keep columns (formula_fits columns (formula_of c.in-Select.pred)))) (found_of of c.in-Select.part.value c.deref.result.now (found_in c.in_ok-part-in-Select.part) c.deref.ensures c.in_ok-part-in-Select.ensures))

pub returns-in_ok-part-in-Project : goal.returns-in_ok-part-in-Project
returns-in_ok-part-in-Project t c =
    let of = declared c.args.collections.now in
    rw c.in-Project.is (one c.project_columns.result (λ columns. keep (map (λ item. item.1) c.in-Project.items) (items_fit columns c.in-Project.items)) (found_in c.in_ok-part-in-Project.part) (fitting of (query_of c.in-Project.part.value))
    (found_of of c.in-Project.part.value c.deref-in-Project.result.now (found_in c.in_ok-part-in-Project.part) c.deref-in-Project.ensures c.in_ok-part-in-Project.ensures)
    (subst (λ (items : List (Name × Name)). IfOk c.project_columns.result (λ found. found_in found ≡ option_and_then (λ columns. keep (map (λ item. item.1) items) (items_fit columns items)) (found_in c.in_ok-part-in-Project.part))) c.as_slice.ensures c.project_columns.ensures))

pub returns-in_ok-right-in-Join : goal.returns-in_ok-right-in-Join
returns-in_ok-right-in-Join t c =
    let of = declared c.args.collections.now in
    let left = found_in c.in_ok-left-in-Join.left in
    let right = found_in c.in_ok-right-in-Join.right in
    rw c.in-Join.is (two c.join_columns.result (λ a b. keep (joined_columns a b c.in-Join.pairs) (pairs_fit a b c.in-Join.pairs)) left right (fitting of (query_of c.in-Join.a.value)) (fitting of (query_of c.in-Join.b.value))
    (found_of of c.in-Join.a.value c.deref-in-Join.result.now left c.deref-in-Join.ensures c.in_ok-left-in-Join.ensures) (found_of of c.in-Join.b.value c.deref-in-Join-2.result.now right c.deref-in-Join-2.ensures c.in_ok-right-in-Join.ensures)
    (subst (λ (pairs : List (Name × Name)). IfOk c.join_columns.result (λ found. found_in found ≡ option_and_then (λ a. option_and_then (λ b. keep (joined_columns a b pairs) (pairs_fit a b pairs)) right) left)) c.as_slice-in-Join.ensures c.join_columns.ensures))

pub returns-in_ok-right-in-NotIn : goal.returns-in_ok-right-in-NotIn
returns-in_ok-right-in-NotIn t c =
    let of = declared c.args.collections.now in
    let left = found_in c.in_ok-left-in-NotIn.left in
    let right = found_in c.in_ok-right-in-NotIn.right in
    rw c.in-NotIn.is (two c.not_in_columns.result (λ a b. keep a (pairs_fit a b c.in-NotIn.pairs)) left right (fitting of (query_of c.in-NotIn.a.value)) (fitting of (query_of c.in-NotIn.b.value))
    (found_of of c.in-NotIn.a.value c.deref-in-NotIn.result.now left c.deref-in-NotIn.ensures c.in_ok-left-in-NotIn.ensures) (found_of of c.in-NotIn.b.value c.deref-in-NotIn-2.result.now right c.deref-in-NotIn-2.ensures c.in_ok-right-in-NotIn.ensures)
    (subst (λ (pairs : List (Name × Name)). IfOk c.not_in_columns.result (λ found. found_in found ≡ option_and_then (λ a. option_and_then (λ b. keep a (pairs_fit a b pairs)) right) left)) c.as_slice-in-NotIn.ensures c.not_in_columns.ensures))

pub returns-in_ok-part-in-Group : goal.returns-in_ok-part-in-Group
returns-in_ok-part-in-Group t c =
    let of = declared c.args.collections.now in
    rw c.in-Group.is (one c.group_columns.result (λ columns. keep (c.in-Group.keys ++ c.in-Group.name ∷ []) (keys_fit columns c.in-Group.keys && aggregate_fits columns c.in-Group.agg)) (found_in c.in_ok-part-in-Group.part) (fitting of (query_of c.in-Group.part.value))
    (found_of of c.in-Group.part.value c.deref-in-Group.result.now (found_in c.in_ok-part-in-Group.part) c.deref-in-Group.ensures c.in_ok-part-in-Group.ensures)
    (subst (λ (keys : List Name). IfOk c.group_columns.result (λ found. found_in found ≡ option_and_then (λ columns. keep (keys ++ c.in-Group.name ∷ []) (keys_fit columns keys && aggregate_fits columns c.in-Group.agg)) (found_in c.in_ok-part-in-Group.part))) c.as_slice-in-Group.ensures c.group_columns.ensures))
