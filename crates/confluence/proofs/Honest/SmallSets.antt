-- A set within another that has no more members is the other.
use Rattle.std.proofs.Common.{◌≡◌, refl, ap, sym, subst, ◌∙◌, ◌+◌, ◌≤◌, true, false, List, ◌∷◌, length, arith, inl, inr}
use Rattle.std.specs.List.{list_any}
use Rattle.std.specs.BTreeSet.{insert_key}
use Rattle.blz_value.specs.Members.{Has, IsWithin}
use Rattle.blz_value.specs.Record.{Row, record_cmp}
use Rattle.blz_value.specs.RecordOrder.{record_cmp_exact}
use Rattle.blz_value.specs.Sets.{set_of, IsRowSet}
use Rattle.blz_value.proofs.SetLaws.{sorted_set_of, Has-from_set_of}
use Rattle.blz_value.proofs.RowSets.{set_of-sorted, length-insert_key-new}
use Rattle.blz_value.proofs.OperatorsLemmas.{length-within}
use Rattle.topo_forms.specs.Messages.{is_same_row}
use Rattle.messages.proofs.MessagesLemmas.{is_same_row-is, is_same_row-itself, same-from_any, any-from_same}

-- a set that has no more members than one within it lies in that one
pub within-back : (xs ys : List Row) → IsRowSet xs → IsRowSet ys → IsWithin xs ys → length ys ≤ length xs → IsWithin ys xs
within-back xs ys s t inside few q h =
    elim (list_any (is_same_row q) xs) as (λ b. list_any (is_same_row q) xs ≡ b → Has q xs) [
      | true ↦ λ e. same-from_any is_same_row is_same_row-is is_same_row-itself q xs e
      | false ↦ λ e.
          let lacks : ¬ Has q xs = λ m. let found = any-from_same is_same_row is_same_row-is is_same_row-itself q xs m in let no : true ≡ false = sym found ∙ e in cc in
          let longer : length (insert_key record_cmp (set_of xs) q) ≡ length xs + 1 = ap (λ l. length (insert_key record_cmp l q)) (set_of-sorted xs s) ∙ length-insert_key-new record_cmp record_cmp_exact q xs lacks in
          let within : IsWithin (set_of (q ∷ xs)) ys = λ z m. elim (Has-from_set_of z (q ∷ xs) m) [ inl same ↦ subst (λ y. Has y ys) same h | inr old ↦ inside z old ] in
          let le = length-within (set_of (q ∷ xs)) ys (sorted_set_of (q ∷ xs)) within in
          absurd (omega (arith, le, longer, few))
    ] refl
