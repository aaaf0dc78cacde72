-- What a predicate's parts write is the text of its tree.
use Rattle.std.proofs.Common.{ap, ◌∙◌, ◌++◌, ◌∷◌, [], codes, append_assoc, sym, cond}
use Rattle.std.proofs.lemmas.Result.{on_ok_weaker}
use Rattle.bloom_forms.specs.Form.{formula_of}
use Rattle.bloom_parse.specs.Layout.{text_of, levels}
use Rattle.bloom_parse.specs.Code.Printing.{placed, encloses_and, encloses_or}
use Rattle.bloom_parse.specs.declared.printer.Place.TheVariants.{Whole, Side, Single}
use Rattle.bloom_parse.proofs.Printed.PrintLemmas.{not_written, and_written, or_written, five_parts}
use Rattle.bloom_parse.proofs.printer.+push_pred.Goals as goal

pub returns-in_ok-extend_from_slice-in-Not : goal.returns-in_ok-extend_from_slice-in-Not
returns-in_ok-extend_from_slice-in-Not t c =
    let old = c.args.into.now.items in
    let part = c.in-Not.part.value in
    let text = text_of (placed Single (levels (formula_of part))) in
    on_ok_weaker c.push_pred.result (λ new.
    new
    ∙ ap (λ pred. c.extend_from_slice.new.self.items ++ text_of (placed Single (levels (formula_of pred)))) c.deref.ensures
    ∙ ap (λ bytes. bytes ++ text) (c.in_ok-extend_from_slice-in-Not.ensures.items)
    ∙ append_assoc old (codes "not ") text
    ∙ ap (λ bytes. old ++ bytes) (sym (not_written c.args.place (formula_of part)))
    ∙ ap (λ pred. old ++ text_of (placed c.args.place (levels (formula_of pred)))) (sym c.in-Not.is)) c.push_pred.ensures

pub returns-in_ok-push_pred-in-And-2 : goal.returns-in_ok-push_pred-in-And-2
returns-in_ok-push_pred-in-And-2 t c =
    let old = c.args.into.now.items in
    let left = c.in-And.left.value in
    let right = c.in-And.right.value in
    let first = text_of (placed Side (levels (formula_of left))) in
    let second = text_of (placed Single (levels (formula_of right))) in
    let open_ = cond (encloses_and c.args.place) (40 ∷ []) [] in
    let close = cond (encloses_and c.args.place) (41 ∷ []) [] in
    on_ok_weaker c.push_if-in-And.result (λ new.
    new
    ∙ ap (λ b. c.push_pred-in-And-2.new.into.items ++ cond b (41 ∷ []) []) c.encloses_and-in-And.ensures
    ∙ ap (λ bytes. bytes ++ close) (c.in_ok-push_pred-in-And-2.ensures ∙ ap (λ pred. c.extend_from_slice-in-And.new.self.items ++ text_of (placed Single (levels (formula_of pred)))) c.deref-in-And-2.ensures)
    ∙ ap (λ bytes. (bytes ++ second) ++ close) (c.in_ok-extend_from_slice-in-And.ensures.items)
    ∙ ap (λ bytes. ((bytes ++ codes " and ") ++ second) ++ close) (c.in_ok-push_pred-in-And.ensures ∙ ap (λ pred. c.push_if.new.into.items ++ text_of (placed Side (levels (formula_of pred)))) c.deref-in-And.ensures)
    ∙ ap (λ bytes. (((bytes ++ first) ++ codes " and ") ++ second) ++ close) (c.in_ok-push_if-in-And.ensures ∙ ap (λ b. old ++ cond b (40 ∷ []) []) c.encloses_and.ensures)
    ∙ five_parts old open_ first (codes " and ") second close
    ∙ ap (λ bytes. old ++ bytes) (sym (and_written c.args.place (formula_of left) (formula_of right)))
    ∙ ap (λ pred. old ++ text_of (placed c.args.place (levels (formula_of pred)))) (sym c.in-And.is)) c.push_if-in-And.ensures

pub returns-in_ok-push_pred-in-Or-2 : goal.returns-in_ok-push_pred-in-Or-2
returns-in_ok-push_pred-in-Or-2 t c =
    let old = c.args.into.now.items in
    let left = c.in-Or.left.value in
    let right = c.in-Or.right.value in
    let first = text_of (placed Whole (levels (formula_of left))) in
    let second = text_of (placed Side (levels (formula_of right))) in
    let open_ = cond (encloses_or c.args.place) (40 ∷ []) [] in
    let close = cond (encloses_or c.args.place) (41 ∷ []) [] in
    on_ok_weaker c.push_if-in-Or-2.result (λ new.
    new
    ∙ ap (λ b. c.push_pred-in-Or-2.new.into.items ++ cond b (41 ∷ []) []) c.encloses_or-in-Or.ensures
    ∙ ap (λ bytes. bytes ++ close) (c.in_ok-push_pred-in-Or-2.ensures ∙ ap (λ pred. c.extend_from_slice-in-Or.new.self.items ++ text_of (placed Side (levels (formula_of pred)))) c.deref-in-Or-2.ensures)
    ∙ ap (λ bytes. (bytes ++ second) ++ close) (c.in_ok-extend_from_slice-in-Or.ensures.items)
    ∙ ap (λ bytes. ((bytes ++ codes " or ") ++ second) ++ close) (c.in_ok-push_pred-in-Or.ensures ∙ ap (λ pred. c.push_if-in-Or.new.into.items ++ text_of (placed Whole (levels (formula_of pred)))) c.deref-in-Or.ensures)
    ∙ ap (λ bytes. (((bytes ++ first) ++ codes " or ") ++ second) ++ close) (c.in_ok-push_if-in-Or.ensures ∙ ap (λ b. old ++ cond b (40 ∷ []) []) c.encloses_or.ensures)
    ∙ five_parts old open_ first (codes " or ") second close
    ∙ ap (λ bytes. old ++ bytes) (sym (or_written c.args.place (formula_of left) (formula_of right)))
    ∙ ap (λ pred. old ++ text_of (placed c.args.place (levels (formula_of pred)))) (sym c.in-Or.is)) c.push_if-in-Or-2.ensures
