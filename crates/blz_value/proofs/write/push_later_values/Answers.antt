use Rattle.std.proofs.Common.{◌≡◌, ◌<◌, ◌∷◌, [], ◌++◌, ℕ, ◌+◌, List, length, take, get_or, append-nil, ap, sym, ◌∙◌, codes}
use Rattle.std.specs.List.{flat_map}
use Rattle.std.proofs.lemmas.List.{take_more}
use Rattle.std.proofs.lemmas.Grind.{flat_map-append}
use Rattle.blz_value.specs.declared.value.Value.{Value}
use Rattle.blz_value.specs.Text.{value_text}
use Rattle.blz_value.proofs.Beginnings.{begins_on, begins_behind, begins_still, three_pieces}
use Rattle.blz_value.proofs.write.push_later_values.Goals as goal

abbrev later_text : Value → List ℕ
later_text value = codes ", " ++ value_text value

pub returns-in_err-push_value-clause-begins : goal.returns-in_err-push_value-clause-begins
returns-in_err-push_value-clause-begins c =
    let old = c.args.into.now.items in
    let mid = c.extend_from_slice.new.self.items in
    begins_on old mid c.push_value.new.into.items (begins_behind old c.loop-value.into.items mid (codes ", ") c.loop-value.invariant.begins c.in_ok-extend_from_slice.ensures.items) c.push_value.ensures.begins

pub returns-in_err-extend_from_slice-clause-begins : goal.returns-in_err-extend_from_slice-clause-begins
returns-in_err-extend_from_slice-clause-begins c =
    begins_still c.args.into.now.items c.loop-value.into.items c.extend_from_slice.new.self.items c.loop-value.invariant.begins c.in_err-extend_from_slice.ensures.items

-- a value more
values-more : (values : List Value) (i : ℕ) (value : Value) → i < length values → value ≡ get_or values i value → flat_map later_text (take (i + 1) values) ≡ flat_map later_text (take i values) ++ later_text value
values-more values i value lt is =
    ap (flat_map later_text) (take_more values i value lt) ∙ flat_map-append later_text (take i values) (get_or values i value ∷ []) ∙ ap (λ z. flat_map later_text (take i values) ++ z) (append-nil (later_text (get_or values i value)))
    ∙ ap (λ (v : Value). flat_map later_text (take i values) ++ later_text v) (sym is)

pub loop-value-preserved : goal.loop-value-preserved
loop-value-preserved c =
    let old = c.args.into.now.items in
    let i = c.loop-value.value-index in
    let value = c.value-item.result in
    let two = c.extend_from_slice.new.self.items in
    record {
      written =
          three_pieces old c.loop-value.into.items two c.push_value.new.into.items (flat_map later_text (take i c.args.values.now)) (codes ", ") (value_text value) c.loop-value.invariant.written c.in_ok-extend_from_slice.ensures.items c.in_ok-push_value.ensures.ok
          ∙ ap (λ z. old ++ z) (sym (values-more c.args.values.now i value c.loop-value-test.true c.value-item.is));
      begins = begins_on old two c.push_value.new.into.items (begins_behind old c.loop-value.into.items two (codes ", ") c.loop-value.invariant.begins c.in_ok-extend_from_slice.ensures.items) c.push_value.ensures.begins;
    }

pub returns-clause-begins : goal.returns-clause-begins
returns-clause-begins c = c.loop-value.invariant.begins
