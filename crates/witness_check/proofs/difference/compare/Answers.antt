use Rattle.std.proofs.Common.{◌≡◌, ◌≤◌, ◌∙◌, refl, ap, sym, arith, length, get_or}
use Rattle.witness_check.specs.Difference.{difference_of}
use Rattle.witness_check.proofs.Places.{goes_on, none_left, same_lists, stops}
use Rattle.witness_check.proofs.DifferenceLemmas.{same_length, same_lengths, some_same}
use Rattle.witness_check.proofs.difference.compare.Goals as goal

pub difference_of-requires-clause-alike : goal.difference_of-requires-clause-alike
difference_of-requires-clause-alike c =
    let first = c.as_slice-contents-items.ensures.all in
    let second = c.as_slice-others.ensures.all in
    ap length c.as_slice.ensures.all
    ∙ same_lengths c.args.first.now c.args.second.now c.loop-stream.stream c.contents-item.result c.index-others-stream.result c.requires (omega (arith, ap length first))
    (c.contents-item.is ∙ ap (λ l. get_or l c.loop-stream.stream c.contents-item.result) first)
    (c.index-others-stream.is ∙ ap (λ l. get_or l c.loop-stream.stream c.index-others-stream.result) second)
    ∙ sym (ap length c.as_slice-in-loop-stream.ensures.all)

pub returns-then-is_some-clause-same : goal.returns-then-is_some-clause-same
returns-then-is_some-clause-same c =
    let i = c.loop-stream.stream in
    let x = c.contents-item.result in
    let y = c.index-others-stream.result in
    let first = c.as_slice-contents-items.ensures.all in
    let second = c.as_slice-others.ensures.all in
    let some = sym c.is_some.ensures ∙ c.if-is_some.true in
    let own : c.in_ok-difference.difference ≡ difference_of i x y =
    c.in_ok-difference.ensures.difference ∙ ap (λ rows. difference_of i rows c.as_slice-in-loop-stream.result.now) c.as_slice.ensures.all ∙ ap (difference_of i x) c.as_slice-in-loop-stream.ensures.all in
    some_same c.args.first.now c.args.second.now c.in_ok-difference.difference some
    (stops difference_of c.args.first.now c.args.second.now i x y (omega (arith, ap length first)) (omega (arith, ap length first, same_length c.args.first.now c.args.second.now c.requires))
    (c.contents-item.is ∙ ap (λ l. get_or l i x) first) (c.index-others-stream.is ∙ ap (λ l. get_or l i y) second) c.in_ok-difference.difference own some c.loop-stream.invariant)

pub returns-then-is_some-clause-difference : goal.returns-then-is_some-clause-difference
returns-then-is_some-clause-difference c =
    let i = c.loop-stream.stream in
    let x = c.contents-item.result in
    let y = c.index-others-stream.result in
    let first = c.as_slice-contents-items.ensures.all in
    let second = c.as_slice-others.ensures.all in
    let own : c.in_ok-difference.difference ≡ difference_of i x y =
    c.in_ok-difference.ensures.difference ∙ ap (λ rows. difference_of i rows c.as_slice-in-loop-stream.result.now) c.as_slice.ensures.all ∙ ap (difference_of i x) c.as_slice-in-loop-stream.ensures.all in
    stops difference_of c.args.first.now c.args.second.now i x y (omega (arith, ap length first)) (omega (arith, ap length first, same_length c.args.first.now c.args.second.now c.requires))
    (c.contents-item.is ∙ ap (λ l. get_or l i x) first) (c.index-others-stream.is ∙ ap (λ l. get_or l i y) second) c.in_ok-difference.difference own (sym c.is_some.ensures ∙ c.if-is_some.true) c.loop-stream.invariant

pub loop-stream-preserved : goal.loop-stream-preserved
loop-stream-preserved c =
    let i = c.loop-stream.stream in
    let x = c.contents-item.result in
    let y = c.index-others-stream.result in
    let first = c.as_slice-contents-items.ensures.all in
    let second = c.as_slice-others.ensures.all in
    let one = c.as_slice.ensures.all in
    let two = c.as_slice-in-loop-stream.ensures.all in
    let own : c.in_ok-difference.difference ≡ difference_of i x y =
    c.in_ok-difference.ensures.difference ∙ ap (λ rows. difference_of i rows c.as_slice-in-loop-stream.result.now) one ∙ ap (difference_of i x) two in
    goes_on difference_of c.args.first.now c.args.second.now i x y (omega (arith, ap length first)) (omega (arith, ap length first, same_length c.args.first.now c.args.second.now c.requires))
    (c.contents-item.is ∙ ap (λ l. get_or l i x) first) (c.index-others-stream.is ∙ ap (λ l. get_or l i y) second) c.in_ok-difference.difference own (sym c.is_some.ensures ∙ c.if-is_some.false)
    c.as_slice.result.now c.as_slice-in-loop-stream.result.now one two c.in_ok-difference.ensures.none c.loop-stream.invariant

pub returns : goal.returns
returns c =
    let i = c.loop-stream.stream in
    let first = c.as_slice-contents-items.ensures.all in
    let past : length c.args.first.now ≤ i = omega (arith, ap length first) in
    let past_too : length c.args.second.now ≤ i = omega (arith, past, same_length c.args.first.now c.args.second.now c.requires) in
    record {
      difference = none_left difference_of c.args.first.now c.args.second.now i past c.loop-stream.invariant;
      same = (λ none. same_lists difference_of c.args.first.now c.args.second.now i past past_too c.loop-stream.invariant, λ same. refl);
    }
