use Rattle.std.proofs.Common.{rules, ◌≡◌, ◌+◌, Some, drop}
use Rattle.std.specs.List.{position_from}
use Rattle.bloom_forms.specs.StockSteps.{is_space}
use Rattle.std.proofs.lemmas.Str.{IsUtf8-drop}
use Rattle.blz_boxes.specs.Code.Texts.{texts}
use Rattle.blz_boxes.proofs.Cuts.{before_space, after_space, words_step, words_end}
use Rattle.blz_boxes.proofs.words.words_of.Goals as goal

pub split_at-requires : goal.split_at-requires
split_at-requires c = before_space c.loop-end.rest.now c.in-Some.end (search rules)

pub split_at-requires-in-Some : goal.split_at-requires-in-Some
split_at-requires-in-Some c = after_space c.loop-end.rest.now c.in-Some.end (search rules) c.loop-end.invariant.0

pub loop-end-preserved : goal.loop-end-preserved
loop-end-preserved c =
    let found : position_from is_space 0 c.loop-end.rest.now ≡ Some c.in-Some.end = search rules in
    let tail : c.split_at-in-Some.result.1.now ≡ drop (c.in-Some.end + 1) c.loop-end.rest.now = c.split_at-in-Some.ensures.back in (
      rw tail (IsUtf8-drop c.loop-end.rest.now (c.in-Some.end + 1) c.loop-end.invariant.0 (after_space c.loop-end.rest.now c.in-Some.end found c.loop-end.invariant.0)),
      words_step (texts c.loop-end.found.items) (texts c.push_word.new.found.items) c.args.text.now c.loop-end.rest.now c.split_at.result.0.now c.split_at-in-Some.result.1.now c.in-Some.end found c.split_at.ensures.front tail c.in_ok-push_word.ensures c.loop-end.invariant.1,
    )

pub returns : goal.returns
returns c = words_end (texts c.loop-end.found.items) _ c.args.text.now c.loop-end.rest.now (search rules) (search rules) c.loop-end.invariant.1
