use Rattle.std.proofs.Common.{◌≡◌, ◌<◌, ◌+◌, ◌++◌, ℕ, List, [], ◌∷◌, Err, length, take, subst, ap, sym, ◌∙◌, arith, append-nil, append_assoc, length-append}
use Rattle.std.proofs.lemmas.Grind.{common_steps}
use Rattle.std.proofs.lemmas.List.{take_all}
use Rattle.blz_value.specs.Record.{Row}
use Rattle.inbox.specs.Emission.{with_row, with_rows}
use Rattle.messages.specs.Lists.{Listed, OneListBecomes, list_at, read_lists}
use Rattle.messages.proofs.EmittedLemmas.{with_rows-continues}
use Rattle.messages.proofs.ListLoops.{becomes_itself, becomes_more, over_more}
use Rattle.messages.proofs.ListsLemmas.{length-read_lists, same_count}
use Rattle.inbox.proofs.SourceLists.{comes_within, comes_at, no_overflow}
use Rattle.inbox.proofs.SourceMessages.{all_rows}
use Rattle.inbox.proofs.sources.emit_records.Goals as goal

there : (l : Listed) (place : ℕ) → place < length l.lists → place < length (read_lists l)
there l place within = subst (λ n. place < n) (sym (length-read_lists l)) within

pub loop-row-init : goal.loop-row-init
loop-row-init c = record {
  all = c.into_iter-row-iterator.ensures.into_iter_gives.0;
  becomes = becomes_itself c.args.lists.now c.args.place;
  exact = c.requires.exact;
  place = c.requires.place;
}

pub loop-row-preserved : goal.loop-row-preserved
loop-row-preserved c =
    let rows : List Row = c.args.rows.items in
    let came : List Row = c.loop-row.yielded in
    let next : Row = c.in-Some.row in
    let later : List Row = c.next.new.self.rest.items in
    let all : came ++ next ∷ later ≡ rows = ap (λ (l : List Row). came ++ l) (sym c.in-Some.ensures.steps.0) ∙ c.loop-row.invariant.all in
    let longer : length came + 1 ≡ length (came ++ next ∷ []) = omega (arith, length-append came (next ∷ [])) in
    let more =
    becomes_more with_row rows (length came) next (comes_within came next later rows all) (sym (comes_at came next later rows all next))
    c.args.lists.now c.loop-row.lists c.emit_own.new.self c.args.place (there c.args.lists.now c.args.place c.requires.place) c.loop-row.invariant.becomes c.in-Ok.ensures.ok in
    record {
      all = append_assoc came (next ∷ []) later ∙ all;
      becomes = subst (λ n. OneListBecomes c.args.lists.now c.emit_own.new.self c.args.place (with_rows (list_at (read_lists c.args.lists.now) c.args.place) (take n rows))) longer more;
      exact = c.in-Ok.ensures.exact;
      place = omega (arith, c.loop-row.invariant.place, same_count c.loop-row.lists c.emit_own.new.self c.args.place _ c.in-Ok.ensures.ok);
    }

pub unreachable-requires : goal.unreachable-requires
unreachable-requires c =
    let rows : List Row = c.args.rows.items in
    let came : List Row = c.loop-row.yielded in
    let next : Row = c.in-Some.row in
    let later : List Row = c.next.new.self.rest.items in
    let all : came ++ next ∷ later ≡ rows = ap (λ (l : List Row). came ++ l) (sym c.in-Some.ensures.steps.0) ∙ c.loop-row.invariant.all in
    no_overflow c.args.lists.now c.args.place rows c.requires.place c.requires.empty c.requires.room
    (over_more with_row rows (length came) next (comes_within came next later rows all) (sym (comes_at came next later rows all next)) with_rows-continues
    c.args.lists.now c.loop-row.lists c.args.place (there c.args.lists.now c.args.place c.requires.place) c.loop-row.invariant.becomes
    (c.emit_own.ensures.too_many (c.in-Err-TooManyMessages.is ∙ ap Err c.in-Err-TooManyMessages.field-0-is)))

pub returns-clause-ok : goal.returns-clause-ok
returns-clause-ok c =
    let rows : List Row = c.args.rows.items in
    let came : List Row = c.loop-row.yielded in
    let none : c.loop-row.row-iterator.rest.items ≡ [] = grind (arith, common_steps) in
    let whole : came ≡ rows = sym (append-nil came) ∙ ap (λ (l : List Row). came ++ l) (sym none) ∙ c.loop-row.invariant.all in
    let taken : take (length came) rows ≡ rows = ap (λ (l : List Row). take (length l) rows) whole ∙ take_all (length rows) rows (omega arith) in
    subst (OneListBecomes c.args.lists.now c.loop-row.lists c.args.place)
    (ap (with_rows (list_at (read_lists c.args.lists.now) c.args.place)) taken ∙ ap (λ list. with_rows list rows) c.requires.empty ∙ all_rows rows)
    c.loop-row.invariant.becomes
