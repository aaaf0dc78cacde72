use Rattle.std.proofs.Common.{◌≡◌, ◌∙◌, take, not, true, false, [], ◌∷◌, ◌++◌, List, sym, ap, arith, length, rules, filter, append_assoc}
use Rattle.std.proofs.lemmas.List.{append-nil}
use Rattle.std.specs.List.{list_any}
use Rattle.blz_value.specs.Record.{Row}
use Rattle.blz_value.specs.Operators.{agree, notin_rows}
use Rattle.blz_set.proofs.RecordSets.{filter_step}
use Rattle.bloom_growth.specs.ByKey.{rows_found}
use Rattle.bloom_growth.proofs.PartnersLemmas.{rights_agree, none_found, some_found}
use Rattle.bloom_growth.proofs.TurnNotIns.{none_there, some_there}
use Rattle.bloom_growth.proofs.turn_notins.push_unmatched.Goals as goal
use Rattle.bloom_growth.proofs.turn_notins.push_unmatched.Goals.{then-not-has+in_ok-copy+in_ok-push, else-not-has}

pub loop-left-preserved : goal.loop-left-preserved
loop-left-preserved g c = λ rights side.
    let pairs = c.args.pairs.now in
    let left = c.left-item.result in
    let start = c.args.rows.now.items in
    let so_far = notin_rows pairs (take c.loop-left.left-index c.rows-left-items.result.now) rights in
    let sets = (g.R.RowsByKey.kept c.args.side.now).sets in
    let is_alone = λ (l : Row). not (list_any (agree pairs l) rights) in
    let more = filter_step is_alone c.rows-left-items.result.now c.loop-left.left-index left (omega arith) c.left-item.is in
    let partners : List Row = rows_found sets c.in_ok-key.key in
    let found = rights_agree pairs c.deref.result.now left rights partners sets (c.deref.ensures.value ∙ c.in_ok-columns.ensures) side (ap (rows_found sets) c.in_ok-key.ensures) in
    let count : length partners ≡ length (filter (agree pairs left) rights) = ap (length {A = Row}) found in
    elim c.if-not-has.branch [
      | then-not-has+in_ok-copy+in_ok-push w ↦
          let off : c.has.result ≡ false = search rules in
          let none : list_any (agree pairs left) rights ≡ false = none_found (agree pairs left) rights (sym count ∙ none_there c.has.result (length partners) c.has.ensures off) in
          ap (λ v. v.items) w.rows-is ∙ w.in_ok-push.ensures.items ∙ ap (λ (r : Row). c.loop-left.rows.items ++ r ∷ []) w.in_ok-copy.ensures ∙ ap (λ (l : List Row). l ++ left ∷ []) (c.loop-left.invariant rights side)
          ∙ append_assoc start so_far (left ∷ []) ∙ ap (λ (l : List Row). start ++ l) (sym (more true (ap not none)))
      | else-not-has w ↦
          let on : c.has.result ≡ true = search rules in
          let some : list_any (agree pairs left) rights ≡ true = some_found (agree pairs left) rights (λ (e : length (filter (agree pairs left) rights) ≡ 0). some_there c.has.result (length partners) c.has.ensures on (count ∙ e)) in
          ap (λ v. v.items) w.rows-is ∙ c.loop-left.invariant rights side ∙ ap (λ (l : List Row). start ++ l) (sym (more false (ap not some) ∙ append-nil _))
    ]
