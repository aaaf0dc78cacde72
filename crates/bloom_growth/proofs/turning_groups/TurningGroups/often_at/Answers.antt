use Rattle.std.proofs.Common.{◌≡◌, ◌∙◌, true, false, [], ◌∷◌, ◌++◌, List, filter, length, sym, ap, subst, arith, rules, take_all}
use Rattle.std.proofs.lemmas.List.{append-nil}
use Rattle.std.specs.Prelude.{nat_le, ◌&&◌}
use Rattle.blz_value.specs.Groups.{with_key}
use Rattle.blz_value.specs.Operators.{project_rows}
use Rattle.blz_value.specs.Record.{Row}
use Rattle.blz_value.specs.Sets.{set_of}
use Rattle.blz_set.specs.Answers.{Gives}
use Rattle.blz_set.specs.Missing.{has_row}
use Rattle.blz_set.proofs.RecordSets.{filter_step}
use Rattle.bloom_growth.proofs.turning_groups.TurningGroups.often_at.Goals as goal
use Rattle.bloom_growth.proofs.turning_groups.TurningGroups.often_at.Goals.{then-is_often+in_ok-copy+in_ok-push, else-is_often}

pub loop-key-preserved : goal.loop-key-preserved
loop-key-preserved c = λ rows are.
    let self = c.args.self.now in
    let key = c.key-item.result in
    let items = c.args.keys.now in
    let i = c.loop-key.key-index in
    let test = λ (k : Row). has_row (project_rows self.keys.items rows) k && nat_le c.args.bound (length (with_key self.keys.items k rows)) in
    let more = filter_step test items i key (omega arith) c.key-item.is in
    let is = c.is_often.ensures rows are in
    elim c.if-is_often.branch [
      | then-is_often+in_ok-copy+in_ok-push w ↦
          let often : c.is_often.result ≡ true = search rules in
          ap (λ v. v.items) w.rows-is ∙ w.in_ok-push.ensures.items ∙ ap (λ (r : Row). c.loop-key.rows.items ++ r ∷ []) w.in_ok-copy.ensures ∙ ap (λ (l : List Row). l ++ key ∷ []) (c.loop-key.invariant rows are) ∙ sym (more true (sym is ∙ often))
      | else-is_often w ↦
          let seldom : c.is_often.result ≡ false = search rules in
          ap (λ v. v.items) w.rows-is ∙ c.loop-key.invariant rows are ∙ sym (more false (sym is ∙ seldom) ∙ append-nil _)
    ]

pub returns : goal.returns
returns c = λ rows are.
    let self = c.args.self.now in
    let test = λ (k : Row). has_row (project_rows self.keys.items rows) k && nat_le c.args.bound (length (with_key self.keys.items k rows)) in
    let all = c.loop-key.invariant rows are ∙ ap (filter test) (take_all c.loop-key.key-index c.args.keys.now (omega arith)) in
    subst (λ (l : List Row). Gives (set_of l) c.from_rows.result) all c.from_rows.ensures
