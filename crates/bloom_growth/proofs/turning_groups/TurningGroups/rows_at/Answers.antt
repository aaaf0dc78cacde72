use Rattle.std.proofs.Common.{◌≡◌, ◌<◌, ◌∙◌, true, false, None, Option, [], ◌∷◌, ◌++◌, List, length, map, sym, ap, subst, arith, rules}
use Rattle.std.proofs.lemmas.List.{append-nil, map-append}
use Rattle.blz_value.specs.Groups.{with_key}
use Rattle.blz_value.specs.Operators.{project_rows}
use Rattle.blz_value.specs.Record.{Row}
use Rattle.blz_set.specs.Missing.{has_row}
use Rattle.blz_set.proofs.RecordSets.{filter_step}
use Rattle.bloom_growth.specs.declared.tally.Tally.{Tally}
use Rattle.bloom_growth.specs.Tallies.{IsTally}
use Rattle.bloom_growth.specs.Code.Aggregates.{grouped}
use Rattle.bloom_growth.specs.TurningGroups.{IsTalliedAt, tally_at}
use Rattle.bloom_growth.proofs.TurnedGroups.{some_occurs, none_occurs}
use Rattle.bloom_growth.proofs.turning_groups.TurningGroups.rows_at.Goals as goal
use Rattle.bloom_growth.proofs.turning_groups.TurningGroups.rows_at.Goals.{in-Some+in_ok-row_of+in_ok-push, in_default}

pub loop-key-preserved : goal.loop-key-preserved
loop-key-preserved c = λ rows are.
    let self = c.args.self.now in
    let key = c.key-item.result in
    let items = c.args.keys.now in
    let i = c.loop-key.key-index in
    let run = with_key self.keys.items key rows in
    let f = grouped self.keys.items self.agg rows in
    let occurs = has_row (project_rows self.keys.items rows) in
    let more = filter_step occurs items i key (omega arith) c.key-item.is in
    let so_far = c.loop-key.invariant rows are in
    elim c.match-get.branch [
      | in-Some+in_ok-row_of+in_ok-push w ↦
          let at : IsTally self.agg run w.in-Some.tally.now × (0 < length run) = subst (λ (o : Option Tally). IsTalliedAt self.agg run o) (sym w.in-Some.ensures.value) (are key) in
          let is = w.in_ok-row_of.ensures rows at.0 in
          ap (λ v. v.items) w.rows-is ∙ w.in_ok-push.ensures.items ∙ ap (λ (r : Row). c.loop-key.rows.items ++ r ∷ []) is ∙ ap (λ (l : List Row). l ++ f key ∷ []) so_far
          ∙ sym (ap (map f) (more true (some_occurs self.keys.items rows key at.1)) ∙ map-append f _ (key ∷ []))
      | in_default w ↦
          let none : None ≡ tally_at self.tallies key = search rules in
          let empty = subst (λ (o : Option Tally). IsTalliedAt self.agg run o) (sym none) (are key) in
          ap (λ v. v.items) w.rows-is ∙ so_far ∙ sym (ap (map f) (more false (none_occurs self.keys.items rows key empty) ∙ append-nil _))
    ]
