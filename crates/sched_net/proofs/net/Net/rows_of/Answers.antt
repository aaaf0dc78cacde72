use Rattle.std.proofs.Common.{◌≡◌, ◌<◌, ◌∙◌, ◌++◌, [], None, Some, Option, Bor, length, ap, sym, append-nil, arith, rules}
use Rattle.std.specs.List.{cons_option}
use Rattle.blz_set.specs.References.{shown}
use Rattle.blz_value.specs.Record.{Row}
use Rattle.sched_net.proofs.EmittedSeen.{lent_more}
use Rattle.sched_net.proofs.net.Net.rows_of.Goals as goal
use Rattle.sched_net.proofs.net.Net.rows_of.Goals.{in-Some+in_ok-push, in_default}

pub loop-index-preserved : goal.loop-index-preserved
loop-index-preserved g c =
    let refs = c.loop-index.rows.items in
    let within : c.loop-index.index < length c.args.messages.now = omega (arith, c.loop-index-test.true, c.len-index-end.ensures) in
    let more = lent_more c.args.self.now.books.lists.records c.args.messages.now c.loop-index.index refs c.row_at.result within c.row_at.ensures c.loop-index.invariant in
    elim c.match-row_at.branch [
      | in-Some+in_ok-push w ↦
          let lent : c.row_at.result ≡ Some w.in-Some.row = search rules in
          ap shown (ap (λ v. v.items) w.rows-is ∙ w.in_ok-push.ensures.items)
          ∙ ap (λ (o : Option (Bor Row)). shown (refs ++ cons_option o [])) (sym lent)
          ∙ more
      | in_default w ↦
          let none : c.row_at.result ≡ None = search rules in
          ap shown (ap (λ v. v.items) w.rows-is ∙ sym (append-nil refs))
          ∙ ap (λ (o : Option (Bor Row)). shown (refs ++ cons_option o [])) (sym none)
          ∙ more
    ]
