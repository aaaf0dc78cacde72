use Rattle.std.proofs.Common.{◌≡◌, ◌≢◌, [], rules, ℕ, length, ap}
use Rattle.sched_text.proofs.LinesLemmas.{taken_line}
use Rattle.sched_text.proofs.lines.Lines.next_line.Goals as goal

pub returns : goal.returns
returns c =
    let some : c.self.inside.rest.now ≢ [] = (λ e. let none : length c.self.inside.rest.now ≡ 0 = ap (length {A = ℕ}) e in let full : length c.self.inside.rest.now ≢ 0 = search rules in full none) in
    rw (← c.self.view_is, c.behind_first-self-inside.ensures) (taken_line c.self.inside.rest.now c.split_at.result.0.now c.split_at.result.1.now c.line_size.result some c.line_size.ensures.value c.split_at.ensures.front c.split_at.ensures.back)
