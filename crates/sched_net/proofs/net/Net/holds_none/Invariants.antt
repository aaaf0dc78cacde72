-- the components so far hold nothing
use Rattle.std.proofs.Common.{◌<◌, ℕ, true}
use Rattle.sched_net.specs.Reading.{IsRead, holds_none_at}
use Rattle.sched_net.proofs.net.Net.holds_none.Given as goal

abbrev pub invariant-loop-component : goal.invariant-loop-component
invariant-loop-component g l = (c : ℕ) → c < l.component → IsRead l.self.valid.now.view l.self.books (λ given x. holds_none_at l.self.valid.now.view x c) true
