use Rattle.std.proofs.Common.{◌∙◌, ◌++◌, ◌∷◌, [], ◌+◌, ℕ, List, ap, length, length-append, sym, arith}
use Rattle.sched_turns.specs.Windows.{open_below}
use Rattle.sched_turns.proofs.WindowsLemmas.{open-more, open_stays}
use Rattle.sched_turns.proofs.windows.Window.look_on.Goals as goal
use Rattle.sched_turns.proofs.windows.Window.look_on.Goals.{then-is_open+in_ok-push, else-is_open}

pub loop-self-preserved : goal.loop-self-preserved
loop-self-preserved g c = elim c.if-is_open.branch [
  | then-is_open+in_ok-push w ↦ record {
    below = ap (λ s. s.places.items) w.self-inside-is
        ∙ w.in_ok-push.ensures.items
        ∙ ap (λ (l : List ℕ). l ++ c.loop-self.self-inside.next ∷ []) c.loop-self.invariant.below
        ∙ open-more (g.L.OpenPlaces.is_open c.args.list.now) c.loop-self.self-inside.next (sym w.if-is_open.ensures)
        ∙ ap (λ n. open_below (g.L.OpenPlaces.is_open c.args.list.now) (n + 1)) (sym (ap (λ s. s.next) w.self-inside-is));
    inside = omega (arith, ap (λ s. s.next) w.self-inside-is, c.loop-self-test.true);
    few = omega (arith, ap (λ s. length s.places.items) w.self-inside-is, ap (λ (l : List ℕ). length l) w.in_ok-push.ensures.items, length-append c.loop-self.self-inside.places.items (c.loop-self.self-inside.next ∷ []), c.if-len-lt-WINDOW.true, c.len.ensures, c.loop-self.self-inside.places.ok.0);
  }
  | else-is_open w ↦ record {
    below = ap (λ s. s.places.items) w.self-inside-is
        ∙ c.loop-self.invariant.below
        ∙ open_stays (g.L.OpenPlaces.is_open c.args.list.now) c.loop-self.self-inside.next (sym w.if-is_open.ensures)
        ∙ ap (λ n. open_below (g.L.OpenPlaces.is_open c.args.list.now) (n + 1)) (sym (ap (λ s. s.next) w.self-inside-is));
    inside = omega (arith, ap (λ s. s.next) w.self-inside-is, c.loop-self-test.true);
    few = omega (arith, ap (λ s. length s.places.items) w.self-inside-is, c.loop-self.invariant.few);
  }
]
