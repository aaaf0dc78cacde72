use Rattle.std.proofs.Common.{◌≡◌, drop, length, map}
use Rattle.blazes_words.specs.Numbers as spec
use Rattle.blazes_words.proofs.NumbersLemmas.{before}
use Rattle.blazes_words.proofs.numbers.bounds_in.Given as goal

-- the bounds so far, before those of the other words
abbrev pub invariant-loop-word : goal.invariant-loop-word
invariant-loop-word l = (length l.bounds.items ≡ l.word-index) × (before l.bounds.items (spec.bounds_in (map (λ word. word.now) (drop l.word-index l.words))) ≡ spec.bounds_in (map (λ word. word.now) l.words))
