-- the words so far
use Rattle.std.proofs.Common.{◌≡◌, ◌++◌, length}
use denote.Text.{Utf8}
use denote.Shadow.{shadow}
use Rattle.bloom_forms.specs.StockSteps.{words}
use Rattle.blz_boxes.specs.Code.Texts.{texts}
use Rattle.blz_boxes.proofs.words.words_of.Given as goal

abbrev pub invariant-loop-end : goal.invariant-loop-end
invariant-loop-end l = shadow (Utf8 l.rest) × (texts l.found.items ++ words l.rest ≡ words l.text)

abbrev pub decreases-loop-end : goal.decreases-loop-end
decreases-loop-end l = length l.rest
