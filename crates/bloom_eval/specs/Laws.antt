-- Statements of the laws of what a step answers.
use Rattle.std.specs.Prelude.{ℕ, List}
use Rattle.blz_value.specs.Members.{HaveEqualMembers}
use Rattle.bloom_forms.specs.Form.{Accepted}
use Rattle.bloom_forms.specs.Laws.{with_heads}
use Rattle.bloom_forms.specs.Step.{Sets}
use Rattle.bloom_eval.specs.StepAnswers.{counted_sets}

-- the sets that count in a step are the same with the heads in another order
abbrev pub CountsSame : Accepted → (heads : List ℕ) → Type 0
CountsSame a heads = (kept now : Sets) → HaveEqualMembers (counted_sets a kept now) (counted_sets (with_heads a heads) kept now)
