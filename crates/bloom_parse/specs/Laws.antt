-- What holds of the reading of each text, and of the bounds of each rule.
use Rattle.std.specs.Prelude.{◌≡◌, ◌↔◌, ℕ, IsFalse, List, Ok, Err}
use Rattle.bloom_forms.specs.Bounds.{passes_bounds}
use Rattle.bloom_forms.specs.Form.{RuleForm, Form}
use Rattle.bloom_parse.specs.declared.refusal.TextFault.{TextFault}
use Rattle.bloom_parse.specs.Bounds.{IsRuleText, HasShortLiterals, HasPositiveBounds}
use Rattle.bloom_parse.specs.Layout.{rule_tree}
use Rattle.bloom_parse.specs.Parsing.{IsTextOf, IsFirstFault}
use Rattle.bloom_parse.specs.Reading.{reading_of}
use Rattle.bloom_parse.specs.Trees.{rule_text}

-- a text is read as a module exactly where the grammar gives it as a text of this module
abbrev pub ReadsTexts : Type 0
ReadsTexts = (text : List ℕ) (m : Form) → (reading_of text ≡ Ok m) ↔ IsTextOf text m

-- a text is read as a fault exactly where the first token that no module text has there stands at its place
abbrev pub ReadsFaults : Type 0
ReadsFaults = (text : List ℕ) (fault : TextFault) → (reading_of text ≡ Err fault) ↔ IsFirstFault text fault

-- a rule doesn't pass the bounds exactly where the tokens that are printed of it are a rule of the grammar and its text literals are short
abbrev pub BoundsLaw : Type 0
BoundsLaw = (rule : RuleForm) → HasPositiveBounds rule.1 → IsFalse (passes_bounds rule.1) ↔ (IsRuleText (rule_text (rule_tree rule)) × HasShortLiterals rule.1)
