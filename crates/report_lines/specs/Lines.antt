-- The text of a word as the code holds it.
use Rattle.std.specs.Prelude.{List, ◌++◌, map, codes}
use Rattle.std.specs.Fmt.{decimal}
use Rattle.std.specs.List.{flat_map}
use Rattle.blz_value.specs.Text.{escaped, record_text}
use denote.Ref.{Bor}
use Rattle.report_lines.specs.Words.{Text, names_text, set_text}
use Rattle.report_lines.specs.declared.line.Word.{Word}
use Rattle.report_lines.specs.declared.line.Word.TheVariants as word

abbrev pub word_text : Word → Text
word_text (word.Plain text) = text.now
word_text (word.Escaped text) = escaped text.now
word_text (word.Number n) = decimal n
word_text (word.Large n) = decimal n
word_text (word.Numbered text n) = text.now ++ codes " " ++ decimal n
word_text (word.Row row) = record_text row.now
word_text (word.Names names) = names_text names.now
word_text (word.Marked text attributes set) = text.now ++ set_text attributes.now set.bits

-- texts behind references
abbrev pub shown : List (Bor Text) → List Text
shown texts = map (λ text. text.now) texts

-- words with a space before each
abbrev pub later_text : List Text → Text
later_text words = flat_map (λ word. codes " " ++ word) words
