-- The lines of a text. Each goes on to an LF, in front of which a CR is no part of it, or to the end of the text.
use Rattle.std.specs.Prelude.{ℕ, ◌==◌, Bool, true, false, List, [], ◌∷◌, if◌then◌else◌}
use Rattle.std.specs.List.{slice_split}
use Rattle.std.specs.Str.Lines.{strip_carriage_return}

-- a line, as its bytes
abbrev pub Line : Type 0
Line = List ℕ

abbrev pub is_line_feed : ℕ → Bool
is_line_feed byte = byte == 10

-- a text isn't empty
abbrev pub has_bytes : List ℕ → Bool
has_bytes [] = false
has_bytes (byte ∷ others) = true

-- what stands behind the last LF is a line only where it isn't empty
abbrev pub without_empty_last : List Line → List Line
without_empty_last [] = []
without_empty_last (line ∷ []) = if has_bytes line then line ∷ [] else []
without_empty_last (line ∷ next ∷ others) = line ∷ without_empty_last (next ∷ others)

-- the lines of a text, each without its LF
abbrev pub lines_of : List ℕ → List Line
lines_of text = without_empty_last (slice_split is_line_feed text)

-- a line without the one CR at its end
abbrev pub without_return : Line → Line
without_return line = strip_carriage_return line
