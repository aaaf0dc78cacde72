-- The words of reports: sets of attributes, labels, notes and modes.
use Rattle.std.specs.Prelude.{ℕ, List, ◌++◌, codes}
use Rattle.std.specs.List.{join_by}
use Rattle.bloom_forms.specs.declared.note.Note.{Note}
use Rattle.bloom_forms.specs.declared.note.Note.TheVariants.{CR, CW, OR, OW}
use Rattle.bloom_forms.specs.declared.mode.Mode.{Mode}
use Rattle.bloom_forms.specs.declared.mode.Mode.TheVariants as mode
use Rattle.topo_forms.specs.Modes.{names_in}
use Rattle.label_rules.specs.declared.label.Label.{Label}
use Rattle.label_rules.specs.declared.label.Label.TheVariants.{Seal, Async, Run, Inst, Diverge}

-- a text, as its bytes
abbrev pub Text : Type 0
Text = List ℕ

-- a set of names
abbrev pub names_text : List Text → Text
names_text names = codes "[" ++ join_by (λ name. name) (codes ", ") names ++ codes "]"

-- the names of the attributes in a set, in the order of their numbers
unfoldable pub set_text : (attributes : List Text) → (set : ℕ) → Text
set_text attributes set = names_text (names_in attributes set)

-- labels, notes and modes, where these are the names of the attributes
abbrev pub label_word : (attributes : List Text) → Label → Text
label_word attributes (Seal key) = codes "Seal" ++ set_text attributes key.bits
label_word attributes Async = codes "Async"
label_word attributes Run = codes "Run"
label_word attributes Inst = codes "Inst"
label_word attributes Diverge = codes "Diverge"

abbrev pub note_word : (attributes : List Text) → Note → Text
note_word attributes CR = codes "CR"
note_word attributes CW = codes "CW"
note_word attributes (OR gate) = codes "OR" ++ set_text attributes gate.bits
note_word attributes (OW gate) = codes "OW" ++ set_text attributes gate.bits

abbrev pub mode_word : (attributes : List Text) → Mode → Text
mode_word attributes mode.Free = codes "free"
mode_word attributes (mode.Pass key) = codes "pass" ++ set_text attributes key.bits
mode_word attributes (mode.Seal key) = codes "seal" ++ set_text attributes key.bits
mode_word attributes mode.Order = codes "order"

-- a line of these words, with a space between each two
abbrev pub line : List Text → Text
line words = join_by (λ word. word) (codes " ") words ++ codes "\n"

-- a line that begins with two spaces
abbrev pub inner_line : List Text → Text
inner_line words = codes "  " ++ line words
