-- What rows show of a call, which they name, over the bytes of a file.
use Rattle.std.specs.Prelude.{◌≡◌, ℕ, List, [], ◌∷◌, ◌++◌, Option, None, Some, codes}
use Rattle.std.specs.Fmt.{decimal}
use Rattle.bloom_forms.specs.Form.{Form}
use Rattle.bloom_parse.specs.Layout.{printed}
use Rattle.bloom_parse.specs.Parsing.{IsTextOf}
use Rattle.sched_text.specs.declared.event.Event.{Event}
use Rattle.sched_text.specs.Reading.{LineReading, bad_line, entries_of, event_reading}
use Rattle.sched_text.specs.Reading.LineReading.{passed_over, stands_for, bad}
use Rattle.sched_text.specs.Text.{schedule_text}

-- a schedule, as it is printed
abbrev pub IsScheduleShown : (bytes text : List ℕ) → Type 0
IsScheduleShown bytes text = (bad_line event_reading bytes ≡ None) × (text ≡ schedule_text (entries_of event_reading bytes))

-- what is shown of a line that stands alone: the event that it is, nothing where it is passed over, else that it is bad
abbrev pub line_shown : LineReading Event → List ℕ
line_shown passed_over = []
line_shown (stands_for event) = schedule_text ((1, event) ∷ [])
line_shown bad = codes "line " ++ (decimal 1 ++ codes "\n")

-- a module, as it is printed
abbrev pub IsModuleShown : (bytes text : List ℕ) → Type 0
IsModuleShown bytes text = (m : Form) × IsTextOf bytes m × (text ≡ printed m)

-- what is shown of a schedule, of a line and of a module; of tokens, of roots and of shells nothing is said
pub record IsShown (kind bytes text : List ℕ) : Type 0 where
  pub shows_schedule : kind ≡ codes "printed" → IsScheduleShown bytes text
  pub shows_line : kind ≡ codes "event" → text ≡ line_shown (event_reading bytes)
  pub shows_module : kind ≡ codes "module" → IsModuleShown bytes text

-- what is shown for two words, a call and the name of a file that is there; for others nothing is
abbrev pub AreShown : (words : List (List ℕ)) → (bytes_at : List ℕ → Option (List ℕ)) → (text : List ℕ) → Type 0
AreShown (kind ∷ name ∷ []) bytes_at text = (bytes : List ℕ) × (bytes_at name ≡ Some bytes) × IsShown kind bytes text
AreShown words bytes_at text = ⊥
