-- The lines of a text, read one after another.
use Rattle.std.proofs.Common.{◌≡◌, ℕ, ◌+◌, ◌≤◌, Bool, ◌||◌, List, ◌++◌}
use Rattle.std.specs.Prelude.{nat_lt}
use Rattle.blz_value.specs.FirstPlace.{first_place}
use Rattle.sched_text.specs.Lines.{Line}
use Rattle.sched_text.specs.Reading.{LineReading, is_bad, line_limit, bad_line, entries_from, entries_of}

module _ {X : Type 0} (reading : Line → LineReading X) where
  -- a line is none of a schedule, or past the limit
  abbrev is_fault : ℕ → Line → Bool
  is_fault number line = nat_lt line_limit number || is_bad (reading line)

  -- so many lines of a text were read and gave entries, where these lines are left
  pub record AreReadLines (text : List ℕ) (entries : List (ℕ × X)) (number : ℕ) (rest : List Line) : Type 0 where
    pub entries_so : entries_of reading text ≡ entries ++ entries_from reading (number + 1) rest
    pub bad_so : bad_line reading text ≡ first_place is_fault (number + 1) rest
    pub few : number ≤ line_limit
