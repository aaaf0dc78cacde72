-- The bodies of the rules of a head that are kept, and what a bag has of them beside a set.
use Rattle.std.specs.Prelude.{◌≡◌, ◌≤◌, ◌<◌, Bool, true, false, IsTrue, Result, Ok, Err, List, ◌++◌, length}
use Rattle.std.specs.List.{AllZip, flat_map}
use Rattle.blz_value.specs.Record.{Row}
use Rattle.blz_value.specs.Sets.{set_of}
use Rattle.blz_set.specs.RecordSet.{row_limit}
use Rattle.blz_set.specs.declared.fault.SetFault.{SetFault}
use Rattle.blz_set.specs.declared.fault.SetFault.TheVariants.{TooManyRows, NoMemory}
use Rattle.bloom_parts.specs.declared.change.Change.{Change}
use Rattle.bloom_parts.specs.Turns.{Turns}

-- the rows of a body before and after
pub record BodyRows : Type 0 where
  pub old : List Row
  pub new : List Row

-- what some bodies give before and after, a row as often as they do
abbrev pub olds_of : List BodyRows → List Row
olds_of bodies = flat_map (λ body. body.old) bodies

abbrev pub news_of : List BodyRows → List Row
news_of bodies = flat_map (λ body. body.new) bodies

-- a body that is kept turned
pub record BodyTurns (body : BodyRows) (change : Change) : Type 0 where
  pub kept : IsTrue change.kept
  pub turned : Turns body.old body.new change

-- each change is that of a body that is kept, and they are few
pub record BodiesTurn (bodies : List BodyRows) (changes : List Change) : Type 0 where
  pub few : length changes ≤ 64
  pub each : AllZip BodyTurns bodies changes

-- ---- what a bag has beside a set

-- the answer is the set with all given rows, or with those that came; TooManyRows comes exactly where the set with all is too large
abbrev pub AddsGiven : (whole : Bool) → (rows given more : List Row) → Result (List Row) SetFault → Type 0
AddsGiven true rows given more (Ok set) = (set ≡ set_of (rows ++ given)) × (length set ≤ row_limit)
AddsGiven false rows given more (Ok set) = (set ≡ set_of (rows ++ more)) × (length (set_of (rows ++ given)) ≤ row_limit)
AddsGiven whole rows given more (Err TooManyRows) = row_limit < length (set_of (rows ++ given))
AddsGiven whole rows given more (Err NoMemory) = Unit {0}
