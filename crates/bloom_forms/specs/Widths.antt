-- Rows of one width, and sets for lists of columns.
use Rattle.std.specs.Prelude.{ℕ, ◌≡◌, List, [], ◌∷◌, length}
use Rattle.std.specs.List.{All, AllZip}
use Rattle.std.proofs.Props.{props}
use Rattle.blz_value.specs.Record.{Row}
use Rattle.bloom_forms.specs.Query.{Name}
use Rattle.bloom_forms.specs.Step.{Sets}

-- each row has so many values
abbrev pub AreWide : ℕ → List Row → Type 0
AreWide width rows = All (λ row. length row ≡ width) rows

-- one set for each list of columns, with rows of that width
abbrev pub AreSetsOf : List (List Name) → Sets → Type 0
AreSetsOf columns sets = AllZip (λ names rows. AreWide (length names) rows) columns sets

-- which is a fact
pub AreSetsOf-prop : (columns : List (List Name)) (sets : Sets) → IsProp (AreSetsOf columns sets)
AreSetsOf-prop [] [] = hlevel
AreSetsOf-prop [] (rows ∷ sets) = hlevel
AreSetsOf-prop (names ∷ columns) [] = hlevel
AreSetsOf-prop (names ∷ columns) (rows ∷ sets) = let others = AreSetsOf-prop columns sets in hlevel (others, props)
