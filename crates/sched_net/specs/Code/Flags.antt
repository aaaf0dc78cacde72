-- Flags of the shells of a bench, and what is asked of a list of components.
use Rattle.std.specs.Prelude.{ℕ, ◌&&◌, ◌<◌, Bool, true, false, if◌then◌else◌, IsSome, List, [], ◌∷◌, length}
use Rattle.blz_value.specs.Members.{Has}
use Rattle.topo_forms.specs.View.{View, program_of}

-- the members whose flag is set
abbrev pub flagged : {X : Type 0} → List Bool → List X → List X
flagged [] xs = []
flagged (f ∷ fs) [] = []
flagged (f ∷ fs) (x ∷ xs) = if f then x ∷ flagged fs xs else flagged fs xs

-- the flags where the first that is set and fits is taken back
abbrev pub claimed : List Bool → List Bool → List Bool
claimed [] fit = []
claimed (f ∷ fs) [] = f ∷ fs
claimed (f ∷ fs) (t ∷ ts) = if f && t then false ∷ fs else f ∷ claimed fs ts

-- whether there is one
abbrev pub may_claim : List Bool → List Bool → Bool
may_claim [] fit = false
may_claim (f ∷ fs) [] = false
may_claim (f ∷ fs) (t ∷ ts) = if f && t then true else may_claim fs ts

-- these are numbers of components
abbrev pub AreThere : View → List ℕ → Type 0
AreThere v cs = (c : ℕ) → Has c cs → c < length v.components

-- each has a body
abbrev pub HaveBodies : View → List ℕ → Type 0
HaveBodies v cs = (c : ℕ) → Has c cs → IsSome (program_of v c)
