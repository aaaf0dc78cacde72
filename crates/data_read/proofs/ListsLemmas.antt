-- Sources of the lists that vectors hold, side by side.
use Rattle.std.proofs.Common.{◌≡◌, List, [], ◌∷◌, map, refl, ap}
use Rattle.std.specs.List.{zip}
use Rattle.data_read.specs.Code.Pairs.{Rows, source_in}
use Rattle.data_read.specs.Making.{sources_of}

pub sources_in : (rows parts : List Rows) → map source_in (zip rows parts) ≡ sources_of (map (λ r. r.items) rows) (map (λ p. p.items) parts)
sources_in [] parts = refl
sources_in (r ∷ rs) [] = refl
sources_in (r ∷ rs) (p ∷ ps) = ap (λ rest. source_in (r, p) ∷ rest) (sources_in rs ps)
