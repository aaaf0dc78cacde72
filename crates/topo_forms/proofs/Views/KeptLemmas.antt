-- What a Valid keeps, counted.
use Rattle.std.proofs.Common.{◌≡◌, is_none, List, [], ◌∷◌, map, length, filter, refl, arith}
use Rattle.topo_forms.specs.declared.kept.KeptStream.{KeptStream}
use Rattle.topo_forms.specs.Kept.{stream_kept}
use Rattle.topo_forms.specs.View.{is_source}

pub counted_sources : (xs : List KeptStream) → length (filter is_source (map stream_kept xs)) ≡ length (filter (λ (s : KeptStream). is_none s.origin) xs)
counted_sources [] = refl
counted_sources (x ∷ xs) = let more = counted_sources xs in grind (arith, more)
