use Rattle.std.proofs.Common.{◌≡◌, drop}
use Rattle.bloom_forms.specs.Borrowed.{names_in}
use Rattle.std.specs.List.{position_from}
use Rattle.std.specs.Str.{bytes_eq}
use Rattle.blz_value.specs.Names.{place_of}
use Rattle.bloom_forms.proofs.columns.place_of.Given as goal

abbrev pub invariant-loop-place : goal.invariant-loop-place
invariant-loop-place l = position_from (λ held. bytes_eq held l.name) l.place (names_in (drop l.place l.names)) ≡ place_of (names_in l.names) l.name
