-- Names that are borrowed.
use Rattle.std.specs.Prelude.{List, map}
use Rattle.std.proofs.Common.{Bor}
use Rattle.bloom_forms.specs.Query.{Name}

abbrev pub names_in : List (Bor Name) → List Name
names_in refs = map (λ name. name.now) refs
