-- What the messages of a batch touch, as a list.
use Rattle.std.specs.Prelude.{List, []}
use Rattle.std.specs.List.{cons_option}
use Rattle.inbox.specs.declared.inbox.Touched.{Touched}
use Rattle.inbox.specs.declared.inbox.Touches.{Touches}
use Rattle.inbox.specs.declared.inbox.Touches.TheVariants.{One, Many}

abbrev pub touches_in : Touches → List Touched
touches_in (One touched) = cons_option touched []
touches_in (Many touched) = touched.items
