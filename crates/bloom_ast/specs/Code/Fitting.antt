-- What a walk over an expression gives of its columns.
use Rattle.std.specs.Prelude.{pos, int_lt, ◌++◌, ◌&&◌, Bool, true, if◌then◌else◌, Option, Some, None, List, [], ◌∷◌, map}
use Rattle.std.specs.Option.{option_map, option_and_then}
use Rattle.std.specs.Global.{Vec}
use Rattle.std.proofs.Common.{Bor}
use Rattle.bloom_forms.specs.Borrowed.{names_in}
use Rattle.bloom_forms.specs.Columns.{joined_columns}
use Rattle.bloom_forms.specs.Fits.{are_columns, formula_fits, items_fit, pairs_fit, keys_fit, aggregate_fits}
use Rattle.bloom_forms.specs.Query.{Name, Query}
use Rattle.bloom_forms.specs.Query.Query.{base, select, project, join, notin, group, at_least}

-- these columns, where the operator fits and they are columns, and else nothing
abbrev pub keep : List Name → Bool → Option (List Name)
keep columns fit = if fit && are_columns columns then Some columns else None

-- the columns of an expression, and nothing where one of its operators doesn't fit
abbrev pub fitting : (Name → List Name) → Query → Option (List Name)
fitting declared (base name) = keep (declared name) true
fitting declared (select q f) = option_and_then (λ columns. keep columns (formula_fits columns f)) (fitting declared q)
fitting declared (project q items) = option_and_then (λ columns. keep (map (λ item. item.1) items) (items_fit columns items)) (fitting declared q)
fitting declared (join a b pairs) = option_and_then (λ left. option_and_then (λ right. keep (joined_columns left right pairs) (pairs_fit left right pairs)) (fitting declared b)) (fitting declared a)
fitting declared (notin a b pairs) = option_and_then (λ left. option_and_then (λ right. keep left (pairs_fit left right pairs)) (fitting declared b)) (fitting declared a)
fitting declared (group q keys agg name) = option_and_then (λ columns. keep (keys ++ name ∷ []) (keys_fit columns keys && aggregate_fits columns agg)) (fitting declared q)
fitting declared (at_least q keys bound) = option_and_then (λ columns. keep keys (keys_fit columns keys && int_lt (pos 0) bound)) (fitting declared q)

-- the names of borrowed columns, where there are any
abbrev pub found_in : Option (Vec (Bor Name)) → Option (List Name)
found_in found = option_map (λ refs. names_in refs.items) found
