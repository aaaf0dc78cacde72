-- The records among messages.
use Rattle.std.proofs.Common.{◌≤◌, List, [], ◌∷◌, length, arith}
use Rattle.blz_value.specs.Message.{Message, row, rows_in, seal}

pub length-rows_in-le : (list : List Message) → length (rows_in list) ≤ length list
length-rows_in-le [] = omega arith
length-rows_in-le (row r ∷ list) = omega (arith, length-rows_in-le list)
length-rows_in-le (seal key count ∷ list) = omega (arith, length-rows_in-le list)
