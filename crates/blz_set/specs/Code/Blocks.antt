-- The rows of blocks that were taken off, the last block first.
use Rattle.std.specs.Prelude.{List, [], ◌∷◌, ◌++◌}
use Rattle.blz_value.specs.Record.{Row}
use Rattle.blz_set.specs.declared.merge.Block.{Block}

-- those that were there before
unfoldable pub rows_before : List Block → List Row
rows_before [] = []
rows_before (block ∷ blocks) = rows_before blocks ++ block.rest.items

-- those of after: before them stands the row that comes
unfoldable pub rows_after : List Block → List Row
rows_after [] = []
rows_after (block ∷ blocks) = rows_after blocks ++ block.first ∷ block.rest.items
