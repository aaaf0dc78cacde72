-- The text of `shard`: the topology with copies, and the module of each copy, each behind a line with its length.
use Rattle.std.specs.Prelude.{List, ◌++◌, codes, length}
use Rattle.std.specs.Fmt.{decimal}
use Rattle.std.specs.List.{flat_map}
use Rattle.blz_value.specs.Text.{escaped}
use Rattle.bloom_parse.specs.Layout.{printed}
use Rattle.shard_route.specs.declared.sharded.ShardFile.{ShardFile}
use Rattle.command_checks.specs.Script.{Bytes}

-- these words and the length of a text on a line, and then the text with the end of a line behind it, which the length leaves out
abbrev pub part : Bytes → Bytes → Bytes
part words text = words ++ codes " " ++ decimal (length text) ++ codes "\n" ++ text ++ codes "\n"

-- the printed module of a copy, behind the name of its file
abbrev pub module_part : ShardFile → Bytes
module_part file = part (codes "module " ++ escaped file.name) (printed file.«module».form)

-- a text of the topology, and the modules in order
abbrev pub shard_text : Bytes → List ShardFile → Bytes
shard_text topology files = part (codes "topology") topology ++ flat_map module_part files
