-- the modules so far
use Rattle.std.proofs.Common.{◌≡◌, ◌++◌, take}
use Rattle.std.specs.List.{flat_map}
use Rattle.blazes_commands.specs.Labels.ShardText.{module_part}
use Rattle.blazes_commands.proofs.label_calls.shard_text.push_modules.Given as goal

abbrev pub invariant-loop-file : goal.invariant-loop-file
invariant-loop-file l = l.into.items ≡ l.initial.into.items ++ flat_map module_part (take l.file-index l.files)
