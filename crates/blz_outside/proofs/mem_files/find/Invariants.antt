use Rattle.std.proofs.Common.{◌≡◌, drop, map}
use Rattle.blz_outside.specs.MemFiles.{file_of, bytes_at}
use Rattle.blz_outside.proofs.mem_files.find.Given as goal

-- what is found from here on is what is found from the start
abbrev pub invariant-loop-file : goal.invariant-loop-file
invariant-loop-file l =
    bytes_at (map file_of (drop l.file-index l.files)) l.name ≡ bytes_at (map file_of l.files) l.name
