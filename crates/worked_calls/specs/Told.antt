-- What files in memory tell of what is read.
use Rattle.std.specs.Prelude.{◌==◌, Some, length}
use Rattle.blz_outside.specs.MemFiles.{MemFilesView, bytes_at}
use Rattle.command_checks.specs.Ends.{Told}

-- files in memory tell what they hold, and are steady where no read is to fail
abbrev pub told_of : MemFilesView → Told
told_of files = record { held = Some (bytes_at files.files); steady = length files.failing == 0 }
