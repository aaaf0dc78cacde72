use Rattle.std.proofs.Common.{refl}
use Rattle.blz_outside.proofs.mem_files.MemFilesFiles.read.Goals as goal

-- where nothing is readable the call is listed or no file has the name
pub returns-in_default-clause-fails : goal.returns-in_default-clause-fails
returns-in_default-clause-fails c =
    rw (← c.self.view_is) (λ _. c.in_default.ensures.none.0 refl, λ _. refl)
