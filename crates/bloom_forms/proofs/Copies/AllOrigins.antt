-- Origins of the rows of all programs.
use Rattle.std.proofs.Common.{List}
use Rattle.bloom_forms.specs.declared.program.Program.{Program}
use Rattle.bloom_forms.specs.declared.program.Program.TheVariants.{Module, Split, Latest, Number}
use Rattle.bloom_forms.specs.Query.{Name}
use Rattle.bloom_forms.specs.Proper.{IsProper}
use Rattle.bloom_forms.specs.CopiesLaw.{OutputsHaveOrigins}
use Rattle.bloom_forms.proofs.Copies.ModuleOrigins.{module_outputs}
use Rattle.bloom_forms.proofs.Copies.StockOrigins.{split_outputs, latest_outputs, number_outputs}

pub outputs_origins : (names : List Name) (program : Program) → IsProper program → OutputsHaveOrigins names program
outputs_origins names (Module a) proper = module_outputs names a proper
outputs_origins names (Split columns split) proper = split_outputs names columns split proper.1
outputs_origins names (Latest columns keys) proper = latest_outputs names columns keys
outputs_origins names (Number columns) proper = number_outputs names columns
