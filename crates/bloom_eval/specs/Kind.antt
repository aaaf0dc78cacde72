-- The kind of a program.
use Rattle.bloom_forms.specs.declared.program.Program.{Program}
use Rattle.bloom_forms.specs.declared.program.Program.TheVariants as programs
use Rattle.bloom_eval.specs.declared.kind.ProgramKind.{ProgramKind}
use Rattle.bloom_eval.specs.declared.kind.ProgramKind.TheVariants.{Module, Split, Latest, Number}

abbrev pub kind_of : Program → ProgramKind
kind_of (programs.Module a) = Module
kind_of (programs.Split columns split) = Split
kind_of (programs.Latest columns keys) = Latest
kind_of (programs.Number columns) = Number
