-- Programs as they should be: modules that were checked, and stock bodies that fit their columns.
use Rattle.std.specs.Prelude.{IsFalse}
use Rattle.bloom_forms.specs.declared.program.Program.{Program}
use Rattle.bloom_forms.specs.declared.program.Program.TheVariants.{Module, Split, Latest, Number}
use Rattle.bloom_forms.specs.Checks.{IsChecked}
use Rattle.bloom_forms.specs.Fits.{repeats}
use Rattle.bloom_forms.specs.Program.{IsStock}

-- a module that was checked, or a stock body whose numbers are those of columns
abbrev pub IsProper : Program → Type 0
IsProper (Module a) = IsChecked a.form a.heads
IsProper (Split columns split) = IsStock (Split columns split)
IsProper (Latest columns keys) = IsStock (Latest columns keys)
IsProper (Number columns) = IsStock (Number columns)

-- a stock body has no column twice, as no part of a checked module has
abbrev pub HasDistinctColumns : Program → Type 0
HasDistinctColumns (Module a) = Unit {0}
HasDistinctColumns (Split columns split) = IsFalse (repeats columns)
HasDistinctColumns (Latest columns keys) = IsFalse (repeats columns)
HasDistinctColumns (Number columns) = IsFalse (repeats columns)
