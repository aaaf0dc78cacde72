-- The bytes of a text, wherever they stand.
use Rattle.std.specs.Prelude.{ℕ, List}
use Rattle.std.specs.String.{string_bytes}
use Rattle.blz_value.specs.declared.text.Bytes.{Bytes}
use Rattle.blz_value.specs.declared.text.Bytes.TheVariants.{Short, Long}

abbrev pub bytes_of : Bytes → List ℕ
bytes_of (Short text) = text.bytes
bytes_of (Long text) = string_bytes text
