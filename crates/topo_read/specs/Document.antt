-- The document that the bytes of a file are.
use Rattle.std.specs.Prelude.{ℕ, List, Option, Some, None, option_and_then, if◌then◌else◌}
use Rattle.std.specs.Str.{is_utf8}
use Rattle.toml.specs.Data.{Members}
use Rattle.toml.specs.Parse.{parse_document}

-- the text of bytes that are UTF-8
unfoldable pub text_of : List ℕ → Option (List ℕ)
text_of bytes = if is_utf8 bytes then Some bytes else None

-- the TOML document that bytes are, as the members of its top table
abbrev pub document_of : List ℕ → Option Members
document_of bytes = option_and_then parse_document (text_of bytes)
