-- The document of bytes that are a text.
use Rattle.std.proofs.Common.{◌≡◌, ℕ, Bool, true, Option, None, Some, List, option_and_then, if◌then◌else◌, ap}
use Rattle.std.specs.Str.{is_utf8, IsUtf8}
use Rattle.std.proofs.lemmas.Str.{is_utf8-from_IsUtf8}
use Rattle.toml.specs.Parse.{parse_document}
use Rattle.topo_read.specs.Document.{document_of, text_of}

pub document_is : (bytes : List ℕ) → IsUtf8 bytes → document_of bytes ≡ parse_document bytes
unfolding text_of
document_is bytes good = ap (λ (b : Bool). option_and_then parse_document (if b then Some bytes else None)) (is_utf8-from_IsUtf8 bytes good)
