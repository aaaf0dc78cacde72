-- The bytes of a text are one.
use Rattle.std.proofs.Common.{◌≡◌, ℕ, List, Vec, Global, ap, string_bytes, subst, ◌∙◌}
use Rattle.std.specs.Str.{IsUtf8}
use Rattle.topo_read.specs.Document.{document_of}
use Rattle.topo_read.proofs.Texts.{document_is}
use Rattle.topo_read.proofs.writing.bytes_of.Goals as goal

pub returns : goal.returns
returns c =
    let same : c.into_bytes.result.items ≡ string_bytes c.args.text = ap (λ (v : Vec ℕ Global). v.items) c.into_bytes.ensures.value in
    let good : IsUtf8 (string_bytes c.args.text) = subst IsUtf8 c.as_str-lent.ensures.value c.as_str-lent.utf8 in
    ap (λ (bytes : List ℕ). document_of bytes) same ∙ document_is (string_bytes c.args.text) good
