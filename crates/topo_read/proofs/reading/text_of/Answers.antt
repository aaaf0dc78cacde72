use Rattle.std.proofs.Common.{◌≡◌, true, false, None, refl, List, ℕ}
use Rattle.std.specs.Str.{is_utf8, IsUtf8}
use Rattle.std.proofs.lemmas.Str.{IsUtf8-from_is_utf8, is_utf8-from_IsUtf8}
use Rattle.topo_read.specs.Document.{text_of}
use Rattle.topo_read.proofs.reading.text_of.Goals as goal

pub returns-in-Ok : goal.returns-in-Ok
unfolding text_of
returns-in-Ok c =
    let good : is_utf8 c.args.bytes.now ≡ true = is_utf8-from_IsUtf8 _ c.in-Ok.ensures.cases.1 in
    rw (good, c.in-Ok.ensures.cases.0) refl

not_text : (bytes : List ℕ) → ¬ (IsUtf8 bytes) → None ≡ text_of bytes
unfolding text_of
not_text bytes bad =
    (elim (is_utf8 bytes) as (λ b. is_utf8 bytes ≡ b → None ≡ text_of bytes) [
      | true ↦ λ e. absurd (bad (IsUtf8-from_is_utf8 bytes e))
      | false ↦ λ e. rw e refl
    ]) refl

pub returns-in-Err : goal.returns-in-Err
returns-in-Err c = not_text _ c.in-Err.ensures.cases.0
