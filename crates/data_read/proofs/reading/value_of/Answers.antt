use Rattle.std.proofs.Common.{◌≡◌, true, false, None, Some, refl, List, ℕ, ap}
use Rattle.std.specs.Str.{is_utf8, IsUtf8}
use Rattle.std.proofs.lemmas.Str.{IsUtf8-from_is_utf8, is_utf8-from_IsUtf8}
use Rattle.serde_json.specs.Data.{Data}
use Rattle.serde_json.specs.Errors.{IsMemory}
use Rattle.serde_json.specs.Read.{read}
use Rattle.data_read.specs.Reading.{text_of, value_of, or_not_json}
use Rattle.data_read.proofs.reading.value_of.Goals as goal

some_value : (bytes : List ℕ) (d : Data) → IsUtf8 bytes → read bytes ≡ Some d → value_of bytes ≡ Some d
unfolding text_of
some_value bytes d good e = let text : is_utf8 bytes ≡ true = is_utf8-from_IsUtf8 bytes good in rw text e

no_value : (bytes : List ℕ) → (IsUtf8 bytes → read bytes ≡ None) → value_of bytes ≡ None
unfolding text_of
no_value bytes none =
    (elim (is_utf8 bytes) as (λ b. is_utf8 bytes ≡ b → value_of bytes ≡ None) [
      | true ↦ λ e. rw e (none (IsUtf8-from_is_utf8 bytes e))
      | false ↦ λ e. rw e refl
    ]) refl

pub returns-in-Ok : goal.returns-in-Ok
returns-in-Ok c = ap or_not_json (some_value c.args.text.now _ c.in-Ok.ensures.ok.0 c.in-Ok.ensures.ok.1)

pub returns-else-is_memory : goal.returns-else-is_memory
returns-else-is_memory c =
    let other : IsMemory c.in-Err.error → ⊥ = (λ m. let t : c.is_memory.result ≡ true = c.is_memory.ensures.1 m in cc) in
    ap or_not_json (no_value c.args.text.now (λ good. c.in-Err.ensures.err other good))
