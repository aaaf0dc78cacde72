-- How a text that grows goes on beginning as it did.
use Rattle.std.proofs.Common.{◌≡◌, ◌≤◌, ◌++◌, ℕ, Bool, true, false, Result, Ok, Err, OnOk, length, take, List, arith, append_assoc, ap, sym, ◌∙◌}
use Rattle.std.specs.Prelude.{if◌then◌else◌}
use Rattle.std.specs.Result.{is_ok}
use Rattle.std.proofs.lemmas.List.{take-take, length-take}
use Rattle.std.proofs.Math.Seq.{take-append_seam, take-length}
use Rattle.blz_value.specs.Text.{BeginsWith}

pub begins_same : (text : List ℕ) → BeginsWith text text
begins_same text = take-length text

pub begins_longer : (text more : List ℕ) → BeginsWith text (text ++ more)
begins_longer text more = take-append_seam text more

pub begins_on : (first second third : List ℕ) → BeginsWith first second → BeginsWith second third → BeginsWith first third
begins_on first second third one two =
    let within : length first ≤ length second = omega (arith, ap length one, length-take (length first) second) in
    sym (take-take (length first) (length second) third within) ∙ ap (take (length first)) two ∙ one

-- a piece more
pub begins_behind : (old text longer piece : List ℕ) → BeginsWith old text → longer ≡ text ++ piece → BeginsWith old longer
begins_behind old text longer piece begins e = rw (e) (begins_on old text (text ++ piece) begins (begins_longer text piece))

-- nothing more
pub begins_still : (old text same : List ℕ) → BeginsWith old text → same ≡ text → BeginsWith old same
begins_still old text same begins e = rw (e) begins

-- a piece more, or nothing where memory failed
pub begins_either : (ok : Bool) (old text longer piece : List ℕ) → BeginsWith old text → longer ≡ (if ok then text ++ piece else text) → BeginsWith old longer
begins_either true old text longer piece begins e = begins_behind old text longer piece begins e
begins_either false old text longer piece begins e = begins_still old text longer begins e

-- a piece more where memory sufficed
pub appended_where_ok : {A B : Type 0} (r : Result A B) (text longer piece wanted : List ℕ) → longer ≡ (if is_ok r then text ++ piece else text) → text ++ piece ≡ wanted → OnOk r (longer ≡ wanted)
appended_where_ok (Ok done) text longer piece wanted e same = e ∙ same
appended_where_ok (Err fault) text longer piece wanted e same = tt

-- three pieces more
pub three_pieces : (old one two three first second third : List ℕ) → one ≡ old ++ first → two ≡ one ++ second → three ≡ two ++ third → three ≡ old ++ (first ++ (second ++ third))
three_pieces old one two three first second third e f g = rw (g, f, e) (append_assoc (old ++ first) second third ∙ append_assoc old first (second ++ third))
