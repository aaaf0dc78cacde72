-- What is read as a text literal is the text with its escapes.
use Rattle.std.proofs.Common.{◌≡◌, ℕ, zero, suc, ◌+◌, ◌-◌, ◌*◌, ◌/◌, ◌%◌, ◌<◌, ◌≤◌, Bool, true, false, cond, ◌||◌, ◌&&◌, ◌==◌, List, [], ◌∷◌, ◌++◌, Option, Some, None, length, refl, ap, ◌∙◌, sym, subst, arith, append_assoc, nat_lt, nat_le}
use Rattle.std.proofs.lemmas.Bool.{lt-ltb, eqb-true}
use Rattle.std.proofs.lemmas.Bool.Decides.{nat_tests}
use Rattle.std.proofs.lemmas.Str.{IsUtf8-from_is_utf8}
use Rattle.std.specs.Char.{is_ascii_digit}
use Rattle.std.specs.Option.{option_and_then}
use Rattle.std.specs.Str.{IsUtf8, is_utf8}
use Rattle.blz_value.specs.Text.{escaped, escaped_byte, hex_digit}
use Rattle.bloom_parse.specs.declared.lexing.terminal.Terminal.{Terminal}
use Rattle.bloom_parse.specs.declared.lexing.terminal.Terminal.TheVariants as terminals
use Rattle.bloom_parse.specs.Tokens.{Front, Byte, front, hex_value, is_control, hex_front, escape_front, byte_front, closing_front, starts_with_quote, bytes_front, with_bytes, literal}

-- ---- two digits

hex_by : (c n : ℕ) (p q : Bool) → is_ascii_digit c ≡ p → nat_le 97 c && nat_le c 102 ≡ q → cond p (Some (c - 48)) (cond q (Some (c - 87)) None) ≡ Some n → (hex_digit n ≡ c) × (n < 16)
hex_by c n true q e f h =
    let is : c - 48 ≡ n = cc in
    let low : 48 ≤ c = grind (arith, nat_tests) in
    let high : c ≤ 57 = grind (arith, nat_tests) in
    let small : nat_lt n 10 ≡ true = lt-ltb n 10 (omega arith) in
    (ap (λ b. cond b (48 + n) (97 + (n - 10))) small ∙ omega arith, omega arith)
hex_by c n false true e f h =
    let is : c - 87 ≡ n = cc in
    let low : 97 ≤ c = grind (arith, nat_tests) in
    let high : c ≤ 102 = grind (arith, nat_tests) in
    let large : nat_lt n 10 ≡ false = grind (arith, nat_tests) in
    (ap (λ b. cond b (48 + n) (97 + (n - 10))) large ∙ omega arith, omega arith)
hex_by c n false false e f h = cc

hex_back : (c n : ℕ) → hex_value c ≡ Some n → (hex_digit n ≡ c) × (n < 16)
hex_back c n h = hex_by c n (is_ascii_digit c) (nat_le 97 c && nat_le c 102) refl refl h

abbrev chosen : Bool → ℕ → List ℕ → Byte
chosen p n rest = cond p (Some (n, rest)) None

abbrev IsPair : List ℕ → ℕ → List ℕ → Type 0
IsPair text b rest = (text ≡ hex_digit (b / 16) ∷ hex_digit (b % 16) ∷ rest) × (is_control b ≡ true)

pair_by : (high low m k b : ℕ) (r rest : List ℕ) (p : Bool) → hex_value high ≡ Some m → hex_value low ≡ Some k → is_control (16 * m + k) ≡ p → chosen p (16 * m + k) r ≡ Some (b, rest) → IsPair (high ∷ low ∷ r) b rest
pair_by high low m k b r rest true e f g h =
    let same : (16 * m + k, r) ≡ (b, rest) = cc in
    let number : 16 * m + k ≡ b = ap (λ (x : ℕ × List ℕ). x.0) same in
    let behind : r ≡ rest = ap (λ (x : ℕ × List ℕ). x.1) same in
    let first = hex_back high m e in
    let second = hex_back low k f in
    let first_is : m ≡ b / 16 = let small = second.1 in omega arith in
    let second_is : k ≡ b % 16 = let small = second.1 in omega arith in (
      ap (λ (x : ℕ). x ∷ low ∷ r) (sym first.0 ∙ ap hex_digit first_is) ∙ ap (λ (x : ℕ). hex_digit (b / 16) ∷ x ∷ r) (sym second.0 ∙ ap hex_digit second_is) ∙ ap (λ (xs : List ℕ). hex_digit (b / 16) ∷ hex_digit (b % 16) ∷ xs) behind,
      ap is_control (sym number) ∙ g,
    )
pair_by high low m k b r rest false e f g h = cc

low_by : (high low m b : ℕ) (r rest : List ℕ) (x : Option ℕ) → hex_value high ≡ Some m → hex_value low ≡ x → option_and_then (λ l. chosen (is_control (16 * m + l)) (16 * m + l) r) x ≡ Some (b, rest) → IsPair (high ∷ low ∷ r) b rest
low_by high low m b r rest None e f h = cc
low_by high low m b r rest (Some k) e f h = pair_by high low m k b r rest (is_control (16 * m + k)) e f refl h

high_by : (high low b : ℕ) (r rest : List ℕ) (x : Option ℕ) → hex_value high ≡ x → option_and_then (λ m. option_and_then (λ l. chosen (is_control (16 * m + l)) (16 * m + l) r) (hex_value low)) x ≡ Some (b, rest) → IsPair (high ∷ low ∷ r) b rest
high_by high low b r rest None e h = cc
high_by high low b r rest (Some m) e h = low_by high low m b r rest (hex_value low) e refl h

pair_back : (text : List ℕ) (b : ℕ) (rest : List ℕ) → hex_front text ≡ Some (b, rest) → IsPair text b rest
pair_back [] b rest h = cc
pair_back (high ∷ []) b rest h = cc
pair_back (high ∷ low ∷ r) b rest h = high_by high low b r rest (hex_value high) refl h

-- ---- one byte

escaped_control : (b : ℕ) → is_control b ≡ true → escaped_byte b ≡ 92 ∷ 120 ∷ hex_digit (b / 16) ∷ hex_digit (b % 16) ∷ []
escaped_control b h =
    let quote : b == 34 ≡ false = grind (arith, nat_tests) in
    let slash : b == 92 ≡ false = grind (arith, nat_tests) in
    rw (quote, slash, h) refl

escape_by : (c b : ℕ) (r rest : List ℕ) (quote slash x : Bool) → c == 34 ≡ quote → c == 92 ≡ slash → c == 120 ≡ x → cond {A = Byte} (quote || slash) (Some (c, r)) (cond x (hex_front r) None) ≡ Some (b, rest) → 92 ∷ c ∷ r ≡ escaped_byte b ++ rest
escape_by c b r rest true slash x e f g h =
    let same : (c, r) ≡ (b, rest) = cc in
    let is : c ≡ 34 = eqb-true c 34 e in
    let byte : b ≡ 34 = ap (λ (y : ℕ × List ℕ). y.0) (sym same) ∙ is in
    ap (λ (y : ℕ). 92 ∷ y ∷ r) is ∙ ap (λ (ys : List ℕ). 92 ∷ 34 ∷ ys) (ap (λ (y : ℕ × List ℕ). y.1) same) ∙ ap (λ (n : ℕ). escaped_byte n ++ rest) (sym byte)
escape_by c b r rest false true x e f g h =
    let same : (c, r) ≡ (b, rest) = cc in
    let is : c ≡ 92 = eqb-true c 92 f in
    let byte : b ≡ 92 = ap (λ (y : ℕ × List ℕ). y.0) (sym same) ∙ is in
    ap (λ (y : ℕ). 92 ∷ y ∷ r) is ∙ ap (λ (ys : List ℕ). 92 ∷ 92 ∷ ys) (ap (λ (y : ℕ × List ℕ). y.1) same) ∙ ap (λ (n : ℕ). escaped_byte n ++ rest) (sym byte)
escape_by c b r rest false false true e f g h =
    let pair = pair_back r b rest h in
    let is : c ≡ 120 = eqb-true c 120 g in
    ap (λ (y : ℕ). 92 ∷ y ∷ r) is ∙ ap (λ (ys : List ℕ). 92 ∷ 120 ∷ ys) pair.0 ∙ ap (λ (ys : List ℕ). ys ++ rest) (sym (escaped_control b pair.1))
escape_by c b r rest false false false e f g h = cc

escape_back : (text : List ℕ) (b : ℕ) (rest : List ℕ) → escape_front text ≡ Some (b, rest) → 92 ∷ text ≡ escaped_byte b ++ rest
escape_back [] b rest h = cc
escape_back (c ∷ r) b rest h = escape_by c b r rest (c == 34) (c == 92) (c == 120) refl refl refl h

byte_by : (c b : ℕ) (r rest : List ℕ) (slash control quote : Bool) → c == 92 ≡ slash → is_control c ≡ control → c == 34 ≡ quote → cond {A = Byte} slash (escape_front r) (cond {A = Byte} (control || quote) None (Some (c, r))) ≡ Some (b, rest) → c ∷ r ≡ escaped_byte b ++ rest
byte_by c b r rest true control quote e f g h = ap (λ (y : ℕ). y ∷ r) (eqb-true c 92 e) ∙ escape_back r b rest h
byte_by c b r rest false true quote e f g h = cc
byte_by c b r rest false false true e f g h = cc
byte_by c b r rest false false false e f g h =
    let same : (c, r) ≡ (b, rest) = cc in
    let plain : escaped_byte c ≡ c ∷ [] = rw (g, e, f) refl in
    ap (λ (ys : List ℕ). ys ++ r) (sym plain) ∙ ap (λ (y : ℕ × List ℕ). escaped_byte y.0 ++ y.1) same

byte_back : (text : List ℕ) (b : ℕ) (rest : List ℕ) → byte_front text ≡ Some (b, rest) → text ≡ escaped_byte b ++ rest
byte_back [] b rest h = cc
byte_back (c ∷ r) b rest h = byte_by c b r rest (c == 92) (is_control c) (c == 34) refl refl refl h

-- ---- all bytes

abbrev AreWritten : ℕ → List ℕ → List ℕ → List ℕ → Type 0
AreWritten room text t rest = (text ≡ escaped t ++ 34 ∷ rest) × (length t ≤ room)

abbrev quoted : Bool → List ℕ → Option (List ℕ × List ℕ)
quoted quote rest = cond quote (Some ([], rest)) None

closing_by : (room c : ℕ) (r t rest : List ℕ) (quote : Bool) → c == 34 ≡ quote → quoted quote r ≡ Some (t, rest) → AreWritten room (c ∷ r) t rest
closing_by room c r t rest true e h =
    let found : Option (List ℕ × List ℕ) = Some ([], r) in
    let again : found ≡ Some (t, rest) = h in
    let pair : List ℕ × List ℕ = ([], r) in
    let same : pair ≡ (t, rest) = cc in
    let none : [] ≡ t = ap (λ (y : List ℕ × List ℕ). y.0) same in
    (ap (λ (y : ℕ). y ∷ r) (eqb-true c 34 e) ∙ ap (λ (y : List ℕ × List ℕ). escaped y.0 ++ 34 ∷ y.1) same, subst (λ (ys : List ℕ). length ys ≤ room) none (omega arith))
closing_by room c r t rest false e h = cc

closing_back : (room : ℕ) (text t rest : List ℕ) → closing_front text ≡ Some (t, rest) → AreWritten room text t rest
closing_back room [] t rest h = cc
closing_back room (c ∷ r) t rest h = closing_by room c r t rest (c == 34) refl h

next_by : (room b : ℕ) (text r t rest : List ℕ) (x : Option (List ℕ × List ℕ)) → text ≡ escaped_byte b ++ r → ((u w : List ℕ) → x ≡ Some (u, w) → AreWritten room r u w) → with_bytes (b ∷ []) x ≡ Some (t, rest) → AreWritten (suc room) text t rest
next_by room b text r t rest None e f h = cc
next_by room b text r t rest (Some x) e f h =
    let more = f x.0 x.1 refl in
    let pair : List ℕ × List ℕ = (b ∷ x.0, x.1) in
    let same : pair ≡ (t, rest) = cc in
    let longer : length (b ∷ x.0) ≤ suc room = let less = more.1 in omega arith in (
      e ∙ ap (λ (ys : List ℕ). escaped_byte b ++ ys) more.0 ∙ sym (append_assoc (escaped_byte b) (escaped x.0) (34 ∷ x.1)) ∙ ap (λ (y : List ℕ × List ℕ). escaped y.0 ++ 34 ∷ y.1) same,
      subst (λ (y : List ℕ × List ℕ). length y.0 ≤ suc room) same longer,
    )

more_back : (room : ℕ) (text t rest : List ℕ) (quote : Bool) (x : Byte) → ((r u w : List ℕ) → bytes_front room r ≡ Some (u, w) → AreWritten room r u w) → byte_front text ≡ x → cond quote (closing_front text) (option_and_then (λ y. with_bytes (y.0 ∷ []) (bytes_front room y.1)) x) ≡ Some (t, rest) → AreWritten (suc room) text t rest
more_back room text t rest true x f e h = closing_back (suc room) text t rest h
more_back room text t rest false None f e h = cc
more_back room text t rest false (Some x) f e h = next_by room x.0 text x.1 t rest (bytes_front room x.1) (byte_back text x.0 x.1 e) (λ u w g. f x.1 u w g) h

bytes_back : (room : ℕ) (text t rest : List ℕ) → bytes_front room text ≡ Some (t, rest) → AreWritten room text t rest
unfolding bytes_front
bytes_back zero text t rest h = closing_back zero text t rest h
bytes_back (suc room) text t rest h = more_back room text t rest (starts_with_quote text) (byte_front text) (λ r u w g. bytes_back room r u w g) refl h

abbrev tested : Bool → List ℕ → List ℕ → Front
tested b bs rest = cond b (Some (terminals.Text bs, rest)) None

literal_by : (bs r t rest : List ℕ) (b : Bool) → is_utf8 bs ≡ b → tested b bs r ≡ Some (terminals.Text t, rest) → (bs ≡ t) × (r ≡ rest) × IsUtf8 bs
literal_by bs r t rest true e h =
    let found : Terminal × List ℕ = (terminals.Text bs, r) in
    let same : found ≡ (terminals.Text t, rest) = cc in
    let text : terminals.Text bs ≡ terminals.Text t = ap (λ (x : Terminal × List ℕ). x.0) same in
    (cc, ap (λ (x : Terminal × List ℕ). x.1) same, IsUtf8-from_is_utf8 bs e)
literal_by bs r t rest false e h = cc

text_by : (text t rest : List ℕ) (x : Option (List ℕ × List ℕ)) → bytes_front 64 text ≡ x → option_and_then (λ y. literal y.0 y.1) x ≡ Some (terminals.Text t, rest) → (text ≡ escaped t ++ 34 ∷ rest) × (length t ≤ 64) × IsUtf8 t
text_by text t rest None e h = cc
text_by text t rest (Some x) e h =
    let written = bytes_back 64 text x.0 x.1 e in
    let same = literal_by x.0 x.1 t rest (is_utf8 x.0) refl h in (
      written.0 ∙ ap (λ (ys : List ℕ). escaped ys ++ 34 ∷ x.1) same.0 ∙ ap (λ (ys : List ℕ). escaped t ++ 34 ∷ ys) same.1,
      subst (λ (ys : List ℕ). length ys ≤ 64) same.0 written.1,
      subst IsUtf8 same.0 same.2,
    )

-- what is read behind a quote is a text with its escapes and the closing quote
pub text_back : (text t rest : List ℕ) → front (34 ∷ text) ≡ Some (terminals.Text t, rest) → (text ≡ escaped t ++ 34 ∷ rest) × (length t ≤ 64) × IsUtf8 t
unfolding front
text_back text t rest h = text_by text t rest (bytes_front 64 text) refl h
