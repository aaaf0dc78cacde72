-- The fields of a printed event, and that they read as the event.
use Rattle.std.proofs.Common.{◌≡◌, ℕ, suc, ◌+◌, ◌<◌, ◌≤◌, ◌^◌, Bool, true, false, ◌&&◌, Option, Some, List, [], ◌∷◌, ◌++◌, length, take, drop, refl, ap, ◌∙◌, sym, arith, append_assoc, codes}
use Rattle.std.specs.Prelude.{nat_le}
use Rattle.std.specs.Char.{is_ascii_digit}
use Rattle.std.specs.Cmp.{first_so, second_so}
use Rattle.std.specs.Fmt.{decimal}
use Rattle.std.specs.List.{All, AllByRecursion, flat_map, list_all, before_first, after_first, position_or_len}
use Rattle.std.specs.Str.Parse.{digits_value}
use Rattle.std.proofs.lemmas.Bool.{and_from, le-leb, lt-ltb}
use Rattle.std.proofs.lemmas.List.{append-nil}
use Rattle.std.proofs.lemmas.List.Folds.{list_all-append}
use Rattle.std.proofs.lemmas.Bool.Decides.{nat_tests}
use Rattle.std.proofs.lemmas.Fmt.{decimal_nonempty, length-decimal-le, digits_decimal, digits_value-decimal}
use Rattle.std.proofs.Math.Seq.{take-append_seam, drop-append-add}
use Rattle.blz_value.specs.Name.{is_name, is_name_byte, starts_name}
use Rattle.sched_text.specs.declared.event.Sent.{Sent}
use Rattle.sched_text.specs.declared.event.Part.{Part}
use Rattle.sched_text.specs.declared.event.Event.{Event}
use Rattle.sched_text.specs.declared.event.Event.TheVariants.{Deliver, Order, Take, Batch}
use Rattle.sched_text.specs.Lines.{has_bytes}
use Rattle.sched_text.specs.Fields.{Field, name_of, number_of, is_number, spot_of, is_dot, only_if, ◌>>=◌}
use Rattle.sched_text.specs.Kinds.{Front, part_limit, part_at, parts_of, groups_of, event_of, deliver_of, order_of, take_of, batch_of}
use Rattle.sched_text.specs.Text.{part_text, event_text, is_printable, has_names_part, has_names_sent}
use Rattle.sched_text.specs.Small.{IsSmall, IsSmallPart, IsSmallSent}
use Rattle.sched_text.proofs.BytesLemmas.{digits_model, number_is, name_bytes}
use Rattle.sched_text.proofs.PlainFields.{IsPlainField, ArePlain, is_plain, spaced}

pub recursion_from_All : {X : Type 0} (P : X → Type 0) (xs : List X) → All P xs → AllByRecursion P xs
recursion_from_All P [] h = tt
recursion_from_All P (x ∷ xs) h = (h 0 x (omega arith), recursion_from_All P xs (λ k d lt. h (suc k) d (omega arith)))

-- ---- names

plain_name_byte : (byte : ℕ) → is_name_byte byte ≡ true → is_plain byte ≡ true
plain_name_byte byte e = grind (arith, nat_tests)

all_so : (p q : ℕ → Bool) → ((b : ℕ) → p b ≡ true → q b ≡ true) → (bs : List ℕ) → list_all p bs ≡ true → list_all q bs ≡ true
all_so p q h [] e = refl
all_so p q h (b ∷ bs) e = and_from (q b) (list_all q bs) (h b (first_so (p b) (list_all p bs) e)) (all_so p q h bs (second_so (p b) (list_all p bs) e))

some_name : (name : List ℕ) → starts_name name ≡ true → has_bytes name ≡ true
some_name [] e = e
some_name (byte ∷ name) e = refl

name_plain : (name : List ℕ) → is_name name ≡ true → IsPlainField name
name_plain name e = record {
  plain = all_so is_name_byte is_plain plain_name_byte name (name_bytes name e);
  some = some_name name (first_so (starts_name name) (nat_le (length name) 64 && list_all is_name_byte name) e);
}

name_read : (name : List ℕ) → is_name name ≡ true → name_of name ≡ Some name
name_read name e = ap (λ (b : Bool). only_if b name) e

-- ---- numbers

plain_digit : (byte : ℕ) → is_ascii_digit byte ≡ true → is_plain byte ≡ true
plain_digit byte e = grind (arith, nat_tests)

some_bytes : (bytes : List ℕ) → 0 < length bytes → has_bytes bytes ≡ true
some_bytes [] h = absurd (omega arith)
some_bytes (byte ∷ bytes) h = refl

module _ (n : ℕ) (small : n < 2 ^ 32) where
  within_word : n < 2 ^ 64
  within_word = omega arith

  digits : list_all is_ascii_digit (decimal n) ≡ true
  digits = digits_decimal digits_model n within_word

  number_plain : IsPlainField (decimal n)
  number_plain = record {
    plain = all_so is_ascii_digit is_plain plain_digit (decimal n) digits;
    some = some_bytes (decimal n) (decimal_nonempty n within_word);
  }

  is_number-decimal : is_number (decimal n) ≡ true
  is_number-decimal =
      let low : 1 ≤ length (decimal n) = omega (arith, decimal_nonempty n within_word) in
      let high : length (decimal n) ≤ 10 = length-decimal-le 10 n (omega arith) (omega arith) within_word in
      rw (le-leb 1 (length (decimal n)) low, le-leb (length (decimal n)) 10 high) digits

  number_read : number_of (decimal n) ≡ Some n
  number_read =
      let value : digits_value 10 (decimal n) ≡ n = digits_value-decimal digits_model n within_word in
      number_is (decimal n) is_number-decimal true (rw value (lt-ltb n (2 ^ 32) small)) ∙ ap Some value

-- ---- spots

no_dot : (byte : ℕ) → is_name_byte byte ≡ true → is_dot byte ≡ false
no_dot byte e = grind (arith, nat_tests)

dot_place : (name rest : List ℕ) → list_all is_name_byte name ≡ true → position_or_len is_dot (name ++ 46 ∷ rest) ≡ length name
dot_place [] rest e = refl
dot_place (byte ∷ name) rest e =
    let other : is_dot byte ≡ false = no_dot byte (first_so (is_name_byte byte) (list_all is_name_byte name) e) in
    let more : position_or_len is_dot (name ++ 46 ∷ rest) ≡ length name = dot_place name rest (second_so (is_name_byte byte) (list_all is_name_byte name) e) in
    rw (other, more) (omega arith)

module _ (component port : List ℕ) (names : (is_name component && is_name port) ≡ true) where
  first_name : is_name component ≡ true
  first_name = first_so (is_name component) (is_name port) names

  second_name : is_name port ≡ true
  second_name = second_so (is_name component) (is_name port) names

  before_is : before_first is_dot (component ++ 46 ∷ port) ≡ component
  before_is = ap (λ (n : ℕ). take n (component ++ 46 ∷ port)) (dot_place component port (name_bytes component first_name)) ∙ take-append_seam component (46 ∷ port)

  after_is : after_first is_dot (component ++ 46 ∷ port) ≡ port
  after_is = ap (λ (n : ℕ). drop (n + 1) (component ++ 46 ∷ port)) (dot_place component port (name_bytes component first_name)) ∙ drop-append-add component (46 ∷ port) 1

  spot_read : spot_of (component ++ 46 ∷ port) ≡ Some (record { component = component; port = port })
  spot_read = rw (before_is, after_is, name_read component first_name, name_read port second_name) refl

plain_dot : (field rest : List ℕ) → list_all is_plain field ≡ true → list_all is_plain rest ≡ true → list_all is_plain (field ++ 46 ∷ rest) ≡ true
plain_dot field rest h g = list_all-append is_plain field (46 ∷ rest) ∙ rw (h, g) refl

some_append : (field rest : List ℕ) → has_bytes field ≡ true → has_bytes (field ++ rest) ≡ true
some_append [] rest e = cc
some_append (byte ∷ field) rest e = refl

spot_plain : (component port : List ℕ) → (is_name component && is_name port) ≡ true → IsPlainField (component ++ 46 ∷ port)
spot_plain component port names =
    let first = name_plain component (first_so (is_name component) (is_name port) names) in
    let second = name_plain port (second_so (is_name component) (is_name port) names) in
    record { plain = plain_dot component port first.plain second.plain; some = some_append component (46 ∷ port) first.some }

-- ---- the fields of an event

abbrev pub part_fields : Part → List Field
part_fields part = part.sent.stream ∷ decimal part.sent.replica ∷ decimal part.sent.index ∷ part.port ∷ []

abbrev pub first_field : Event → Field
first_field (Deliver sent component port replica) = codes "deliver"
first_field (Order sent component port) = codes "order"
first_field (Take component replica) = codes "take"
first_field (Batch component replica parts) = codes "batch"

abbrev pub other_fields : Event → List Field
other_fields (Deliver sent component port replica) = sent.stream ∷ decimal sent.replica ∷ decimal sent.index ∷ codes "to" ∷ (component ++ 46 ∷ port) ∷ decimal replica ∷ []
other_fields (Order sent component port) = sent.stream ∷ decimal sent.replica ∷ decimal sent.index ∷ codes "to" ∷ (component ++ 46 ∷ port) ∷ []
other_fields (Take component replica) = component ∷ decimal replica ∷ []
other_fields (Batch component replica parts) = component ∷ decimal replica ∷ flat_map part_fields parts

-- ---- they make the text

spaced-append : (xs ys : List Field) → spaced (xs ++ ys) ≡ spaced xs ++ spaced ys
spaced-append [] ys = refl
spaced-append (x ∷ xs) ys = ap (λ (bytes : List ℕ). (32 ∷ x) ++ bytes) (spaced-append xs ys) ∙ sym (append_assoc (32 ∷ x) (spaced xs) (spaced ys))

part_spaced : (part : Part) → part_text part ≡ spaced (part_fields part)
part_spaced part = simp (append_assoc, append-nil)

parts_spaced : (parts : List Part) → flat_map part_text parts ≡ spaced (flat_map part_fields parts)
parts_spaced [] = refl
parts_spaced (part ∷ parts) = ap (λ (bytes : List ℕ). bytes ++ flat_map part_text parts) (part_spaced part) ∙ ap (λ (bytes : List ℕ). spaced (part_fields part) ++ bytes) (parts_spaced parts) ∙ sym (spaced-append (part_fields part) (flat_map part_fields parts))

batch_spaced : (word component number rest : List ℕ) → word ++ component ++ codes " " ++ number ++ rest ≡ word ++ (component ++ 32 ∷ (number ++ rest))
batch_spaced word component number rest = simp append_assoc

pub event_spaced : (event : Event) → event_text event ≡ first_field event ++ spaced (other_fields event)
event_spaced (Deliver sent component port replica) = simp (append_assoc, append-nil)
event_spaced (Order sent component port) = simp (append_assoc, append-nil)
event_spaced (Take component replica) = simp (append_assoc, append-nil)
event_spaced (Batch component replica parts) = ap (λ (bytes : List ℕ). codes "batch " ++ component ++ codes " " ++ decimal replica ++ bytes) (parts_spaced parts) ∙ batch_spaced (codes "batch ") component (decimal replica) (spaced (flat_map part_fields parts))

-- ---- they are plain

abbrev sent_plain : Sent → Type 0
sent_plain sent = IsPlainField sent.stream × IsPlainField (decimal sent.replica) × IsPlainField (decimal sent.index)

plain_sent : (sent : Sent) → has_names_sent sent ≡ true → IsSmallSent sent → sent_plain sent
plain_sent sent names small = (name_plain sent.stream names, number_plain sent.replica small.0, number_plain sent.index small.1)

plain_append : (xs ys : List Field) → ArePlain xs → ArePlain ys → ArePlain (xs ++ ys)
plain_append [] ys h g = g
plain_append (x ∷ xs) ys h g = (h.0, plain_append xs ys h.1 g)

parts_plain : (parts : List Part) → list_all has_names_part parts ≡ true → AllByRecursion IsSmallPart parts → ArePlain (flat_map part_fields parts)
parts_plain [] names small = tt
parts_plain (part ∷ parts) names small =
    let own = first_so (has_names_part part) (list_all has_names_part parts) names in
    let sent = plain_sent part.sent (first_so (has_names_sent part.sent) (is_name part.port) own) small.0 in
    let port = name_plain part.port (second_so (has_names_sent part.sent) (is_name part.port) own) in
    plain_append (part_fields part) (flat_map part_fields parts) (sent.0, (sent.1, (sent.2, (port, tt)))) (parts_plain parts (second_so (has_names_part part) (list_all has_names_part parts) names) small.1)

word_plain : (word : List ℕ) → list_all is_plain word ≡ true → has_bytes word ≡ true → IsPlainField word
word_plain word h g = record { plain = h; some = g }

pub first_plain : (event : Event) → IsPlainField (first_field event)
first_plain (Deliver sent component port replica) = word_plain (codes "deliver") refl refl
first_plain (Order sent component port) = word_plain (codes "order") refl refl
first_plain (Take component replica) = word_plain (codes "take") refl refl
first_plain (Batch component replica parts) = word_plain (codes "batch") refl refl

pub others_plain : (event : Event) → is_printable event ≡ true → IsSmall event → ArePlain (other_fields event)
others_plain (Deliver sent component port replica) names small =
    let s = plain_sent sent (first_so (has_names_sent sent) (is_name component && is_name port) names) small.0 in
    let spot = spot_plain component port (second_so (has_names_sent sent) (is_name component && is_name port) names) in
    (s.0, (s.1, (s.2, (word_plain (codes "to") refl refl, (spot, (number_plain replica small.1, tt))))))
others_plain (Order sent component port) names small =
    let s = plain_sent sent (first_so (has_names_sent sent) (is_name component && is_name port) names) small in
    let spot = spot_plain component port (second_so (has_names_sent sent) (is_name component && is_name port) names) in
    (s.0, (s.1, (s.2, (word_plain (codes "to") refl refl, (spot, tt)))))
others_plain (Take component replica) names small = (name_plain component names, (number_plain replica small, tt))
others_plain (Batch component replica parts) names small =
    let first = first_so (is_name component) (list_all has_names_part parts && (nat_le 1 (length parts) && nat_le (length parts) part_limit)) names in
    let rest = second_so (is_name component) (list_all has_names_part parts && (nat_le 1 (length parts) && nat_le (length parts) part_limit)) names in
    (name_plain component first, (number_plain replica small.0, parts_plain parts (first_so (list_all has_names_part parts) (nat_le 1 (length parts) && nat_le (length parts) part_limit) rest) (recursion_from_All IsSmallPart parts small.1)))

-- ---- they read as the event

sent_so : (sent : Sent) (names : has_names_sent sent ≡ true) (small : IsSmallSent sent) → (name_of sent.stream ≡ Some sent.stream) × (number_of (decimal sent.replica) ≡ Some sent.replica) × (number_of (decimal sent.index) ≡ Some sent.index)
sent_so sent names small = (name_read sent.stream names, number_read sent.replica small.0, number_read sent.index small.1)

deliver_read : (sent : Sent) (component port : List ℕ) (replica : ℕ) → is_printable (Deliver sent component port replica) ≡ true → IsSmall (Deliver sent component port replica) → deliver_of (other_fields (Deliver sent component port replica)) ≡ Some (Deliver sent component port replica)
deliver_read sent component port replica names small =
    let s = sent_so sent (first_so (has_names_sent sent) (is_name component && is_name port) names) small.0 in
    let spot = spot_read component port (second_so (has_names_sent sent) (is_name component && is_name port) names) in
    rw (s.0, s.1, s.2, spot, number_read replica small.1) refl

order_read : (sent : Sent) (component port : List ℕ) → is_printable (Order sent component port) ≡ true → IsSmall (Order sent component port) → order_of (other_fields (Order sent component port)) ≡ Some (Order sent component port)
order_read sent component port names small =
    let s = sent_so sent (first_so (has_names_sent sent) (is_name component && is_name port) names) small in
    let spot = spot_read component port (second_so (has_names_sent sent) (is_name component && is_name port) names) in
    rw (s.0, s.1, s.2, spot) refl

take_read : (component : List ℕ) (replica : ℕ) → is_name component ≡ true → replica < 2 ^ 32 → take_of (component ∷ decimal replica ∷ []) ≡ Some (Take component replica)
take_read component replica name small = rw (name_read component name, number_read replica small) refl

part_read : (part : Part) → has_names_part part ≡ true → IsSmallPart part → part_at (part_fields part) ≡ Some (part, [])
part_read part names small =
    let s = sent_so part.sent (first_so (has_names_sent part.sent) (is_name part.port) names) small in
    rw (s.0, s.1, s.2, name_read part.port (second_so (has_names_sent part.sent) (is_name part.port) names)) refl

parts_read : (parts : List Part) → list_all has_names_part parts ≡ true → AllByRecursion IsSmallPart parts → parts_of (flat_map part_fields parts) ≡ Some parts
parts_read [] names small = refl
parts_read (part ∷ parts) names small =
    let own = part_read part (first_so (has_names_part part) (list_all has_names_part parts) names) small.0 in
    let more = parts_read parts (second_so (has_names_part part) (list_all has_names_part parts) names) small.1 in
    ap (λ (front : Front Part). front >>= λ p. parts_of (flat_map part_fields parts) >>= λ ps. Some (p.0 ∷ ps)) own ∙ ap (λ (ps : Option (List Part)). ps >>= λ ps. Some (part ∷ ps)) more

groups_read : (parts : List Part) → list_all has_names_part parts ≡ true → AllByRecursion IsSmallPart parts → (nat_le 1 (length parts) && nat_le (length parts) part_limit) ≡ true → groups_of (flat_map part_fields parts) ≡ Some parts
groups_read parts names small count = ap (λ (ps : Option (List Part)). ps >>= λ ps. only_if (nat_le 1 (length ps) && nat_le (length ps) part_limit) ps) (parts_read parts names small) ∙ ap (λ (b : Bool). only_if b parts) count

batch_read : (component : List ℕ) (replica : ℕ) (parts : List Part) → is_name component ≡ true → replica < 2 ^ 32 → groups_of (flat_map part_fields parts) ≡ Some parts → batch_of (component ∷ decimal replica ∷ flat_map part_fields parts) ≡ Some (Batch component replica parts)
batch_read component replica parts name small groups = rw (name_read component name, number_read replica small, groups) refl

pub event_read : (event : Event) → is_printable event ≡ true → IsSmall event → event_of (first_field event) (other_fields event) ≡ Some event
event_read (Deliver sent component port replica) names small = deliver_read sent component port replica names small
event_read (Order sent component port) names small = order_read sent component port names small
event_read (Take component replica) names small = take_read component replica names small
event_read (Batch component replica parts) names small =
    let name = first_so (is_name component) (list_all has_names_part parts && (nat_le 1 (length parts) && nat_le (length parts) part_limit)) names in
    let rest = second_so (is_name component) (list_all has_names_part parts && (nat_le 1 (length parts) && nat_le (length parts) part_limit)) names in
    batch_read component replica parts name small.0 (groups_read parts (first_so (list_all has_names_part parts) (nat_le 1 (length parts) && nat_le (length parts) part_limit) rest) (recursion_from_All IsSmallPart parts small.1) (second_so (list_all has_names_part parts) (nat_le 1 (length parts) && nat_le (length parts) part_limit) rest))
