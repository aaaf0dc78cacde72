-- A JSON text is longer than one byte less than its value weighs: each value takes a token, and each token but one a byte.
use Rattle.std.proofs.Common.{◌≡◌, ℕ, zero, suc, ◌+◌, ◌≤◌, Bool, true, false, List, [], ◌∷◌, length, Option, Some, None, option_map, option_and_then, Ordering, Less, Equal, Greater, nat_cmp, refl, subst, arith}
use Rattle.std.specs.Prelude.{⊤}
use Rattle.std.specs.Cmp.Lexicographic.{slice_cmp}
use Rattle.std.specs.Ordering.{match_ordering}
use Rattle.std.specs.Str.{is_utf8}
use Rattle.json.specs.Token.{Token}
use Rattle.json.specs.Json as json
use Rattle.json.specs.Json.{Parse, parse_map, after_end_array, read_key, items_step, members_step, items, members, value_with, value}
use Rattle.json.specs.Lex.{Lexeme, Class, Mode, Place, class, lex_byte, lex, begins_colon, may_begin, may_close, if_allowed, place_token, punctuate, tokens}
use Rattle.json.specs.Lex as lex
use Rattle.serde_json.specs.Data.{Data, number, array, object, item, Members, no_members, member, put}
use Rattle.serde_json.specs.Read.{number_of, of_json, of_items, of_members, max_depth, read}
use Rattle.data_read.specs.Code.Weight.{weight, items_weight, members_weight}
use Rattle.data_read.specs.Reading.{text_of, value_of}

-- ---- from bytes to tokens

lex_step : (m : Mode) (c : Class) (x : ℕ) (xs : List ℕ) (k : Mode → List Lexeme) (n : ℕ) → ((next : Mode) → length (k next) ≤ n) → length (lex_byte m c x xs k) ≤ suc n
lex_step lex.between lex.quote x xs k n h = omega (arith, h lex.in_string)
lex_step lex.between lex.backslash x xs k n h = omega (arith, h lex.in_word)
lex_step lex.between lex.operator x xs k n h = omega (arith, h lex.between)
lex_step lex.between lex.space x xs k n h = omega (arith, h lex.between)
lex_step lex.between lex.other x xs k n h = omega (arith, h lex.in_word)
lex_step lex.in_word lex.quote x xs k n h = omega (arith, h lex.in_word)
lex_step lex.in_word lex.backslash x xs k n h = omega (arith, h lex.in_word)
lex_step lex.in_word lex.operator x xs k n h = omega (arith, h lex.between)
lex_step lex.in_word lex.space x xs k n h = omega (arith, h lex.between)
lex_step lex.in_word lex.other x xs k n h = omega (arith, h lex.in_word)
lex_step lex.in_string lex.quote x xs k n h = omega (arith, h lex.between)
lex_step lex.in_string lex.backslash x xs k n h = omega (arith, h lex.in_escape)
lex_step lex.in_string lex.operator x xs k n h = omega (arith, h lex.in_string)
lex_step lex.in_string lex.space x xs k n h = omega (arith, h lex.in_string)
lex_step lex.in_string lex.other x xs k n h = omega (arith, h lex.in_string)
lex_step lex.in_escape c x xs k n h = omega (arith, h lex.in_string)

lex_within : (m : Mode) (xs : List ℕ) → length (lex.lex m xs) ≤ length xs
unfolding lex.lex
lex_within m [] = omega arith
lex_within m (x ∷ xs) = lex_step m (class x) x xs (λ next. lex.lex next xs) (length xs) (λ next. lex_within next xs)

allowed_step : (b : Bool) (t : Token) (k : Place → List Token) (next : Place) (n : ℕ) → length (k next) ≤ n + 1 → length (if_allowed b t k next) ≤ suc n + 1
allowed_step true t k next n h = omega arith
allowed_step false t k next n h = omega arith

place_step : (p : Place) (t : Token) (b : Bool) (k : Place → List Token) (n : ℕ) → ((next : Place) → length (k next) ≤ n + 1) → length (place_token p t b k) ≤ suc n + 1
place_step p Token.begin_object b k n h = allowed_step (may_begin p) Token.begin_object k lex.fresh n (h lex.fresh)
place_step p Token.end_object b k n h = allowed_step (may_close p) Token.end_object k lex.after_value n (h lex.after_value)
place_step p Token.begin_array b k n h = allowed_step (may_begin p) Token.begin_array k lex.fresh n (h lex.fresh)
place_step p Token.end_array b k n h = allowed_step (may_close p) Token.end_array k lex.after_value n (h lex.after_value)
place_step p (Token.key s) b k n h = omega arith
place_step p (Token.string s) true k n h = allowed_step (may_begin p) (Token.key s) k lex.after_key n (h lex.after_key)
place_step p (Token.string s) false k n h = allowed_step (may_begin p) (Token.string s) k lex.after_value n (h lex.after_value)
place_step p (Token.number s) b k n h = allowed_step (may_begin p) (Token.number s) k lex.after_value n (h lex.after_value)
place_step p (Token.boolean v) b k n h = allowed_step (may_begin p) (Token.boolean v) k lex.after_value n (h lex.after_value)
place_step p Token.null b k n h = allowed_step (may_begin p) Token.null k lex.after_value n (h lex.after_value)
place_step p Token.bad b k n h = omega arith

-- one token for each lexeme, and one at the end
places_within : (p : Place) (ls : List Lexeme) → length (punctuate p ls) ≤ length ls + 1
unfolding punctuate
places_within lex.fresh [] = omega arith
places_within lex.after_value [] = omega arith
places_within lex.after_comma [] = omega arith
places_within lex.after_key [] = omega arith
places_within lex.fresh (lex.token t ∷ ls) = place_step lex.fresh t (begins_colon ls) (λ next. punctuate next ls) (length ls) (λ next. places_within next ls)
places_within lex.after_value (lex.token t ∷ ls) = place_step lex.after_value t (begins_colon ls) (λ next. punctuate next ls) (length ls) (λ next. places_within next ls)
places_within lex.after_comma (lex.token t ∷ ls) = place_step lex.after_comma t (begins_colon ls) (λ next. punctuate next ls) (length ls) (λ next. places_within next ls)
places_within lex.after_key (lex.token t ∷ ls) = place_step lex.after_key t (begins_colon ls) (λ next. punctuate next ls) (length ls) (λ next. places_within next ls)
places_within lex.fresh (lex.comma ∷ ls) = omega arith
places_within lex.after_value (lex.comma ∷ ls) = omega (arith, places_within lex.after_comma ls)
places_within lex.after_comma (lex.comma ∷ ls) = omega arith
places_within lex.after_key (lex.comma ∷ ls) = omega arith
places_within lex.fresh (lex.colon ∷ ls) = omega arith
places_within lex.after_value (lex.colon ∷ ls) = omega arith
places_within lex.after_comma (lex.colon ∷ ls) = omega arith
places_within lex.after_key (lex.colon ∷ ls) = omega (arith, places_within lex.fresh ls)

tokens_within : (text : List ℕ) → length (tokens text) ≤ length text + 1
tokens_within text = omega (arith, lex_within lex.between text, places_within lex.fresh (lex.lex lex.between text))

-- ---- from tokens to a value

abbrev mutual
  size : json.Json → ℕ
  size json.null = 1
  size (json.boolean b) = 1
  size (json.number s) = 1
  size (json.string s) = 1
  size (json.array js) = 1 + items_size js
  size (json.object ms) = 1 + members_size ms

  items_size : json.Items → ℕ
  items_size json.no_items = 0
  items_size (json.item j js) = size j + items_size js

  members_size : json.Members → ℕ
  members_size json.no_members = 0
  members_size (json.member k j ms) = size j + members_size ms

-- what was read and what is left are no more than there was
abbrev Fits : {A : Type 0} → (A → ℕ) → ℕ → Option (A × List Token) → Type 0
Fits f n None = ⊤
Fits f n (Some p) = f p.0 + length p.1 ≤ n

abbrev AllFit : {A : Type 0} → (A → ℕ) → Parse A → Type 0
AllFit f p = (ts : List Token) → Fits f (length ts) (p ts)

abbrev Shorter : ℕ → Option (List Token) → Type 0
Shorter n None = ⊤
Shorter n (Some ts) = length ts ≤ n

closed : (ts : List Token) → Shorter (length ts) (after_end_array ts)
closed [] = tt
closed (Token.begin_object ∷ ts) = tt
closed (Token.end_object ∷ ts) = tt
closed (Token.begin_array ∷ ts) = tt
closed (Token.end_array ∷ ts) = omega arith
closed (Token.key s ∷ ts) = tt
closed (Token.string s ∷ ts) = tt
closed (Token.number s ∷ ts) = tt
closed (Token.boolean b ∷ ts) = tt
closed (Token.null ∷ ts) = tt
closed (Token.bad ∷ ts) = tt

keyed : (ts : List Token) → Fits (λ _. 0) (length ts) (read_key ts)
keyed [] = tt
keyed (Token.begin_object ∷ ts) = tt
keyed (Token.end_object ∷ ts) = omega arith
keyed (Token.begin_array ∷ ts) = tt
keyed (Token.end_array ∷ ts) = tt
keyed (Token.key s ∷ ts) = omega arith
keyed (Token.string s ∷ ts) = tt
keyed (Token.number s ∷ ts) = tt
keyed (Token.boolean b ∷ ts) = tt
keyed (Token.null ∷ ts) = tt
keyed (Token.bad ∷ ts) = tt

mapped : {A B : Type 0} (f : A → ℕ) (g : B → ℕ) (m n : ℕ) (h : A → B) → ((a : A) (r : ℕ) → f a + r ≤ m → g (h a) + r ≤ n) → (o : Option (A × List Token)) → Fits f m o → Fits g n (parse_map h o)
mapped f g m n h k None x = tt
mapped f g m n h k (Some p) x = k p.0 (length p.1) x

and_more : {B : Type 0} (g : B → ℕ) (n : ℕ) (h : json.Json → B → B) → ((j : json.Json) (b : B) → g (h j b) ≡ size j + g b) → (more : Parse B) → AllFit g more
    → (o : Option (json.Json × List Token)) → Fits size n o → Fits g n (option_and_then (λ q. parse_map (h q.0) (more q.1)) o)
and_more g n h is more fit None x = tt
and_more g n h is more fit (Some q) x = mapped g g (length q.1) n (h q.0) (λ b r y. omega (arith, is q.0 b)) (more q.1) (fit q.1)

module _ (p : Parse json.Json) (fit : AllFit size p) where
  item_turn : (more : Parse json.Items) → AllFit items_size more → (ts : List Token) (o : Option (List Token)) → Shorter (length ts) o → Fits items_size (length ts) (items_step p more ts o)
  item_turn more again ts (Some r) s = omega arith
  item_turn more again ts None s = and_more items_size (length ts) json.item (λ j b. refl) more again (p ts) (fit ts)

  items_fit : (n : ℕ) → AllFit items_size (items p n)
  unfolding items
  items_fit zero ts = tt
  items_fit (suc n) ts = item_turn (items p n) (items_fit n) ts (after_end_array ts) (closed ts)

  member_turn : (more : Parse json.Members) → AllFit members_size more → (n : ℕ) (o : Option (Option (List ℕ) × List Token)) → Fits (λ _. 0) n o
      → Fits members_size n (option_and_then (λ q. members_step p more q.0 q.1) o)
  member_turn more again n None s = tt
  member_turn more again n (Some (None, ts)) s = omega arith
  member_turn more again n (Some (Some k, ts)) s =
      weaker members_size (length ts) n (omega arith) _ (and_more members_size (length ts) (json.member k) (λ j b. refl) more again (p ts) (fit ts))
    where
      weaker : {A : Type 0} (f : A → ℕ) (m n : ℕ) → m ≤ n → (o : Option (A × List Token)) → Fits f m o → Fits f n o
      weaker f m n le None x = tt
      weaker f m n le (Some q) x = omega arith

  members_fit : (n : ℕ) → AllFit members_size (members p n)
  unfolding members
  members_fit zero ts = tt
  members_fit (suc n) ts = member_turn (members p n) (members_fit n) (length ts) (read_key ts) (keyed ts)

one_level : (a : Parse json.Items) (o : Parse json.Members) → AllFit items_size a → AllFit members_size o → AllFit size (value_with a o)
one_level a o p q [] = tt
one_level a o p q (Token.begin_object ∷ ts) = mapped members_size size (length ts) (suc (length ts)) json.object (λ ms r x. omega arith) (o ts) (q ts)
one_level a o p q (Token.end_object ∷ ts) = tt
one_level a o p q (Token.begin_array ∷ ts) = mapped items_size size (length ts) (suc (length ts)) json.array (λ js r x. omega arith) (a ts) (p ts)
one_level a o p q (Token.end_array ∷ ts) = tt
one_level a o p q (Token.key s ∷ ts) = tt
one_level a o p q (Token.string s ∷ ts) = omega arith
one_level a o p q (Token.number s ∷ ts) = omega arith
one_level a o p q (Token.boolean b ∷ ts) = omega arith
one_level a o p q (Token.null ∷ ts) = omega arith
one_level a o p q (Token.bad ∷ ts) = tt

values_fit : (d : ℕ) → AllFit size (value d)
unfolding value
values_fit zero = one_level (λ ts. None) (λ ts. None) (λ ts. tt) (λ ts. tt)
values_fit (suc d) =
    one_level (λ ts. items (value d) (length ts) ts) (λ ts. members (value d) (length ts) ts)
    (λ ts. items_fit (value d) (values_fit d) (length ts) ts)
    (λ ts. members_fit (value d) (values_fit d) (length ts) ts)

-- ---- from a value to its data

abbrev AtMost : {A : Type 0} → (A → ℕ) → ℕ → Option A → Type 0
AtMost f n None = ⊤
AtMost f n (Some a) = f a ≤ n

AtMost-map : {A B : Type 0} (f : A → ℕ) (g : B → ℕ) (m n : ℕ) (h : A → B) → ((a : A) → f a ≤ m → g (h a) ≤ n) → (o : Option A) → AtMost f m o → AtMost g n (option_map h o)
AtMost-map f g m n h k None x = tt
AtMost-map f g m n h k (Some a) x = k a x

AtMost-and_then : {A B : Type 0} (f : A → ℕ) (g : B → ℕ) (m n : ℕ) (h : A → Option B) → ((a : A) → f a ≤ m → AtMost g n (h a)) → (o : Option A) → AtMost f m o → AtMost g n (option_and_then h o)
AtMost-and_then f g m n h k None x = tt
AtMost-and_then f g m n h k (Some a) x = k a x

flat : {A : Type 0} (o : Option A) → AtMost (λ _. 0) 0 o
flat None = tt
flat (Some a) = omega arith

match_within : (o : Ordering) (a b c : Members) (n : ℕ) → members_weight a ≤ n → members_weight b ≤ n → members_weight c ≤ n → members_weight (match_ordering o a b c) ≤ n
match_within Less a b c n p q r = p
match_within Equal a b c n p q r = q
match_within Greater a b c n p q r = r

put_within : (k : List ℕ) (d : Data) (ms : Members) → members_weight (put k d ms) ≤ weight d + members_weight ms
put_within k d no_members = omega arith
put_within k d (member l e ms) =
    match_within (slice_cmp nat_cmp k l) (member k d (member l e ms)) (member l d ms) (member l e (put k d ms)) (weight d + members_weight (member l e ms)) (omega arith) (omega arith) (omega (arith, put_within k d ms))

mutual
  json_within : (j : json.Json) → AtMost weight (size j) (of_json j)
  json_within json.null = omega arith
  json_within (json.boolean b) = omega arith
  json_within (json.number s) = AtMost-map (λ _. 0) weight 0 1 number (λ a x. omega arith) (number_of s) (flat (number_of s))
  json_within (json.string s) = omega arith
  json_within (json.array js) = AtMost-map items_weight weight (items_size js) (1 + items_size js) array (λ a x. omega arith) (of_items js) (items_within js)
  json_within (json.object ms) = AtMost-map members_weight weight (members_size ms + 0) (1 + members_size ms) object (λ a x. omega arith) (of_members ms no_members) (members_within ms no_members)

  items_within : (js : json.Items) → AtMost items_weight (items_size js) (of_items js)
  items_within json.no_items = omega arith
  items_within (json.item j js) =
      AtMost-and_then weight items_weight (size j) (size j + items_size js) (λ d. option_map (item d) (of_items js))
      (λ d x. AtMost-map items_weight items_weight (items_size js) (size j + items_size js) (item d) (λ ds y. omega arith) (of_items js) (items_within js)) (of_json j) (json_within j)

  members_within : (ms : json.Members) (found : Members) → AtMost members_weight (members_size ms + members_weight found) (of_members ms found)
  members_within json.no_members found = omega arith
  members_within (json.member name j ms) found =
      AtMost-and_then weight members_weight (size j) (size j + members_size ms + members_weight found) (λ d. of_members ms (put name d found))
      (λ d x. lighter (members_size ms + members_weight (put name d found)) (size j + members_size ms + members_weight found) (omega (arith, put_within name d found)) (of_members ms (put name d found)) (members_within ms (put name d found)))
      (of_json j) (json_within j)
    where
      lighter : (m n : ℕ) → m ≤ n → (o : Option Members) → AtMost members_weight m o → AtMost members_weight n o
      lighter m n le None x = tt
      lighter m n le (Some a) x = omega arith

last_within : (o : Option (json.Json × List Token)) (n : ℕ) → Fits size n o → AtMost size n (option_and_then (λ p. json.if_last p.0 p.1) o)
last_within None n x = tt
last_within (Some (j, [])) n x = omega arith
last_within (Some (j, t ∷ r)) n x = tt

read_within : (text : List ℕ) → AtMost weight (length text + 1) (read text)
read_within text =
    AtMost-and_then size weight (length text + 1) (length text + 1) of_json (λ j x. lighter (size j) (length text + 1) x (of_json j) (json_within j)) _
    (last_within (value max_depth (tokens text)) (length text + 1) (more (length (tokens text)) (length text + 1) (tokens_within text) (value max_depth (tokens text)) (values_fit max_depth (tokens text))))
  where
    lighter : (m n : ℕ) → m ≤ n → (o : Option Data) → AtMost weight m o → AtMost weight n o
    lighter m n le None x = tt
    lighter m n le (Some a) x = omega arith

    more : (m n : ℕ) → m ≤ n → (o : Option (json.Json × List Token)) → Fits size m o → Fits size n o
    more m n le None x = tt
    more m n le (Some p) x = omega arith

pub text_weighs : (bytes : List ℕ) (d : Data) → value_of bytes ≡ Some d → weight d ≤ length bytes + 1
unfolding text_of
text_weighs bytes d e = go (is_utf8 bytes) refl e
  where
    go : (b : Bool) → is_utf8 bytes ≡ b → value_of bytes ≡ Some d → weight d ≤ length bytes + 1
    go true t e = let is : read bytes ≡ Some d = rw t at e in subst (AtMost weight (length bytes + 1)) is (read_within bytes)
    go false t e = let bad : None ≡ Some d = rw t at e in cc
