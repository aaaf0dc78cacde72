-- A value that stands in another weighs no more, and so do the lists of an entry together.
use Rattle.std.proofs.Common.{◌≡◌, ℕ, ◌+◌, ◌≤◌, Bool, true, false, List, length, Option, Some, None, option_map, IfSome, Ordering, Less, Equal, Greater, nat_cmp, refl, sym, subst, ◌∙◌, arith}
use Rattle.std.specs.Prelude.{codes}
use Rattle.std.specs.Borrow.{Bor}
use Rattle.std.specs.Cmp.Lexicographic.{slice_cmp}
use Rattle.std.specs.Ordering.{match_ordering}
use Rattle.blz_value.proofs.Options.{same_some}
use Rattle.blz_value.proofs.Lists.{equal_keys}
use Rattle.serde_json.specs.Data.{Data, null, boolean, number, string, array, object, Items, no_items, item, Members, no_members, member}
use Rattle.serde_json.specs.Events.{items_len}
use Rattle.serde_json.specs.Find.{get, get_member}
use Rattle.serde_json.specs.View.{items_view}
use Rattle.serde_json.specs.declared.value.Value.{Value}
use Rattle.serde_json.proofs.Views.{items_len-items_view}
use Rattle.data_read.specs.Code.Weight.{weight, items_weight, members_weight, weight_or_none}
use Rattle.data_read.specs.Entry.{Entry, only_rows, list_or_none, parts_in, entry_keys, object_in, entry_in}
use Rattle.data_read.specs.Keys.{has_only}
use Rattle.data_read.specs.Values.{◌>>=◌, only_if}

-- ---- the steps of a reading

-- what went on was given
pub gave : {A B : Type 0} (m : Option A) (next : A → Option B) (y : B) → (m >>= next) ≡ Some y → (x : A) × (m ≡ Some x) × (next x ≡ Some y)
gave (Some x) next y e = (x, refl, e)
gave None next y e = cc

-- what is given under a test passed it
pub tested : {X : Type 0} (test : Bool) (x y : X) → only_if test x ≡ Some y → (test ≡ true) × (x ≡ y)
tested true x y e = (refl, (let same : x ≡ y = cc in same))
tested false x y e = cc

-- ---- weights

pub items_length : (vs : List Value) → items_len (items_view vs) ≡ length vs
items_length vs = items_len-items_view vs

some_weight : (d : Data) → 1 ≤ weight d
some_weight null = omega arith
some_weight (boolean b) = omega arith
some_weight (number n) = omega arith
some_weight (string s) = omega arith
some_weight (array ds) = omega arith
some_weight (object ms) = omega arith

pub items_within : (ds : Items) → items_len ds ≤ items_weight ds
items_within no_items = omega arith
items_within (item d ds) = omega (arith, some_weight d, items_within ds)

at_most : (o : Ordering) (e : Data) (a : Option Data) (w : ℕ) → weight_or_none a ≤ w → weight_or_none (match_ordering o a (Some e) a) ≤ weight e + w
at_most Less e a w h = omega arith
at_most Equal e a w h = omega arith
at_most Greater e a w h = omega arith

member_within : (k : List ℕ) (ms : Members) → weight_or_none (get_member k ms) ≤ members_weight ms
member_within k no_members = omega arith
member_within k (member l e ms) = at_most (slice_cmp nat_cmp k l) e (get_member k ms) (members_weight ms) (member_within k ms)

-- the value at a key
pub get_within : (k : List ℕ) (d : Data) → weight_or_none (get k d) ≤ weight d
get_within k null = omega arith
get_within k (boolean b) = omega arith
get_within k (number n) = omega arith
get_within k (string s) = omega arith
get_within k (array ds) = omega arith
get_within k (object ms) = omega (arith, member_within k ms)

-- ---- two keys

two_at : (o p : Ordering) (e : Data) (a b : Option Data) (w : ℕ) → (o ≡ Equal → p ≡ Equal → ⊥) → weight_or_none a + weight_or_none b ≤ w
    → weight_or_none (match_ordering o a (Some e) a) + weight_or_none (match_ordering p b (Some e) b) ≤ weight e + w
two_at Less Less e a b w apart h = omega arith
two_at Less Equal e a b w apart h = omega arith
two_at Less Greater e a b w apart h = omega arith
two_at Equal Less e a b w apart h = omega arith
two_at Equal Equal e a b w apart h = absurd (apart refl refl)
two_at Equal Greater e a b w apart h = omega arith
two_at Greater Less e a b w apart h = omega arith
two_at Greater Equal e a b w apart h = omega arith
two_at Greater Greater e a b w apart h = omega arith

two_within : (k l : List ℕ) (ms : Members) → (k ≡ l → ⊥) → weight_or_none (get_member k ms) + weight_or_none (get_member l ms) ≤ members_weight ms
two_within k l no_members apart = omega arith
two_within k l (member m e ms) apart =
    two_at (slice_cmp nat_cmp k m) (slice_cmp nat_cmp l m) e (get_member k ms) (get_member l ms) (members_weight ms)
    (λ p q. apart (equal_keys k m p ∙ sym (equal_keys l m q))) (two_within k l ms apart)

-- ---- an entry

list_within : (o : Option Data) (rows : Items) → list_or_none o ≡ Some rows → items_len rows ≤ weight_or_none o
list_within None rows e = subst (λ r. items_len r ≤ 0) (same_some no_items rows e) (omega arith)
list_within (Some null) rows e = absurd cc
list_within (Some (boolean b)) rows e = absurd cc
list_within (Some (number n)) rows e = absurd cc
list_within (Some (string s)) rows e = absurd cc
list_within (Some (array ds)) rows e = subst (λ r. items_len r ≤ weight (array ds)) (same_some ds rows e) (omega (arith, items_within ds))
list_within (Some (object ms)) rows e = absurd cc

apart_keys : codes "rows" ≡ codes "parts" → ⊥
apart_keys e = cc

parts_within : (is_sealed : Bool) (ms : Members) (rows parts : Items) → list_or_none (get_member (codes "rows") ms) ≡ Some rows → parts_in is_sealed (object ms) ≡ Some parts
    → items_len rows + items_len parts ≤ members_weight ms
parts_within true ms rows parts r p =
    omega (arith, list_within (get_member (codes "rows") ms) rows r, list_within (get_member (codes "parts") ms) parts p, two_within (codes "rows") (codes "parts") ms apart_keys)
parts_within false ms rows parts r p =
    subst (λ q. items_len rows + items_len q ≤ members_weight ms) (same_some no_items parts p)
    (omega (arith, list_within (get_member (codes "rows") ms) rows r, member_within (codes "rows") ms))

object_within : (is_sealed : Bool) (ms : Members) (lists : Entry) → object_in is_sealed (object ms) ≡ Some lists → items_len lists.0 + items_len lists.1 ≤ members_weight ms
object_within is_sealed ms lists e =
    let rows = gave (list_or_none (get_member (codes "rows") ms)) _ lists e in
    let parts = gave (parts_in is_sealed (object ms)) _ lists rows.2 in
    let held = tested {X = Entry} (has_only (entry_keys is_sealed) ms) (rows.0, parts.0) lists parts.2 in
    subst (λ (l : Entry). items_len l.0 + items_len l.1 ≤ members_weight ms) held.1 (parts_within is_sealed ms rows.0 parts.0 rows.1 parts.1)

pub entry_within : (is_sealed : Bool) (d : Data) (lists : Entry) → entry_in is_sealed d ≡ Some lists → 1 + items_len lists.0 + items_len lists.1 ≤ weight d
entry_within is_sealed null lists e = absurd cc
entry_within is_sealed (boolean b) lists e = absurd cc
entry_within is_sealed (number n) lists e = absurd cc
entry_within is_sealed (string s) lists e = absurd cc
entry_within is_sealed (array ds) lists e =
    subst (λ (l : Entry). 1 + items_len l.0 + items_len l.1 ≤ weight (array ds)) (same_some (only_rows ds) lists e) (omega (arith, items_within ds))
entry_within is_sealed (object ms) lists e = omega (arith, object_within is_sealed ms lists e)

abbrev pub Lists : Type 0
Lists = Bor (List Value) × Bor (List Value)

abbrev pub lists_view : Lists → Entry
lists_view lists = (items_view lists.0.now, items_view lists.1.now)

-- the same of the lists in the code
pub lists_within : (is_sealed : Bool) (d : Data) (o : Option Lists) → option_map lists_view o ≡ entry_in is_sealed d → IfSome o (λ lists. 1 + length lists.0.now + length lists.1.now ≤ weight d)
lists_within is_sealed d None e = tt
lists_within is_sealed d (Some lists) e =
    omega (arith, entry_within is_sealed d (lists_view lists) (sym e), items_len-items_view lists.0.now, items_len-items_view lists.1.now)
