-- What stands in a table of fields: at each key its value, and no other key; and how deep it nests.
use Rattle.std.proofs.Common.{◌≡◌, ◌≤◌, ◌&&◌, not, inl, inr, ℕ, suc, max, Bool, true, false, is_eq, Ordering, Less, Equal, Greater, Option, None, Some, List, [], ◌∷◌, map, fold, filter, cond, if◌then◌else◌, nat_cmp, refl, arith, ap, sym, subst, ◌∙◌}
use Rattle.std.specs.Cmp.Lexicographic.{slice_cmp}
use Rattle.std.specs.List.{list_all, list_any, reduce}
use Rattle.std.specs.Ordering.{match_ordering}
use Rattle.std.specs.Str.{bytes_eq}
use Rattle.std.specs.Cmp.{tied_itself}
use Rattle.std.proofs.lemmas.Bool.{cases_Bool, true≢false, false_from_ne_true}
use Rattle.std.proofs.lemmas.Cmp.{nat_list_cmp_total}
use Rattle.std.proofs.lemmas.Map.Text.{is_eq-slice_cmp}
use Rattle.std.proofs.lemmas.Slice.Eq.{bytes_eq-Decides}
use Rattle.blz_value.proofs.Booleans.{not_true, and_true, both_true}
use Rattle.blz_value.proofs.Lists.{equal_keys}
use Rattle.toml.specs.Data.{Data, Items, no_items, item, Members, no_members, member, get_member, depth, items_depth, members_depth}
use Rattle.toml.specs.View.{items_of}
use Rattle.topo_read.specs.Fill.{Field, with_member, with_value, with_field, table_with}
use Rattle.topo_read.specs.Tables.{keys_in, earlier, unknown_key}

-- ---- one key

cmp_self : (k : List ℕ) → slice_cmp nat_cmp k k ≡ Equal
cmp_self k = tied_itself nat_list_cmp_total k

-- a value that stands beside keys that are passed over
skipped : {X : Type 0} (o : Ordering) (x y : X) → is_eq o ≡ false → match_ordering o x y x ≡ x
skipped Less x y e = refl
skipped Equal x y e = absurd (true≢false e)
skipped Greater x y e = refl

pub get_same : (k : List ℕ) (d : Data) (ms : Members) → get_member k (with_member k d ms) ≡ Some d
get_same k d no_members = ap (λ o. match_ordering o None (Some d) None) (cmp_self k)
get_same k d (member l e ms) = by (slice_cmp nat_cmp k l) refl (get_same k d ms)
  where
    by : (o : Ordering) → slice_cmp nat_cmp k l ≡ o → get_member k (with_member k d ms) ≡ Some d
        → get_member k (match_ordering o (member k d (member l e ms)) (member l d ms) (member l e (with_member k d ms))) ≡ Some d
    by Less is more = ap (λ o. match_ordering o (get_member k (member l e ms)) (Some d) (get_member k (member l e ms))) (cmp_self k)
    by Equal is more = ap (λ o. match_ordering o (get_member k ms) (Some d) (get_member k ms)) is
    by Greater is more = ap (λ o. match_ordering o (get_member k (with_member k d ms)) (Some e) (get_member k (with_member k d ms))) is ∙ more

other_is : (j k : List ℕ) → bytes_eq j k ≡ false → is_eq (slice_cmp nat_cmp j k) ≡ false
other_is j k e = is_eq-slice_cmp j k ∙ e

pub get_other : (j k : List ℕ) (d : Data) (ms : Members) → bytes_eq j k ≡ false → get_member j (with_member k d ms) ≡ get_member j ms
get_other j k d no_members other = skipped (slice_cmp nat_cmp j k) None (Some d) (other_is j k other)
get_other j k d (member l e ms) other = by (slice_cmp nat_cmp k l) refl (get_other j k d ms other)
  where
    by : (o : Ordering) → slice_cmp nat_cmp k l ≡ o → get_member j (with_member k d ms) ≡ get_member j ms
        → get_member j (match_ordering o (member k d (member l e ms)) (member l d ms) (member l e (with_member k d ms))) ≡ get_member j (member l e ms)
    by Less is more = skipped (slice_cmp nat_cmp j k) (get_member j (member l e ms)) (Some d) (other_is j k other)
    by Equal is more =
        let apart : bytes_eq j l ≡ false = subst (λ (x : List ℕ). bytes_eq j x ≡ false) (equal_keys k l is) other in
        skipped (slice_cmp nat_cmp j l) (get_member j ms) (Some d) (other_is j l apart) ∙ sym (skipped (slice_cmp nat_cmp j l) (get_member j ms) (Some e) (other_is j l apart))
    by Greater is more = ap (λ (r : Option Data). match_ordering (slice_cmp nat_cmp j l) r (Some e) r) more

-- ---- fields

-- none of the fields has this key
abbrev pub lacks_key : List ℕ → List Field → Bool
lacks_key key fields = list_all (λ field. not (bytes_eq key field.0)) fields

-- no key stands twice
abbrev pub are_apart : List Field → Bool
are_apart [] = true
are_apart (field ∷ fields) = lacks_key field.0 fields && are_apart fields

-- what a key has among the fields
abbrev pub field_at : List ℕ → List Field → Option Data
field_at key [] = None
field_at key (field ∷ fields) = if bytes_eq key field.0 then field.1 else field_at key fields

value_other : (j k : List ℕ) (o : Option Data) (ms : Members) → bytes_eq j k ≡ false → get_member j (with_value ms k o) ≡ get_member j ms
value_other j k None ms other = refl
value_other j k (Some d) ms other = get_other j k d ms other

absent_stays : (k : List ℕ) (fields : List Field) (ms : Members) → lacks_key k fields ≡ true → get_member k (fold with_field ms fields) ≡ get_member k ms
absent_stays k [] ms lacks = refl
absent_stays k (field ∷ fields) ms lacks =
    let parts = both_true (not (bytes_eq k field.0)) (lacks_key k fields) lacks in
    absent_stays k fields (with_field ms field) parts.1 ∙ value_other k field.0 field.1 ms (not_true (bytes_eq k field.0) parts.0)

value_same : (k l : List ℕ) (o : Option Data) (ms : Members) → bytes_eq k l ≡ true → get_member k ms ≡ None → get_member k (with_value ms l o) ≡ o
value_same k l None ms same none = none
value_same k l (Some d) ms same none = let is : l ≡ k = sym ((bytes_eq-Decides k l).0 same) in subst (λ (x : List ℕ). get_member k (with_member x d ms) ≡ Some d) (sym is) (get_same k d ms)

found : (k : List ℕ) (fields : List Field) (ms : Members) → are_apart fields ≡ true → get_member k ms ≡ None → get_member k (fold with_field ms fields) ≡ field_at k fields
found k [] ms apart none = none
found k (field ∷ fields) ms apart none = by (bytes_eq k field.0) refl (λ other. found k fields (with_field ms field) parts.1 other)
  where
    parts : (lacks_key field.0 fields ≡ true) × (are_apart fields ≡ true)
    parts = both_true (lacks_key field.0 fields) (are_apart fields) apart

    by : (b : Bool) → bytes_eq k field.0 ≡ b → (get_member k (with_field ms field) ≡ None → get_member k (fold with_field (with_field ms field) fields) ≡ field_at k fields)
        → get_member k (fold with_field (with_field ms field) fields) ≡ (if b then field.1 else field_at k fields)
    by true same more =
        let is : field.0 ≡ k = sym ((bytes_eq-Decides k field.0).0 same) in
        absent_stays k fields (with_field ms field) (subst (λ (x : List ℕ). lacks_key x fields ≡ true) is parts.0) ∙ value_same k field.0 field.1 ms same none
    by false other more = more (value_other k field.0 field.1 ms other ∙ none)

-- what stands at a key of a table of fields
pub at_field : (k : List ℕ) (fields : List Field) → are_apart fields ≡ true → get_member k (table_with fields) ≡ field_at k fields
at_field k fields apart = found k fields no_members apart refl

-- ---- keys

abbrev is_known : List (List ℕ) → List ℕ → Bool
is_known known key = list_any (bytes_eq key) known

abbrev are_known : List (List ℕ) → Members → Bool
are_known known ms = list_all (is_known known) (keys_in ms)

-- each field has one of these keys
abbrev pub have_keys : List (List ℕ) → List Field → Bool
have_keys known fields = list_all (λ field. is_known known field.0) fields

member_known : (known : List (List ℕ)) (k : List ℕ) (d : Data) (ms : Members) → is_known known k ≡ true → are_known known ms ≡ true → are_known known (with_member k d ms) ≡ true
member_known known k d no_members own all = and_true (is_known known k) true own refl
member_known known k d (member l e ms) own all = by (slice_cmp nat_cmp k l) (both_true (is_known known l) (are_known known ms) all) (λ more. member_known known k d ms own more)
  where
    by : (o : Ordering) → (is_known known l ≡ true) × (are_known known ms ≡ true) → (are_known known ms ≡ true → are_known known (with_member k d ms) ≡ true)
        → are_known known (match_ordering o (member k d (member l e ms)) (member l d ms) (member l e (with_member k d ms))) ≡ true
    by Less parts more = and_true (is_known known k) (are_known known (member l e ms)) own all
    by Equal parts more = and_true (is_known known l) (are_known known ms) parts.0 parts.1
    by Greater parts more = and_true (is_known known l) (are_known known (with_member k d ms)) parts.0 (more parts.1)

value_known : (known : List (List ℕ)) (k : List ℕ) (o : Option Data) (ms : Members) → is_known known k ≡ true → are_known known ms ≡ true → are_known known (with_value ms k o) ≡ true
value_known known k None ms own all = all
value_known known k (Some d) ms own all = member_known known k d ms own all

fields_known : (known : List (List ℕ)) (fields : List Field) (ms : Members) → have_keys known fields ≡ true → are_known known ms ≡ true → are_known known (fold with_field ms fields) ≡ true
fields_known known [] ms own all = all
fields_known known (field ∷ fields) ms own all =
    let parts = both_true (is_known known field.0) (have_keys known fields) own in
    fields_known known fields (with_field ms field) parts.1 (value_known known field.0 field.1 ms parts.0 all)

none_unknown : (known : List (List ℕ)) (keys : List (List ℕ)) → list_all (is_known known) keys ≡ true → filter (λ key. not (list_any (bytes_eq key) known)) keys ≡ []
none_unknown known [] all = refl
none_unknown known (key ∷ keys) all =
    let parts = both_true (is_known known key) (list_all (is_known known) keys) all in
    ap (λ (b : Bool). cond (not b) (key ∷ filter (λ key. not (list_any (bytes_eq key) known)) keys) (filter (λ key. not (list_any (bytes_eq key) known)) keys)) parts.0 ∙ none_unknown known keys parts.1

-- a table of fields with known keys has no other
pub no_unknown : (known : List (List ℕ)) (fields : List Field) → have_keys known fields ≡ true → unknown_key known (table_with fields) ≡ None
no_unknown known fields own = ap (λ (keys : List (List ℕ)). reduce earlier keys) (none_unknown known (keys_in (table_with fields)) (fields_known known fields no_members own refl))

-- ---- depth

module _ (n : ℕ) where
  abbrev pub IsShallow : Option Data → Type 0
  IsShallow None = Unit {0}
  IsShallow (Some d) = depth d ≤ n

  member_depth : (k : List ℕ) (d : Data) (ms : Members) → depth d ≤ n → members_depth ms ≤ n → members_depth (with_member k d ms) ≤ n
  member_depth k d no_members own all = omega (arith, own)
  member_depth k d (member l e ms) own all = by (slice_cmp nat_cmp k l) (member_depth k d ms own (omega (arith, all)))
    where
      by : (o : Ordering) → members_depth (with_member k d ms) ≤ n → members_depth (match_ordering o (member k d (member l e ms)) (member l d ms) (member l e (with_member k d ms))) ≤ n
      by Less more = omega (arith, own, all)
      by Equal more = omega (arith, own, all)
      by Greater more = omega (arith, more, all)

  value_depth : (k : List ℕ) (o : Option Data) (ms : Members) → IsShallow o → members_depth ms ≤ n → members_depth (with_value ms k o) ≤ n
  value_depth k None ms own all = all
  value_depth k (Some d) ms own all = member_depth k d ms own all

  abbrev pub AreShallow : List Field → Type 0
  AreShallow [] = Unit {0}
  AreShallow (field ∷ fields) = IsShallow field.1 × AreShallow fields

  fields_depth : (fields : List Field) (ms : Members) → AreShallow fields → members_depth ms ≤ n → members_depth (fold with_field ms fields) ≤ n
  fields_depth [] ms own all = all
  fields_depth (field ∷ fields) ms own all = fields_depth fields (with_field ms field) own.1 (value_depth field.0 field.1 ms own.0 all)

  pub table_depth : (fields : List Field) → AreShallow fields → members_depth (table_with fields) ≤ n
  table_depth fields own = fields_depth fields no_members own (omega arith)

  pub list_depth : {X : Type 0} (write : X → Data) (xs : List X) → ((x : X) → depth (write x) ≤ n) → items_depth (items_of (map write xs)) ≤ n
  list_depth write [] each = omega arith
  list_depth write (x ∷ xs) each = let one = each x in let more = list_depth write xs each in omega (arith, one, more)
