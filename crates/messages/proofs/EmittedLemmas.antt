-- A list that emits a record or a seal begins with what it had, and has what it had and the record.
use Rattle.std.proofs.Common.{◌≡◌, refl, ap, sym, subst, ◌∙◌, ℕ, Bool, true, false, Option, None, Some, List, [], ◌∷◌, ◌++◌, append_assoc, append-nil, inl, inr}
use Rattle.std.specs.Prelude.{if◌then◌else◌}
use Rattle.std.specs.List.{list_any}
use Rattle.std.proofs.lemmas.List.Elements.{filter_map-append}
use Rattle.blz_value.specs.Members.{Has, HaveEqualMembers}
use Rattle.blz_value.specs.Record.{Row}
use Rattle.blz_value.proofs.Membership.{Has-append_left, Has-append_right, Has-append_cases}
use Rattle.blz_value.specs.Message.{Message, row, seal, row_in, rows_in}
use Rattle.messages.specs.Messages.{is_same_message}
use Rattle.messages.specs.Emitted.{Continues, has_seal, count_in, with_row, with_rows, with_seal, with_seals}
use Rattle.messages.proofs.MessagesLemmas.{is_same_message-is, is_same_message-itself, same-from_any}
use Rattle.messages.proofs.Passing.{Has-filter_map}

-- ---- lists that continue others

module _ {X : Type 0} where
  pub continues_itself : (xs : List X) → Continues xs xs
  continues_itself xs = record { more = []; with_more = append-nil xs }

  pub continues_with : (xs more : List X) → Continues xs (xs ++ more)
  continues_with xs more = record { more = more; with_more = refl }

  pub continues_on : (xs ys zs : List X) → Continues xs ys → Continues ys zs → Continues xs zs
  continues_on xs ys zs a b = record { more = a.more ++ b.more; with_more = sym (append_assoc xs a.more b.more) ∙ ap (λ l. l ++ b.more) a.with_more ∙ b.with_more }

new_or_not : (list : List Message) (message : Message) (b : Bool) → Continues list (if b then list else list ++ message ∷ [])
new_or_not list message true = continues_itself list
new_or_not list message false = continues_with list (message ∷ [])

pub with_row-continues : (list : List Message) (r : Row) → Continues list (with_row list r)
with_row-continues list r = new_or_not list (row r) (list_any (is_same_message (row r)) list)

pub with_rows-continues : (list : List Message) (rows : List Row) → Continues list (with_rows list rows)
with_rows-continues list [] = continues_itself list
with_rows-continues list (r ∷ rows) = continues_on list (with_row list r) (with_rows (with_row list r) rows) (with_row-continues list r) (with_rows-continues (with_row list r) rows)

seal_or_not : (list : List Message) (message : Message) (b : Bool) → Continues list (if b then list else list ++ message ∷ [])
seal_or_not list message true = continues_itself list
seal_or_not list message false = continues_with list (message ∷ [])

pub with_seal-continues : (places : List ℕ) (list : List Message) (key : Row) → Continues list (with_seal places list key)
with_seal-continues places list key = seal_or_not list (seal key (count_in places list key)) (has_seal list key)

pub with_seals-continues : (places : Option (List ℕ)) (list : List Message) (keys : List Row) → Continues list (with_seals places list keys)
with_seals-continues None list keys = continues_itself list
with_seals-continues (Some places) list [] = continues_itself list
with_seals-continues (Some places) list (key ∷ keys) =
    continues_on list (with_seal places list key) (with_seals (Some places) (with_seal places list key) keys)
    (with_seal-continues places list key) (with_seals-continues (Some places) (with_seal places list key) keys)

-- ---- equal members

module _ {X : Type 0} where
  pub members_themselves : (xs : List X) → HaveEqualMembers xs xs
  members_themselves xs = (λ q h. h, λ q h. h)

  pub members_on : (xs ys zs : List X) → HaveEqualMembers xs ys → HaveEqualMembers ys zs → HaveEqualMembers xs zs
  members_on xs ys zs a b = (λ q h. b.0 q (a.0 q h), λ q h. a.1 q (b.1 q h))

  pub members_then : (xs ys more : List X) → HaveEqualMembers xs ys → HaveEqualMembers (xs ++ more) (ys ++ more)
  members_then xs ys more same = (
    λ q h. elim (Has-append_cases q xs more h) [ inl a ↦ Has-append_left q ys more (same.0 q a) | inr b ↦ Has-append_right q ys more b ],
    λ q h. elim (Has-append_cases q ys more h) [ inl a ↦ Has-append_left q xs more (same.1 q a) | inr b ↦ Has-append_right q xs more b ],
  )

  pub members_is : (xs ys : List X) → xs ≡ ys → HaveEqualMembers xs ys
  members_is xs ys e = subst (λ l. HaveEqualMembers xs l) e (members_themselves xs)

-- ---- lists

pub rows_in-append : (xs ys : List Message) → rows_in (xs ++ ys) ≡ rows_in xs ++ rows_in ys
rows_in-append xs ys = filter_map-append row_in xs ys

-- a list with a row has it and what it had
row_cases : (list : List Message) (r : Row) (b : Bool) → list_any (is_same_message (row r)) list ≡ b → HaveEqualMembers (rows_in (if b then list else list ++ row r ∷ [])) (rows_in list ++ r ∷ [])
row_cases list r true e = (
  λ q h. Has-append_left q (rows_in list) (r ∷ []) h,
  λ q h. elim (Has-append_cases q (rows_in list) (r ∷ []) h) [
    | inl old ↦ old
    | inr new ↦ elim new [
      | inl same ↦ subst (λ z. Has z (rows_in list)) same (Has-filter_map row_in (row r) r list (same-from_any is_same_message is_same_message-is is_same_message-itself (row r) list e) refl)
      | inr none ↦ absurd none
    ]
  ],
)
row_cases list r false e = members_is (rows_in (list ++ row r ∷ [])) (rows_in list ++ r ∷ []) (rows_in-append list (row r ∷ []))

pub rows-with_row : (list : List Message) (r : Row) → HaveEqualMembers (rows_in (with_row list r)) (rows_in list ++ r ∷ [])
rows-with_row list r = row_cases list r (list_any (is_same_message (row r)) list) refl

-- a list with rows has them and what it had
pub rows-with_rows : (list : List Message) (rows : List Row) → HaveEqualMembers (rows_in (with_rows list rows)) (rows_in list ++ rows)
rows-with_rows list [] = members_is (rows_in list) (rows_in list ++ []) (sym (append-nil (rows_in list)))
rows-with_rows list (r ∷ rows) =
    members_on (rows_in (with_rows (with_row list r) rows)) (rows_in (with_row list r) ++ rows) (rows_in list ++ (r ∷ rows))
    (rows-with_rows (with_row list r) rows)
    (members_on (rows_in (with_row list r) ++ rows) ((rows_in list ++ r ∷ []) ++ rows) (rows_in list ++ (r ∷ rows))
    (members_then (rows_in (with_row list r)) (rows_in list ++ r ∷ []) rows (rows-with_row list r))
    (members_is ((rows_in list ++ r ∷ []) ++ rows) (rows_in list ++ (r ∷ rows)) (append_assoc (rows_in list) (r ∷ []) rows)))

-- seals are no rows
seal_rows : (list : List Message) (key : Row) (count : ℕ) (b : Bool) → rows_in (if b then list else list ++ seal key count ∷ []) ≡ rows_in list
seal_rows list key count true = refl
seal_rows list key count false = rows_in-append list (seal key count ∷ []) ∙ append-nil (rows_in list)

pub rows-with_seal : (places : List ℕ) (list : List Message) (key : Row) → rows_in (with_seal places list key) ≡ rows_in list
rows-with_seal places list key = seal_rows list key (count_in places list key) (has_seal list key)

pub rows-with_seals : (places : Option (List ℕ)) (list : List Message) (keys : List Row) → rows_in (with_seals places list keys) ≡ rows_in list
rows-with_seals None list keys = refl
rows-with_seals (Some places) list [] = refl
rows-with_seals (Some places) list (key ∷ keys) = rows-with_seals (Some places) (with_seal places list key) keys ∙ rows-with_seal places list key
