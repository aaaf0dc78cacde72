-- What stands at a place of an emitted list, by the id of its record.
use Rattle.std.proofs.Common.{◌≡◌, ◌<◌, ◌+◌, ℕ, Bool, true, false, cond, Option, None, Some, List, [], get_or, length, take, slice_get, is_some, refl, ap, ◌∙◌, sym, subst, inl, inr, arith}
use Rattle.std.specs.List.{All, count_by}
use Rattle.std.specs.Option.{IfSome, option_and_then, option_map, option_map_or}
use Rattle.std.proofs.lemmas.List.Sums.{count_by_more_yes, count_by_more_no}
use Rattle.std.proofs.lemmas.Option.{none-some, slice_get_within, slice_get_cases, get_or_from_slice_get}
use Rattle.blz_value.specs.Record.{Row as Record}
use Rattle.topo_forms.specs.Messages.{row_in}
use Rattle.messages.specs.EmittedIds.{id_in}
use Rattle.messages.specs.Ids.{IsGiven, message_with_id}
use Rattle.messages.specs.declared.message.Message.{Message as IdMessage}
use Rattle.messages.specs.declared.message.Message.TheVariants.{Row, Seal}
use Rattle.sched_net.specs.Code.Records.{is_record}

-- ---- what holds of all

-- holds of one that stands at a place
pub all_listed : {X : Type 0} (P : X → Type 0) (xs : List X) (i : ℕ) (x : X) → All P xs → slice_get xs i ≡ Some x → P x
all_listed P xs i x all at = subst P (get_or_from_slice_get xs i x x at) (all i x (slice_get_within xs i x at))

-- and of one that is found
pub all_found : {X : Type 0} (P : X → Type 0) (xs : List X) (i : ℕ) (o : Option X) → All P xs → o ≡ slice_get xs i → IfSome o P
all_found P xs i None all is = tt
all_found P xs i (Some x) all is = all_listed P xs i x all (sym is)

-- ---- the record of an id

-- where an id is read, the record with it stands
pub row_listed : (o : Option IdMessage) (id : ℕ) → option_and_then id_in o ≡ Some id → o ≡ Some (Row id)
row_listed None id is = absurd (none-some id is)
row_listed (Some (Row other)) id is = ap (option_map Row) is
row_listed (Some (Seal key count)) id is = absurd (none-some id is)

-- the pool gave it
pub id_given : (records : List Record) (list : List IdMessage) (index id : ℕ) → All (IsGiven records) list → option_and_then id_in (slice_get list index) ≡ Some id → id < length records
id_given records list index id given is = all_listed (IsGiven records) list index (Row id) given (row_listed (slice_get list index) id is)

-- its record is that of the message
pub record_lent : (records : List Record) (list : List IdMessage) (index id : ℕ) (r : Record) → option_and_then id_in (slice_get list index) ≡ Some id → slice_get records id ≡ Some r
    → Some r ≡ option_and_then (λ m. row_in (message_with_id records m)) (slice_get list index)
record_lent records list index id r is at =
    ap (λ (x : Record). Some x) (sym (get_or_from_slice_get records id r [] at))
    ∙ sym (ap (option_and_then (λ m. row_in (message_with_id records m))) (row_listed (slice_get list index) id is))

-- and where none is read, none is
pub none_lent : (records : List Record) (o : Option IdMessage) → option_and_then id_in o ≡ None → None ≡ option_and_then (λ m. row_in (message_with_id records m)) o
none_lent records None is = refl
none_lent records (Some (Row id)) is = absurd (none-some id (sym is))
none_lent records (Some (Seal key count)) is = refl

-- ---- counts

-- an id is read exactly where a record stands
pub record_at : (o : Option IdMessage) → is_some (option_and_then id_in o) ≡ option_map_or is_record o false
record_at None = refl
record_at (Some (Row id)) = refl
record_at (Some (Seal key count)) = refl

-- a count goes on over a list by its place
pub counted_at : {X : Type 0} (p : X → Bool) (xs : List X) (i : ℕ) (b : Bool) (old new : ℕ) → i < length xs → b ≡ option_map_or p (slice_get xs i) false → old ≡ count_by p (take i xs) → new ≡ old + cond b 1 0 → new ≡ count_by p (take (i + 1) xs)
counted_at {X = X} p xs i b old new within tells before is = elim (slice_get_cases xs i).1 [
  | inl some ↦ by b some.0 (ap p some.3 ∙ sym (tells ∙ ap (λ (o : Option X). option_map_or p o false) some.2)) is
  | inr past ↦ absurd (omega (arith, past.0, within))
]
  where
    by : (b : Bool) (x : X) → p (get_or xs i x) ≡ b → new ≡ old + cond b 1 0 → new ≡ count_by p (take (i + 1) xs)
    by true x passes now = (let more : new ≡ old + 1 = now in omega (arith, more, before, count_by_more_yes p xs i x within passes))
    by false x fails now = (let more : new ≡ old + 0 = now in omega (arith, more, before, count_by_more_no p xs i x within fails))
