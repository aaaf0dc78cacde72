-- The records of a list that is lent, by the places of their messages.
use Rattle.std.proofs.Common.{◌≡◌, ◌<◌, ◌∙◌, ℕ, zero, suc, Option, List, [], ◌∷◌, length, get_or, slice_get, refl, sym, subst, arith}
use Rattle.std.specs.Prelude.{IfSome}
use Rattle.std.specs.List.{All}
use Rattle.std.specs.Option.{option_and_then}
use Rattle.blz_value.specs.Record.{Row as Record}
use Rattle.messages.specs.Ids.{IsGiven}
use Rattle.messages.specs.EmittedIds.{id_in}
use Rattle.messages.specs.declared.message.Message.{Message as IdMessage}
use Rattle.messages.specs.declared.message.Message.TheVariants.{Row, Seal}

-- the id at a place is that of the message there
pub row_there : (list : List IdMessage) (index : ℕ) → index < length list → option_and_then id_in (slice_get list index) ≡ id_in (get_or list index (Row 0))
row_there [] index within = absurd (omega (arith, within))
row_there (m ∷ list) zero within = refl
row_there (m ∷ list) (suc index) within = row_there list index (omega (arith, within))

-- it is one that the pool gave
pub row_given : (records : List Record) (list : List IdMessage) (index : ℕ) (row : Option ℕ) → All (IsGiven records) list → index < length list → row ≡ option_and_then id_in (slice_get list index) → IfSome row (λ id. id < length records)
row_given records list index row given within is = subst (λ r. IfSome r (λ id. id < length records)) (sym (is ∙ row_there list index within)) (by (get_or list index (Row 0)) (given index (Row 0) within))
  where
    by : (m : IdMessage) → IsGiven records m → IfSome (id_in m) (λ id. id < length records)
    by (Row id) g = g
    by (Seal key count) g = tt
