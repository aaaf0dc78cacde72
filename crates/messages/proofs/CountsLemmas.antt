-- How many records a tally has of each key value, one record after the other.
use Rattle.std.proofs.Common.{◌≡◌, ◌+◌, ℕ, cond, Some, ap, ◌∙◌, sym, inl, inr}
use Rattle.std.specs.BTreeMap.{BTreeMap, get}
use Rattle.std.specs.Option.{unwrap_or}
use Rattle.std.specs.Ordering.{is_eq}
use Rattle.std.proofs.lemmas.Bool.{cases_Bool}
use Rattle.blz_value.specs.Record.{Row, record_cmp}
use Rattle.blz_value.specs.Message.{is_same_row}
use Rattle.messages.proofs.MessagesLemmas.{is_same_row-is}
use Rattle.messages.specs.EmittedCounts.{count_of}

pub count_more : (old new : BTreeMap Row ℕ) (key : Row) (n : ℕ) → ((q : Row) → get record_cmp new q ≡ cond (is_eq (record_cmp key q)) (Some n) (get record_cmp old q)) → n ≡ count_of old key + 1
    → (k : Row) → count_of new k ≡ cond (is_same_row key k) (count_of old k + 1) (count_of old k)
count_more old new key n updates is k = ap (λ o. unwrap_or o 0) (updates k) ∙ elim (cases_Bool (is_same_row key k)) [
  | inl t ↦ ap (λ b. unwrap_or (cond b (Some n) (get record_cmp old k)) 0) t ∙ is ∙ ap (λ q. count_of old q + 1) (is_same_row-is key k t) ∙ sym (ap (λ b. cond b (count_of old k + 1) (count_of old k)) t)
  | inr f ↦ ap (λ b. unwrap_or (cond b (Some n) (get record_cmp old k)) 0) f ∙ sym (ap (λ b. cond b (count_of old k + 1) (count_of old k)) f)
]
