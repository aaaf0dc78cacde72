-- A list without repeats has as many records as the set of them.
use Rattle.std.proofs.Common.{◌≡◌, ◌+◌, true, false, cond, List, [], ◌∷◌, length, refl, ◌∙◌, sym, subst, inl, inr, arith}
use Rattle.std.specs.List.{count_by}
use Rattle.std.proofs.lemmas.List.Sums.{sum_by-cons}
use Rattle.blz_value.specs.Members.{Has}
use Rattle.blz_value.specs.Record.{Row as Record, record_cmp}
use Rattle.blz_value.specs.RecordOrder.{record_cmp_exact}
use Rattle.blz_value.specs.Sets.{set_of}
use Rattle.blz_value.proofs.RowSets.{length-insert_key-new}
use Rattle.blz_value.proofs.SetLaws.{Has-from_set_of}
use Rattle.topo_forms.specs.Messages.{Message, row, seal, is_same_row, rows_in}
use Rattle.messages.proofs.MessagesLemmas.{is_same_row-itself}
use Rattle.messages.specs.declared.message.Message.{Message as IdMessage}
use Rattle.messages.specs.declared.message.Message.TheVariants.{Row, Seal}
use Rattle.messages.specs.Lists.{read_list}
use Rattle.sched_net.specs.Code.Records.{is_record}
use Rattle.inbox.specs.Growth.{is_repeat_of, NoRepeats}

-- a record that no message repeats is none of theirs
rows_apart : (list : List Message) (r : Record) → ((q : Message) → Has q list → is_repeat_of (row r) q ≡ false) → ¬ Has r (rows_in list)
rows_apart [] r none h = h
rows_apart (row x ∷ list) r none (inl same) =
    let other : is_same_row r r ≡ false = subst (λ z. is_same_row r z ≡ false) same (none (row x) (inl refl)) in
    let bad : true ≡ false = sym (is_same_row-itself r) ∙ other in
    cc
rows_apart (row x ∷ list) r none (inr later) = rows_apart list r (λ q h. none q (inr h)) later
rows_apart (seal key count ∷ list) r none h = rows_apart list r (λ q later. none q (inr later)) h

-- as many records are counted as are read
pub count-is_record : (records : List Record) (list : List IdMessage) → count_by is_record list ≡ length (rows_in (read_list records list))
count-is_record records [] = refl
count-is_record records (Row id ∷ list) =
    let more : count_by is_record (Row id ∷ list) ≡ 1 + count_by is_record list = sum_by-cons (λ m. cond (is_record m) 1 0) (Row id) list in
    let rest : count_by is_record list ≡ length (rows_in (read_list records list)) = count-is_record records list in
    omega (arith, more, rest)
count-is_record records (Seal key count ∷ list) =
    let more : count_by is_record (Seal key count ∷ list) ≡ 0 + count_by is_record list = sum_by-cons (λ m. cond (is_record m) 1 0) (Seal key count) list in
    let rest : count_by is_record list ≡ length (rows_in (read_list records list)) = count-is_record records list in
    omega (arith, more, rest)

pub length-set_of-rows : (list : List Message) → NoRepeats list → length (set_of (rows_in list)) ≡ length (rows_in list)
length-set_of-rows [] none = refl
length-set_of-rows (row r ∷ list) none =
    omega (arith, length-insert_key-new record_cmp record_cmp_exact r (set_of (rows_in list)) (λ h. rows_apart list r none.0 (Has-from_set_of r (rows_in list) h)), length-set_of-rows list none.1)
length-set_of-rows (seal key count ∷ list) none = length-set_of-rows list none.1
