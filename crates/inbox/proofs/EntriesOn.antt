-- What ids stand for in a pool they stand for where records come behind.
use Rattle.std.proofs.Common.{◌≡◌, ◌<◌, ℕ, suc, List, [], ◌∷◌, ◌++◌, length, get_or, refl, ap, ◌∙◌, subst, arith, length-append}
use Rattle.std.specs.List.{All}
use Rattle.std.proofs.lemmas.List.{get_or_append_left}
use Rattle.blz_pool.specs.Entries.{EntryId, row_with_id, entry_with_id, entries_with_ids}
use Rattle.blz_value.specs.Record.{Row}
use Rattle.bloom_eval.specs.Puts.{put_rows, puts_in, IsPutFrom, ArePutFrom}
use Rattle.bloom_eval.specs.declared.puts.Put.{Put}
use Rattle.bloom_eval.specs.declared.puts.Put.TheVariants.{Arrived, Rows}
use Rattle.messages.specs.Messages.{Entry}
use Rattle.inbox.specs.Growth.{Continues}

row-longer : (records more : List Row) (id : ℕ) → id < length records → row_with_id (records ++ more) id ≡ row_with_id records id
row-longer records more id given = get_or_append_left records more [] id given

-- ---- entries

entries-longer : (records more : List Row) (entries : List EntryId) → All (λ entry. entry.1 < length records) entries → entries_with_ids (records ++ more) entries ≡ entries_with_ids records entries
entries-longer records more [] given = refl
entries-longer records more (e ∷ entries) given =
    ap (λ r. let x : Entry = (e.0, r) in x ∷ entries_with_ids (records ++ more) entries) (row-longer records more e.1 (given 0 e (omega arith)))
    ∙ ap (λ l. entry_with_id records e ∷ l) (entries-longer records more entries (λ k d within. given (suc k) d (omega arith)))

pub entries_on : (records later : List Row) (entries : List EntryId) → Continues records later → All (λ entry. entry.1 < length records) entries → entries_with_ids later entries ≡ entries_with_ids records entries
entries_on records later entries on given = subst (λ l. entries_with_ids l entries ≡ entries_with_ids records entries) on.with_more (entries-longer records on.more entries given)

pub length_on : (records later : List Row) (id : ℕ) → Continues records later → id < length records → id < length later
length_on records later id on given = subst (λ l. id < length l) on.with_more (omega (arith, length-append records on.more))

pub given_on : (records later : List Row) (entries : List EntryId) → Continues records later → All (λ entry. entry.1 < length records) entries → All (λ entry. entry.1 < length later) entries
given_on records later entries on given k d within = length_on records later (get_or entries k d).1 on (given k d within)

-- ---- what is put out

put-longer : (records more : List Row) (put : Put) → IsPutFrom records put → put_rows (records ++ more) put ≡ put_rows records put
put-longer records more (Arrived id) given = ap (λ r. r ∷ []) (row-longer records more id given)
put-longer records more (Rows rows) given = refl

puts-longer : (records more : List Row) (puts : List Put) → ArePutFrom records puts → puts_in (records ++ more) puts ≡ puts_in records puts
puts-longer records more [] given = refl
puts-longer records more (put ∷ puts) given =
    ap (λ rows. rows ∷ puts_in (records ++ more) puts) (put-longer records more put (given 0 put (omega arith)))
    ∙ ap (λ l. put_rows records put ∷ l) (puts-longer records more puts (λ k d within. given (suc k) d (omega arith)))

pub puts_on : (records later : List Row) (puts : List Put) → Continues records later → ArePutFrom records puts → puts_in later puts ≡ puts_in records puts
puts_on records later puts on given = subst (λ l. puts_in l puts ≡ puts_in records puts) on.with_more (puts-longer records on.more puts given)

put_on : (records later : List Row) (put : Put) → Continues records later → IsPutFrom records put → IsPutFrom later put
put_on records later (Arrived id) on given = length_on records later id on given
put_on records later (Rows rows) on given = tt

pub put_from_on : (records later : List Row) (puts : List Put) → Continues records later → ArePutFrom records puts → ArePutFrom later puts
put_from_on records later puts on given k d within = put_on records later (get_or puts k d) on (given k d within)
