-- What is put out at an output, read in a pool.
use Rattle.std.proofs.Common.{◌≡◌, ◌<◌, ◌≤◌, ◌+◌, ◌⊎◌, ℕ, None, Some, List, [], ◌∷◌, length, get_or, slice_get, ap, ◌∙◌, sym, subst, inl, inr, arith}
use Rattle.std.specs.List.Sorted.{IsStrictlySortedBy}
use Rattle.std.proofs.lemmas.Bool.{cases_lt}
use Rattle.std.proofs.lemmas.List.{get_or-map, length-map, get_or_past}
use Rattle.std.proofs.lemmas.Option.{slice_get_within, get_or_from_slice_get, slice_get_cases}
use Rattle.blz_value.specs.Record.{Row}
use Rattle.blz_value.specs.Sets.{IsRowSet}
use Rattle.blz_value.proofs.SetLaws.{sorted_set_of}
use Rattle.bloom_eval.specs.Puts.{put_rows, puts_in, IsPutFrom, ArePutFrom}
use Rattle.bloom_eval.specs.declared.puts.Put.{Put}
use Rattle.bloom_eval.specs.declared.puts.Put.TheVariants.{Arrived}
use Rattle.blz_pool.specs.Entries.{row_with_id}
use Rattle.bloom_forms.specs.Step.{set_at}
use Rattle.inbox.specs.Emission.{with_rows}
use Rattle.messages.specs.Lists.{Listed, OneListBecomes, list_at, read_lists}
use Rattle.messages.proofs.ListLoops.{becomes_itself}

-- what is put out at an output that is there
pub put_read : (records : List Row) (puts : List Put) (output : ℕ) (put : Put) → Some put ≡ slice_get puts output → set_at (puts_in records puts) output ≡ put_rows records put
put_read records puts output put found =
    get_or-map (put_rows records) puts output put [] (slice_get_within puts output put (sym found))
    ∙ ap (put_rows records) (get_or_from_slice_get puts output put put (sym found))

-- and where none is
past_end : (puts : List Put) (output : ℕ) → None ≡ slice_get puts output → length puts ≤ output
past_end puts output none = past (slice_get_cases puts output).1
  where
    past : ((x : Put) × (output < length puts) × (slice_get puts output ≡ Some x) × (get_or puts output x ≡ x)) ⊎ ((length puts ≤ output) × (slice_get puts output ≡ None)) → length puts ≤ output
    past (inl t) = let no : None ≡ Some t.0 = none ∙ t.2 in cc
    past (inr t) = t.0

-- nothing is put out
pub becomes_none : (l : Listed) (place : ℕ) (puts : List Put) (output : ℕ) → None ≡ slice_get puts output → OneListBecomes l l place (with_rows (list_at (read_lists l) place) (set_at (puts_in l.records puts) output))
becomes_none l place puts output none =
    let past = past_end puts output none in
    subst (λ rows. OneListBecomes l l place (with_rows (list_at (read_lists l) place) rows))
    (sym (get_or_past (puts_in l.records puts) output [] (omega (arith, past, length-map puts (put_rows l.records))))) (becomes_itself l place)

-- an id that is put out is the pool's
pub put_given : (records : List Row) (puts : List Put) (output : ℕ) (put : Put) → ArePutFrom records puts → Some put ≡ slice_get puts output → IsPutFrom records put
put_given records puts output put given found =
    subst (IsPutFrom records) (get_or_from_slice_get puts output put put (sym found)) (given output put (slice_get_within puts output put (sym found)))

-- each output that was walked over is a set, and so is each past the end
pub sets_all : (puts items : List Put) (i : ℕ) → items ≡ puts → length items ≤ i → ((records : List Row) (k : ℕ) → k < i → IsRowSet (set_at (puts_in records puts) k)) → (records : List Row) (n : ℕ) → IsRowSet (set_at (puts_in records puts) n)
sets_all puts items i same past all records n = elim (cases_lt n i) [
  | inl within ↦ all records n within
  | inr more ↦ subst IsRowSet (sym (get_or_past (puts_in records puts) n [] (omega (arith, past, more, ap length same, length-map puts (put_rows records))))) (sorted_set_of [])
]

-- one output more
pub sets_more : (puts items : List Put) (i : ℕ) (put : Put) → items ≡ puts → i < length items → put ≡ get_or items i put → ((records : List Row) (k : ℕ) → k < i → IsRowSet (set_at (puts_in records puts) k)) → ((records : List Row) → IsRowSet (put_rows records put))
    → (records : List Row) (k : ℕ) → k < i + 1 → IsRowSet (set_at (puts_in records puts) k)
sets_more puts items i put same within at all set records k less = elim (cases_lt k i) [
  | inl before ↦ all records k before
  | inr past ↦
      let last : k ≡ i = omega arith in
      subst (λ n. IsRowSet (set_at (puts_in records puts) n)) (sym last)
      (subst (λ l. IsRowSet (set_at (puts_in records l) i)) same
      (subst IsRowSet (sym (get_or-map (put_rows records) items i put [] within ∙ ap (put_rows records) (sym at))) (set records)))
]

-- one record is a set
pub one_row_set : (row : Row) → IsRowSet (row ∷ [])
unfolding IsStrictlySortedBy
one_row_set row = (tt, tt)

-- a record that arrived is a set
pub arrived_is_set : (put : Put) (id : ℕ) → put ≡ Arrived id → (records : List Row) → IsRowSet (put_rows records put)
arrived_is_set put id is records = subst (λ p. IsRowSet (put_rows records p)) (sym is) (one_row_set (row_with_id records id))
