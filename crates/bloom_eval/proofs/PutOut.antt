-- What is put out, by one more.
use Rattle.std.proofs.Common.{◌≡◌, ◌<◌, ap, ◌∙◌, subst, ℕ, zero, suc, List, [], ◌∷◌, ◌++◌, length, get_or, arith}
use Rattle.std.specs.List.{All}
use Rattle.std.proofs.lemmas.List.{map-append, append_assoc}
use Rattle.blz_value.specs.Record.{Row}
use Rattle.bloom_eval.specs.declared.puts.Put.{Put}
use Rattle.bloom_eval.specs.declared.puts.Put.TheVariants.{Arrived, Rows}
use Rattle.blz_pool.specs.Entries.{EntryId}
use Rattle.blz_value.proofs.Membership.{All-of_member, Has-from_map}
use Rattle.bloom_eval.specs.Puts.{put_rows, puts_in, IsPutOf, ArePutOf, IsPutFrom, ArePutFrom}
use Rattle.bloom_forms.specs.Step.{Sets}

-- a set that is put out stands for itself
pub put_more : (records : List Row) (puts : List Put) (set : List Row) (rest : Sets) → puts_in records (puts ++ Rows set ∷ []) ++ rest ≡ puts_in records puts ++ set ∷ rest
put_more records puts set rest =
    ap (λ (sets : Sets). sets ++ rest) (map-append (put_rows records) puts (Rows set ∷ [])) ∙ append_assoc (puts_in records puts) (set ∷ []) rest

-- and has no id
pub one_put : (entries : List EntryId) (set : List Row) → ArePutOf entries (Rows set ∷ [])
one_put entries set zero d lt = tt
one_put entries set (suc k) d lt = absurd (omega (arith, lt))

-- where a pool has the ids of some entries, it has those that are put out of them
from_pool : (records : List Row) (entries : List EntryId) → All (λ entry. entry.1 < length records) entries → (put : Put) → IsPutOf entries put → IsPutFrom records put
from_pool records entries given (Rows set) of = tt
from_pool records entries given (Arrived id) of =
    let m = Has-from_map (λ (entry : EntryId). entry.1) id entries of in
    subst (λ (n : ℕ). n < length records) m.2 (All-of_member (λ (entry : EntryId). entry.1 < length records) entries m.0 given m.1)

pub put_from_pool : (records : List Row) (entries : List EntryId) (puts : List Put) → All (λ entry. entry.1 < length records) entries → ArePutOf entries puts → ArePutFrom records puts
put_from_pool records entries puts given of k d lt = from_pool records entries given (get_or puts k d) (of k d lt)
