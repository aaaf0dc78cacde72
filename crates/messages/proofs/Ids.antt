-- What one message more keeps of the lists, and a placing of the pool.
use Rattle.std.proofs.Common.{◌≡◌, ◌<◌, ◌≤◌, ◌+◌, ◌*◌, ℕ, Option, None, Some, List, [], ◌∷◌, ◌++◌, length, set, get_or, replicate, refl, ap, ◌∙◌, sym, subst, inl, inr, arith, length-append}
use Rattle.std.specs.Prelude.{if◌then◌else◌, is_some, Result, Ok, Err, OnOk, OnErr}
use Rattle.std.specs.List.{All}
use Rattle.std.proofs.lemmas.Bool.{cases_eq, cases_lt}
use Rattle.std.proofs.lemmas.List.{get_or-set_same, get_or-set_other, get_or_append_left, get_or_push, length-set, get_or_default, get_or-replicate, length-replicate}
use Rattle.std.proofs.lemmas.List.Sums.{sum_by-set}
use Rattle.std.proofs.lemmas.List.Folds.{sum_by-replicate}
use Rattle.blz_pool.specs.Pool.{number_of, with_record}
use Rattle.blz_pool.proofs.Records.{number_of-none, number_of-lacks}
use Rattle.blz_value.specs.Record.{Row as Record}
use Rattle.messages.specs.Emitted.{Continues}
use Rattle.messages.specs.Ids.{IsGiven}
use Rattle.messages.specs.declared.message.Message.{Message as IdMessage}
use Rattle.messages.proofs.EmittedLemmas.{continues_itself}
use Rattle.messages.specs.Lists.{message_limit, total}
use Rattle.messages.proofs.ListsLemmas.{IsPlaced, placed-on}

-- ---- what holds of all lists, one message more

pub given_push : (records : List Record) (list : List IdMessage) (m : IdMessage) → All (IsGiven records) list → IsGiven records m → All (IsGiven records) (list ++ m ∷ [])
given_push records list m all given k d within = elim (cases_lt k (length list)) [
  | inl old ↦ subst (IsGiven records) (sym (get_or_append_left list (m ∷ []) d k old)) (all k d old)
  | inr more ↦
      let last : length list ≡ k = omega (arith, length-append list (m ∷ [])) in
      subst (IsGiven records) (sym (get_or_push list m d k last)) given
]

pub given_set : (records : List Record) (lists : List (List IdMessage)) (place : ℕ) (list : List IdMessage) → All (All (IsGiven records)) lists → All (IsGiven records) list → All (All (IsGiven records)) (set lists place list)
given_set records lists place list all given k d within =
    let inside : k < length lists = omega (arith, within, length-set lists place list) in
    elim (cases_eq k place) [
      | inl same ↦ subst (All (IsGiven records)) (sym (ap (λ n. get_or (set lists place list) n d) same ∙ get_or-set_same lists place list d (subst (λ n. n < length lists) same inside))) given
      | inr differ ↦ subst (All (IsGiven records)) (sym (get_or-set_other lists place k list d differ)) (all k d inside)
    ]

-- what a push of a message keeps
pub pushed_keeps : (records : List Record) (lists : List (List IdMessage)) (place count : ℕ) (m : IdMessage) (old new : List IdMessage)
    → All (All (IsGiven records)) lists → count ≡ total lists → count ≤ message_limit → (count ≡ message_limit → ⊥) → place < length lists → IsGiven records m → old ≡ get_or lists place old → new ≡ old ++ m ∷ []
    → All (All (IsGiven records)) (set lists place new) × (count + 1 ≡ total (set lists place new)) × (count + 1 ≤ message_limit)
pushed_keeps records lists place count m old new all counted few more within given at is =
    let same : old ≡ get_or lists place [] = at ∙ get_or_default lists place old [] within in
    let longer : length new ≡ length (get_or lists place []) + 1 = ap length is ∙ length-append old (m ∷ []) ∙ ap (λ l. length l + 1) same in (
      given_set records lists place new all (subst (All (IsGiven records)) (sym is) (given_push records old m (subst (All (IsGiven records)) (sym same) (all place [] within)) given)),
      omega (arith, sum_by-set length lists place new [] within, longer, counted),
      omega (arith, few, more),
    )

pub empty_keeps : (records : List Record) (lists : List (List IdMessage)) (n : ℕ) → lists ≡ replicate n [] → All (All (IsGiven records)) lists × (0 ≡ total lists) × (0 ≤ message_limit)
empty_keeps records lists n are = (
  λ k d within j e inside.
      let here : k < n = omega (arith, within, ap length are, length-replicate {A = List IdMessage} n []) in
      let none : get_or lists k d ≡ [] = ap (λ l. get_or l k d) are ∙ get_or-replicate n k [] d here in
      absurd (omega (arith, inside, ap length none)),
  sym (ap total are ∙ sum_by-replicate length n [] ∙ (let e : n * 0 ≡ 0 = omega arith in e)),
  omega arith,
)

-- ---- the pool after a placing

pub placed_with : (old new : List Record) (r : Record) → new ≡ with_record old r → IsPlaced old new r
placed_with old new r is = by_number (number_of old r) refl
  where
    with_number : (o : Option ℕ) → number_of old r ≡ o → new ≡ (if is_some o then old else old ++ r ∷ [])
    with_number o e = is ∙ ap (λ p. if is_some p then old else old ++ r ∷ []) e

    by_number : (o : Option ℕ) → number_of old r ≡ o → IsPlaced old new r
    by_number None e = record {
      known = λ h. absurd (number_of-none old r e h);
      last = λ fresh. with_number None e;
    }
    by_number (Some n) e = record {
      known = λ h. with_number (Some n) e;
      last = λ fresh. let no : Some n ≡ None = sym e ∙ number_of-lacks old r fresh in cc;
    }

-- so it goes on, whether the record is placed or not
pub pool_on : {E : Type 0} (answer : Result ℕ E) (old new : List Record) (r : Record) → OnOk answer (new ≡ with_record old r) → OnErr answer (new ≡ old) → Continues old new
pool_on (Ok id) old new r placed same = placed-on old new r (placed_with old new r placed)
pool_on (Err fault) old new r placed same = subst (Continues old) (sym same) (continues_itself old)
