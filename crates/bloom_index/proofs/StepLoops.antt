-- Loops of a step: what the collections begin with, one after the other, and which head is next.
use Rattle.std.proofs.Common.{◌≡◌, ◌<◌, ◌≤◌, ◌+◌, ℕ, zero, suc, Bool, ◌∷◌, ◌++◌, [], drop, get_or, List, length, Option, None, Some, Result, Err, refl, ap, ◌∙◌, sym, subst, ◌⊎◌, inl, inr, arith}
use Rattle.std.specs.Prelude.{slice_get, slice_index_or, slice_set}
use Rattle.std.specs.Option.{option_map}
use Rattle.std.specs.Result.{IsErrAnd}
use Rattle.std.proofs.lemmas.Bool.{cases_eq, cases_lt}
use Rattle.std.proofs.lemmas.List.{drop_more, length-append, get_or_past}
use Rattle.std.proofs.lemmas.Option.{slice_get-get_or, slice_get_read, same_Some}
use Rattle.blz_value.specs.Record.{Row}
use Rattle.blz_set.specs.RecordSet.{IsRecordSet}
use Rattle.blz_set.proofs.RecordSets.{none_is_set}
use Rattle.blz_set.specs.declared.fault.SetFault.{SetFault}
use Rattle.blz_set.specs.declared.fault.SetFault.TheVariants as set
use Rattle.bloom_forms.specs.declared.module.Kind.{Kind}
use Rattle.bloom_forms.specs.declared.module.Kind.TheVariants.{Input}
use Rattle.bloom_forms.specs.declared.module.Collection.{Collection}
use Rattle.bloom_forms.specs.Kinds.{kind_at, place_in_kind}
use Rattle.bloom_forms.specs.Step.{Sets, set_at, begun, at_start}
use Rattle.bloom_forms.proofs.Ends.Equated.{starts}
use Rattle.bloom_eval.specs.declared.fault.StepFault.{StepFault}
use Rattle.bloom_eval.specs.declared.fault.StepFault.TheVariants.{TooManyRows, NoMemory}
use Rattle.bloom_eval.specs.StepAnswers.{step_fault}
use Rattle.bloom_parts.specs.declared.change.Change.{Change}
use Rattle.bloom_index.specs.Code.StepSets.{IsBegunAt, AreBegunAt}
use Rattle.bloom_index.proofs.HeadRulesLemmas.{got_set}

-- ---- the beginning

got_push : {X : Type 0} (xs : List X) (x y : X) (k : ℕ) → slice_get (xs ++ x ∷ []) k ≡ Some y → (slice_get xs k ≡ Some y) ⊎ ((k ≡ length xs) × (x ≡ y))
got_push [] x y zero at = inr (refl, same_Some x y at)
got_push [] x y (suc k) at = absurd (let bad : None ≡ Some y = at in cc)
got_push (z ∷ xs) x y zero at = inl at
got_push (z ∷ xs) x y (suc k) at = elim (got_push xs x y k at) [ inl here ↦ inl here | inr last ↦ inr (ap suc last.0, last.1) ]

pub none_begun : (cs : List Collection) (lasting : List Bool) (now : Sets) (held : List Change) → held ≡ [] → AreBegunAt cs lasting now 0 held
none_begun cs lasting now held none = subst (AreBegunAt cs lasting now 0) (sym none) (record { many = refl; each = λ k change at. absurd (let bad : None ≡ Some change = at in cc) })

pub begun_more : (cs : List Collection) (lasting : List Bool) (now : Sets) (i : ℕ) (held held2 : List Change) (change : Change) → held2 ≡ held ++ change ∷ [] → IsBegunAt cs lasting now i change → AreBegunAt cs lasting now i held → AreBegunAt cs lasting now (i + 1) held2
begun_more cs lasting now i held held2 change put own b = record {
  many = ap length put ∙ length-append held (change ∷ []) ∙ ap (λ n. n + 1) b.many;
  each = λ k c at. elim (got_push held change c k (ap (λ (l : List Change). slice_get l k) (sym put) ∙ at)) [
    | inl here ↦ b.each k c here
    | inr last ↦ subst (λ (x : Change). IsBegunAt cs lasting now k x) last.1 (subst (λ (j : ℕ). IsBegunAt cs lasting now j change) (sym (last.0 ∙ b.many)) own)
  ];
}

-- the kind of a collection that was read
pub kind_read : (cs : List Collection) (i : ℕ) (c : Collection) → i < length cs → c ≡ get_or cs i c → kind_at cs i ≡ Some c.kind
kind_read cs i c lt is = ap (option_map (λ (d : Collection). d.kind)) (slice_get-get_or cs i c lt ∙ ap Some (sym is))

-- what a collection of a kind begins with
pub begun_at_kind : (cs : List Collection) (now : Sets) (i port : ℕ) (c : Collection) (rows : List Row) → i < length cs → c ≡ get_or cs i c → port ≡ place_in_kind Input cs i → rows ≡ begun (Some c.kind) [] (set_at now port) → rows ≡ set_at (at_start cs [] now) i
begun_at_kind cs now i port c rows lt is at made =
    let kind = kind_read cs i c lt is in
    made
    ∙ ap (λ (p : ℕ). begun (Some c.kind) [] (set_at now p)) at
    ∙ sym (ap (λ (o : Option Kind). begun o [] (set_at now (place_in_kind Input cs i))) kind)
    ∙ sym (starts cs [] now i)

-- each set is known where those within are
pub all_known : (rows : Sets) (count : ℕ) → length rows ≤ count → ((k : ℕ) → k < count → IsRecordSet (set_at rows k)) → (k : ℕ) → IsRecordSet (set_at rows k)
all_known rows count le each k = elim (cases_lt k count) [
  | inl lt ↦ each k lt
  | inr past ↦ subst IsRecordSet (sym (get_or_past rows k [] (omega (arith, le, past)))) none_is_set
]

pub known_more : (rows : Sets) (i : ℕ) → ((k : ℕ) → k < i → IsRecordSet (set_at rows k)) → IsRecordSet (set_at rows i) → (k : ℕ) → k < i + 1 → IsRecordSet (set_at rows k)
known_more rows i each own k lt = elim (cases_eq k i) [
  | inl e ↦ subst (λ (j : ℕ). IsRecordSet (set_at rows j)) (sym e) own
  | inr differ ↦ each k (omega (arith, lt, differ))
]

-- ---- one of a list

-- what is read at a place is what stands there
pub read_is : {X : Type 0} (xs : List X) (i : ℕ) (x y : X) → i < length xs → x ≡ slice_index_or xs i x → slice_get xs i ≡ Some y → x ≡ y
read_is xs i x y lt is at = same_Some x y (sym (slice_get_read xs (length xs) i x refl lt is) ∙ at)

-- and what is put at a place
pub put_is : {X : Type 0} (xs : List X) (i : ℕ) (x y : X) → i < length xs → slice_get (slice_set xs i x) i ≡ Some y → x ≡ y
put_is xs i x y lt at = same_Some x y (sym (got_set xs i x lt) ∙ at)

-- ---- faults

-- a fault of a set that a step hands on
pub fault_is : {X : Type 0} (r : Result X StepFault) (fault : SetFault) → IsErrAnd r (λ d. d ≡ step_fault fault) → r ≡ Err TooManyRows → fault ≡ set.TooManyRows
fault_is r set.TooManyRows is many = refl
fault_is {X = X} r set.NoMemory is many = absurd (let bad : TooManyRows ≡ NoMemory = subst (λ (z : Result X StepFault). IsErrAnd z (λ d. d ≡ NoMemory)) many is in cc)

-- one of some things, and those behind it
pub one_left : (P : List ℕ → Type 0) (heads read : List ℕ) (i : ℕ) → read ≡ heads → i < length read → P (drop i heads) → P (get_or read i 0 ∷ drop (i + 1) heads)
one_left P heads read i same lt p =
    let within : i < length heads = omega (arith, lt, ap (length {A = ℕ}) same) in
    subst P (drop_more heads i 0 within ∙ ap (λ (l : List ℕ). get_or l i 0 ∷ drop (i + 1) heads) (sym same)) p
