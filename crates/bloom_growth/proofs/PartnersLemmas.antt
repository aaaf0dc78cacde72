-- Joins by a side: the rows that agree with a row are those that have its key.
use Rattle.std.proofs.Common.{◌&&◌, ◌||◌, ◌≡◌, ℕ, ◌+◌, ◌<◌, ◌≤◌, Bool, true, false, cond, List, [], ◌∷◌, ◌++◌, length, get_or, take, drop, filter, Result, Ok, Err, refl, ap, ◌∙◌, sym, subst, take-append-drop, arith, append_assoc, inl, inr}
use Rattle.std.proofs.lemmas.Bool.{cases_Bool}
use Rattle.std.proofs.lemmas.List.{take_more, append-nil}
use Rattle.std.proofs.lemmas.List.Concat.{flat_map-append}
use Rattle.std.proofs.lemmas.List.Elements.{filter_agree}
use Rattle.std.specs.List.{list_any, flat_map}
use Rattle.std.specs.Ordering.{is_eq, eq_by_cmp}
use Rattle.std.specs.BTreeMap.{BTreeMap}
use Rattle.blz_value.specs.Value.{value_cmp}
use Rattle.blz_value.specs.ValueOrder.{value_cmp_total}
use Rattle.blz_value.specs.Test.{cell}
use Rattle.blz_value.specs.Members.{Has}
use Rattle.blz_value.specs.Record.{Row, record_cmp}
use Rattle.blz_value.specs.Sets.{set_of, IsRowSet}
use Rattle.blz_value.specs.Operators.{Pairs, agree, cells}
use Rattle.blz_value.specs.Groups.{with_key}
use Rattle.blz_value.proofs.Membership.{append_within, Has-filter, Has-from_any}
use Rattle.blz_value.proofs.RowSets.{same_set_of, set_of-sorted, set_of-append_set, length-set_of-append_right}
use Rattle.blz_value.proofs.SetLaws.{sorted_set_of, Has-set_of, Has-from_set_of}
use Rattle.blz_value.proofs.Lists.{eq_turned, eq_first}
use Rattle.blz_set.specs.declared.fault.SetFault.{SetFault}
use Rattle.blz_set.specs.declared.fault.SetFault.TheVariants.{TooManyRows, NoMemory}
use Rattle.blz_set.specs.RecordSet.{row_limit}
use Rattle.blz_set.specs.Pairs.{lefts_of, rights_of}
use Rattle.blz_set.specs.Answers.{Gives, Becomes}
use Rattle.blz_set.specs.Growth.{Grows}
use Rattle.blz_set.proofs.Joins.{too_many_grown, grown_by}
use Rattle.bloom_growth.specs.ByKey.{rows_found, AreByKey}

-- a right row agrees with a left row where it has the left row's key
pub right_has : (pairs : Pairs) (left right : Row) → agree pairs left right ≡ eq_by_cmp record_cmp (cells (rights_of pairs) right) (cells (lefts_of pairs) left)
right_has [] left right = refl
right_has (p ∷ pairs) left right =
    let a = cell left p.0 in
    let b = cell right p.1 in
    ap (λ x. x && agree pairs left right) (eq_turned (value_cmp a b) (value_cmp b a) (value_cmp_total.antisymm a b))
    ∙ ap (λ y. is_eq (value_cmp b a) && y) (right_has pairs left right)
    ∙ sym (eq_first (value_cmp b a) (record_cmp (cells (rights_of pairs) right) (cells (lefts_of pairs) left)))

-- and the left row has the right row's
left_has : (pairs : Pairs) (left right : Row) → agree pairs left right ≡ eq_by_cmp record_cmp (cells (lefts_of pairs) left) (cells (rights_of pairs) right)
left_has [] left right = refl
left_has (p ∷ pairs) left right =
    let a = cell left p.0 in
    let b = cell right p.1 in
    ap (λ y. is_eq (value_cmp a b) && y) (left_has pairs left right)
    ∙ sym (eq_first (value_cmp a b) (record_cmp (cells (lefts_of pairs) left) (cells (rights_of pairs) right)))

-- the partners of a left row
pub rights_agree : (pairs : Pairs) (columns : List ℕ) (left : Row) (rights found : List Row) (sets : BTreeMap Row (List Row)) → columns ≡ lefts_of pairs → AreByKey (rights_of pairs) rights sets
    → found ≡ rows_found sets (cells columns left) → found ≡ filter (agree pairs left) rights
rights_agree pairs columns left rights found sets same side is =
    is ∙ side (cells columns left) ∙ ap (λ (l : List ℕ). with_key (rights_of pairs) (cells l left) rights) same
    ∙ sym (filter_agree (agree pairs left) (λ (right : Row). eq_by_cmp record_cmp (cells (rights_of pairs) right) (cells (lefts_of pairs) left)) (λ right. right_has pairs left right) rights)

-- the partners of a right row
pub lefts_agree : (pairs : Pairs) (columns : List ℕ) (right : Row) (lefts found : List Row) (sets : BTreeMap Row (List Row)) → columns ≡ rights_of pairs → AreByKey (lefts_of pairs) lefts sets
    → found ≡ rows_found sets (cells columns right) → found ≡ filter (λ left. agree pairs left right) lefts
lefts_agree pairs columns right lefts found sets same side is =
    is ∙ side (cells columns right) ∙ ap (λ (l : List ℕ). with_key (lefts_of pairs) (cells l right) lefts) same
    ∙ sym (filter_agree (λ left. agree pairs left right) (λ (left : Row). eq_by_cmp record_cmp (cells (lefts_of pairs) left) (cells (rights_of pairs) right)) (λ left. left_has pairs left right) lefts)

-- ---- steps

-- one element more of what is made of each
pub flat_map_more : (f : Row → List Row) (xs : List Row) (i : ℕ) (x : Row) → i < length xs → x ≡ get_or xs i x → flat_map f (take (i + 1) xs) ≡ flat_map f (take i xs) ++ f x
flat_map_more f xs i x lt is =
    ap (flat_map f) (take_more xs i x lt ∙ ap (λ (r : Row). take i xs ++ r ∷ []) (sym is)) ∙ flat_map-append f (take i xs) (x ∷ []) ∙ ap (λ (l : List Row). flat_map f (take i xs) ++ l) (append-nil (f x))

pub flat_map_split : (f : Row → List Row) (n : ℕ) (xs : List Row) → flat_map f xs ≡ flat_map f (take n xs) ++ flat_map f (drop n xs)
flat_map_split f n xs = ap (flat_map f) (sym (take-append-drop n xs)) ∙ flat_map-append f (take n xs) (drop n xs)

-- one more of them is added to a set
pub added_more : (f : Row → List Row) (old set made xs : List Row) (i : ℕ) (x : Row) → i < length xs → x ≡ get_or xs i x → set ≡ set_of (old ++ flat_map f (take i xs)) → made ≡ f x
    → set_of (set ++ made) ≡ set_of (old ++ flat_map f (take (i + 1) xs))
added_more f old set made xs i x lt is e one =
    grown_by (old ++ flat_map f (take i xs)) (f x) (old ++ flat_map f (take (i + 1) xs)) set made e one
    (ap (λ (l : List Row). old ++ l) (flat_map_more f xs i x lt is) ∙ sym (append_assoc old (flat_map f (take i xs)) (f x)))

-- one more of them is gathered, to be added to a set
pub gathered_more : (f : Row → List Row) (old set rows made xs : List Row) (i : ℕ) (x : Row) → i < length xs → x ≡ get_or xs i x → set_of (set ++ rows) ≡ set_of (old ++ flat_map f (take i xs)) → made ≡ f x
    → set_of (set ++ (rows ++ made)) ≡ set_of (old ++ flat_map f (take (i + 1) xs))
gathered_more f old set rows made xs i x lt is e one =
    ap set_of (sym (append_assoc set rows made)) ∙ sym (set_of-append_set (set ++ rows) made) ∙ added_more f old (set_of (set ++ rows)) made xs i x lt is e one

-- a fault on the way, told what was gathered so far
pub gathered_fault : (old all done more gathered last : List Row) (fault : SetFault) → gathered ≡ set_of (old ++ done) → all ≡ done ++ more → (fault ≡ TooManyRows → row_limit < length gathered) → Grows {X = Unit {0}} old all last (Err fault)
gathered_fault old all done more gathered last TooManyRows is split over = too_many_grown old all done more split (subst (λ (l : List Row). row_limit < length l) is (over refl))
gathered_fault old all done more gathered last NoMemory is split over = tt

-- rows that are a set of their own are added to a set
pub union_all : (set rows more : List Row) → more ≡ set_of rows → set_of (set ++ more) ≡ set_of (set ++ rows)
union_all set rows more is = same_set_of (set ++ more) (set ++ rows) (
  append_within set more set rows (λ q h. h) (λ q h. Has-from_set_of q rows (subst (λ (l : List Row). Has q l) is h)),
  append_within set rows set more (λ q h. h) (λ q h. subst (λ (l : List Row). Has q l) (sym is) (Has-set_of q rows h)),
)

pub union_grows : {X : Type 0} (old rows more new : List Row) (r : Result X SetFault) → more ≡ set_of rows → Becomes {X = X} old (set_of (old ++ more)) new r → Grows {X = X} old rows new r
union_grows old rows more new (Ok x) is becomes = (becomes.0 ∙ union_all old rows more is, subst (λ (l : List Row). length l ≤ row_limit) (sym becomes.0) becomes.1)
union_grows old rows more new (Err TooManyRows) is becomes = subst (λ (l : List Row). row_limit < length l) (union_all old rows more is) becomes.1
union_grows old rows more new (Err NoMemory) is becomes = tt

-- rows that are too many by themselves are so with others
pub made_fault : (old rows new : List Row) (fault : SetFault) → Gives (set_of rows) (Err fault) → Grows {X = Unit {0}} old rows new (Err fault)
made_fault old rows new TooManyRows over = omega (arith, over, length-set_of-append_right old rows)
made_fault old rows new NoMemory h = tt

-- none are left of rows that were added
pub none_left : (set rows new left : List Row) → new ≡ set_of (set ++ rows) → left ≡ [] → set_of (new ++ left) ≡ set_of (set ++ rows)
none_left set rows new left is none =
    ap (λ (l : List Row). set_of (new ++ l)) none ∙ ap set_of (append-nil new) ∙ set_of-sorted new (subst IsRowSet (sym is) (sorted_set_of (set ++ rows))) ∙ is

-- all that was gathered is added
pub grown_all : {X : Type 0} (old all set rows new : List Row) (r : Result X SetFault) → set_of (set ++ rows) ≡ set_of (old ++ all) → Grows {X = X} set rows new r → Grows {X = X} old all new r
grown_all old all set rows new (Ok x) is grows = (grows.0 ∙ is, grows.1)
grown_all old all set rows new (Err TooManyRows) is over = subst (λ (l : List Row). row_limit < length l) is over
grown_all old all set rows new (Err NoMemory) is h = tt

-- ---- whether a row has a partner

pub none_found : (p : Row → Bool) (xs : List Row) → length (filter p xs) ≡ 0 → list_any p xs ≡ false
none_found p xs none = elim (cases_Bool (list_any p xs)) [
  | inl e ↦ let m = Has-from_any p xs e in absurd (empty (filter p xs) m.0 none (Has-filter p m.0 xs m.1 m.2))
  | inr e ↦ e
]
  where
    empty : (rows : List Row) (row : Row) → length rows ≡ 0 → Has row rows → ⊥
    empty [] row e h = h
    empty (r ∷ rows) row e h = omega arith

pub some_found : (p : Row → Bool) (xs : List Row) → (length (filter p xs) ≡ 0 → ⊥) → list_any p xs ≡ true
some_found p xs some = elim (cases_Bool (list_any p xs)) [
  | inl e ↦ e
  | inr e ↦ absurd (some (ap (length {A = Row}) (none p xs e)))
]
  where
    none_cons : (b : Bool) (x : Row) (xs : List Row) (rest : Bool) → (b || rest) ≡ false → (rest ≡ false → xs ≡ []) → cond b (x ∷ xs) xs ≡ []
    none_cons true x xs rest e h = cc
    none_cons false x xs rest e h = h e

    none : (p : Row → Bool) (xs : List Row) → list_any p xs ≡ false → filter p xs ≡ []
    none p [] e = refl
    none p (x ∷ xs) e = none_cons (p x) x (filter p xs) (list_any p xs) e (none p xs)
