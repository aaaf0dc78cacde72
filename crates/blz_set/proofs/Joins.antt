-- A join, row by row.
use Rattle.std.proofs.Common.{◌&&◌, ◌||◌, not, ◌≡◌, ℕ, ◌+◌, ◌<◌, Bool, true, false, cond, List, [], ◌∷◌, ◌++◌, length, get_or, take, drop, map, filter, Err, refl, ap, ◌∙◌, sym, subst, take-append-drop, arith}
use Rattle.std.proofs.lemmas.List.{map-append, take_more, append_assoc, append-nil}
use Rattle.std.proofs.lemmas.List.Concat.{flat_map-append}
use Rattle.std.proofs.lemmas.List.Elements.{filter_agree}
use Rattle.std.specs.List.{list_any, enumerate_from}
use Rattle.std.specs.Ordering.{is_eq}
use Rattle.blz_value.specs.Value.{value_cmp}
use Rattle.blz_value.specs.ValueOrder.{value_cmp_total}
use Rattle.blz_value.specs.Test.{cell}
use Rattle.blz_value.specs.Record.{Row, record_cmp}
use Rattle.blz_value.specs.Sets.{set_of}
use Rattle.blz_value.specs.Operators.{Pairs, agree, is_paired, joined, join_rows, cells}
use Rattle.blz_value.specs.Groups.{with_key}
use Rattle.blz_value.proofs.RowSets.{set_of-push, set_of-append_set, length-set_of-append_left}
use Rattle.blz_value.proofs.Lists.{eq_turned, eq_first}
use Rattle.blz_set.specs.declared.fault.SetFault.{SetFault}
use Rattle.blz_set.specs.declared.fault.SetFault.TheVariants.{TooManyRows, NoMemory}
use Rattle.blz_set.specs.RecordSet.{row_limit}
use Rattle.blz_set.specs.declared.entry.Entry.{Entry}
use Rattle.blz_set.specs.Code.Entry.{row_of, rows_of}
use Rattle.blz_set.specs.Code.Index.{has_key, HaveSameRuns}
use Rattle.blz_set.specs.Pairs.{lefts_of, rights_of}
use Rattle.blz_set.specs.Answers.{Gives, Becomes}
use Rattle.blz_set.specs.Growth.{Grows}
use Rattle.blz_set.proofs.Keys.{rows_of_more}

-- the values from a column on whose columns stand in no pair
abbrev pub unpaired_from : Pairs → ℕ → Row → Row
unpaired_from pairs column values = map (λ place. place.1) (filter (λ place. not (is_paired pairs place.0)) (enumerate_from column values))

-- ---- the rows that agree are those with the key

agree_is : (pairs : Pairs) (left right : Row) → agree pairs left right ≡ has_key (rights_of pairs) (cells (lefts_of pairs) left) right
agree_is [] left right = refl
agree_is (p ∷ pairs) left right =
    let a = cell left p.0 in
    let b = cell right p.1 in
    ap (λ x. x && agree pairs left right) (eq_turned (value_cmp a b) (value_cmp b a) (value_cmp_total.antisymm a b))
    ∙ ap (λ y. is_eq (value_cmp b a) && y) (agree_is pairs left right)
    ∙ sym (eq_first (value_cmp b a) (record_cmp (cells (rights_of pairs) right) (cells (lefts_of pairs) left)))

agreeing : (pairs : Pairs) (left : Row) (rights : List Row) → filter (agree pairs left) rights ≡ with_key (rights_of pairs) (cells (lefts_of pairs) left) rights
agreeing pairs left rights = filter_agree (agree pairs left) (has_key (rights_of pairs) (cells (lefts_of pairs) left)) (λ right. agree_is pairs left right) rights

any_step : {X : Type 0} (p : X → Bool) (x : X) (xs : List X) (b : Bool) → p x ≡ b → list_any p xs ≡ list_any p (filter p xs) → (b || list_any p xs) ≡ list_any p (cond b (x ∷ filter p xs) (filter p xs))
any_step p x xs true e more = rw e refl
any_step p x xs false e more = more

any_filter : {X : Type 0} (p : X → Bool) (xs : List X) → list_any p xs ≡ list_any p (filter p xs)
any_filter p [] = refl
any_filter p (x ∷ xs) = any_step p x xs (p x) refl (any_filter p xs)

-- ---- the rows of an index of the other side

module _ (pairs : Pairs) (left : Row) (others rows ordered : List Row) (columns rs ls : List ℕ) (of_index : columns ≡ rs) (of_rights : rs ≡ rights_of pairs) (of_lefts : ls ≡ lefts_of pairs) (runs : HaveSameRuns rs ordered rows) (all : rows ≡ others) where
  same_run : with_key columns (cells ls left) ordered ≡ filter (agree pairs left) others
  same_run =
      ap (λ r. with_key r (cells ls left) ordered) of_index ∙ runs (cells ls left) ∙ ap (with_key rs (cells ls left)) all
      ∙ ap (λ r. with_key r (cells ls left) others) of_rights ∙ ap (λ l. with_key (rights_of pairs) (cells l left) others) of_lefts ∙ sym (agreeing pairs left others)

  pub run_agrees : (run : List Entry) → rows_of run ≡ with_key columns (cells ls left) ordered → map (joined pairs left) (rows_of run) ≡ map (joined pairs left) (filter (agree pairs left) others)
  run_agrees run e = ap (map (joined pairs left)) (e ∙ same_run)

  pub has_agrees : (found : Bool) → found ≡ list_any (has_key columns (cells ls left)) ordered → found ≡ list_any (agree pairs left) others
  has_agrees found e =
      e ∙ any_filter (has_key columns (cells ls left)) ordered ∙ ap (list_any (has_key columns (cells ls left))) same_run
      ∙ ap (λ r. list_any (has_key r (cells ls left)) (filter (agree pairs left) others)) (of_index ∙ of_rights)
      ∙ ap (λ l. list_any (has_key (rights_of pairs) (cells l left)) (filter (agree pairs left) others)) of_lefts
      ∙ ap (λ p. list_any p (filter (agree pairs left) others)) (λ i right. sym (agree_is pairs left right) i)
      ∙ sym (any_filter (agree pairs left) others)

-- ---- steps

module _ (pairs : Pairs) (left : Row) where
  pub joined_more : (run : List Entry) (i : ℕ) (r : Entry) → i < length run → r ≡ get_or run i r → map (joined pairs left) (rows_of (take (i + 1) run)) ≡ map (joined pairs left) (rows_of (take i run)) ++ joined pairs left (row_of r) ∷ []
  joined_more run i r lt is = ap (map (joined pairs left)) (rows_of_more run i r lt is) ∙ map-append (joined pairs left) (rows_of (take i run)) ((row_of r) ∷ [])

  pub joined_split : (n : ℕ) (run : List Entry) → map (joined pairs left) (rows_of run) ≡ map (joined pairs left) (rows_of (take n run)) ++ map (joined pairs left) (rows_of (drop n run))
  joined_split n run =
      ap (λ (l : List Entry). map (joined pairs left) (rows_of l)) (sym (take-append-drop n run))
      ∙ ap (map (joined pairs left)) (map-append row_of (take n run) (drop n run)) ∙ map-append (joined pairs left) (rows_of (take n run)) (rows_of (drop n run))

module _ (pairs : Pairs) (rights : List Row) where
  joins : Row → List Row
  joins left = map (joined pairs left) (filter (agree pairs left) rights)

  pub join_rows_more : (lefts : List Row) (i : ℕ) (left : Row) → i < length lefts → left ≡ get_or lefts i left → join_rows pairs (take (i + 1) lefts) rights ≡ join_rows pairs (take i lefts) rights ++ map (joined pairs left) (filter (agree pairs left) rights)
  unfolding joins
  join_rows_more lefts i left below is =
      ap (λ rows. join_rows pairs rows rights) (take_more lefts i left below ∙ ap (λ r. take i lefts ++ r ∷ []) (sym is))
      ∙ flat_map-append joins (take i lefts) (left ∷ [])
      ∙ ap (λ rows. join_rows pairs (take i lefts) rights ++ rows) (append-nil (joins left))

  pub join_rows_split : (n : ℕ) (lefts : List Row) → join_rows pairs lefts rights ≡ join_rows pairs (take n lefts) rights ++ join_rows pairs (drop n lefts) rights
  unfolding joins
  join_rows_split n lefts = ap (λ rows. join_rows pairs rows rights) (sym (take-append-drop n lefts)) ∙ flat_map-append joins (take n lefts) (drop n lefts)

-- ---- growing sets

-- a set that has grown, and grows by one row more
pub grown_once : (old more most set : List Row) (row : Row) → set ≡ set_of (old ++ more) → most ≡ more ++ row ∷ [] → set_of (row ∷ set) ≡ set_of (old ++ most)
grown_once old more most set row e one =
    ap (λ rows. set_of (row ∷ rows)) e ∙ sym (set_of-push row (set_of (old ++ more))) ∙ set_of-append_set (old ++ more) (row ∷ []) ∙ ap set_of (append_assoc old more (row ∷ []) ∙ ap (λ rows. old ++ rows) (sym one))

-- a set of some rows that grows by others
pub grown_by : (done more most set made : List Row) → set ≡ set_of done → made ≡ more → most ≡ done ++ more → set_of (set ++ made) ≡ set_of most
grown_by done more most set made e new all =
    ap (λ rows. set_of (rows ++ made)) e ∙ set_of-append_set done made ∙ ap (λ rows. set_of (done ++ rows)) new ∙ ap set_of (sym all)

-- too many on the way are too many in the end
pub too_many_later : (all done more : List Row) → all ≡ done ++ more → row_limit < length (set_of done) → row_limit < length (set_of all)
too_many_later all done more e h = rw e (omega (arith, length-set_of-append_left done more))

pub too_many_grown : (old all done more : List Row) → all ≡ done ++ more → row_limit < length (set_of (old ++ done)) → row_limit < length (set_of (old ++ all))
too_many_grown old all done more e h = too_many_later (old ++ all) (old ++ done) more (ap (λ rows. old ++ rows) e ∙ sym (append_assoc old done more)) h

-- ---- faults that are handed on

pub grows_from_insert : (X Y : Type 0) (old rows start all new : List Row) (fault : SetFault) → Becomes {X = X} old rows new (Err fault) → (row_limit < length rows → row_limit < length (set_of (start ++ all))) → Grows {X = Y} start all new (Err fault)
grows_from_insert X Y old rows start all new TooManyRows h later = later h.1
grows_from_insert X Y old rows start all new NoMemory h later = tt

pub gives_from_grows : (X : Type 0) (start rows new all : List Row) (fault : SetFault) → Grows {X = X} start rows new (Err fault) → (row_limit < length (set_of (start ++ rows)) → row_limit < length all) → Gives all (Err fault)
gives_from_grows X start rows new all TooManyRows h later = later h
gives_from_grows X start rows new all NoMemory h later = tt
