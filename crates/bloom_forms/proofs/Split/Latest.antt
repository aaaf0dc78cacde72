-- The output of Latest splits by what lies in the closure of its keys.
use Rattle.std.proofs.Common.{◌≡◌, ◌<◌, ◌+◌, ◌++◌, ◌||◌, ℕ, zero, suc, Bool, true, false, not, cond, pos, None, Some, List, [], ◌∷◌, length, map, filter, get_or, refl, ap, ◌∙◌, sym, subst, inl, inr, ◌⊎◌, arith}
use Rattle.std.specs.Prelude.{◌==◌}
use Rattle.std.specs.List.{list_any, enumerate_from, range_with_len}
use Rattle.std.specs.Ordering.{eq_by_cmp, is_le}
use Rattle.std.proofs.lemmas.List.{get_or-map, length-map, map-append}
use Rattle.blz_value.specs.declared.value.Value.TheVariants.{Int}
use Rattle.blz_value.specs.Members.{Has}
use Rattle.blz_value.specs.Operators.{cells}
use Rattle.blz_value.specs.Record.{Row, record_cmp}
use Rattle.blz_value.specs.Test.{cell}
use Rattle.blz_value.proofs.Membership.{Contains-from_Has, Has-append_left, Has-append_right, Has-append_cases, Has-filter, Has-from_filter, Has-from_map, any_from_Has, Has-from_any, all_member, all_from}
use Rattle.blz_value.proofs.SetLaws.{Has-set_of, Has-from_set_of}
use Rattle.blz_value.specs.declared.attrs.Fd.{Fd}
use Rattle.blz_value.specs.Bits.{bit_of, meets}
use Rattle.blz_value.specs.Names.{place_of}
use Rattle.blz_value.proofs.Within.{within-refl}
use Rattle.blz_value.proofs.OperatorsLemmas.{not_any}
use Rattle.blz_value.proofs.Ranges.{in_range_from}
use Rattle.blz_value.proofs.Booleans.{implied}
use Rattle.bloom_forms.specs.declared.program.Program.{Program}
use Rattle.bloom_forms.specs.declared.program.Program.TheVariants.{Latest}
use Rattle.bloom_forms.specs.Fits.{repeats}
use Rattle.bloom_forms.specs.Program.{key_columns}
use Rattle.bloom_forms.specs.ProgramStep.{tables_after_step}
use Rattle.bloom_forms.specs.Query.{Name}
use Rattle.bloom_forms.specs.Step.{Sets, set_at}
use Rattle.bloom_forms.specs.StockSteps.{keys_in_order, has_key, is_latest, latest_kept, latest_out}
use Rattle.bloom_forms.specs.Steps.{tables_after_steps}
use Rattle.bloom_forms.proofs.Reach.ProperLemmas.{HasOwnColumns}
use Rattle.bloom_forms.proofs.Ends.StepsLemmas.{longer, one_more}
use Rattle.bloom_forms.specs.Annotation.{latest_roots, key_set}
use Rattle.bloom_forms.specs.HeadRoots.{attribute_roots}
use Rattle.bloom_forms.specs.Roots.{root_at}
use Rattle.bloom_forms.proofs.Copies.Copying.{chosen}
use Rattle.bloom_forms.proofs.Copies.AttributesLemmas.{has_root, value_is, in_roots}
use Rattle.bloom_forms.specs.Classes.{key_of, IsInClosure, Arriving, HasAll, AreKeyed, of_class}
use Rattle.bloom_forms.specs.Runs.{output_rows}
use Rattle.bloom_forms.proofs.Split.SplittingLemmas.{OutputsSplitByStep}
use Rattle.bloom_forms.proofs.Split.Agreeing.{one_key}
use Rattle.bloom_forms.proofs.Split.Apart.{cells_at}
use Rattle.bloom_forms.proofs.Split.ClassesLemmas.{from_class, in_class, same_row, row_itself}

-- How the proof goes.
-- Records of `put` with the same keys are of one class, since the keys are the gate (put_class).
-- A record and its keys in `ask` are of one class too (ask_class).
-- So a record is the greatest of its keys exactly where it is in its class.
-- What is kept after each step therefore splits by classes (IsKept), step by step.
-- What is asked picks from what is kept, class by class.

-- ---- lists with places

from_places : (from : ℕ) (xs : List Name) (place : ℕ × Name) → Has place (enumerate_from from xs)
    → (j : ℕ) × (from + j ≡ place.0) × (j < length xs) × (get_or xs j [] ≡ place.1)
from_places from [] place h = absurd h
from_places from (x ∷ xs) place (inl e) = let first : from ≡ place.0 = ap (λ (p : ℕ × Name). p.0) e in (0, omega (arith, first), omega arith, ap (λ (p : ℕ × Name). p.1) e)
from_places from (x ∷ xs) place (inr h) = let m = from_places (from + 1) xs place h in (suc m.0, omega (arith, m.1), omega (arith, m.2), m.3)

-- ---- what Latest keeps, and what it puts out

-- no record of `put` has the keys of the row
abbrev pub NonePut : List ℕ → List Row → Row → Type 0
NonePut keys put row = (other : Row) → Has other put → cells keys other ≡ cells keys row → ⊥

-- it is the greatest record of `put` with its keys
abbrev pub IsGreatest : List ℕ → List Row → Row → Type 0
IsGreatest keys put row = (other : Row) → Has other put → cells keys other ≡ cells keys row → is_le (record_cmp other row) ≡ true

implies : (a b : Bool) → (a ≡ true → b ≡ true) → (not a || b) ≡ true
implies true b f = f refl
implies false b f = refl

not_true : (b : Bool) → (b ≡ true → ⊥) → not b ≡ true
not_true true n = absurd (n refl)
not_true false n = refl

pub from_latest : (keys : List ℕ) (kept put : List Row) (row : Row) → Has row (latest_kept keys kept put)
    → (Has row kept × NonePut keys put row) ⊎ (Has row put × IsGreatest keys put row)
from_latest keys kept put row h =
    let stays : Row → Bool = λ (r : Row). not (list_any (has_key keys (cells keys r)) put) in
    elim (Has-append_cases row (filter stays kept) (filter (is_latest keys put) put) (Has-from_set_of row (filter stays kept ++ filter (is_latest keys put) put) h)) [
      | inl old ↦ let m = Has-from_filter stays row kept old in inl (m.0, λ other stands same. not_any (list_any (has_key keys (cells keys row)) put) m.1 (any_from_Has (has_key keys (cells keys row)) other put stands (row_itself (cells keys other) (cells keys row) same)))
      | inr new ↦
          let m = Has-from_filter (is_latest keys put) row put new in
          inr (m.0, λ other stands same. implied (has_key keys (cells keys row) other) (is_le (record_cmp other row)) (all_member (λ (o : Row). not (has_key keys (cells keys row) o) || is_le (record_cmp o row)) put other m.1 stands) (row_itself (cells keys other) (cells keys row) same))
    ]

pub in_latest : (keys : List ℕ) (kept put : List Row) (row : Row)
    → (Has row kept × NonePut keys put row) ⊎ (Has row put × IsGreatest keys put row)
    → Has row (latest_kept keys kept put)
in_latest keys kept put row h =
    let stays : Row → Bool = λ (r : Row). not (list_any (has_key keys (cells keys r)) put) in
    Has-set_of row (filter stays kept ++ filter (is_latest keys put) put) (elim h [
      | inl old ↦ Has-append_left row (filter stays kept) (filter (is_latest keys put) put) (Has-filter stays row kept old.0 (not_true (list_any (has_key keys (cells keys row)) put) (λ t. let m = Has-from_any (has_key keys (cells keys row)) put t in old.1 m.0 m.1 (same_row (cells keys m.0) (cells keys row) m.2))))
      | inr new ↦ Has-append_right row (filter stays kept) (filter (is_latest keys put) put) (Has-filter (is_latest keys put) row put new.0 (all_from (λ (o : Row). not (has_key keys (cells keys row) o) || is_le (record_cmp o row)) put (λ other stands.
          implies (has_key keys (cells keys row) other) (is_le (record_cmp other row)) (λ t. new.1 other stands (same_row (cells keys other) (cells keys row) t)))))
    ])

pub from_asked : (keys : List ℕ) (kept ask : List Row) (row : Row) → Has row (latest_out keys kept ask)
    → Has row kept × Has (cells keys row) ask
from_asked keys kept ask row h =
    let asked : Row → Bool = λ (r : Row). list_any (eq_by_cmp record_cmp (cells keys r)) ask in
    let m = Has-from_filter asked row kept (Has-from_set_of row (filter asked kept) h) in
    let n = Has-from_any (eq_by_cmp record_cmp (cells keys row)) ask m.1 in
    (m.0, subst (λ (r : Row). Has r ask) (sym (same_row (cells keys row) n.0 n.2)) n.1)

pub in_asked : (keys : List ℕ) (kept ask : List Row) (row : Row) → Has row kept → Has (cells keys row) ask
    → Has row (latest_out keys kept ask)
in_asked keys kept ask row k h =
    let asked : Row → Bool = λ (r : Row). list_any (eq_by_cmp record_cmp (cells keys r)) ask in
    Has-set_of row (filter asked kept) (Has-filter asked row kept k (any_from_Has (eq_by_cmp record_cmp (cells keys row)) (cells keys row) ask h (row_itself (cells keys row) (cells keys row) refl)))

-- ---- the keys are columns of both ports

-- an attribute of the keys is the root of a key column
key_column : (names columns : List Name) (keys : List ℕ) (n : ℕ) → meets (bit_of n) (key_set names columns keys) ≡ true
    → (i : ℕ) × Has i (keys_in_order (length columns) keys) × (i < length columns) × (place_of names (get_or columns i []) ≡ Some n)
key_column names columns keys n h =
    let is_key : ℕ → Bool = λ i. list_any (λ k. k == i) keys in
    let m = Has-from_map (λ (place : ℕ × Name). cond (is_key place.0) (place_of names place.1) None) (Some n) (enumerate_from 0 columns) (in_roots (latest_roots names columns keys) n h) in
    let c = chosen (is_key m.0.0) (place_of names m.0.1) n m.2 in
    let p = from_places 0 columns m.0 m.1 in
    let same : m.0.0 ≡ p.0 = omega (arith, p.1) in
    let stands : Has (0 + p.0) (range_with_len 0 (length columns)) = in_range_from 0 (length columns) p.0 p.2 in
    let zero_more : 0 + p.0 ≡ p.0 = omega arith in
    (p.0, Has-filter is_key p.0 (range_with_len 0 (length columns)) (subst (λ (i : ℕ). Has i (range_with_len 0 (length columns))) zero_more stands) (subst (λ (i : ℕ). is_key i ≡ true) same c.0), p.2, ap (place_of names) p.3 ∙ c.1)

module _ (names columns : List Name) (keys : List ℕ) where
  abbrev in_order : List ℕ
  in_order = keys_in_order (length columns) keys

  put_root : (i n : ℕ) → i < length columns → place_of names (get_or columns i []) ≡ Some n
      → root_at (attribute_roots names columns) i ≡ Some n
  put_root i n lt is = get_or-map (place_of names) columns i [] None lt ∙ is

  -- the column of `ask` for a key column, and its value in the keys of a record
  ask_root : (i n : ℕ) → Has i in_order → place_of names (get_or columns i []) ≡ Some n → (row : Row)
      → (j : ℕ) × (root_at (attribute_roots names (key_columns columns keys)) j ≡ Some n) × (cell (cells in_order row) j ≡ cell row i)
  ask_root i n stands is row =
      let c = Contains-from_Has in_order i stands in
      let column : ℕ → Name = λ (k : ℕ). get_or columns k [] in
      let named : get_or (key_columns columns keys) c.0 [] ≡ column i = get_or-map column in_order c.0 i [] c.1 ∙ ap column c.2 in
      let within : c.0 < length (key_columns columns keys) = omega (arith, c.1, length-map in_order column) in
      (c.0, get_or-map (place_of names) (key_columns columns keys) c.0 [] None within ∙ ap (place_of names) named ∙ is, get_or-map (cell row) in_order c.0 i (Int (pos 0)) c.1 ∙ ap (cell row) c.2)

  module _ (earlier : List Sets) (arriving : Sets) (fds : List Fd) (key : List ℕ) (class_of : Row → Row)
      (keyed : AreKeyed names (Latest columns keys) (earlier ++ arriving ∷ []) (λ port. true) fds key) (closed : IsInClosure key (key_set names columns keys) fds)
      (distinct : repeats columns ≡ false) (ask_distinct : repeats (key_columns columns keys) ≡ false) where
    abbrev program : Program
    program = Latest columns keys

    abbrev all : List Sets
    all = earlier ++ arriving ∷ []

    abbrev part : Row → Sets → Sets
    part class now = of_class names program key class_of class now

    abbrev class_at : Row → Row
    class_at row = class_of (key_of names columns key row)

    abbrev X : Type 0
    X = Arriving program all (λ port. true)

    abbrev put_x : (now : Sets) → Has now all → (row : Row) → Has row (set_at now 0) → X
    put_x now came row stands = record { port = 0; used = refl; now = now; came = came; row = row; stands = stands }

    abbrev ask_x : (now : Sets) → Has now all → (row : Row) → Has row (set_at now 1) → X
    ask_x now came row stands = record { port = 1; used = refl; now = now; came = came; row = row; stands = stands }

    abbrev set : ℕ
    set = key_set names columns keys

    put_all : (now : Sets) (came : Has now all) (row : Row) (stands : Has row (set_at now 0))
        → HasAll names program (put_x now came row stands) set
    put_all now came row stands n h = let c = key_column names columns keys n h in has_root names columns c.0 n (put_root c.0 n c.2 c.3)

    ask_all : (now : Sets) (came : Has now all) (row : Row) (stands : Has row (set_at now 1))
        → HasAll names program (ask_x now came row stands) set
    ask_all now came row stands n h = let c = key_column names columns keys n h in let a = ask_root c.0 n c.1 c.3 row in has_root names (key_columns columns keys) a.0 n a.1

    -- records of `put` with the same keys are of one class
    put_class : (now other : Sets) → Has now all → Has other all → (row more : Row) → Has row (set_at now 0)
        → Has more (set_at other 0) → cells in_order row ≡ cells in_order more → class_at row ≡ class_at more
    put_class now other n o row more r m same =
        ap class_of (one_key names program all (λ port. true) fds key keyed set set (within-refl set) closed (put_x now n row r) (put_x other o more m) (put_all now n row r) (put_all other o more m) (λ k h.
        let c = key_column names columns keys k h in
        let root = put_root c.0 k c.2 c.3 in
        value_is names columns distinct row c.0 k root ∙ cells_at in_order row more same c.0 c.1 ∙ sym (value_is names columns distinct more c.0 k root)))

    -- so are a record of `put` and its keys in `ask`
    ask_class : (now other : Sets) → Has now all → Has other all → (row : Row) → Has row (set_at now 0)
        → Has (cells in_order row) (set_at other 1)
        → class_at row ≡ class_of (key_of names (key_columns columns keys) key (cells in_order row))
    ask_class now other n o row r m =
        let asking = cells in_order row in
        ap class_of (one_key names program all (λ port. true) fds key keyed set set (within-refl set) closed (put_x now n row r) (ask_x other o asking m) (put_all now n row r) (ask_all other o asking m) (λ k h.
        let c = key_column names columns keys k h in
        let a = ask_root c.0 k c.1 c.3 row in
        value_is names columns distinct row c.0 k (put_root c.0 k c.2 c.3) ∙ sym a.2 ∙ sym (value_is names (key_columns columns keys) ask_distinct asking a.0 k a.1)))

    in_put : (now : Sets) → Has now all → (row : Row) → Has row (set_at now 0) → (class : Row) → class_at row ≡ class
        → Has row (set_at (part class now) 0)
    in_put now came row stands class is = in_class names program key class_of class now 0 row (record { within = omega arith; stands = stands; keyed = keyed.keyed (put_x now came row stands); is = is })

    -- ---- what is kept

    -- each class keeps what is kept of its records
    record IsKept (kept : Sets) (parts : Row → Sets) : Type 0 where
      arrived : (row : Row) → Has row (set_at kept 0) → (now : Sets) × Has now all × Has row (set_at now 0)
      some : (row : Row) → Has row (set_at kept 0) → Has row (set_at (parts (class_at row)) 0)
      inside : (class row : Row) → Has row (set_at (parts class) 0) → Has row (set_at kept 0) × (class_at row ≡ class)

    next_kept : (kept : Sets) (parts : Row → Sets) (now : Sets) → Has now all → IsKept kept parts
        → IsKept (tables_after_step program kept now) (λ class. tables_after_step program (parts class) (part class now))
    next_kept kept parts now came old =
        let put = set_at now 0 in
        let put_of : Row → List Row = λ class. set_at (part class now) 0 in
        record {
          arrived = λ row h. elim (from_latest in_order (set_at kept 0) put row h) [ inl k ↦ old.arrived row k.0 | inr p ↦ (now, came, p.0) ];
          some = λ row h.
              let class = class_at row in
              in_latest in_order (set_at (parts class) 0) (put_of class) row (elim (from_latest in_order (set_at kept 0) put row h) [
                | inl k ↦ inl (old.some row k.0, λ other stands. k.1 other (from_class names program key class_of class now 0 other stands).stands)
                | inr p ↦ inr (in_put now came row p.0 class refl, λ other stands. p.1 other (from_class names program key class_of class now 0 other stands).stands)
              ]);
          inside = λ class row h. elim (from_latest in_order (set_at (parts class) 0) (put_of class) row h) [
            | inl k ↦
                let o = old.inside class row k.0 in
                let from = old.arrived row o.0 in
                (in_latest in_order (set_at kept 0) put row (inl (o.0, λ other stands same. k.1 other (in_put now came other stands class (put_class now from.0 came from.1 other row stands from.2 same ∙ o.1)) same)), o.1)
            | inr p ↦
                let c = from_class names program key class_of class now 0 row p.0 in
                (in_latest in_order (set_at kept 0) put row (inr (c.stands, λ other stands same. p.1 other (in_put now came other stands class (put_class now now came came other row stands c.stands same ∙ c.is)) same)), c.is)
          ];
        }

    abbrev parts_after : List Sets → Row → Sets
    parts_after done class = tables_after_steps program (map (part class) done)

    abbrev HoldsAfter : List Sets → Type 0
    HoldsAfter done = ((other : Sets) → Has other done → Has other all) → IsKept (tables_after_steps program done) (parts_after done)

    none_kept : HoldsAfter []
    none_kept among = record { arrived = λ row h. absurd h; some = λ row h. absurd h; inside = λ class row h. absurd h }

    more_kept : (done : List Sets) (now : Sets) → HoldsAfter done → HoldsAfter (done ++ now ∷ [])
    more_kept done now holds among =
        let kept_is = one_more program done now in
        let parts_are : (class : Row) → parts_after (done ++ now ∷ []) class ≡ tables_after_step program (parts_after done class) (part class now) = λ class. ap (tables_after_steps program) (map-append (part class) done (now ∷ [])) ∙ one_more program (map (part class) done) (part class now) in
        let next = next_kept (tables_after_steps program done) (parts_after done) now (among now (Has-append_right now done (now ∷ []) (inl refl))) (holds (λ other h. among other (Has-append_left other done (now ∷ []) h))) in
        let first = subst (λ (kept : Sets). IsKept kept (λ class. tables_after_step program (parts_after done class) (part class now))) (sym kept_is) next in
        subst (λ (parts : Row → Sets). IsKept (tables_after_steps program (done ++ now ∷ [])) parts) (λ i class. sym (parts_are class) i) first

    -- what is kept after the step itself
    all_kept : IsKept (tables_after_step program (tables_after_steps program earlier) arriving) (λ class. tables_after_step program (parts_after earlier class) (part class arriving))
    all_kept = next_kept (tables_after_steps program earlier) (parts_after earlier) arriving (Has-append_right arriving earlier (arriving ∷ []) (inl refl))
        (longer HoldsAfter more_kept earlier [] none_kept (λ other h. Has-append_left other earlier (arriving ∷ []) h))

    pub out_some : (row : Row) → Has row (output_rows program 0 (tables_after_steps program earlier) arriving)
        → (class : Row) × Has row (output_rows program 0 (parts_after earlier class) (part class arriving))
    out_some row h =
        let here : Has arriving all = Has-append_right arriving earlier (arriving ∷ []) (inl refl) in
        let m = from_asked in_order (set_at (tables_after_step program (tables_after_steps program earlier) arriving) 0) (set_at arriving 1) row h in
        let from = all_kept.arrived row m.0 in
        let class = class_at row in
        let asked : Has (cells in_order row) (set_at (part class arriving) 1) = in_class names program key class_of class arriving 1 (cells in_order row) (record { within = omega arith; stands = m.1; keyed = keyed.keyed (ask_x arriving here (cells in_order row) m.1); is = sym (ask_class from.0 arriving from.1 here row from.2 m.1) }) in
        (class, in_asked in_order (set_at (tables_after_step program (parts_after earlier class) (part class arriving)) 0) (set_at (part class arriving) 1) row (all_kept.some row m.0) asked)

    pub out_inside : (class row : Row)
        → Has row (output_rows program 0 (parts_after earlier class) (part class arriving))
        → Has row (output_rows program 0 (tables_after_steps program earlier) arriving)
    out_inside class row h =
        let m = from_asked in_order (set_at (tables_after_step program (parts_after earlier class) (part class arriving)) 0) (set_at (part class arriving) 1) row h in
        in_asked in_order (set_at (tables_after_step program (tables_after_steps program earlier) arriving) 0) (set_at arriving 1) row (all_kept.inside class row m.0).0 (from_class names program key class_of class arriving 1 (cells in_order row) m.1).stands

pub latest_split : (names columns : List Name) (keys : List ℕ) → HasOwnColumns (Latest columns keys)
    → OutputsSplitByStep names (Latest columns keys)
latest_split names columns keys own zero earlier arriving fds key class_of arrivals keyed closed row =
    let distinct = own columns (inl refl) in
    let ask_distinct = own (key_columns columns keys) (inr (inl refl)) in (
      λ h. out_some names columns keys earlier arriving fds key class_of keyed closed distinct ask_distinct row h,
      λ p. out_inside names columns keys earlier arriving fds key class_of keyed closed distinct ask_distinct p.0 row p.1,
    )
latest_split names columns keys own (suc output) earlier arriving fds key class_of arrivals keyed closed row = (λ h. absurd h, λ p. absurd p.1)
