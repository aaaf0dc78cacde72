-- A dependency with an attribute on each side of which no two records have the same value is not broken.
--
-- Records with the same values on a side have the same value of each attribute there. So no two records agree on either side, and no record
-- disagrees with an earlier one.
use Rattle.std.proofs.Common.{◌≡◌, ℕ, ◌+◌, ◌<◌, ◌≤◌, ◌⊎◌, inl, inr, Bool, true, false, ◌||◌, if◌then◌else◌, Option, None, Some, is_some, List, [], ◌∷◌, ◌++◌, map, length, get_or, take, bit_or, refl, ap, sym, subst, ◌∙◌, arith}
use Rattle.std.specs.List.{flat_map, enumerate_from, position_from}
use Rattle.std.proofs.lemmas.Bool.{cases_Bool, false_from_ne_true, or_cases, true≢false}
use Rattle.std.proofs.lemmas.List.{get_or-map, length-map, map-append, take_more, take_all}
use Rattle.blz_value.specs.Bits.{bit_of, members}
use Rattle.blz_value.specs.Closure.{within}
use Rattle.blz_value.specs.Graph.{is_in}
use Rattle.blz_value.specs.Members.{Has}
use Rattle.blz_value.specs.Record.{Row}
use Rattle.blz_value.specs.Test.{cell}
use Rattle.blz_value.specs.declared.attrs.Fd.{Fd}
use Rattle.blz_value.specs.declared.value.Value.{Value}
use Rattle.blz_value.proofs.Booleans.{and_true, both_true}
use Rattle.blz_value.proofs.Lists.{map_twice}
use Rattle.blz_value.proofs.Maps.{same_map}
use Rattle.blz_value.proofs.Members.{in-empty, in-or, meets-within, member_small, one_number}
use Rattle.blz_value.proofs.MembersInOrder.{from_members, in_members}
use Rattle.blz_value.proofs.Membership.{Has-append_cases, Has-append_left, Has-append_right, Has-from_map, Has-map}
use Rattle.blz_value.proofs.Within.{within-trans}
use Rattle.bloom_forms.specs.Roots.{Roots}
use Rattle.topo_forms.specs.Data.{Data, SourceData, has_both, key_value, place_of_attribute}
use Rattle.topo_forms.specs.View.{View, stream_at, stream_attrs}
use Rattle.data_read.specs.Broken.{Sides, sides_of, sides_in, all_sides, same, differ, disagree, first_such, pair_or, broken_pair}
use Rattle.data_read.specs.declared.dependencies.Sided.{Sided}
use Rattle.data_read.specs.declared.dependencies.sides.Side.{Side}
use Rattle.data_read.specs.Code.Earliest.{number_of, sides_view, values_of, with_side}
use Rattle.data_read.specs.Code.Apart.{own_fd, NoneAgree, IsApart, AllApart, HasApart}
use Rattle.data_read.proofs.EarliestLemmas.{same-is, same-itself, same-sym}

-- ---- records that are apart

-- those behind others
apart_right : (side : Sides → Row) (xs ys : List Sides) → NoneAgree side (xs ++ ys) → NoneAgree side ys
apart_right side [] ys apart = apart
apart_right side (x ∷ xs) ys apart = apart_right side xs ys apart.1

-- one more
pub apart_more : (side : Sides → Row) (xs : List Sides) (x : Sides) → NoneAgree side xs → ((y : Sides) → Has y xs → same (side x) (side y) ≡ false) → NoneAgree side (xs ++ x ∷ [])
apart_more side [] x apart new = ((λ y h. absurd h), tt)
apart_more side (z ∷ zs) x apart new = (head, apart_more side zs x apart.1 (λ y h. new y (inr h)))
  where
    head : (y : Sides) → Has y (zs ++ x ∷ []) → same (side z) (side y) ≡ false
    head y h = elim (Has-append_cases y zs (x ∷ []) h) [
      | inl old ↦ apart.0 y old
      | inr last ↦ elim last [
        | inl e ↦ subst (λ (w : Sides). same (side z) (side w) ≡ false) e (same-sym (side z) (side x) ∙ new z (inl refl))
        | inr n ↦ absurd n
      ]
    ]

-- ---- the values on a side

-- two maps that are the same are so at each member
same_at : {X Y : Type 0} (f g : X → Y) (xs : List X) (x : X) → map f xs ≡ map g xs → Has x xs → f x ≡ g x
same_at f g [] x same h = absurd h
same_at f g (z ∷ zs) x same (inl e) = let first : f z ≡ g z = cc in subst (λ y. f y ≡ g y) e first
same_at f g (z ∷ zs) x same (inr h) = let rest : map f zs ≡ map g zs = cc in same_at f g zs x rest h

abbrev value_at : Roots → Row → ℕ → Value
value_at columns row a = cell row (place_of_attribute columns a)

same_keys : (set : ℕ) (left right : Roots) (x y : Row) → ((n : ℕ) → Has n (members set) → value_at left x n ≡ value_at right y n) → key_value left set x ≡ key_value right set y
same_keys set left right x y each =
    map_twice (cell x) (place_of_attribute left) (members set)
    ∙ same_map (value_at left x) (value_at right y) (members set) each
    ∙ sym (map_twice (cell y) (place_of_attribute right) (members set))

-- records that differ in an attribute have other values of each set with it
key_apart : (a set : ℕ) (left right : Roots) (x y : Row) → is_in a set ≡ true
    → same (key_value left (bit_of a) x) (key_value right (bit_of a) y) ≡ false → same (key_value left set x) (key_value right set y) ≡ false
key_apart a set left right x y there apart = false_from_ne_true (same (key_value left set x) (key_value right set y)) (λ agree.
    let keys : key_value left set x ≡ key_value right set y = same-is (key_value left set x) (key_value right set y) agree in
    let maps : map (value_at left x) (members set) ≡ map (value_at right y) (members set) = sym (map_twice (cell x) (place_of_attribute left) (members set)) ∙ keys ∙ map_twice (cell y) (place_of_attribute right) (members set) in
    let one : value_at left x a ≡ value_at right y a = same_at (value_at left x) (value_at right y) (members set) a maps (in_members set a there) in
    let own : key_value left (bit_of a) x ≡ key_value right (bit_of a) y = same_keys (bit_of a) left right x y (λ n has.
    let m = from_members (bit_of a) n has in
    let is : a ≡ n = one_number n a m.0 m.1 in
    subst (λ (k : ℕ). value_at left x k ≡ value_at right y k) is one) in
    true≢false (sym (subst (λ (k : Row). same (key_value left (bit_of a) x) k ≡ true) own (same-itself (key_value left (bit_of a) x))) ∙ apart))

-- ---- the records that a dependency speaks of

abbrev from_of : Sides → Row
from_of y = y.from

abbrev to_of : Sides → Row
to_of y = y.to

-- for a side of the dependency with this set, which has the attribute
module _ (v : View) (fd : Fd) (a : ℕ) (side : Sides → Row) (set : ℕ) (there : is_in a set ≡ true) (reads : (columns : Roots) (row : Row) → side (sides_of fd columns row) ≡ key_value columns set row) (inside : (bits : ℕ) → has_both fd bits ≡ true → within set bits ≡ true) where
  abbrev own : ℕ × SourceData → List Sides
  own source = sides_in v (own_fd a) source

  abbrev asked : ℕ × SourceData → List Sides
  asked source = sides_in v fd source

  own_has : (bits : ℕ) → has_both fd bits ≡ true → has_both (own_fd a) bits ≡ true
  own_has bits h =
      let one : within (bit_of a) bits ≡ true = within-trans (bit_of a) set bits (meets-within a set there) (inside bits h) in
      and_true (within (bit_of a) bits) (within (bit_of a) bits) one one

  -- a record of which it speaks is one with the attribute
  record Spoken (y : Sides) (xs : List Sides) : Type 0 where
    columns : Roots
    row : Row
    is : sides_of fd columns row ≡ y
    stands : Has (sides_of (own_fd a) columns row) xs

  in_source : (source : ℕ × SourceData) (y : Sides) → Has y (asked source) → Spoken y (own source)
  in_source source y has = go (has_both fd (stream_attrs v source.0).bits) refl has
    where
      columns_here : Roots
      columns_here = (stream_at v source.0).columns

      go : (b : Bool) → has_both fd (stream_attrs v source.0).bits ≡ b → Has y (if b then map (sides_of fd (stream_at v source.0).columns) source.1.rows else []) → Spoken y (own source)
      go false e h = absurd h
      go true e h =
          let m = Has-from_map (sides_of fd (stream_at v source.0).columns) y source.1.rows h in
          record {
            columns = (stream_at v source.0).columns;
            row = m.0;
            is = m.2;
            stands = rw (own_has (stream_attrs v source.0).bits e) (Has-map (sides_of (own_fd a) (stream_at v source.0).columns) m.0 source.1.rows m.1);
          }

  in_sources : (sources : List (ℕ × SourceData)) (y : Sides) → Has y (flat_map asked sources) → Spoken y (flat_map own sources)
  in_sources [] y has = absurd has
  in_sources (s ∷ ss) y has = elim (Has-append_cases y (asked s) (flat_map asked ss) has) [
    | inl here ↦
        let m = in_source s y here in
        record { columns = m.columns; row = m.row; is = m.is; stands = Has-append_left (sides_of (own_fd a) m.columns m.row) (own s) (flat_map own ss) m.stands }
    | inr later ↦
        let m = in_sources ss y later in
        record { columns = m.columns; row = m.row; is = m.is; stands = Has-append_right (sides_of (own_fd a) m.columns m.row) (own s) (flat_map own ss) m.stands }
  ]

  -- who is apart from all with the attribute is apart from all of which it speaks
  apart_from : (columns : Roots) (row : Row) (y : Sides) (xs : List Sides) → ((z : Sides) → Has z xs → same (key_value columns (bit_of a) row) z.from ≡ false) → Spoken y xs
      → same (side (sides_of fd columns row)) (side y) ≡ false
  apart_from columns row y xs apart m =
      let own_apart : same (key_value columns (bit_of a) row) (key_value m.columns (bit_of a) m.row) ≡ false = apart (sides_of (own_fd a) m.columns m.row) m.stands in
      let keys : same (key_value columns set row) (key_value m.columns set m.row) ≡ false = key_apart a set columns m.columns row m.row there own_apart in
      subst (λ (z : Sides). same (side (sides_of fd columns row)) (side z) ≡ false) m.is ((λ i. same (reads columns row i) (reads m.columns m.row i)) ∙ keys)

  of_rows : (columns : Roots) (rows : List Row) (own_rest asked_rest : List Sides) → ((y : Sides) → Has y asked_rest → Spoken y own_rest) → NoneAgree side asked_rest
      → NoneAgree from_of (map (sides_of (own_fd a) columns) rows ++ own_rest) → NoneAgree side (map (sides_of fd columns) rows ++ asked_rest)
  of_rows columns [] own_rest asked_rest each rest apart = rest
  of_rows columns (row ∷ rows) own_rest asked_rest each rest apart = (λ y has. apart_from columns row y (map (sides_of (own_fd a) columns) rows ++ own_rest) apart.0 (found y (Has-append_cases y (map (sides_of fd columns) rows) asked_rest has)), of_rows columns rows own_rest asked_rest each rest apart.1)
    where
      found : (y : Sides) → Has y (map (sides_of fd columns) rows) ⊎ Has y asked_rest → Spoken y (map (sides_of (own_fd a) columns) rows ++ own_rest)
      found y (inl here) =
          let m = Has-from_map (sides_of fd columns) y rows here in
          record { columns = columns; row = m.0; is = m.2; stands = Has-append_left (sides_of (own_fd a) columns m.0) (map (sides_of (own_fd a) columns) rows) own_rest (Has-map (sides_of (own_fd a) columns) m.0 rows m.1) }
      found y (inr later) =
          let m = each y later in
          record { columns = m.columns; row = m.row; is = m.is; stands = Has-append_right (sides_of (own_fd a) m.columns m.row) (map (sides_of (own_fd a) columns) rows) own_rest m.stands }

  side_apart : (sources : List (ℕ × SourceData)) → NoneAgree from_of (flat_map own sources) → NoneAgree side (flat_map asked sources)
  side_apart [] apart = tt
  side_apart (s ∷ ss) apart = go (has_both fd (stream_attrs v s.0).bits) refl (side_apart ss (apart_right from_of (own s) (flat_map own ss) apart))
    where
      go : (b : Bool) → has_both fd (stream_attrs v s.0).bits ≡ b → NoneAgree side (flat_map asked ss) → NoneAgree side ((if b then map (sides_of fd (stream_at v s.0).columns) s.1.rows else []) ++ flat_map asked ss)
      go false e rest = rest
      go true e rest =
          let here : NoneAgree from_of (map (sides_of (own_fd a) (stream_at v s.0).columns) s.1.rows ++ flat_map own ss) = subst (λ (b : Bool). NoneAgree from_of ((if b then map (sides_of (own_fd a) (stream_at v s.0).columns) s.1.rows else []) ++ flat_map own ss)) (own_has (stream_attrs v s.0).bits e) apart in
          of_rows (stream_at v s.0).columns s.1.rows (flat_map own ss) (flat_map asked ss) (in_sources ss) rest here

-- ---- no record disagrees with an earlier one

none_from : (test : Sides → Bool) (xs : List Sides) → ((y : Sides) → Has y xs → test y ≡ false) → first_such test xs ≡ None
none_from test [] each = refl
none_from test (x ∷ xs) each = rw (each x (inl refl)) (none_from test xs (λ y h. each y (inr h)))

unbroken : (earlier later : List Sides) → ((x : Sides) → Has x later → (y : Sides) → Has y earlier → disagree x y ≡ false) → NoneAgree from_of later → NoneAgree to_of later → broken_pair earlier later ≡ None
unbroken earlier [] quiet from to = refl
unbroken earlier (x ∷ xs) quiet from to =
    ap (λ (o : Option Sides). pair_or o x (broken_pair (earlier ++ x ∷ []) xs)) (none_from (disagree x) earlier (quiet x (inl refl)))
    ∙ unbroken (earlier ++ x ∷ []) xs more from.1 to.1
  where
    with_this : (z : Sides) → Has z xs → disagree z x ≡ false
    with_this z has =
        let one : same z.from x.from ≡ false = same-sym z.from x.from ∙ from.0 z has in
        let two : same z.to x.to ≡ false = same-sym z.to x.to ∙ to.0 z has in
        λ i. differ (one i) (two i)

    more : (z : Sides) → Has z xs → (y : Sides) → Has y (earlier ++ x ∷ []) → disagree z y ≡ false
    more z has y h = elim (Has-append_cases y earlier (x ∷ []) h) [
      | inl old ↦ quiet z (inr has) y old
      | inr last ↦ elim last [
        | inl e ↦ subst (λ (w : Sides). disagree z w ≡ false) e (with_this z has)
        | inr n ↦ absurd n
      ]
    ]

-- the dependency holds
pub holds_apart : (v : View) (d : Data) (fd : Fd) → HasApart v d fd.from.bits → HasApart v d fd.to.bits → broken_pair [] (all_sides v fd d) ≡ None
holds_apart v d fd a b =
    unbroken [] (all_sides v fd d) (λ x h y n. absurd n)
    (side_apart v fd a.0 from_of fd.from.bits a.1 (λ columns row. refl) (λ bits h. (both_true (within fd.from.bits bits) (within fd.to.bits bits) h).0) (enumerate_from 0 d) a.2)
    (side_apart v fd b.0 to_of fd.to.bits b.1 (λ columns row. refl) (λ bits h. (both_true (within fd.from.bits bits) (within fd.to.bits bits) h).1) (enumerate_from 0 d) b.2)

-- ---- sets of such attributes

pub none_apart : (v : View) (d : Data) (set : ℕ) → set ≡ 0 → AllApart v d set
none_apart v d set is a h = absurd (true≢false (sym h ∙ ap (is_in a) is ∙ in-empty a))

pub one_apart : (v : View) (d : Data) (set new n : ℕ) → new ≡ bit_or set (bit_of n) → AllApart v d set → IsApart v d n → AllApart v d new
one_apart v d set new n is apart more a h =
    let lt : a < 64 = member_small a new h in
    let either : (is_in a set || is_in a (bit_of n)) ≡ true = sym (in-or a set (bit_of n) lt) ∙ ap (is_in a) (sym is) ∙ h in
    elim (or_cases (is_in a set) (is_in a (bit_of n)) either) [
      | inl old ↦ apart a old
      | inr own ↦ subst (IsApart v d) (one_number a n lt own) more
    ]

-- ---- the search for a repeated value

-- of the first so many records no two have the same values, and the set holds these
pub record StandApart (sided : List Sided) (place : ℕ) (values : List Side) : Type 0 where
  pub apart : NoneAgree from_of (take place (map sides_view sided))
  pub held : map values_of values ≡ map from_of (take place (map sides_view sided))

pub apart_none : (sided : List Sided) (values : List Side) → values ≡ [] → StandApart sided 0 values
apart_none sided values is = record { apart = tt; held = ap (map values_of) is }

-- what has no place passes nowhere
no_place : (test : Row → Bool) (i : ℕ) (xs : List Side) → None ≡ position_from (λ side. test (values_of side)) i xs → (key : Row) → Has key (map values_of xs) → test key ≡ false
no_place test i [] none key h = absurd h
no_place test i (x ∷ xs) none key h = elim (cases_Bool (test (values_of x))) [
  | inl t ↦ (let bad : None ≡ Some i = rw t at none in cc)
  | inr f ↦ (let rest : None ≡ position_from (λ side. test (values_of side)) (i + 1) xs = rw f at none in here f (no_place test (i + 1) xs rest key) h)
]
  where
    here : test (values_of x) ≡ false → (Has key (map values_of xs) → test key ≡ false) → Has key (map values_of (x ∷ xs)) → test key ≡ false
    here f rest (inl e) = subst (λ (k : Row). test k ≡ false) e f
    here f rest (inr m) = rest m

no_number : (number : Option ℕ) → is_some number ≡ false → number ≡ None
no_number None e = refl
no_number (Some n) e = cc

-- one more record, whose values are new
module _ (sided : List Sided) (place : ℕ) (one : Sided) (values : List Side) (stands : StandApart sided place values) (lt : place < length sided) (is : one ≡ get_or sided place one) where
  abbrev all : List Sides
  all = map sides_view sided

  abbrev earlier : List Sides
  earlier = take place all

  abbrev this : Sides
  this = sides_view one

  more_is : take (place + 1) all ≡ earlier ++ this ∷ []
  more_is =
      take_more all place this (omega (arith, length-map sided sides_view, lt))
      ∙ ap (λ x. earlier ++ x ∷ []) (get_or-map sides_view sided place one this lt ∙ ap sides_view (sym is))

  others : None ≡ number_of values this.from → (y : Sides) → Has y earlier → same this.from y.from ≡ false
  others nowhere y h = no_place (same this.from) 0 values nowhere y.from (subst (λ (ks : List Row). Has y.from ks) (sym stands.held) (Has-map from_of y earlier h))

  pub apart_next : (new : List Side) (side : Side) (number : Option ℕ) → values_of side ≡ this.from → number ≡ number_of values (values_of side) → new ≡ with_side number values side → is_some number ≡ false → StandApart sided (place + 1) new
  apart_next new side number value found kept old = let none = no_number number old in record {
    apart = subst (NoneAgree from_of) (sym more_is) (apart_more from_of earlier this stands.apart (others (sym none ∙ found ∙ ap (number_of values) value)));
    held =
        ap (map values_of) (kept ∙ ap (λ (o : Option ℕ). with_side o values side) none)
        ∙ map-append values_of values (side ∷ [])
        ∙ ap (λ (ks : List Row). ks ++ values_of side ∷ []) stands.held
        ∙ ap (λ (k : Row). map from_of earlier ++ k ∷ []) value
        ∙ sym (map-append from_of earlier (this ∷ []))
        ∙ ap (map from_of) (sym more_is);
  }

pub apart_all : (sided : List Sided) (place : ℕ) (values : List Side) → StandApart sided place values → length sided ≤ place → NoneAgree from_of (map sides_view sided)
apart_all sided place values stands past = subst (NoneAgree from_of) (take_all place (map sides_view sided) (omega (arith, past, length-map sided sides_view))) stands.apart
