-- A step of the search for a broken pair: the pair that is found, or one more record without one.
use Rattle.std.proofs.Common.{◌≡◌, ℕ, suc, ◌+◌, ◌<◌, ◌≤◌, Bool, true, Option, None, Some, option_map, IfSome, List, [], ◌∷◌, ◌++◌, map, length, get_or, take, drop, refl, ap, sym, subst, ◌∙◌, arith}
use Rattle.std.specs.List.{flat_map, position_from}
use Rattle.std.proofs.Math.Seq.{drop-cons}
use Rattle.std.proofs.lemmas.List.{take_more, get_or-map, get_or_append_left, length-append, append-nil, length-map, map-append}
use Rattle.std.proofs.lemmas.Grind.{flat_map-append}
use Rattle.blz_value.specs.Record.{Row}
use Rattle.blz_value.specs.declared.attrs.Fd.{Fd}
use Rattle.bloom_forms.specs.Roots.{Roots}
use Rattle.topo_forms.specs.Data.{SourceData, has_both, key_places}
use Rattle.topo_forms.specs.View.{View, stream_at, stream_attrs}
use Rattle.data_read.specs.declared.dependencies.Placed.{Placed}
use Rattle.data_read.specs.declared.dependencies.Sided.{Sided}
use Rattle.data_read.specs.Broken.{Sides, sides_in, disagree, first_such, pair_or, broken_pair}
use Rattle.data_read.specs.declared.dependencies.sides.Side.{Side}
use Rattle.data_read.specs.Code.Earliest.{number_of, one_place, place_by_from, place_by_to, placed_sides, sides_at, sides_view, values_of, with_side}
use Rattle.data_read.proofs.EarliestLemmas.{AllAgree, agree_more, found_place, found_such, place_from, such_next, nothing_new}
use Rattle.data_read.proofs.SidesLemmas.{same_numbers}

abbrev row_of : Side → Row
row_of side = side.row.now

-- of the first so many records, none of which disagree, the sets hold the first with their values on each side
pub record Stands (sided : List Sided) (place : ℕ) (froms tos : List Side) : Type 0 where
  pub rest : broken_pair (take place (map sides_view sided)) (drop place (map sides_view sided)) ≡ broken_pair [] (map sides_view sided)
  pub firsts : List Sides
  pub agree : AllAgree firsts
  pub alike : (z : Sides) → first_such (disagree z) (take place (map sides_view sided)) ≡ first_such (disagree z) firsts
  pub by_from : map values_of froms ≡ map (λ (y : Sides). y.from) firsts
  pub by_to : map values_of tos ≡ map (λ (y : Sides). y.to) firsts
  pub rows : map row_of froms ≡ map (λ (y : Sides). y.row) firsts

pub stands_none : (sided : List Sided) (froms tos : List Side) → froms ≡ [] → tos ≡ [] → Stands sided 0 froms tos
stands_none sided froms tos f t = record {
  rest = refl;
  firsts = [];
  agree = λ a b m n. absurd m;
  alike = λ z. refl;
  by_from = ap (map values_of) f;
  by_to = ap (map values_of) t;
  rows = ap (map row_of) f;
}

within : (test : Sides → Bool) (xs : List Sides) (k : ℕ) → position_from test 0 xs ≡ Some k → k < length xs
within test xs k e = bound (subst (λ o. IfSome o (λ n. (0 ≤ n) × (n < 0 + length xs))) e (place_from test 0 xs))
  where
    bound : (0 ≤ k) × (k < 0 + length xs) → k < length xs
    bound h = omega (arith, h.1)

module _ (sided : List Sided) (place : ℕ) (one : Sided) (froms tos : List Side) (stands : Stands sided place froms tos) (lt : place < length sided) (is : one ≡ get_or sided place one) where
  abbrev all : List Sides
  all = map sides_view sided

  abbrev earlier : List Sides
  earlier = take place all

  abbrev this : Sides
  this = sides_view one

  lt_all : place < length all
  lt_all = omega (arith, length-map sided sides_view, lt)

  at_place : get_or all place this ≡ this
  at_place = get_or-map sides_view sided place one this lt ∙ ap sides_view (sym is)

  rest_is : drop place all ≡ this ∷ drop (suc place) all
  rest_is = drop-cons all place this lt_all ∙ ap (λ x. x ∷ drop (suc place) all) at_place

  more_is : take (place + 1) all ≡ earlier ++ this ∷ []
  more_is = take_more all place this lt_all ∙ ap (λ x. earlier ++ x ∷ []) at_place

  step : broken_pair earlier (drop place all) ≡ pair_or (first_such (disagree this) earlier) this (broken_pair (earlier ++ this ∷ []) (drop (suc place) all))
  step = ap (broken_pair earlier) rest_is

  length_firsts : length froms ≡ length stands.firsts
  length_firsts = sym (length-map froms values_of) ∙ ap length stands.by_from ∙ length-map stands.firsts (λ (y : Sides). y.from)

  module _ (from_side to_side : Side) (from_is : values_of from_side ≡ this.from) (to_is : values_of to_side ≡ this.to) (row_is : from_side.row.now ≡ this.row) (first second : Option ℕ) (f : first ≡ number_of froms (values_of from_side)) (s : second ≡ number_of tos (values_of to_side)) where
    f_is : first ≡ number_of froms this.from
    f_is = f ∙ ap (number_of froms) from_is

    s_is : second ≡ number_of tos this.to
    s_is = s ∙ ap (number_of tos) to_is

    by_numbers : one_place (place_by_from stands.firsts this.from) (place_by_to stands.firsts this.to) ≡ one_place first second
    by_numbers =
        ap (λ o. one_place o (place_by_to stands.firsts this.to)) (sym (f_is ∙ same_numbers values_of (λ (y : Sides). y.from) this.from froms stands.firsts stands.by_from))
        ∙ ap (one_place first) (sym (s_is ∙ same_numbers values_of (λ (y : Sides). y.to) this.to tos stands.firsts stands.by_to))

    such : (d : Sides) → first_such (disagree this) stands.firsts ≡ option_map (λ k. get_or stands.firsts k d) (one_place first second)
    such d = found_such stands.firsts stands.agree this d ∙ ap (option_map (λ k. get_or stands.firsts k d)) by_numbers

    -- a record that disagrees has a number
    pub found_before : (k : ℕ) → Some k ≡ one_place first second → k < length froms
    found_before k e = omega (arith, within (disagree this) stands.firsts k (found_place stands.firsts stands.agree this this ∙ by_numbers ∙ sym e), length_firsts)

    row_at : (new : List Side) (k : ℕ) (at : Side) → new ≡ with_side first froms from_side → k < length froms → (get_or new k at).row.now ≡ (get_or stands.firsts k this).row
    row_at new k at kept below =
        ap (λ side. side.row.now) (stays first kept)
        ∙ sym (get_or-map row_of froms k at this.row below)
        ∙ ap (λ rows. get_or rows k this.row) stands.rows
        ∙ get_or-map (λ (y : Sides). y.row) stands.firsts k this this.row (omega (arith, below, length_firsts))
      where
        stays : (o : Option ℕ) → new ≡ with_side o froms from_side → get_or new k at ≡ get_or froms k at
        stays None e = ap (λ sides. get_or sides k at) e ∙ get_or_append_left froms (from_side ∷ []) at k below
        stays (Some n) e = ap (λ sides. get_or sides k at) e

    pub found_below : (new : List Side) (k : ℕ) → new ≡ with_side first froms from_side → Some k ≡ one_place first second → k < length new
    found_below new k kept e = go first kept
      where
        go : (o : Option ℕ) → new ≡ with_side o froms from_side → k < length new
        go None is = omega (arith, ap length is, length-append froms (from_side ∷ []), found_before k e)
        go (Some n) is = omega (arith, ap length is, found_before k e)

    -- and the two are the pair
    pub found_pair : (new : List Side) (k : ℕ) (at : Side) → new ≡ with_side first froms from_side → Some k ≡ one_place first second → Some ((get_or new k at).row.now, one.row.now) ≡ broken_pair [] all
    found_pair new k at kept e =
        let first_is : first_such (disagree this) earlier ≡ Some (get_or stands.firsts k this) = stands.alike this ∙ such this ∙ ap (option_map (λ n. get_or stands.firsts n this)) (sym e) in
        ap (λ r. Some (r, one.row.now)) (row_at new k at kept (found_before k e))
        ∙ sym (sym stands.rest ∙ step ∙ ap (λ o. pair_or o this (broken_pair (earlier ++ this ∷ []) (drop (suc place) all))) first_is)

    -- a record that disagrees with none goes to the others
    rest_more : first_such (disagree this) stands.firsts ≡ None → broken_pair (take (place + 1) all) (drop (place + 1) all) ≡ broken_pair [] all
    rest_more none =
        ap (λ (xs : List Sides). broken_pair xs (drop (place + 1) all)) more_is ∙ ap (λ (n : ℕ). broken_pair (earlier ++ this ∷ []) (drop n all)) (let next : place + 1 ≡ suc place = omega arith in next)
        ∙ sym (step ∙ ap (λ o. pair_or o this (broken_pair (earlier ++ this ∷ []) (drop (suc place) all))) (stands.alike this ∙ none)) ∙ stands.rest

    none_first : None ≡ one_place first second → first_such (disagree this) stands.firsts ≡ None
    none_first e = such this ∙ ap (option_map (λ k. get_or stands.firsts k this)) (sym e)

    pub stands_more : (new_froms new_tos : List Side) → new_froms ≡ with_side first froms from_side → new_tos ≡ with_side second tos to_side → None ≡ one_place first second
        → Stands sided (place + 1) new_froms new_tos
    stands_more new_froms new_tos kept_from kept_to e = go first second refl refl kept_from kept_to e
      where
        none : first_such (disagree this) stands.firsts ≡ None
        none = none_first e

        last : {X Y : Type 0} (g : X → Y) (h : Sides → Y) (xs : List X) (x : X) → map g xs ≡ map h stands.firsts → g x ≡ h this → map g (xs ++ x ∷ []) ≡ map h (stands.firsts ++ this ∷ [])
        last g h xs x m n = map-append g xs (x ∷ []) ∙ ap (λ ys. ys ++ g x ∷ []) m ∙ ap (λ y. map h stands.firsts ++ y ∷ []) n ∙ sym (map-append h stands.firsts (this ∷ []))

        go : (p q : Option ℕ) → first ≡ p → second ≡ q → new_froms ≡ with_side p froms from_side → new_tos ≡ with_side q tos to_side → None ≡ one_place p q → Stands sided (place + 1) new_froms new_tos
        go None None a b kf kt n = record {
          rest = rest_more none;
          firsts = stands.firsts ++ this ∷ [];
          agree = agree_more stands.firsts this stands.agree none;
          alike = λ z. ap (first_such (disagree z)) more_is ∙ such_next (disagree z) earlier stands.firsts this (stands.alike z);
          by_from = ap (map values_of) kf ∙ last values_of (λ (y : Sides). y.from) froms from_side stands.by_from from_is;
          by_to = ap (map values_of) kt ∙ last values_of (λ (y : Sides). y.to) tos to_side stands.by_to to_is;
          rows = ap (map row_of) kf ∙ last row_of (λ (y : Sides). y.row) froms from_side stands.rows row_is;
        }
        go None (Some j) a b kf kt n = cc
        go (Some i) None a b kf kt n = cc
        go (Some i) (Some j) a b kf kt n = record {
          rest = rest_more none;
          firsts = stands.firsts;
          agree = stands.agree;
          alike = λ z. ap (first_such (disagree z)) more_is
              ∙ nothing_new earlier stands.firsts this z i (stands.alike z) none (sym (f_is ∙ same_numbers values_of (λ (y : Sides). y.from) this.from froms stands.firsts stands.by_from) ∙ a);
          by_from = ap (map values_of) kf ∙ stands.by_from;
          by_to = ap (map values_of) kt ∙ stands.by_to;
          rows = ap (map row_of) kf ∙ stands.rows;
        }

-- ---- the records of a source

pub sides_here : (v : View) (fd : Fd) (source : ℕ) (d : SourceData) (columns : Roots) (from to : List ℕ) (rows : List Row) → columns ≡ (stream_at v source).columns → has_both fd (stream_attrs v source).bits ≡ true
    → from ≡ key_places columns fd.from.bits → to ≡ key_places columns fd.to.bits → rows ≡ d.rows → map (sides_at from to) rows ≡ sides_in v fd (source, d)
sides_here v fd source d columns from to rows is both f t r =
    ap (map (sides_at from to)) r
    ∙ ap (λ (ns : List ℕ). map (sides_at ns to) d.rows) (f ∙ ap (λ (cs : Roots). key_places cs fd.from.bits) is)
    ∙ ap (λ (ns : List ℕ). map (sides_at (key_places (stream_at v source).columns fd.from.bits) ns) d.rows) (t ∙ ap (λ (cs : Roots). key_places cs fd.to.bits) is)
    ∙ rw both refl

pub placed_more : (all new : List Placed) (source : Placed) (tail : List Sides) → new ≡ all ++ source ∷ [] → placed_sides source ≡ tail → flat_map placed_sides new ≡ flat_map placed_sides all ++ tail
placed_more all new source tail e is =
    ap (flat_map placed_sides) e ∙ flat_map-append placed_sides all (source ∷ []) ∙ ap (λ (xs : List Sides). flat_map placed_sides all ++ xs) (append-nil (placed_sides source) ∙ is)
