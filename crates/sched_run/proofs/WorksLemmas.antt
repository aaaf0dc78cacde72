-- Where windows and sizes show what is open, the work with a number is found by the sizes; and so they do again when places are looked at.
use Rattle.std.proofs.Common.{◌≡◌, ◌≢◌, ◌<◌, ◌≤◌, ◌+◌, ◌-◌, ◌^◌, ◌++◌, ◌∷◌, ℕ, Bool, true, false, Some, List, [], length, map, take, set, get_or, slice_get, refl, ap, ◌∙◌, sym, subst, inl, inr, ◌⊎◌, arith, append_assoc, length-append}
use Rattle.std.specs.Int.{from_bool}
use Rattle.std.specs.Prelude.{Result, Ok, Err, if◌then◌else◌}
use Rattle.std.specs.Result.{OkIff, is_err}
use Rattle.std.specs.List.{All, flat_map, sum}
use Rattle.std.specs.Option.{option_map}
use Rattle.std.proofs.lemmas.Bool.{cases_eq, cases_lt}
use Rattle.std.proofs.lemmas.List.{length-map, length-set, map-append, get_or_default, get_or_past, get_or-map, get_or_append_left, get_or-append-add, get_or_push, take_more, get_or-set_other, get_or-set_same}
use Rattle.std.proofs.lemmas.Option.{slice_get-get_or, slice_get-map, slice_get_read, slice_get_within}
use Rattle.blz_value.specs.Members.{Has}
use Rattle.blz_value.proofs.Membership.{Has-append_left, Has-append_right, Has-append_cases}
use Rattle.topo_forms.specs.Data.{Data}
use Rattle.topo_forms.specs.Feeds.{no_feed}
use Rattle.topo_forms.specs.View.{View}
use Rattle.inbox.specs.Events.{Event, Step, take_one}
use Rattle.inbox.specs.Executions.{Execution}
use Rattle.inbox.specs.Wiring.{wiring_of}
use Rattle.sched_turns.specs.Sizes.{IsPlaceOf}
use Rattle.sched_turns.specs.Windows.{Looked, IsWindow, first_open}
use Rattle.sched_turns.specs.declared.windows.Stale.{Stale}
use Rattle.sched_turns.proofs.WindowsLemmas.{window_shows}
use Rattle.sched_net.specs.Net.{BooksStand, BooksRun, execution_in}
use Rattle.sched_net.specs.declared.books.Books.{Books}
use Rattle.sched_run.specs.Made.{event_in, is_open_in, lane_list, all_lanes, all_takers, can_take, open_works, works_in, works_of}
use Rattle.sched_run.specs.Code.Looking.{LooksAt, MayLook, TellsTake}
use Rattle.sched_run.specs.Code.Stale.{stale_on}
use Rattle.sched_run.specs.Code.Watch.{StillShows}
use Rattle.sched_run.specs.Code.Works.{AreWorksOf, AreWindowsOn, AreSizesWith, AreShown, MayLookAt, ShowWorks, LooksAgain, LookedAt, LookedFor, sizes_shown, window_at}
use Rattle.sched_run.specs.declared.lanes.Lane.{Lane}
use Rattle.sched_run.specs.declared.lanes.Lane.TheVariants.{Order}
use Rattle.sched_run.specs.declared.lanes.Taker.{Taker}
use Rattle.sched_run.specs.declared.works.Work.{Work}
use Rattle.sched_run.specs.declared.works.Works.{Works}
use Rattle.sched_run.proofs.OpenBefore.{none_opens, window_shown}
use Rattle.sched_run.proofs.StayOpen.{window_fresh}
use Rattle.sched_run.proofs.PartsLemmas.{lengths_together, at_place, few_together, small_set, all_same, window_sizes, taker_sizes, parts_joined, lane_part, taker_part, taking_part}

abbrev none : Looked
none = record { places = []; next = 0 }

abbrev pub no_taker : Taker
no_taker = record { component = 0; replica = 0 }

abbrev no_lane : Lane
no_lane = Order 0 no_feed

abbrev window_size : Looked → ℕ
window_size window = length window.places

abbrev taker_size : Execution → Taker → ℕ
taker_size x taker = if can_take x taker then 1 else 0

-- ---- sizes that are shown

-- that of a lane is the size of its window
pub lane_size : (x : Execution) (k : Works) (place : ℕ) → place < length k.windows.items → get_or (sizes_shown x k) place 0 ≡ length (window_at k place).places
lane_size x k place within = lane_part window_size k.windows.items (map (taker_size x) k.takers.items) place (window_at k place) 0 (slice_get-get_or k.windows.items place none within)

-- and that of a taker says whether it can take
pub taker_size_is : (x : Execution) (k : Works) (place number : ℕ) (taker : Taker) → place ≡ length k.windows.items + number → slice_get k.takers.items number ≡ Some taker → get_or (sizes_shown x k) place 0 ≡ (if can_take x taker then 1 else 0)
taker_size_is x k place number taker e at = taker_part window_size (taker_size x) k.windows.items k.takers.items place number taker 0 e at

-- a place that isn't a lane's is a taker's
pub behind_lanes : (v : View) (k : Works) (place : ℕ) → AreWorksOf v k → place < length k.sizes → length k.lanes.items ≤ place → place - length k.lanes.items < length k.takers.items
behind_lanes v k place works there past = omega (arith, there, past, works.as_many)

-- ---- the work with a number

module _ (v : View) (given : Data) (steps : List Step) (b : Books) (stand : BooksStand v given steps b) (k : Works) (works : AreWorksOf v k) (shown : ShowWorks (wiring_of v) given (execution_in stand) k) where
  abbrev x : Execution
  x = execution_in stand

  abbrev on_lane : Lane → List Event
  on_lane lane = works_in (wiring_of v) given x lane

  abbrev parts : List (List Event)
  parts = map on_lane k.lanes.items ++ map (works_of x) k.takers.items

  -- a window has as many places as its lane has works
  window_is : (place : ℕ) (lane : Lane) → slice_get k.lanes.items place ≡ Some lane → (window_at k place).places ≡ first_open (is_open_in (wiring_of v) given x lane) (length (lane_list (wiring_of v) given x lane))
  window_is place lane at = window_shows (is_open_in (wiring_of v) given x lane) (length (lane_list (wiring_of v) given x lane)) (window_at k place) (shown.windows place lane at)

  sizes_are : k.sizes ≡ map (λ (l : List Event). length l) parts
  sizes_are =
      shown.sizes
      ∙ ap (λ (l : List ℕ). l ++ map (taker_size x) k.takers.items)
      (window_sizes on_lane k.lanes.items k.windows.items works.many
      (λ place lane at. ap (λ (l : List ℕ). length l) (window_is place lane at) ∙ sym (length-map (first_open (is_open_in (wiring_of v) given x lane) (length (lane_list (wiring_of v) given x lane))) (event_in lane))))
      ∙ ap (λ (l : List ℕ). map (λ (events : List Event). length events) (map on_lane k.lanes.items) ++ l) (taker_sizes (can_take x) (λ (taker : Taker). take_one taker.component taker.replica) k.takers.items)
      ∙ sym (map-append (λ (events : List Event). length events) (map on_lane k.lanes.items) (map (works_of x) k.takers.items))

  all_are : open_works (wiring_of v) given x ≡ flat_map (λ (l : List Event). l) parts
  all_are =
      sym (parts_joined on_lane (works_of x) (all_lanes (wiring_of v)) (all_takers (wiring_of v)))
      ∙ ap (λ (lanes : List Lane). flat_map (λ (l : List Event). l) (map on_lane lanes ++ map (works_of x) (all_takers (wiring_of v)))) (sym works.lanes_are)
      ∙ ap (λ (takers : List Taker). flat_map (λ (l : List Event). l) (map on_lane k.lanes.items ++ map (works_of x) takers)) (sym works.takers_are)

  -- the sum of the sizes is the number of all works
  pub total_is : sum k.sizes ≡ length (open_works (wiring_of v) given (execution_in stand))
  total_is = ap sum sizes_are ∙ lengths_together parts ∙ sym (ap (λ (l : List Event). length l) all_are)

  found : (number place rest : ℕ) (e : Event) → IsPlaceOf k.sizes number place rest → slice_get (get_or parts place []) rest ≡ Some e → slice_get (open_works (wiring_of v) given x) number ≡ Some e
  found number place rest e is at =
      ap (λ (l : List Event). slice_get l number) all_are
      ∙ at_place parts number place rest e (subst (λ (sizes : List ℕ). sum (take place sizes) + rest ≡ number) sizes_are is.before) at

  pub lane_found : (number place rest index : ℕ) (lane : Lane) → IsPlaceOf k.sizes number place rest → slice_get k.lanes.items place ≡ Some lane → slice_get (window_at k place).places rest ≡ Some index → slice_get (open_works (wiring_of v) given (execution_in stand)) number ≡ Some (event_in lane index)
  lane_found number place rest index lane is at here =
      found number place rest (event_in lane index) is
      (ap (λ (l : List Event). slice_get l rest) (lane_part on_lane k.lanes.items (map (works_of x) k.takers.items) place lane [] at)
      ∙ mapped (first_open (is_open_in (wiring_of v) given x lane) (length (lane_list (wiring_of v) given x lane))) rest (subst (λ (l : List ℕ). slice_get l rest ≡ Some index) (window_is place lane at) here))
    where
      mapped : (places : List ℕ) (n : ℕ) → slice_get places n ≡ Some index → slice_get (map (event_in lane) places) n ≡ Some (event_in lane index)
      mapped places n e = slice_get-map (event_in lane) places n ∙ ap (option_map (event_in lane)) e

  pub taker_found : (number place rest n : ℕ) (taker : Taker) → IsPlaceOf k.sizes number place rest → place ≡ length k.lanes.items + n → slice_get k.takers.items n ≡ Some taker → slice_get (open_works (wiring_of v) given (execution_in stand)) number ≡ Some (take_one taker.component taker.replica)
  taker_found number place rest n taker is e at =
      let size : get_or k.sizes place 0 ≡ (if can_take x taker then 1 else 0) = ap (λ (l : List ℕ). get_or l place 0) shown.sizes ∙ taker_size_is x k place n taker (omega (arith, e, works.many)) at in
      found number place rest (take_one taker.component taker.replica) is
      (ap (λ (l : List Event). slice_get l rest) (taker_part on_lane (works_of x) k.lanes.items k.takers.items place n taker [] e at)
      ∙ taking_part (take_one taker.component taker.replica) (can_take x taker) rest (subst (λ m. rest < m) size is.within))

  -- a number in the size of a lane is that of a place of its window
  pub rest_within : (number place rest : ℕ) → IsPlaceOf k.sizes number place rest → place < length k.lanes.items → rest < length (window_at k place).places
  rest_within number place rest is within =
      subst (λ m. rest < m) (ap (λ (l : List ℕ). get_or l place 0) shown.sizes ∙ lane_size x k place (omega (arith, within, works.many))) is.within

-- a number in a size stands at a place that is there
pub place_there : (sizes : List ℕ) (number place rest : ℕ) → IsPlaceOf sizes number place rest → place < length sizes
place_there sizes number place rest is = elim (cases_lt place (length sizes)) [
  | inl within ↦ within
  | inr past ↦ (let zero_there : get_or sizes place 0 ≡ 0 = get_or_past sizes place 0 past in let less = is.within in absurd (omega (arith, zero_there, less)))
]

-- ---- all works at the start

pub windows_small : (v : View) (b : Books) (on : List Lane) (windows : List Looked) → BooksRun v b → AreWindowsOn v b on windows → All (λ (window : Looked). length window.places ≤ 8) windows
windows_small v b on windows runs are k d within =
    let inside : k < length on = omega (arith, within, are.0) in
    let shows = are.1 k (get_or on k no_lane) (slice_get-get_or on k no_lane inside) runs.given runs.steps runs.stand in
    let same : get_or windows k none ≡ get_or windows k d = get_or_default windows k none d within in
    subst (λ (window : Looked). length window.places ≤ 8) same shows.few

pub sizes_small : (v : View) (b : Books) (windows : List Looked) (takers : List Taker) (sizes : List ℕ) → BooksRun v b → All (λ (window : Looked). length window.places ≤ 8) windows → AreSizesWith v b (map (λ (window : Looked). length window.places) windows) takers sizes → All (λ size. size ≤ 8) sizes
sizes_small v b windows takers sizes runs small are =
    subst (All (λ size. size ≤ 8)) (sym (are runs.given runs.steps runs.stand))
    (all_append (map (λ (window : Looked). length window.places) windows) (map (taker_size (execution_in runs.stand)) takers) (all_mapped small) takers_small)
  where
    all_append : (xs ys : List ℕ) → All (λ size. size ≤ 8) xs → All (λ size. size ≤ 8) ys → All (λ size. size ≤ 8) (xs ++ ys)
    all_append xs ys left right k d within = elim (cases_lt k (length xs)) [
      | inl less ↦ subst (λ n. n ≤ 8) (sym (get_or_append_left xs ys d k less)) (left k d less)
      | inr more ↦
          let there : k ≡ length xs + (k - length xs) = omega (arith, more) in
          subst (λ n. n ≤ 8) (sym (ap (λ n. get_or (xs ++ ys) n d) there ∙ get_or-append-add xs ys (k - length xs) d)) (right (k - length xs) d (omega (arith, within, more, length-append xs ys)))
    ]

    all_mapped : All (λ (window : Looked). length window.places ≤ 8) windows → All (λ size. size ≤ 8) (map (λ (window : Looked). length window.places) windows)
    all_mapped each k d within =
        let inside : k < length windows = omega (arith, within, length-map windows (λ (window : Looked). length window.places)) in
        subst (λ n. n ≤ 8) (sym (get_or-map (λ (window : Looked). length window.places) windows k none d inside)) (each k none inside)

    one : (b : Bool) → (if b then 1 else 0) ≤ 8
    one true = omega arith
    one false = omega arith

    takers_small : All (λ size. size ≤ 8) (map (taker_size (execution_in runs.stand)) takers)
    takers_small k d within =
        let inside : k < length takers = omega (arith, within, length-map takers (taker_size (execution_in runs.stand))) in
        subst (λ n. n ≤ 8) (sym (get_or-map (taker_size (execution_in runs.stand)) takers k no_taker d inside)) (one (can_take (execution_in runs.stand) (get_or takers k no_taker)))

pub sizes_many : (v : View) (b : Books) (windows : List Looked) (takers : List Taker) (sizes : List ℕ) → BooksRun v b → AreSizesWith v b (map (λ (window : Looked). length window.places) windows) takers sizes → length sizes ≡ length windows + length takers
sizes_many v b windows takers sizes runs are =
    let x = execution_in runs.stand in
    ap (λ (l : List ℕ). length l) (are runs.given runs.steps runs.stand)
    ∙ (let e : length (map (λ (window : Looked). length window.places) windows ++ map (taker_size x) takers) ≡ length windows + length takers = omega (arith, length-append (map (λ (window : Looked). length window.places) windows) (map (taker_size x) takers), length-map windows (λ (window : Looked). length window.places), length-map takers (taker_size x)) in e)

-- a number that a smaller type takes is few
pub taken_few : {E : Type 0} (r : Result ℕ E) (n m : ℕ) → OkIff r (n < 2 ^ 32) n → is_err r ≡ false → n ≡ m → m < 2 ^ 32
taken_few (Ok k) n m is fine same = (let few = is.0 in omega (arith, few, same))
taken_few (Err e) n m is fine same = (let bad : true ≡ false = fine in cc)

-- few sizes fit together
pub sum_fits : (sizes : List ℕ) → All (λ size. size ≤ 8) sizes → length sizes < 2 ^ 32 → sum sizes < 2 ^ 64
sum_fits sizes small few = omega (arith, few_together 8 sizes small, few)

module _ (v : View) (b : Books) (on : List Lane) (who : List Taker) (windows : List Looked) (before sizes : List ℕ) (runs : BooksRun v b) (are : AreWindowsOn v b on windows) (first : before ≡ map (λ (window : Looked). length window.places) windows) (all : AreSizesWith v b before who sizes) (few : length sizes < 2 ^ 32) where
  all_sizes : AreSizesWith v b (map (λ (window : Looked). length window.places) windows) who sizes
  all_sizes = subst (λ (l : List ℕ). AreSizesWith v b l who sizes) first all

  small : All (λ size. size ≤ 8) sizes
  small = sizes_small v b windows who sizes runs (windows_small v b on windows runs are) all_sizes

  pub sizes_fit : sum sizes < 2 ^ 64
  sizes_fit = sum_fits sizes small few

  pub first_works : (k : Works) → on ≡ all_lanes (wiring_of v) → who ≡ all_takers (wiring_of v) → k.lanes.items ≡ on → k.takers.items ≡ who → k.windows.items ≡ windows → k.sizes ≡ sizes → AreWorksOf v k
  first_works k lanes_all takers_all lanes takers shown kept =
      let many_sizes = sizes_many v b windows who sizes runs all_sizes in
      let many_lanes : length k.lanes.items ≡ length on = ap (λ (l : List Lane). length l) lanes in
      let many_takers : length k.takers.items ≡ length who = ap (λ (l : List Taker). length l) takers in
      let many_windows : length k.windows.items ≡ length windows = ap (λ (l : List Looked). length l) shown in
      let same_sizes : length k.sizes ≡ length sizes = ap (λ (l : List ℕ). length l) kept in
      record {
        lanes_are = lanes ∙ lanes_all;
        takers_are = takers ∙ takers_all;
        many = many_windows ∙ are.0 ∙ sym many_lanes;
        as_many = omega (arith, same_sizes, many_sizes, many_lanes, many_takers, are.0);
        few = omega (arith, few, same_sizes);
        small = subst (All (λ size. size ≤ 8)) (sym kept) small;
      }

  pub first_shown : (k : Works) → k.lanes.items ≡ on → k.takers.items ≡ who → k.windows.items ≡ windows → k.sizes ≡ sizes → AreShown v b k
  first_shown k lanes takers shown kept given steps stand = record {
    windows = λ place lane at.
        subst (λ (l : List Looked). IsWindow (is_open_in (wiring_of v) given (execution_in stand) lane) (length (lane_list (wiring_of v) given (execution_in stand) lane)) (get_or l place none)) (sym shown)
        (are.1 place lane (ap (λ (l : List Lane). slice_get l place) (sym lanes) ∙ at) given steps stand);
    sizes =
        kept
        ∙ all_sizes given steps stand
        ∙ ap (λ (l : List Looked). map window_size l ++ map (taker_size (execution_in stand)) who) (sym shown)
        ∙ ap (λ (l : List Taker). map window_size k.windows.items ++ map (taker_size (execution_in stand)) l) (sym takers);
  }

-- ---- looking again

module _ (v : View) (b : Books) (old new : Works) (place size : ℕ) (works : AreWorksOf v old) (looks : LooksAgain v b old new place size) where
  -- the size that is kept fits
  pub still_fits : sum (set new.sizes place size) < 2 ^ 64
  still_fits =
      subst (λ (l : List ℕ). sum (set l place size) < 2 ^ 64) (sym looks.sizes_stay)
      (sum_fits (set old.sizes place size) (small_set 8 old.sizes place size works.small looks.small) (let few = works.few in omega (arith, few, length-set old.sizes place size)))

  pub looked_works : (kept : Works) → kept.lanes ≡ new.lanes → kept.takers ≡ new.takers → kept.windows ≡ new.windows → kept.sizes ≡ set new.sizes place size → AreWorksOf v kept
  looked_works kept lanes takers windows sizes =
      let sizes_are : kept.sizes ≡ set old.sizes place size = sizes ∙ ap (λ (l : List ℕ). set l place size) looks.sizes_stay in
      let many_sizes : length kept.sizes ≡ length old.sizes = ap (λ (l : List ℕ). length l) sizes_are ∙ length-set old.sizes place size in
      let same_lanes = lanes ∙ looks.lanes_stay in
      let same_takers = takers ∙ looks.takers_stay in
      let many_lanes : length kept.lanes.items ≡ length old.lanes.items = ap (λ z. length z.items) same_lanes in
      let many_takers : length kept.takers.items ≡ length old.takers.items = ap (λ z. length z.items) same_takers in
      let many_windows : length kept.windows.items ≡ length old.windows.items = ap (λ z. length z.items) windows ∙ looks.as_many in
      record {
        lanes_are = ap (λ z. z.items) same_lanes ∙ works.lanes_are;
        takers_are = ap (λ z. z.items) same_takers ∙ works.takers_are;
        many = many_windows ∙ works.many ∙ sym many_lanes;
        as_many = omega (arith, many_sizes, works.as_many, many_lanes, many_takers);
        few = (let few = works.few in omega (arith, few, many_sizes));
        small = subst (All (λ s. s ≤ 8)) (sym sizes_are) (small_set 8 old.sizes place size works.small looks.small);
      }

  pub looked_at : (kept : Works) → kept.lanes ≡ new.lanes → kept.takers ≡ new.takers → kept.windows ≡ new.windows → kept.sizes ≡ set new.sizes place size → LookedAt v b old kept place
  looked_at kept lanes takers windows sizes = record {
    lanes_stay = lanes ∙ looks.lanes_stay;
    takers_stay = takers ∙ looks.takers_stay;
    others = λ other differ. ap (λ z. get_or z.items other none) windows ∙ looks.others other differ;
    window = λ lane at. subst (LooksAt v b lane) (ap (λ z. get_or z.items place none) (sym windows)) (looks.window lane (subst (λ z. slice_get z.items place ≡ Some lane) lanes at));
    size = λ given steps stand.
        sizes
        ∙ ap (λ (l : List ℕ). set l place size) looks.sizes_stay
        ∙ ap (set old.sizes place) (looks.size given steps stand
        ∙ ap (λ z. get_or (map window_size z.items ++ map (taker_size (execution_in stand)) new.takers.items) place 0) (sym windows)
        ∙ ap (λ z. get_or (map window_size kept.windows.items ++ map (taker_size (execution_in stand)) z.items) place 0) (sym takers));
  }

-- ---- looking at some

-- where the window is as it was the size is shown as before
pub shown_size : (v : View) (old new : Works) (x : Execution) → AreWorksOf v old → AreWorksOf v new → new.lanes ≡ old.lanes → new.takers ≡ old.takers → (n : ℕ) → n < length old.sizes → window_at new n ≡ window_at old n → get_or (sizes_shown x new) n 0 ≡ get_or (sizes_shown x old) n 0
shown_size v old new x works after lanes takers n there same =
    let many : length new.windows.items ≡ length old.windows.items = after.many ∙ ap (λ z. length z.items) lanes ∙ sym works.many in
    elim (cases_lt n (length old.windows.items)) [
      | inl less ↦
          lane_size x new n (omega (arith, less, many))
          ∙ ap (λ (window : Looked). length window.places) same
          ∙ sym (lane_size x old n less)
      | inr more ↦
          let number : ℕ = n - length old.windows.items in
          let there_too : number < length old.takers.items = omega (arith, there, more, works.as_many, works.many) in
          let at : n ≡ length old.windows.items + number = omega (arith, more) in
          taker_at number there_too at many
    ]
  where
    taker_at : (number : ℕ) → number < length old.takers.items → n ≡ length old.windows.items + number → length new.windows.items ≡ length old.windows.items → get_or (sizes_shown x new) n 0 ≡ get_or (sizes_shown x old) n 0
    taker_at number there_too at many =
        let own = slice_get-get_or old.takers.items number (no_taker) there_too in
        taker_size_is x new n number (get_or old.takers.items number no_taker) (omega (arith, at, many)) (ap (λ z. slice_get z.items number) takers ∙ own)
        ∙ sym (taker_size_is x old n number (get_or old.takers.items number no_taker) at own)

-- as many sizes as before
pub sizes_stay_many : (v : View) (old now : Works) → AreWorksOf v old → AreWorksOf v now → length now.sizes ≡ length old.sizes
sizes_stay_many v old now works after =
    let lanes : length now.lanes.items ≡ length old.lanes.items = ap (λ (l : List Lane). length l) (after.lanes_are ∙ sym works.lanes_are) in
    let takers : length now.takers.items ≡ length old.takers.items = ap (λ (l : List Taker). length l) (after.takers_are ∙ sym works.takers_are) in
    omega (arith, after.as_many, works.as_many, lanes, takers)

pub looked_for_none : (v : View) (b : Books) (k : Works) → AreWorksOf v k → LookedFor v b k k []
looked_for_none v b k works = record {
  works = works;
  there = λ place h. absurd h;
  lanes_stay = refl;
  takers_stay = refl;
  others = λ place none. refl;
  other_sizes = λ place none. refl;
  windows = λ place lane h at. absurd h;
  sizes = λ place h given steps stand. absurd h;
}

-- one place more
module _ (v : View) (b : Books) (old now new : Works) (done : List ℕ) (place : ℕ) (runs : BooksRun v b) (below : LookedFor v b old now done) (after : AreWorksOf v new) (looked : LookedAt v b now new place) (there : place < length now.sizes) where
  last : (n : ℕ) → Has n (done ++ place ∷ []) → n ≢ place → Has n done
  last n h differ = elim (Has-append_cases n done (place ∷ []) h) [
    | inl before ↦ before
    | inr at_end ↦ elim at_end [ inl same ↦ absurd (differ (sym same)) | inr none ↦ absurd none ]
  ]

  apart : (n : ℕ) → ¬ Has n (done ++ place ∷ []) → n ≢ place
  apart n none same = none (Has-append_right n done (place ∷ []) (inl (sym same)))

  before : (n : ℕ) → ¬ Has n (done ++ place ∷ []) → ¬ Has n done
  before n none h = none (Has-append_left n done (place ∷ []) h)

  many : length new.sizes ≡ length now.sizes
  many = sizes_stay_many v now new below.works after

  pub looked_for_more : LookedFor v b old new (done ++ place ∷ [])
  looked_for_more = record {
    works = after;
    there = λ n h. elim (cases_eq n place) [
      | inl same ↦ (omega (arith, same, there, many))
      | inr differ ↦ (let inside = below.there n (last n h differ) in omega (arith, inside, many))
    ];
    lanes_stay = looked.lanes_stay ∙ below.lanes_stay;
    takers_stay = looked.takers_stay ∙ below.takers_stay;
    others = λ n none. looked.others n (apart n none) ∙ below.others n (before n none);
    other_sizes = λ n none.
        ap (λ (l : List ℕ). get_or l n 0) (looked.size runs.given runs.steps runs.stand)
        ∙ get_or-set_other now.sizes place n (get_or (sizes_shown (execution_in runs.stand) new) place 0) 0 (apart n none)
        ∙ below.other_sizes n (before n none);
    windows = λ n lane h at. elim (cases_eq n place) [
      | inl same ↦ subst (λ m. LooksAt v b lane (window_at new m)) (sym same) (looked.window lane (subst (λ m. slice_get new.lanes.items m ≡ Some lane) same at))
      | inr differ ↦ subst (LooksAt v b lane) (sym (looked.others n differ)) (below.windows n lane (last n h differ) (ap (λ z. slice_get z.items n) (sym looked.lanes_stay) ∙ at))
    ];
    sizes = λ n h given steps stand. elim (cases_eq n place) [
      | inl same ↦
          ap (λ m. get_or new.sizes m 0) same
          ∙ ap (λ (l : List ℕ). get_or l place 0) (looked.size given steps stand)
          ∙ get_or-set_same now.sizes place (get_or (sizes_shown (execution_in stand) new) place 0) 0 there
          ∙ ap (λ m. get_or (sizes_shown (execution_in stand) new) m 0) (sym same)
      | inr differ ↦
          ap (λ (l : List ℕ). get_or l n 0) (looked.size given steps stand)
          ∙ get_or-set_other now.sizes place n (get_or (sizes_shown (execution_in stand) new) place 0) 0 differ
          ∙ below.sizes n (last n h differ) given steps stand
          ∙ sym (shown_size v now new (execution_in stand) below.works after looked.lanes_stay looked.takers_stay n (below.there n (last n h differ)) (looked.others n differ))
    ];
  }

has_or_not : (n : ℕ) (ns : List ℕ) → Has n ns ⊎ (¬ Has n ns)
has_or_not n [] = inr (λ h. h)
has_or_not n (m ∷ ms) = elim (cases_eq m n) [
  | inl same ↦ inl (inl same)
  | inr differ ↦ elim (has_or_not n ms) [
    | inl h ↦ inl (inr h)
    | inr none ↦ inr (λ h. elim h [ inl same ↦ differ same | inr later ↦ none later ])
  ]
]

-- some places, and then others
module _ (v : View) (b : Books) (old now new : Works) (xs ys : List ℕ) (first : LookedFor v b old now xs) (second : LookedFor v b now new ys) where
  others_too : (n : ℕ) → ¬ Has n (xs ++ ys) → (¬ Has n xs) × (¬ Has n ys)
  others_too n none = (λ h. none (Has-append_left n xs ys h), λ h. none (Has-append_right n xs ys h))

  in_first : (n : ℕ) → Has n (xs ++ ys) → ¬ Has n ys → Has n xs
  in_first n h none = elim (Has-append_cases n xs ys h) [ inl a ↦ a | inr c ↦ absurd (none c) ]

  pub looked_for_then : LookedFor v b old new (xs ++ ys)
  looked_for_then =
      let many : length new.sizes ≡ length now.sizes = sizes_stay_many v now new first.works second.works in
      record {
        works = second.works;
        there = λ n h. elim (Has-append_cases n xs ys h) [
          | inl a ↦ (let inside = first.there n a in omega (arith, inside, many))
          | inr c ↦ second.there n c
        ];
        lanes_stay = second.lanes_stay ∙ first.lanes_stay;
        takers_stay = second.takers_stay ∙ first.takers_stay;
        others = λ n none. (let both = others_too n none in second.others n both.1 ∙ first.others n both.0);
        other_sizes = λ n none. (let both = others_too n none in second.other_sizes n both.1 ∙ first.other_sizes n both.0);
        windows = λ n lane h at. elim (has_or_not n ys) [
          | inl c ↦ second.windows n lane c at
          | inr none ↦ subst (LooksAt v b lane) (sym (second.others n none)) (first.windows n lane (in_first n h none) (ap (λ z. slice_get z.items n) (sym second.lanes_stay) ∙ at))
        ];
        sizes = λ n h given steps stand. elim (has_or_not n ys) [
          | inl c ↦ second.sizes n c given steps stand
          | inr none ↦
              second.other_sizes n none
              ∙ first.sizes n (in_first n h none) given steps stand
              ∙ sym (shown_size v now new (execution_in stand) first.works second.works second.lanes_stay second.takers_stay n (first.there n (in_first n h none)) (second.others n none))
        ];
      }

-- a window that shows what is open may be looked at again
may_again : (v : View) (b : Books) (lane : Lane) (stale : Stale) (window : Looked) → BooksRun v b → LooksAt v b lane window → MayLook v b lane stale window
may_again v b lane stale window runs looks =
    let x : Execution = execution_in runs.stand in
    let is = looks runs.given runs.steps runs.stand in
    record {
      given = runs.given;
      steps = runs.steps;
      stand = runs.stand;
      inside = is.inside;
      shown = window_shown (wiring_of v) runs.given x x lane window (none_opens (wiring_of v) runs.given x lane) is;
      fresh = window_fresh (wiring_of v) runs.given x x lane stale window (λ index within fresh e. e) is;
    }

-- what was to be looked at again still is
pub still_may : (v : View) (b : Books) (old now : Works) (work : Work) (done : List ℕ) → BooksRun v b → LookedFor v b old now done → ((n : ℕ) → MayLookAt v b old work n) → (place : ℕ) → MayLookAt v b now work place
still_may v b old now work done runs below may place lane at = elim (has_or_not place done) [
  | inl h ↦ may_again v b lane (stale_on work lane) (window_at now place) runs (below.windows place lane h at)
  | inr none ↦ subst (MayLook v b lane (stale_on work lane)) (sym (below.others place none)) (may place lane (ap (λ z. slice_get z.items place) (sym below.lanes_stay) ∙ at))
]

-- where all others show what is open still, all do
pub all_shown : (v : View) (b : Books) (old now : Works) (places : List ℕ) → AreWorksOf v old → LookedFor v b old now places → ((n : ℕ) → n < length old.sizes → ¬ Has n places → StillShows v b old n) → AreShown v b now
all_shown v b old now places works below rest given steps stand =
    let after = below.works in
    let x : Execution = execution_in stand in
    let many : length now.sizes ≡ length old.sizes = sizes_stay_many v old now works after in
    record {
      windows = λ place lane at. elim (has_or_not place places) [
        | inl h ↦ below.windows place lane h at given steps stand
        | inr none ↦
            let within = slice_get_within now.lanes.items place lane at in
            let still = rest place (omega (arith, within, after.as_many, many)) none in
            subst (λ (window : Looked). IsWindow (is_open_in (wiring_of v) given x lane) (length (lane_list (wiring_of v) given x lane)) window) (sym (below.others place none))
            (still.window lane (ap (λ z. slice_get z.items place) (sym below.lanes_stay) ∙ at) given steps stand)
      ];
      sizes =
          all_same now.sizes (sizes_shown x now) 0
          (omega (arith, after.as_many, after.many, length-append (map window_size now.windows.items) (map (taker_size x) now.takers.items), length-map now.windows.items window_size, length-map now.takers.items (taker_size x)))
          (λ n less. elim (has_or_not n places) [
            | inl h ↦ below.sizes n h given steps stand
            | inr none ↦
                let there : n < length old.sizes = omega (arith, less, many) in
                below.other_sizes n none
                ∙ (rest n there none).size given steps stand
                ∙ sym (shown_size v old now x works after below.lanes_stay below.takers_stay n there (below.others n none))
          ]);
    }

-- ---- what is chosen

-- a window that is read is that at its place
pub window_read_at : (k : Works) (place : ℕ) (window : Looked) → place < length k.windows.items → window ≡ get_or k.windows.items place window → window_at k place ≡ window
window_read_at k place window within at = get_or_default k.windows.items place none window within ∙ sym at

module _ (v : View) (b : Books) (k : Works) (works : AreWorksOf v k) (shown : AreShown v b k) (number place rest : ℕ) (is : IsPlaceOf k.sizes number place rest) where
  module _ (window : Looked) (places : List ℕ) (within : place < length k.lanes.items) (at : window ≡ get_or k.windows.items place window) (are : places ≡ window.places) where
    window_read : (window_at k place).places ≡ places
    window_read = ap (λ (w : Looked). w.places) (window_read_at k place window (omega (arith, within, works.many)) at) ∙ sym are

    pub index_within : BooksRun v b → rest < length places
    index_within runs = subst (λ (l : List ℕ). rest < length l) window_read (rest_within v runs.given runs.steps b runs.stand k works (shown runs.given runs.steps runs.stand) number place rest is within)

    pub lane_chosen : BooksRun v b → (lane : Lane) → slice_get k.lanes.items place ≡ Some lane → (given : Data) (steps : List Step) (stand : BooksStand v given steps b) → slice_get (open_works (wiring_of v) given (execution_in stand)) number ≡ Some (event_in lane (get_or places rest 0))
    lane_chosen runs lane own given steps stand =
        lane_found v given steps b stand k works (shown given steps stand) number place rest (get_or places rest 0) lane is own
        (subst (λ (l : List ℕ). slice_get l rest ≡ Some (get_or places rest 0)) (sym window_read) (slice_get-get_or places rest 0 (index_within runs)))

  pub taker_within : length k.lanes.items ≤ place → place - length k.lanes.items < length k.takers.items
  taker_within past = behind_lanes v k place works (place_there k.sizes number place rest is) past

  pub taker_read : (taker : Taker) → length k.lanes.items ≤ place → taker ≡ get_or k.takers.items (place - length k.lanes.items) taker → slice_get k.takers.items (place - length k.lanes.items) ≡ Some taker
  taker_read taker past at = slice_get_read k.takers.items (length k.takers.items) (place - length k.lanes.items) taker refl (taker_within past) at

  pub taker_chosen : (taker : Taker) → length k.lanes.items ≤ place → slice_get k.takers.items (place - length k.lanes.items) ≡ Some taker → (given : Data) (steps : List Step) (stand : BooksStand v given steps b) → slice_get (open_works (wiring_of v) given (execution_in stand)) number ≡ Some (take_one taker.component taker.replica)
  taker_chosen taker past at given steps stand =
      taker_found v given steps b stand k works (shown given steps stand) number place rest (place - length k.lanes.items) taker is (omega (arith, past)) at

-- ---- windows and sizes, one after another

counted : (answer : Bool) → from_bool answer ≡ (if answer then 1 else 0)
counted true = refl
counted false = refl

-- the windows on the first lanes
abbrev pub WindowsBelow : View → Books → List Lane → List Looked → (places : ℕ) → Type 0
WindowsBelow v b on windows places = (length windows ≡ places) × ((place : ℕ) (lane : Lane) → place < places → slice_get on place ≡ Some lane → LooksAt v b lane (get_or windows place (record { places = []; next = 0 })))

pub window_more : (v : View) (b : Books) (on : List Lane) (windows : List Looked) (i : ℕ) (lane : Lane) (window : Looked) → WindowsBelow v b on windows i → i < length on → lane ≡ get_or on i lane → LooksAt v b lane window → WindowsBelow v b on (windows ++ window ∷ []) (i + 1)
window_more v b on windows i lane window below within at looks = (
  omega (arith, below.0, length-append windows (window ∷ [])),
  λ place other less own. elim (cases_lt place i) [
    | inl under ↦ subst (LooksAt v b other) (sym (get_or_append_left windows (window ∷ []) none place (omega (arith, under, below.0)))) (below.1 place other under own)
    | inr over ↦
        let last : place ≡ i = omega (arith, less, over) in
        let one : Some lane ≡ Some other = sym (slice_get_read on (length on) i lane refl within at) ∙ ap (slice_get on) (sym last) ∙ own in
        let same : lane ≡ other = cc in
        subst (LooksAt v b other) (sym (get_or_push windows window none place (omega (arith, last, below.0)))) (subst (λ l. LooksAt v b l window) same looks)
  ],
)

pub windows_all : (v : View) (b : Books) (on : List Lane) (windows : List Looked) (i : ℕ) → WindowsBelow v b on windows i → i ≡ length on → AreWindowsOn v b on windows
windows_all v b on windows i below all = (below.0 ∙ all, λ place lane own. below.1 place lane (omega (arith, all, slice_get_within on place lane own)) own)

pub take_more_sizes : (v : View) (b : Books) (before : List ℕ) (who : List Taker) (sizes : List ℕ) (i size : ℕ) (taker : Taker) (answer : Bool) → AreSizesWith v b before (take i who) sizes → i < length who → taker ≡ get_or who i taker → TellsTake v b taker answer → size ≡ from_bool answer → AreSizesWith v b before (take (i + 1) who) (sizes ++ size ∷ [])
take_more_sizes v b before who sizes i size taker answer are within at tells is given steps stand =
    let x : Execution = execution_in stand in
    let one : size ≡ taker_size x taker = is ∙ counted answer ∙ ap (λ (a : Bool). if a then 1 else 0) (tells given steps stand) in
    ap (λ (l : List ℕ). l ++ size ∷ []) (are given steps stand)
    ∙ append_assoc before (map (taker_size x) (take i who)) (size ∷ [])
    ∙ ap (λ (l : List ℕ). before ++ l)
    (ap (λ n. map (taker_size x) (take i who) ++ n ∷ []) one
    ∙ sym (map-append (taker_size x) (take i who) (taker ∷ []))
    ∙ ap (map (taker_size x)) (ap (λ t. take i who ++ t ∷ []) at ∙ sym (take_more who i taker within)))

-- ---- one place

module _ (v : View) (b : Books) (old new : Works) (place size : ℕ) (works : AreWorksOf v old) (lanes : new.lanes ≡ old.lanes) (takers : new.takers ≡ old.takers) (sizes : new.sizes ≡ old.sizes) where
  pub looks_lane : (runs : BooksRun v b) (lane : Lane) (window : Looked) → place < length old.lanes.items → new.windows.items ≡ set old.windows.items place window → slice_get old.lanes.items place ≡ Some lane → LooksAt v b lane window → size ≡ length window.places → LooksAgain v b old new place size
  looks_lane runs lane window within becomes own looks is =
      let inside : place < length old.windows.items = omega (arith, within, works.many) in
      let here : window_at new place ≡ window = ap (λ (l : List Looked). get_or l place none) becomes ∙ get_or-set_same old.windows.items place window none inside in
      let many : length new.windows.items ≡ length old.windows.items = ap (λ (l : List Looked). length l) becomes ∙ length-set old.windows.items place window in
      record {
        lanes_stay = lanes;
        takers_stay = takers;
        sizes_stay = sizes;
        as_many = many;
        others = λ other differ. ap (λ (l : List Looked). get_or l other none) becomes ∙ get_or-set_other old.windows.items place other window none differ;
        window = λ other at.
            let one : Some lane ≡ Some other = sym own ∙ sym (ap (λ z. slice_get z.items place) lanes) ∙ at in
            let same : lane ≡ other = cc in
            subst (LooksAt v b other) (sym here) (subst (λ l. LooksAt v b l window) same looks);
        size = λ given steps stand. is ∙ ap (λ (w : Looked). length w.places) (sym here) ∙ sym (lane_size (execution_in stand) new place (omega (arith, inside, many)));
        small = (let few = (looks runs.given runs.steps runs.stand).few in omega (arith, few, is));
      }

  pub looks_taker : (taker : Taker) (answer : Bool) → length old.lanes.items ≤ place → new.windows ≡ old.windows → slice_get old.takers.items (place - length old.lanes.items) ≡ Some taker → TellsTake v b taker answer → size ≡ from_bool answer → LooksAgain v b old new place size
  looks_taker taker answer past windows own tells is = record {
    lanes_stay = lanes;
    takers_stay = takers;
    sizes_stay = sizes;
    as_many = ap (λ z. length z.items) windows;
    others = λ other differ. ap (λ z. get_or z.items other none) windows;
    window = λ lane at. (let within = slice_get_within old.lanes.items place lane (sym (ap (λ z. slice_get z.items place) lanes) ∙ at) in absurd (omega (arith, within, past)));
    size = λ given steps stand.
        is
        ∙ counted answer
        ∙ ap (λ (a : Bool). if a then 1 else 0) (tells given steps stand)
        ∙ sym (taker_size_is (execution_in stand) new place (place - length old.lanes.items) taker (omega (arith, past, works.many, ap (λ z. length z.items) windows)) (ap (λ z. slice_get z.items (place - length old.lanes.items)) takers ∙ own));
    small = at_most answer (is ∙ counted answer);
  }
    where
      at_most : (a : Bool) → size ≡ (if a then 1 else 0) → size ≤ 8
      at_most true e = omega (arith, e)
      at_most false e = omega (arith, e)
