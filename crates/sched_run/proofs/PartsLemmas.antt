-- Parts one after another: which member of all of them stands at a place of one.
use Rattle.std.proofs.Common.{◌≡◌, ◌<◌, ◌≤◌, ◌+◌, ◌*◌, ◌++◌, ◌∷◌, ℕ, zero, suc, Bool, true, false, None, Some, List, [], length, map, take, set, get_or, slice_get, refl, ap, ◌∙◌, sym, subst, inl, inr, arith}
use Rattle.std.specs.Prelude.{if◌then◌else◌}
use Rattle.std.specs.List.{All, flat_map, sum}
use Rattle.std.proofs.lemmas.Bool.{cases_eq}
use Rattle.std.proofs.lemmas.Grind.{flat_map-append}
use Rattle.std.proofs.lemmas.List.{length-append, length-set, get_or-map, get_or-set_other, get_or-set_same}
use Rattle.std.proofs.lemmas.List.Folds.{flat_map-map}
use Rattle.std.proofs.lemmas.Option.{slice_get_within, get_or_from_slice_get}
use Rattle.blz_value.proofs.Lists.{sum-cons}
use Rattle.sched_turns.specs.Windows.{Looked}

-- ---- parts and their sizes

slice_get-left : {A : Type 0} (xs ys : List A) (n : ℕ) (a : A) → slice_get xs n ≡ Some a → slice_get (xs ++ ys) n ≡ Some a
slice_get-left [] ys n a at = let no : None ≡ Some a = at in cc
slice_get-left (x ∷ xs) ys zero a at = at
slice_get-left (x ∷ xs) ys (suc n) a at = slice_get-left xs ys n a at

slice_get-right : {A : Type 0} (xs ys : List A) (n m : ℕ) → m ≡ length xs + n → slice_get (xs ++ ys) m ≡ slice_get ys n
slice_get-right [] ys n m e = ap (slice_get ys) (let same : m ≡ n = omega (arith, e) in same)
slice_get-right (x ∷ xs) ys n zero e = absurd (omega (arith, e))
slice_get-right (x ∷ xs) ys n (suc m) e = slice_get-right xs ys n m (omega (arith, e))

-- the sizes of all parts together
pub lengths_together : {A : Type 0} (parts : List (List A)) → sum (map (λ (l : List A). length l) parts) ≡ length (flat_map (λ (l : List A). l) parts)
lengths_together [] = refl
lengths_together {A} (p ∷ parts) =
    sum-cons (length p) (map (λ (l : List A). length l) parts)
    ∙ ap (λ n. length p + n) (lengths_together parts)
    ∙ sym (length-append p (flat_map (λ (l : List A). l) parts))

-- the sizes of the parts before it and its number in its own part make its number
pub at_place : {A : Type 0} (parts : List (List A)) (number place rest : ℕ) (a : A) → sum (take place (map (λ (l : List A). length l) parts)) + rest ≡ number → slice_get (get_or parts place []) rest ≡ Some a → slice_get (flat_map (λ (l : List A). l) parts) number ≡ Some a
at_place [] number place rest a e at = let no : None ≡ Some a = at in cc
at_place (p ∷ parts) number zero rest a e at =
    let same : rest ≡ number = omega (arith, e) in
    slice_get-left p (flat_map (λ l. l) parts) number a (subst (λ n. slice_get p n ≡ Some a) same at)
at_place {A} (p ∷ parts) number (suc place) rest a e at =
    let before : ℕ = sum (take place (map (λ (l : List A). length l) parts)) in
    let longer : number ≡ length p + (before + rest) = omega (arith, e, sum-cons (length p) (take place (map (λ (l : List A). length l) parts))) in
    slice_get-right p (flat_map (λ l. l) parts) (before + rest) number longer ∙ at_place parts (before + rest) place rest a refl at

-- ---- small sizes

pub few_together : (m : ℕ) (sizes : List ℕ) → All (λ size. size ≤ m) sizes → sum sizes ≤ m * length sizes
few_together m [] small = omega arith
few_together m (x ∷ xs) small =
    let first : x ≤ m = small 0 0 (omega arith) in
    let more = few_together m xs (λ k d within. small (suc k) d (omega (arith, within))) in
    omega (arith, first, more, sum-cons x xs)

pub small_set : (m : ℕ) (sizes : List ℕ) (place size : ℕ) → All (λ s. s ≤ m) sizes → size ≤ m → All (λ s. s ≤ m) (set sizes place size)
small_set m sizes place size all small k d within =
    let inside : k < length sizes = omega (arith, within, length-set sizes place size) in
    elim (cases_eq k place) [
      | inl same ↦ subst (λ n. n ≤ m) (sym (ap (λ n. get_or (set sizes place size) n d) same ∙ get_or-set_same sizes place size d (subst (λ n. n < length sizes) same inside))) small
      | inr differ ↦ subst (λ n. n ≤ m) (sym (get_or-set_other sizes place k size d differ)) (all k d inside)
    ]

-- lists with the same member at each place are the same
pub all_same : {A : Type 0} (xs ys : List A) (d : A) → length xs ≡ length ys → ((k : ℕ) → k < length xs → get_or xs k d ≡ get_or ys k d) → xs ≡ ys
all_same [] [] d many same = refl
all_same [] (y ∷ ys) d many same = absurd (omega (arith, many))
all_same (x ∷ xs) [] d many same = absurd (omega (arith, many))
all_same {A} (x ∷ xs) (y ∷ ys) d many same =
    let first : x ≡ y = same 0 (omega arith) in
    let rest : xs ≡ ys = all_same xs ys d (omega (arith, many)) (λ k less. same (suc k) (omega (arith, less))) in
    ap (λ z. z ∷ xs) first ∙ ap (λ (l : List A). y ∷ l) rest

-- ---- the parts of lanes, and behind them those of takers

-- the sizes of parts by windows
pub window_sizes : {L A : Type 0} (f : L → List A) (lanes : List L) (windows : List Looked) → length windows ≡ length lanes
    → ((place : ℕ) (lane : L) → slice_get lanes place ≡ Some lane → length (get_or windows place (record { places = []; next = 0 })).places ≡ length (f lane))
    → map (λ (window : Looked). length window.places) windows ≡ map (λ (l : List A). length l) (map f lanes)
window_sizes f [] [] many each = refl
window_sizes f [] (w ∷ windows) many each = absurd (omega (arith, many))
window_sizes f (lane ∷ lanes) [] many each = absurd (omega (arith, many))
window_sizes {L} {A} f (lane ∷ lanes) (w ∷ windows) many each =
    let first : length w.places ≡ length (f lane) = each 0 lane refl in
    let rest = window_sizes f lanes windows (omega (arith, many)) (λ place l at. each (suc place) l at) in
    ap (λ n. n ∷ map (λ (window : Looked). length window.places) windows) first ∙ ap (λ (l : List ℕ). length (f lane) ∷ l) rest

one_size : {A : Type 0} (a : A) (b : Bool) → (if b then 1 else 0) ≡ length (if b then a ∷ [] else [])
one_size a true = refl
one_size a false = refl

-- and those of parts with one or none
pub taker_sizes : {T A : Type 0} (can : T → Bool) (make : T → A) (takers : List T)
    → map (λ taker. if can taker then 1 else 0) takers ≡ map (λ (l : List A). length l) (map (λ taker. if can taker then make taker ∷ [] else []) takers)
taker_sizes can make [] = refl
taker_sizes {T} {A} can make (t ∷ takers) =
    ap (λ n. n ∷ map (λ taker. if can taker then 1 else 0) takers) (one_size (make t) (can t))
    ∙ ap (λ (l : List ℕ). length (if can t then make t ∷ [] else []) ∷ l) (taker_sizes can make takers)

pub parts_joined : {L T A : Type 0} (f : L → List A) (g : T → List A) (lanes : List L) (takers : List T) → flat_map (λ (l : List A). l) (map f lanes ++ map g takers) ≡ flat_map f lanes ++ flat_map g takers
parts_joined {L} {T} {A} f g lanes takers =
    flat_map-append (λ (l : List A). l) (map f lanes) (map g takers)
    ∙ ap (λ (l : List A). l ++ flat_map (λ (z : List A). z) (map g takers)) (flat_map-map (λ (l : List A). l) f lanes)
    ∙ ap (λ (l : List A). flat_map f lanes ++ l) (flat_map-map (λ (l : List A). l) g takers)

pub lane_part : {L B : Type 0} (f : L → B) (lanes : List L) (behind : List B) (place : ℕ) (lane : L) (d : B) → slice_get lanes place ≡ Some lane → get_or (map f lanes ++ behind) place d ≡ f lane
lane_part f [] behind place lane d at = let no : None ≡ Some lane = at in cc
lane_part f (l ∷ lanes) behind zero lane d at = let same : l ≡ lane = (let one : Some l ≡ Some lane = at in cc) in ap f same
lane_part f (l ∷ lanes) behind (suc place) lane d at = lane_part f lanes behind place lane d at

pub taker_part : {L T B : Type 0} (f : L → B) (g : T → B) (lanes : List L) (takers : List T) (place number : ℕ) (taker : T) (d : B) → place ≡ length lanes + number → slice_get takers number ≡ Some taker → get_or (map f lanes ++ map g takers) place d ≡ g taker
taker_part f g [] takers place number taker d e at =
    let same : place ≡ number = omega (arith, e) in
    ap (λ n. get_or (map g takers) n d) same ∙ get_or-map g takers number taker d (slice_get_within takers number taker at) ∙ ap g (get_or_from_slice_get takers number taker taker at)
taker_part f g (l ∷ lanes) takers zero number taker d e at = absurd (omega (arith, e))
taker_part f g (l ∷ lanes) takers (suc place) number taker d e at = taker_part f g lanes takers place number taker d (omega (arith, e)) at

-- the one member of the part of a taker
pub taking_part : {A : Type 0} (a : A) (b : Bool) (rest : ℕ) → rest < (if b then 1 else 0) → slice_get (if b then a ∷ [] else []) rest ≡ Some a
taking_part a true zero less = refl
taking_part a true (suc rest) less = absurd (omega (arith, less))
taking_part a false rest less = absurd (omega (arith, less))
