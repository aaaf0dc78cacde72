-- A list of which one element was set aside, and which is brought back to what it was.
use Rattle.std.proofs.Common.{◌≡◌, ◌∙◌, ◌+◌, ◌-◌, ◌≤◌, ℕ, suc, Bool, true, false, if◌then◌else◌, ◌++◌, ◌∷◌, [], List, length, get_or, take, drop, refl, ap, ap₂, sym, append_assoc, append-nil, arith, length-append, length-drop, take-append-drop}
use Rattle.std.specs.List.{remove}
use Rattle.std.proofs.lemmas.List.{drop_all}
use lib.Seq.{take_all, take_at, drop_at, drop-cons, length-take-le}
use borrow.Rule.Slice.PartMut.{mid_of, put_mid, same_len_mid}
use Rattle.why_trace.specs.Passes.{without_needless}
use Rattle.why_trace.specs.Code.Aside.{IsAside}

module _ {X : Type 0} where
  -- a part of a list that is as long as before stands for the list
  pub whole_kept : (place k count : ℕ) (s ys xs : List X) → length ys ≡ length (mid_of place k s) → length s ≡ count
      → take count (put_mid place k s ys ++ drop (length (put_mid place k s ys)) xs) ≡ put_mid place k s ys
  whole_kept place k count s ys xs same is =
      let long : length (put_mid place k s ys) ≡ count = same_len_mid place k s ys same ∙ is in
      take_at (put_mid place k s ys) (drop (length (put_mid place k s ys)) xs) count long

  -- the last element in front of the others
  last_first : (xs : List X) (x : X) (m : List X) → m ≡ xs ++ x ∷ [] → drop (length m - 1) m ++ take (length m - 1) m ≡ x ∷ xs
  last_first xs x m is =
      let n : length m - 1 ≡ length xs = let l = ap length is in omega (arith, l, length-append xs (x ∷ [])) in
      ap₂ (λ (j : ℕ) (l : List X). drop j l ++ take j l) n is
      ∙ ap₂ (λ (a b : List X). a ++ b) (drop_at xs (x ∷ []) (length xs) refl) (take_at xs (x ∷ []) (length xs) refl)

  -- back at its place
  pub brought_back : (w s ys : List X) (place k : ℕ) → IsAside w place s → length s ≤ place + k
      → ys ≡ drop (length (mid_of place k s) - 1) (mid_of place k s) ++ take (length (mid_of place k s) - 1) (mid_of place k s) → put_mid place k s ys ≡ w
  brought_back [] s ys place k aside few turned = absurd (omega (arith, aside.there))
  brought_back (x ∷ rest) s ys place k aside few turned =
      let w : List X = x ∷ rest in
      let front : List X = take place w in
      let later : List X = drop (suc place) w in
      let one : X = get_or w place x in
      let tail : List X = later ++ one ∷ [] in
      let long : length front ≡ place = length-take-le place w (omega (arith, aside.there)) in
      let is : s ≡ front ++ tail = aside.is x ∙ append_assoc front later (one ∷ []) in
      let behind : drop place s ≡ tail = ap (drop place) is ∙ drop_at front tail place long in
      let few_behind : length (drop place s) ≤ k = omega (arith, length-drop place s) in
      let mid : mid_of place k s ≡ tail = take_all k (drop place s) few_behind ∙ behind in
      let ahead : take place s ≡ front = ap (take place) is ∙ take_at front tail place long in
      let now : ys ≡ one ∷ later = turned ∙ last_first later one (mid_of place k s) mid in
      ap₂ (λ (a b : List X). a ++ b) ahead (ap₂ (λ (a b : List X). a ++ b) now (drop_all k (drop place s) few_behind) ∙ append-nil (one ∷ later) ∙ sym (drop-cons w place x aside.there))
      ∙ take-append-drop place w

module _ {X : Type 0} where
  -- the others, once one was set aside
  others_are : (w s : List X) (place others : ℕ) → IsAside w place s → others + 1 ≡ length s → take others s ≡ remove w place
  others_are [] s place others aside many = absurd (omega (arith, aside.there))
  others_are (x ∷ rest) s place others aside many =
      let w : List X = x ∷ rest in
      let is : s ≡ remove w place ++ get_or w place x ∷ [] = aside.is x in
      let long : length (remove w place) ≡ others = let l = ap length is in omega (arith, l, many, length-append (remove w place) (get_or w place x ∷ [])) in
      ap (take others) is ∙ take_at (remove w place) (get_or w place x ∷ []) others long

module _ {X : Type 0} (test : List X → Bool) (w s part new : List X) (place others : ℕ) (found : Bool) (aside : IsAside w place s) (many : others + 1 ≡ length s) (seen : part ≡ take others s) (tells : found ≡ test part) where
  told : test (remove w place) ≡ found
  told = ap test (sym (seen ∙ others_are w s place others aside many)) ∙ sym tells

  -- they pass the test, and are left
  pub left_out : found ≡ true → new ≡ take others s → new ≡ without_needless test place w
  left_out passes is = is ∙ others_are w s place others aside many ∙ sym (ap (λ b. if b then remove w place else w) (told ∙ passes))

  -- they don't, and the list is left as it was
  pub left_in : found ≡ false → new ≡ w → new ≡ without_needless test place w
  left_in fails is = is ∙ sym (ap (λ b. if b then remove w place else w) (told ∙ fails))
