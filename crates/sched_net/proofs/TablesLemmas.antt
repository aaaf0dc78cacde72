-- A list that has what belongs to each place, number by number, is the list of all of these.
use Rattle.std.proofs.Common.{◌≡◌, ◌<◌, ◌≤◌, ◌+◌, ◌∙◌, ℕ, zero, suc, List, [], ◌∷◌, ◌++◌, map, take, length, get_or, append-nil, append_assoc, refl, sym, subst, ap, arith}
use Rattle.std.specs.List.{flat_map}
use Rattle.std.proofs.lemmas.Bool.{lt-ltb}
use Rattle.std.proofs.lemmas.Grind.{flat_map-append}
use Rattle.std.proofs.lemmas.List.{map-append, take_more, take_all}
use Rattle.bloom_forms.specs.declared.program.Program.{Program}
use Rattle.bloom_forms.specs.Step.{Sets}
use Rattle.std.specs.Prelude.{Option}
use Rattle.topo_forms.specs.Data.{Data}
use Rattle.blz_value.specs.NumberSets.{below}
use Rattle.topo_forms.specs.View.{View, replicas_of}
use Rattle.inbox.specs.Events.{Step}
use Rattle.inbox.specs.Instances.{Instance}
use Rattle.inbox.specs.Lives.{kept_after}
use Rattle.inbox.proofs.WiringLemmas.{instance-wired, there-wired}
use Rattle.sched_net.specs.Net.{Stands, execution_in}
use Rattle.inbox.specs.Places.{places_before}
use Rattle.sched_net.specs.Tables.{tables_at, last_tables}
use Rattle.sched_net.specs.declared.books.Books.{Books}
use Rattle.inbox.proofs.PlacesLemmas.{below_more, before-more, place-before}

module _ {X : Type 0} (size : ℕ → ℕ) (g : ℕ → ℕ → X) (xs : List X) (d : X) (total : ℕ)
    (whole : length xs ≡ places_before size total)
    (at : (n k : ℕ) → n < total → k < size n → get_or xs (places_before size n + k) d ≡ g n k) where
  abbrev those : ℕ → List X
  those n = map (g n) (below (size n))

  -- the places of one number, up to one of them
  some : (n k : ℕ) → n < total → k ≤ size n → take (places_before size n) xs ≡ flat_map those (below n)
      → take (places_before size n + k) xs ≡ flat_map those (below n) ++ map (g n) (below k)
  some n zero less within before =
      ap (λ (i : ℕ). take i xs) (let e : places_before size n + 0 ≡ places_before size n = omega arith in e) ∙ before ∙ sym (append-nil (flat_map those (below n)))
  some n (suc k) less within before =
      let place = places_before size n + k in
      let there : place < length xs = subst (λ (m : ℕ). place < m) (sym whole) (place-before size n k total (omega (arith, within)) less) in
      let next : places_before size n + suc k ≡ place + 1 = omega arith in
      let one : k + 1 ≡ suc k = omega arith in
      ap (λ (i : ℕ). take i xs) next
      ∙ take_more xs place d there
      ∙ ap (λ (t : List X). t ++ get_or xs place d ∷ []) (some n k less (omega (arith, within)) before)
      ∙ ap (λ (x : X). (flat_map those (below n) ++ map (g n) (below k)) ++ x ∷ []) (at n k less (omega (arith, within)))
      ∙ append_assoc (flat_map those (below n)) (map (g n) (below k)) (g n k ∷ [])
      ∙ ap (λ (t : List X). flat_map those (below n) ++ t) (sym (map-append (g n) (below k) (k ∷ [])) ∙ ap (map (g n)) (sym (below_more k) ∙ ap below one))

  -- the places of the first numbers
  first : (n : ℕ) → n ≤ total → take (places_before size n) xs ≡ flat_map those (below n)
  first zero within = refl
  first (suc n) within =
      let one : suc n ≡ n + 1 = omega arith in
      ap (λ (i : ℕ). take (places_before size i) xs) one
      ∙ ap (λ (i : ℕ). take i xs) (before-more size n)
      ∙ some n (size n) (omega (arith, within)) (omega arith) (first n (omega (arith, within)))
      ∙ sym (ap (flat_map those) (ap below one ∙ below_more n) ∙ flat_map-append those (below n) (n ∷ []) ∙ ap (λ (t : List X). flat_map those (below n) ++ t) (append-nil (those n)))

  pub place_by_place : xs ≡ flat_map those (below total)
  place_by_place =
      let no_more : length xs ≤ places_before size total = omega (arith, whole) in
      sym (take_all (places_before size total) xs no_more) ∙ first total (omega arith)

-- the tables of shells with which books stand are those with which the instances end
pub tables_are_last : (v : View) (given : Data) (steps : List Step) (loaded : List (Option Program)) (tables : List Sets) (b : Books) (stands : Stands v given steps loaded tables b)
    → tables ≡ last_tables v (execution_in stands.books)
tables_are_last v given steps loaded tables b stands =
    let x = execution_in stands.books in
    stands.tables_are
    ∙ place_by_place (replicas_of v) (tables_at v x) stands.books.tables [] (length v.components) stands.books.shows.shells
    (λ c r there within.
    stands.books.shows.tables_are c r there within
    ∙ ap (λ kept. kept.tables) (stands.books.stands.stands.seats c r (there-wired v c r there ∙ lt-ltb r (replicas_of v c) within)).kept
    ∙ ap (λ (i : Instance). (kept_after i (x.logs c) (x.lives c r)).tables) (instance-wired v c r there within))
