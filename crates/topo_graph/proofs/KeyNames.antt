-- The names of the attributes in a key, and the key of these names.
use Rattle.std.proofs.Common.{◌≡◌, ◌≢◌, ◌≤◌, ◌<◌, ◌^◌, ◌+◌, inl, inr, ℕ, nat_le, true, List, [], ◌∷◌, length, map, get_or, refl, arith, ap, sym, subst, ◌∙◌}
use Rattle.std.specs.Int.{IsBitSet}
use Rattle.std.specs.List.{AllPairs, list_all, list_any, range_with_len}
use Rattle.std.specs.Set.{distinct_count}
use Rattle.std.specs.Str.{bytes_eq}
use Rattle.std.proofs.Math.Pow.{pow_mono}
use Rattle.std.proofs.lemmas.Bool.{cases_eq, cases_lt}
use Rattle.std.proofs.lemmas.Bool.Decides.{Decides-eqb, nat_tests}
use Rattle.std.proofs.lemmas.Cmp.{nat_list_eq_equiv}
use Rattle.std.proofs.lemmas.List.{length-map, get_or-map}
use Rattle.std.proofs.lemmas.List.FromFn.{get_or-range_with_len, length-range_with_len}
use Rattle.std.proofs.lemmas.List.Kept.{AllPairs-filter}
use Rattle.std.proofs.lemmas.Map.Made.{IsDistinct-from_AllPairs, distinct_count-from_IsDistinct}
use Rattle.std.proofs.lemmas.Nat.Bits.{bit_at_above}
use Rattle.std.proofs.lemmas.Slice.Eq.{bytes_eq-Decides}
use Rattle.blz_value.specs.Members.{Has}
use Rattle.blz_value.specs.Name.{is_name}
use Rattle.blz_value.proofs.Membership.{Has-get_or, Has-from_map, all_from, all_member, any_from_Has}
use Rattle.blz_value.specs.Bits.{bit_of, meets, members}
use Rattle.blz_value.specs.Closure.{within}
use Rattle.blz_value.proofs.Members.{in-bit, bit-in}
use Rattle.blz_value.proofs.MembersInOrder.{from_members, in_members, within_by_members}
use Rattle.blz_value.proofs.Within.{set_one, some_bit, within-antisym}
use Rattle.bloom_forms.specs.Query.{Name}
use Rattle.bloom_forms.proofs.Collections.Chosen.{in_chosen}
use Rattle.topo_forms.specs.Modes.{names_in}
use Rattle.blz_value.specs.NumberSets.{set_of_numbers}
use Rattle.topo_forms.specs.Sites.{attribute_number}
use Rattle.topo_forms.specs.Validity.Twice.{names_are_distinct, names_within}
use Rattle.topo_forms.specs.ViewOf.{attribute_set}
use Rattle.topo_forms.proofs.Regions.Spreading.{numbers_within}
use Rattle.topo_forms.proofs.Views.ViewRuns.{column_there}

-- ---- members

members_apart : (set : ℕ) → AllPairs (λ (a b : ℕ). a ≢ b) (members set)
members_apart set = AllPairs-filter (λ (a b : ℕ). a ≢ b) (λ n. meets (bit_of n) set) (range_with_len 0 64) apart
  where
    apart : AllPairs (λ (a b : ℕ). a ≢ b) (range_with_len 0 64)
    apart i j d lt le same =
        let lj : j < 64 = omega (arith, le, length-range_with_len 0 64) in
        let at_i : get_or (range_with_len 0 64) i d ≡ 0 + i = get_or-range_with_len 0 64 i d (omega (arith, lt, lj)) in
        let at_j : get_or (range_with_len 0 64) j d ≡ 0 + j = get_or-range_with_len 0 64 j d lj in
        omega (arith, lt, at_i, at_j, same)

-- a set is that of its members
set_of_members : (set : ℕ) → set < 2 ^ 64 → set_of_numbers (members set) ≡ set
set_of_members set small = within-antisym (set_of_numbers (members set)) set there back
  where
    there : within (set_of_numbers (members set)) set ≡ true
    there = numbers_within set (members set) (λ n has. (from_members set n has).0) ∙ all_from (λ n. meets (bit_of n) set) (members set) (λ n has. (from_members set n has).1)

    back : within set (set_of_numbers (members set)) ≡ true
    back = within_by_members set (set_of_numbers (members set)) small (λ n has. in_chosen (λ (k : ℕ). true) (λ (k : ℕ). k) (members set) n has refl (from_members set n has).0)

-- ---- names

module _ (names : List Name) (few : length names ≤ 64) (apart : AllPairs (λ (a b : Name). a ≢ b) names) (key : ℕ) (small : key < 2 ^ length names) where
  member_below : (n : ℕ) → Has n (members key) → n < length names
  member_below n has = elim (cases_lt n (length names)) [
    | inl lt ↦ lt
    | inr past ↦
        let m = from_members key n has in
        let none = bit_at_above key (length names) n small past in
        let one = set_one key n (in-bit n key m.0 m.1) in
        absurd (omega (arith, none, one))
  ]

  same_place : (n k : ℕ) → n < length names → k < length names → get_or names n [] ≡ get_or names k [] → n ≡ k
  same_place n k ln lk same = elim (cases_eq n k) [
    | inl e ↦ e
    | inr other ↦ elim (cases_lt n k) [
      | inl lt ↦ absurd (apart n k [] lt lk same)
      | inr ge ↦ absurd (apart k n [] (omega (arith, ge, other)) ln (sym same))
    ]
  ]

  number_back : (n : ℕ) → n < length names → attribute_number names (get_or names n []) ≡ n
  number_back n lt =
      let there = column_there names (get_or names n []) (Has-get_or names n [] lt) in
      same_place (attribute_number names (get_or names n [])) n there.0 lt there.1

  numbers_back : (ns : List ℕ) → ((n : ℕ) → Has n ns → n < length names) → map (attribute_number names) (map (λ n. get_or names n []) ns) ≡ ns
  numbers_back [] below = refl
  numbers_back (n ∷ ns) below =
      let one = number_back n (below n (inl refl)) in
      let more = numbers_back ns (λ k has. below k (inr has)) in
      λ i. one i ∷ more i

  below_64 : key < 2 ^ 64
  below_64 = let most : 2 ^ length names ≤ 2 ^ 64 = pow_mono few in omega (arith, small, most)

  -- the key of the names of a key is that key
  pub key_back : (attribute_set names (names_in names key)).bits ≡ key
  key_back = ap set_of_numbers (numbers_back (members key) member_below) ∙ set_of_members key below_64

  -- no name stands twice
  pub key_distinct : names_are_distinct (names_in names key) ≡ true
  key_distinct =
      (Decides-eqb (distinct_count bytes_eq (names_in names key)) (length (names_in names key))).1
      (distinct_count-from_IsDistinct nat_list_eq_equiv (names_in names key) (IsDistinct-from_AllPairs bytes_eq-Decides (names_in names key) pairs))
    where
      pairs : AllPairs (λ (a b : Name). a ≢ b) (names_in names key)
      pairs i j d lt le same =
          let lj : j < length (members key) = omega (arith, le, length-map (members key) (λ n. get_or names n [])) in
          let li : i < length (members key) = omega (arith, lt, lj) in
          let at_i = get_or-map (λ n. get_or names n []) (members key) i 0 d li in
          let at_j = get_or-map (λ n. get_or names n []) (members key) j 0 d lj in
          members_apart key i j 0 lt lj
          (same_place (get_or (members key) i 0) (get_or (members key) j 0)
          (member_below (get_or (members key) i 0) (Has-get_or (members key) i 0 li))
          (member_below (get_or (members key) j 0) (Has-get_or (members key) j 0 lj))
          (sym at_i ∙ same ∙ at_j))

  held : (name : Name) → Has name (names_in names key) → Has name names
  held name has =
      let from = Has-from_map (λ n. get_or names n []) name (members key) has in
      subst (λ (x : Name). Has x names) from.2 (Has-get_or names from.0 [] (member_below from.0 from.1))

  -- each is one of the names
  pub key_within : names_within (names_in names key) names ≡ true
  key_within = all_from (λ name. list_any (bytes_eq name) names) (names_in names key) (λ name has. any_from_Has (bytes_eq name) name names (held name has) ((bytes_eq-Decides name name).1 refl))

  -- and is a name where all are
  pub key_named : list_all is_name names ≡ true → list_all is_name (names_in names key) ≡ true
  key_named all = all_from is_name (names_in names key) (λ name has. all_member is_name names name all (held name has))

  -- a key that isn't empty has a name
  pub key_some : key ≢ 0 → nat_le 1 (length (names_in names key)) ≡ true
  key_some filled =
      let bit = some_bit key filled in
      let first = in_members key bit.0 (bit-in bit.0 key (low bit.0 bit.1) bit.1) in
      let some : 1 ≤ length (members key) = filled_list (members key) bit.0 first in
      let count = length-map (members key) (λ n. get_or names n []) in
      at_least (length (names_in names key)) (omega (arith, some, count))
    where
      low : (n : ℕ) → IsBitSet key n → n < 64
      low n set = elim (cases_lt n 64) [
        | inl lt ↦ lt
        | inr past ↦ let none = bit_at_above key 64 n below_64 past in let one = set_one key n set in absurd (omega (arith, none, one))
      ]

      filled_list : (ns : List ℕ) (n : ℕ) → Has n ns → 1 ≤ length ns
      filled_list [] n has = absurd has
      filled_list (k ∷ ns) n has = omega arith

      at_least : (n : ℕ) → 1 ≤ n → nat_le 1 n ≡ true
      at_least n le = grind (arith, nat_tests)
