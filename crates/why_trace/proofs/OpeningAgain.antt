-- Benches with the same kinds of shells, in any order, open alike: what an instance asks goes by how many shells of a kind there are.
use Rattle.std.proofs.Common.{◌≡◌, ◌∙◌, ◌+◌, ◌==◌, ◌||◌, ℕ, Bool, true, false, cond, nat_lt, List, [], ◌∷◌, Option, Some, None, Result, Err, map, refl, ap, sym, subst, arith}
use Rattle.std.specs.List.{list_any, sum_by}
use Rattle.std.specs.List.Sorted.{IsPermutation}
use Rattle.std.proofs.lemmas.Bool.Decides.{nat_tests}
use Rattle.std.proofs.lemmas.List.Recursion.{is_sum_by}
use Rattle.std.proofs.lemmas.List.Sorted.{sum_by-IsPermutation}
use Rattle.bloom_forms.specs.declared.program.Program.{Program}
use Rattle.bloom_eval.specs.declared.kind.ProgramKind.{ProgramKind}
use Rattle.bloom_eval.specs.Kind.{kind_of}
use Rattle.topo_forms.specs.View.{View, program_of}
use Rattle.sched_net.specs.declared.fault.OpenFault.{OpenFault}
use Rattle.sched_net.specs.declared.fault.OpenFault.TheVariants.{NoBody, NoShell, NoMemory}
use Rattle.sched_net.proofs.BenchKinds.{opening_by_kinds}
use Rattle.sched_net.specs.Bench.{OpensAs, number_of_kind, fits_kind, fits_component, without_first, first_short, fault_of_bodies, fault_of_opening, first_without_body, instance_components}

-- ---- how many shells of a kind there are

-- a kind has this number
abbrev has : (number : ℕ) → ProgramKind → Bool
has n k = number_of_kind k == n

-- how many of these kinds have it
abbrev count : (number : ℕ) → List ProgramKind → ℕ
count n [] = 0
count n (k ∷ kinds) = cond (has n k) 1 0 + count n kinds

-- as a sum, which goes by no order
counted : (n : ℕ) (kinds : List ProgramKind) → count n kinds ≡ sum_by (λ k. cond (has n k) 1 0) kinds
counted n kinds = is_sum_by (count n) (λ k. cond (has n k) 1 0) refl (λ k ks. refl) kinds

-- there is one exactly where the count isn't 0
any_counted : (n : ℕ) (kinds : List ProgramKind) → list_any (has n) kinds ≡ nat_lt 0 (count n kinds)
any_counted n [] = refl
any_counted n (k ∷ kinds) = by_test (has n k) (any_counted n kinds)
  where
    by_test : (b : Bool) → list_any (has n) kinds ≡ nat_lt 0 (count n kinds) → (b || list_any (has n) kinds) ≡ nat_lt 0 (cond b 1 0 + count n kinds)
    by_test true rest = grind (arith, nat_tests)
    by_test false rest = let e : 0 + count n kinds ≡ count n kinds = omega arith in rest ∙ ap (nat_lt 0) (sym e)

-- how many of one number go with the first of another, where there is one
abbrev gone : (m n : ℕ) → (there : Bool) → ℕ
gone m n there = cond there (cond (m == n) 1 0) 0

-- without the first of a number there is one less of it
count_without : (m n : ℕ) (kinds : List ProgramKind) → count m (without_first (has n) kinds) + gone m n (list_any (has n) kinds) ≡ count m kinds
count_without m n [] = refl
count_without m n (k ∷ kinds) = by_test (has n k) refl (count_without m n kinds)
  where
    by_test : (b : Bool) → has n k ≡ b → count m (without_first (has n) kinds) + gone m n (list_any (has n) kinds) ≡ count m kinds
        → count m (cond b kinds (k ∷ without_first (has n) kinds)) + gone m n (b || list_any (has n) kinds) ≡ cond (has m k) 1 0 + count m kinds
    by_test true e rest = grind (arith, nat_tests)
    by_test false e rest = omega (arith, rest)

-- ---- lists with equal counts

-- as many of each number
record AreAlike (xs ys : List ProgramKind) : Type 0 where
  same : (n : ℕ) → count n xs ≡ count n ys

alike_any : (n : ℕ) (xs ys : List ProgramKind) → AreAlike xs ys → list_any (has n) xs ≡ list_any (has n) ys
alike_any n xs ys alike = any_counted n xs ∙ ap (nat_lt 0) (alike.same n) ∙ sym (any_counted n ys)

alike_without : (n : ℕ) (xs ys : List ProgramKind) → AreAlike xs ys → AreAlike (without_first (has n) xs) (without_first (has n) ys)
alike_without n xs ys alike = record {
  same = λ m. let as_many = ap (gone m n) (alike_any n xs ys alike) in omega (arith, count_without m n xs, count_without m n ys, alike.same m, as_many);
}

-- ---- one instance

none_fits : (kinds : List ProgramKind) → list_any (fits_kind None) kinds ≡ false
none_fits [] = refl
none_fits (k ∷ kinds) = none_fits kinds

none_taken : (kinds : List ProgramKind) → without_first (fits_kind None) kinds ≡ kinds
none_taken [] = refl
none_taken (k ∷ kinds) = ap (λ (l : List ProgramKind). k ∷ l) (none_taken kinds)

any_alike : (program : Option Program) (xs ys : List ProgramKind) → AreAlike xs ys → list_any (fits_kind program) xs ≡ list_any (fits_kind program) ys
any_alike None xs ys alike = none_fits xs ∙ sym (none_fits ys)
any_alike (Some p) xs ys alike = alike_any (number_of_kind (kind_of p)) xs ys alike

left_alike : (program : Option Program) (xs ys : List ProgramKind) → AreAlike xs ys → AreAlike (without_first (fits_kind program) xs) (without_first (fits_kind program) ys)
left_alike None xs ys alike = subst (λ (l : List ProgramKind). AreAlike l (without_first (fits_kind None) ys)) (sym (none_taken xs)) (subst (AreAlike xs) (sym (none_taken ys)) alike)
left_alike (Some p) xs ys alike = alike_without (number_of_kind (kind_of p)) xs ys alike

-- ---- all instances

module _ (v : View) where
  abbrev fit : (component : ℕ) → ProgramKind → Bool
  fit = fits_component v (λ k. k)

  short_alike : (cs : List ℕ) (xs ys : List ProgramKind) → AreAlike xs ys → first_short fit cs xs ≡ first_short fit cs ys
  short_alike [] xs ys alike = refl
  short_alike (c ∷ cs) xs ys alike =
      ap (λ t. cond t (first_short fit cs (without_first (fit c) xs)) (Some c)) (any_alike (program_of v c) xs ys alike)
      ∙ ap (λ (o : Option ℕ). cond (list_any (fit c) ys) o (Some c)) (short_alike cs (without_first (fit c) xs) (without_first (fit c) ys) (left_alike (program_of v c) xs ys alike))

  permuted_alike : (xs ys : List ProgramKind) → IsPermutation xs ys → AreAlike xs ys
  permuted_alike xs ys moved = record { same = λ n. counted n xs ∙ sym (sum_by-IsPermutation (λ k. cond (has n k) 1 0) xs ys moved) ∙ sym (counted n ys) }

  pub opening_permuted : (xs ys : List ProgramKind) → IsPermutation xs ys → fault_of_opening v (λ k. k) xs ≡ fault_of_opening v (λ k. k) ys
  opening_permuted xs ys moved = ap (fault_of_bodies (first_without_body v)) (short_alike (instance_components v) xs ys (permuted_alike xs ys moved))

-- ---- an opening

-- where the kinds of a bench suffice, an opening fails for want of memory alone
pub no_memory : {X Y : Type 0} (v : View) (kind : X → ProgramKind) (before : List X) (answer : Result Y OpenFault) (fault : OpenFault) → answer ≡ Err fault → OpensAs (fault_of_opening v kind before) answer
    → fault_of_opening v (λ k. k) (map kind before) ≡ None → fault ≡ NoMemory
no_memory {Y = Y} v kind before answer fault is opens none = go fault (subst (λ (a : Result Y OpenFault). OpensAs (fault_of_opening v kind before) a) is opens)
  where
    go : (fault : OpenFault) → OpensAs {X = Y} (fault_of_opening v kind before) (Err fault) → fault ≡ NoMemory
    go (NoBody c) refused = let bad : None ≡ Some (NoBody c) = sym none ∙ sym (opening_by_kinds v kind before) ∙ refused in cc
    go (NoShell c) refused = let bad : None ≡ Some (NoShell c) = sym none ∙ sym (opening_by_kinds v kind before) ∙ refused in cc
    go NoMemory refused = refl
