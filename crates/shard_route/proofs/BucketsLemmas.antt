-- The tests of buckets speak of the column alone and are short; there is one more than there are bounds.
use Rattle.std.proofs.Common.{◌≡◌, ◌≤◌, ℤ, suc, List, [], ◌∷◌, length, refl, ap, sym, subst, inl, inr, arith}
use Rattle.blz_value.specs.declared.test.Op.{Op}
use Rattle.blz_value.specs.declared.test.Op.TheVariants.{Lt, Ge}
use Rattle.blz_value.specs.declared.value.Value.TheVariants.{Int}
use Rattle.blz_value.specs.Members.{Has}
use Rattle.bloom_forms.specs.declared.expr.Term.TheVariants.{Column, Literal}
use Rattle.bloom_forms.specs.Query.{Name, Formula}
use Rattle.bloom_forms.specs.Query.Formula.{compare, both}
use Rattle.bloom_forms.specs.Shards.{from_bound, below_bound, buckets_from}
use Rattle.shard_buckets.specs.Buckets.{bucket_tests}
use Rattle.shard_route.specs.Copying.{IsTestOf}

module _ (column : Name) where
  one : (op : Op) (bound : ℤ) → IsTestOf column (compare (Column column) op (Literal (Int bound)))
  one op bound = record {
    names = λ name h. elim h [ inl e ↦ sym e | inr n ↦ absurd n ];
    fits = λ columns has. rw has refl;
    short = refl;
  }

  two : (bound next : ℤ) → IsTestOf column (both (from_bound column bound) (below_bound column next))
  two bound next = record {
    names = λ name h. elim h [ inl e ↦ sym e | inr more ↦ elim more [ inl e ↦ sym e | inr n ↦ absurd n ] ];
    fits = λ columns has. rw has refl;
    short = refl;
  }

  tests_from : (bound : ℤ) (bounds : List ℤ) (test : Formula) → Has test (buckets_from column bound bounds) → IsTestOf column test
  tests_from bound [] test (inl e) = subst (IsTestOf column) e (one Ge bound)
  tests_from bound [] test (inr n) = absurd n
  tests_from bound (next ∷ bounds) test (inl e) = subst (IsTestOf column) e (two bound next)
  tests_from bound (next ∷ bounds) test (inr h) = tests_from next bounds test h

  pub are_tests : (bounds : List ℤ) (test : Formula) → Has test (bucket_tests column bounds) → IsTestOf column test
  are_tests [] test h = absurd h
  are_tests (first ∷ bounds) test (inl e) = subst (IsTestOf column) e (one Lt first)
  are_tests (first ∷ bounds) test (inr h) = tests_from first bounds test h

  count_from : (bound : ℤ) (bounds : List ℤ) → length (buckets_from column bound bounds) ≡ suc (length bounds)
  count_from bound [] = refl
  count_from bound (next ∷ bounds) = ap suc (count_from next bounds)

  pub few_tests : (bounds : List ℤ) → length bounds ≤ 7 → length (bucket_tests column bounds) ≤ 8
  few_tests [] few = omega arith
  few_tests (first ∷ bounds) few = omega (arith, count_from first bounds, few)
