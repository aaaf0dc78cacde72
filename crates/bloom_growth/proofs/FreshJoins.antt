-- The new rows of a join of parts that grow.
use Rattle.std.proofs.Common.{◌≡◌, ◌<◌, ◌≤◌, List, [], ◌++◌, length, Ok, Err, ◌∙◌, subst, arith}
use Rattle.blz_value.specs.Operators.{Pairs, join_rows}
use Rattle.blz_value.specs.Record.{Row}
use Rattle.blz_value.specs.Sets.{set_of}
use Rattle.blz_set.specs.Answers.{Gives}
use Rattle.blz_set.specs.Growth.{Grows}
use Rattle.blz_set.specs.RecordSet.{row_limit}
use Rattle.blz_set.specs.declared.fault.SetFault.{SetFault}
use Rattle.blz_set.specs.declared.fault.SetFault.TheVariants.{TooManyRows, NoMemory}
use Rattle.bloom_growth.specs.Growth.{Extends}
use Rattle.bloom_growth.specs.Code.Joins.{turned_rows, MakesFresh}
use Rattle.bloom_growth.proofs.Extending.{few_first, few_new}

-- a set that grew from nothing
pub gives_grown : (rows all new : List Row) (fault : SetFault) → set_of rows ≡ all → Grows {X = Unit {0}} [] rows new (Err fault) → Gives all (Err fault)
gives_grown rows all new TooManyRows is h = subst (λ (l : List Row). row_limit < length l) is h
gives_grown rows all new NoMemory is h = tt

pub gives_made : (rows all new : List Row) → set_of rows ≡ all → Grows {X = Unit {0}} [] rows new (Ok tt) → Gives all (Ok new)
gives_made rows all new is h = (h.0 ∙ is, subst (λ (l : List Row). length l ≤ row_limit) (h.0 ∙ is) h.1)

module _ (pairs : Pairs) (lo ln ld ro rn rd : List Row) (el : Extends lo ln ld) (er : Extends ro rn rd) where
  pub first_fault : (new : List Row) (fault : SetFault) → Grows {X = Unit {0}} [] (join_rows pairs ld ro) new (Err fault) → MakesFresh pairs ld ln ro rd rn (Err fault)
  first_fault new TooManyRows h = omega (arith, h, few_first pairs lo ln ld ro rn rd el er)
  first_fault new NoMemory h = tt

  pub second_fault : (set new : List Row) (fault : SetFault) → set ≡ set_of (join_rows pairs ld ro) → Grows {X = Unit {0}} set (turned_rows pairs ln rd) new (Err fault) → MakesFresh pairs ld ln ro rd rn (Err fault)
  second_fault set new TooManyRows is h =
      let over : row_limit < length (set_of (set_of (join_rows pairs ld ro) ++ turned_rows pairs ln rd)) = subst (λ (l : List Row). row_limit < length (set_of (l ++ turned_rows pairs ln rd))) is h in
      omega (arith, over, few_new pairs lo ln ld ro rn rd el er)
  second_fault set new NoMemory is h = tt
