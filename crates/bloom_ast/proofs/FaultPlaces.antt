-- Where the first faults of a module can stand, and what it says of a rule that there is none.
use Rattle.std.proofs.Common.{◌≡◌, ◌≤◌, ◌<◌, ◌+◌, ◌||◌, ℕ, Bool, false, Option, None, Some, IfSome, List, length, nat_lt, refl, arith, sym}
use Rattle.blz_value.specs.FirstPlace.{first_place}
use Rattle.blz_value.specs.Members.{Has}
use Rattle.blz_value.proofs.FirstPlace.{none_bad, none_has, place-below, place-at_most}
use Rattle.blz_value.proofs.Booleans.{neither}
use Rattle.bloom_forms.specs.declared.fault.ModuleFault.{ModuleFault}
use Rattle.bloom_forms.specs.declared.fault.ModuleKind.{ModuleKind}
use Rattle.bloom_forms.specs.declared.fault.ModuleKind.TheVariants as kind
use Rattle.bloom_forms.specs.declared.module.Collection.{Collection}
use Rattle.bloom_forms.specs.declared.facts.Facts.{Facts}
use Rattle.bloom_forms.specs.Bounds.{passes_bounds}
use Rattle.bloom_forms.specs.Faults.{bad_collection, bad_rule, kind_fault}
use Rattle.bloom_forms.specs.Form.{RuleForm}
use Rattle.bloom_forms.proofs.Faults.Firsts.{none_of, are_few, bad_at}
use Rattle.bloom_ast.specs.Code.Checking.{AreFew}

-- places are small

weaker : (o : Option ℕ) (n : ℕ) → n ≤ 64 → IfSome o (λ i. i ≤ n) → IfSome o (λ i. i ≤ 64)
weaker None n le h = tt
weaker (Some i) n le h = omega arith

below : (o : Option ℕ) (n : ℕ) → n ≤ 64 → IfSome o (λ i. i < 0 + n) → IfSome o (λ i. i ≤ 64)
below None n le h = tt
below (Some i) n le h = omega arith

pub place_small : {X : Type 0} (test : ℕ → X → Bool) (xs : List X) → length xs ≤ 64 → IfSome (first_place test 0 xs) (λ i. i ≤ 64)
place_small test xs le = below (first_place test 0 xs) (length xs) le (place-below test 0 xs)

pub collection_small : (cs : List Collection) → IfSome (first_place (bad_collection kind.TooMany cs) 0 cs) (λ i. i ≤ 64)
collection_small cs = weaker (first_place (bad_collection kind.TooMany cs) 0 cs) 32 (omega arith) (place-at_most (bad_collection kind.TooMany cs) 32 (λ x. refl) 0 cs (omega arith))

pub rule_small : (cs : List Collection) (f : Facts) (rules : List RuleForm) → IfSome (first_place (bad_rule kind.TooMany cs f) 0 rules) (λ i. i ≤ 64)
rule_small cs f rules = place-at_most (bad_rule kind.TooMany cs f) 64 (λ x. refl) 0 rules (omega arith)

pub few_from : (cs : List Collection) (f : Facts) (rules : List RuleForm) (o : Option ModuleFault) → o ≡ kind_fault f kind.TooMany cs rules → AreFew cs rules o
few_from cs f rules None e = are_few cs f rules (sym e)
few_from cs f rules (Some g) e = tt

-- a test that doesn't look at the number fails at each rule
pub rule_none : (cs : List Collection) (f : Facts) (rules : List RuleForm) (k : ModuleKind) (test : RuleForm → Bool) → ((i : ℕ) (r : RuleForm) → bad_rule k cs f i r ≡ test r) → kind_fault f k cs rules ≡ None → (r : RuleForm) → Has r rules → test r ≡ false
rule_none cs f rules k test same e r n = none_has test (bad_rule k cs f) same 0 rules (none_of cs f rules k e).1 r n

within_bounds : (i : ℕ) (r : RuleForm) → (nat_lt 63 i || passes_bounds r.1) ≡ false → passes_bounds r.1 ≡ false
within_bounds i r e = (neither (nat_lt 63 i) (passes_bounds r.1) e).1

pub bounded : (cs : List Collection) (f : Facts) (rules : List RuleForm) → kind_fault f kind.TooMany cs rules ≡ None → (r : RuleForm) → Has r rules → passes_bounds r.1 ≡ false
bounded cs f rules e r n =
    let at = bad_at (bad_rule kind.TooMany cs f) 0 rules (none_bad (bad_rule kind.TooMany cs f) 0 rules (none_of cs f rules kind.TooMany e).1) r n in
    within_bounds at.0 r at.1
