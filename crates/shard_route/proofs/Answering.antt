-- What a step on the way gives is the answer.
use Rattle.std.proofs.Common.{◌≡◌, ◌∙◌, ◌||◌, ℕ, Bool, false, Option, Some, List, [], ◌∷◌, ◌++◌, map, refl, ap, sym, subst}
use Rattle.std.specs.Prelude.{Result, Ok, Err, IsErrAnd}
use Rattle.std.proofs.lemmas.List.{map-append}
use Rattle.std.proofs.lemmas.List.Folds.{list_any-append}
use Rattle.blz_value.specs.Members.{Has}
use Rattle.bloom_forms.specs.Form.{Accepted}
use Rattle.bloom_forms.specs.Query.{Formula}
use Rattle.topo_forms.specs.declared.topology.Topology.{Topology}
use Rattle.topo_forms.specs.View.{View, find_component, program_of}
use Rattle.topo_forms.specs.ViewOf.{view_of}
use Rattle.shard_route.specs.declared.fault.ShardFault.{ShardFault}
use Rattle.shard_route.specs.declared.fault.ShardFault.TheVariants as fault
use Rattle.shard_route.specs.declared.sharded.Sharded.{Sharded}
use Rattle.shard_route.specs.Copies.{copied_form, copy_of, has_deep_copy, is_too_deep}
use Rattle.shard_route.specs.Sharding.{Asked, Answers, with_program, with_component, sharded}
use Rattle.shard_route.specs.Copying.{GivesCopy, GivesCopies}
use Rattle.shard_route.proofs.Walks.{any_has}

-- ---- copies

-- one copy that is too deep is enough
deep_copy : (a : Accepted) (tests : List Formula) (test : Formula) (e : ShardFault) → Has test tests → GivesCopy a test (Err e) → GivesCopies a tests (Err e)
deep_copy a tests test fault.TooDeep h d = any_has (λ t. is_too_deep (copied_form a.form t)) tests test h d
deep_copy a tests test fault.NoMemory h d = tt
deep_copy a tests test fault.NoComponent h d = absurd d
deep_copy a tests test fault.NoModule h d = absurd d
deep_copy a tests test fault.InCycle h d = absurd d
deep_copy a tests test fault.NoColumn h d = absurd d
deep_copy a tests test fault.NotInGate h d = absurd d
deep_copy a tests test fault.Names h d = absurd d
deep_copy a tests test (fault.Topology f) h d = absurd d

pub no_copy : (a : Accepted) (tests : List Formula) (test : Formula) (result : Result (List Accepted) ShardFault) (e : ShardFault) → IsErrAnd result (λ given. given ≡ e) → Has test tests → GivesCopy a test (Err e) → GivesCopies a tests result
no_copy a tests test (Ok copies) e is h d = absurd is
no_copy a tests test (Err given) e is h d = subst (λ (f : ShardFault). GivesCopies a tests (Err f)) (sym is) (deep_copy a tests test e h d)

-- one copy more
pub copies_more : (a : Accepted) (tests more : List Formula) (test : Formula) (copies : List Accepted) (copy : Accepted) → more ≡ tests ++ test ∷ [] → copies ≡ map (copy_of a) tests → copy ≡ copy_of a test
    → copies ++ copy ∷ [] ≡ map (copy_of a) more
copies_more a tests more test copies copy split so_far is =
    (λ i. so_far i ++ is i ∷ []) ∙ sym (ap (map (copy_of a)) split ∙ map-append (copy_of a) tests (test ∷ []))

pub shallow_more : (a : Accepted) (tests more : List Formula) (test : Formula) → more ≡ tests ++ test ∷ [] → has_deep_copy a.form tests ≡ false → is_too_deep (copied_form a.form test) ≡ false → has_deep_copy a.form more ≡ false
shallow_more a tests more test split so_far is =
    ap (has_deep_copy a.form) split ∙ list_any-append (λ t. is_too_deep (copied_form a.form t)) tests (test ∷ []) ∙ none (has_deep_copy a.form tests) (is_too_deep (copied_form a.form test)) so_far is
  where
    none : (x y : Bool) → x ≡ false → y ≡ false → (x || (y || false)) ≡ false
    none x y e f = rw (e, f) refl

-- ---- the component that is found

pub found : (t : Topology) (modules : List Accepted) (asked : Asked) (v : View) (n : ℕ) (result : Result Sharded ShardFault) → v ≡ view_of t modules → find_component v asked.component ≡ Some n
    → Answers (with_program t modules asked n (program_of v n)) result → Answers (sharded t modules asked) result
found t modules asked v n result is e h =
    let there : find_component (view_of t modules) asked.component ≡ Some n = ap (λ (w : View). find_component w asked.component) (sym is) ∙ e in
    let own : Answers (with_program t modules asked n (program_of (view_of t modules) n)) result = subst (λ (w : View). Answers (with_program t modules asked n (program_of w n)) result) is h in
    subst (λ (o : Option ℕ). Answers (with_component t modules asked o) result) (sym there) own
