use Rattle.std.proofs.Common.{◌∙◌, ◌++◌, ◌+◌, ◌∷◌, [], Bool, None, not, if◌then◌else◌, append_assoc, ap, sym, arith}
use Rattle.path_facts.proofs.RootsLemmas.{unpaired_from, unpaired_step}
use Rattle.bloom_forms.specs.Roots.{Roots}
use Rattle.path_facts.proofs.roots.add_unpaired.Goals as goal

pub loop-i-preserved : goal.loop-i-preserved
loop-i-preserved c =
    let pairs = c.args.pairs.now in
    let right = c.args.right.now in
    let i = c.loop-i.i in
    let roots = c.loop-i.roots.items in
    let rest = unpaired_from pairs (i + 1) right in
    let one : Bool → Roots = λ (paired : Bool). if not paired then None ∷ [] else [] in
    ap (λ (l : Roots). l ++ rest) c.in_ok-add_if.ensures ∙ append_assoc roots (one c.is_paired.result) rest
    ∙ ap (λ (paired : Bool). roots ++ (one paired ++ rest)) c.is_paired.ensures ∙ ap (λ (l : Roots). roots ++ l) (sym (unpaired_step pairs right i (omega (arith, c.loop-i-test.true)))) ∙ c.loop-i.invariant
