-- The roots and the gates of a component's outputs are those of its program, where it has one.
use Rattle.std.proofs.Common.{◌≡◌, ◌<◌, ℕ, Option, Some, None, List, map, length, get_or, option_map, refl, arith, ap, sym, subst, ◌∙◌}
use Rattle.std.specs.List.{range_with_len}
use Rattle.std.proofs.lemmas.List.{get_or-map, length-map}
use Rattle.blz_value.specs.declared.attrs.Attrs.{Attrs}
use Rattle.blz_value.proofs.Ranges.{at_below, length_below}
use Rattle.bloom_forms.specs.declared.program.Program.{Program}
use Rattle.bloom_forms.specs.Program.{output_columns}
use Rattle.bloom_forms.specs.Query.{Name}
use Rattle.bloom_forms.specs.Annotation.{roots_of_output, gate_of_output}
use Rattle.bloom_forms.specs.Roots.{Roots, no_roots}
use Rattle.path_annotate.specs.Outputs.{roots_of_outputs, gates_of_outputs}
use Rattle.topo_types.specs.Code.Bodies.{gates_seen}
use Rattle.topo_types.specs.Code.Built.{IsBuilt}
use Rattle.topo_forms.specs.declared.topology.Side.{Side}
use Rattle.topo_forms.specs.Sites.{Site}
use Rattle.topo_forms.specs.View.{no_attrs}
use Rattle.topo_forms.specs.ViewOf.{roots_with, gate_with}
use Rattle.topo_types.proofs.Faults.BuiltSites.{output_within}

-- a table of what the outputs of a program have, looked up at one of them
module _ {X : Type 0} (f : Program → ℕ → X) (site : Site) (found : Option (List X)) (all : List X) (number : ℕ)
    (given : found ≡ option_map (λ p. map (f p) (range_with_len 0 (length (output_columns p)))) site.program) (is : found ≡ Some all) (built : IsBuilt site) (lt : number < length site.outputs) where
  pub record IsAt (o : Option Program) : Type 0 where
    pub program : Program
    pub runs : o ≡ Some program
    pub within : number < length all
    pub at : (d : X) → get_or all number d ≡ f program number

  pub at_output : IsAt site.program
  at_output = go site.program refl (sym given ∙ is)
    where
      go : (o : Option Program) → site.program ≡ o → option_map (λ p. map (f p) (range_with_len 0 (length (output_columns p)))) o ≡ Some all → IsAt o
      go None runs e = absurd (let bad : None ≡ Some all = e in cc)
      go (Some p) runs e =
          let same : map (f p) (range_with_len 0 (length (output_columns p))) ≡ all = (let z : Some (map (f p) (range_with_len 0 (length (output_columns p)))) ≡ Some all = e in cc) in
          let inside = output_within site p number built runs lt in
          record {
            program = p;
            runs = refl;
            within = subst (λ (xs : List X). number < length xs) same (omega (arith, inside, length_below (f p) (length (output_columns p))));
            at = λ d. subst (λ (xs : List X). get_or xs number d ≡ f p number) same (at_below (f p) (length (output_columns p)) number d inside);
          }

-- nothing is found where nothing runs
no_program : {X : Type 0} (f : Program → X) (o : Option Program) (found : Option X) → found ≡ option_map f o → found ≡ None → o ≡ None
no_program f None found given is = refl
no_program f (Some p) found given is = let bad : None ≡ Some (f p) = sym is ∙ given in absurd cc

-- ---- roots

pub no_roots_found : (names : List Name) (site : Site) (roots : Option (List Roots)) (number : ℕ) (output : Side) → roots ≡ option_map (roots_of_outputs names) site.program → roots ≡ None
    → no_roots output.columns ≡ roots_with names site.program (number, output)
no_roots_found names site roots number output given is = ap (λ (o : Option Program). roots_with names o (number, output)) (sym (no_program (roots_of_outputs names) site.program roots given is))

module _ (names : List Name) (site : Site) (roots : Option (List Roots)) (all : List Roots) (number : ℕ)
    (given : roots ≡ option_map (roots_of_outputs names) site.program) (is : roots ≡ Some all) (built : IsBuilt site) (lt : number < length site.outputs) where
  pub roots_within : number < length all
  roots_within = (at_output (roots_of_output names) site roots all number given is built lt).within

  pub roots_found : (output : Side) (d : Roots) → get_or all number d ≡ roots_with names site.program (number, output)
  roots_found output d =
      let found = at_output (roots_of_output names) site roots all number given is built lt in
      found.at d ∙ ap (λ (o : Option Program). roots_with names o (number, output)) (sym found.runs)

-- ---- gates

pub no_gate_found : (names : List Name) (site : Site) (gates : Option (List Attrs)) (number : ℕ) (output : Side) → option_map gates_seen gates ≡ option_map (gates_of_outputs names) site.program → gates ≡ None
    → no_attrs ≡ gate_with names site.program (number, output)
no_gate_found names site gates number output given is =
    ap (λ (o : Option Program). gate_with names o (number, output)) (sym (no_program (gates_of_outputs names) site.program (option_map gates_seen gates) given (ap (option_map gates_seen) is)))

module _ (names : List Name) (site : Site) (gates : Option (List Attrs)) (all : List Attrs) (number : ℕ)
    (given : option_map gates_seen gates ≡ option_map (gates_of_outputs names) site.program) (is : gates ≡ Some all) (built : IsBuilt site) (lt : number < length site.outputs) where
  seen : option_map gates_seen gates ≡ Some (gates_seen all)
  seen = ap (option_map gates_seen) is

  pub gates_within : number < length all
  gates_within =
      let inside = (at_output (gate_of_output names) site (option_map gates_seen gates) (gates_seen all) number given seen built lt).within in
      omega (arith, inside, length-map all (λ (gate : Attrs). gate.bits))

  pub gate_found : (output : Side) (d : Attrs) → get_or all number d ≡ gate_with names site.program (number, output)
  gate_found output d =
      let found = at_output (gate_of_output names) site (option_map gates_seen gates) (gates_seen all) number given seen built lt in
      let bits : (get_or all number d).bits ≡ gate_of_output names found.program number = sym (get_or-map (λ (gate : Attrs). gate.bits) all number d d.bits gates_within) ∙ found.at d.bits in
      (λ i. record { bits = bits i }) ∙ ap (λ (o : Option Program). gate_with names o (number, output)) (sym found.runs)
