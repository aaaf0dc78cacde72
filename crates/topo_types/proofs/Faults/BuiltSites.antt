-- Components with their bodies: what the making of a view asks of them.
use Rattle.std.proofs.Common.{◌≡◌, ◌<◌, ℕ, Option, Some, None, List, [], map, length, get_or, option_map, refl, arith, ap, sym, subst, ◌∙◌}
use Rattle.std.specs.List.{All, range_with_len}
use Rattle.std.proofs.lemmas.List.{get_or-map, length-map}
use Rattle.blz_value.proofs.Ranges.{at_below, length_below}
use Rattle.bloom_forms.specs.declared.program.Program.{Program}
use Rattle.bloom_forms.specs.Program.{IsStock, port_columns, output_columns}
use Rattle.bloom_forms.specs.Query.{Name}
use Rattle.bloom_forms.specs.declared.note.Note.{Note}
use Rattle.bloom_forms.specs.Annotation.{notes_of, note_of, note_at}
use Rattle.topo_types.specs.Code.Built.{site_seen, sites_seen, IsBuilt, RunsStock}
use Rattle.topo_types.specs.declared.view.sites.Site as code
use Rattle.topo_forms.specs.Sites.{Site, program_ports, program_outputs, ports_with, outputs_with}
use Rattle.topo_forms.specs.ViewOf.{derived_note}
use Rattle.topo_forms.proofs.Views.ViewRuns.{columns_of_ports, columns_of_outputs}

-- what runs is proper
pub stock_of : (site : Site) (p : Program) → IsBuilt site → site.program ≡ Some p → IsStock p
stock_of site p built e = subst RunsStock e built.stock

-- a program has as many outputs as lists of columns
pub outputs_of : (site : Site) (p : Program) → IsBuilt site → site.program ≡ Some p → length site.outputs ≡ length (output_columns p)
outputs_of site p built e =
    ap length (built.outputs ∙ ap (outputs_with site.entry) e) ∙ sym (length-map (program_outputs p) (λ s. s.columns)) ∙ ap length (columns_of_outputs p)

pub ports_of : (site : Site) (p : Program) → IsBuilt site → site.program ≡ Some p → length site.ports ≡ length (port_columns p)
ports_of site p built e =
    ap length (built.ports ∙ ap (ports_with site.entry) e) ∙ sym (length-map (program_ports p) (λ s. s.columns)) ∙ ap length (columns_of_ports p)

-- the output is one of the program's
pub output_within : (site : Site) (p : Program) (number : _) → IsBuilt site → site.program ≡ Some p → number < length site.outputs → number < length (output_columns p)
output_within site p number built e lt = omega (arith, lt, outputs_of site p built e)

-- ---- notes that a body gives

rows_at : (f : ℕ → ℕ → Option Note) (ports outputs p o : ℕ) → p < ports → o < outputs
    → (p < length (map (λ port. map (f port) (range_with_len 0 outputs)) (range_with_len 0 ports)))
    × (o < length (get_or (map (λ port. map (f port) (range_with_len 0 outputs)) (range_with_len 0 ports)) p []))
    × (get_or (get_or (map (λ port. map (f port) (range_with_len 0 outputs)) (range_with_len 0 ports)) p []) o None ≡ f p o)
rows_at f ports outputs p o lp lo =
    let row : ℕ → List (Option Note) = λ port. map (f port) (range_with_len 0 outputs) in
    let first : get_or (map row (range_with_len 0 ports)) p [] ≡ row p = at_below row ports p [] lp in (
      omega (arith, lp, length_below row ports),
      subst (λ (r : List (Option Note)). o < length r) (sym first) (omega (arith, lo, length_below (f p) outputs)),
      ap (λ (r : List (Option Note)). get_or r o None) first ∙ at_below (f p) outputs o None lo,
    )

module _ (names : List Name) (site : Site) (derived : Option (List (List (Option Note)))) (notes : List (List (Option Note))) (port output : ℕ)
    (given : derived ≡ option_map (notes_of names) site.program) (is : derived ≡ Some notes) (built : IsBuilt site) (lp : port < length site.ports) (lo : output < length site.outputs) where
  all_of : (port < length notes) × (output < length (get_or notes port [])) × (note_at notes port output ≡ derived_note names site.program port output)
  all_of = go site.program refl (sym given ∙ is)
    where
      go : (o : Option Program) → site.program ≡ o → option_map (notes_of names) o ≡ Some notes → (port < length notes) × (output < length (get_or notes port [])) × (note_at notes port output ≡ derived_note names o port output)
      go None runs e = absurd (let bad : None ≡ Some notes = e in cc)
      go (Some p) runs e =
          let same : notes_of names p ≡ notes = (let z : Some (notes_of names p) ≡ Some notes = e in cc) in
          subst (λ (ns : List (List (Option Note))). (port < length ns) × (output < length (get_or ns port [])) × (note_at ns port output ≡ note_of names p port output)) same
          (rows_at (note_of names p) (length (port_columns p)) (length (output_columns p)) port output (omega (arith, lp, ports_of site p built runs)) (omega (arith, lo, outputs_of site p built runs)))

  pub notes_port : port < length notes
  notes_port = all_of.0

  pub notes_output : output < length (get_or notes port [])
  notes_output = all_of.1

  pub notes_note : note_at notes port output ≡ derived_note names site.program port output
  notes_note = all_of.2

-- without a body no note is derived
pub none_derived : (names : List Name) (o : Option Program) (derived : Option (List (List (Option Note)))) (port output : ℕ) → derived ≡ option_map (notes_of names) o → derived ≡ None → None ≡ derived_note names o port output
none_derived names None derived port output given is = refl
none_derived names (Some p) derived port output given is = let bad : None ≡ Some (notes_of names p) = sym is ∙ given in absurd cc

-- ---- one of some components

pub built_item : (sites : List code.Site) (i : ℕ) (x : code.Site) → All IsBuilt (sites_seen sites) → i < length sites → x ≡ get_or sites i x → IsBuilt (site_seen x)
built_item sites i x all lt is =
    subst IsBuilt (get_or-map site_seen sites i x (site_seen x) lt ∙ ap site_seen (sym is)) (all i (site_seen x) (omega (arith, lt, length-map sites site_seen)))
