-- The streams into a port, as they are found, are those that go to it.
use Rattle.std.proofs.Common.{◌≡◌, ◌<◌, ℕ, inl, inr, nat_eq, true, List, [], map, length, get_or, arith, ap, sym, subst, ◌∙◌}
use Rattle.std.proofs.lemmas.Bool.{cases_lt, false_from_ne_true}
use Rattle.std.proofs.lemmas.List.{get_or_past}
use Rattle.std.proofs.lemmas.List.FromFn.{length-map-range_with_len}
use Rattle.blz_value.proofs.Membership.{Has-from_any}
use Rattle.blz_value.proofs.Members.{in-empty}
use Rattle.topo_forms.specs.declared.graph_facts.GraphFacts.{GraphFacts}
use Rattle.topo_forms.specs.Found.{found_of, into_port, into_ports}
use Rattle.blz_value.specs.Graph.{is_in}
use Rattle.blz_value.proofs.Booleans.{both_true}
use Rattle.blz_value.proofs.Ranges.{at_below}
use Rattle.blz_value.proofs.Lists.{same_count as same_number}
use Rattle.topo_forms.specs.Valid.{IsValid}
use Rattle.topo_forms.specs.View.{View, component_at, component_numbers, ends_of, goes_to, same_end}
use Rattle.topo_forms.proofs.Lists.Tables.{where-is}

module _ (v : View) (valid : IsValid v) (c p s : ℕ) (lt : s < length v.streams) where
  -- a stream goes to ports that are there
  component_there : goes_to v c p s ≡ true → c < length v.components
  component_there h =
      let found = Has-from_any (same_end (c, p)) (ends_of v s) h in
      let both = both_true (nat_eq c found.0.0) (nat_eq p found.0.1) found.2 in
      omega (arith, same_number c found.0.0 both.0, (valid.numbered.ends s found.0 lt found.1).0)

  port_there : goes_to v c p s ≡ true → p < length (component_at v c).ports
  port_there h =
      let found = Has-from_any (same_end (c, p)) (ends_of v s) h in
      let both = both_true (nat_eq c found.0.0) (nat_eq p found.0.1) found.2 in
      let inside : found.0.1 < length (component_at v c).ports = subst (λ (k : ℕ). found.0.1 < length (component_at v k).ports) (sym (same_number c found.0.0 both.0)) (valid.numbered.ends s found.0 lt found.1).1 in
      omega (arith, same_number p found.0.1 both.1, inside)

  in_row : is_in s (get_or (into_ports v c) p 0) ≡ goes_to v c p s
  in_row = elim (cases_lt p (length (component_at v c).ports)) [
    | inl there ↦
        ap (is_in s) (at_below (into_port v c) (length (component_at v c).ports) p 0 there)
        ∙ where-is (goes_to v c p) (length v.streams) s valid.numbered.few_streams lt
    | inr past ↦
        let count : length (into_ports v c) ≡ length (component_at v c).ports = length-map-range_with_len (into_port v c) 0 (length (component_at v c).ports) in
        ap (is_in s) (get_or_past (into_ports v c) p 0 (omega (arith, past, count)))
        ∙ in-empty s
        ∙ sym (false_from_ne_true (goes_to v c p s) (λ h. let there = port_there h in absurd (omega (arith, past, there))))
  ]

  in_rows : is_in s (get_or (get_or (map (into_ports v) (component_numbers v)) c []) p 0) ≡ goes_to v c p s
  in_rows = elim (cases_lt c (length v.components)) [
    | inl there ↦ ap (λ (row : List ℕ). is_in s (get_or row p 0)) (at_below (into_ports v) (length v.components) c [] there) ∙ in_row
    | inr past ↦
        let count : length (map (into_ports v) (component_numbers v)) ≡ length v.components = length-map-range_with_len (into_ports v) 0 (length v.components) in
        ap (λ (row : List ℕ). is_in s (get_or row p 0)) (get_or_past (map (into_ports v) (component_numbers v)) c [] (omega (arith, past, count)))
        ∙ in-empty s
        ∙ sym (false_from_ne_true (goes_to v c p s) (λ h. let there = component_there h in absurd (omega (arith, past, there))))
  ]

pub goes_found : (f : GraphFacts) (v : View) → f ≡ found_of v → IsValid v → (c p s : ℕ) → s < length v.streams → is_in s (get_or (get_or f.into c []) p 0) ≡ goes_to v c p s
goes_found f v is valid c p s lt = ap (λ (x : GraphFacts). is_in s (get_or (get_or x.into c []) p 0)) is ∙ in_rows v valid c p s lt
