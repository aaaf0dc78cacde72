-- The streams into the ports of a component together are those into the component, where streams go to ports that are there.
use Rattle.std.proofs.Common.{◌≡◌, ◌<◌, ◌⊎◌, inl, inr, ℕ, true, false, nat_eq, List, [], ◌∷◌, map, length, refl, ap, subst, sym, ◌∙◌, bit_or}
use Rattle.std.proofs.lemmas.Bool.{cases_Bool}
use Rattle.blz_value.specs.Members.{Has}
use Rattle.blz_value.specs.Bits.{bit_of}
use Rattle.blz_value.specs.Closure.{within}
use Rattle.blz_value.specs.Arrows.{bit_if, with_all}
use Rattle.blz_value.specs.Graph.{is_in}
use Rattle.blz_value.proofs.Booleans.{and_true, both_true}
use Rattle.blz_value.proofs.Lists.{map_same, map_twice, all_keeps, same_count}
use Rattle.blz_value.proofs.Members.{meets-within}
use Rattle.blz_value.proofs.Membership.{Has-from_filter, Has-from_any, any_from_Has}
use Rattle.blz_value.proofs.Ranges.{Has-below}
use Rattle.blz_value.proofs.Within.{within-antisym, within-empty, within-or_r, within-trans, or-within}
use Rattle.topo_graph.specs.Code.Lines.{into_set, all_into}
use Rattle.topo_graph.specs.Code.Ports.{HasPorts}
use Rattle.topo_forms.specs.Found.{HasEnds, into_port, into_ports}
use Rattle.topo_forms.specs.View.{View, End, component_at, component_numbers, ends_of, goes_into, goes_to, port_numbers, same_end, stream_numbers, streams_into}
use Rattle.topo_forms.proofs.Lists.Tables.{where-is}
use Rattle.topo_forms.proofs.Regions.Spreading.{in_below}
use Rattle.topo_graph.proofs.Feeding.{own_number}
use Rattle.topo_graph.proofs.FeedersTold.{in_into}

-- a union lies in a set where each part does
union_within : (f : ℕ → ℕ) (t s : ℕ) (ns : List ℕ) → within s t ≡ true → ((n : ℕ) → Has n ns → within (f n) t ≡ true) → within (with_all s (map f ns)) t ≡ true
union_within f t s [] inside each = inside
union_within f t s (n ∷ ns) inside each = union_within f t (bit_or s (f n)) ns (or-within s (f n) t inside (each n (inl refl))) (λ m has. each m (inr has))

-- and each part lies in the union
part_within : (f : ℕ → ℕ) (s : ℕ) (ns : List ℕ) (n : ℕ) → Has n ns → within (f n) (with_all s (map f ns)) ≡ true
part_within f s [] n h = absurd h
part_within f s (m ∷ ns) n (inl e) =
    subst (λ (k : ℕ). within (f k) (with_all (bit_or s (f m)) (map f ns)) ≡ true) e
    (within-trans (f m) (bit_or s (f m)) (with_all (bit_or s (f m)) (map f ns)) (within-or_r s (f m)) (all_keeps (bit_or s (f m)) (map f ns)))
part_within f s (m ∷ ns) n (inr h) = part_within f (bit_or s (f m)) ns n h

module _ (v : View) (given : HasEnds v) (there : HasPorts v) (c : ℕ) where
  abbrev united : ℕ
  united = with_all 0 (map (into_port v c) (port_numbers v c))

  -- who goes to a port goes into its component
  goes : (p s : ℕ) → goes_to v c p s ≡ true → goes_into v c s ≡ true
  goes p s h =
      let found = Has-from_any (same_end (c, p)) (ends_of v s) h in
      any_from_Has (λ (end : End). nat_eq c end.0) found.0 (ends_of v s) found.1 (both_true (nat_eq c found.0.0) (nat_eq p found.0.1) found.2).0

  port_within : (p : ℕ) → within (into_port v c p) (into_set v c) ≡ true
  port_within p = union_within (λ s. bit_if (goes_to v c p s) s) (into_set v c) 0 (stream_numbers v) (within-empty (into_set v c)) (λ s has. one s has (cases_Bool (goes_to v c p s)))
    where
      one : (s : ℕ) → Has s (stream_numbers v) → (goes_to v c p s ≡ true) ⊎ (goes_to v c p s ≡ false) → within (bit_if (goes_to v c p s) s) (into_set v c) ≡ true
      one s has (inl h) = rw h (meets-within s (into_set v c) (in_into v given c s (Has-below (length v.streams) s has) ∙ goes p s h))
      one s has (inr f) = rw f (within-empty (into_set v c))

  -- who goes into a component goes to one of its ports
  stream_within : (s : ℕ) → Has s (streams_into v c) → within (bit_of s) united ≡ true
  stream_within s has =
      let from = Has-from_filter (goes_into v c) s (stream_numbers v) has in
      let lt : s < length v.streams = Has-below (length v.streams) s from.0 in
      let found = Has-from_any (λ (end : End). nat_eq c end.0) (ends_of v s) from.1 in
      let same : c ≡ found.0.0 = same_count c found.0.0 found.2 in
      let p : ℕ = found.0.1 in
      let inside : p < length (component_at v c).ports = subst (λ (d : ℕ). p < length (component_at v d).ports) (sym same) (there s found.0 lt found.1) in
      let to : goes_to v c p s ≡ true = any_from_Has (same_end (c, p)) found.0 (ends_of v s) found.1 (and_true (nat_eq c found.0.0) (nat_eq p p) found.2 (own_number p)) in
      let member : is_in s (into_port v c p) ≡ true = where-is (goes_to v c p) (length v.streams) s given.few_streams lt ∙ to in
      within-trans (bit_of s) (into_port v c p) united (meets-within s (into_port v c p) member) (part_within (into_port v c) 0 (port_numbers v c) p (in_below (length (component_at v c).ports) p inside))

  union_same : united ≡ into_set v c
  union_same = within-antisym united (into_set v c)
      (union_within (into_port v c) (into_set v c) 0 (port_numbers v c) (within-empty (into_set v c)) (λ p has. port_within p))
      (union_within bit_of united 0 (streams_into v c) (within-empty united) stream_within)

pub rows_into : (v : View) → HasEnds v → HasPorts v → (rows : List (List ℕ)) → rows ≡ map (into_ports v) (component_numbers v) → map (with_all 0) rows ≡ all_into v
rows_into v given there rows is =
    ap (map (with_all 0)) is
    ∙ map_twice (with_all 0) (into_ports v) (component_numbers v)
    ∙ map_same (λ c. with_all 0 (into_ports v c)) (into_set v) (union_same v given there) (component_numbers v)
