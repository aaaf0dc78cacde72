-- What is found of a view, looked up at a number.
use Rattle.std.proofs.Common.{◌≡◌, ◌<◌, ℕ, Bool, Option, List, length, get_or, arith, ap, ◌∙◌, ◌+◌, inl, inr, ◌∷◌, [], Some, None}
use Rattle.std.specs.BTreeMap.{BTreeMap, get}
use Rattle.std.specs.List.{position_from}
use Rattle.std.specs.Str.{bytes_eq}
use Rattle.std.proofs.lemmas.Bool.{cases_Bool}
use Rattle.std.proofs.lemmas.List.{get_or-map, length-map}
use Rattle.blz_value.specs.declared.attrs.Attrs.{Attrs}
use Rattle.topo_forms.specs.declared.graph_facts.GraphFacts.{GraphFacts}
use Rattle.topo_forms.specs.declared.index.Index.{Index}
use Rattle.bloom_forms.specs.Query.{Name}
use Rattle.topo_forms.specs.Carried.{carries}
use Rattle.topo_forms.specs.Found.{found_of, usable_at}
use Rattle.topo_forms.specs.Dependencies.{upholders, is_usable}
use Rattle.blz_value.specs.Graph.{is_in}
use Rattle.blz_value.proofs.Ranges.{at_below, length_below}
use Rattle.topo_forms.specs.Regions.{regions, region_of, is_cyclic}
use Rattle.topo_forms.specs.Bounded.{IsBounded}
use Rattle.topo_forms.specs.Code.Index.{IsIndex, name_cmp}
use Rattle.topo_forms.specs.Valid.{IsValid}
use Rattle.topo_forms.specs.View.{View, no_fd, fd_at, component_at, find_stream, find_component, find_port}
use Rattle.topo_forms.proofs.Lists.Tables.{where-is}

module _ (f : GraphFacts) (v : View) (is : f ≡ found_of v) where
  pub number_within : (c : ℕ) → c < length v.components → c < length f.numbers
  number_within c lt = let e : length f.numbers ≡ length v.components = ap (λ (x : GraphFacts). length x.numbers) is ∙ length_below (region_of v) (length v.components) in omega (arith, e, lt)

  pub number_is : (c d : ℕ) → c < length v.components → get_or f.numbers c d ≡ region_of v c
  number_is c d lt = ap (λ (x : GraphFacts). get_or x.numbers c d) is ∙ at_below (region_of v) (length v.components) c d lt

  pub cyclic_within : (r : ℕ) → r < length (regions v) → r < length f.cyclic
  cyclic_within r lt = let e : length f.cyclic ≡ length (regions v) = ap (λ (x : GraphFacts). length x.cyclic) is ∙ length_below (is_cyclic v) (length (regions v)) in omega (arith, e, lt)

  pub cyclic_is : (r : ℕ) (d : Bool) → r < length (regions v) → get_or f.cyclic r d ≡ is_cyclic v r
  cyclic_is r d lt = ap (λ (x : GraphFacts). get_or x.cyclic r d) is ∙ at_below (is_cyclic v) (length (regions v)) r d lt

  pub carried_within : (s : ℕ) → s < length v.streams → s < length f.carried
  carried_within s lt = let e : length f.carried ≡ length v.streams = ap (λ (x : GraphFacts). length x.carried) is ∙ length_below (carries v) (length v.streams) in omega (arith, e, lt)

  pub carried_is : (s : ℕ) (d : Option Attrs) → s < length v.streams → get_or f.carried s d ≡ carries v s
  carried_is s d lt = ap (λ (x : GraphFacts). get_or x.carried s d) is ∙ at_below (carries v) (length v.streams) s d lt

  pub upheld_within : (n : ℕ) → n < length v.fds → n < length f.upheld
  upheld_within n lt = let e : length f.upheld ≡ length v.fds = ap (λ (x : GraphFacts). length x.upheld) is ∙ length-map v.fds (upholders v) in omega (arith, e, lt)

  pub upheld_is : (n d : ℕ) → n < length v.fds → get_or f.upheld n d ≡ upholders v (fd_at v n)
  upheld_is n d lt = ap (λ (x : GraphFacts). get_or x.upheld n d) is ∙ get_or-map (upholders v) v.fds n no_fd d lt

  pub usable_within : (n : ℕ) → n < length v.fds → n < length f.usable
  usable_within n lt = let e : length f.usable ≡ length v.fds = ap (λ (x : GraphFacts). length x.usable) is ∙ length-map v.fds (usable_at v) in omega (arith, e, lt)

  -- a dependency is usable at the components in its set
  pub usable_is : (c n d : ℕ) → IsValid v → c < length v.components → n < length v.fds → is_in c (get_or f.usable n d) ≡ is_usable v c (fd_at v n)
  usable_is c n d valid lt within =
      let at : get_or f.usable n d ≡ usable_at v (fd_at v n) = ap (λ (x : GraphFacts). get_or x.usable n d) is ∙ get_or-map (usable_at v) v.fds n no_fd d within in
      rw at (where-is (λ b. is_usable v b (fd_at v n)) (length v.components) c (omega (arith, valid.numbered.few_components)) lt)

-- ---- numbers by names

place_within : {X : Type 0} (name_of : X → Name) (at : ℕ) (xs : List X) (name : Name) (k : ℕ) → position_from (λ x. bytes_eq (name_of x) name) at xs ≡ Some k → k < at + length xs
place_within name_of at [] name k e = let bad : None ≡ Some k = e in cc
place_within name_of at (x ∷ xs) name k e = elim (cases_Bool (bytes_eq (name_of x) name)) [
  | inl t ↦ let here : Some at ≡ Some k = rw t at e in let same : at ≡ k = (cc) in omega (arith, same)
  | inr f ↦ omega (arith, place_within name_of (at + 1) xs name k (rw f at e))
]

pub stream_found : (v : View) → IsValid v → (name : Name) (k : ℕ) → find_stream v name ≡ Some k → k < 4294967296
stream_found v valid name k e = omega (arith, valid.numbered.few_streams, place_within (λ s. s.name) 0 v.streams name k e)

pub component_found : (v : View) → IsValid v → (name : Name) (k : ℕ) → find_component v name ≡ Some k → k < 4294967296
component_found v valid name k e = omega (arith, valid.numbered.few_components, place_within (λ c. c.name) 0 v.components name k e)

pub port_found : (v : View) → IsBounded v → (c : ℕ) (name : Name) (k : ℕ) → c < length v.components → find_port v c name ≡ Some k → k < 4294967296
port_found v bounded c name k lt e = omega (arith, bounded.ports c lt, place_within (λ p. p.name) 0 (component_at v c).ports name k e)

module _ (v : View) (index : Index) (is : IsIndex v index) where
  pub ports_within : (c : ℕ) → c < length v.components → c < length index.ports
  ports_within c lt = omega (arith, lt, is.each)

  pub port_place : (c : ℕ) (d : BTreeMap Name ℕ) (name : Name) → c < length v.components → get name_cmp (get_or index.ports c d) name ≡ find_port v c name
  port_place c d name lt = is.ports c d name lt
