-- A stream that counts goes to a later region, or stays in a cyclic one.
use Rattle.std.proofs.Common.{◌≡◌, ◌≢◌, ◌≤◌, ◌<◌, ◌⊎◌, inl, inr, ℕ, not, nat_lt, nat_eq, ◌&&◌, ◌||◌, Bool, true, false, if◌then◌else◌, Option, None, Some, List, [], ◌∷◌, length, map, refl, arith, rules, ap, sym, subst, ◌∙◌, bit_or}
use Rattle.std.specs.List.{list_any, position_or_len}
use Rattle.std.specs.Option.{option_map_or}
use Rattle.std.proofs.lemmas.Bool.{cases_eq, true≢false}
use Rattle.std.proofs.Math.Bool.{or-false}
use Rattle.blz_value.specs.Members.{Has}
use Rattle.blz_value.proofs.Membership.{any_from_Has, Has-filter, Has-from_map, Has-from_filter, Has-from_flat_map}
use Rattle.blz_value.specs.Bits.{bit_of, meets, members}
use Rattle.blz_value.proofs.Members.{in-or, in-empty}
use Rattle.blz_value.specs.Arrows.{bit_if, with_all}
use Rattle.blz_value.specs.Graph.{Edge, arrows, is_in, together, region, is_cyclic_set, SomeHas, AreRegions, InOrder, IsNumbered, numbered_regions}
use Rattle.topo_forms.specs.Laws.{RegionOrder}
use Rattle.topo_forms.specs.Regions.{edges, edges_of, counting_ends, region_set, regions, is_in_cycle}
use Rattle.blz_value.specs.NumberSets.{below, set_where}
use Rattle.blz_value.proofs.Ranges.{Has-below as from_below}
use Rattle.topo_forms.specs.Valid.{IsValid}
use Rattle.topo_forms.specs.View.{View, End, origin_of, ends_of, is_order, stream_numbers}
use Rattle.topo_forms.proofs.Regions.Spreading.{in_below}
use Rattle.topo_forms.proofs.Regions.Classes.{together-self, same-class, region-is}
use Rattle.topo_forms.proofs.Regions.Numbering.{regions_law}

-- ---- edges of a valid topology

pub edge_within : (v : View) → IsValid v → (e : Edge) → Has e (edges v) → (e.0 < length v.components) × (e.1 < length v.components)
edge_within v valid e has =
    let from = Has-from_flat_map (edges_of v) e (stream_numbers v) has in
    go from.0 (from_below (length v.streams) from.0 from.1) (origin_of v from.0) refl from.2
  where
    go : (s : ℕ) → s < length v.streams → (o : Option End) → origin_of v s ≡ o → Has e (option_map_or (λ output. map (λ end. (output.0, end.0)) (counting_ends v s)) o []) → (e.0 < length v.components) × (e.1 < length v.components)
    go s lt None is h = absurd h
    go s lt (Some output) is h =
        let made = Has-from_map (λ end. (output.0, end.0)) e (counting_ends v s) h in
        let kept = Has-from_filter (λ end. not (is_order v end.0)) made.0 (ends_of v s) made.1 in
        let first = valid.numbered.origins s output lt is in
        let second = valid.numbered.ends s made.0 lt kept.0 in
        subst (λ (z : Edge). (z.0 < length v.components) × (z.1 < length v.components)) made.2 (first.0, second.0)

-- ---- places of regions

-- the first place at which a set has the node
abbrev pub place : ℕ → List ℕ → ℕ
place c sets = position_or_len (is_in c) sets

record Share (a b : ℕ) (sets : List ℕ) : Type 0 where
  set : ℕ
  stands : Has set sets
  first : is_in a set ≡ true
  second : is_in b set ≡ true

abbrev Comes : (a b done : ℕ) → List ℕ → Type 0
Comes a b done sets = (is_in a done ≡ true) ⊎ ((place a sets < place b sets) ⊎ Share a b sets)

comes : (es : List Edge) (done : ℕ) (sets : List ℕ) → InOrder es done sets → (e : Edge) → Has e es → e.0 < 64 → SomeHas e.1 sets → Comes e.0 e.1 done sets
comes es done [] order e has lt some = absurd some
comes es done (set ∷ sets) order e has lt some = by (is_in e.1 set) (is_in e.0 set) refl refl (λ later. comes es (bit_or done set) sets order.1 e has lt later)
  where
    by : (x y : Bool) → is_in e.1 set ≡ x → is_in e.0 set ≡ y → (SomeHas e.1 sets → Comes e.0 e.1 (bit_or done set) sets) → Comes e.0 e.1 done (set ∷ sets)
    by true y p q more = elim (order.0 e has p) [
      | inl before ↦ inl before
      | inr inside ↦ inr (inr (record { set = set; stands = inl refl; first = inside; second = p }))
    ]
    by false true p q more = inr (inl (rw (q, p) (omega arith)))
    by false false p q more = later (elim some [ inl t ↦ absurd (true≢false (sym t ∙ p)) | inr h ↦ more h ])
      where
        later : Comes e.0 e.1 (bit_or done set) sets → Comes e.0 e.1 done (set ∷ sets)
        later (inl d) = let both : (is_in e.0 done || is_in e.0 set) ≡ true = sym (in-or e.0 done set lt) ∙ d in inl (let one : (is_in e.0 done || false) ≡ true = rw q at both in sym (or-false (is_in e.0 done)) ∙ one)
        later (inr (inl lower)) = inr (inl (rw (q, p) (omega (arith, lower))))
        later (inr (inr shared)) = inr (inr (record { set = shared.set; stands = inr shared.stands; first = shared.first; second = shared.second }))

-- ---- nodes of one set

pub classes_at : (es : List Edge) (count : ℕ) (sets : List ℕ) → AreRegions es count sets → (set : ℕ) → Has set sets → (c d : ℕ) → c < count → d < count → is_in c set ≡ true → is_in d set ≡ together (arrows es) c d
classes_at es count [] are set has = absurd has
classes_at es count (x ∷ sets) are set (inl e) = subst (λ (z : ℕ). (c d : ℕ) → c < count → d < count → is_in c z ≡ true → is_in d z ≡ together (arrows es) c d) e are.0
classes_at es count (x ∷ sets) are set (inr h) = classes_at es count sets are.1 set h

map_where : (f g : ℕ → Bool) (ns : List ℕ) → ((n : ℕ) → Has n ns → f n ≡ g n) → map (λ n. bit_if (f n) n) ns ≡ map (λ n. bit_if (g n) n) ns
map_where f g [] same = refl
map_where f g (n ∷ ns) same = let one : f n ≡ g n = same n (inl refl) in let more = map_where f g ns (λ m has. same m (inr has)) in λ i. bit_if (one i) n ∷ more i

pub where_same : (f g : ℕ → Bool) (ns : List ℕ) → ((n : ℕ) → Has n ns → f n ≡ g n) → set_where f ns ≡ set_where g ns
where_same f g ns same = ap (with_all 0) (map_where f g ns same)

two_long : (a b : ℕ) (xs : List ℕ) → Has a xs → Has b xs → a ≢ b → 1 < length xs
two_long a b [] h k other = absurd h
two_long a b (x ∷ []) (inl p) (inl q) other = absurd (other (sym p ∙ q))
two_long a b (x ∷ []) (inr h) k other = absurd h
two_long a b (x ∷ []) h (inr k) other = absurd k
two_long a b (x ∷ y ∷ xs) h k other = omega arith

in_members : (n set : ℕ) → n < 64 → is_in n set ≡ true → Has n (members set)
in_members n set lt h = Has-filter (λ m. meets (bit_of m) set) n (below 64) (in_below 64 n lt) h

pub if_first : (b c : Bool) → b ≡ true → (if b then true else c) ≡ true
if_first true c e = refl
if_first false c e = absurd (true≢false (sym e))

pub above_one : (n : ℕ) → 1 < n → nat_lt 1 n ≡ true
above_one n lt = search rules

pub if_true : (b c : Bool) → c ≡ true → (if b then true else c) ≡ true
if_true true c e = refl
if_true false c e = e

-- an edge between members makes a set cyclic
cyclic_by : (es : List Edge) (set : ℕ) (e : Edge) → Has e es → e.0 < 64 → e.1 < 64 → is_in e.0 set ≡ true → is_in e.1 set ≡ true → is_cyclic_set es set ≡ true
cyclic_by es set e has l0 l1 first second = elim (cases_eq e.0 e.1) [
  | inl same ↦ if_true (nat_lt 1 (length (members set))) (list_any (λ (d : Edge). nat_eq d.0 d.1 && is_in d.0 set) es)
      (any_from_Has (λ (d : Edge). nat_eq d.0 d.1 && is_in d.0 set) e es has (let z : nat_eq e.0 e.1 ≡ true = search rules in rw (z, first) refl))
  | inr other ↦ let long : 1 < length (members set) = two_long e.0 e.1 (members set) (in_members e.0 set l0 first) (in_members e.1 set l1 second) other in
      if_first (nat_lt 1 (length (members set))) (list_any (λ (d : Edge). nat_eq d.0 d.1 && is_in d.0 set) es) (above_one (length (members set)) long)
]

-- ---- the order

pub region_order : RegionOrder
unfolding regions region_set is_in_cycle
region_order v valid e has =
    let inside = edge_within v valid e has in
    let l0 : e.0 < 64 = omega (arith, inside.0, valid.numbered.few_components) in
    let l1 : e.1 < 64 = omega (arith, inside.1, valid.numbered.few_components) in
    let given : IsNumbered (length v.components) (edges v) (numbered_regions (edges v) (length v.components)) =
    regions_law (length v.components) (edges v) (omega (arith, valid.numbered.few_components)) (edge_within v valid) in
    elim (comes (edges v) 0 (numbered_regions (edges v) (length v.components)) given.order e has l0 (given.cover e.1 inside.1)) [
      | inl none ↦ absurd (true≢false (sym none ∙ in-empty e.0))
      | inr some ↦ elim some [
        | inl lower ↦ inl lower
        | inr shared ↦ inr (together_in given inside l0 l1 shared)
      ]
    ]
  where
    together_in : IsNumbered (length v.components) (edges v) (numbered_regions (edges v) (length v.components)) → (e.0 < length v.components) × (e.1 < length v.components) → e.0 < 64 → e.1 < 64
        → Share e.0 e.1 (numbered_regions (edges v) (length v.components))
        → (region (arrows (edges v)) (length v.components) e.0 ≡ region (arrows (edges v)) (length v.components) e.1) × (is_cyclic_set (edges v) (region (arrows (edges v)) (length v.components) e.0) ≡ true)
    together_in given inside l0 l1 shared =
        let one : together (arrows (edges v)) e.0 e.1 ≡ true = sym (classes_at (edges v) (length v.components) _ given.classes shared.set shared.stands e.0 e.1 inside.0 inside.1 shared.first) ∙ shared.second in
        let few : length v.components ≤ 64 = omega (arith, valid.numbered.few_components) in (
          where_same (together (arrows (edges v)) e.0) (together (arrows (edges v)) e.1) (below (length v.components)) (λ d at. same-class (arrows (edges v)) e.0 e.1 d l0 l1 (omega (arith, from_below (length v.components) d at, few)) one),
          cyclic_by (edges v) (region (arrows (edges v)) (length v.components) e.0) e has l0 l1
              (region-is (arrows (edges v)) (length v.components) e.0 e.0 few inside.0 ∙ together-self (arrows (edges v)) e.0 l0)
              (region-is (arrows (edges v)) (length v.components) e.0 e.1 few inside.1 ∙ one),
        )
