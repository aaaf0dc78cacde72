-- The shell at the place of an instance runs what its component runs.
use Rattle.std.proofs.Common.{◌≡◌, ◌<◌, ◌+◌, ℕ, zero, suc, Option, None, List, [], ◌∷◌, ◌++◌, length, map, replicate, set, get_or, refl, ap, sym, subst, ◌∙◌, inl, inr, arith, append-nil, length-append}
use Rattle.std.specs.List.{flat_map}
use Rattle.std.proofs.lemmas.Bool.{cases_lt}
use Rattle.std.proofs.lemmas.Grind.{flat_map-append}
use Rattle.std.proofs.lemmas.List.{map-set, get_or-map, get_or-append-add, get_or-replicate, length-map, length-replicate}
use Rattle.std.proofs.Math.ListN.{get_or-append}
use Rattle.bloom_eval.specs.Step.{nothing_kept}
use Rattle.bloom_forms.specs.declared.program.Program.{Program}
use Rattle.bloom_forms.specs.Step.{Sets}
use Rattle.blz_value.specs.NumberSets.{below}
use Rattle.topo_forms.specs.View.{View, program_of, replicas_of}
use Rattle.sched_net.specs.Bench.{instance_components}
use Rattle.inbox.specs.Places.{places_before, instance_place, instance_count}
use Rattle.inbox.proofs.PlacesLemmas.{below_more, before-more, place-before}

module _ (size : ℕ → ℕ) where
  -- each number so many times, in order
  abbrev numbers : ℕ → List ℕ
  numbers n = flat_map (λ m. replicate (size m) m) (below n)

  numbers-more : (n : ℕ) → numbers (n + 1) ≡ numbers n ++ replicate (size n) n
  numbers-more n =
      ap (flat_map (λ m. replicate (size m) m)) (below_more n)
      ∙ flat_map-append (λ m. replicate (size m) m) (below n) (n ∷ [])
      ∙ ap (λ l. flat_map (λ m. replicate (size m) m) (below n) ++ l) (append-nil (replicate (size n) n))

  many_numbers : (n : ℕ) → length (numbers n) ≡ places_before size n
  many_numbers zero = refl
  many_numbers (suc n) =
      let next : suc n ≡ n + 1 = omega arith in
      ap (λ k. length (numbers k)) next
      ∙ ap (λ (l : List ℕ). length l) (numbers-more n)
      ∙ length-append (numbers n) (replicate (size n) n)
      ∙ (let own = length-replicate (size n) n in let rest = many_numbers n in let more = before-more size n in
      let e : length (numbers n) + length (replicate (size n) n) ≡ places_before size (n + 1) = omega (arith, own, rest, more) in e)
      ∙ sym (ap (places_before size) next)

  number_at : (n c r d : ℕ) → c < n → r < size c → get_or (numbers n) (places_before size c + r) d ≡ c
  number_at zero c r d less within = absurd (omega (arith, less))
  number_at (suc n) c r d less within =
      let next : suc n ≡ n + 1 = omega arith in
      let many = many_numbers n in
      ap (λ k. get_or (numbers k) (places_before size c + r) d) next
      ∙ ap (λ l. get_or l (places_before size c + r) d) (numbers-more n)
      ∙ elim (cases_lt c n) as (λ _. get_or (numbers n ++ replicate (size n) n) (places_before size c + r) d ≡ c) [
        | inl before ↦
            let inside = place-before size c r n within before in
            get_or-append (numbers n) (replicate (size n) n) d (places_before size c + r) (omega (arith, many, inside)) ∙ number_at n c r d before within
        | inr not_before ↦
            let last : c ≡ n = omega (arith, less, not_before) in
            let own : r < size n = subst (λ k. r < size k) last within in
            ap (λ k. get_or (numbers n ++ replicate (size n) n) (places_before size k + r) d) last
            ∙ ap (λ k. get_or (numbers n ++ replicate (size n) n) (k + r) d) (sym many)
            ∙ get_or-append-add (numbers n) (replicate (size n) n) r d
            ∙ get_or-replicate (size n) r n d own
            ∙ sym last
      ]

pub component_at_place : (v : View) (c r d : ℕ) → c < length v.components → r < replicas_of v c → get_or (instance_components v) (instance_place v c r) d ≡ c
component_at_place v c r d there within = number_at (replicas_of v) (length v.components) c r d there within

pub many_components : (v : View) → length (instance_components v) ≡ instance_count v
many_components v = many_numbers (replicas_of v) (length v.components)

-- what the shell runs
pub loaded_at : (v : View) (loaded : List (Option Program)) (c r : ℕ) → loaded ≡ map (program_of v) (instance_components v) → c < length v.components → r < replicas_of v c → get_or loaded (instance_place v c r) None ≡ program_of v c
loaded_at v loaded c r is there within =
    let inside : instance_place v c r < length (instance_components v) = subst (λ n. instance_place v c r < n) (sym (many_components v)) (place-before (replicas_of v) c r (length v.components) within there) in
    ap (λ l. get_or l (instance_place v c r) None) is
    ∙ get_or-map (program_of v) (instance_components v) (instance_place v c r) 0 None inside
    ∙ ap (program_of v) (component_at_place v c r 0 there within)

-- there is one for each instance
pub many_loaded : (v : View) (loaded : List (Option Program)) → loaded ≡ map (program_of v) (instance_components v) → length loaded ≡ instance_count v
many_loaded v loaded is = ap (λ (l : List (Option Program)). length l) is ∙ length-map (instance_components v) (program_of v) ∙ many_components v

-- a shell that is emptied in its place among others
pub cleared_at : {X : Type 0} (loads : X → Option Program) (keeps : X → Sets) (xs : List X) (place : ℕ) (x y : X) → place < length xs → x ≡ get_or xs place x → keeps y ≡ nothing_kept (loads x)
    → map keeps (set xs place y) ≡ set (map keeps xs) place (nothing_kept (get_or (map loads xs) place None))
cleared_at loads keeps xs place x y less is empty =
    map-set keeps xs place y
    ∙ ap (set (map keeps xs) place) (empty ∙ ap nothing_kept (sym (get_or-map loads xs place x None less ∙ ap loads (sym is))))
