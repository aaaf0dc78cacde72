-- The end of a step, one collection after the other.
use Rattle.std.proofs.Common.{◌≡◌, ◌<◌, ◌≤◌, ◌+◌, ℕ, zero, suc, Bool, true, false, cond, List, [], ◌∷◌, ◌++◌, length, map, filter, drop, get_or, refl, ap, ◌∙◌, sym, arith, append_assoc, append-nil}
use Rattle.std.specs.Prelude.{slice_set}
use Rattle.std.specs.List.{zip}
use Rattle.std.proofs.lemmas.List.{drop_all, get_or-set_other, length-map, length-set}
use Rattle.blz_value.specs.Record.{Row}
use Rattle.bloom_forms.specs.declared.module.Kind.{Kind}
use Rattle.bloom_forms.specs.declared.module.Collection.{Collection}
use Rattle.bloom_forms.specs.Kinds.{same_kind}
use Rattle.bloom_forms.specs.Step.{Sets, set_at, sets_of_kind}
use Rattle.bloom_eval.specs.declared.rows.Rows.{Rows}
use Rattle.bloom_eval.specs.Code.Held.{rows_in, sets_in}
use Rattle.bloom_eval.specs.Finish.{placed}

-- as many are held when one is taken
pub many_held : (held left : List Rows) (i : ℕ) → sets_in left ≡ slice_set (sets_in held) i [] → length left ≡ length held
many_held held left i is = sym (length-map left rows_in) ∙ ap length is ∙ length-set (sets_in held) i [] ∙ length-map held rows_in

-- the later ones are as they were
pub later_held : (held left start : Sets) (i : ℕ) → left ≡ slice_set held i [] → ((k : ℕ) → i ≤ k → set_at held k ≡ set_at start k) → (k : ℕ) → i + 1 ≤ k → set_at left k ≡ set_at start k
later_held held left start i is later k le =
    ap (λ (sets : Sets). set_at sets k) is ∙ get_or-set_other held i k [] [] (λ e. absurd (omega (arith, le, e))) ∙ later k (omega (arith, le))

-- the collection at a place gives its set, and then the later ones
one_placed : (kind : Kind) (cs : List Collection) (sets : Sets) (i : ℕ) (c : Collection) → i < length cs → c ≡ get_or cs i c → length sets ≡ length cs → sets_of_kind kind (drop i cs) (drop i sets) ≡ placed kind c.kind (set_at sets i) ++ sets_of_kind kind (drop (suc i) cs) (drop (suc i) sets)
one_placed kind [] sets i c lt is many = absurd (omega (arith, lt))
one_placed kind (d ∷ cs) [] i c lt is many = absurd (omega (arith, many))
one_placed kind (d ∷ cs) (rows ∷ sets) zero c lt is many = go (same_kind kind d.kind) ∙ ap (λ (e : Collection). placed kind e.kind rows ++ sets_of_kind kind cs sets) (sym is)
  where
    go : (b : Bool) → map (λ held. held.1) (cond b ((d, rows) ∷ filter (λ held. same_kind kind held.0.kind) (zip cs sets)) (filter (λ held. same_kind kind held.0.kind) (zip cs sets))) ≡ cond b (rows ∷ []) [] ++ sets_of_kind kind cs sets
    go true = refl
    go false = refl
one_placed kind (d ∷ cs) (rows ∷ sets) (suc i) c lt is many = one_placed kind cs sets i c (omega (arith, lt)) is (omega (arith, many))

-- what was made so far and the later ones are all
pub more_placed : (kind : Kind) (cs : List Collection) (sets made longer : Sets) (i : ℕ) (c : Collection) (rows : List Row) → i < length cs → c ≡ get_or cs i c → length sets ≡ length cs → rows ≡ set_at sets i → longer ≡ made ++ placed kind c.kind rows
    → made ++ sets_of_kind kind (drop i cs) (drop i sets) ≡ sets_of_kind kind cs sets → longer ++ sets_of_kind kind (drop (i + 1) cs) (drop (i + 1) sets) ≡ sets_of_kind kind cs sets
more_placed kind cs sets made longer i c rows lt is many own more so_far =
    let next : i + 1 ≡ suc i = omega arith in
    let later : Sets = sets_of_kind kind (drop (suc i) cs) (drop (suc i) sets) in
    (λ j. more j ++ sets_of_kind kind (drop (next j) cs) (drop (next j) sets))
    ∙ append_assoc made (placed kind c.kind rows) later
    ∙ ap (λ (own : List Row). made ++ (placed kind c.kind own ++ later)) own
    ∙ ap (λ (rest : Sets). made ++ rest) (sym (one_placed kind cs sets i c lt is many))
    ∙ so_far

-- none is left
pub all_placed : (kind : Kind) (cs : List Collection) (sets made : Sets) (i : ℕ) → length cs ≤ i → made ++ sets_of_kind kind (drop i cs) (drop i sets) ≡ sets_of_kind kind cs sets → made ≡ sets_of_kind kind cs sets
all_placed kind cs sets made i le so_far =
    sym (append-nil made) ∙ ap (λ (left : List Collection). made ++ sets_of_kind kind left (drop i sets)) (sym (drop_all i cs le)) ∙ so_far
