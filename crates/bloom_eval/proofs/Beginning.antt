-- The beginning of a step, one collection after the other.
use Rattle.std.proofs.Common.{◌≡◌, ◌<◌, ◌≤◌, ◌+◌, ℕ, zero, suc, Bool, true, false, cond, List, [], ◌∷◌, ◌++◌, length, take, map, get_or, Option, Some, refl, ap, ◌∙◌, sym, subst, ◌⊎◌, inl, inr, arith}
use Rattle.std.specs.Prelude.{slice_set}
use Rattle.std.specs.List.{range_with_len}
use Rattle.std.proofs.lemmas.List.FromFn.{map-range_with_len_more}
use Rattle.std.proofs.lemmas.List.{map-append, get_or-set_same, get_or-set_other, length-set}
use Rattle.std.proofs.lemmas.List.Filters.{length-filter_more}
use Rattle.std.proofs.lemmas.Bool.{cases_eq}
use Rattle.blz_value.specs.Record.{Row}
use Rattle.bloom_forms.specs.declared.module.Kind.{Kind}
use Rattle.bloom_forms.specs.declared.module.Kind.TheVariants.{Input, Output, Table, Scratch}
use Rattle.bloom_forms.specs.declared.module.Collection.{Collection}
use Rattle.bloom_forms.specs.Kinds.{same_kind, of_kind, kind_at, place_in_kind}
use Rattle.bloom_forms.specs.Step.{Sets, set_at, begun, begun_at}
use Rattle.std.specs.Option.{option_map}
use Rattle.std.proofs.lemmas.Option.{slice_get-get_or}
use Rattle.bloom_eval.specs.declared.rows.Rows.{Rows}
use Rattle.bloom_eval.specs.Code.Held.{rows_in, sets_in}
use Rattle.bloom_eval.specs.Begin.{left_by, place_after, AreLeft}

-- the place of a kind behind a collection
pub place_more : (kind : Kind) (cs : List Collection) (i : ℕ) (c : Collection) → i < length cs → c ≡ get_or cs i c → place_in_kind kind cs (i + 1) ≡ place_after kind c.kind (place_in_kind kind cs i)
place_more kind cs i c lt is =
    length-filter_more (λ (d : Collection). same_kind kind d.kind) cs i c lt
    ∙ ap (λ (d : Collection). place_in_kind kind cs i + cond (same_kind kind d.kind) 1 0) (sym is)
    ∙ go (same_kind kind c.kind)
  where
    go : (b : Bool) → place_in_kind kind cs i + cond b 1 0 ≡ cond b (place_in_kind kind cs i + 1) (place_in_kind kind cs i)
    go true = refl
    go false = omega arith

-- a collection of the kind has a place among those of it
pub place_within : (kind : Kind) (cs : List Collection) (i : ℕ) (c : Collection) → i < length cs → c ≡ get_or cs i c → c.kind ≡ kind → place_in_kind kind cs i < length (of_kind kind cs)
place_within kind [] i c lt is same = absurd (omega (arith, lt))
place_within kind (d ∷ cs) zero c lt is same = go (same_kind kind d.kind) (ap (same_kind kind) (ap (λ (e : Collection). e.kind) (sym is) ∙ same) ∙ self kind)
  where
    self : (k : Kind) → same_kind k k ≡ true
    self Input = refl
    self Output = refl
    self Table = refl
    self Scratch = refl

    go : (b : Bool) → b ≡ true → 0 < length (cond b (d ∷ of_kind kind cs) (of_kind kind cs))
    go true e = omega arith
    go false e = absurd cc
place_within kind (d ∷ cs) (suc i) c lt is same = go (same_kind kind d.kind) (place_within kind cs i c (omega (arith, lt)) is same)
  where
    go : (b : Bool) → length (of_kind kind (take i cs)) < length (of_kind kind cs) → length (cond b (d ∷ of_kind kind (take i cs)) (of_kind kind (take i cs))) < length (cond b (d ∷ of_kind kind cs) (of_kind kind cs))
    go true more = omega (arith, more)
    go false more = more

pub place_after-le : (kind of : Kind) (place i : ℕ) → place ≤ i → place_after kind of place ≤ i + 1
place_after-le kind of place i le = go (same_kind kind of)
  where
    go : (b : Bool) → cond b (place + 1) place ≤ i + 1
    go true = omega (arith, le)
    go false = omega (arith, le)

-- the later tables are as they were
pub later_left : (kind : Kind) (old new start : Sets) (table : ℕ) → new ≡ left_by kind old table → ((k : ℕ) → table ≤ k → set_at old k ≡ set_at start k) → (k : ℕ) → place_after Table kind table ≤ k → set_at new k ≡ set_at start k
later_left Input old new start table is later k le = ap (λ (sets : Sets). set_at sets k) is ∙ later k le
later_left Output old new start table is later k le = ap (λ (sets : Sets). set_at sets k) is ∙ later k le
later_left Scratch old new start table is later k le = ap (λ (sets : Sets). set_at sets k) is ∙ later k le
later_left Table old new start table is later k le =
    ap (λ (sets : Sets). set_at sets k) is
    ∙ get_or-set_other old table k [] [] (λ e. absurd (omega (arith, le, e)))
    ∙ later k (omega (arith, le))

-- each table is as it was, or empty
pub still_left : (kind : Kind) (old new start : Sets) (table : ℕ) → new ≡ left_by kind old table → (kind ≡ Table → table < length old) → AreLeft start old → AreLeft start new
still_left Input old new start table is lt left = subst (AreLeft start) (sym is) left
still_left Output old new start table is lt left = subst (AreLeft start) (sym is) left
still_left Scratch old new start table is lt left = subst (AreLeft start) (sym is) left
still_left Table old new start table is lt left = record {
  many = ap length is ∙ length-set old table [] ∙ left.many;
  each = λ k. elim (cases_eq table k) [
    | inl e ↦ inr (ap (λ (sets : Sets). set_at sets k) is ∙ ap (set_at (slice_set old table [])) (sym e) ∙ get_or-set_same old table [] [] (lt refl))
    | inr ne ↦ subst (λ (rows : List Row). (rows ≡ set_at start k) ⊎ (rows ≡ [])) (sym (ap (λ (sets : Sets). set_at sets k) is ∙ get_or-set_other old table k [] [] (λ e. ne (sym e)))) (left.each k)
  ];
}

-- the sets with one more
pub begun_more : (cs : List Collection) (kept now : Sets) (held : List Rows) (rows : Rows) (i : ℕ) (c : Collection) (turned : Sets) → i < length cs → c ≡ get_or cs i c → sets_in held ≡ map (begun_at cs kept now) (range_with_len 0 i)
    → rows_in rows ≡ begun (Some c.kind) (set_at turned (place_in_kind Table cs i)) (set_at now (place_in_kind Input cs i)) → set_at turned (place_in_kind Table cs i) ≡ set_at kept (place_in_kind Table cs i) → sets_in (held ++ rows ∷ []) ≡ map (begun_at cs kept now) (range_with_len 0 (i + 1))
begun_more cs kept now held rows i c turned lt is so_far made same =
    let kind : kind_at cs i ≡ Some c.kind = ap (option_map (λ (d : Collection). d.kind)) (slice_get-get_or cs i c lt ∙ ap Some (sym is)) in
    let one : rows_in rows ≡ begun_at cs kept now i = made ∙ ap (λ (table : List Row). begun (Some c.kind) table (set_at now (place_in_kind Input cs i))) same ∙ sym (ap (λ (o : Option Kind). begun o (set_at kept (place_in_kind Table cs i)) (set_at now (place_in_kind Input cs i))) kind) in
    map-append rows_in held (rows ∷ [])
    ∙ (λ j. so_far j ++ one j ∷ [])
    ∙ sym (map-range_with_len_more (begun_at cs kept now) 0 i i (omega arith))
