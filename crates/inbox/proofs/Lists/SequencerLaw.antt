-- A replica of an Order component has put out what its program does over the first entries of the log.
use Rattle.std.proofs.Common.{◌≡◌, refl, ap, sym, subst, ◌∙◌, ℕ, zero, suc, ◌<◌, ◌≤◌, max, true, List, [], ◌∷◌, ◌++◌, length, map, take, arith, inl, inr, ◌⊎◌, Some}
use Rattle.std.specs.List.{fold, flat_map}
use Rattle.std.proofs.Math.Nat.{le-max_left, le-max_right}
use Rattle.blz_value.specs.Members.{Has, IsWithin, HaveEqualMembers}
use Rattle.blz_value.specs.Record.{Row}
use Rattle.blz_value.specs.Sets.{set_of}
use Rattle.blz_value.proofs.Membership.{Has-append_left, Has-map, Has-from_map, Has-flat_map, Has-from_flat_map}
use Rattle.blz_value.proofs.RowSets.{same_set_of}
use Rattle.bloom_forms.specs.declared.program.Program.{Program}
use Rattle.bloom_forms.specs.Program.{port_columns}
use Rattle.bloom_forms.specs.ProgramStep.{tables_after_step, empty_tables}
use Rattle.bloom_forms.specs.Step.{Sets}
use Rattle.topo_forms.specs.View.{is_order_mode}
use Rattle.topo_forms.specs.Messages.{rows_in}
use Rattle.messages.specs.Messages.{Entry}
use Rattle.inbox.specs.Instances.{Instance}
use Rattle.bloom_eval.specs.Arrivals.{timestep_of}
use Rattle.inbox.specs.Timesteps.{one_by_one}
use Rattle.inbox.specs.Lives.{Life, Lives, all_lives, emitted_by}
use Rattle.inbox.specs.Folds.{fold_rows}
use Rattle.inbox.specs.Wiring.{instance_at}
use Rattle.inbox.specs.Growth.{Continues}
use Rattle.inbox.specs.Folds.{rows_from}
use Rattle.inbox.proofs.Lists.Rows.{rows_from-append, life_rows, rows_of_list}
use Rattle.inbox.proofs.TimestepLemmas.OfLives.{life_timesteps-taking}
use Rattle.inbox.proofs.Lists.Origins.{list-output}
use Rattle.inbox.specs.OrderReplicas.{most_taken}
use Rattle.inbox.specs.Laws.{SequencerLaw}

-- ---- the most of some numbers

fold_max-ge : (xs : List ℕ) (a : ℕ) → a ≤ fold max a xs
fold_max-ge [] a = omega arith
fold_max-ge (x ∷ xs) a = let first = le-max_left a x in let rest = fold_max-ge xs (max a x) in omega (arith, first, rest)

pub fold_max-member : (xs : List ℕ) (a q : ℕ) → Has q xs → q ≤ fold max a xs
fold_max-member [] a q h = absurd h
fold_max-member (x ∷ xs) a q (inl e) = let first = le-max_right a x in let rest = fold_max-ge xs (max a x) in omega (arith, e, first, rest)
fold_max-member (x ∷ xs) a q (inr h) = fold_max-member xs (max a x) q h

max-either : (a b : ℕ) → (max a b ≡ a) ⊎ (max a b ≡ b)
max-either a b = grind arith

fold_max-attained : (xs : List ℕ) (a : ℕ) → (fold max a xs ≡ a) ⊎ Has (fold max a xs) xs
fold_max-attained [] a = inl refl
fold_max-attained (x ∷ xs) a = elim (fold_max-attained xs (max a x)) [
  | inl e ↦ elim (max-either a x) [
    | inl first ↦ inl (e ∙ first)
    | inr second ↦ inr (inl (sym (e ∙ second)))
  ]
  | inr h ↦ inr (inr h)
]

-- ---- first pieces

take-continues : {X : Type 0} (xs : List X) (n m : ℕ) → n ≤ m → Continues (take n xs) (take m xs)
take-continues [] zero m le = record { more = take m []; with_more = refl }
take-continues [] (suc n) zero le = absurd (omega arith)
take-continues [] (suc n) (suc m) le = record { more = []; with_more = refl }
take-continues (x ∷ xs) zero m le = record { more = take m (x ∷ xs); with_more = refl }
take-continues (x ∷ xs) (suc n) zero le = absurd (omega arith)
take-continues (x ∷ xs) (suc n) (suc m) le = let rest = take-continues xs n m (omega arith) in record { more = rest.more; with_more = ap (λ l. x ∷ l) rest.with_more }

one_by_one-append : (ports : ℕ) (xs ys : List Entry) → one_by_one ports (xs ++ ys) ≡ one_by_one ports xs ++ one_by_one ports ys
one_by_one-append ports [] ys = refl
one_by_one-append ports (x ∷ xs) ys = ap (λ l. timestep_of ports (x ∷ []) ∷ l) (one_by_one-append ports xs ys)

-- the rows of an output over one timestep for each entry, from empty tables
abbrev entry_rows : Program → (ports : ℕ) → List Entry → (output : ℕ) → List Row
entry_rows program ports entries output = rows_from program (empty_tables program) (one_by_one ports entries) output

more_entries : (program : Program) (ports : ℕ) (xs ys : List Entry) (output : ℕ) → Continues xs ys → IsWithin (entry_rows program ports xs output) (entry_rows program ports ys output)
more_entries program ports xs ys output c q h =
    let tables : Sets = fold (tables_after_step program) (empty_tables program) (one_by_one ports xs) in
    let are : entry_rows program ports ys output ≡ entry_rows program ports xs output ++ rows_from program tables (one_by_one ports c.more) output =
    ap (λ l. entry_rows program ports l output) (sym c.with_more)
    ∙ ap (λ l. rows_from program (empty_tables program) l output) (one_by_one-append ports xs c.more)
    ∙ rows_from-append program (empty_tables program) (one_by_one ports xs) (one_by_one ports c.more) output in
    subst (λ l. Has q l) (sym are) (Has-append_left q (entry_rows program ports xs output) (rows_from program tables (one_by_one ports c.more) output) h)

-- ---- the law

module _ (program : Program) (i : Instance) (is : is_order_mode i.mode ≡ true) (log : List Entry) (output : ℕ) where
  rows_of : ℕ → List Row
  rows_of n = entry_rows program (length i.ports) (take n log) output

  life_rows-is : (life : Life) → life_rows program i log output life ≡ rows_of life.taken
  unfolding rows_of
  life_rows-is life = ap (λ steps. rows_from program (empty_tables program) steps output) (life_timesteps-taking i log life is)

  rows_of-more : (n m : ℕ) → n ≤ m → IsWithin (rows_of n) (rows_of m)
  unfolding rows_of
  rows_of-more n m le = more_entries program (length i.ports) (take n log) (take m log) output (take-continues log n m le)

  rows_of-none : (q : Row) → ¬ Has q (rows_of 0)
  unfolding rows_of
  rows_of-none q h = h

  lives_rows : (lives : Lives) → HaveEqualMembers (flat_map (life_rows program i log output) (all_lives lives)) (rows_of (most_taken lives))
  lives_rows lives = (
    λ q h.
        let m = Has-from_flat_map (life_rows program i log output) q (all_lives lives) h in
        rows_of-more m.0.taken (most_taken lives) (fold_max-member (map (λ life. life.taken) (all_lives lives)) 0 m.0.taken (Has-map (λ life. life.taken) m.0 (all_lives lives) m.1)) q
        (subst (λ l. Has q l) (life_rows-is m.0) m.2),
    λ q h. elim (fold_max-attained (map (λ life. life.taken) (all_lives lives)) 0) [
      | inl none ↦ absurd (rows_of-none q (subst (λ n. Has q (rows_of n)) none h))
      | inr at ↦
          let m = Has-from_map (λ life. life.taken) (most_taken lives) (all_lives lives) at in
          Has-flat_map (life_rows program i log output) m.0 q (all_lives lives) m.1 (subst (λ l. Has q l) (sym (life_rows-is m.0)) (subst (λ n. Has q (rows_of n)) (sym m.2) h))
    ],
  )

  pub sequencer_set : (i.program ≡ Some program) → length i.ports ≡ length (port_columns program) → output < length i.outputs → (lives : Lives) → set_of (rows_in (emitted_by i log lives output)) ≡ fold_rows program (take (most_taken lives) log) output
  unfolding rows_of
  sequencer_set body ports there lives =
      let list = rows_of_list program i body log lives output there in
      let rest = lives_rows lives in
      same_set_of (rows_in (emitted_by i log lives output)) (rows_of (most_taken lives)) (λ q h. rest.0 q (list.0 q h), λ q h. list.1 q (rest.1 q h))
      ∙ ap (λ n. set_of (entry_rows program n (take (most_taken lives) log) output)) ports

pub sequencer_law : SequencerLaw
sequencer_law w d x s c o i program is =
    ap (λ l. set_of (rows_in l)) (list-output w d x s c o i is.line is.numbered is.origin)
    ∙ sequencer_set program (instance_at w c i) is.order (x.logs c) o is.body is.ports is.output_there (x.lives c i)
