-- A table has after some steps what it kept, and what its rules gave in one of them.
use Rattle.std.proofs.Common.{◌≡◌, ℕ, zero, suc, List, [], ◌∷◌, ◌++◌, append_assoc, Some, map, refl, sym, subst, inl, inr, ◌⊎◌}
use Rattle.std.specs.List.{fold}
use Rattle.std.proofs.lemmas.List.{append-nil}
use Rattle.std.proofs.lemmas.List.Sums.{fold-append}
use Rattle.blz_value.specs.Members.{Has, IsWithin}
use Rattle.blz_value.specs.Record.{Row}
use Rattle.bloom_forms.specs.declared.module.Kind.TheVariants.{Table}
use Rattle.bloom_forms.specs.declared.module.Collection.{Collection}
use Rattle.bloom_forms.specs.declared.program.Program.{Program}
use Rattle.bloom_forms.specs.declared.program.Program.TheVariants.{Module}
use Rattle.bloom_forms.specs.Checks.{IsChecked}
use Rattle.bloom_forms.specs.Equations.{Env, end_env}
use Rattle.bloom_forms.specs.Form.{Accepted}
use Rattle.bloom_forms.specs.Kinds.{kind_at, place_in_kind}
use Rattle.bloom_forms.specs.Program.{table_columns}
use Rattle.bloom_forms.specs.ProgramStep.{tables_after_step, empty_tables}
use Rattle.bloom_forms.specs.Step.{Sets, set_at, at_end}
use Rattle.bloom_forms.specs.Steps.{tables_after_steps}
use Rattle.bloom_forms.proofs.Ends.EquationsLemmas.{FromRule, from_table, table_kept, next_table}

module _ (program : Program) where
  -- a step of a run over some arrivals, from kept tables on
  abbrev pub StepOf : (kept : Sets) → List Sets → Type 0
  StepOf kept [] = ⊥
  StepOf kept (now ∷ nows) = Unit {0} ⊎ StepOf (tables_after_step program kept now) nows

  -- the tables before a step
  abbrev pub before : (kept : Sets) (nows : List Sets) → StepOf kept nows → Sets
  before kept [] j = absurd j
  before kept (now ∷ nows) (inl first) = kept
  before kept (now ∷ nows) (inr later) = before (tables_after_step program kept now) nows later

  -- what arrives in a step
  abbrev pub arrives : (kept : Sets) (nows : List Sets) → StepOf kept nows → Sets
  arrives kept [] j = absurd j
  arrives kept (now ∷ nows) (inl first) = now
  arrives kept (now ∷ nows) (inr later) = arrives (tables_after_step program kept now) nows later

  pub arrives_in : (kept : Sets) (nows : List Sets) (j : StepOf kept nows) → Has (arrives kept nows j) nows
  arrives_in kept [] j = absurd j
  arrives_in kept (now ∷ nows) (inl first) = inl refl
  arrives_in kept (now ∷ nows) (inr later) = inr (arrives_in (tables_after_step program kept now) nows later)

  pub step_with : (kept : Sets) (nows : List Sets) (now : Sets) → Has now nows → (j : StepOf kept nows) × (arrives kept nows j ≡ now)
  step_with kept [] now h = absurd h
  step_with kept (first ∷ nows) now (inl e) = (inl tt, e)
  step_with kept (first ∷ nows) now (inr h) = let s = step_with (tables_after_step program kept first) nows now h in (inr s.0, s.1)

-- empty tables have no rows
pub no_row : {X : Type 0} (xs : List X) (k : ℕ) (row : Row) → Has row (set_at (map (λ (x : X). []) xs) k) → ⊥
no_row [] k row h = h
no_row (x ∷ xs) zero row h = h
no_row (x ∷ xs) (suc k) row h = no_row xs k row h

module _ (a : Accepted) (checked : IsChecked a.form a.heads) where
  abbrev cs : List Collection
  cs = a.form.collections

  abbrev step : Sets → Sets → Sets
  step = tables_after_step (Module a)

  -- the environment of a step
  abbrev pub env_of : (kept : Sets) (nows : List Sets) → StepOf (Module a) kept nows → Env
  env_of kept nows j = end_env a (before (Module a) kept nows j) (arrives (Module a) kept nows j)

  -- the sets of the tables, in their collections' places
  abbrev pub table_rows : ℕ → Sets → List Row
  table_rows k tables = set_at tables (place_in_kind Table cs k)

  pub nothing_kept : (k : ℕ) (row : Row) → Has row (table_rows k (empty_tables (Module a))) → ⊥
  nothing_kept k row h = no_row (table_columns (Module a)) (place_in_kind Table cs k) row h

  module _ (k : ℕ) (is : kind_at cs k ≡ Some Table) where
    to_next : (kept now : Sets) (row : Row) → Has row (set_at (at_end a kept now) k) → Has row (table_rows k (step kept now))
    to_next kept now row h = subst (λ (rows : List Row). Has row rows) (sym (next_table a checked kept now k is)) h

    from_next : (kept now : Sets) (row : Row) → Has row (table_rows k (step kept now)) → Has row (set_at (at_end a kept now) k)
    from_next kept now row h = subst (λ (rows : List Row). Has row rows) (next_table a checked kept now k is) h

    pub stays : (kept : Sets) (nows : List Sets) → IsWithin (table_rows k kept) (table_rows k (fold step kept nows))
    stays kept [] row h = h
    stays kept (now ∷ nows) row h = stays (step kept now) nows row (to_next kept now row (table_kept a checked kept now k is row h))

    -- each row that a table has at the end of a step it has at the end of the run
    pub held_at : (kept : Sets) (nows : List Sets) (j : StepOf (Module a) kept nows)
        → IsWithin (set_at (at_end a (before (Module a) kept nows j) (arrives (Module a) kept nows j)) k) (table_rows k (fold step kept nows))
    held_at kept [] j row h = absurd j
    held_at kept (now ∷ nows) (inl first) row h = stays (step kept now) nows row (to_next kept now row h)
    held_at kept (now ∷ nows) (inr later) row h = held_at (step kept now) nows later row h

    -- each row of a table was kept, or a rule of the table gave it in a step
    pub held_from : (kept : Sets) (nows : List Sets) (row : Row) → Has row (table_rows k (fold step kept nows))
        → Has row (table_rows k kept) ⊎ ((j : StepOf (Module a) kept nows) × FromRule a checked (env_of kept nows j) k row)
    held_from kept [] row h = inl h
    held_from kept (now ∷ nows) row h = elim (held_from (step kept now) nows row h) [
      | inl old ↦ elim (from_table a checked kept now k is row (from_next kept now row old)) [ inl older ↦ inl older | inr f ↦ inr (inl tt, f) ]
      | inr later ↦ inr (inr later.0, later.1)
    ]

  -- after its last step a run has the tables of the end of that step
  pub last_step : (kept now : Sets) (nows : List Sets)
      → (j : StepOf (Module a) kept (now ∷ nows)) × ((k : ℕ) → kind_at cs k ≡ Some Table → table_rows k (fold step kept (now ∷ nows)) ≡ set_at (at_end a (before (Module a) kept (now ∷ nows) j) (arrives (Module a) kept (now ∷ nows) j)) k)
  last_step kept now [] = (inl tt, λ k is. next_table a checked kept now k is)
  last_step kept now (next ∷ nows) = let s = last_step (step kept now) next nows in (inr s.0, s.1)

  -- a run from empty tables ends with empty tables, or with those of the end of a step
  pub ended_run : (nows : List Sets) → ((k : ℕ) (row : Row) → Has row (table_rows k (fold step (empty_tables (Module a)) nows)) → ⊥)
      ⊎ ((j : StepOf (Module a) (empty_tables (Module a)) nows) × ((k : ℕ) → kind_at cs k ≡ Some Table → table_rows k (fold step (empty_tables (Module a)) nows) ≡ set_at (at_end a (before (Module a) (empty_tables (Module a)) nows j) (arrives (Module a) (empty_tables (Module a)) nows j)) k))
  ended_run [] = inl nothing_kept
  ended_run (now ∷ nows) = inr (last_step (empty_tables (Module a)) now nows)

-- ---- one step more

-- what holds of no steps and stays over one more holds after any
pub longer : (P : List Sets → Type 0) → ((done : List Sets) (arriving : Sets) → P done → P (done ++ arriving ∷ []))
    → (todo done : List Sets) → P done → P (done ++ todo)
longer P more [] done holds = subst P (sym (append-nil done)) holds
longer P more (arriving ∷ todo) done holds =
    let same : (done ++ arriving ∷ []) ++ todo ≡ done ++ arriving ∷ todo = rw append_assoc refl in
    subst P same (longer P more todo (done ++ arriving ∷ []) (more done arriving holds))

-- the tables after one step more
pub one_more : (program : Program) (done : List Sets) (arriving : Sets)
    → tables_after_steps program (done ++ arriving ∷ []) ≡ tables_after_step program (tables_after_steps program done) arriving
one_more program done arriving = fold-append (tables_after_step program) (empty_tables program) done (arriving ∷ [])
