-- A row over timesteps is put out in one of them, after others; and so a record of an emitted list is put out in a timestep of some life.
use Rattle.std.proofs.Common.{◌≡◌, refl, ap, sym, subst, ◌∙◌, ℕ, ◌<◌, List, [], ◌∷◌, ◌++◌, append_assoc, length, inl, inr, Some}
use Rattle.std.specs.List.{fold, All}
use Rattle.blz_value.specs.Members.{Has}
use Rattle.blz_value.specs.Record.{Row}
use Rattle.blz_value.proofs.Membership.{Has-append_left, Has-append_cases, Has-from_flat_map, Has-get_or, All-of_member}
use Rattle.blz_value.proofs.SetLaws.{Has-from_set_of}
use Rattle.bloom_forms.specs.declared.program.Program.{Program}
use Rattle.bloom_forms.specs.Program.{port_columns}
use Rattle.bloom_forms.specs.ProgramStep.{tables_after_step, empty_tables}
use Rattle.bloom_forms.specs.Step.{Sets}
use Rattle.bloom_forms.specs.Steps.{AreArrivals}
use Rattle.bloom_forms.specs.Widths.{AreSetsOf}
use Rattle.bloom_forms.specs.Runs.{output_rows, over_steps, rows_over}
use Rattle.topo_forms.specs.Messages.{rows_in}
use Rattle.messages.specs.Messages.{Entry}
use Rattle.inbox.specs.Instances.{Instance}
use Rattle.inbox.specs.Lives.{Life, Lives, all_lives, life_timesteps, emitted_by}
use Rattle.inbox.proofs.Lists.Rows.{life_rows, rows_of_list}

pub All-from_members : {X : Type 0} (P : X → Type 0) (xs : List X) → ((x : X) → Has x xs → P x) → All P xs
All-from_members P xs each k d lt = each _ (Has-get_or xs k d lt)

-- the timestep in which a row is put out, after others
pub record PutOut (program : Program) (rows : (kept now : Sets) → List Row) (kept : Sets) (nows : List Sets) (row : Row) : Type 0 where
  pub earlier : List Sets
  pub now : Sets
  pub later : List Sets
  pub are : nows ≡ earlier ++ now ∷ later
  pub there : Has row (rows (fold (tables_after_step program) kept earlier) now)

module _ (program : Program) (rows : (kept now : Sets) → List Row) where
  pub put_out : (kept : Sets) (nows : List Sets) (row : Row) → Has row (over_steps program rows kept nows) → PutOut program rows kept nows row
  put_out kept [] row h = absurd h
  put_out kept (now ∷ nows) row h = elim (Has-append_cases row (rows kept now) (over_steps program rows (tables_after_step program kept now) nows) h) [
    | inl here ↦ record { earlier = []; now = now; later = nows; are = refl; there = here }
    | inr later ↦
        let p = put_out (tables_after_step program kept now) nows row later in
        record { earlier = now ∷ p.earlier; now = p.now; later = p.later; are = ap (λ l. now ∷ l) p.are; there = p.there }
  ]

  pub put_out_over : (nows : List Sets) (row : Row) → Has row (rows_over program rows nows) → PutOut program rows (empty_tables program) nows row
  put_out_over nows row h = put_out (empty_tables program) nows row (Has-from_set_of row (over_steps program rows (empty_tables program) nows) h)

  -- what has arrived up to a timestep
  pub arrived_up : (nows earlier later : List Sets) (now : Sets) → nows ≡ earlier ++ now ∷ later → (other : Sets) → Has other (earlier ++ now ∷ []) → Has other nows
  arrived_up nows earlier later now are other h =
      let longer : (earlier ++ now ∷ []) ++ later ≡ earlier ++ now ∷ later = append_assoc earlier (now ∷ []) later in
      subst (λ l. Has other l) (longer ∙ sym are) (Has-append_left other (earlier ++ now ∷ []) later h)

  pub arrivals_up : (nows earlier later : List Sets) (now : Sets) → nows ≡ earlier ++ now ∷ later → AreArrivals program nows → AreArrivals program (earlier ++ now ∷ [])
  arrivals_up nows earlier later now are arrivals = All-from_members (AreSetsOf (port_columns program)) (earlier ++ now ∷ []) (λ other h. All-of_member (AreSetsOf (port_columns program)) nows other arrivals (arrived_up nows earlier later now are other h))

-- a record of an emitted list is a row of a step of a life
pub record IsEmitted (program : Program) (i : Instance) (log : List Entry) (lives : Lives) (output : ℕ) (r : Row) : Type 0 where
  pub life : Life
  pub lived : Has life (all_lives lives)
  pub step : PutOut program (output_rows program output) (empty_tables program) (life_timesteps i log life) r

pub emitted_in_step : (program : Program) (i : Instance) → i.program ≡ Some program → (log : List Entry) (lives : Lives) (output : ℕ) (r : Row) → output < length i.outputs
    → Has r (rows_in (emitted_by i log lives output)) → IsEmitted program i log lives output r
emitted_in_step program i has_program log lives output r within h =
    let m = Has-from_flat_map (life_rows program i log output) r (all_lives lives) ((rows_of_list program i has_program log lives output within).0 r h) in
    record { life = m.0; lived = m.1; step = put_out program (output_rows program output) (empty_tables program) (life_timesteps i log m.0) r m.2 }
