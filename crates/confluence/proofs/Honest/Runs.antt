-- Where each row comes from a record that has arrived, and none arrives, there are no rows.
use Rattle.std.proofs.Common.{◌≡◌, subst, ℕ, List, [], ◌∷◌, ◌++◌}
use Rattle.blz_value.specs.Members.{Has}
use Rattle.blz_value.specs.Record.{Row}
use Rattle.blz_value.proofs.SetLaws.{Has-set_of, Has-from_set_of}
use Rattle.bloom_forms.specs.declared.program.Program.{Program}
use Rattle.bloom_forms.specs.ProgramStep.{empty_tables}
use Rattle.bloom_forms.specs.Step.{Sets, set_at}
use Rattle.bloom_forms.specs.Runs.{output_over, rows_over}
use Rattle.inbox.specs.Folds.{rows_from}
use Rattle.bloom_forms.specs.Steps.{AreArrivals, tables_after_steps}
use Rattle.inbox.proofs.Records.PutOut.{put_out_over, arrived_up, arrivals_up}

module _ (program : Program) (rows : (kept now : Sets) → List Row) where
  -- a record that has arrived
  pub record HasArrived (nows : List Sets) : Type 0 where
    pub now : Sets
    pub came : Has now nows
    pub port : ℕ
    pub record_there : Row
    pub arrived : Has record_there (set_at now port)

  -- where each row comes from a record that has arrived, and none arrives, there are no rows
  pub no_rows_of_nothing : ((earlier : List Sets) (now : Sets) (row : Row) → AreArrivals program (earlier ++ now ∷ []) → Has row (rows (tables_after_steps program earlier) now) → HasArrived (earlier ++ now ∷ []))
      → (nows : List Sets) → AreArrivals program nows → ((now : Sets) → Has now nows → (port : ℕ) → set_at now port ≡ []) → (row : Row) → ¬ Has row (rows_over program rows nows)
  no_rows_of_nothing comes nows arrivals silent row h =
      let p = put_out_over program rows nows row h in
      let a = comes p.earlier p.now row (arrivals_up program rows nows p.earlier p.later p.now p.are arrivals) p.there in
      subst (λ l. Has a.record_there l) (silent a.now (arrived_up program rows nows p.earlier p.later p.now p.are a.now a.came) a.port) a.arrived

module _ (program : Program) (output : ℕ) where
  pub to_over : (nows : List Sets) (row : Row) → Has row (rows_from program (empty_tables program) nows output) → Has row (output_over program output nows)
  to_over nows row h = Has-set_of row (rows_from program (empty_tables program) nows output) h

  pub from_over : (nows : List Sets) (row : Row) → Has row (output_over program output nows) → Has row (rows_from program (empty_tables program) nows output)
  from_over nows row h = Has-from_set_of row (rows_from program (empty_tables program) nows output) h
