-- A row over some steps is one of a step.
use Rattle.std.proofs.Common.{List, [], ◌∷◌, inl, inr}
use Rattle.blz_value.specs.Members.{Has}
use Rattle.blz_value.specs.Record.{Row}
use Rattle.blz_value.proofs.Membership.{Has-append_left, Has-append_right, Has-append_cases}
use Rattle.bloom_forms.specs.declared.program.Program.{Program}
use Rattle.bloom_forms.specs.ProgramStep.{tables_after_step}
use Rattle.bloom_forms.specs.Step.{Sets}
use Rattle.bloom_forms.proofs.Ends.StepsLemmas.{StepOf, before, arrives}
use Rattle.bloom_forms.specs.Runs.{over_steps}

module _ (program : Program) where
  pub from_steps : (rows : Sets → Sets → List Row) (kept : Sets) (nows : List Sets) (row : Row)
      → Has row (over_steps program rows kept nows)
      → (j : StepOf program kept nows) × Has row (rows (before program kept nows j) (arrives program kept nows j))
  from_steps rows kept [] row h = absurd h
  from_steps rows kept (now ∷ nows) row h = elim (Has-append_cases row (rows kept now) (over_steps program rows (tables_after_step program kept now) nows) h) [
    | inl here ↦ (inl tt, here)
    | inr later ↦ let s = from_steps rows (tables_after_step program kept now) nows row later in (inr s.0, s.1)
  ]

  pub in_steps : (rows : Sets → Sets → List Row) (kept : Sets) (nows : List Sets) (row : Row) (j : StepOf program kept nows)
      → Has row (rows (before program kept nows j) (arrives program kept nows j))
      → Has row (over_steps program rows kept nows)
  in_steps rows kept [] row j h = absurd j
  in_steps rows kept (now ∷ nows) row (inl first) h = Has-append_left row (rows kept now) (over_steps program rows (tables_after_step program kept now) nows) h
  in_steps rows kept (now ∷ nows) row (inr later) h = Has-append_right row (rows kept now) (over_steps program rows (tables_after_step program kept now) nows) (in_steps rows (tables_after_step program kept now) nows row later h)
