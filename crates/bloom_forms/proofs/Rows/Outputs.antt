-- An output of a module has in each step the rows of its rules.
use Rattle.std.proofs.Common.{◌≡◌, ◌<◌, ℕ, List, [], length, ap, ◌∙◌, sym, subst, inl, inr, ◌⊎◌, arith}
use Rattle.std.proofs.lemmas.Bool.{cases_lt}
use Rattle.std.proofs.lemmas.List.{get_or_past}
use Rattle.blz_value.specs.Members.{Has}
use Rattle.blz_value.specs.Record.{Row}
use Rattle.blz_value.specs.Sets.{set_of, IsRowSet}
use Rattle.blz_value.proofs.SetLaws.{sorted_set_of, Has-set_of, Has-from_set_of}
use Rattle.bloom_forms.specs.declared.module.Kind.TheVariants.{Output}
use Rattle.bloom_forms.specs.declared.module.Collection.{Collection}
use Rattle.bloom_forms.specs.declared.program.Program.TheVariants.{Module}
use Rattle.bloom_forms.specs.Checks.{IsChecked}
use Rattle.bloom_forms.specs.Equations.{end_env}
use Rattle.bloom_forms.specs.Form.{Accepted}
use Rattle.bloom_forms.specs.Lookup.{declared}
use Rattle.bloom_forms.specs.Program.{columns_of_kind}
use Rattle.bloom_forms.specs.Step.{Sets, set_at, union_of, rules_at, at_end, sets_of_kind}
use Rattle.bloom_forms.specs.KindNumbers.{number_in_kind}
use Rattle.bloom_forms.proofs.Ends.Equated.{length-at_end}
use Rattle.bloom_forms.proofs.Collections.Numbers.{set-of_kind}
use Rattle.bloom_forms.proofs.Collections.KindNumbersLemmas.{number_at_place, at_place, length-sets_of_kind}
use Rattle.bloom_forms.proofs.Ends.EquationsLemmas.{FromRule, from_union, in_union, output_end}
use Rattle.bloom_forms.specs.Runs.{output_rows}

module _ (a : Accepted) (checked : IsChecked a.form a.heads) (output : ℕ) where
  abbrev cs : List Collection
  cs = a.form.collections

  -- the collection of an output
  abbrev pub number : ℕ
  number = number_in_kind Output cs output

  -- an output that is there has the rows of its rules
  output_is : output < length (columns_of_kind Output cs) → (kept now : Sets)
      → output_rows (Module a) output kept now ≡ set_of (union_of (declared cs) (end_env a kept now) (rules_at cs a.form.rules number))
  output_is lt kept now =
      let m = at_place Output cs output lt in
      let same : m.number ≡ number = sym (number_at_place Output cs m.number m.is) ∙ ap (number_in_kind Output cs) m.stands in
      let found : set_at (sets_of_kind Output cs (at_end a kept now)) output ≡ set_at (at_end a kept now) m.number =
      subst (λ (place : ℕ). set_at (sets_of_kind Output cs (at_end a kept now)) place ≡ set_at (at_end a kept now) m.number) m.stands (set-of_kind Output cs (at_end a kept now) m.number (length-at_end a kept now) m.is)
      in
      found ∙ output_end a checked kept now m.number m.is ∙ ap (λ (k : ℕ). set_of (union_of (declared cs) (end_env a kept now) (rules_at cs a.form.rules k))) same

  pub in_output_there : output < length (columns_of_kind Output cs) → (kept now : Sets) (row : Row)
      → FromRule a checked (end_env a kept now) number row → Has row (output_rows (Module a) output kept now)
  in_output_there lt kept now row f = subst (λ (x : List Row). Has row x) (sym (output_is lt kept now)) (Has-set_of row (union_of (declared cs) (end_env a kept now) (rules_at cs a.form.rules number)) (in_union a checked (end_env a kept now) number row f))

  -- past the last output there are no rows, and else they are those of the rules
  pub output_or : ((kept now : Sets) → output_rows (Module a) output kept now ≡ []) ⊎ ((kept now : Sets) → output_rows (Module a) output kept now ≡ set_of (union_of (declared cs) (end_env a kept now) (rules_at cs a.form.rules number)))
  output_or = elim (cases_lt output (length (columns_of_kind Output cs))) [
    | inr past ↦ inl (λ kept now. get_or_past (sets_of_kind Output cs (at_end a kept now)) output [] (omega (arith, past, length-sets_of_kind Output cs (at_end a kept now))))
    | inl lt ↦ inr (output_is lt)
  ]

  -- a row of an output comes from one of its rules
  pub from_output : (kept now : Sets) (row : Row) → Has row (output_rows (Module a) output kept now)
      → FromRule a checked (end_env a kept now) number row
  from_output kept now row h = elim output_or [
    | inl none ↦ absurd (subst (λ (x : List Row). Has row x) (none kept now) h)
    | inr is ↦ from_union a checked (end_env a kept now) number row (Has-from_set_of row (union_of (declared cs) (end_env a kept now) (rules_at cs a.form.rules number)) (subst (λ (x : List Row). Has row x) (is kept now) h))
  ]

  -- where an output has a row in some step, it has each row of its rules in each step
  pub in_output : (kept now other_kept other_now : Sets) (row other : Row)
      → Has other (output_rows (Module a) output other_kept other_now)
      → FromRule a checked (end_env a kept now) number row → Has row (output_rows (Module a) output kept now)
  in_output kept now other_kept other_now row other h f = elim output_or [
    | inl none ↦ absurd (subst (λ (x : List Row). Has other x) (none other_kept other_now) h)
    | inr is ↦ subst (λ (x : List Row). Has row x) (sym (is kept now)) (Has-set_of row (union_of (declared cs) (end_env a kept now) (rules_at cs a.form.rules number)) (in_union a checked (end_env a kept now) number row f))
  ]

  pub sorted_output : (kept now : Sets) → IsRowSet (output_rows (Module a) output kept now)
  sorted_output kept now = elim output_or [
    | inl none ↦ subst (λ (x : List Row). IsRowSet x) (sym (none kept now)) (sorted_set_of [])
    | inr is ↦ subst (λ (x : List Row). IsRowSet x) (sym (is kept now)) (sorted_set_of (union_of (declared cs) (end_env a kept now) (rules_at cs a.form.rules number)))
  ]
