-- what is put out so far, and the outputs of the collections that are left
use Rattle.std.proofs.Common.{◌≡◌, ◌++◌, ◌∷◌, [], ℕ, Some, length, drop}
use Rattle.blz_pool.specs.Entries.{row_with_id}
use Rattle.bloom_forms.specs.declared.module.Kind.TheVariants.{Output}
use Rattle.bloom_forms.specs.Kinds.{kind_at}
use Rattle.bloom_forms.specs.Step.{Sets, set_at, sets_of_kind}
use Rattle.bloom_eval.specs.Puts.{puts_in, ArePutOf}
use Rattle.bloom_index.specs.Code.ByRows.{chosen_rows}
use Rattle.bloom_index.proofs.by_rows.put_outputs.Given as goal

abbrev pub invariant-loop-i : goal.invariant-loop-i
invariant-loop-i l = record {
  outs : (sets : Sets) → length sets ≡ length l.collections → ((k : ℕ) → kind_at l.collections k ≡ Some Output → set_at sets k ≡ chosen_rows l.rules l.port (row_with_id l.pool l.entry.1) k) → puts_in l.pool l.puts ++ sets_of_kind Output (drop l.i l.collections) (drop l.i sets) ≡ sets_of_kind Output l.collections sets;
  ids : ArePutOf (l.entry ∷ []) l.puts;
}
