-- What the collections have at the beginning and at the end of a step.
use Rattle.std.specs.Prelude.{ℕ, ◌≡◌, Bool, Some, List, [], length, map, slice_get}
use Rattle.blz_set.specs.RecordSet.{IsRecordSet}
use Rattle.bloom_forms.specs.declared.module.Collection.{Collection}
use Rattle.bloom_forms.specs.declared.module.Kind.TheVariants.{Output}
use Rattle.bloom_forms.specs.Form.{Accepted}
use Rattle.bloom_forms.specs.Step.{Sets, set_at, sets_of_kind, at_start}
use Rattle.bloom_parts.specs.declared.change.Change.{Change}
use Rattle.bloom_parts.specs.Turns.{rows_in}
use Rattle.bloom_index.specs.Code.Lasting.{lasts_at}

-- the rows of the change of each collection
abbrev pub held_sets : List Change → Sets
held_sets held = map (λ change. rows_in change.rows) held

-- of them those that are put out
abbrev pub outs_in : Accepted → List Change → Sets
outs_in a held = sets_of_kind Output a.form.collections (held_sets held)

-- what a collection has at the beginning: a port what arrives, any other nothing, and where it is kept this is what comes of it, and nothing goes
pub record IsBegunAt (cs : List Collection) (lasting : List Bool) (now : Sets) (number : ℕ) (change : Change) : Type 0 where
  pub kept : change.kept ≡ lasts_at lasting number
  pub none_gone : rows_in change.gone ≡ []
  pub rows : rows_in change.rows ≡ set_at (at_start cs [] now) number
  pub set : IsRecordSet (rows_in change.rows)

-- the same of so many collections
pub record AreBegunAt (cs : List Collection) (lasting : List Bool) (now : Sets) (count : ℕ) (held : List Change) : Type 0 where
  pub many : length held ≡ count
  pub each : (number : ℕ) (change : Change) → slice_get held number ≡ Some change → IsBegunAt cs lasting now number change
