-- the tables so far, and those of the collections that are left
use Rattle.std.proofs.Common.{◌≡◌, ◌++◌, drop}
use Rattle.bloom_forms.specs.declared.module.Kind.TheVariants.{Table}
use Rattle.bloom_forms.specs.Step.{sets_of_kind}
use Rattle.bloom_index.proofs.body.copied_tables.Given as goal

abbrev pub invariant-loop-i : goal.invariant-loop-i
invariant-loop-i l = l.tables.items ++ sets_of_kind Table (drop l.i l.collections) (drop l.i l.parts.rows.items) ≡ sets_of_kind Table l.collections l.parts.rows.items
