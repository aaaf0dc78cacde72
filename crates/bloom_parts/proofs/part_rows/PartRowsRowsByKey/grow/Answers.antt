use Rattle.std.proofs.Common.{sym, subst}
use Rattle.bloom_growth.specs.ByKey.{AreByKey}
use Rattle.bloom_growth.specs.Kept.{IsGrownTo}
use Rattle.bloom_parts.specs.declared.part_rows.PartRows.{PartRows}
use Rattle.bloom_parts.specs.PartForms.{kept_of}
use Rattle.bloom_parts.proofs.part_rows.PartRowsRowsByKey.grow.Goals as goal

pub returns-in-Growing-clause-rows : goal.returns-in-Growing-clause-rows
returns-in-Growing-clause-rows c = λ old new extends few.
    subst (λ (p : PartRows). AreByKey (kept_of p).columns old (kept_of p).sets → IsGrownTo (kept_of p).columns new c.grow.new.self.sets c.grow.result) (sym c.in-Growing.is) (c.grow.ensures.rows old new extends few)

pub returns-in-Keyed-clause-rows : goal.returns-in-Keyed-clause-rows
returns-in-Keyed-clause-rows c = λ old new extends few.
    subst (λ (p : PartRows). AreByKey (kept_of p).columns old (kept_of p).sets → IsGrownTo (kept_of p).columns new c.grow-in-Keyed.new.self.sets c.grow-in-Keyed.result) (sym c.in-Keyed.is) (c.grow-in-Keyed.ensures.rows old new extends few)
