use Rattle.std.proofs.Common.{◌≡◌, refl, ap, sym, subst, ◌∙◌}
use Rattle.blz_pool.specs.Entries.{entries_with_ids}
use Rattle.bloom_forms.specs.Step.{Sets}
use Rattle.bloom_eval.specs.Arrivals.{timestep_of}
use Rattle.bloom_eval.specs.Changes.{AreChanges}
use Rattle.bloom_eval.specs.Puts.{puts_in}
use Rattle.bloom_eval.specs.Step.{outs_next, outs_still}
use Rattle.bloom_eval.proofs.EmptyTables.{nothing_is_tables}
use Rattle.bloom_eval.proofs.component.Component.step_by_ids.Goals as goal

pub returns-in_default-clause-tables : goal.returns-in_default-clause-tables
returns-in_default-clause-tables c c' =
    let loaded = c'.clear.ensures.loaded in
    let kept = c'.clear.ensures.kept in
    rw (kept, loaded) (nothing_is_tables (c.Self.Component.program c'.args.self.now))

pub returns-clause-outs : goal.returns-clause-outs
returns-clause-outs c c' =
    let all : Sets = outs_next (c.Self.Component.program c'.args.self.now) (c.Self.Component.kept c'.args.self.now) (timestep_of c'.args.ports (entries_with_ids c'.args.pool.now c'.args.entries.now)) in
    let is : puts_in c'.args.pool.now c'.put_sets.new.self ≡ all = c'.in_ok-put_sets.ensures.rows c'.args.pool.now ∙ c'.in_ok-step.ensures.outs ∙ ap (λ (now : Sets). outs_next (c.Self.Component.program c'.args.self.now) (c.Self.Component.kept c'.args.self.now) now) c'.in-Ok.ensures in
    subst (λ (some : Sets). AreChanges all (outs_still (c.Self.Component.program c'.args.self.now) (c.Self.Component.kept c'.args.self.now)) some) (sym is) (record { many = refl; only = λ output row has. has; new = λ output row has out. has })
