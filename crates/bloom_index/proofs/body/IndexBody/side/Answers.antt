use Rattle.std.proofs.Common.{◌∙◌, Option, Some, List, length, ap, sym, subst, arith}
use Rattle.bloom_forms.specs.declared.program.Program.TheVariants.{Module}
use Rattle.bloom_forms.specs.ProgramStep.{empty_tables}
use Rattle.bloom_index.specs.declared.plan.Plan.{Plan}
use Rattle.bloom_index.specs.declared.step.Parts.{Parts}
use Rattle.bloom_index.specs.Sides.{side_rows}
use Rattle.bloom_index.specs.Code.Kept.{tables_in, held_over, kept_tables, PartsStand, KeptStands}
use Rattle.bloom_index.specs.Code.Plans.{rules_by}
use Rattle.bloom_index.specs.Code.SideParts.{NumberedSide, rules_sides, plans_sides, HasSide, IsSideAt}
use Rattle.bloom_index.proofs.BodyLemmas.{are_kept}
use Rattle.bloom_index.proofs.FreshLemmas.{no_tables, no_side_rows}
use Rattle.bloom_index.proofs.PlanRules.{rules_numbered, sides_by}
use Rattle.bloom_index.proofs.SideLemmas.{sides_counted, side_found}
use Rattle.bloom_index.proofs.body.IndexBody.side.Goals as goal

pub side_at-requires : goal.side_at-requires
side_at-requires c =
    let a = c.args.self.now.program in
    let cs = a.form.collections in
    let parts = c.in-Some.parts in
    let plans = parts.plans.items in
    let stands : PartsStand a parts = subst (KeptStands a) c.in-Some.is c.args.self.now.stands in
    let rules = rules_by cs a.form.rules plans in
    let own = ap (λ (sides : List NumberedSide). length sides) (sides_by cs parts.growing.items a.form.rules plans stands.numbered) in
    let lent = ap (λ (l : List Plan). length (plans_sides parts.growing.items l)) c.deref.ensures.value in
    record {
      growing = parts.growing.items;
      kept = are_kept a parts stands c.deref.result.now c.deref.ensures.value;
      within = omega (arith, c.requires, own, lent, sides_counted a c.module-written.ensures.checked parts.growing.items stands.growing rules (rules_numbered cs a.form.rules plans stands.numbered));
    }

pub returns-in-Some : goal.returns-in-Some
returns-in-Some c =
    let a = c.args.self.now.program in
    let cs = a.form.collections in
    let parts = c.in-Some.parts in
    let plans = parts.plans.items in
    let growing = parts.growing.items in
    let side = c.side_at.result.now in
    let tables = tables_in a parts.rows.items in
    let stands : PartsStand a parts = subst (KeptStands a) c.in-Some.is c.args.self.now.stands in
    let rules = rules_by cs a.form.rules plans in
    let numbered = rules_numbered cs a.form.rules plans stands.numbered in
    let all = sides_by cs growing a.form.rules plans stands.numbered in
    let own = ap (λ (sides : List NumberedSide). length sides) all in
    let lent = ap (λ (l : List Plan). plans_sides growing l) c.deref.ensures.value in
    let many = ap (λ (sides : List NumberedSide). length sides) lent in
    let has : HasSide c.deref.result.now c.args.side = record {
      growing = growing;
      kept = are_kept a parts stands c.deref.result.now c.deref.ensures.value;
      within = omega (arith, c.requires, own, many, sides_counted a c.module-written.ensures.checked growing stands.growing rules numbered);
    } in
    let found : IsSideAt (held_over a tables) (rules_sides growing rules) c.args.side side = subst (λ (sides : List NumberedSide). IsSideAt (held_over a tables) sides c.args.side side) (lent ∙ sym all) (c.side_at.ensures has) in
    c.at.ensures
    ∙ side_found a c.module-written.ensures.checked growing stands.growing rules numbered tables c.args.side side found c.args.key.now
    ∙ ap (λ (o : Option Parts). side_rows (Some (Module a)) (kept_tables a o) c.args.side c.args.key.now) (sym c.in-Some.is)

pub returns-in-None : goal.returns-in-None
returns-in-None c =
    let a = c.args.self.now.program in
    c.args.self.now.empty
    ∙ sym (no_side_rows a (empty_tables (Module a)) (no_tables a) c.args.side c.args.key.now)
    ∙ ap (λ (o : Option Parts). side_rows (Some (Module a)) (kept_tables a o) c.args.side c.args.key.now) (sym c.in-None.is)
