use Rattle.std.proofs.Common.{◌≡◌, ◌≤◌, ◌<◌, ◌∙◌, ◌∷◌, [], List, length, true, ap, sym, subst, arith}
use Rattle.blz_pool.specs.Entries.{EntryId, entries_with_ids}
use Rattle.bloom_forms.specs.Step.{Sets, outputs_of}
use Rattle.bloom_eval.specs.Arrivals.{timestep_of}
use Rattle.bloom_eval.specs.Puts.{puts_in}
use Rattle.bloom_eval.specs.StepAnswers.{AllFit, counted_sets}
use Rattle.bloom_index.specs.Code.ByRows.{only_chooses}
use Rattle.bloom_index.specs.Code.Kept.{kept_tables}
use Rattle.bloom_index.proofs.Arriving.{lone_entry}
use Rattle.bloom_index.proofs.BodyLemmas.{kept_wide}
use Rattle.bloom_index.proofs.ByRowsLemmas.{none_kept, none_after, puts_all}
use Rattle.bloom_index.proofs.body.IndexBody.step_by_ids.Goals as goal

pub returns-in_err-put_by_rows-in-len1-clause-wide : goal.returns-in_err-put_by_rows-in-len1-clause-wide
returns-in_err-put_by_rows-in-len1-clause-wide c = kept_wide c.args.self.now.program c.args.self.now.parts c.args.self.now.stands

pub returns-in_ok-put_by_rows-in-len1-clause-kept : goal.returns-in_ok-put_by_rows-in-len1-clause-kept
returns-in_ok-put_by_rows-in-len1-clause-kept c =
    let a = c.args.self.now.program in
    let chosen : only_chooses a.form ≡ true = sym c.args.self.now.chosen ∙ c.if-self.true in
    let now = timestep_of c.args.ports (entries_with_ids c.args.pool.now c.args.entries.now) in
    none_kept a chosen c.args.self.now.parts ∙ sym (none_after a chosen (kept_tables a c.args.self.now.parts) now)

pub returns-in_ok-put_by_rows-in-len1-clause-outs : goal.returns-in_ok-put_by_rows-in-len1-clause-outs
returns-in_ok-put_by_rows-in-len1-clause-outs c =
    let a = c.args.self.now.program in
    let kept = kept_tables a c.args.self.now.parts in
    let chosen : only_chooses a.form ≡ true = sym c.args.self.now.chosen ∙ c.if-self.true in
    let least : 1 ≤ length c.args.entries.now = omega arith in
    let below : length c.args.entries.now < 2 = omega arith in
    let outs : puts_in c.args.pool.now c.put_by_rows.new.puts ≡ outputs_of a kept (timestep_of c.args.ports (entries_with_ids c.args.pool.now c.args.entries.now)) =
    c.in_ok-put_by_rows-in-len1.ensures.rows
    ∙ ap (λ (tables : Sets). outputs_of a tables (timestep_of c.args.ports (entries_with_ids c.args.pool.now (c.entry-item.result ∷ [])))) (sym (none_kept a chosen c.args.self.now.parts))
    ∙ ap (λ (l : List EntryId). outputs_of a kept (timestep_of c.args.ports (entries_with_ids c.args.pool.now l))) (sym (lone_entry c.args.entries.now c.entry-item.result least below c.entry-item.is)) in
    puts_all a kept (timestep_of c.args.ports (entries_with_ids c.args.pool.now c.args.entries.now)) (puts_in c.args.pool.now c.put_by_rows.new.puts) outs

pub returns-in_ok-put_by_rows-in-len1-clause-few : goal.returns-in_ok-put_by_rows-in-len1-clause-few
returns-in_ok-put_by_rows-in-len1-clause-few c =
    let a = c.args.self.now.program in
    let kept = kept_tables a c.args.self.now.parts in
    let chosen : only_chooses a.form ≡ true = sym c.args.self.now.chosen ∙ c.if-self.true in
    let least : 1 ≤ length c.args.entries.now = omega arith in
    let below : length c.args.entries.now < 2 = omega arith in
    subst (λ (l : List EntryId). AllFit (counted_sets a kept (timestep_of c.args.ports (entries_with_ids c.args.pool.now l)))) (sym (lone_entry c.args.entries.now c.entry-item.result least below c.entry-item.is))
    (subst (λ (tables : Sets). AllFit (counted_sets a tables (timestep_of c.args.ports (entries_with_ids c.args.pool.now (c.entry-item.result ∷ []))))) (sym (none_kept a chosen c.args.self.now.parts))
    c.in_ok-put_by_rows-in-len1.ensures.few)

pub returns-in_ok-put_by_rows-in-len1-clause-wide : goal.returns-in_ok-put_by_rows-in-len1-clause-wide
returns-in_ok-put_by_rows-in-len1-clause-wide c = kept_wide c.args.self.now.program c.args.self.now.parts c.args.self.now.stands
