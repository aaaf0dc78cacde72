use Rattle.std.proofs.Common.{◌≡◌, ◌∙◌, ◌<◌, ap, arith, rules, length, get_or, List}
use Rattle.std.specs.Ordering.{is_eq}
use Rattle.std.proofs.lemmas.Bool.{le-ltb}
use Rattle.blz_value.specs.Operators.{cells}
use Rattle.blz_set.specs.declared.entry.Entry.{Entry}
use Rattle.blz_set.specs.Code.Entry.{entry_key}
use Rattle.blz_set.proofs.Runs.{compared, start_tells, none_starts}
use Rattle.blz_set.proofs.index.Index.has_run.Goals as goal

pub returns-then-start-entries : goal.returns-then-start-entries
returns-then-start-entries c =
    let index = c.args.self.now in
    let columns = index.columns.now in
    let entries = index.entries.items in
    let key = cells c.args.row_columns.now c.args.row.now in
    let first = c.index-entries-start.result in
    let below : c.start-start.result < length entries = omega (arith, ap length c.as_slice-entries.ensures.value) in
    let is = c.index-entries-start.is ∙ ap (λ (l : List Entry). get_or l c.start-start.result first) c.as_slice-entries.ensures.value in
    let order = compared columns entries index.have_keys c.start-start.result first below is key (entry_key c.args.row_columns.now c.new-wanted.result) c.new-wanted.ensures.key c.compare.result c.compare.ensures in
    let told : c.is_eq.result ≡ is_eq c.compare.result = search rules in
    told ∙ ap is_eq order ∙ start_tells columns key entries index.in_order c.start-start.result c.start-start.ensures.start first below is

pub returns-else-start-entries : goal.returns-else-start-entries
returns-else-start-entries c =
    let index = c.args.self.now in
    let key = cells c.args.row_columns.now c.args.row.now in
    le-ltb c.start-start.result (length c.as_slice-entries.result.now) c.if-start-entries.false
    ∙ none_starts index.columns.now key index.entries.items index.in_order c.start-start.result c.start-start.ensures.start (omega (arith, ap length c.as_slice-entries.ensures.value))
