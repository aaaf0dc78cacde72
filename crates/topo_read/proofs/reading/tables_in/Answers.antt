-- A turn of the loop finds one more table, and in the end there is none left.
use Rattle.std.proofs.Common.{List, [], ◌∷◌, map, ap, ◌∙◌, rules}
use Rattle.std.proofs.lemmas.List.{map-append}
use Rattle.toml.specs.Data.{as_table}
use Rattle.toml.specs.View.{table_view}
use Rattle.topo_read.proofs.Front.{one_more, none_left}
use Rattle.topo_read.proofs.reading.tables_in.Goals as goal

pub loop-value-preserved : goal.loop-value-preserved
loop-value-preserved c =
    one_more as_table (map (λ table. table_view table.now) c.loop-value.tables.items) (map (λ table. table_view table.now) c.push.new.self.items) (table_view c.in-Some.table.now) c.value-item.result c.args.values.now c.loop-value.value-index _ c.loop-value-test.true c.value-item.is (search rules)
    (ap (map (λ table. table_view table.now)) c.in_ok-push-in-Some.ensures.items ∙ map-append (λ table. table_view table.now) c.loop-value.tables.items (c.in-Some.table ∷ []))
    c.loop-value.invariant

pub returns : goal.returns
returns c = none_left as_table (map (λ table. table_view table.now) c.loop-value.tables.items) c.args.values.now c.loop-value.value-index _ c.loop-value-test.false c.loop-value.invariant
