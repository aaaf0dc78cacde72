use Rattle.topo_types.proofs.Columns.Growing.{full_at_name, place_of_new}
use Rattle.topo_types.proofs.validity.too_many.add_columns.Goals as goal

pub returns-in-Err-Full-clause-fit : goal.returns-in-Err-Full-clause-fit
returns-in-Err-Full-clause-fit c =
    let full = c.add.ensures.full.0 (cc) in
    full_at_name _ _ _ _ _ c.loop-column.invariant.0 c.loop-column-test.true c.column-item.is (place_of_new c.loop-column.names c.column-item.result full.1) full.0
