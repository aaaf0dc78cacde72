use Rattle.std.proofs.Common.{◌∙◌, ◌<◌, ◌^◌, ap, map, refl, sym, subst, length, arith}
use Rattle.sched_turns.specs.Windows.{Looked}
use Rattle.sched_run.specs.Code.Works.{AreSizesWith, AreWindowsOn}
use Rattle.sched_run.proofs.LanesThere.{lanes_there, takers_there}
use Rattle.sched_run.proofs.WorksLemmas.{first_works, first_shown, sizes_fit, taken_few}
use Rattle.sched_run.proofs.works.Works.of.Goals as goal

pub windows_of-requires-clause-lanes : goal.windows_of-requires-clause-lanes
windows_of-requires-clause-lanes c =
    lanes_there c.args.valid.now.view c.as_slice.result.now c.known.ensures (c.as_slice.ensures.value ∙ c.in_ok-lanes.ensures)

pub push_takes-requires-clause-takers : goal.push_takes-requires-clause-takers
push_takes-requires-clause-takers c =
    takers_there c.args.valid.now.view c.as_slice-3.result.now c.known.ensures (c.as_slice-3.ensures.value ∙ c.in_ok-takers.ensures)

pub of-requires : goal.of-requires
of-requires c =
    let few : length c.push_takes.new.sizes.items < 2 ^ 32 = taken_few c.try_from.result c.len.result (length c.push_takes.new.sizes.items) c.try_from.ensures (sym c.is_err.ensures.value ∙ c.if-is_err.false) (omega (arith, c.len.ensures)) in
    sizes_fit c.args.valid.now.view c.args.books.now c.in_ok-lanes.lanes.items c.in_ok-takers.takers.items c.in_ok-windows.windows.items c.in_ok-sizes.sizes.items c.push_takes.new.sizes.items c.requires
    (subst (λ on. AreWindowsOn c.args.valid.now.view c.args.books.now on c.in_ok-windows.windows.items) c.as_slice.ensures.value c.in_ok-windows.ensures)
    (c.in_ok-sizes.ensures ∙ ap (map (λ (window : Looked). length window.places)) c.as_slice-2.ensures.value)
    (subst (λ who. AreSizesWith c.args.valid.now.view c.args.books.now c.in_ok-sizes.sizes.items who c.push_takes.new.sizes.items) c.as_slice-3.ensures.value c.in_ok-push_takes.ensures)
    few

pub returns-clause-works : goal.returns-clause-works
returns-clause-works c =
    let few : length c.push_takes.new.sizes.items < 2 ^ 32 = taken_few c.try_from.result c.len.result (length c.push_takes.new.sizes.items) c.try_from.ensures (sym c.is_err.ensures.value ∙ c.if-is_err.false) (omega (arith, c.len.ensures)) in
    first_works c.args.valid.now.view c.args.books.now c.in_ok-lanes.lanes.items c.in_ok-takers.takers.items c.in_ok-windows.windows.items c.in_ok-sizes.sizes.items c.push_takes.new.sizes.items c.requires
    (subst (λ on. AreWindowsOn c.args.valid.now.view c.args.books.now on c.in_ok-windows.windows.items) c.as_slice.ensures.value c.in_ok-windows.ensures)
    (c.in_ok-sizes.ensures ∙ ap (map (λ (window : Looked). length window.places)) c.as_slice-2.ensures.value)
    (subst (λ who. AreSizesWith c.args.valid.now.view c.args.books.now c.in_ok-sizes.sizes.items who c.push_takes.new.sizes.items) c.as_slice-3.ensures.value c.in_ok-push_takes.ensures)
    few _ c.in_ok-lanes.ensures c.in_ok-takers.ensures refl refl refl c.in_ok-of.ensures

pub returns-clause-shown : goal.returns-clause-shown
returns-clause-shown c =
    let few : length c.push_takes.new.sizes.items < 2 ^ 32 = taken_few c.try_from.result c.len.result (length c.push_takes.new.sizes.items) c.try_from.ensures (sym c.is_err.ensures.value ∙ c.if-is_err.false) (omega (arith, c.len.ensures)) in
    first_shown c.args.valid.now.view c.args.books.now c.in_ok-lanes.lanes.items c.in_ok-takers.takers.items c.in_ok-windows.windows.items c.in_ok-sizes.sizes.items c.push_takes.new.sizes.items c.requires
    (subst (λ on. AreWindowsOn c.args.valid.now.view c.args.books.now on c.in_ok-windows.windows.items) c.as_slice.ensures.value c.in_ok-windows.ensures)
    (c.in_ok-sizes.ensures ∙ ap (map (λ (window : Looked). length window.places)) c.as_slice-2.ensures.value)
    (subst (λ who. AreSizesWith c.args.valid.now.view c.args.books.now c.in_ok-sizes.sizes.items who c.push_takes.new.sizes.items) c.as_slice-3.ensures.value c.in_ok-push_takes.ensures)
    few (record { lanes = c.in_ok-lanes.lanes; takers = c.in_ok-takers.takers; windows = c.in_ok-windows.windows; sizes = c.in_ok-of.field-0 }) refl refl refl c.in_ok-of.ensures
