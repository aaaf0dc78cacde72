use Rattle.std.proofs.Math.Seq.{map-set_same}
use Rattle.messages.specs.Lists.{read_lists}
use Rattle.inbox.specs.SetOffs.{set_off_read}
use Rattle.inbox.specs.Limits.{too_many_rows, too_many_messages}
use Rattle.inbox.proofs.EmittingPlaces.{emits_there, meets_there}
use Rattle.inbox.proofs.running.emit_at.Goals as goal

pub returns-clause-kinds : goal.returns-clause-kinds
returns-clause-kinds g c =
    map-set_same (λ b. (goal.Component-dyn g (b.vtable, b.value)).kind b.value) c.args.shells.now.items c.args.place c.emit_set_off.new.shell c.index_mut.result.now
    (rw (← c.index_mut.ensures.value) c.emit_set_off.ensures.kind)

pub returns-clause-loaded : goal.returns-clause-loaded
returns-clause-loaded g c =
    map-set_same (λ b. (goal.Component-dyn g (b.vtable, b.value)).program b.value) c.args.shells.now.items c.args.place c.emit_set_off.new.shell c.index_mut.result.now
    (rw (← c.index_mut.ensures.value) c.emit_set_off.ensures.loaded)

pub returns-clause-ok : goal.returns-clause-ok
returns-clause-ok g c =
    emits_there (λ b. (goal.Component-dyn g (b.vtable, b.value)).program b.value) (λ b. (goal.Component-dyn g (b.vtable, b.value)).kept b.value) c.args.shells.now.items c.args.place c.index_mut.result.now c.emit_set_off.new.shell c.args.outlets.now (read_lists c.args.lists.now) (read_lists c.emit_set_off.new.lists) (set_off_read c.args.lists.now.records c.args.set.now) c.emit_set_off.result
    c.requires.place c.index_mut.ensures.value c.emit_set_off.ensures.ok

pub returns-clause-rows : goal.returns-clause-rows
returns-clause-rows g c e =
    meets_there too_many_rows (λ b. (goal.Component-dyn g (b.vtable, b.value)).program b.value) (λ b. (goal.Component-dyn g (b.vtable, b.value)).kept b.value) c.args.shells.now.items c.args.place c.index_mut.result.now c.args.outlets.now (read_lists c.args.lists.now) (set_off_read c.args.lists.now.records c.args.set.now)
    c.requires.place c.index_mut.ensures.value (c.emit_set_off.ensures.rows e)

pub returns-clause-messages : goal.returns-clause-messages
returns-clause-messages g c e =
    meets_there too_many_messages (λ b. (goal.Component-dyn g (b.vtable, b.value)).program b.value) (λ b. (goal.Component-dyn g (b.vtable, b.value)).kept b.value) c.args.shells.now.items c.args.place c.index_mut.result.now c.args.outlets.now (read_lists c.args.lists.now) (set_off_read c.args.lists.now.records c.args.set.now)
    c.requires.place c.index_mut.ensures.value (c.emit_set_off.ensures.messages e)
