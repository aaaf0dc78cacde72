use Rattle.std.proofs.Common.{◌∙◌, ◌<◌, List, ap, subst, sym}
use Rattle.blz_value.specs.Record.{Row}
use Rattle.messages.specs.Lists.{message_limit, total}
use Rattle.inbox.specs.Outlets.{seal_outlets}
use Rattle.std.specs.List.{All}
use Rattle.inbox.proofs.Lists.Growing.{continues_on}
use Rattle.messages.specs.Lists.{read_lists}
use Rattle.messages.specs.declared.fault.EventFault.TheVariants.{TooManyMessages}
use Rattle.messages.proofs.FaultLemmas.{came_from}
use Rattle.messages.proofs.ListsLemmas.{few_read}
use Rattle.inbox.specs.SetOffs.{set_off_read}
use Rattle.inbox.proofs.OutletsLemmas.{others_stay_on, others_are_sealed}
use Rattle.inbox.proofs.SettingOff.{emits_all, seals_meet, first_rows, first_messages, first_legal}
use Rattle.inbox.proofs.running.emit_set_off.Goals as goal

pub returns-in_err-go_through-clause-rows : goal.returns-in_err-go_through-clause-rows
returns-in_err-go_through-clause-rows g c e =
    first_rows c.from_residual.result c.in_err-go_through.field-0.0 ((goal.Component-dyn g (c.args.shell.now.vtable, c.args.shell.now.value)).program c.args.shell.now.value) c.args.outlets.now ((goal.Component-dyn g (c.args.shell.now.vtable, c.args.shell.now.value)).kept c.args.shell.now.value) (read_lists c.args.lists.now) (set_off_read c.args.lists.now.records c.args.set.now) c.from_residual.ensures.1 c.in_err-go_through.ensures.fault e

pub returns-in_err-go_through-clause-messages : goal.returns-in_err-go_through-clause-messages
returns-in_err-go_through-clause-messages g c e =
    first_messages c.from_residual.result c.in_err-go_through.field-0.0 ((goal.Component-dyn g (c.args.shell.now.vtable, c.args.shell.now.value)).program c.args.shell.now.value) c.args.outlets.now ((goal.Component-dyn g (c.args.shell.now.vtable, c.args.shell.now.value)).kept c.args.shell.now.value) (read_lists c.args.lists.now) (set_off_read c.args.lists.now.records c.args.set.now) c.from_residual.ensures.1 c.in_err-go_through.ensures.fault e

pub returns-in_err-go_through-clause-legal : goal.returns-in_err-go_through-clause-legal
returns-in_err-go_through-clause-legal g c =
    first_legal c.from_residual.result c.in_err-go_through.field-0.0 ((goal.Component-dyn g (c.args.shell.now.vtable, c.args.shell.now.value)).program c.args.shell.now.value) c.args.outlets.now ((goal.Component-dyn g (c.args.shell.now.vtable, c.args.shell.now.value)).kept c.args.shell.now.value) (read_lists c.args.lists.now) (set_off_read c.args.lists.now.records c.args.set.now) c.from_residual.ensures.1 c.in_err-go_through.ensures.fault

pub emit_seals-requires-clause-places : goal.emit_seals-requires-clause-places
emit_seals-requires-clause-places g c = subst (λ n. All (λ o. o.place < n) c.args.outlets.now) (sym c.in_ok-go_through.ensures.ok.count) c.requires.places

pub emit_seals-requires-clause-exact : goal.emit_seals-requires-clause-exact
emit_seals-requires-clause-exact g c = c.in_ok-go_through.ensures.ok.exact

pub returns-in_err-emit_seals-clause-messages : goal.returns-in_err-emit_seals-clause-messages
returns-in_err-emit_seals-clause-messages g c e =
    seals_meet ((goal.Component-dyn g (c.args.shell.now.vtable, c.args.shell.now.value)).program c.args.shell.now.value) c.args.outlets.now ((goal.Component-dyn g (c.args.shell.now.vtable, c.args.shell.now.value)).kept c.args.shell.now.value) ((goal.Component-dyn g (c.go_through.new.shell.vtable, c.go_through.new.shell.value)).kept c.go_through.new.shell.value) (read_lists c.args.lists.now) (read_lists c.go_through.new.lists) (set_off_read c.args.lists.now.records c.args.set.now)
    c.in_ok-go_through.ensures.ok.goes
    (subst (λ (keys : List Row). message_limit < total (seal_outlets c.args.outlets.now keys (read_lists c.go_through.new.lists))) c.as_slice.ensures (c.emit_seals.ensures.too_many (came_from c.from_residual-in_err-emit_seals.result c.emit_seals.result c.in_err-emit_seals.field-0.0 TooManyMessages c.from_residual-in_err-emit_seals.ensures.1 c.in_err-emit_seals.was e)))

pub returns-clause-ok : goal.returns-clause-ok
returns-clause-ok g c =
    emits_all ((goal.Component-dyn g (c.args.shell.now.vtable, c.args.shell.now.value)).program c.args.shell.now.value) c.args.outlets.now ((goal.Component-dyn g (c.args.shell.now.vtable, c.args.shell.now.value)).kept c.args.shell.now.value) ((goal.Component-dyn g (c.go_through.new.shell.vtable, c.go_through.new.shell.value)).kept c.go_through.new.shell.value) (read_lists c.args.lists.now) (read_lists c.go_through.new.lists) (read_lists c.emit_seals.new.lists) (set_off_read c.args.lists.now.records c.args.set.now)
    c.in_ok-go_through.ensures.ok.goes (c.in_ok-emit_seals.ensures.ok ∙ ap (λ keys. seal_outlets c.args.outlets.now keys (read_lists c.go_through.new.lists)) c.as_slice.ensures) (few_read c.emit_seals.new.lists c.in_ok-emit_seals.ensures.few)

pub returns-clause-records : goal.returns-clause-records
returns-clause-records g c = continues_on c.args.lists.now.records c.go_through.new.lists.records c.emit_seals.new.lists.records c.in_ok-go_through.ensures.ok.records c.in_ok-emit_seals.ensures.records

pub returns-clause-others : goal.returns-clause-others
returns-clause-others g c =
    others_stay_on c.args.outlets.now (read_lists c.args.lists.now) (read_lists c.go_through.new.lists) (read_lists c.emit_seals.new.lists) c.in_ok-go_through.ensures.ok.others
    (others_are_sealed c.args.outlets.now c.as_slice.result.now (read_lists c.go_through.new.lists) (read_lists c.emit_seals.new.lists) c.in_ok-emit_seals.ensures.ok)

pub returns-clause-count : goal.returns-clause-count
returns-clause-count g c = c.in_ok-emit_seals.ensures.count ∙ c.in_ok-go_through.ensures.ok.count
