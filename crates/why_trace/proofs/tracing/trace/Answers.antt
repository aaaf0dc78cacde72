use Rattle.std.proofs.Common.{[], map, subst}
use Rattle.topo_forms.specs.Data.{Data}
use Rattle.sched_net.specs.Net.{Stands}
use Rattle.why_trace.specs.Trim.{wanted, yields}
use Rattle.why_trace.proofs.KeptLemmas.{is_trim, kept_passes, kept_needs, kept_part}
use Rattle.why_trace.proofs.TrialLemmas.{kinds_back}
use Rattle.why_trace.proofs.tracing.trace.Goals as goal

pub trim-requires-clause-stands : goal.trim-requires-clause-stands
trim-requires-clause-stands g c =
    let net = c.in_ok-net.net in
    subst (λ (d : Data). Stands c.args.valid.now.view d [] (map (λ b. (goal.Component-dyn g (b.vtable, b.value)).program b.value) net.shells.items) (map (λ b. (goal.Component-dyn g (b.vtable, b.value)).kept b.value) net.shells.items) net.books) c.in_ok-copy.ensures c.in_ok-net.ensures.stands

pub returns-clause-kinds : goal.returns-clause-kinds
returns-clause-kinds g c =
    kinds_back (λ b. (goal.Component-dyn g (b.vtable, b.value)).kind b.value) (map (λ b. (goal.Component-dyn g (b.vtable, b.value)).kind b.value) c.args.bench.now.items)
    c.opened.new.bench.items c.close.new.bench.items c.in_ok-net.net.shells.items c.trim.new.net.shells.items c.in_ok-net.ensures.kinds c.trim.ensures.kinds c.in_ok-close.ensures.ok

pub returns-clause-trimmed : goal.returns-clause-trimmed
returns-clause-trimmed g c =
    let test = yields c.args.valid.now.view c.args.given.now (wanted c.args.stream c.args.replica c.args.row.now) in
    is_trim test c.args.schedule.now c.lines.result.now c.in_ok-lines.lines.items c.trim.new.lines.items c.from_lines.result c.from_lines.ensures c.in_ok-trim.ensures.lines c.in_ok-lines.ensures c.lines.ensures

pub returns-clause-yields : goal.returns-clause-yields
returns-clause-yields g c =
    let test = yields c.args.valid.now.view c.args.given.now (wanted c.args.stream c.args.replica c.args.row.now) in
    kept_passes test c.args.schedule.now c.lines.result.now c.in_ok-lines.lines.items c.trim.new.lines.items c.from_lines.result c.from_lines.ensures c.in_ok-trim.ensures.lines c.in_ok-lines.ensures c.lines.ensures c.requires.yields

pub returns-clause-needed : goal.returns-clause-needed
returns-clause-needed g c =
    let test = yields c.args.valid.now.view c.args.given.now (wanted c.args.stream c.args.replica c.args.row.now) in
    kept_needs test c.args.schedule.now c.lines.result.now c.in_ok-lines.lines.items c.trim.new.lines.items c.from_lines.result c.from_lines.ensures c.in_ok-trim.ensures.lines c.in_ok-lines.ensures c.lines.ensures

pub returns-clause-part : goal.returns-clause-part
returns-clause-part g c =
    let test = yields c.args.valid.now.view c.args.given.now (wanted c.args.stream c.args.replica c.args.row.now) in
    kept_part test c.args.schedule.now c.lines.result.now c.in_ok-lines.lines.items c.trim.new.lines.items c.from_lines.result c.from_lines.ensures c.in_ok-trim.ensures.lines c.in_ok-lines.ensures c.lines.ensures
