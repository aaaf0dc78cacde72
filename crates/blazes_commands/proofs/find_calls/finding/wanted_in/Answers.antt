use Rattle.std.proofs.Common.{◌∙◌, ◌<◌, Option, ap, refl, sym, subst}
use Rattle.std.specs.Option.{option_copied}
use Rattle.blz_value.specs.Record.{Row}
use Rattle.sched_net.specs.Net.{BooksRun, execution_in}
use Rattle.sched_net.specs.Reading.{IsRead}
use Rattle.topo_forms.specs.View.{View, stream_replicas}
use Rattle.blazes_words.specs.Requests.{why_shown}
use Rattle.command_checks.specs.Ran.{StopsAs}
use Rattle.blazes_commands.specs.Finds.Checks as check
use Rattle.blazes_commands.specs.declared.find_calls.finding.Wanted.{Wanted}
use Rattle.blazes_commands.proofs.Finds.LookedLemmas.{record_came, record_stops, sends_stream, stream_stops}
use Rattle.blazes_commands.proofs.find_calls.finding.wanted_in.Goals as goal

pub record_at-requires : goal.record_at-requires
record_at-requires g c = record { runs = subst (λ (w : View). BooksRun w c.args.net.now.books) (sym c.requires.same) c.requires.runs }

pub returns-in_err-stream : goal.returns-in_err-stream
returns-in_err-stream g c given steps stand =
    stream_stops c.args.valid.now.view given (execution_in stand) (why_shown c.args.words.now) c.from_residual.result c.in_err-stream.field-0.0 c.from_residual.ensures.1 c.in_err-stream.ensures

pub returns-in_err-row : goal.returns-in_err-row
returns-in_err-row g c given steps stand =
    let v = c.args.valid.now.view in
    let words = why_shown c.args.words.now in
    let stream = c.in_ok-stream.stream in
    let stop = c.in_err-row.field-0.0 in
    let sends = sends_stream v words.stream words.replica stream c.in_ok-stream.ensures in
    let read = subst (λ (w : View). IsRead w c.args.net.now.books (λ given x. check.record_at w given x stream words.replica words.index) (option_copied c.record_at.result)) c.requires.same
    (c.record_at.ensures.record (subst (λ (w : View). words.replica < stream_replicas w stream) (sym c.requires.same) sends)) given steps stand in
    record_stops v given (execution_in stand) words c.from_residual-in_err-row.result stream stop c.from_residual-in_err-row.ensures.1 c.in_ok-stream.ensures
    (subst (λ (found : Option Row). StopsAs stop (check.record_in found)) read c.in_err-row.ensures)

pub returns : goal.returns
returns g c given steps stand =
    let v = c.args.valid.now.view in
    let words = why_shown c.args.words.now in
    let stream = c.in_ok-stream.stream in
    let wanted : Wanted = record { stream = stream; replica = c.args.words.now.replica; row = c.in_ok-row.row } in
    let sends = sends_stream v words.stream words.replica stream c.in_ok-stream.ensures in
    let read = subst (λ (w : View). IsRead w c.args.net.now.books (λ given x. check.record_at w given x stream words.replica words.index) (option_copied c.record_at.result)) c.requires.same
    (c.record_at.ensures.record (subst (λ (w : View). words.replica < stream_replicas w stream) (sym c.requires.same) sends)) given steps stand in
    record_came v given (execution_in stand) words wanted refl c.in_ok-stream.ensures (ap check.record_in (sym read) ∙ c.in_ok-row.ensures)
