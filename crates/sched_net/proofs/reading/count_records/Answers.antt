use Rattle.std.proofs.Common.{◌≡◌, ◌<◌, ◌∙◌, false, true, length, slice_get, is_some, ap, arith, rules}
use Rattle.std.specs.Option.{option_map_or}
use Rattle.sched_net.specs.Code.Records.{is_record}
use Rattle.sched_net.proofs.ListPlaces.{record_at, counted_at}
use Rattle.sched_net.proofs.reading.count_records.Goals as goal
use Rattle.sched_net.proofs.reading.count_records.Goals.{then-is_some, else-is_some}

pub loop-index-preserved : goal.loop-index-preserved
loop-index-preserved c =
    let messages = c.args.messages.now in
    let index = c.loop-index.index in
    let within : index < length messages = omega (arith, c.loop-index-test.true, c.len-index-end.ensures) in
    let tells : c.is_some.result ≡ option_map_or is_record (slice_get messages index) false = c.is_some.ensures ∙ ap is_some c.row.ensures ∙ record_at (slice_get messages index) in
    elim c.if-is_some.branch [
      | then-is_some w ↦ record {
        count = (let passes : true ≡ c.is_some.result = search rules in counted_at is_record messages index true c.loop-index.count c.if-is_some.count within (passes ∙ tells) c.loop-index.invariant.count w.count-is);
        few = omega (arith, w.count-is, c.loop-index.invariant.few);
      }
      | else-is_some w ↦ record {
        count = (let fails : false ≡ c.is_some.result = search rules in counted_at is_record messages index false c.loop-index.count c.if-is_some.count within (fails ∙ tells) c.loop-index.invariant.count (omega (arith, w.count-is)));
        few = omega (arith, w.count-is, c.loop-index.invariant.few);
      }
    ]
