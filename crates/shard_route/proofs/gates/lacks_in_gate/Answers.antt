-- One output whose gate lacks the attribute is enough.
use Rattle.std.proofs.Common.{◌∙◌, ◌<◌, not, length, arith, sym}
use Rattle.blz_value.proofs.Ranges.{any_below as found_below}
use Rattle.bloom_forms.specs.Program.{output_columns}
use Rattle.bloom_forms.specs.Annotation.{gate_of_output}
use Rattle.shard_route.specs.Sharding.{has_attribute}
use Rattle.shard_route.proofs.Below.{none_below}
use Rattle.shard_route.proofs.gates.lacks_in_gate.Goals as goal

pub returns-then-lacks : goal.returns-then-lacks
returns-then-lacks c =
    let lt : c.loop-output.output < length (output_columns c.args.program.now) = omega arith in
    sym (found_below (λ output. not (has_attribute c.args.names.now c.args.column.now (gate_of_output c.args.names.now c.args.program.now output))) (length (output_columns c.args.program.now)) c.loop-output.output lt (sym c.in_ok-lacks.ensures ∙ c.if-lacks.true))

pub loop-output-preserved : goal.loop-output-preserved
loop-output-preserved c =
    none_below (λ output. not (has_attribute c.args.names.now c.args.column.now (gate_of_output c.args.names.now c.args.program.now output))) c.loop-output.output c.loop-output.invariant (sym c.in_ok-lacks.ensures ∙ c.if-lacks.false)
