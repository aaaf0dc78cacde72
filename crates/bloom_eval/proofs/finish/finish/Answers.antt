use Rattle.std.proofs.Common.{◌∙◌, arith}
use Rattle.std.proofs.lemmas.List.{length-map}
use Rattle.bloom_forms.specs.declared.module.Kind.TheVariants.{Output, Table}
use Rattle.bloom_eval.specs.Code.Held.{rows_in, sets_in}
use Rattle.bloom_eval.proofs.Ending.{many_held, later_held, more_placed, all_placed}
use Rattle.bloom_eval.proofs.finish.finish.Goals as goal

pub take_rows-rows-requires : goal.take_rows-rows-requires
take_rows-rows-requires c = omega (arith, c.loop-i.invariant.many, c.loop-i-test.true)

pub loop-i-preserved : goal.loop-i-preserved
loop-i-preserved c =
    let cs = c.args.collections.now in
    let start = sets_in c.args.held.items in
    let i = c.loop-i.i in
    let item = c.index-collections-i.result in
    let many = length-map c.args.held.items rows_in ∙ c.requires in
    let own = c.take_rows-rows.ensures.taken ∙ c.loop-i.invariant.later i (omega arith) in
    record {
      many = many_held c.loop-i.held.items c.take_rows-rows.new.held.items i c.take_rows-rows.ensures.left ∙ c.loop-i.invariant.many;
      later = later_held (sets_in c.loop-i.held.items) (sets_in c.take_rows-rows.new.held.items) start i c.take_rows-rows.ensures.left c.loop-i.invariant.later;
      tables = more_placed Table cs start c.loop-i.tables.items c.place_set.new.tables.items i item (rows_in c.take_rows-rows.result) c.loop-i-test.true c.index-collections-i.is many own c.in_ok-place_set.ensures.tables c.loop-i.invariant.tables;
      outs = more_placed Output cs start c.loop-i.outs.items c.place_set.new.outs.items i item (rows_in c.take_rows-rows.result) c.loop-i-test.true c.index-collections-i.is many own c.in_ok-place_set.ensures.outs c.loop-i.invariant.outs;
    }

pub returns-clause-tables : goal.returns-clause-tables
returns-clause-tables c = c.from_sets.ensures ∙ all_placed Table c.args.collections.now (sets_in c.args.held.items) c.loop-i.tables.items c.loop-i.i c.loop-i-test.false c.loop-i.invariant.tables

pub returns-clause-outs : goal.returns-clause-outs
returns-clause-outs c = c.from_sets-2.ensures ∙ all_placed Output c.args.collections.now (sets_in c.args.held.items) c.loop-i.outs.items c.loop-i.i c.loop-i-test.false c.loop-i.invariant.outs
