use Rattle.std.proofs.Common.{Some, ◌∙◌, sym, ap, arith}
use Rattle.bloom_forms.specs.declared.module.Kind.TheVariants.{Input, Table}
use Rattle.bloom_forms.specs.Kinds.{place_in_kind}
use Rattle.bloom_forms.specs.Step.{set_at, begun}
use Rattle.bloom_eval.specs.Code.Held.{sets_in}
use Rattle.bloom_eval.specs.Begin.{place_after}
use Rattle.bloom_eval.proofs.Beginning.{place_more, place_within, place_after-le, later_left, still_left, begun_more}
use Rattle.bloom_eval.proofs.begin.begin.Goals as goal

pub begin_set-requires-clause-table : goal.begin_set-requires-clause-table
begin_set-requires-clause-table c =
    λ is. omega (arith, place_within Table c.args.collections.now c.loop-collection.collection-index c.collection-item.result c.loop-collection-test.true c.collection-item.is is, c.loop-collection.invariant.tables, c.loop-collection.invariant.left.many, c.requires.tables)

pub begin_set-requires-clause-port : goal.begin_set-requires-clause-port
begin_set-requires-clause-port c =
    λ is. omega (arith, place_within Input c.args.collections.now c.loop-collection.collection-index c.collection-item.result c.loop-collection-test.true c.collection-item.is is, c.loop-collection.invariant.ports, c.requires.ports)

pub loop-collection-preserved : goal.loop-collection-preserved
loop-collection-preserved c =
    let cs = c.args.collections.now in
    let i = c.loop-collection.collection-index in
    let item = c.collection-item.result in
    let old = c.loop-collection.kept in
    let table = c.loop-collection.invariant.tables in
    let port = c.loop-collection.invariant.ports in
    record {
      tables = c.turn-table.ensures ∙ ap (place_after Table item.kind) table ∙ sym (place_more Table cs i item c.loop-collection-test.true c.collection-item.is);
      ports = c.turn-port.ensures ∙ ap (place_after Input item.kind) port ∙ sym (place_more Input cs i item c.loop-collection-test.true c.collection-item.is);
      begun =
          ap sets_in c.in_ok-push.ensures.items
          ∙ begun_more cs c.args.kept.now c.args.now.now c.loop-collection.held.items c.begin_set.result i item old c.loop-collection-test.true c.collection-item.is c.loop-collection.invariant.begun
          (c.begin_set.ensures.rows ∙ (λ j. begun (Some item.kind) (set_at old (table j)) (set_at c.args.now.now (port j))))
          (c.loop-collection.invariant.later (place_in_kind Table cs i) (omega (arith, table)));
      few_tables = omega (arith, c.turn-table.ensures, place_after-le Table item.kind c.loop-collection.table i c.loop-collection.invariant.few_tables);
      few_ports = omega (arith, c.turn-port.ensures, place_after-le Input item.kind c.loop-collection.port i c.loop-collection.invariant.few_ports);
      later = λ k le. later_left item.kind old c.begin_set.new.kept c.args.kept.now c.loop-collection.table c.begin_set.ensures.left c.loop-collection.invariant.later k (omega (arith, c.turn-table.ensures, le));
      left = still_left item.kind old c.begin_set.new.kept c.args.kept.now c.loop-collection.table c.begin_set.ensures.left (λ is. omega (arith, place_within Table cs i item c.loop-collection-test.true c.collection-item.is is, table, c.loop-collection.invariant.left.many, c.requires.tables)) c.loop-collection.invariant.left;
    }
