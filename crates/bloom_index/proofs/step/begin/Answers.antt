use Rattle.std.proofs.Common.{◌≡◌, ◌∙◌, [], false, length, sym, ap, subst, refl, arith}
use Rattle.std.proofs.lemmas.List.{get_or_read}
use Rattle.blz_set.specs.RecordSet.{IsRecordSet}
use Rattle.bloom_forms.specs.declared.module.Kind.TheVariants.{Input}
use Rattle.bloom_eval.specs.Begin.{place_after}
use Rattle.bloom_eval.proofs.Beginning.{place_more, place_within, place_after-le}
use Rattle.bloom_index.specs.Code.Arriving.{arrived_in}
use Rattle.bloom_index.specs.Code.StepSets.{AreBegunAt}
use Rattle.bloom_index.proofs.StepLoops.{none_begun, begun_more, begun_at_kind, all_known, known_more}
use Rattle.bloom_index.proofs.step.begin.Goals as goal

pub loop-i-init : goal.loop-i-init
loop-i-init c = record {
  port = refl;
  few = omega arith;
  within = omega arith;
  begun = none_begun c.args.collections.now c.args.parts.now.lasting.items (arrived_in c.args.now.now) c.in_ok-held.held.items c.in_ok-held.ensures.items;
  sets = λ k lt. absurd (omega (arith, lt));
}

pub begin_rows-rows-requires : goal.begin_rows-rows-requires
begin_rows-rows-requires c = λ is. omega (arith, place_within Input c.args.collections.now c.loop-i.i c.index-collections-i.result c.loop-i-test.true c.index-collections-i.is is, c.loop-i.invariant.port, c.requires.ports)

pub loop-i-preserved : goal.loop-i-preserved
loop-i-preserved c =
    let cs = c.args.collections.now in
    let lasting = c.args.parts.now.lasting.items in
    let rows = c.args.parts.now.rows.items in
    let now = (arrived_in c.args.now.now) in
    let i = c.loop-i.i in
    let item = c.index-collections-i.result in
    let inv = c.loop-i.invariant in
    record {
      port = c.next_port-port.ensures ∙ ap (place_after Input item.kind) inv.port ∙ sym (place_more Input cs i item c.loop-i-test.true c.index-collections-i.is);
      few = omega (arith, c.next_port-port.ensures, place_after-le Input item.kind c.loop-i.port i inv.few);
      within = omega (arith, c.loop-i-test.true);
      begun = begun_more cs lasting now i c.loop-i.held.items c.push_change.new.held.items _ c.in_ok-push_change.ensures.held (record {
        kept = get_or_read lasting i c.index-in-loop-i.result.now (omega (arith, c.loop-i-test.true, c.requires.lasting)) c.index-in-loop-i.ensures false;
        none_gone = c.new.ensures;
        rows = begun_at_kind cs now i c.loop-i.port item _ c.loop-i-test.true c.index-collections-i.is inv.port c.begin_rows-rows.ensures;
        set = c.in_ok-push_change.ensures.set;
      }) inv.begun;
      sets = known_more rows i inv.sets (subst IsRecordSet (get_or_read rows i c.index.result.now (omega (arith, c.loop-i-test.true, c.requires.rows)) c.index.ensures []) c.known.ensures);
    }

pub returns-clause-begun : goal.returns-clause-begun
returns-clause-begun c = subst (λ n. AreBegunAt c.args.collections.now c.args.parts.now.lasting.items (arrived_in c.args.now.now) n c.loop-i.held.items) (let e : c.loop-i.i ≡ length c.args.collections.now = omega (arith, c.loop-i-test.false, c.loop-i.invariant.within) in e) c.loop-i.invariant.begun

pub returns-clause-sets : goal.returns-clause-sets
returns-clause-sets c = all_known c.args.parts.now.rows.items c.loop-i.i (omega (arith, c.loop-i-test.false, c.requires.rows)) c.loop-i.invariant.sets
