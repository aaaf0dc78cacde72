use Rattle.std.proofs.Common.{arith, sym, ◌∙◌}
use Rattle.topo_types.proofs.Faults.SizeLemmas.{found, passed, tested, attributes_next, replicas_next}
use Rattle.topo_types.proofs.validity.too_many.first_large_component.Goals as goal

pub returns-then-branch-clause-place : goal.returns-then-branch-clause-place
returns-then-branch-clause-place c =
    let sources = c.args.sources.now in
    let sites = c.args.sites.now in
    let i = c.loop-number.number in
    let x = c.index-sites-number.result in
    let inv = c.loop-number.invariant in
    let large = sym (tested sources sites i x c.loop-number-test.true c.index-sites-number.is c.loop-number.names c.loop-number.replicas inv.1 inv.3) ∙ sym c.in_ok-is_large_component.ensures.large ∙ c.if-branch.true in
    found sources sites i x c.loop-number-test.true c.index-sites-number.is _ large inv.0

pub loop-number-preserved : goal.loop-number-preserved
loop-number-preserved c =
    let sources = c.args.sources.now in
    let sites = c.args.sites.now in
    let i = c.loop-number.number in
    let x = c.index-sites-number.result in
    let inv = c.loop-number.invariant in
    let fits = c.in_ok-is_large_component.ensures in
    let small = sym (tested sources sites i x c.loop-number-test.true c.index-sites-number.is c.loop-number.names c.loop-number.replicas inv.1 inv.3) ∙ sym fits.large ∙ c.if-branch.false in
    let names = attributes_next sources sites i x c.loop-number-test.true c.index-sites-number.is c.loop-number.names c.is_large_component.new.names inv.1 (fits.added c.if-branch.false) in (
      passed sources sites i x c.loop-number-test.true c.index-sites-number.is _ small inv.0,
      names,
      fits.names c.if-branch.false,
      replicas_next sources sites i x c.loop-number-test.true c.index-sites-number.is c.loop-number.replicas c.replicas_of-replicas.result inv.3 c.replicas_of-replicas.ensures,
      (let room = fits.room c.if-branch.false in let count = c.replicas_of-replicas.ensures in omega (arith, room, count)),
      (let other = fits.other c.if-branch.false in omega (arith, inv.5, other)),
    )
