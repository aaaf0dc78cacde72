use Rattle.std.proofs.Common.{◌∙◌, ◌-◌, List, length, arith, sym, subst}
use Rattle.why_trace.specs.Code.Aside.{IsAside}
use Rattle.why_trace.proofs.AsideLemmas.{whole_kept, brought_back}
use Rattle.why_trace.proofs.aside.set_back.Goals as goal

pub returns : goal.returns
returns g c = λ whole aside.
    let s = c.deref_mut.result.now in
    let place = c.args.place in
    let k = length s - place in
    let ys = c.rotate_right.new.self in
    let same = c.deref_mut.ensures in
    whole_kept place k c.args.items.now.len s ys c.args.items.now.items c.rotate_right.ensures.len same.len
    ∙ brought_back whole s ys place k (subst (λ (l : List _). IsAside whole place l) (sym same.value) aside) (omega arith) c.rotate_right.ensures.after
