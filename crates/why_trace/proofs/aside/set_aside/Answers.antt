use Rattle.std.proofs.Common.{◌∙◌, ◌-◌, ◌++◌, ◌∷◌, [], List, length, get_or, ap, arith}
use Rattle.std.specs.List.{remove}
use Rattle.std.proofs.lemmas.Slice.{put_mid-rotated}
use borrow.Rule.Slice.PartMut.{same_len_mid}
use Rattle.why_trace.proofs.AsideLemmas.{whole_kept}
use Rattle.why_trace.proofs.aside.set_aside.Goals as goal

pub returns : goal.returns
returns g c =
    let s = c.deref_mut.result.now in
    let place = c.args.place in
    let k = length s - place in
    let ys = c.rotate_left.new.self in
    let same = c.deref_mut.ensures in
    let kept = whole_kept place k c.args.items.now.len s ys c.args.items.now.items c.rotate_left.ensures.len same.len in
    record {
      aside = record {
        there = c.requires;
        is = λ d.
            kept ∙ put_mid-rotated place k s ys d (omega arith) (omega arith) c.rotate_left.ensures.after
            ∙ ap (λ (l : List _). remove l place ++ get_or l place d ∷ []) same.value;
      };
      as_many = ap length kept ∙ same_len_mid place k s ys c.rotate_left.ensures.len ∙ ap length same.value;
    }
