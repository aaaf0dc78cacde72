use Rattle.std.proofs.Common.{◌≡◌, ◌∙◌, ◌<◌, ◌&&◌, Some, ap, arith, get_or, length, nat_eq, sym}
use Rattle.std.proofs.lemmas.Bool.{lt-ltb}
use Rattle.std.proofs.lemmas.List.{get_or_read}
use Rattle.blz_pool.specs.Pool.{number_of}
use Rattle.messages.proofs.PartitionNumbers.{number_at}
use Rattle.messages.proofs.TalliesLemmas.{whole_known}
use Rattle.messages.proofs.feeds.Feeds.is_whole.Goals as goal

pub returns-then-self-gt0 : goal.returns-then-self-gt0
returns-then-self-gt0 c = λ key has.
    let f = c.args.self.now in
    let number = c.args.number in
    let found : number_of f.keys.keys key ≡ Some number = number_at f.keys.keys key number c.len-count.ensures.unique has in
    let within : number < length f.keys.keys = c.requires in
    let long : length f.lacking.items ≡ length f.keys.keys = f.tallied.as_long in
    let read : c.index.result.now ≡ get_or f.lacking.items number 0 = get_or_read f.lacking.items number c.index.result.now (omega (arith, within, long)) c.index.ensures 0 in
    ap (λ n. nat_eq n 0) read
    ∙ sym (whole_known f.ports.items f.feeds.items f.keys.keys f.carrying f.lacking.items f.tallied key number found within
    ∙ ap (λ b. b && nat_eq (get_or f.lacking.items number 0) 0) (lt-ltb 0 f.carrying c.if-self-gt0.true))
