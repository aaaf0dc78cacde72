use Rattle.std.proofs.Common.{◌≡◌, ◌∙◌, arith, refl, length}
use Rattle.std.specs.List.{count_by}
use Rattle.std.proofs.lemmas.List.{get_or_read}
use Rattle.std.proofs.lemmas.List.Sums.{count_by-le-length}
use Rattle.messages.specs.Code.Tallies.{lacks_at}
use Rattle.messages.proofs.TalliesLemmas.{least-counted, moved_reads, seal_tallied, nothing_tallied}
use Rattle.messages.proofs.feeds.hear_seal_at.Goals as goal

pub moved-requires-clause-least : goal.moved-requires-clause-least
moved-requires-clause-least c =
    let counted : c.index-3.result.now ≡ count_by (lacks_at c.args.number) c.args.feeds.now.items = get_or_read c.args.lacking.now.items c.args.number c.index-3.result.now c.requires.number c.index-3.ensures 0 ∙ c.requires.lacks in
    least-counted (lacks_at c.args.number) c.args.feeds.now.items c.args.feed c.index.result.now c.lacks-was.result c.index-3.result.now c.requires.feed c.index.ensures c.lacks-was.ensures counted

pub moved-requires-clause-room : goal.moved-requires-clause-room
moved-requires-clause-room c =
    let counted : c.index-3.result.now ≡ count_by (lacks_at c.args.number) c.args.feeds.now.items = get_or_read c.args.lacking.now.items c.args.number c.index-3.result.now c.requires.number c.index-3.ensures 0 ∙ c.requires.lacks in
    let few = count_by-le-length (lacks_at c.args.number) c.args.feeds.now.items in
    let most = c.len-most.ensures in
    omega (arith, counted, few, most)

pub returns-clause-heard : goal.returns-clause-heard
returns-clause-heard c =
    let heard = c.in_ok-hear_seal.ensures in
    record { was = c.index_mut.result.now; now = c.hear_seal.new.self; feeds = refl; first = c.index_mut.ensures.value; port = heard.port; carries = heard.carries; known = heard.known; have = heard.have; need = heard.need }

pub returns-clause-tallied : goal.returns-clause-tallied
returns-clause-tallied c = λ carrying t.
    let feeds = c.args.feeds.now.items in
    let lacking = c.args.lacking.now.items in
    let heard = c.in_ok-hear_seal.ensures in
    let moved = moved_reads feeds lacking c.args.feed c.args.number c.moved.result c.index-3.result.now c.index_mut.result.now c.hear_seal.new.self c.index.result.now c.index-2.result.now c.lacks-was.result c.lacks-now.result
    c.requires.feed c.requires.number c.index_mut.ensures.value c.index.ensures c.index-2.ensures c.lacks-was.ensures c.lacks-now.ensures c.index-3.ensures c.moved.ensures in
    seal_tallied (length lacking) carrying feeds lacking t c.args.feed c.index_mut.result.now c.hear_seal.new.self c.requires.feed c.index_mut.ensures.value heard.carries (heard.few (length lacking) c.requires.number)
    c.args.number c.moved.result c.requires.number moved c.args.count heard.have heard.need

pub returns-in_err-hear_seal-clause-tallied : goal.returns-in_err-hear_seal-clause-tallied
returns-in_err-hear_seal-clause-tallied c = λ carrying t.
    let feeds = c.args.feeds.now.items in
    let lacking = c.args.lacking.now.items in
    let heard = c.in_err-hear_seal.ensures in
    nothing_tallied (length lacking) carrying feeds lacking t c.args.feed c.index_mut.result.now c.hear_seal.new.self c.requires.feed c.index_mut.ensures.value heard.carries (heard.few (length lacking) c.requires.number)
    heard.have heard.err
