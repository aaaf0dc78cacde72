use Rattle.std.proofs.Common.{◌≡◌, ◌∙◌, ◌++◌, ◌∷◌, [], None, Some, ap, arith, inl, inr, length, length-append, refl, rules, sym}
use Rattle.blz_pool.specs.Pool.{number_of}
use Rattle.blz_pool.proofs.Records.{number_of-index, number_of-last, insert_key-new}
use Rattle.blz_value.specs.Record.{Row}
use Rattle.messages.proofs.feeds.number_for.Goals as goal

pub returns-in-Some-clause-number : goal.returns-in-Some-clause-number
returns-in-Some-clause-number c =
    let found : number_of c.args.keys.now.keys c.args.key.now ≡ Some c.in-Some.number = (let is = number_of-index c.args.keys.now.keys c.args.key.now in search rules) in
    record { found = found; within = c.in-Some.ensures.within; grown = inl (refl, refl) }

pub returns-in-Ok-clause-number : goal.returns-in-Ok-clause-number
returns-in-Ok-clause-number c =
    let keys = c.args.keys.now.keys in
    let key = c.args.key.now in
    let own = c.in_ok-own.own in
    let copied : own ≡ key = c.in_ok-own.ensures in
    let none : number_of keys key ≡ None = (let is = number_of-index keys key in search rules) in
    let more : c.insert.new.self.keys ≡ keys ++ key ∷ [] = c.in-Ok.ensures.keys ∙ insert_key-new keys own (ap (number_of keys) copied ∙ none) ∙ ap (λ (k : Row). keys ++ k ∷ []) copied in
    let number : c.len-number.result ≡ length keys = c.len-number.ensures.len in
    let long = ap length more in
    let one = length-append keys (key ∷ []) in
    record {
      found = ap (λ ks. number_of ks key) more ∙ number_of-last keys key none ∙ ap Some (sym number);
      within = omega (arith, number, long, one);
      grown = inr (none, more, c.in_ok-push.ensures.items);
    }
