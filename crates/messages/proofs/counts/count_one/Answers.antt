use Rattle.std.proofs.Common.{◌≡◌, ◌+◌, ◌∙◌, ℕ, List, Some, cond, ap, sym, rules, false}
use Rattle.std.specs.BTreeMap.{is_at}
use Rattle.std.specs.Map.{lookup}
use Rattle.blz_value.specs.Record.{Row, record_cmp}
use Rattle.messages.proofs.CountsLemmas.{count_more}
use Rattle.messages.proofs.counts.count_one.Goals as goal

pub returns : goal.returns
returns c =
    let no : c.is_again.result ≡ false = search rules in
    let key = c.args.key in
    let same = c.is_again.ensures.same no in
    λ k. count_more c.args.counts.now c.insert.new.self key 1
    (λ q. c.in_ok-insert.ensures.updates.0 q ∙ ap (λ (es : List (Row × ℕ)). cond (is_at (record_cmp key) q) (Some 1) (lookup (is_at (record_cmp q)) es)) same)
    (ap (λ n. n + 1) (sym (c.is_again.ensures.none no))) k
