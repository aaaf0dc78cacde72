use Rattle.std.proofs.Common.{◌≡◌, ◌∙◌, ◌++◌, List, sym, ap, subst}
use Rattle.std.proofs.lemmas.List.{append-nil}
use Rattle.std.specs.BTreeMap.{keys}
use Rattle.blz_value.specs.Record.{Row}
use Rattle.blz_value.specs.Sets.{set_of}
use Rattle.blz_value.proofs.RowSets.{set_of-sorted}
use Rattle.blz_value.proofs.SetLaws.{sorted_set_of}
use Rattle.blz_set.specs.Answers.{Gives}
use Rattle.bloom_growth.proofs.BagsLemmas.{keys_are}
use Rattle.bloom_growth.proofs.bag.Bag.to_set.Goals as goal

pub returns : goal.returns
returns c = λ rows is.
    let counts = c.args.self.now.counts in
    let all : c.loop-row.rows.items ≡ keys counts = sym (append-nil c.loop-row.rows.items) ∙ ap (λ (l : List Row). c.loop-row.rows.items ++ l) (sym c.in-None.ensures.steps.0) ∙ c.loop-row.invariant in
    subst (λ (l : List Row). Gives l c.from_rows.result) (ap set_of (all ∙ keys_are rows counts is.counted c.keys-row-items.ensures.ordered) ∙ set_of-sorted (set_of rows) (sorted_set_of rows)) c.from_rows.ensures
