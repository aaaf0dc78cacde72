use Rattle.std.proofs.Common.{◌≡◌, ◌≢◌, List, [], ◌∷◌, None, refl, map, string_bytes}
use Rattle.clap.specs.Kinds.{Kinds}
use Rattle.clap.specs.Words.{Row, fault_of, matches_of}
use Rattle.blazes_words.specs.Words.{asked_without, simple_command}
use Rattle.blazes_words.proofs.words.request_of.Goals as goal

-- words with a fault ask for nothing
nothing_asked : (faults : Kinds) (rows : List Row) → faults ≢ [] → None ≡ asked_without faults rows
nothing_asked [] rows some = absurd (some refl)
nothing_asked (fault ∷ faults) rows some = refl

pub returns-in-None-clause-value : goal.returns-in-None-clause-value
returns-in-None-clause-value c =
    let words = map string_bytes c.args.words.now in
    let without = rw c.in-None.is at c.in_ok-matches.ensures in
    nothing_asked (fault_of simple_command words) (matches_of simple_command words) without
