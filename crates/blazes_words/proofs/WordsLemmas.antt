-- A line whose command is none of those that are built asks for nothing.
use Rattle.std.proofs.Common.{◌≡◌, ◌≢◌, Bool, true, false, None, refl, sym, codes}
use Rattle.std.specs.Str.{bytes_eq}
use Rattle.std.proofs.lemmas.Slice.Eq.{bytes_eq-Decides}
use Rattle.clap.specs.Words.{Text}
use Rattle.blazes_words.specs.Words.{Line, asked}

other : (name command : Text) → command ≢ name → bytes_eq name command ≡ false
other name command differ = go (bytes_eq name command) refl
  where
    go : (b : Bool) → bytes_eq name command ≡ b → b ≡ false
    go true e = absurd (differ (sym ((bytes_eq-Decides name command).0 e)))
    go false e = refl

pub nothing_asked : (line : Line) → line.command ≢ codes "label" → line.command ≢ codes "derive" → line.command ≢ codes "plan" → line.command ≢ codes "run"
    → line.command ≢ codes "make" → line.command ≢ codes "soak" → line.command ≢ codes "shard"
    → line.command ≢ codes "restart" → line.command ≢ codes "witness" → line.command ≢ codes "why" → None ≡ asked line
nothing_asked line label derive plan run make soak shard restart witness why =
    rw (other (codes "label") line.command label)
    (rw (other (codes "derive") line.command derive)
    (rw (other (codes "plan") line.command plan)
    (rw (other (codes "run") line.command run)
    (rw (other (codes "make") line.command make)
    (rw (other (codes "soak") line.command soak)
    (rw (other (codes "shard") line.command shard)
    (rw (other (codes "restart") line.command restart)
    (rw (other (codes "witness") line.command witness)
    (rw (other (codes "why") line.command why) refl)))))))))
