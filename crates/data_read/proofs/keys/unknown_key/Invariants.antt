use Rattle.std.proofs.Common.{◌≡◌, map}
use Rattle.serde_json.specs.View.{members_view}
use Rattle.data_read.specs.Keys.{unknown_key}
use Rattle.data_read.proofs.KeysLemmas.{first_unknown}
use Rattle.data_read.proofs.keys.unknown_key.Given as goal

-- the first unknown key of what is left is that of all
abbrev pub invariant-loop-key : goal.invariant-loop-key
invariant-loop-key l = first_unknown (map (λ key. key.now) l.known) l.key-iterator ≡ unknown_key (map (λ key. key.now) l.known) (members_view l.object.entries)
