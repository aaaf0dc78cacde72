use Rattle.std.proofs.Common.{refl}
use Rattle.std.specs.Prelude.{codes}
use Rattle.command_checks.specs.Checks as check
use Rattle.blazes_commands.specs.Labels.BuiltIn.{built_in, word_count}
use Rattle.blazes_commands.proofs.Labels.BuiltInLemmas.{ran_over}
use Rattle.blazes_commands.proofs.label_calls.built_in.word_count.Goals as goal

pub returns : goal.returns
unfolding word_count
returns c = ran_over built_in _ (check.valid_topology (codes "wc.toml")) refl (λ valid. valid) c.valid_topology.result c.valid_topology.ensures
