use Rattle.std.proofs.Common.{◌∙◌, ap₂}
use Rattle.clap.specs.Words.{with_rule}
use Rattle.blazes_words.proofs.words.command.Goals as goal

pub returns : goal.returns
returns c =
    c.in_ok-with_count.ensures.shape c.option_arg-2.ensures.local ∙ ap₂ with_rule
    (c.in_ok-with_seed.ensures.shape c.option_arg.ensures.local ∙ ap₂ with_rule
    (c.in_ok-with_files.ensures.shape c.file_arg.ensures.local ∙ ap₂ with_rule
    (c.in_ok-named.ensures.shape c.command_arg.ensures.local ∙ ap₂ with_rule c.bare.ensures c.command_arg.ensures.rule)
    c.file_arg.ensures.rule) c.option_arg.ensures.rule) c.option_arg-2.ensures.rule
