use Rattle.blz_value.specs.Name.{is_name_byte}
use Rattle.bloom_parse.proofs.Texts.RunLemmas.{run_passes}
use Rattle.bloom_parse.proofs.lexing.front.name_front.Goals as goal

pub named-requires : goal.named-requires
named-requires c = rw (c.split_at.ensures.front, c.name_size.ensures.value) (run_passes is_name_byte c.args.text.now)
