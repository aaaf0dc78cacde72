use Rattle.std.proofs.Common.{◌∙◌, ap, sym}
use Rattle.blz_value.specs.Arrows.{is_key}
use Rattle.inbox.proofs.CarriedKeys.{carries_key-is}
use Rattle.inbox.proofs.instance.carries_key.Goals as goal

pub returns-in-Some : goal.returns-in-Some
returns-in-Some c = sym (carries_key-is c.args.valid.now.view c.known.ensures c.args.stream c.requires c.args.key.bits ∙ ap (is_key c.args.key.bits) (sym c.in-Some.ensures))

pub returns-in-None : goal.returns-in-None
returns-in-None c = sym (carries_key-is c.args.valid.now.view c.known.ensures c.args.stream c.requires c.args.key.bits ∙ ap (is_key c.args.key.bits) (sym c.in-None.ensures))
