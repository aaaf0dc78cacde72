-- what was found, and what the rest gives, are the whole
use Rattle.std.proofs.Common.{◌≡◌, ◌-◌, length}
use Rattle.bloom_forms.specs.Form.{rule_forms}
use Rattle.bloom_parse.specs.Code.ReadingSingle.{has_name}
use Rattle.bloom_parse.specs.Code.ReadingLists.{many_at, with_front}
use Rattle.bloom_parse.specs.Code.ReadingModules.{rule_at, rules_at}
use Rattle.bloom_parse.proofs.reading.reader.rules.Given as goal

abbrev pub invariant-loop : goal.invariant-loop
invariant-loop l = with_front (rule_forms l.found.items) (many_at has_name rule_at (length l.terminals - l.counter) l.rest) ≡ rules_at l.terminals
