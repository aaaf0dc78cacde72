use Rattle.std.proofs.Common.{rules, ◌≡◌, ◌++◌, [], ◌∷◌, false}
use Rattle.std.specs.List.{list_any}
use Rattle.messages.specs.Log.{is_same_entry_id}
use Rattle.messages.proofs.LogLemmas.{known-more}
use Rattle.messages.proofs.log.Log.push.Goals as goal

pub invariant_of-self-in-Ok : goal.invariant_of-self-in-Ok
invariant_of-self-in-Ok c =
    let entries = c.self.inside.entries.items in
    let items : c.push.new.self.items ≡ entries ++ c.args.entry ∷ [] = search rules in
    let absent : list_any (is_same_entry_id c.args.entry) entries ≡ false = search rules in
    rw items (known-more c.self.inside.known c.know.new.self entries c.args.entry c.number.result c.self.invariant absent (search rules) c.in-Ok.ensures.ok)
