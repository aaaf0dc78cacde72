use Rattle.std.proofs.Common.{◌∷◌, []}
use Rattle.blz_value.proofs.Beginnings.{begins_same, begins_behind, begins_still, begins_either}
use Rattle.blz_value.proofs.write.push_escaped_byte.Goals as goal

pub returns-in-34-clause-begins : goal.returns-in-34-clause-begins
returns-in-34-clause-begins c =
    let old = c.args.into.now.items in
    begins_either _ old old c.extend_from_slice.new.self.items _ (begins_same old) c.extend_from_slice.ensures.items

pub returns-in-92-clause-begins : goal.returns-in-92-clause-begins
returns-in-92-clause-begins c =
    let old = c.args.into.now.items in
    begins_either _ old old c.extend_from_slice-in-92.new.self.items _ (begins_same old) c.extend_from_slice-in-92.ensures.items

pub returns-in-0-to-31-clause-begins : goal.returns-in-0-to-31-clause-begins
returns-in-0-to-31-clause-begins c =
    let old = c.args.into.now.items in
    begins_either _ old old c.extend_from_slice-in-0-to-31.new.self.items _ (begins_same old) c.extend_from_slice-in-0-to-31.ensures.items

pub returns-in_err-push-in_default-clause-begins : goal.returns-in_err-push-in_default-clause-begins
returns-in_err-push-in_default-clause-begins c =
    let old = c.args.into.now.items in
    begins_still old old c.push.new.self.items (begins_same old) c.in_err-push-in_default.ensures.items

pub returns-in_ok-push-in_default-clause-begins : goal.returns-in_ok-push-in_default-clause-begins
returns-in_ok-push-in_default-clause-begins c =
    let old = c.args.into.now.items in
    begins_behind old old c.push.new.self.items (c.args.byte ∷ []) (begins_same old) c.in_ok-push-in_default.ensures.items
