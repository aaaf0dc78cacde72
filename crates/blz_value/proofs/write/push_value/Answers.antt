use Rattle.std.proofs.Common.{codes}
use Rattle.blz_value.proofs.Beginnings.{begins_same, begins_on, begins_behind, begins_still, begins_either}
use Rattle.blz_value.proofs.write.push_value.Goals as goal

pub returns-in-Int-clause-begins : goal.returns-in-Int-clause-begins
returns-in-Int-clause-begins c =
    let old = c.args.into.now.items in
    begins_either _ old old c.extend_from_slice.new.self.items c.as_bytes.result.now (begins_same old) c.extend_from_slice.ensures.items

pub returns-in_err-push-in-Text-clause-begins : goal.returns-in_err-push-in-Text-clause-begins
returns-in_err-push-in-Text-clause-begins c =
    let old = c.args.into.now.items in
    begins_still old old c.push.new.self.items (begins_same old) c.in_err-push-in-Text.ensures.items

pub returns-in_err-push_escaped-in-Text-clause-begins : goal.returns-in_err-push_escaped-in-Text-clause-begins
returns-in_err-push_escaped-in-Text-clause-begins c =
    let old = c.args.into.now.items in
    let one = c.push.new.self.items in
    begins_on old one c.push_escaped.new.into.items (begins_behind old old one (codes "\"") (begins_same old) c.in_ok-push-in-Text.ensures.items) c.push_escaped.ensures.begins

pub returns-in_err-push-in-Text-2-clause-begins : goal.returns-in_err-push-in-Text-2-clause-begins
returns-in_err-push-in-Text-2-clause-begins c =
    let old = c.args.into.now.items in
    let one = c.push.new.self.items in
    let two = c.push_escaped.new.into.items in
    begins_still old two c.push-in-Text.new.self.items (begins_on old one two (begins_behind old old one (codes "\"") (begins_same old) c.in_ok-push-in-Text.ensures.items) c.push_escaped.ensures.begins) c.in_err-push-in-Text-2.ensures.items

pub returns-in_ok-push-in-Text-2-clause-begins : goal.returns-in_ok-push-in-Text-2-clause-begins
returns-in_ok-push-in-Text-2-clause-begins c =
    let old = c.args.into.now.items in
    let one = c.push.new.self.items in
    let two = c.push_escaped.new.into.items in
    begins_behind old two c.push-in-Text.new.self.items (codes "\"") (begins_on old one two (begins_behind old old one (codes "\"") (begins_same old) c.in_ok-push-in-Text.ensures.items) c.push_escaped.ensures.begins) c.in_ok-push-in-Text-2.ensures.items
