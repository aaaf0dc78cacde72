use Rattle.std.proofs.Common.{◌≡◌, ◌≢◌, length, rules}
use Rattle.sched_text.proofs.FieldsLemmas.{taken_field, no_field}
use Rattle.sched_text.proofs.fields.Fields.next_field.Goals as goal

pub returns : goal.returns
returns c =
    let some : length c.split_at-2.result.0.now ≢ 0 = search rules in
    rw (← c.self.view_is) (taken_field c.self.inside.rest.now c.split_at.result.1.now c.split_at-2.result.0.now c.split_at-2.result.1.now c.blanks.result c.field_size.result c.blanks.ensures.value c.split_at.ensures.back c.field_size.ensures.value c.split_at-2.ensures.front c.split_at-2.ensures.back some)

pub returns-then-is_empty : goal.returns-then-is_empty
returns-then-is_empty c =
    let none : length c.split_at-2.result.0.now ≡ 0 = search rules in
    rw (← c.self.view_is) (no_field c.self.inside.rest.now c.split_at.result.1.now c.split_at-2.result.0.now c.split_at-2.result.1.now c.blanks.result c.field_size.result c.blanks.ensures.value c.split_at.ensures.back c.field_size.ensures.value c.split_at-2.ensures.front c.split_at-2.ensures.back none)
