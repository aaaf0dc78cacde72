use Rattle.std.proofs.Common.{◌∙◌, ap}
use Rattle.sched_text.specs.Kinds.{is_empty}
use Rattle.sched_text.proofs.FieldsLemmas.{no_fields-blanks}
use Rattle.sched_text.proofs.fields.Fields.is_empty.Goals as goal

pub returns : goal.returns
returns c =
    c.is_all_blank.ensures ∙ no_fields-blanks c.self.inside.rest.now ∙ ap is_empty c.self.view_is
