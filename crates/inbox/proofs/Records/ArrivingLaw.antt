-- What instances have heard, and what stands in timesteps, was sent by streams; so timesteps are arrivals.
use Rattle.std.proofs.Common.{ap, subst, ◌∙◌, [], length, get_or}
use Rattle.std.proofs.lemmas.List.{length-map}
use Rattle.bloom_forms.specs.Program.{port_columns}
use Rattle.inbox.specs.Instances.{Instance, entries_of}
use Rattle.messages.specs.Messages.{all_pairs}
use Rattle.blz_value.specs.Members.{Has}
use Rattle.inbox.specs.Lives.{life_timesteps}
use Rattle.inbox.specs.Wiring.{instance_at, instance_for, wiring_of}
use Rattle.inbox.proofs.Executions.Sent.{history_holds, sent_by_now}
use Rattle.inbox.proofs.WiringLemmas.{instance-wired, instance-ports}
use Rattle.inbox.proofs.TimestepLemmas.OfLives.{life_timesteps-many}
use Rattle.inbox.specs.StreamLaws.{HeardLaw, TimestepsLaw, FeedsLaw, ArrivalsLaw, LifeLaw}
use Rattle.inbox.proofs.Records.Sending.{feed_sends, heard_sent, timestep_sent}
use Rattle.inbox.proofs.Records.TracedLaw.{width_law}
use Rattle.inbox.proofs.Columns.Viewed.{port_count, stream_is, are_arrivals}

pub heard_law : HeardLaw
heard_law v d x c j life entry h within there lived heard =
    heard_sent v d x h.valid x (sent_by_now (wiring_of v) d x (history_holds (wiring_of v) d h.steps x h.legal)) c j life entry within there lived
    (subst (λ (i : Instance). Has entry (entries_of i (all_pairs life.heard))) (instance-wired v c j within there) heard)

pub timesteps_law : TimestepsLaw
timesteps_law v d x c j life h within there lived now port r among stands =
    timestep_sent v d x h.valid x (sent_by_now (wiring_of v) d x (history_holds (wiring_of v) d h.steps x h.legal)) c j life now port r within there lived
    (subst (λ (i : Instance). Has now (life_timesteps i (x.logs c) life)) (instance-wired v c j within there) among) stands

pub arrivals_law : ArrivalsLaw
arrivals_law v d x c program nows h within has shape sent =
    are_arrivals program nows shape (λ now port r among stands.
    let s = sent now port r among stands in
    width_law v d x s.stream s.sender r h s.within s.sends s.sent ∙ ap length (stream_is v h.valid c within program has port s.stream s.within s.goes) ∙ length-map (get_or (port_columns program) port []) _)

pub feeds_law : FeedsLaw
feeds_law v d x c j feed r within there stands sent = feed_sends v d x c j feed r (subst (λ (i : Instance). Has feed i.feeds) (instance-wired v c j within there) stands) sent

pub life_law : LifeLaw
life_law v d x c j program life h within there has lived =
    let i = instance_for v c j in
    let is = instance-wired v c j within there in
    arrivals_law v d x c program (life_timesteps (instance_at (wiring_of v) c j) (x.logs c) life) h within has
    (λ now among. life_timesteps-many i (x.logs c) life now (subst (λ (z : Instance). Has now (life_timesteps z (x.logs c) life)) is among) ∙ instance-ports v c j ∙ port_count v h.valid c within program has)
    (timesteps_law v d x c j life h within there lived)
