-- The event that is named by the names of its numbers is the one of these numbers.
use Rattle.std.proofs.Common.{◌≡◌, ◌<◌, ℕ, true, length, refl, ap, ◌∙◌}
use Rattle.bloom_forms.specs.Query.{Name}
use Rattle.sched_text.specs.declared.event.Sent.{Sent as SentName}
use Rattle.sched_text.specs.declared.event.Event.TheVariants.{Deliver, Order, Take}
use Rattle.sched_text.specs.Text.{is_printable}
use Rattle.topo_forms.specs.Valid.{IsValid, IsWhole, Validated}
use Rattle.topo_forms.specs.View.{View, component_at, port_at, stream_at}
use Rattle.inbox.specs.Events.{Part, deliver, order, take_one}
use Rattle.sched_net.specs.Numbered.{stream_number, component_number, port_number, numbered_part, numbered, event_by_numbers}
use Rattle.sched_net.specs.declared.numbered.NumberedEvent.{NumberedEvent}
use Rattle.sched_net.specs.declared.numbered.NumberedEvent.TheVariants as numbers
use Rattle.sched_net.proofs.NamesNumbered.{stream_named, component_named, port_named}
use Rattle.sched_run.specs.Naming.{HasPartNames, HasEventNames}
use Rattle.sched_run.specs.Code.Written.{event_named}
use Rattle.sched_run.proofs.PrintableNames.{printable_message, printable_take}

module _ (valid : Validated) (whole : IsWhole valid) (known : IsValid valid.view) (c : ℕ) (part : Part) (is : HasPartNames valid.view c part) (sent : SentName) (name port : Name) where
  part_numbered : sent ≡ record { stream = (stream_at valid.view part.sent.stream).name; replica = part.sent.replica; index = part.sent.index } → port ≡ (port_at valid.view c part.port).name → numbered_part valid.view c sent port ≡ part
  part_numbered of_stream at_port =
      let make : ℕ → ℕ → Part = λ s p. record { sent = record { stream = s; replica = part.sent.replica; index = part.sent.index }; port = p } in
      ap (λ (s : SentName). numbered_part valid.view c s port) of_stream
      ∙ ap (λ (n : Name). make (stream_number valid.view (stream_at valid.view part.sent.stream).name) (port_number valid.view c n)) at_port
      ∙ ap (λ s. make s (port_number valid.view c (port_at valid.view c part.port).name)) (stream_named valid.view part.sent.stream known is.stream)
      ∙ ap (make part.sent.stream) (port_named valid c part.port whole known is.there is.port)

  number_is : name ≡ (component_at valid.view c).name → component_number valid.view name ≡ c
  number_is e = ap (component_number valid.view) e ∙ component_named valid.view c known is.there

  pub deliver_numbered : (r : ℕ) → sent ≡ record { stream = (stream_at valid.view part.sent.stream).name; replica = part.sent.replica; index = part.sent.index } → name ≡ (component_at valid.view c).name → port ≡ (port_at valid.view c part.port).name → numbered valid.view (Deliver sent name port r) ≡ deliver part c r
  deliver_numbered r of_stream e at_port =
      ap (λ n. deliver (numbered_part valid.view n sent port) n r) (number_is e)
      ∙ ap (λ (p : Part). deliver p c r) (part_numbered of_stream at_port)

  pub order_numbered : sent ≡ record { stream = (stream_at valid.view part.sent.stream).name; replica = part.sent.replica; index = part.sent.index } → name ≡ (component_at valid.view c).name → port ≡ (port_at valid.view c part.port).name → numbered valid.view (Order sent name port) ≡ order part c
  order_numbered of_stream e at_port =
      ap (λ n. order (numbered_part valid.view n sent port) n) (number_is e)
      ∙ ap (λ (p : Part). order p c) (part_numbered of_stream at_port)

pub take_numbered : (v : View) (c r : ℕ) (name : Name) → IsValid v → c < length v.components → name ≡ (component_at v c).name → numbered v (Take name r) ≡ take_one c r
take_numbered v c r name valid there e = ap (λ n. take_one n r) (ap (component_number v) e ∙ component_named v c valid there)

-- the event with the names of its numbers goes by them, and can be printed
module _ (valid : Validated) (whole : IsWhole valid) (known : IsValid valid.view) where
  pub named_numbered : (event : NumberedEvent) → HasEventNames valid.view (event_by_numbers event) → numbered valid.view (event_named valid.view (event_by_numbers event)) ≡ event_by_numbers event
  named_numbered (numbers.Deliver part c r) is = deliver_numbered valid whole known c part is _ _ _ r refl refl refl
  named_numbered (numbers.Order part c) is = order_numbered valid whole known c part is _ _ _ refl refl refl
  named_numbered (numbers.Take c r) is = take_numbered valid.view c r _ known is refl

  pub named_printable : (event : NumberedEvent) → HasEventNames valid.view (event_by_numbers event) → is_printable (event_named valid.view (event_by_numbers event)) ≡ true
  named_printable (numbers.Deliver part c r) is = printable_message valid whole c part is _ _ _ refl refl refl
  named_printable (numbers.Order part c) is = printable_message valid whole c part is _ _ _ refl refl refl
  named_printable (numbers.Take c r) is = printable_take valid whole c is _ refl
