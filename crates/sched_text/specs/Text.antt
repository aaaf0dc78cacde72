-- The text of events and schedules: one event a line, with single spaces.
use Rattle.std.specs.Prelude.{◌≡◌, ℕ, ◌≤◌, ◌&&◌, nat_le, Bool, true, List, ◌++◌, length, map, codes}
use Rattle.std.specs.List.{list_all, flat_map, enumerate_from}
use Rattle.std.specs.Fmt.{decimal}
use Rattle.blz_value.specs.Name.{is_name}
use Rattle.sched_text.specs.declared.event.Sent.{Sent}
use Rattle.sched_text.specs.declared.event.Part.{Part}
use Rattle.sched_text.specs.declared.event.Event.{Event}
use Rattle.sched_text.specs.declared.event.Event.TheVariants.{Deliver, Order, Take, Batch}
use Rattle.sched_text.specs.Kinds.{part_limit}
use Rattle.sched_text.specs.Reading.{line_limit}

abbrev pub sent_text : Sent → List ℕ
sent_text sent = sent.stream ++ codes " " ++ decimal sent.replica ++ codes " " ++ decimal sent.index

-- a group of a batch, behind a space
abbrev pub part_text : Part → List ℕ
part_text part = codes " " ++ sent_text part.sent ++ codes " " ++ part.port

abbrev pub event_text : Event → List ℕ
event_text (Deliver sent component port replica) = codes "deliver " ++ sent_text sent ++ codes " to " ++ component ++ codes "." ++ port ++ codes " " ++ decimal replica
event_text (Order sent component port) = codes "order " ++ sent_text sent ++ codes " to " ++ component ++ codes "." ++ port
event_text (Take component replica) = codes "take " ++ component ++ codes " " ++ decimal replica
event_text (Batch component replica parts) = codes "batch " ++ component ++ codes " " ++ decimal replica ++ flat_map part_text parts

-- each event on a line of its own
abbrev pub schedule_text : List (ℕ × Event) → List ℕ
schedule_text lines = flat_map (λ line. event_text line.1 ++ codes "\n") lines

-- ---- what can be read again

abbrev pub has_names_sent : Sent → Bool
has_names_sent sent = is_name sent.stream

abbrev pub has_names_part : Part → Bool
has_names_part part = has_names_sent part.sent && is_name part.port

-- each name of the event is a name, and a batch has 1 to 64 groups
abbrev pub is_printable : Event → Bool
is_printable (Deliver sent component port replica) = has_names_sent sent && (is_name component && is_name port)
is_printable (Order sent component port) = has_names_sent sent && (is_name component && is_name port)
is_printable (Take component replica) = is_name component
is_printable (Batch component replica parts) = is_name component && (list_all has_names_part parts && (nat_le 1 (length parts) && nat_le (length parts) part_limit))

-- a schedule of at most 1,000,000 such events
pub record IsPrintable (lines : List (ℕ × Event)) : Type 0 where
  pub few : length lines ≤ line_limit
  pub events : list_all (λ line. is_printable line.1) lines ≡ true

-- the same events, on lines that are numbered from 1
abbrev pub numbered_again : List (ℕ × Event) → List (ℕ × Event)
numbered_again lines = enumerate_from 1 (map (λ line. line.1) lines)
