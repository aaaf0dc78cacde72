-- What is read can be printed: its names are names, a batch has 1 to 64 groups, and there are no more events than lines.
use Rattle.std.proofs.Common.{◌≡◌, ℕ, suc, ◌+◌, ◌≤◌, Bool, true, false, cond, ◌&&◌, ◌||◌, Option, Some, None, IfSome, Ok, List, [], ◌∷◌, length, refl, ap, sym, subst, arith, codes}
use Rattle.std.specs.Prelude.{nat_le, nat_lt}
use Rattle.std.specs.List.{list_all, before_first, after_first}
use Rattle.std.specs.Option.{option_map}
use Rattle.std.specs.Str.{bytes_eq}
use Rattle.std.proofs.lemmas.Bool.{and_from, lt-ltb}
use Rattle.blz_value.specs.Name.{is_name}
use Rattle.blz_value.proofs.FirstPlace.{length-at_most}
use Rattle.sched_text.specs.declared.event.Sent.{Sent}
use Rattle.sched_text.specs.declared.event.Part.{Part}
use Rattle.sched_text.specs.declared.event.Event.{Event}
use Rattle.sched_text.specs.declared.event.Event.TheVariants.{Deliver, Order, Take, Batch}
use Rattle.sched_text.specs.Fields.{Field, Spot, name_of, spot_of, is_dot, fields_of, only_if, ◌>>=◌}
use Rattle.sched_text.specs.Kinds.{first_as, name_at, number_at, spot_at, word_at, at_end, sent_at, part_at, parts_of, groups_of, part_limit, deliver_of, order_of, take_of, batch_of, event_of, is_empty}
use Rattle.sched_text.specs.Lines.{Line, lines_of, without_return}
use Rattle.sched_text.specs.Reading.{LineReading, passed_over, stands_for, bad, is_bad, is_comment, reading_from, reading_of_fields, event_reading, line_limit, entries_from, with_entry, ReadsAs}
use Rattle.sched_text.specs.Given.{GivesLine}
use Rattle.sched_text.specs.Text.{has_names_sent, has_names_part, is_printable, IsPrintable}

-- ---- what a reading that gave something says of its steps

went : {A B : Type 0} {P : Type 0} (o : Option A) (f : A → Option B) (y : B) → (o >>= f) ≡ Some y → ((x : A) → o ≡ Some x → f x ≡ Some y → P) → P
went None f y e next = cc
went (Some x) f y e next = next x refl e

-- what holds of the value that was given holds of the one that came out
made : {X : Type 0} (P : X → Type 0) {x y : X} → P x → Some x ≡ Some y → P y
made P {x = x} {y = y} h e = (let same : x ≡ y = cc in subst P same h)

kept : {X : Type 0} (P : X → Type 0) (b : Bool) {x y : X} → (b ≡ true → P x) → only_if b x ≡ Some y → P y
kept P true h e = made P (h refl) e
kept P false h e = cc

first_kept : {X : Type 0} (P : X → Type 0) (meaning : Field → Option X) → ((field : Field) (x : X) → meaning field ≡ Some x → P x) → (fields : List Field) (x : X × List Field) → first_as meaning fields ≡ Some x → P x.0
first_kept P meaning h [] x e = cc
first_kept {X} P meaning h (field ∷ others) x e = go (meaning field) refl e
  where
    go : (o : Option X) → meaning field ≡ o → option_map (λ y. (y, others)) o ≡ Some x → P x.0
    go None is e = cc
    go (Some y) is e = made (λ (z : X × List Field). P z.0) (h field y is) e

-- ---- names, spots, messages and groups

abbrev Named : List ℕ → Type 0
Named name = is_name name ≡ true

abbrev SpotNamed : Spot → Type 0
SpotNamed spot = (is_name spot.component && is_name spot.port) ≡ true

named : (field name : Field) → name_of field ≡ Some name → Named name
named field name e = kept Named (is_name field) (λ h. h) e

name_so : (fields : List Field) (x : List ℕ × List Field) → name_at fields ≡ Some x → Named x.0
name_so fields x e = first_kept Named name_of named fields x e

spot_names : (field : Field) (spot : Spot) → spot_of field ≡ Some spot → SpotNamed spot
spot_names field spot e =
    went (name_of (before_first is_dot field)) (λ component. name_of (after_first is_dot field) >>= λ port. Some (record { component = component; port = port })) spot e (λ component a next.
    went (name_of (after_first is_dot field)) (λ port. Some (record { component = component; port = port })) spot next (λ port b last.
    made SpotNamed (and_from (is_name component) (is_name port) (named (before_first is_dot field) component a) (named (after_first is_dot field) port b)) last))

spot_so : (fields : List Field) (x : Spot × List Field) → spot_at fields ≡ Some x → SpotNamed x.0
spot_so fields x e = first_kept SpotNamed spot_of spot_names fields x e

sent_so : (fields : List Field) (x : Sent × List Field) → sent_at fields ≡ Some x → has_names_sent x.0 ≡ true
sent_so fields x e =
    went (name_at fields) (λ s. number_at s.1 >>= λ r. number_at r.1 >>= λ i. Some (record { stream = s.0; replica = r.0; index = i.0 }, i.1)) x e (λ stream a next.
    went (number_at stream.1) (λ r. number_at r.1 >>= λ i. Some (record { stream = stream.0; replica = r.0; index = i.0 }, i.1)) x next (λ replica b more.
    went (number_at replica.1) (λ i. Some (record { stream = stream.0; replica = replica.0; index = i.0 }, i.1)) x more (λ index c last.
    made (λ (y : Sent × List Field). has_names_sent y.0 ≡ true) (name_so fields stream a) last)))

part_so : (fields : List Field) (x : Part × List Field) → part_at fields ≡ Some x → has_names_part x.0 ≡ true
part_so fields x e =
    went (sent_at fields) (λ s. name_at s.1 >>= λ p. Some (record { sent = s.0; port = p.0 }, p.1)) x e (λ sent a next.
    went (name_at sent.1) (λ p. Some (record { sent = sent.0; port = p.0 }, p.1)) x next (λ port b last.
    made (λ (y : Part × List Field). has_names_part y.0 ≡ true) (and_from (has_names_sent sent.0) (is_name port.0) (sent_so fields sent a) (name_so sent.1 port b)) last))

abbrev PartsNamed : List Part → Type 0
PartsNamed parts = list_all has_names_part parts ≡ true

one_more_part : (s r i p : Field) (others : List Field) (parts : List Part) → ((more : List Part) → parts_of others ≡ Some more → PartsNamed more) → parts_of (s ∷ r ∷ i ∷ p ∷ others) ≡ Some parts → PartsNamed parts
one_more_part s r i p others parts rest e =
    went (part_at (s ∷ r ∷ i ∷ p ∷ [])) (λ part. parts_of others >>= λ ps. Some (part.0 ∷ ps)) parts e (λ part a next.
    went (parts_of others) (λ ps. Some (part.0 ∷ ps)) parts next (λ more b last.
    made PartsNamed (and_from (has_names_part part.0) (list_all has_names_part more) (part_so (s ∷ r ∷ i ∷ p ∷ []) part a) (rest more b)) last))

parts_so : (fields : List Field) (parts : List Part) → parts_of fields ≡ Some parts → PartsNamed parts
parts_so [] parts e = made PartsNamed refl e
parts_so (s ∷ []) parts e = cc
parts_so (s ∷ r ∷ []) parts e = cc
parts_so (s ∷ r ∷ i ∷ []) parts e = cc
parts_so (s ∷ r ∷ i ∷ p ∷ others) parts e = one_more_part s r i p others parts (parts_so others) e

-- 1 to 64 groups
abbrev in_limit : List Part → Bool
in_limit parts = nat_le 1 (length parts) && nat_le (length parts) part_limit

groups_so : (fields : List Field) (parts : List Part) → groups_of fields ≡ Some parts → (list_all has_names_part parts && in_limit parts) ≡ true
groups_so fields parts e =
    went (parts_of fields) (λ ps. only_if (in_limit ps) ps) parts e (λ ps a last.
    kept (λ (y : List Part). (list_all has_names_part y && in_limit y) ≡ true) (in_limit ps) (λ fits. and_from (list_all has_names_part ps) (in_limit ps) (parts_so fields ps a) fits) last)

-- ---- events

abbrev Printable : Event → Type 0
Printable event = is_printable event ≡ true

deliver_so : (fields : List Field) (event : Event) → deliver_of fields ≡ Some event → Printable event
deliver_so fields event e =
    went (sent_at fields) (λ s. word_at (codes "to") s.1 >>= λ w. spot_at w.1 >>= λ t. number_at t.1 >>= λ r. at_end (Deliver s.0 t.0.component t.0.port r.0) r.1) event e (λ sent a next.
    went (word_at (codes "to") sent.1) (λ w. spot_at w.1 >>= λ t. number_at t.1 >>= λ r. at_end (Deliver sent.0 t.0.component t.0.port r.0) r.1) event next (λ to b more.
    went (spot_at to.1) (λ t. number_at t.1 >>= λ r. at_end (Deliver sent.0 t.0.component t.0.port r.0) r.1) event more (λ spot c rest.
    went (number_at spot.1) (λ r. at_end (Deliver sent.0 spot.0.component spot.0.port r.0) r.1) event rest (λ replica d last.
    kept Printable (is_empty replica.1) (λ _. and_from (has_names_sent sent.0) (is_name spot.0.component && is_name spot.0.port) (sent_so fields sent a) (spot_so to.1 spot c)) last))))

order_so : (fields : List Field) (event : Event) → order_of fields ≡ Some event → Printable event
order_so fields event e =
    went (sent_at fields) (λ s. word_at (codes "to") s.1 >>= λ w. spot_at w.1 >>= λ t. at_end (Order s.0 t.0.component t.0.port) t.1) event e (λ sent a next.
    went (word_at (codes "to") sent.1) (λ w. spot_at w.1 >>= λ t. at_end (Order sent.0 t.0.component t.0.port) t.1) event next (λ to b more.
    went (spot_at to.1) (λ t. at_end (Order sent.0 t.0.component t.0.port) t.1) event more (λ spot c last.
    kept Printable (is_empty spot.1) (λ _. and_from (has_names_sent sent.0) (is_name spot.0.component && is_name spot.0.port) (sent_so fields sent a) (spot_so to.1 spot c)) last)))

take_so : (fields : List Field) (event : Event) → take_of fields ≡ Some event → Printable event
take_so fields event e =
    went (name_at fields) (λ n. number_at n.1 >>= λ r. at_end (Take n.0 r.0) r.1) event e (λ component a next.
    went (number_at component.1) (λ r. at_end (Take component.0 r.0) r.1) event next (λ replica b last.
    kept Printable (is_empty replica.1) (λ _. name_so fields component a) last))

batch_so : (fields : List Field) (event : Event) → batch_of fields ≡ Some event → Printable event
batch_so fields event e =
    went (name_at fields) (λ n. number_at n.1 >>= λ r. groups_of r.1 >>= λ ps. Some (Batch n.0 r.0 ps)) event e (λ component a next.
    went (number_at component.1) (λ r. groups_of r.1 >>= λ ps. Some (Batch component.0 r.0 ps)) event next (λ replica b more.
    went (groups_of replica.1) (λ ps. Some (Batch component.0 replica.0 ps)) event more (λ parts c last.
    made Printable (and_from (is_name component.0) (list_all has_names_part parts && in_limit parts) (name_so fields component a) (groups_so replica.1 parts c)) last)))

or_else : {X : Type 0} (b : Bool) {x y : Option X} {z : X} (P : X → Type 0) → (x ≡ Some z → P z) → (y ≡ Some z → P z) → cond b x y ≡ Some z → P z
or_else true P f g e = f e
or_else false P f g e = g e

event_so : (first : Field) (others : List Field) (event : Event) → event_of first others ≡ Some event → Printable event
event_so first others event e =
    or_else (bytes_eq first (codes "deliver")) Printable (deliver_so others event)
    (or_else (bytes_eq first (codes "order")) Printable (order_so others event)
    (or_else (bytes_eq first (codes "take")) Printable (take_so others event)
    (or_else (bytes_eq first (codes "batch")) Printable (batch_so others event) (λ f. cc)))) e

-- ---- lines

stands_so : (o : Option Event) (event : Event) → reading_from o ≡ stands_for event → o ≡ Some event
stands_so None event e = cc
stands_so (Some x) event e = (let same : x ≡ event = cc in ap Some same)

behind_comment : (b : Bool) (first : Field) (others : List Field) (event : Event) → cond b passed_over (reading_from (event_of first others)) ≡ stands_for event → is_printable event ≡ true
behind_comment true first others event e = cc
behind_comment false first others event e = event_so first others event (stands_so (event_of first others) event e)

fields_so : (fields : List Field) (event : Event) → reading_of_fields event_of fields ≡ stands_for event → is_printable event ≡ true
fields_so [] event e = cc
fields_so (first ∷ others) event e = behind_comment (is_comment first) first others event e

line_so : (line : Line) (event : Event) → event_reading line ≡ stands_for event → is_printable event ≡ true
line_so line event e = fields_so (fields_of (without_return line)) event e

-- what a line gives can be printed
pub line_gives : (line : Line) (event : Option Event) → GivesLine (Ok event) (event_reading line) → IfSome event (λ event. is_printable event ≡ true)
line_gives line None e = tt
line_gives line (Some event) e = line_so line event e

with_entry_so : (number : ℕ) (r : LineReading Event) (others : List (ℕ × Event)) → ((event : Event) → r ≡ stands_for event → is_printable event ≡ true) → list_all (λ line. is_printable line.1) others ≡ true → list_all (λ line. is_printable line.1) (with_entry number r others) ≡ true
with_entry_so number passed_over others h rest = rest
with_entry_so number (stands_for event) others h rest = and_from (is_printable event) (list_all (λ line. is_printable line.1) others) (h event refl) rest
with_entry_so number bad others h rest = rest

entries_so : (number : ℕ) (lines : List Line) → list_all (λ line. is_printable line.1) (entries_from event_reading number lines) ≡ true
entries_so number [] = refl
entries_so number (line ∷ lines) = with_entry_so number (event_reading line) (entries_from event_reading (number + 1) lines) (line_so line) (entries_so (number + 1) lines)

with_entry_few : (number : ℕ) (r : LineReading Event) (others : List (ℕ × Event)) → length (with_entry number r others) ≤ suc (length others)
with_entry_few number passed_over others = omega arith
with_entry_few number (stands_for event) others = omega arith
with_entry_few number bad others = omega arith

entries_few : (number : ℕ) (lines : List Line) → length (entries_from event_reading number lines) ≤ length lines
entries_few number [] = omega arith
entries_few number (line ∷ lines) = omega (arith, with_entry_few number (event_reading line) (entries_from event_reading (number + 1) lines), entries_few (number + 1) lines)

past : (line : Line) → (nat_lt line_limit (line_limit + 1) || is_bad (event_reading line)) ≡ true
past line = rw (lt-ltb line_limit (line_limit + 1) (omega arith)) refl

-- what a text reads as can be printed
pub reads_printable : (text : List ℕ) (entries : List (ℕ × Event)) → ReadsAs event_reading text entries → IsPrintable entries
reads_printable text entries h =
    let few : 1 + length (lines_of text) ≤ line_limit + 1 = length-at_most (λ number line. nat_lt line_limit number || is_bad (event_reading line)) (line_limit + 1) past 1 (lines_of text) (omega arith) h.0 in
    let own : IsPrintable (entries_from event_reading 1 (lines_of text)) = record { few = omega (arith, entries_few 1 (lines_of text)); events = entries_so 1 (lines_of text) } in
    subst IsPrintable (sym h.1) own
