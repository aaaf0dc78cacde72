-- Records that were heard: each came as a record from a feed of its port.
use Rattle.std.proofs.Common.{◌≡◌, refl, ap, subst, ℕ, List, Some}
use Rattle.std.specs.Option.{option_map, unwrap_or}
use Rattle.blz_value.specs.Members.{Has}
use Rattle.blz_value.specs.Record.{Row}
use Rattle.topo_forms.specs.Messages.{Message, row, seal, row_in, rows_in}
use Rattle.messages.specs.Messages.{Pair, Entry}
use Rattle.inbox.specs.Instances.{Instance, port_of_feed, entry_of, entries_of}
use Rattle.inbox.proofs.TimestepLemmas.Whole.{Has-filter_map, Has-from_filter_map}

-- ---- records among messages

-- a record among messages, and back
pub Has-rows_in : (r : Row) (messages : List Message) → Has (row r) messages → Has r (rows_in messages)
Has-rows_in r messages h = Has-filter_map row_in (row r) r messages h refl

-- what has a record is that record
row_same : (message : Message) (r : Row) → row_in message ≡ Some r → message ≡ row r
row_same (row a) r e = ap row (ap (λ o. unwrap_or o a) e)
row_same (seal k n) r e = cc

pub Has-from_rows_in : (r : Row) (messages : List Message) → Has r (rows_in messages) → Has (row r) messages
Has-from_rows_in r messages h = let m = Has-from_filter_map row_in r messages h in subst (λ z. Has z messages) (row_same m.0 r m.2) m.1

-- ---- records among pairs

-- what was heard as an entry was heard as a record from a feed
pub record IsHeard (i : Instance) (heard : List Pair) (entry : Entry) : Type 0 where
  pub feed : ℕ
  pub there : Has (feed, row entry.1) heard
  pub port : port_of_feed i feed ≡ entry.0

entry_from : (i : Instance) (heard : List Pair) (feed : ℕ) (message : Message) (entry : Entry) → Has (feed, message) heard → option_map (λ r. (port_of_feed i feed, r)) (row_in message) ≡ Some entry → IsHeard i heard entry
entry_from i heard feed (row r) entry h e =
    let is : (port_of_feed i feed, r) ≡ entry = ap (λ o. unwrap_or o (port_of_feed i feed, r)) e in
    record { feed = feed; there = subst (λ (z : Entry). Has (feed, row z.1) heard) is h; port = ap (λ (z : Entry). z.0) is }
entry_from i heard feed (seal k n) entry h e = cc

pub heard_entry : (i : Instance) (heard : List Pair) (entry : Entry) → Has entry (entries_of i heard) → IsHeard i heard entry
heard_entry i heard entry h =
    let m = Has-from_filter_map (entry_of i) entry heard h in
    entry_from i heard m.0.0 m.0.1 entry m.1 m.2

pub entry_heard : (i : Instance) (heard : List Pair) (feed : ℕ) (r : Row) → Has (feed, row r) heard → Has (port_of_feed i feed, r) (entries_of i heard)
entry_heard i heard feed r h =
    let pair : Pair = (feed, row r) in
    let entry : Entry = (port_of_feed i feed, r) in
    Has-filter_map (entry_of i) pair entry heard h refl
