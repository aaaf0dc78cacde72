-- Where a partition is whole and its feeds are honest, all of its records that feeds emitted were heard.
use Rattle.std.proofs.Common.{◌≡◌, ap, sym, subst, ◌∙◌, ℕ, ◌+◌, ◌≤◌, ◌==◌, Bool, true, List, [], ◌∷◌, ◌++◌, length, map, filter, arith, inl, inr, Some}
use Rattle.std.specs.Option.{option_map, unwrap_or}
use Rattle.std.proofs.lemmas.Bool.{eqb-true}
use Rattle.std.proofs.lemmas.List.Elements.{filter_map-append, filter-append}
use Rattle.std.proofs.lemmas.List.{length-append}
use Rattle.blz_value.specs.Members.{Has, IsWithin}
use Rattle.blz_value.specs.Record.{Row}
use Rattle.blz_value.specs.Operators.{cells}
use Rattle.blz_value.specs.Sets.{set_of}
use Rattle.blz_value.proofs.Membership.{Has-from_map, Has-filter, Has-from_filter}
use Rattle.blz_value.proofs.SetLaws.{sorted_set_of, Has-set_of, Has-from_set_of}
use Rattle.blz_value.proofs.RowSets.{length-set_of-le}
use Rattle.topo_forms.specs.Data.{Data}
use Rattle.topo_forms.specs.Messages.{Message, row, seal, is_same_row, row_in, rows_in}
use Rattle.messages.specs.Messages.{Pair, Entry}
use Rattle.inbox.specs.Instances.{Instance, port_of_feed, key_places_at, carrying_feeds, entries_of, key_of_entry, is_of_key}
use Rattle.inbox.specs.Timesteps.{is_whole, from_feed}
use Rattle.inbox.specs.Wiring.{Wiring}
use Rattle.inbox.specs.Executions.{Execution, emitted_list}
use Rattle.inbox.specs.Growth.{feed_numbered, ComesFrom}
use Rattle.messages.proofs.MessagesLemmas.{is_same_row-itself}
use Rattle.inbox.proofs.TimestepLemmas.Whole.{whole-seal}
use Rattle.inbox.proofs.TimestepLemmas.UnderSeal.{of_key-is}
use Rattle.inbox.proofs.TimestepLemmas.Entries.{entry_heard, heard_entry, Has-rows_in, Has-from_rows_in}
use Rattle.inbox.proofs.TimestepLemmas.Touching.{none_of}
use Rattle.confluence.specs.Honest.{IsHonest}
use Rattle.confluence.proofs.Honest.SmallSets.{within-back}

-- a member stands between two pieces
pub record StandsAt {X : Type 0} (xs : List X) (q : X) : Type 0 where
  pub before : List X
  pub after : List X
  pub are : xs ≡ before ++ q ∷ after

pub stands_at : {X : Type 0} (q : X) (xs : List X) → Has q xs → StandsAt xs q
stands_at q [] h = absurd h
stands_at q (x ∷ xs) (inl e) = record { before = []; after = xs; are = ap (λ z. z ∷ xs) e }
stands_at q (x ∷ xs) (inr h) = let s = stands_at q xs h in record { before = x ∷ s.before; after = s.after; are = ap (λ l. x ∷ l) s.are }

-- in an honest list with a seal of a partition stand as many records of it as the seal counts
pub partition_count : (places : List ℕ) (list : List Message) (key : Row) (count : ℕ) → IsHonest places list → Has (seal key count) list
    → length (filter (λ r. is_same_row (cells places r) key) (rows_in list)) ≡ count
partition_count places list key count honest h =
    let s = stands_at (seal key count) list h in
    let t = honest s.before s.after key count s.are in
    let test : Row → Bool = λ r. is_same_row (cells places r) key in
    let none : filter test (rows_in s.after) ≡ [] = none_of test (rows_in s.after) (λ r m. t.no_row r (Has-from_rows_in r s.after m)) in
    ap (λ l. length (filter test (rows_in l))) s.are
    ∙ ap (λ l. length (filter test l)) (filter_map-append row_in s.before (seal key count ∷ s.after))
    ∙ ap length (filter-append test (rows_in s.before) (rows_in s.after))
    ∙ ap (λ l. length (filter test (rows_in s.before) ++ l)) none
    ∙ (let e : length (filter test (rows_in s.before) ++ []) ≡ length (filter test (rows_in s.before)) + 0 = length-append (filter test (rows_in s.before)) [] in
    let f : length (filter test (rows_in s.before) ++ []) ≡ length (filter test (rows_in s.before)) = omega (arith, e) in f)
    ∙ t.counts

-- ---- records from a feed

-- the key value of a record at a feed's port
key_at : (i : Instance) (feed : ℕ) (places : List ℕ) (r : Row) → key_places_at i (port_of_feed i feed) ≡ Some places → key_of_entry i (port_of_feed i feed, r) ≡ Some (cells places r)
key_at i feed places r e = ap (option_map (λ ps. cells ps r)) e

-- an entry that was heard from a feed is a record at its port
pub record FromFeed (i : Instance) (heard : List Pair) (feed : ℕ) (entry : Entry) : Type 0 where
  pub pair_heard : Has (feed, row entry.1) heard
  pub port : entry.0 ≡ port_of_feed i feed

pub from_feed-entry : (i : Instance) (heard : List Pair) (feed : ℕ) (entry : Entry) → Has entry (entries_of i (from_feed feed heard)) → FromFeed i heard feed entry
from_feed-entry i heard feed entry h =
    let e = heard_entry i (from_feed feed heard) entry h in
    let kept = Has-from_filter (λ pair. pair.0 == feed) (e.feed, row entry.1) heard e.there in
    let same : e.feed ≡ feed = eqb-true e.feed feed kept.1 in
    record { pair_heard = subst (λ f. Has (f, row entry.1) heard) same kept.0; port = sym e.port ∙ ap (port_of_feed i) same }

-- ---- heard whole

pub heard_whole : (w : Wiring) (given : Data) (x : Execution) (i : Instance) (heard : List Pair) (key : Row) (feed : ℕ) (places : List ℕ)
    → ((pair : Pair) → Has pair heard → ComesFrom w given x i pair)
    → is_whole i heard key ≡ true → Has feed (carrying_feeds i) → key_places_at i (port_of_feed i feed) ≡ Some places
    → IsHonest places (emitted_list w given x (feed_numbered i feed).stream (feed_numbered i feed).sender)
    → (r : Row) → Has (row r) (emitted_list w given x (feed_numbered i feed).stream (feed_numbered i feed).sender) → is_same_row (cells places r) key ≡ true → Has (port_of_feed i feed, r) (entries_of i heard)
heard_whole w given x i heard key feed places comes whole carrying has_key honest r sent of_key =
    let list : List Message = emitted_list w given x (feed_numbered i feed).stream (feed_numbered i feed).sender in
    let test : Row → Bool = λ q. is_same_row (cells places q) key in
    let s = whole-seal i heard key feed whole carrying in
    let pair : Pair = (feed, seal key s.count) in
    let sealed : Has (seal key s.count) list = (comes pair s.heard_there).sent in
    let all : List Row = filter test (rows_in list) in
    let there : List Entry = filter (is_of_key i key) (entries_of i (from_feed feed heard)) in
    let some : List Row = map (λ e. e.1) there in
    let count : length all ≡ s.count = partition_count places list key s.count honest sealed in
    let within : IsWithin (set_of some) (set_of all) = λ q h.
    let m = Has-from_map (λ e. e.1) q there (Has-from_set_of q some h) in
    let kept = Has-from_filter (is_of_key i key) m.0 (entries_of i (from_feed feed heard)) m.1 in
    let f = from_feed-entry i heard feed m.0 kept.0 in
    let of : key_of_entry i m.0 ≡ Some key = of_key-is i key m.0 kept.1 in
    let entry_is : key_of_entry i m.0 ≡ Some (cells places m.0.1) = ap (λ p. option_map (λ ps. cells ps m.0.1) (key_places_at i p)) f.port ∙ key_at i feed places m.0.1 has_key in
    let same : cells places m.0.1 ≡ key = ap (λ o. unwrap_or o key) (sym entry_is ∙ of) in
    let passes : test m.0.1 ≡ true = ap (λ k. is_same_row k key) same ∙ is_same_row-itself key in
    let message : Pair = (feed, row m.0.1) in
    let emitted_row : Has (row m.0.1) list = (comes message f.pair_heard).sent in
    Has-set_of q all (subst (λ z. Has z all) m.2 (Has-filter test m.0.1 (rows_in list) (Has-rows_in m.0.1 list emitted_row) passes)) in
    let few = length-set_of-le all in
    let enough : length (set_of all) ≤ length (set_of some) = omega (arith, few, count, s.enough) in
    let back = within-back (set_of some) (set_of all) (sorted_set_of some) (sorted_set_of all) within enough r (Has-set_of r all (Has-filter test r (rows_in list) (Has-rows_in r list sent) of_key)) in
    let m = Has-from_map (λ e. e.1) r there (Has-from_set_of r some back) in
    let kept = Has-from_filter (is_of_key i key) m.0 (entries_of i (from_feed feed heard)) m.1 in
    let f = from_feed-entry i heard feed m.0 kept.0 in
    entry_heard i heard feed r (subst (λ z. Has (feed, row z) heard) {x = m.0.1} m.2 f.pair_heard)
