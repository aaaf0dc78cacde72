-- A whole partition stays whole, and from each carrying feed a seal of it was heard and as many records as it counts.
use Rattle.std.proofs.Common.{◌≡◌, refl, ap, sym, subst, ◌∙◌, ℕ, ◌≤◌, ◌==◌, ◌&&◌, nat_le, Bool, true, false, not, List, [], ◌∷◌, ◌++◌, length, map, filter, arith, inl, Option, None, Some}
use Rattle.std.specs.List.{list_all}
use Rattle.std.specs.Option.{option_map_or}
use Rattle.std.proofs.lemmas.Bool.{eqb-true, leb-true, le-leb, not-true, not_from_false, and_parts, and_from}
use Rattle.std.proofs.lemmas.List.{map-append}
use Rattle.std.proofs.lemmas.List.Elements.{filter_map-append, filter-append}
use Rattle.blz_value.specs.Members.{Has}
use Rattle.blz_value.specs.Record.{Row}
use Rattle.blz_value.specs.Sets.{set_of}
use Rattle.blz_value.proofs.Membership.{Has-append_left, Has-map, Has-filter, Has-from_filter, any_from_Has, Has-from_any, all_member, all_from}
use Rattle.blz_value.proofs.SetLaws.{Has-set_of}
use Rattle.blz_value.proofs.RowSets.{length-set_of-append_left}
use Rattle.topo_forms.specs.Messages.{Message, row, seal, is_same_row}
use Rattle.messages.specs.Messages.{Pair, Batch, Entry, key_sealed, sealed_in}
use Rattle.inbox.specs.Instances.{Instance, carrying_feeds, entries_of, key_of_entry, is_of_key}
use Rattle.inbox.specs.Timesteps.{is_seal_within, from_feed, count_heard_from, is_whole_from, is_some_feed, is_whole, is_due, sealed_keys, newly_whole}
use Rattle.messages.proofs.MessagesLemmas.{is_same_row-is}
pub use Rattle.messages.proofs.Passing.{Has-filter_map, Has-from_filter_map}

-- ---- more that is heard

pub entries_of-append : (i : Instance) (heard more : List Pair) → entries_of i (heard ++ more) ≡ entries_of i heard ++ entries_of i more
entries_of-append i heard more = filter_map-append _ heard more

pub count_from-more : (i : Instance) (heard more : List Pair) (key : Row) (feed : ℕ) → count_heard_from i heard key feed ≤ count_heard_from i (heard ++ more) key feed
count_from-more i heard more key feed =
    let rows : List Pair → List Row = λ pairs. map (λ entry. entry.1) (filter (is_of_key i key) (entries_of i (from_feed feed pairs))) in
    let split : rows (heard ++ more) ≡ rows heard ++ rows more =
    ap (λ pairs. map (λ entry. entry.1) (filter (is_of_key i key) (entries_of i pairs))) (filter-append (λ pair. pair.0 == feed) heard more)
    ∙ ap (λ entries. map (λ entry. entry.1) (filter (is_of_key i key) entries)) (entries_of-append i (from_feed feed heard) (from_feed feed more))
    ∙ ap (map (λ entry. entry.1)) (filter-append (is_of_key i key) (entries_of i (from_feed feed heard)) (entries_of i (from_feed feed more)))
    ∙ map-append (λ entry. entry.1) (filter (is_of_key i key) (entries_of i (from_feed feed heard))) (filter (is_of_key i key) (entries_of i (from_feed feed more))) in
    subst (λ l. length (set_of (rows heard)) ≤ length (set_of l)) (sym split) (length-set_of-append_left (rows heard) (rows more))

is_seal_within-more : (key : Row) (few many : ℕ) (message : Message) → few ≤ many → is_seal_within key few message ≡ true → is_seal_within key many message ≡ true
is_seal_within-more key few many (row r) le e = cc
is_seal_within-more key few many (seal k count) le e =
    let below : count ≤ few = leb-true count few (and_parts (is_same_row k key) (nat_le count few) e).1 in
    and_from (is_same_row k key) (nat_le count many) (and_parts (is_same_row k key) (nat_le count few) e).0 (le-leb count many (omega arith))

pub whole_from-more : (i : Instance) (heard more : List Pair) (key : Row) (feed : ℕ) → is_whole_from i heard key feed ≡ true → is_whole_from i (heard ++ more) key feed ≡ true
whole_from-more i heard more key feed e =
    let few = count_heard_from i heard key feed in
    let many = count_heard_from i (heard ++ more) key feed in
    let m = Has-from_any (λ pair. is_seal_within key few pair.1) (from_feed feed heard) e in
    let there : Has m.0 (from_feed feed (heard ++ more)) = subst (λ l. Has m.0 l) (sym (filter-append (λ pair. pair.0 == feed) heard more)) (Has-append_left m.0 (from_feed feed heard) (from_feed feed more) m.1) in
    any_from_Has (λ pair. is_seal_within key many pair.1) m.0 (from_feed feed (heard ++ more)) there (is_seal_within-more key few many m.0.1 (count_from-more i heard more key feed) m.2)

-- a whole partition stays whole
pub whole-more : (i : Instance) (heard more : List Pair) (key : Row) → is_whole i heard key ≡ true → is_whole i (heard ++ more) key ≡ true
whole-more i heard more key e =
    and_from (is_some_feed (carrying_feeds i)) (list_all (is_whole_from i (heard ++ more) key) (carrying_feeds i))
    (and_parts (is_some_feed (carrying_feeds i)) (list_all (is_whole_from i heard key) (carrying_feeds i)) e).0
    (all_from (is_whole_from i (heard ++ more) key) (carrying_feeds i) (λ feed h. whole_from-more i heard more key feed
    (all_member (is_whole_from i heard key) (carrying_feeds i) feed (and_parts (is_some_feed (carrying_feeds i)) (list_all (is_whole_from i heard key) (carrying_feeds i)) e).1 h)))

due_by : (i : Instance) (heard more : List Pair) (key : Option Row) → option_map_or (is_whole i heard) key true ≡ true → option_map_or (is_whole i (heard ++ more)) key true ≡ true
due_by i heard more None e = refl
due_by i heard more (Some key) e = whole-more i heard more key e

-- and what waited for nothing goes on so
pub due-more : (i : Instance) (heard more : List Pair) (entry : Entry) → is_due i heard entry ≡ true → is_due i (heard ++ more) entry ≡ true
due-more i heard more entry e = due_by i heard more (key_of_entry i entry) e

-- ---- seals

first_of_some : (feeds : List ℕ) → is_some_feed feeds ≡ true → (feed : ℕ) × Has feed feeds
first_of_some [] e = cc
first_of_some (feed ∷ feeds) e = (feed, inl refl)

-- the seal by which a partition is whole from a feed
pub record SealFrom (i : Instance) (heard : List Pair) (key : Row) (feed : ℕ) : Type 0 where
  pub count : ℕ
  pub heard_there : Has (feed, seal key count) heard
  pub enough : count ≤ count_heard_from i heard key feed

seal_in : (i : Instance) (heard : List Pair) (key : Row) (feed : ℕ) (from : ℕ) (message : Message) → from ≡ feed → Has (from, message) heard → is_seal_within key (count_heard_from i heard key feed) message ≡ true → SealFrom i heard key feed
seal_in i heard key feed from (row r) same h e = cc
seal_in i heard key feed from (seal k count) same h e =
    let k_is : k ≡ key = is_same_row-is k key (and_parts (is_same_row k key) (nat_le count (count_heard_from i heard key feed)) e).0 in
    record {
      count = count;
      heard_there = subst (λ f. Has (f, seal key count) heard) same (subst (λ l. Has (from, seal l count) heard) k_is h);
      enough = leb-true count (count_heard_from i heard key feed) (and_parts (is_same_row k key) (nat_le count (count_heard_from i heard key feed)) e).1;
    }

pub whole_from-seal : (i : Instance) (heard : List Pair) (key : Row) (feed : ℕ) → is_whole_from i heard key feed ≡ true → SealFrom i heard key feed
whole_from-seal i heard key feed e =
    let m = Has-from_any (λ pair. is_seal_within key (count_heard_from i heard key feed) pair.1) (from_feed feed heard) e in
    let kept = Has-from_filter (λ pair. pair.0 == feed) m.0 heard m.1 in
    seal_in i heard key feed m.0.0 m.0.1 (eqb-true m.0.0 feed kept.1) kept.0 m.2

-- from each feed of a port that carries the key there is one
pub whole-seal : (i : Instance) (heard : List Pair) (key : Row) (feed : ℕ) → is_whole i heard key ≡ true → Has feed (carrying_feeds i) → SealFrom i heard key feed
whole-seal i heard key feed e h = whole_from-seal i heard key feed (all_member (is_whole_from i heard key) (carrying_feeds i) feed (and_parts (is_some_feed (carrying_feeds i)) (list_all (is_whole_from i heard key) (carrying_feeds i)) e).1 h)

-- so a whole partition is one of those of which seals were heard
pub whole-sealed : (i : Instance) (heard : List Pair) (key : Row) → is_whole i heard key ≡ true → Has key (sealed_keys heard)
whole-sealed i heard key e =
    let some = first_of_some (carrying_feeds i) (and_parts (is_some_feed (carrying_feeds i)) (list_all (is_whole_from i heard key) (carrying_feeds i)) e).0 in
    let s = whole-seal i heard key some.0 e some.1 in
    let pair : Pair = (some.0, seal key s.count) in
    Has-set_of key (sealed_in (map (λ p. p.1) heard)) (Has-filter_map key_sealed (seal key s.count) key (map (λ p. p.1) heard) (Has-map (λ p. p.1) pair heard s.heard_there) refl)

-- the partitions that become whole with a batch are those that are whole after it and weren't before
pub record BecomesWhole (i : Instance) (heard : List Pair) (batch : Batch) (key : Row) : Type 0 where
  pub before : is_whole i heard key ≡ false
  pub after : is_whole i (heard ++ batch) key ≡ true

pub newly-becomes : (i : Instance) (heard : List Pair) (batch : Batch) (key : Row) → Has key (newly_whole i heard batch) → BecomesWhole i heard batch key
newly-becomes i heard batch key h =
    let test : Row → Bool = λ k. not (is_whole i heard k) && is_whole i (heard ++ batch) k in
    let kept = Has-from_filter test key (sealed_keys (heard ++ batch)) h in
    record { before = not-true (is_whole i heard key) (and_parts (not (is_whole i heard key)) (is_whole i (heard ++ batch) key) kept.1).0; after = (and_parts (not (is_whole i heard key)) (is_whole i (heard ++ batch) key) kept.1).1 }

pub becomes-newly : (i : Instance) (heard : List Pair) (batch : Batch) (key : Row) → BecomesWhole i heard batch key → Has key (newly_whole i heard batch)
becomes-newly i heard batch key b =
    let test : Row → Bool = λ k. not (is_whole i heard k) && is_whole i (heard ++ batch) k in
    Has-filter test key (sealed_keys (heard ++ batch)) (whole-sealed i (heard ++ batch) key b.after) (and_from (not (is_whole i heard key)) (is_whole i (heard ++ batch) key) (not_from_false (is_whole i heard key) b.before) b.after)
