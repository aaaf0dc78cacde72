-- What a net counts as left, by what it keeps.
use Rattle.std.specs.Prelude.{◌≡◌, ◌<◌, ℕ, not, Bool, true, false, List, length, slice_index_or}
use Rattle.std.specs.List.{list_any, count_by, sum_by}
use Rattle.std.specs.Option.{option_map_or}
use Rattle.blz_value.specs.Record.{Row as Record}
use Rattle.topo_forms.specs.Feeds.{Feed, no_feed}
use Rattle.topo_forms.specs.Messages.{row_in}
use Rattle.blz_value.specs.NumberSets.{below}
use Rattle.topo_forms.specs.View.{View}
use Rattle.messages.specs.Ids.{message_with_id}
use Rattle.blz_pool.specs.Entries.{EntryId, entries_with_ids}
use Rattle.messages.specs.Messages.{is_same_entry}
use Rattle.messages.specs.declared.message.Message.{Message as IdMessage}
use Rattle.messages.specs.Known.{is_known}
use Rattle.sched_net.specs.Seen.{list_seen}

-- the list of a feed with a number
abbrev pub feed_list : View → (lists : List (List IdMessage)) → List Feed → (number : ℕ) → List IdMessage
feed_list v lists feeds number =
    let feed = slice_index_or feeds number no_feed in
    list_seen v lists feed.stream feed.sender

-- each message of a feed that is known stands in the feed's list
abbrev pub AreWithin : View → (lists : List (List IdMessage)) → (known : List (List ℕ)) → List Feed → Type 0
AreWithin v lists known feeds = (number index : ℕ) → number < length feeds → is_known known number index ≡ true → index < length (feed_list v lists feeds number)

-- how many of the first indexes of a list aren't known on a feed
abbrev pub unknown_on : (known : List (List ℕ)) → (feed count : ℕ) → ℕ
unknown_on known feed count = count_by (λ index. not (is_known known feed index)) (below count)

-- and so of the list of a feed with a number
abbrev pub unknown_at : View → (lists : List (List IdMessage)) → (known : List (List ℕ)) → List Feed → (number : ℕ) → ℕ
unknown_at v lists known feeds number = unknown_on known number (length (feed_list v lists feeds number))

-- and of all feeds
abbrev pub unknown_in : View → (lists : List (List IdMessage)) → (known : List (List ℕ)) → List Feed → ℕ
unknown_in v lists known feeds = sum_by (unknown_at v lists known feeds) (below (length feeds))

-- a message is a record that isn't in a log at a port
abbrev pub is_unlogged : List Record → (log : List EntryId) → (port : ℕ) → IdMessage → Bool
is_unlogged records log port message = option_map_or (λ r. not (list_any (is_same_entry (port, r)) (entries_with_ids records log))) (row_in (message_with_id records message)) false

-- how many messages of a feed's list are such
abbrev pub unlogged_on : View → List Record → (lists : List (List IdMessage)) → (log : List EntryId) → Feed → ℕ
unlogged_on v records lists log feed = count_by (is_unlogged records log feed.port) (list_seen v lists feed.stream feed.sender)

-- and of all feeds
abbrev pub unlogged_in : View → List Record → (lists : List (List IdMessage)) → (log : List EntryId) → List Feed → ℕ
unlogged_in v records lists log feeds = sum_by (unlogged_on v records lists log) feeds
