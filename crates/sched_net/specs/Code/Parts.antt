-- What is read of the parts of an event: pairs by the ids of their records, or the first refusal.
use Rattle.std.specs.Prelude.{◌≡◌, ◌&&◌, ℕ, not, nat_lt, Bool, Some, Result, Ok, Err, List, length, slice_get}
use Rattle.std.specs.List.{AllPairs}
use Rattle.std.specs.Ordering.{ordering_then, nat_cmp}
use Rattle.std.specs.declared.cmp.Ordering.{Ordering}
use Rattle.std.specs.declared.cmp.Ordering.TheVariants.{Less}
use Rattle.blz_value.specs.Members.{Has}
use Rattle.topo_forms.specs.Data.{Data}
use Rattle.topo_forms.specs.Feeds.{Feed}
use Rattle.topo_forms.specs.Messages.{Message}
use Rattle.topo_forms.specs.View.{View, replicas_of, is_order}
use Rattle.messages.specs.Messages.{Pair}
use Rattle.inbox.specs.Instances.{Instance}
use Rattle.messages.specs.Ids.{pair_with_id, batch_with_ids}
use Rattle.inbox.specs.Wiring.{wiring_of, instance_at, instance_for}
use Rattle.inbox.specs.Growth.{feed_numbered}
use Rattle.inbox.specs.Executions.{pair_of, pairs_of}
use Rattle.inbox.specs.Events.{Part, Step, Refusal, no_instance, no_message}
use Rattle.messages.specs.declared.message.Message.{Message as IdMessage}
use Rattle.messages.specs.Lists.{read_lists}
use Rattle.sched_net.specs.Net.{BooksStand, execution_in, list_on}
use Rattle.sched_net.specs.declared.books.Books.{Books}
use Rattle.messages.specs.declared.fault.EventFault.{EventFault}
use Rattle.messages.specs.declared.fault.EventFault.TheVariants.{NoInstance, NoMessage, NothingToTake, TooManyRows, TooManyMessages, NoMemory}

-- feeds go by port, then by stream, then by sender
abbrev pub feed_cmp : Feed → Feed → Ordering
feed_cmp f g = ordering_then (ordering_then (nat_cmp f.port g.port) (nat_cmp f.stream g.stream)) (nat_cmp f.sender g.sender)

-- each feed is before those behind it
abbrev pub FeedsRise : List Feed → Type 0
FeedsRise feeds = AllPairs (λ f g. feed_cmp f g ≡ Less) feeds

-- what is asked for is this as it is read, or it is refused so; want of memory says nothing
abbrev pub IsReadAs : {X Y : Type 0} → (read : X → Y) → (asked : Result Y Refusal) → Result X EventFault → Type 0
IsReadAs read asked (Ok x) = asked ≡ Ok (read x)
IsReadAs read asked (Err NoInstance) = asked ≡ Err no_instance
IsReadAs read asked (Err NoMessage) = asked ≡ Err no_message
IsReadAs read asked (Err NothingToTake) = ⊥
IsReadAs read asked (Err TooManyRows) = ⊥
IsReadAs read asked (Err TooManyMessages) = ⊥
IsReadAs read asked (Err NoMemory) = Unit {0}

-- the pair of a part, for whatever steps the books stand
abbrev pub PairAnswers : View → Books → (component replica : ℕ) → Part → Result (ℕ × IdMessage) EventFault → Type 0
PairAnswers v books c r part result = (given : Data) (steps : List Step) (stand : BooksStand v given steps books)
    → IsReadAs (pair_with_id books.lists.records) (pair_of (wiring_of v) given (execution_in stand) (instance_at (wiring_of v) c r) part) result

-- the pairs of some parts
abbrev pub PairsAnswer : {X : Type 0} → View → Books → (component replica : ℕ) → List Part → Result X EventFault → (pairs : X → List (ℕ × IdMessage)) → Type 0
PairsAnswer v books c r parts result pairs = (given : Data) (steps : List Step) (stand : BooksStand v given steps books)
    → IsReadAs (λ x. batch_with_ids books.lists.records (pairs x)) (pairs_of (wiring_of v) given (execution_in stand) (instance_at (wiring_of v) c r) parts) result

-- a message stands at an index of the emitted list of a feed
abbrev pub StandsAt : View → Instance → List (List Message) → (feed index : ℕ) → Message → Type 0
StandsAt v i lists feed index message = slice_get (list_on v lists (feed_numbered i feed)) index ≡ Some message

-- each pair has its index, and each index its pair
pub record HaveIndexes (v : View) (i : Instance) (lists : List (List Message)) (pairs : List Pair) (indexes : List (ℕ × ℕ)) : Type 0 where
  pub sound : (feed index : ℕ) → Has (feed, index) indexes → (message : Message) × StandsAt v i lists feed index message × Has (feed, message) pairs
  pub whole : (feed : ℕ) (message : Message) → Has (feed, message) pairs → (index : ℕ) × StandsAt v i lists feed index message × Has (feed, index) indexes

-- these are the pairs of some parts, and these their indexes
pub record ArePairs (v : View) (books : Books) (c r : ℕ) (parts : List Part) (pairs : List (ℕ × IdMessage)) (indexes : List (ℕ × ℕ)) : Type 0 where
  pub are : PairsAnswer v books c r parts (Ok pairs) (λ (ps : List (ℕ × IdMessage)). ps)
  pub indexes_are : HaveIndexes v (instance_for v c r) (read_lists books.lists) (batch_with_ids books.lists.records pairs) indexes

-- the instance is there and hears messages itself
abbrev pub hears_itself : View → (component replica : ℕ) → Bool
hears_itself v c r = nat_lt c (length v.components) && (nat_lt r (replicas_of v c) && not (is_order v c))
