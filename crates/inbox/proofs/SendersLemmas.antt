-- The feeds of an instance are those of its ports' streams by the replicas that send to it.
use Rattle.std.proofs.Common.{◌≡◌, refl, ap, ℕ, ◌||◌, Bool, true, false, List, [], ◌∷◌, filter, cond}
use Rattle.std.specs.List.{flat_map}
use Rattle.topo_forms.specs.Feeds.{Feed, are_paired, feeds_from, feeds, log_feeds}
use Rattle.blz_value.specs.NumberSets.{below}
use Rattle.topo_forms.specs.View.{View, port_numbers, streams_to, stream_replicas, replicas_of, is_order}
use Rattle.inbox.specs.Senders.{senders_for}
use Rattle.inbox.specs.Wiring.{feeds_for}

all_kept : (xs : List ℕ) → filter (λ x. true) xs ≡ xs
all_kept [] = refl
all_kept (x ∷ xs) = ap (λ l. x ∷ l) (all_kept xs)

-- the feeds of a component's ports where these replicas of each stream send to it
abbrev pub sent_by : View → (component : ℕ) → (senders : ℕ → List ℕ) → List Feed
sent_by v c senders = flat_map (λ p. flat_map (λ s. feeds_from p s (senders s)) (streams_to v c p)) (port_numbers v c)

sent_where : (v : View) (c j : ℕ) (b : Bool) → sent_by v c (λ s. filter (λ i. b || are_paired (stream_replicas v s) (replicas_of v c) i j) (below (stream_replicas v s))) ≡ cond b (log_feeds v c) (feeds v c j)
sent_where v c j true = ap (sent_by v c) (λ n s. all_kept (below (stream_replicas v s)) n)
sent_where v c j false = refl

pub feeds_sent : (v : View) (c j : ℕ) → flat_map (λ p. flat_map (λ s. feeds_from p s (senders_for v c j s)) (streams_to v c p)) (port_numbers v c) ≡ feeds_for v c j
feeds_sent v c j = sent_where v c j (is_order v c)
