-- An inbox that heard nothing, or forgot all of it, stands for no batches.
use Rattle.std.proofs.Common.{◌≡◌, refl, ap, sym, subst, ◌∙◌, ℕ, zero, suc, ◌+◌, ◌<◌, ◌||◌, Bool, true, false, not, cond, List, [], ◌∷◌, length, map, filter, arith, get_or}
use Rattle.std.specs.List.{list_any, range_with_len, slice_get}
use Rattle.std.specs.Option.{option_map_or}
use Rattle.blz_value.specs.Members.{Has}
use Rattle.blz_value.specs.Record.{Row}
use Rattle.blz_value.proofs.Membership.{Has-get_or}
use Rattle.topo_forms.specs.Feeds.{Feed as TopoFeed, feeds, log_feeds, no_feed}
use Rattle.topo_forms.specs.View.{View, is_order, is_order_mode, mode_of, mode_key, port_numbers}
use Rattle.messages.specs.Messages.{Pair, Batch, Entry, all_pairs}
use Rattle.inbox.specs.Instances.{Instance, PortKey, port_of_feed, is_carrying}
use Rattle.inbox.specs.Timesteps.{is_some_feed, is_due}
use Rattle.inbox.specs.Wiring.{instance_for, port_for}
use Rattle.blz_pool.specs.Entries.{EntryId, entries_with_ids}
use Rattle.inbox.specs.Code.Places.{places_of}
use Rattle.messages.specs.Whole.{feeds_view}
use Rattle.messages.specs.Feeds.{FeedView, FeedsView, feed_count, IsFreshFeed, carries_at, IsFresh, IsCleared}
use Rattle.inbox.specs.Code.Heard.{FeedHeard, FeedsHeard, WaitingHeard, is_sealing}
use Rattle.inbox.specs.Inbox.{Keeps, HasHeard}
use Rattle.inbox.specs.declared.waiting.Waiting.{Waiting}
use Rattle.inbox.specs.declared.inbox.Inbox.{Inbox}
use Rattle.inbox.proofs.WiringLemmas.{instance-feeds, instance-ports, port_of-feed}

-- ---- some feed

some-filter : (p : ℕ → Bool) (xs : List ℕ) → is_some_feed (filter p xs) ≡ list_any p xs
some-filter p [] = refl
some-filter p (x ∷ xs) = elim (p x) as (λ b. is_some_feed (cond b (x ∷ filter p xs) (filter p xs)) ≡ (b || list_any p xs)) [ true ↦ refl | false ↦ some-filter p xs ]

any_by_place : {X : Type 0} (xs : List X) (g : X → Bool) (f : ℕ → Bool) (a : ℕ) → ((k : ℕ) (d : X) → k < length xs → g (get_or xs k d) ≡ f (a + k)) → list_any g xs ≡ list_any f (range_with_len a (length xs))
any_by_place [] g f a same = refl
any_by_place (x ∷ xs) g f a same =
    let start : a + 0 ≡ a = omega arith in
    ap (λ b. b || list_any g xs) (same 0 x (let below : 0 < suc (length xs) = omega arith in below) ∙ ap f start)
    ∙ ap (λ b. f a || b) (any_by_place xs g f (a + 1) (λ k d below.
    let next : a + suc k ≡ a + 1 + k = omega arith in
    same (suc k) d (let more : suc k < suc (length xs) = omega arith in more) ∙ ap f next))

-- ---- one feed

fresh_feed : (i : Instance) (records : List Row) (k : ℕ) (f : FeedView) (port : ℕ) (carries : Bool) → IsFreshFeed port carries f → port ≡ port_of_feed i k → carries ≡ is_carrying i (port_of_feed i k) → FeedHeard i records k [] f
fresh_feed i records k f port carries fresh is own = record {
  port = fresh.port_is ∙ is;
  carries = fresh.carries_is ∙ own;
  given = λ id known. absurd (let none : true ≡ false = sym known ∙ fresh.known id in cc);
  rows = λ r h. absurd h;
  known = λ id below. fresh.known id;
  have = λ key. fresh.have key;
  need = λ key n. fresh.need key n;
}

-- ---- all feeds

module _ (i : Instance) (records : List Row) where
  port_at : (k : ℕ) → k < length i.feeds → get_or (map (λ (f : TopoFeed). f.port) i.feeds) k 0 ≡ port_of_feed i k
  port_at k within = by i.feeds k within
    where
      by : (fs : List TopoFeed) (n : ℕ) → n < length fs → get_or (map (λ (f : TopoFeed). f.port) fs) n 0 ≡ option_map_or (λ (f : TopoFeed). f.port) (slice_get fs n) (length i.ports)
      by [] n below = absurd (omega arith)
      by (f ∷ fs) zero below = refl
      by (f ∷ fs) (suc n) below = by fs n (omega arith)

  pub fresh_feeds : (f : FeedsView) → IsFresh i.ports (map (λ (x : TopoFeed). x.port) i.feeds) f → ((feed : ℕ) → feed < length i.feeds → port_of_feed i feed < length i.ports) → FeedsHeard i records [] f
  fresh_feeds f fresh inside =
      let count : feed_count f ≡ length i.feeds = fresh.feeds.count ∙ length-map i.feeds in
      let each : (k : ℕ) (d : FeedView) → k < feed_count f → FeedHeard i records k [] (get_or f.feeds k d) = λ k d within.
      let at = port_at k (subst (λ n. k < n) count within) in
      fresh_feed i records k (get_or f.feeds k d) (get_or (map (λ (x : TopoFeed). x.port) i.feeds) k 0) (carries_at i.ports (get_or (map (λ (x : TopoFeed). x.port) i.feeds) k 0))
      (fresh.feeds.each k d within) at (ap (carries_at i.ports) at) in
      record {
        ports = fresh.ports_are;
        count = count;
        some =
            fresh.some
            ∙ any_by_place f.feeds (λ (x : FeedView). x.carries) (λ feed. is_carrying i (port_of_feed i feed)) 0
            (λ k d within. let own : 0 + k ≡ k = omega arith in (each k d within).carries ∙ ap (λ feed. is_carrying i (port_of_feed i feed)) (sym own))
            ∙ ap (λ n. list_any (λ feed. is_carrying i (port_of_feed i feed)) (range_with_len 0 n)) count
            ∙ sym (some-filter (λ feed. is_carrying i (port_of_feed i feed)) (range_with_len 0 (length i.feeds)));
        within = inside;
        each = each;
      }
    where
      length-map : (fs : List TopoFeed) → length (map (λ (x : TopoFeed). x.port) fs) ≡ length fs
      length-map [] = refl
      length-map (x ∷ fs) = ap suc (length-map fs)

  cleared_feeds : (before : List Row) (heard : List Pair) (old new : FeedsView) → FeedsHeard i before heard old → IsCleared old new → FeedsHeard i records [] new
  cleared_feeds before heard old new s c = record {
    ports = c.ports ∙ s.ports;
    count = c.count ∙ s.count;
    some = c.some ∙ s.some;
    within = s.within;
    each = λ k d within.
        let own = s.each k d (subst (λ n. k < n) c.count within) in
        fresh_feed i records k (get_or new.feeds k d) (get_or old.feeds k d).port (get_or old.feeds k d).carries (c.each k d (subst (λ n. k < n) c.count within)) own.port own.carries;
  }

  empty_waiting : (waits : Entry → Bool) (w : Waiting) → w.log ≡ [] → ((key : Row) → places_of w.places key ≡ []) → w.held ≡ 0 → WaitingHeard i records waits [] w
  empty_waiting waits w log places held = record {
    given = λ e h. absurd (subst (λ l. Has e l) log h);
    log = ap (λ (l : List EntryId). entries_with_ids records l) log;
    within = λ key place h. absurd (subst (λ l. Has place l) (places key) h);
    placed = λ key place h. absurd (subst (λ l. Has place l) (places key) h);
    all = λ key place below e. absurd (none_below (subst (λ (l : List EntryId). place < length l) log below));
    held = held ∙ sym (ap (λ (l : List EntryId). length (filter waits (entries_with_ids records l))) log);
  }
    where
      none_below : {n : ℕ} → n < 0 → ⊥
      none_below below = absurd (omega arith)

  -- ---- no batches

  stands_for_none : (waits : Entry → Bool) (x : Inbox) → x.sealing ≡ is_sealing i.mode → is_order_mode i.mode ≡ false → FeedsHeard i records [] (feeds_view x.feeds) → x.waiting.log ≡ [] → ((key : Row) → places_of x.waiting.places key ≡ []) → x.waiting.held ≡ 0
      → Keeps i records waits [] x
  stands_for_none waits x mode hears heard log places held = record {
    mode = mode;
    hears = hears;
    come = λ entry h. absurd h;
    feeds = heard;
    waiting = λ on. empty_waiting waits x.waiting log places held;
    idle = λ off. record { log = log; held = held };
  }

  pub has_cleared : (before : List Row) (batches : List Batch) (old new : Inbox) → HasHeard i before batches old → new.sealing ≡ old.sealing → IsCleared (feeds_view old.feeds) (feeds_view new.feeds) → new.waiting.log ≡ [] → ((key : Row) → places_of new.waiting.places key ≡ []) → new.waiting.held ≡ 0
      → HasHeard i records [] new
  has_cleared before batches old new s mode feeds log places held =
      stands_for_none (λ entry. not (is_due i [] entry)) new (mode ∙ s.mode) s.hears (cleared_feeds before (all_pairs batches) (feeds_view old.feeds) (feeds_view new.feeds) s.feeds feeds) log places held

-- of an instance of a topology
pub has_none : (v : View) (c j : ℕ) (records : List Row) (x : Inbox) → is_order v c ≡ false → x.sealing ≡ is_sealing (mode_of v c)
    → (ports : List PortKey) (feed_ports : List ℕ) → ports ≡ map (λ p. port_for v c p (mode_key (mode_of v c))) (port_numbers v c) → feed_ports ≡ map (λ (f : TopoFeed). f.port) (feeds v c j)
    → IsFresh ports feed_ports (feeds_view x.feeds) → x.waiting.log ≡ [] → ((key : Row) → places_of x.waiting.places key ≡ []) → x.waiting.held ≡ 0
    → HasHeard (instance_for v c j) records [] x
has_none v c j records x hears mode ports feed_ports ports_are feeds_are fresh log places held =
    let i : Instance = instance_for v c j in
    let own : (instance_for v c j).feeds ≡ feeds v c j = ap (λ b. cond b (log_feeds v c) (feeds v c j)) hears in
    let fresh_now : IsFresh i.ports (map (λ (f : TopoFeed). f.port) i.feeds) (feeds_view x.feeds) =
    subst (λ l. IsFresh i.ports l (feeds_view x.feeds)) (feeds_are ∙ ap (map (λ (f : TopoFeed). f.port)) (sym own)) (subst (λ l. IsFresh l feed_ports (feeds_view x.feeds)) ports_are fresh) in
    stands_for_none i records (λ entry. not (is_due i [] entry)) x mode hears
    (fresh_feeds i records (feeds_view x.feeds) fresh_now (λ feed within.
    let into = instance-feeds v c j (get_or i.feeds feed no_feed) (Has-get_or i.feeds feed no_feed within) in
    subst (λ n. n < length i.ports) (sym (port_of-feed i feed within)) (subst (λ n. (get_or i.feeds feed no_feed).port < n) (sym (instance-ports v c j)) into.port)))
    log places held
