-- What instances have heard and what logs hold was emitted before, in lists that only grow.
use Rattle.std.proofs.Common.{◌≡◌, refl, ap, sym, subst, ◌∙◌, ℕ, ◌<◌, ◌==◌, ◌&&◌, Bool, true, false, List, [], ◌∷◌, length, inl, inr, ◌⊎◌, Option, None, Some}
use Rattle.std.specs.Prelude.{Ok, if◌then◌else◌}
use Rattle.std.proofs.lemmas.Bool.{eqb-true, and_parts}
use Rattle.std.proofs.lemmas.List.Quantifiers.{position-Some}
use Rattle.blz_value.specs.Members.{Has}
use Rattle.blz_value.proofs.Membership.{Has-append_left, Has-append_right, Has-append_cases, Has-get_or}
use Rattle.blz_value.proofs.Options.{Has-slice_get}
use Rattle.topo_forms.specs.Data.{Data}
use Rattle.topo_forms.specs.Feeds.{Feed, no_feed}
use Rattle.topo_forms.specs.Messages.{Message, row, seal}
use Rattle.messages.specs.Messages.{Pair, Batch, Entry, is_same_entry, with_new}
use Rattle.inbox.specs.Instances.{Instance}
use Rattle.inbox.specs.Lives.{Life, Lives, empty_life, all_lives, hear_batch, take_entry, forget_all}
use Rattle.inbox.specs.Wiring.{Wiring, instance_at}
use Rattle.inbox.specs.Executions.{Execution, first_execution, with_lives, emitted_list, feed_of, message_of, pair_with, pair_of, pairs_of, result_and_then, with_logged, execution_of}
use Rattle.inbox.specs.Growth.{Continues, IsExtendedBy, TakesWithinLogs, feed_numbered, ComesFrom, HearsWhatIsSent, EntryComesFrom, WasSentBefore}
use Rattle.inbox.specs.Laws.{IsSent, AllWasSentBefore}
use Rattle.inbox.specs.Events.{Part, Step}
use Rattle.messages.proofs.MessagesLemmas.{is_same_entry-is, is_same_entry-itself, Has-from_with_new}
use Rattle.inbox.proofs.Executions.Results.{Ok_same, and_then_Ok}
use Rattle.inbox.proofs.Executions.Histories.{Changes, hears, logs, takes, forgets, step_changes, by_history}
use Rattle.inbox.proofs.Executions.Lengthening.{same_numbers, with_logged-lives, step_takes, begun_takes, step_grows}

pub Has-continues : {X : Type 0} (q : X) (xs ys : List X) → Continues xs ys → Has q xs → Has q ys
Has-continues q xs ys c h = subst (λ l. Has q l) c.with_more (Has-append_left q xs c.more h)

comes-on : (w : Wiring) (given : Data) (x y : Execution) (i : Instance) (pair : Pair) → IsExtendedBy w given x y → ComesFrom w given x i pair → ComesFrom w given y i pair
comes-on w given x y i pair grows c = record {
  of_feed = c.of_feed;
  sent = Has-continues pair.1 _ _ (grows.lists (feed_numbered i pair.0).stream (feed_numbered i pair.0).sender) c.sent;
}

entry-on : (w : Wiring) (given : Data) (x y : Execution) (i : Instance) (entry : Entry) → IsExtendedBy w given x y → EntryComesFrom w given x i entry → EntryComesFrom w given y i entry
entry-on w given x y i entry grows c = record {
  feed = c.feed;
  of_feed = c.of_feed;
  port = c.port;
  sent = Has-continues (row entry.1) _ _ (grows.lists c.feed.stream c.feed.sender) c.sent;
}

-- ---- parts that are legal

-- the pair that a legal part gives: its feed is that of the part, and its message is the one that is sent
pub record IsPairOf (w : Wiring) (given : Data) (x : Execution) (i : Instance) (part : Part) (pair : Pair) : Type 0 where
  pub feed : feed_of i part ≡ Some pair.0
  pub message : message_of w given x part.sent ≡ Some pair.1

pair_with-is : (feed : Option ℕ) (message : Option Message) (pair : Pair) → pair_with feed message ≡ Ok pair → (feed ≡ Some pair.0) × (message ≡ Some pair.1)
pair_with-is None message pair e = cc
pair_with-is (Some feed) None pair e = cc
pair_with-is (Some feed) (Some message) pair e =
    let same : (feed, message) ≡ pair = Ok_same (Ok (feed, message)) (feed, message) pair refl e in
    (ap (λ p. Some p.0) same, ap (λ p. Some p.1) same)

pub pair_of-is : (w : Wiring) (given : Data) (x : Execution) (i : Instance) (part : Part) (pair : Pair) → pair_of w given x i part ≡ Ok pair → IsPairOf w given x i part pair
pair_of-is w given x i part pair e = let both = pair_with-is (feed_of i part) (message_of w given x part.sent) pair e in record { feed = both.0; message = both.1 }

-- the feed is at that port, and of that stream and sender
pub record IsFeedOf (i : Instance) (part : Part) (number : ℕ) : Type 0 where
  pub within : number < length i.feeds
  pub port : (feed_numbered i number).port ≡ part.port
  pub stream : (feed_numbered i number).stream ≡ part.sent.stream
  pub sender : (feed_numbered i number).sender ≡ part.sent.replica

pub feed_of-is : (i : Instance) (part : Part) (number : ℕ) → feed_of i part ≡ Some number → IsFeedOf i part number
feed_of-is i part number e =
    let test : Feed → Bool = λ feed. feed.port == part.port && (feed.stream == part.sent.stream && feed.sender == part.sent.replica) in
    let p = position-Some test i.feeds number no_feed e in
    let f = feed_numbered i number in
    let rest = (and_parts (f.port == part.port) (f.stream == part.sent.stream && f.sender == part.sent.replica) p.1).1 in
    record {
      within = p.0;
      port = eqb-true f.port part.port (and_parts (f.port == part.port) (f.stream == part.sent.stream && f.sender == part.sent.replica) p.1).0;
      stream = eqb-true f.stream part.sent.stream (and_parts (f.stream == part.sent.stream) (f.sender == part.sent.replica) rest).0;
      sender = eqb-true f.sender part.sent.replica (and_parts (f.stream == part.sent.stream) (f.sender == part.sent.replica) rest).1;
    }

pub pair-comes : (w : Wiring) (given : Data) (x : Execution) (i : Instance) (part : Part) (pair : Pair) → IsPairOf w given x i part pair → ComesFrom w given x i pair
pair-comes w given x i part pair is =
    let f = feed_of-is i part pair.0 is.feed in
    record {
      of_feed = f.within;
      sent = subst (λ s. Has pair.1 (emitted_list w given x s (feed_numbered i pair.0).sender)) (sym f.stream)
          (subst (λ r. Has pair.1 (emitted_list w given x part.sent.stream r)) (sym f.sender) (Has-slice_get (emitted_list w given x part.sent.stream part.sent.replica) part.sent.index pair.1 is.message));
    }

pub pairs-come : (w : Wiring) (given : Data) (x : Execution) (i : Instance) (parts : List Part) (pairs : List Pair) → pairs_of w given x i parts ≡ Ok pairs → (pair : Pair) → Has pair pairs → ComesFrom w given x i pair
pairs-come w given x i [] pairs e pair h =
    let none : [] ≡ pairs = Ok_same (Ok []) [] pairs refl e in
    absurd (subst (λ l. Has pair l) (sym none) h)
pairs-come w given x i (part ∷ parts) pairs e pair h =
    let a = and_then_Ok (pair_of w given x i part) (λ p. result_and_then (pairs_of w given x i parts) (λ ps. Ok (p ∷ ps))) pairs e in
    let b = and_then_Ok (pairs_of w given x i parts) (λ ps. Ok (a.0 ∷ ps)) pairs a.2 in
    let are : (a.0 ∷ b.0) ≡ pairs = Ok_same (Ok (a.0 ∷ b.0)) (a.0 ∷ b.0) pairs refl b.2 in
    elim (subst (λ l. Has pair l) (sym are) h) [
      | inl same ↦ subst (λ p. ComesFrom w given x i p) same (pair-comes w given x i part a.0 (pair_of-is w given x i part a.0 a.1))
      | inr rest ↦ pairs-come w given x i parts b.0 b.1 pair rest
    ]

-- ---- what lives hear

-- what lives hear
abbrev pub LivesHear : (Pair → Type 0) → Lives → Type 0
LivesHear P lives = (life : Life) (batch : Batch) (pair : Pair) → Has life (all_lives lives) → Has batch life.heard → Has pair batch → P pair

hear-hears : (P : Pair → Type 0) (batch : Batch) (lives : Lives) → LivesHear P lives → ((pair : Pair) → Has pair batch → P pair) → LivesHear P (hear_batch batch lives)
hear-hears P new lives old now life batch pair h b p =
    elim (Has-append_cases life lives.earlier ((hear_batch new lives).last ∷ []) h) [
      | inl before ↦ old life batch pair (Has-append_left life lives.earlier (lives.last ∷ []) before) b p
      | inr last ↦ elim last [
        | inl e ↦ elim (Has-append_cases batch lives.last.heard (new ∷ []) (subst (λ l. Has batch l.heard) (sym e) b)) [
          | inl earlier ↦ old lives.last batch pair (Has-append_right lives.last lives.earlier (lives.last ∷ []) (inl refl)) earlier p
          | inr is ↦ elim is [ inl same ↦ now pair (subst (λ l. Has pair l) (sym same) p) | inr none ↦ absurd none ]
        ]
        | inr none ↦ absurd none
      ]
    ]

take-hears : (P : Pair → Type 0) (lives : Lives) → LivesHear P lives → LivesHear P (take_entry lives)
take-hears P lives old life batch pair h b p =
    elim (Has-append_cases life lives.earlier ((take_entry lives).last ∷ []) h) [
      | inl before ↦ old life batch pair (Has-append_left life lives.earlier (lives.last ∷ []) before) b p
      | inr last ↦ elim last [
        | inl e ↦ old lives.last batch pair (Has-append_right lives.last lives.earlier (lives.last ∷ []) (inl refl)) (subst (λ l. Has batch l.heard) (sym e) b) p
        | inr none ↦ absurd none
      ]
    ]

forget-hears : (P : Pair → Type 0) (lives : Lives) → LivesHear P lives → LivesHear P (forget_all lives)
forget-hears P lives old life batch pair h b p =
    elim (Has-append_cases life (all_lives lives) (empty_life ∷ []) h) [
      | inl before ↦ old life batch pair before b p
      | inr last ↦ elim last [
        | inl e ↦ absurd (subst (λ l. Has batch l.heard) (sym e) b)
        | inr none ↦ absurd none
      ]
    ]

-- a property of what each instance hears, where the lives of one instance are changed
one_instance_hears : (P : (component replica : ℕ) → Pair → Type 0) (component replica : ℕ) (change : Lives → Lives) (x : Execution)
    → ((c r : ℕ) → LivesHear (P c r) (x.lives c r)) → LivesHear (P component replica) (change (x.lives component replica))
    → (c r : ℕ) → LivesHear (P c r) ((with_lives component replica change x).lives c r)
one_instance_hears P component replica change x old new c r =
    let Q : Bool → Type 0 = λ t. LivesHear (P c r) (if t then change (x.lives c r) else x.lives c r) in
    elim (c == component && r == replica) as (λ t. (c == component && r == replica) ≡ t → Q t) [
      | true ↦ λ e.
          let same = same_numbers c r component replica e in
          subst (λ n. LivesHear (P n r) (change (x.lives n r))) (sym same.0)
          (subst (λ m. LivesHear (P component m) (change (x.lives component m))) (sym same.1) new)
      | false ↦ λ e. old c r
    ] refl

-- ---- what logs hold

-- an entry of a log was there before, or is new
log-cases : (component port : ℕ) (message : Message) (x : Execution) (c : ℕ) (entry : Entry) → Has entry ((with_logged component port message x).logs c)
    → Has entry (x.logs c) ⊎ ((c ≡ component) × (entry.0 ≡ port) × (message ≡ row entry.1))
log-cases component port (seal key count) x c entry h = inl h
log-cases component port (row r) x c entry h =
    let new : Entry = (port, r) in
    let Q : Bool → Type 0 = λ t. Has entry (if t then with_new is_same_entry (x.logs c) new else x.logs c) → Has entry (x.logs c) ⊎ ((c ≡ component) × (entry.0 ≡ port) × (row r ≡ row entry.1)) in
    elim (c == component) as (λ t. (c == component) ≡ t → Q t) [
      | true ↦ λ e at. elim (Has-from_with_new is_same_entry is_same_entry-is is_same_entry-itself entry new (x.logs c) at) [
        | inl old ↦ inl old
        | inr is ↦ inr (eqb-true c component e, sym (ap (λ p. p.0) is), ap (λ p. row p.1) is)
      ]
      | false ↦ λ e at. inl at
    ] refl h

-- ---- each kind of step

lives_before : (w : Wiring) (given : Data) (x y : Execution) (component replica : ℕ) (change : Lives → Lives) → with_lives component replica change x ≡ y → IsSent w given x
    → LivesHear (λ pair. ComesFrom w given x (instance_at w component replica) pair) (change (x.lives component replica)) → WasSentBefore w given x y
lives_before w given x y component replica change e old new = record {
  heard = λ c r. subst (λ z. LivesHear (λ pair. ComesFrom w given x (instance_at w c r) pair) (z.lives c r)) e
      (one_instance_hears (λ n m pair. ComesFrom w given x (instance_at w n m) pair) component replica change x old.hears new c r);
  logged = λ c entry h. old.logs c entry (subst (λ z. Has entry (z.logs c)) (sym e) h);
}

pub step_before : (w : Wiring) (given : Data) (x y : Execution) → IsSent w given x → Changes w given x y → WasSentBefore w given x y
step_before w given x y old (hears component replica parts pairs h p e) =
    let P : Pair → Type 0 = λ pair. ComesFrom w given x (instance_at w component replica) pair in
    lives_before w given x y component replica (hear_batch pairs) e old
    (hear-hears P pairs (x.lives component replica) (old.hears component replica) (pairs-come w given x (instance_at w component replica) parts pairs p))
step_before w given x y old (logs component part pair s p e) = record {
  heard = λ c r life batch q h b at. old.hears c r life batch q (subst (λ l. Has life (all_lives l)) (ap (λ z. z.lives c r) (sym e) ∙ with_logged-lives component part.port pair.1 x c r) h) b at;
  logged = λ c entry h. elim (log-cases component part.port pair.1 x c entry (subst (λ z. Has entry (z.logs c)) (sym e) h)) [
    | inl before ↦ old.logs c entry before
    | inr new ↦
        let is = pair_of-is w given x (instance_at w component 0) part pair p in
        let f = feed_of-is (instance_at w component 0) part pair.0 is.feed in
        let came = pair-comes w given x (instance_at w component 0) part pair is in
        let feed = feed_numbered (instance_at w component 0) pair.0 in
        subst (λ n. EntryComesFrom w given x (instance_at w n 0) entry) (sym new.0) (record {
          feed = feed;
          of_feed = Has-get_or (instance_at w component 0).feeds pair.0 no_feed f.within;
          port = f.port ∙ sym new.1;
          sent = subst (λ m. Has m (emitted_list w given x feed.stream feed.sender)) new.2 came.sent;
        })
  ];
}
step_before w given x y old (takes component replica t n e) =
    lives_before w given x y component replica take_entry e old (take-hears (λ pair. ComesFrom w given x (instance_at w component replica) pair) (x.lives component replica) (old.hears component replica))
step_before w given x y old (forgets component replica t e) =
    lives_before w given x y component replica forget_all e old (forget-hears (λ pair. ComesFrom w given x (instance_at w component replica) pair) (x.lives component replica) (old.hears component replica))

-- ---- histories

-- what was emitted before is emitted after the step
sent_on : (w : Wiring) (given : Data) (x y : Execution) → WasSentBefore w given x y → IsExtendedBy w given x y → TakesWithinLogs y → IsSent w given y
sent_on w given x y before grows within = record {
  takes = within;
  hears = λ c r life batch pair h b p. comes-on w given x y (instance_at w c r) pair grows (before.heard c r life batch pair h b p);
  logs = λ c entry h. entry-on w given x y (instance_at w c 0) entry grows (before.logged c entry h);
}

begun_hears : (w : Wiring) (given : Data) → HearsWhatIsSent w given first_execution
begun_hears w given c r life batch pair (inl e) b p = absurd (subst (λ l. Has batch l.heard) (sym e) b)
begun_hears w given c r life batch pair (inr none) b p = absurd none

begun_holds : (w : Wiring) (given : Data) → IsSent w given first_execution
begun_holds w given = record { takes = begun_takes; hears = begun_hears w given; logs = λ c entry h. absurd h }

-- in every history all that was heard or logged stands in the emitted list of its feed, and no replica took more than its log has
pub history_holds : (w : Wiring) (given : Data) (steps : List Step) (x : Execution) → execution_of w given steps ≡ Ok x → IsSent w given x
history_holds w given steps x legal =
    by_history w given (IsSent w given) (begun_holds w given)
    (λ y z step old at. let change = step_changes w given step y z at in sent_on w given y z (step_before w given y z old change) (step_grows w given y z old.takes change) (step_takes w given y z old.takes change))
    steps x legal

-- so what a step finds in lives and logs was emitted before it
pub sent_before : AllWasSentBefore
sent_before w given steps step x y legal at = step_before w given x y (history_holds w given steps x legal) (step_changes w given step x y at)

-- all that was heard or logged stands in emitted lists by now
pub sent_by_now : (w : Wiring) (given : Data) (x : Execution) → IsSent w given x → WasSentBefore w given x x
sent_by_now w given x old = record { heard = old.hears; logged = old.logs }
