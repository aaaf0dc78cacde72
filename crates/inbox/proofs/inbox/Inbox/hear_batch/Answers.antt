use Rattle.std.proofs.Common.{◌≡◌, ◌<◌, ◌∙◌, ◌++◌, List, [], cond, subst, sym, ℕ, ap, length}
use Rattle.std.specs.List.{All, filter_map}
use Rattle.blz_value.specs.Members.{Has}
use Rattle.blz_value.specs.Record.{Row}
use Rattle.blz_value.specs.Sets.{set_of}
use Rattle.blz_value.proofs.Membership.{All-of_member}
use Rattle.blz_pool.specs.Entries.{EntryId, entries_with_ids}
use Rattle.messages.specs.Ids.{IsGiven}
use Rattle.messages.specs.Messages.{Batch}
use Rattle.messages.specs.declared.message.Message.{Message}
use Rattle.messages.specs.Whole.{feeds_view, partitions}
use Rattle.messages.specs.Feeds.{feed_count, port_count}
use Rattle.inbox.specs.Inbox.{HasHeard}
use Rattle.inbox.specs.Instances.{Instance}
use Rattle.inbox.specs.SetOffs.{going_entries, released_read}
use Rattle.inbox.specs.Timesteps.{one_timestep}
use Rattle.inbox.specs.Code.Batches.{IsNumberIn, AreTouched, became_key, Releases}
use Rattle.inbox.specs.Code.Touching.{touches_in}
use Rattle.inbox.specs.declared.inbox.Touched.{Touched}
use Rattle.inbox.proofs.Keeping.Hears.{Heard, HearsBatch, hears_all, given_going}
use Rattle.inbox.proofs.Keeping.Loops.{parts_given}
use Rattle.inbox.proofs.Keeping.Touching.{inside_on, from_on, many_as, numbers_as}
use Rattle.inbox.proofs.inbox.Inbox.hear_batch.Goals.{In_ok-released}
use Rattle.inbox.proofs.inbox.Inbox.hear_batch.Goals as goal

-- ---- what the calls ask

pub going-requires-clause-feeds : goal.going-requires-clause-feeds
going-requires-clause-feeds c = inside_on c.args.self.now c.touches.new.self c.args.batch.now c.in_ok-touches.ensures.seen c.requires.feeds

pub going-requires-clause-as_many : goal.going-requires-clause-as_many
going-requires-clause-as_many c =
    let start = c.touches.new.self in
    many_as c.args.pool.now (feeds_view start.feeds) (partitions start.feeds) c.args.batch.now (touches_in c.in_ok-touches.touches) c.as_slice-touched.result.now c.as_slice-touched.ensures c.in_ok-touches.ensures.touched

pub hear_all-requires-clause-feeds : goal.hear_all-requires-clause-feeds
hear_all-requires-clause-feeds c = inside_on c.args.self.now c.touches.new.self c.args.batch.now c.in_ok-touches.ensures.seen c.requires.feeds

pub hear_all-requires-clause-as_many : goal.hear_all-requires-clause-as_many
hear_all-requires-clause-as_many c =
    let start = c.touches.new.self in
    many_as c.args.pool.now (feeds_view start.feeds) (partitions start.feeds) c.args.batch.now (touches_in c.in_ok-touches.touches) c.as_slice-touched.result.now c.as_slice-touched.ensures c.in_ok-touches.ensures.touched

pub hear_all-requires-clause-numbers : goal.hear_all-requires-clause-numbers
hear_all-requires-clause-numbers c =
    let start = c.touches.new.self in
    numbers_as c.args.pool.now (feeds_view start.feeds) (partitions start.feeds) c.args.batch.now (touches_in c.in_ok-touches.touches) c.as_slice-touched.result.now c.as_slice-touched.ensures c.in_ok-touches.ensures.touched

pub whole_among-requires : goal.whole_among-requires
whole_among-requires c =
    let start = c.touches.new.self in
    subst (λ (keys : List Row). All (λ t. IsNumberIn keys t.number) c.as_slice-touched.result.now) (sym c.in_ok-hear_all.ensures.partitions)
    (numbers_as c.args.pool.now (feeds_view start.feeds) (partitions start.feeds) c.args.batch.now (touches_in c.in_ok-touches.touches) c.as_slice-touched.result.now c.as_slice-touched.ensures c.in_ok-touches.ensures.touched)

-- ---- what is answered, by what the calls say

touched_are : (c : In_ok-released) → AreTouched c.args.pool.now (feeds_view c.touches.new.self.feeds) (partitions c.touches.new.self.feeds) c.args.batch.now c.as_slice-touched.result.now
touched_are c =
    subst (λ (l : List Touched). AreTouched c.args.pool.now (feeds_view c.touches.new.self.feeds) (partitions c.touches.new.self.feeds) c.args.batch.now l) (sym c.as_slice-touched.ensures) c.in_ok-touches.ensures.touched

releases : (c : In_ok-released) → Releases c.hear_all.new.self c.release.new.self (cond c.hear_all.new.self.sealing c.in_ok-whole.whole.items []) c.in_ok-released.released
releases c =
    subst (λ (l : List Row). Releases c.hear_all.new.self c.release.new.self (cond c.hear_all.new.self.sealing l []) c.in_ok-released.released) c.deref.ensures.value c.in_ok-released.ensures

ports_are : (c : In_ok-released) → c.port_count-ports.result ≡ port_count (feeds_view c.touches.new.self.feeds)
ports_are c = c.port_count-ports.ensures ∙ sym (ap port_count c.in_ok-touches.ensures.seen.feeds)

hears : (c : In_ok-released) → HearsBatch c.args.pool.now c.touches.new.self c.hear_all.new.self c.release.new.self c.as_slice-touched.result.now c.args.batch.now c.in_ok-whole.whole.items c.in_ok-released.released
    (released_read c.args.pool.now c.port_count-ports.result c.in_ok-released.released)
    (released_read c.args.pool.now c.port_count-ports.result c.in_ok-released.released ++ one_timestep c.port_count-ports.result (entries_with_ids c.args.pool.now (going_entries c.in_ok-going.going)))
hears c =
    let records = c.args.pool.now in
    let start = c.touches.new.self in
    let batch = c.args.batch.now in
    let first = released_read records c.port_count-ports.result c.in_ok-released.released in
    record {
      pool = c.known.ensures;
      inside = λ pair there. All-of_member (λ p. p.0 < feed_count (feeds_view start.feeds)) batch pair (inside_on c.args.self.now start batch c.in_ok-touches.ensures.seen c.requires.feeds) there;
      given = λ pair there. All-of_member (λ p. IsGiven records p.1) batch pair c.requires.given there;
      touched_are = touched_are c;
      whole_are = c.in_ok-whole.ensures ∙ ap (λ (keys : List Row). set_of (filter_map (became_key (feeds_view c.hear_all.new.self.feeds) keys) c.as_slice-touched.result.now)) c.in_ok-hear_all.ensures.partitions;
      releases = releases c;
      first_are = ap (λ (n : ℕ). released_read records n c.in_ok-released.released) (ports_are c);
      steps_are =
          ap (λ (n : ℕ). first ++ one_timestep n (entries_with_ids records (going_entries c.in_ok-going.going))) (ports_are c)
          ∙ ap (λ (entries : List EntryId). first ++ one_timestep (port_count (feeds_view start.feeds)) (entries_with_ids records entries)) (c.in_ok-going.ensures records (touched_are c));
    }

answered : (c : In_ok-released) → (i : Instance) (batches : List Batch) → HasHeard i c.args.pool.now batches c.args.self.now → Heard c.args.pool.now c.release.new.self c.args.batch.now c.in_ok-whole.whole.items
    (released_read c.args.pool.now c.port_count-ports.result c.in_ok-released.released ++ one_timestep c.port_count-ports.result (entries_with_ids c.args.pool.now (going_entries c.in_ok-going.going))) i batches
answered c =
    let records = c.args.pool.now in
    let first = released_read records c.port_count-ports.result c.in_ok-released.released in
    hears_all records c.args.self.now c.touches.new.self c.hear_all.new.self c.release.new.self c.as_slice-touched.result.now c.args.batch.now c.in_ok-whole.whole.items c.in_ok-released.released first
    (first ++ one_timestep c.port_count-ports.result (entries_with_ids records (going_entries c.in_ok-going.going))) c.in_ok-touches.ensures.seen (hears c)
    c.in_ok-hear_all.ensures.keeps

pub returns-clause-steps : goal.returns-clause-steps
returns-clause-steps c = λ i batches s. (answered (goal.at.returns-clause-steps c).In_ok-released i batches s).steps_as

pub returns-clause-whole : goal.returns-clause-whole
returns-clause-whole c = λ i batches s. c.from_vec.ensures ∙ (answered (goal.at.returns-clause-whole c).In_ok-released i batches s).whole_as

pub returns-clause-heard : goal.returns-clause-heard
returns-clause-heard c = λ i batches s. (answered (goal.at.returns-clause-heard c).In_ok-released i batches s).stands

pub returns-clause-feeds : goal.returns-clause-feeds
returns-clause-feeds c = ap feed_count c.in_ok-released.ensures.feeds ∙ c.in_ok-hear_all.ensures.count ∙ ap feed_count c.in_ok-touches.ensures.seen.feeds

pub returns-clause-kept : goal.returns-clause-kept
returns-clause-kept c = λ e there.
    c.in_ok-hear_all.ensures.from (from_on c.args.pool.now c.args.self.now c.touches.new.self c.in_ok-touches.ensures.seen c.requires.kept) e (subst (λ (l : List EntryId). Has e l) c.in_ok-released.ensures.log there)

pub returns-clause-given : goal.returns-clause-given
returns-clause-given c =
    let at = (goal.at.returns-clause-given c).In_ok-released in
    let records = c.args.pool.now in
    let start = c.touches.new.self in
    let given : (pair : ℕ × Message) → Has pair c.args.batch.now → IsGiven records pair.1 = λ pair there. All-of_member (λ p. IsGiven records p.1) c.args.batch.now pair c.requires.given there in
    record {
      released =
          parts_given records (feeds_view c.hear_all.new.self.feeds) c.hear_all.new.self.waiting (cond c.hear_all.new.self.sealing c.in_ok-whole.whole.items []) c.in_ok-released.released
          (c.in_ok-hear_all.ensures.from (from_on records c.args.self.now start c.in_ok-touches.ensures.seen c.requires.kept)) (releases at).parts;
      going = subst (λ (l : List EntryId). All (λ entry. entry.1 < length records) l) (sym (c.in_ok-going.ensures records (touched_are at))) (given_going records start c.args.batch.now given);
    }
