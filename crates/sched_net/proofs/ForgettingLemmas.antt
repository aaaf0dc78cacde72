-- An instance that forgets makes the books stand for one step more, and the shells keep at the end what the last lives made.
use Rattle.std.proofs.Common.{◌≡◌, ◌<◌, ◌&&◌, ℕ, true, false, Option, None, Some, List, [], ◌∷◌, ◌++◌, length, set, get_or, refl, ap, sym, subst, ◌∙◌, arith, nat_lt}
use Rattle.std.specs.Prelude.{Ok, Err, if◌then◌else◌}
use Rattle.std.proofs.lemmas.Bool.{and_parts}
use Rattle.std.proofs.lemmas.Bool.Decides.{nat_tests}
use Rattle.bloom_eval.specs.Step.{nothing_kept}
use Rattle.blz_pool.specs.Pool.{IsPool}
use Rattle.bloom_forms.specs.declared.program.Program.{Program}
use Rattle.bloom_forms.specs.Step.{Sets}
use Rattle.topo_forms.specs.Data.{Data}
use Rattle.topo_forms.specs.Valid.{IsValid}
use Rattle.topo_forms.specs.View.{View, replicas_of}
use Rattle.inbox.specs.Emission.{first_tables}
use Rattle.inbox.specs.Events.{Step, forget, no_instance}
use Rattle.inbox.specs.Executions.{Execution, with_lives, after_step}
use Rattle.inbox.specs.Instances.{Instance}
use Rattle.inbox.specs.Lives.{forget_all}
use Rattle.inbox.specs.Standing.{Seat, Seats}
use Rattle.inbox.specs.Wiring.{instance_at, instance_for, wiring_of}
use Rattle.inbox.proofs.Executions.Standing.{seat_forgets}
use Rattle.inbox.proofs.Lists.Growing.{continues_itself}
use Rattle.inbox.proofs.WiringLemmas.{instance-wired}
use Rattle.sched_net.specs.Closing.{AreLastTables}
use Rattle.sched_net.specs.Forgetting.{answer_to_forget, ForgetAnswers, ForgetLeaves}
use Rattle.messages.specs.Lists.{Listed, IsExact, read_lists, list_at}
use Rattle.sched_net.specs.Net.{Stands, Runs, KnowsHeard, ShowsEar, ShowsSeat, ShowSeats, ShowLogs, execution_in}
use Rattle.inbox.specs.Places.{ArePlaces, instance_place}
use Rattle.inbox.specs.Outlets.{outlets_for}
use Rattle.sched_net.specs.Seated.{with_seat}
use Rattle.sched_net.specs.Shown.{ShowsSeats}
use Rattle.sched_net.specs.Taking.{EarForgets, OneForgets}
use Rattle.sched_net.specs.declared.books.Books.{Books}
use Rattle.sched_net.specs.declared.fault.ForgetFault.TheVariants.{NoInstance}
use Rattle.sched_net.specs.declared.seated.Ear.{Ear}
use Rattle.sched_net.specs.declared.seated.Ear.TheVariants.{Hears, Takes}
use Rattle.sched_net.proofs.CourseLemmas.{program_here, shell_inside}
use Rattle.inbox.proofs.PlacesLemmas.{place-before}
use Rattle.messages.proofs.KnownLemmas.{none_known}
use Rattle.sched_net.proofs.Lifting.{forgetting_lifts}
use Rattle.sched_net.proofs.OrderingLemmas.{there_tested, seat_at}
use Rattle.inbox.proofs.OutletsLemmas.{others_itself}
use Rattle.sched_net.proofs.SeatsLemmas.{later_pool, logs_stay, seats_after}
use Rattle.sched_net.proofs.Showing.{is_there-true, outputs-shown}

pub first_is : (o : Option Program) → nothing_kept o ≡ first_tables o
first_is None = refl
first_is (Some p) = refl

pub forget_refused : (v : View) (given : Data) (c r : ℕ) (x : Execution) → (nat_lt c (length v.components) && nat_lt r (replicas_of v c)) ≡ false → after_step (wiring_of v) given (forget c r) x ≡ Err no_instance
forget_refused v given c r x off = ap (λ b. if b then Ok (with_lives c r forget_all x) else Err no_instance) (there_tested v c r ∙ off)

ear_forgets : (v : View) (l : Listed) (c r : ℕ) (i : Instance) (seat : Seat) (old new : Ear) → EarForgets old new → ShowsEar v l c r seat old → ShowsEar v l c r (seat_forgets i seat) new
ear_forgets v l c r i seat (Hears inbox known) (Hears next later) f s = record {
  hears = s.hears;
  heard = f.0.heard (instance_for v c r) l.records l.records seat.heard s.heard;
  kept = f.0.kept l.records;
  feeds = f.0.feeds ∙ s.feeds;
  known = subst (λ (kept : List (List ℕ)). KnowsHeard v (instance_for v c r) (read_lists l) [] kept) (sym f.1) (record { sound = λ feed index is. absurd (none_known feed index is); whole = λ feed index m within at h. absurd h });
}
ear_forgets v l c r i seat (Hears inbox known) (Takes taken) f s = absurd f
ear_forgets v l c r i seat (Takes taken) (Hears inbox known) f s = absurd f
ear_forgets v l c r i seat (Takes taken) (Takes later) f s = (s.0, f)

module _ (v : View) (given : Data) (steps : List Step) (loaded : List (Option Program)) (tables : List Sets) (b : Books) (valid : IsValid v) (stands : Stands v given steps loaded tables b) (c r : ℕ) (there : c < length v.components) (within : r < replicas_of v c) where
  pub forget_legal : after_step (wiring_of v) given (forget c r) (execution_in stands.books) ≡ Ok (with_lives c r forget_all (execution_in stands.books))
  forget_legal = ap (λ b. if b then Ok (with_lives c r forget_all (execution_in stands.books)) else Err no_instance) (is_there-true v c r there within)

  pub forgetting_stands : (next : List Sets) (new : Books) → IsPool b.lists.records → next ≡ set tables (instance_place v c r) (nothing_kept (get_or loaded (instance_place v c r) None)) → OneForgets (instance_place v c r) b.seats.items new.seats.items
      → new.lists ≡ b.lists → new.places ≡ b.places → new.logs ≡ b.logs → new.ended ≡ b.ended → Stands v given (steps ++ forget c r ∷ []) loaded next new
  forgetting_stands next new pool emptied ear lists places logs ended =
      let books = stands.books in
      let i : Instance = instance_at (wiring_of v) c r in
      let seat : Seat = seat_forgets i (books.seats.seats c r) in
      let after : Seats = with_seat c r seat books.seats in
      let own = seat_at v given steps b books c r there within in
      let later = later_pool b.lists.records b.lists.records (continues_itself b.lists.records) pool in
      let program : get_or loaded (instance_place v c r) None ≡ i.program = program_here v given steps loaded tables b valid stands c r there within ∙ ap (λ (z : Instance). z.program) (sym (instance-wired v c r there within)) in
      let lifts = forgetting_lifts v given steps (forget c r) books.seats books.tables (read_lists b.lists) valid books.stands books.shows c r there within (first_tables i.program) (read_lists b.lists) (others_itself (outlets_for v c r) (read_lists b.lists))
      forget_legal
      (λ o h. let s = outputs-shown v given (execution_in books) books.seats books.tables (read_lists b.lists) valid books.stands.stands books.shows c r there within o h in record { place = s.place; output = s.output; list = s.list })
      refl in
      let shows_own : ShowsSeat v b.lists c r seat ear.seat = record {
        outlets = ear.outlets own.0 own.1 ∙ own.2.outlets;
        feeds = ear.feeds own.0 own.1 ∙ own.2.feeds;
        ear = ear_forgets v b.lists c r i (books.seats.seats c r) own.0.ear ear.seat.ear (ear.ear own.0 own.1) own.2.ear;
      } in
      let instances = seats_after v given steps (forget c r) books.seats books.tables (set books.tables (instance_place v c r) (first_tables i.program)) b.lists b.lists b.seats.items c r seat ear.seat valid there within books.stands books.shows lifts later books.instances shows_own in
      record {
        books = record {
          fits = books.fits;
          bodies = books.bodies;
          seats = after;
          tables = set books.tables (instance_place v c r) (first_tables i.program);
          stands = lifts.stands;
          shows = subst (λ l. ShowsSeats v given after (set books.tables (instance_place v c r) (first_tables i.program)) (read_lists l)) (sym lists) lifts.shows;
          exact = subst (λ l. IsExact l) (sym lists) books.exact;
          places = subst (λ p. ArePlaces v p) (sym places) books.places;
          instances = subst (λ l. ShowSeats v l after new.seats.items) (sym lists) (subst (λ s. ShowSeats v b.lists after s) (sym ear.changed) instances);
          logs =
              subst (λ l. ShowLogs v l.records after new.logs.items) (sym lists)
              (subst (λ l. ShowLogs v b.lists.records after l.items) (sym logs) (logs_stay v b.lists.records b.lists.records books.seats after b.logs.items later (λ n. refl) books.logs));
          runs = ended ∙ books.runs;
        };
        tables_are = emptied ∙ ap (λ t. set t (instance_place v c r) (nothing_kept (get_or loaded (instance_place v c r) None))) stands.tables_are ∙ ap (set books.tables (instance_place v c r)) (first_is (get_or loaded (instance_place v c r) None) ∙ ap first_tables program);
        programs = stands.programs;
      }

-- ---- how a forget ends

-- the parts of the test
pub record IsThere (v : View) (c r : ℕ) : Type 0 where
  pub there : c < length v.components
  pub within : r < replicas_of v c

pub is_there_by : (v : View) (c r : ℕ) → (nat_lt c (length v.components) && nat_lt r (replicas_of v c)) ≡ true → IsThere v c r
is_there_by v c r is =
    let both = and_parts (nat_lt c (length v.components)) (nat_lt r (replicas_of v c)) is in
    record { there = below c (length v.components) both.0; within = below r (replicas_of v c) both.1 }
  where
    below : (n m : ℕ) → nat_lt n m ≡ true → n < m
    below n m e = grind (arith, nat_tests)

pub answers_gone : (v : View) (loaded : List (Option Program)) (tables : List Sets) (b : Books) (n c r : ℕ) → n ≡ c → (nat_lt n (length v.components) && nat_lt r (replicas_of v n)) ≡ false → ForgetAnswers v loaded tables b (forget c r) (Err NoInstance)
answers_gone v loaded tables b n c r same off given steps stands =
    sym (ap answer_to_forget (forget_refused v given c r (execution_in stands.books) (subst (λ k. (nat_lt k (length v.components) && nat_lt r (replicas_of v k)) ≡ false) same off)))

pub answers_forgotten : (v : View) (loaded : List (Option Program)) (tables : List Sets) (b : Books) (n c r : ℕ) → IsValid v → n ≡ c → (nat_lt n (length v.components) && nat_lt r (replicas_of v n)) ≡ true → ForgetAnswers v loaded tables b (forget c r) (Ok tt)
answers_forgotten v loaded tables b n c r valid same on given steps stands =
    let is = is_there_by v c r (subst (λ k. (nat_lt k (length v.components) && nat_lt r (replicas_of v k)) ≡ true) same on) in
    sym (ap answer_to_forget (forget_legal v given steps loaded tables b valid stands c r is.there is.within))

pub leaves_forgotten : (v : View) (loaded : List (Option Program)) (tables next : List Sets) (b new : Books) (n c r place : ℕ) → IsValid v → n ≡ c → (nat_lt n (length v.components) && nat_lt r (replicas_of v n)) ≡ true → place ≡ instance_place v n r
    → IsPool b.lists.records → next ≡ set tables place (nothing_kept (get_or loaded place None)) → OneForgets place b.seats.items new.seats.items → new.lists ≡ b.lists → new.places ≡ b.places → new.logs ≡ b.logs → new.ended ≡ b.ended
    → ForgetLeaves v loaded tables next b new (forget c r) (Ok tt)
leaves_forgotten v loaded tables next b new n c r place valid same on place_is pool emptied ear lists places logs ended given steps stands =
    let is = is_there_by v c r (subst (λ k. (nat_lt k (length v.components) && nat_lt r (replicas_of v k)) ≡ true) same on) in
    let at : place ≡ instance_place v c r = place_is ∙ ap (λ k. instance_place v k r) same in
    forgetting_stands v given steps loaded tables b valid stands c r is.there is.within next new pool
    (subst (λ p. next ≡ set tables p (nothing_kept (get_or loaded p None))) at emptied)
    (subst (λ p. OneForgets p b.seats.items new.seats.items) at ear) lists places logs ended

pub forgets_inside : (v : View) (loaded : List (Option Program)) (tables : List Sets) (b : Books) (n r place : ℕ) → Runs v loaded tables b → (nat_lt n (length v.components) && nat_lt r (replicas_of v n)) ≡ true → place ≡ instance_place v n r → place < length b.seats.items
forgets_inside v loaded tables b n r place runs on place_is =
    let is = is_there_by v n r on in
    subst (λ p. p < length b.seats.items) (sym place_is)
    (subst (λ k. instance_place v n r < k) (sym runs.stands.books.instances.count) (place-before (replicas_of v) n r (length v.components) is.within is.there))

pub shell_forgets : (v : View) (loaded : List (Option Program)) (tables : List Sets) (b : Books) (n r place : ℕ) → IsValid v → Runs v loaded tables b → (nat_lt n (length v.components) && nat_lt r (replicas_of v n)) ≡ true → place ≡ instance_place v n r → place < length loaded
shell_forgets v loaded tables b n r place valid runs on place_is =
    let is = is_there_by v n r on in
    subst (λ p. p < length loaded) (sym place_is) (shell_inside v runs.given runs.steps loaded tables b valid runs.stands n r is.there is.within)

-- ---- what the shells keep

pub last_tables : (v : View) (loaded : List (Option Program)) (tables : List Sets) (b : Books) → AreLastTables v loaded tables b
last_tables v loaded tables b given steps stands c r there within =
    ap (λ t. list_at t (instance_place v c r)) stands.tables_are
    ∙ stands.books.shows.tables_are c r there within
    ∙ ap (λ k. k.tables) (stands.books.stands.stands.seats c r (is_there-true v c r there within)).kept
