-- A hearing as it is called: the place, the lists and what is set off are those of the instance, so what the calls answer is what the event does.
use Rattle.std.proofs.Common.{◌≡◌, ◌<◌, ℕ, true, Option, None, List, length, map, get_or, ◌∙◌, sym, subst}
use Rattle.std.specs.Prelude.{Ok, Err, IsSome}
use Rattle.std.specs.List.{All}
use Rattle.bloom_eval.specs.Step.{Arrive}
use Rattle.blz_pool.specs.Pool.{IsPool}
use Rattle.bloom_forms.specs.declared.program.Program.{Program}
use Rattle.bloom_forms.specs.Step.{Sets}
use Rattle.topo_forms.specs.Data.{Data}
use Rattle.topo_forms.specs.Valid.{IsValid}
use Rattle.topo_forms.specs.View.{View}
use Rattle.inbox.specs.Events.{Part, Event, batch, Step}
use Rattle.inbox.specs.Executions.{pairs_of}
use Rattle.inbox.specs.Growth.{Continues}
use Rattle.messages.specs.Ids.{batch_with_ids}
use Rattle.inbox.specs.SetOffs.{AreGivenTo, set_off_read}
use Rattle.inbox.specs.Timesteps.{SetOff}
use Rattle.inbox.specs.declared.set_off.SetOffIds.{SetOffIds}
use Rattle.inbox.specs.Wiring.{wiring_of, instance_at, instance_for, feeds_for}
use Rattle.messages.specs.declared.message.Message.{Message as IdMessage}
use Rattle.sched_net.specs.Answers.{fault_at}
use Rattle.inbox.specs.Limits.{Limit}
use Rattle.messages.specs.Lists.{Listed, IsExact, read_lists}
use Rattle.sched_net.specs.Net.{Runs, BooksStand, Stands, execution_in}
use Rattle.inbox.specs.Outlets.{OthersStay, outlets_for}
use Rattle.inbox.specs.Places.{instance_place}
use Rattle.sched_net.specs.Code.Hearing.{OneHears, IsHearingOf, HearingAnswers, HearingLeaves}
use Rattle.inbox.specs.Running.{EmitsAt, MeetsAt}
use Rattle.sched_net.specs.Code.Parts.{HaveIndexes, hears_itself}
use Rattle.sched_net.specs.declared.books.Books.{Books}
use Rattle.inbox.specs.declared.outlets.Outlet.{Outlet}
use Rattle.sched_net.specs.declared.seated.Seated.{Seated}
use Rattle.sched_net.proofs.HearingEnds.{batch_is}
use Rattle.sched_net.proofs.HearingStands.{shell_within, has_program, outlets_within, all_arrive, own_outlets, answers_limit, answers_done, stands_done}

module _ (v : View) (valid : IsValid v) (c r : ℕ) (hears : hears_itself v c r ≡ true) (loaded : List (Option Program)) (tables : List Sets) (old : Books) (parts : List Part) (some : 0 < length parts) (pairs : List (ℕ × IdMessage)) (indexes : List (ℕ × ℕ))
    (are : (given : Data) (steps : List Step) (stand : BooksStand v given steps old) → pairs_of (wiring_of v) given (execution_in stand) (instance_at (wiring_of v) c r) parts ≡ Ok (batch_with_ids old.lists.records pairs))
    (set : SetOffIds) (now : List Seated) (heard : OneHears old.lists.records pairs indexes (set_off_read old.lists.records set) (instance_place v c r) old.seats.items now)
    (place : ℕ) (at : place ≡ instance_place v c r) (mid : Listed) (mid_is : mid ≡ old.lists) (b : Seated) (b_is : b ≡ get_or now place b) (outlets : List Outlet) (outlets_is : outlets ≡ b.outlets) where
  -- what holds as it is called
  called : (P : ℕ → Listed → SetOff → Type 0) → P place mid (set_off_read mid.records set) → P (instance_place v c r) old.lists (set_off_read old.lists.records set)
  called P p =
      subst (λ n. P n old.lists (set_off_read old.lists.records set)) at
      (subst (λ l. P place l (set_off_read l.records set)) mid_is p)

  own : (given : Data) (steps : List Step) (stands : Stands v given steps loaded tables old) (e : Event) (of : IsHearingOf e parts c r) → outlets ≡ outlets_for v c r
  own given steps stands e of = outlets_is ∙ own_outlets v valid c r hears loaded tables old parts some pairs indexes are (set_off_read old.lists.records set) now heard given steps stands e of place b at b_is

  -- ---- what the emission requires

  pub call_place : {X : Type 0} (runs : Runs v loaded tables old) (of : X → Option Program) (shells : List X) → map of shells ≡ loaded → place < length shells
  call_place runs of shells is = subst (λ n. n < length shells) (sym at) (shell_within v valid c r hears loaded tables old runs.given runs.steps runs.stands of shells is)

  pub call_program : Runs v loaded tables old → IsSome (get_or loaded place None)
  call_program runs = subst (λ n. IsSome (get_or loaded n None)) (sym at) (has_program v valid c r hears loaded tables old runs.given runs.steps runs.stands)

  pub call_given : AreGivenTo old.lists.records set → AreGivenTo mid.records set
  call_given given = subst (λ l. AreGivenTo l.records set) (sym mid_is) given

  pub call_arrives : Runs v loaded tables old → All (Arrive (get_or loaded place None)) (set_off_read mid.records set).steps
  call_arrives runs =
      subst (λ n. All (Arrive (get_or loaded n None)) (set_off_read mid.records set).steps) (sym at)
      (subst (λ l. All (Arrive (get_or loaded (instance_place v c r) None)) (set_off_read l.records set).steps) (sym mid_is)
      (all_arrive v valid c r hears loaded tables old parts some pairs indexes are (set_off_read old.lists.records set) now heard runs.given runs.steps runs.stands (batch parts c r) (batch_is parts c r)))

  pub call_outlets : Runs v loaded tables old → All (λ o. o.place < length mid.lists) outlets
  call_outlets runs =
      subst (λ l. All (λ (o : Outlet). o.place < length l.lists) outlets) (sym mid_is)
      (outlets_within v valid c r hears loaded tables old runs.given runs.steps runs.stands outlets (own runs.given runs.steps runs.stands (batch parts c r) (batch_is parts c r)))

  -- ---- what it answers

  pub limit_answers : (limit : Limit) → MeetsAt limit loaded place outlets tables (read_lists mid) (set_off_read mid.records set) → HearingAnswers v loaded tables old parts c r (Err (fault_at limit))
  limit_answers limit meets e of given steps stands =
      answers_limit v valid c r hears loaded tables old parts some pairs indexes are (set_off_read old.lists.records set) now heard given steps stands e of limit outlets (own given steps stands e of)
      (called (λ n l z. MeetsAt limit loaded n outlets tables (read_lists l) z) meets)

  module _ (feeds : All (λ pair. pair.0 < length (feeds_for v c r)) pairs) (have : HaveIndexes v (instance_for v c r) (read_lists old.lists) (batch_with_ids old.lists.records pairs) indexes) (new : Books) (next : List Sets)
      (emits : EmitsAt loaded place outlets tables next (read_lists mid) (read_lists new.lists) (set_off_read mid.records set)) (stay : OthersStay outlets (read_lists mid) (read_lists new.lists)) (records : Continues mid.records new.lists.records) (pool : IsPool new.lists.records) (exact : IsExact new.lists)
      (seats_are : new.seats.items ≡ now) (places_are : new.places ≡ old.places) (logs_are : new.logs ≡ old.logs) (ended_is : new.ended ≡ old.ended) where
    emits_called : EmitsAt loaded (instance_place v c r) outlets tables next (read_lists old.lists) (read_lists new.lists) (set_off_read old.lists.records set)
    emits_called = called (λ n l z. EmitsAt loaded n outlets tables next (read_lists l) (read_lists new.lists) z) emits

    stay_called : OthersStay outlets (read_lists old.lists) (read_lists new.lists)
    stay_called = subst (λ l. OthersStay outlets (read_lists l) (read_lists new.lists)) mid_is stay

    records_called : Continues old.lists.records new.lists.records
    records_called = subst (λ l. Continues l.records new.lists.records) mid_is records

    pub done_answers : HearingAnswers v loaded tables old parts c r (Ok tt)
    done_answers e of given steps stands = answers_done v valid c r hears loaded tables old parts some pairs indexes are (set_off_read old.lists.records set) now heard given steps stands e of feeds have new next outlets (own given steps stands e of) emits_called stay_called records_called pool exact seats_are places_are logs_are ended_is

    pub done_leaves : HearingLeaves v loaded tables next old new parts c r (Ok tt)
    done_leaves e of given steps stands = stands_done v valid c r hears loaded tables old parts some pairs indexes are (set_off_read old.lists.records set) now heard given steps stands e of feeds have new next outlets (own given steps stands e of) emits_called stay_called records_called pool exact seats_are places_are logs_are ended_is
