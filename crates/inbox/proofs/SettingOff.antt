-- What is set off is emitted whole: its timesteps one after the other, and then its seals.
use Rattle.std.proofs.Common.{◌≡◌, ◌<◌, ◌≤◌, ◌+◌, ℕ, Bool, true, false, Option, None, Some, List, [], ◌∷◌, set, refl, Result, Ok, Err, IsErrAnd, ap, ◌∙◌, sym, subst, arith, append-nil, nat_lt}
use Rattle.std.specs.Prelude.{if◌then◌else◌}
use Rattle.std.specs.List.{fold}
use Rattle.std.proofs.lemmas.List.{set-get_or}
use Rattle.std.proofs.lemmas.Bool.Decides.{nat_tests}
use Rattle.blz_value.specs.Record.{Row}
use Rattle.bloom_forms.specs.declared.program.Program.{Program}
use Rattle.bloom_forms.specs.Step.{Sets}
use Rattle.topo_forms.specs.Messages.{Message}
use Rattle.inbox.specs.Instances.{Instance}
use Rattle.inbox.specs.Timesteps.{SetOff}
use Rattle.inbox.specs.Emission.{Kept, with_seals, seal_all, emit_step, emit_of}
use Rattle.inbox.specs.Limits.{Limit, too_many_rows, too_many_messages, message_limit, limit_in, limit_of, limit_at_seals, messages_in}
use Rattle.messages.specs.Faults.{IsLegal}
use Rattle.messages.specs.Lists.{list_at, total}
use Rattle.messages.specs.declared.fault.EventFault.{EventFault}
use Rattle.messages.specs.declared.fault.EventFault.TheVariants.{NoInstance, NoMessage, NothingToTake, TooManyRows, TooManyMessages, NoMemory}
use Rattle.messages.proofs.FaultLemmas.{handed_on}
use Rattle.inbox.specs.Outlets.{seal_outlets, ShowsOutlets, own_messages}
use Rattle.inbox.specs.Running.{IsCourse, GoesOnTo, GoesOn, MeetsLimit, HasMet, outputs_of_outlets, HaveOwnKeys, IsCourseOf, HasEmitted, Emits, MeetsFirst}
use Rattle.inbox.specs.declared.outlets.Outlet.{Outlet}
use Rattle.inbox.proofs.Emitting.{standing-sealed}
use Rattle.inbox.proofs.OutletsLemmas.{seals-show, others-sealed, others-count, own-shown}

-- ---- the seals

module _ (program : Program) (i : Instance) (loaded : Option Program) (outlets : List Outlet) (others : ℕ) (tables : Sets) (lists : List (List Message)) (kept : Kept) (keys : List Row) (own : HaveOwnKeys i outlets) (course : IsCourse program loaded outlets others tables lists kept) where
  sealed-shows : ShowsOutlets outlets (seal_outlets outlets keys lists) (record { tables = kept.tables; lists = seal_all i keys kept.lists })
  sealed-shows = seals-show i outlets keys lists kept course.apart own course.shows

  sealed-count : total (seal_outlets outlets keys lists) ≡ others + own_messages outlets (seal_outlets outlets keys lists)
  sealed-count =
      let after : List (List Message) = seal_outlets outlets keys lists in
      omega (arith, course.count, others-count outlets lists after course.apart (λ o h. (course.shows o h).place) (others-sealed outlets keys lists))

  pub sealed-total : total (seal_outlets outlets keys lists) ≡ others + messages_in (outputs_of_outlets outlets) (record { tables = kept.tables; lists = seal_all i keys kept.lists })
  sealed-total = sealed-count ∙ ap (λ n. others + n) (own-shown outlets (seal_outlets outlets keys lists) (record { tables = kept.tables; lists = seal_all i keys kept.lists }) sealed-shows)

  pub sealed-course : IsCourse program loaded outlets others tables (seal_outlets outlets keys lists) (record { tables = kept.tables; lists = seal_all i keys kept.lists })
  sealed-course = record {
    runs = course.runs;
    still = course.still;
    apart = course.apart;
    tables_are = course.tables_are;
    shows = sealed-shows;
    standing = standing-sealed program i keys kept course.standing;
    count = sealed-count;
  }

at_seals : (i : Instance) (s : SetOff) (outputs : List ℕ) (others : ℕ) (kept : Kept) (b : Bool) → nat_lt message_limit (others + messages_in outputs (record { tables = kept.tables; lists = seal_all i s.whole kept.lists })) ≡ b
    → limit_at_seals i s outputs others kept ≡ (if b then Some too_many_messages else None)
at_seals i s outputs others kept b is = ap (λ t. if t then Some too_many_messages else None) is

-- ---- all of it

module _ (i : Instance) (loaded : Option Program) (outlets : List Outlet) (others : ℕ) (tables next : Sets) (before between : List (List Message)) (kept : Kept) (s : SetOff) (of : IsCourseOf i loaded outlets others tables before kept) (goes : GoesOn loaded outlets tables next before between s.steps) where
  gone : GoesOnTo of.program loaded outlets others next between kept s.steps
  gone = goes of.program others kept of.course

  -- the limit is that at the seals
  limit_left : limit_of i.program i s (outputs_of_outlets outlets) others kept ≡ limit_at_seals i s (outputs_of_outlets outlets) others (fold (emit_step of.program) kept s.steps)
  limit_left =
      ap (λ o. limit_of o i s (outputs_of_outlets outlets) others kept) of.runs
      ∙ ap (limit_in of.program i s (outputs_of_outlets outlets) others kept) (sym (append-nil s.steps))
      ∙ gone.limit i s []

  pub emits_to : (after : List (List Message)) → after ≡ seal_outlets outlets s.whole between → total after ≤ message_limit → HasEmitted i loaded outlets others next after kept s
  emits_to after is few =
      let last : Kept = fold (emit_step of.program) kept s.steps in
      let fewer : others + messages_in (outputs_of_outlets outlets) (record { tables = last.tables; lists = seal_all i s.whole last.lists }) ≤ message_limit =
      subst (λ n. n ≤ message_limit) (ap total is ∙ sealed-total of.program i loaded outlets others next between last s.whole of.keys gone.course) few in
      let not_over : nat_lt message_limit (others + messages_in (outputs_of_outlets outlets) (record { tables = last.tables; lists = seal_all i s.whole last.lists })) ≡ false = grind (arith, nat_tests) in
      record {
        course = record {
          program = of.program;
          runs = of.runs;
          keys = of.keys;
          course =
              subst (λ k. IsCourse of.program loaded outlets others next after k) (sym (ap (λ o. emit_of o i kept s) of.runs))
              (subst (λ l. IsCourse of.program loaded outlets others next l (emit_of (Some of.program) i kept s)) (sym is)
              (sealed-course of.program i loaded outlets others next between last s.whole of.keys gone.course));
        };
        limit = limit_left ∙ at_seals i s (outputs_of_outlets outlets) others last false not_over;
      }

  pub overflows_at : message_limit < total (seal_outlets outlets s.whole between) → limit_of i.program i s (outputs_of_outlets outlets) others kept ≡ Some too_many_messages
  overflows_at over =
      let last : Kept = fold (emit_step of.program) kept s.steps in
      let more : message_limit < others + messages_in (outputs_of_outlets outlets) (record { tables = last.tables; lists = seal_all i s.whole last.lists }) =
      subst (λ n. message_limit < n) (sealed-total of.program i loaded outlets others next between last s.whole of.keys gone.course) over in
      let is_over : nat_lt message_limit (others + messages_in (outputs_of_outlets outlets) (record { tables = last.tables; lists = seal_all i s.whole last.lists })) ≡ true = grind (arith, nat_tests) in
      limit_left ∙ at_seals i s (outputs_of_outlets outlets) others last true is_over

-- ---- for each course

pub emits_all : (first : Option Program) (outlets : List Outlet) (tables next : Sets) (before between after : List (List Message)) (s : SetOff) → GoesOn first outlets tables next before between s.steps → after ≡ seal_outlets outlets s.whole between → total after ≤ message_limit
    → Emits first outlets tables next before after s
emits_all first outlets tables next before between after s goes is few i others kept of = emits_to i first outlets others tables next before between kept s of goes after is few

pub seals_meet : (first : Option Program) (outlets : List Outlet) (tables next : Sets) (before between : List (List Message)) (s : SetOff) → GoesOn first outlets tables next before between s.steps → message_limit < total (seal_outlets outlets s.whole between)
    → MeetsFirst too_many_messages first outlets tables before s
seals_meet first outlets tables next before between s goes over i others kept of = overflows_at i first outlets others tables next before between kept s of goes over

-- a limit in the timesteps is that of all
pub steps_meet : (limit : Limit) (first : Option Program) (outlets : List Outlet) (tables : Sets) (before : List (List Message)) (s : SetOff) → MeetsLimit limit first outlets tables before s.steps → MeetsFirst limit first outlets tables before s
steps_meet limit first outlets tables before s meets i others kept of = ap (λ o. limit_of o i s (outputs_of_outlets outlets) others kept) of.runs ∙ ap (limit_in of.program i s (outputs_of_outlets outlets) others kept) (sym (append-nil s.steps)) ∙ meets of.program others kept of.course i s []

-- ---- a fault that is met in the timesteps

-- the fault of an answer that hands it on
handed_is : (answer : Result (Unit {0}) EventFault) (fault other : EventFault) → IsErrAnd answer (λ d. d ≡ fault) → answer ≡ Err other → fault ≡ other
handed_is (Ok x) fault other handed e = absurd handed
handed_is (Err d) fault other handed e = let same : d ≡ other = cc in sym handed ∙ same

-- what the answer says
module _ (answer : Result (Unit {0}) EventFault) (fault : EventFault) (first : Option Program) (outlets : List Outlet) (tables : Sets) (before : List (List Message)) (s : SetOff) (handed : IsErrAnd answer (λ d. d ≡ fault)) (met : HasMet fault first outlets tables before s.steps) where
  pub first_rows : answer ≡ Err TooManyRows → MeetsFirst too_many_rows first outlets tables before s
  first_rows e =
      let same : fault ≡ TooManyRows = handed_is answer fault TooManyRows handed e in
      steps_meet too_many_rows first outlets tables before s (subst (λ f. HasMet f first outlets tables before s.steps) same met)

  pub first_messages : answer ≡ Err TooManyMessages → MeetsFirst too_many_messages first outlets tables before s
  first_messages e =
      let same : fault ≡ TooManyMessages = handed_is answer fault TooManyMessages handed e in
      steps_meet too_many_messages first outlets tables before s (subst (λ f. HasMet f first outlets tables before s.steps) same met)

  pub first_legal : IsLegal answer
  first_legal = handed_on IsLegal answer fault handed (legal fault met)
    where
      legal : (f : EventFault) → HasMet f first outlets tables before s.steps → IsLegal {X = Unit {0}} (Err f)
      legal NoInstance m = m
      legal NoMessage m = m
      legal NothingToTake m = m
      legal TooManyRows m = tt
      legal TooManyMessages m = tt
      legal NoMemory m = tt

-- ---- no seals

-- where no partition became whole, the lists stay
pub sealed_none : (outlets : List Outlet) (lists : List (List Message)) → lists ≡ seal_outlets outlets [] lists
sealed_none [] lists = refl
sealed_none (o ∷ outlets) lists =
    sealed_none outlets lists
    ∙ ap (seal_outlets outlets []) (sym (set-get_or lists o.place []) ∙ ap (set lists o.place) (none_with o.key (list_at lists o.place)))
  where
    none_with : (key : Option (List ℕ)) (list : List Message) → list ≡ with_seals key list []
    none_with None list = refl
    none_with (Some places) list = refl
