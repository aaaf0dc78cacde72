-- One timestep more, and several: the course goes on, or it meets the limit that is met first.
use Rattle.std.proofs.Common.{◌≡◌, ◌<◌, ◌≤◌, ◌+◌, ℕ, Bool, true, false, not, Option, Some, Err, List, [], ◌∷◌, ◌++◌, length, refl, ap, ◌∙◌, sym, subst, arith, append_assoc, nat_lt, nat_le}
use Rattle.std.specs.Prelude.{if◌then◌else◌}
use Rattle.std.specs.List.{fold}
use Rattle.std.proofs.lemmas.Bool.{false_from_ne_true}
use Rattle.std.proofs.lemmas.Bool.Decides.{nat_tests}
use Rattle.std.proofs.lemmas.List.Sums.{fold-append}
use Rattle.blz_value.proofs.Membership.{all_from, all_member}
use Rattle.blz_set.specs.RecordSet.{row_limit}
use Rattle.bloom_forms.specs.declared.program.Program.{Program}
use Rattle.bloom_forms.specs.ProgramStep.{tables_after_step, outputs_of_step, standing_outputs}
use Rattle.bloom_forms.specs.Step.{Sets, set_at}
use Rattle.blz_value.specs.Sets.{IsRowSet}
use Rattle.bloom_eval.specs.StepAnswers.{AllFit, SomeIsOver}
use Rattle.bloom_eval.specs.Changes.{AreChanges}
use Rattle.bloom_eval.specs.Step.{counted, counted_next, tables_next, outs_next, outs_still}
use Rattle.topo_forms.specs.Messages.{Message}
use Rattle.inbox.specs.Instances.{Instance}
use Rattle.inbox.specs.Timesteps.{SetOff}
use Rattle.inbox.specs.Emission.{Kept, emit_step}
use Rattle.inbox.specs.Growth.{Continues}
use Rattle.inbox.specs.Limits.{Limit, too_many_rows, too_many_messages, message_limit, step_fits, limit_in, messages_in}
use Rattle.messages.specs.Faults.{IsLimit}
use Rattle.messages.specs.Lists.{Listed, IsExact, read_lists, total}
use Rattle.messages.specs.declared.fault.EventFault.{EventFault}
use Rattle.messages.specs.declared.fault.EventFault.TheVariants.{NoInstance, NoMessage, NothingToTake, TooManyRows, TooManyMessages, NoMemory}
use Rattle.messages.proofs.ListsLemmas.{few_read}
use Rattle.inbox.specs.Outlets.{emit_outlets, ShowsOutlets, own_messages}
use Rattle.inbox.specs.Running.{IsCourse, GoesOnTo, GoesOn, MeetsLimit, HasGone, HasMet, outputs_of_outlets}
use Rattle.inbox.specs.declared.outlets.Outlet.{Outlet}
use Rattle.inbox.proofs.Emitting.{standing-step}
use Rattle.inbox.proofs.Lists.Growing.{continues_itself, continues_on}
use Rattle.inbox.proofs.OutletsLemmas.{step-shows, others-emitted, others_are_emitted, others_itself, others_stay_on, others-count, own-shown}

-- ---- tests of limits

le-true : (a b : ℕ) → a ≤ b → nat_le a b ≡ true
le-true a b h = grind (arith, nat_tests)

fits-true : (program : Program) (tables now : Sets) → AllFit (counted program tables now) → step_fits program tables now ≡ true
fits-true program tables now fit = all_from (λ rows. nat_le (length rows) row_limit) (counted program tables now) (λ rows h. le-true (length rows) row_limit (fit rows h))

fits-false : (program : Program) (tables now : Sets) → SomeIsOver (counted program tables now) → step_fits program tables now ≡ false
fits-false program tables now over = false_from_ne_true (step_fits program tables now)
    (λ all.
    let within : nat_le (length over.rows) row_limit ≡ true = all_member (λ rows. nat_le (length rows) row_limit) (counted program tables now) over.rows all over.stands in
    let le : length over.rows ≤ row_limit = grind (arith, nat_tests) in absurd (omega (arith, over.over, le)))

-- ---- one step

-- what a step of a shell puts out, as its changes
pub record AreStepChanges (program : Option Program) (tables now some : Sets) : Type 0 where
  pub fit : AllFit (counted_next program tables now)
  pub changes : AreChanges (outs_next program tables now) (outs_still program tables) some
  pub sets : (n : ℕ) → IsRowSet (set_at some n)

-- a step was made, and what it put out is emitted
pub record HasStepped (program : Option Program) (outlets : List Outlet) (now : Sets) (tables next : Sets) (before after : List (List Message)) : Type 0 where
  pub kept : next ≡ tables_next program tables now
  pub some : Sets
  pub step : AreStepChanges program tables now some
  pub lists : after ≡ emit_outlets outlets some before

-- or it would be too much
pub record HasOverflowed (program : Option Program) (outlets : List Outlet) (now : Sets) (tables : Sets) (before : List (List Message)) : Type 0 where
  pub some : Sets
  pub step : AreStepChanges program tables now some
  pub over : message_limit < total (emit_outlets outlets some before)

module _ (program : Program) (loaded : Option Program) (outlets : List Outlet) (others : ℕ) (tables : Sets) (before : List (List Message)) (kept : Kept) (course : IsCourse program loaded outlets others tables before kept) (now : Sets) where
  -- the facts of the step, in the tables that are kept
  kept-fit : AllFit (counted_next loaded tables now) → AllFit (counted program kept.tables now)
  kept-fit fit = subst (λ t. AllFit (counted program t now)) course.tables_are (subst (λ o. AllFit (counted_next o tables now)) course.runs fit)

  kept-over : SomeIsOver (counted_next loaded tables now) → SomeIsOver (counted program kept.tables now)
  kept-over over = subst (λ t. SomeIsOver (counted program t now)) course.tables_are (subst (λ o. SomeIsOver (counted_next o tables now)) course.runs over)

  kept-changes : (some : Sets) → AreChanges (outs_next loaded tables now) (outs_still loaded tables) some → AreChanges (outputs_of_step program kept.tables now) (standing_outputs program kept.tables) some
  kept-changes some changes =
      subst (λ t. AreChanges (outputs_of_step program t now) (standing_outputs program t) some) course.tables_are
      (subst (λ o. AreChanges (outs_next o tables now) (outs_still o tables) some) course.runs changes)

  stepped-shows : (some : Sets) → AreStepChanges loaded tables now some → ShowsOutlets outlets (emit_outlets outlets some before) (emit_step program kept now)
  stepped-shows some step = step-shows program outlets before kept now some course.apart course.shows course.standing (kept-changes some step.changes) step.sets

  stepped-count : (some : Sets) → total (emit_outlets outlets some before) ≡ others + own_messages outlets (emit_outlets outlets some before)
  stepped-count some =
      let after : List (List Message) = emit_outlets outlets some before in
      omega (arith, course.count, others-count outlets before after course.apart (λ o h. (course.shows o h).place) (others-emitted outlets some before))

  -- how many messages there are after the step
  stepped-total : (some : Sets) → AreStepChanges loaded tables now some → total (emit_outlets outlets some before) ≡ others + messages_in (outputs_of_outlets outlets) (emit_step program kept now)
  stepped-total some step = stepped-count some ∙ ap (λ n. others + n) (own-shown outlets (emit_outlets outlets some before) (emit_step program kept now) (stepped-shows some step))

  limit-by : (i : Instance) (s : SetOff) (more : List Sets) (fit over : Bool) → step_fits program kept.tables now ≡ fit → nat_lt message_limit (others + messages_in (outputs_of_outlets outlets) (emit_step program kept now)) ≡ over
      → limit_in program i s (outputs_of_outlets outlets) others kept (now ∷ more)
      ≡ (if not fit then Some too_many_rows else (if over then Some too_many_messages else limit_in program i s (outputs_of_outlets outlets) others (emit_step program kept now) more))
  limit-by i s more fit over a b = λ j. if not (a j) then Some too_many_rows else (if b j then Some too_many_messages else limit_in program i s (outputs_of_outlets outlets) others (emit_step program kept now) more)

  pub step_goes : (next : Sets) (after : List (List Message)) → HasStepped loaded outlets now tables next before after → total after ≤ message_limit → GoesOnTo program loaded outlets others next after kept (now ∷ [])
  step_goes next after stepped few =
      let some : Sets = stepped.some in
      let fewer : total (emit_outlets outlets some before) ≤ message_limit = subst (λ l. total l ≤ message_limit) stepped.lists few in
      let not_over : nat_lt message_limit (others + messages_in (outputs_of_outlets outlets) (emit_step program kept now)) ≡ false =
      (let le : others + messages_in (outputs_of_outlets outlets) (emit_step program kept now) ≤ message_limit = subst (λ n. n ≤ message_limit) (stepped-total some stepped.step) fewer in grind (arith, nat_tests)) in
      record {
        course = record {
          runs = course.runs;
          still = course.still;
          apart = course.apart;
          tables_are = stepped.kept ∙ ap (λ o. tables_next o tables now) course.runs ∙ ap (λ t. tables_after_step program t now) course.tables_are;
          shows = subst (λ l. ShowsOutlets outlets l (emit_step program kept now)) (sym stepped.lists) (stepped-shows some stepped.step);
          standing = standing-step program kept now course.still;
          count = subst (λ l. total l ≡ others + own_messages outlets l) (sym stepped.lists) (stepped-count some);
        };
        limit = λ i s more. limit-by i s more true false (fits-true program kept.tables now (kept-fit stepped.step.fit)) not_over;
      }

  pub step_rows : SomeIsOver (counted_next loaded tables now) → (i : Instance) (s : SetOff) (more : List Sets) → limit_in program i s (outputs_of_outlets outlets) others kept (now ∷ more) ≡ Some too_many_rows
  step_rows over i s more = limit-by i s more false (nat_lt message_limit (others + messages_in (outputs_of_outlets outlets) (emit_step program kept now))) (fits-false program kept.tables now (kept-over over)) refl

  pub step_messages : HasOverflowed loaded outlets now tables before → (i : Instance) (s : SetOff) (more : List Sets) → limit_in program i s (outputs_of_outlets outlets) others kept (now ∷ more) ≡ Some too_many_messages
  step_messages flow i s more =
      let is_over : nat_lt message_limit (others + messages_in (outputs_of_outlets outlets) (emit_step program kept now)) ≡ true =
      (let lt : message_limit < others + messages_in (outputs_of_outlets outlets) (emit_step program kept now) = subst (λ n. message_limit < n) (stepped-total flow.some flow.step) flow.over in grind (arith, nat_tests)) in
      limit-by i s more true true (fits-true program kept.tables now (kept-fit flow.step.fit)) is_over

-- ---- several steps

pub goes_none : (loaded : Option Program) (outlets : List Outlet) (tables : Sets) (before : List (List Message)) → GoesOn loaded outlets tables tables before before []
goes_none loaded outlets tables before program others kept course = record { course = course; limit = λ i s more. refl }

goes_on : (loaded first : Option Program) (outlets : List Outlet) (tables mid next : Sets) (before between after : List (List Message)) (nows later : List Sets) → loaded ≡ first
    → GoesOn first outlets tables mid before between nows → GoesOn loaded outlets mid next between after later → GoesOn first outlets tables next before after (nows ++ later)
goes_on loaded first outlets tables mid next before between after nows later same goes on program others kept course =
    let one = goes program others kept course in
    let two = subst (λ o. GoesOn o outlets mid next between after later) same on program others (fold (emit_step program) kept nows) one.course in
    record {
      course = subst (λ k. IsCourse program first outlets others next after k) (sym (fold-append (emit_step program) kept nows later)) two.course;
      limit = λ i s more.
          ap (limit_in program i s (outputs_of_outlets outlets) others kept) (append_assoc nows later more)
          ∙ one.limit i s (later ++ more)
          ∙ two.limit i s more
          ∙ ap (λ k. limit_in program i s (outputs_of_outlets outlets) others k more) (sym (fold-append (emit_step program) kept nows later));
    }

-- a limit that is met in the timesteps that come after others
meets_on : (limit : Limit) (loaded first : Option Program) (outlets : List Outlet) (tables mid : Sets) (before between : List (List Message)) (nows later : List Sets) → loaded ≡ first
    → GoesOn first outlets tables mid before between nows → MeetsLimit limit loaded outlets mid between later → MeetsLimit limit first outlets tables before (nows ++ later)
meets_on limit loaded first outlets tables mid before between nows later same goes meets program others kept course i s more =
    let one = goes program others kept course in
    ap (limit_in program i s (outputs_of_outlets outlets) others kept) (append_assoc nows later more)
    ∙ one.limit i s (later ++ more)
    ∙ subst (λ o. MeetsLimit limit o outlets mid between later) same meets program others (fold (emit_step program) kept nows) one.course i s more

-- and one that is met before others come
meets_soon : (limit : Limit) (loaded : Option Program) (outlets : List Outlet) (tables : Sets) (before : List (List Message)) (nows later : List Sets) → MeetsLimit limit loaded outlets tables before nows → MeetsLimit limit loaded outlets tables before (nows ++ later)
meets_soon limit loaded outlets tables before nows later meets program others kept course i s more =
    ap (limit_in program i s (outputs_of_outlets outlets) others kept) (append_assoc nows later more) ∙ meets program others kept course i s (later ++ more)

-- ---- with the lists that change

pub gone_none : (loaded : Option Program) (outlets : List Outlet) (tables : Sets) (l : Listed) → IsExact l → total l.lists ≤ message_limit → HasGone loaded outlets tables tables l l []
gone_none loaded outlets tables l exact few = record {
  goes = goes_none loaded outlets tables (read_lists l);
  records = continues_itself l.records;
  exact = exact;
  others = others_itself outlets (read_lists l);
  count = refl;
  few = few;
}

pub gone_one : (loaded : Option Program) (outlets : List Outlet) (tables next : Sets) (old new : Listed) (now : Sets) → HasStepped loaded outlets now tables next (read_lists old) (read_lists new)
    → Continues old.records new.records → IsExact new → length new.lists ≡ length old.lists → total new.lists ≤ message_limit → HasGone loaded outlets tables next old new (now ∷ [])
gone_one loaded outlets tables next old new now stepped records exact count few = record {
  goes = λ program others kept course. step_goes program loaded outlets others tables (read_lists old) kept course now next (read_lists new) stepped (few_read new few);
  records = records;
  exact = exact;
  others = others_are_emitted outlets stepped.some (read_lists old) (read_lists new) stepped.lists;
  count = count;
  few = few;
}

pub gone_on : (loaded first : Option Program) (outlets : List Outlet) (tables mid next : Sets) (old between new : Listed) (nows later : List Sets) → loaded ≡ first
    → HasGone first outlets tables mid old between nows → HasGone loaded outlets mid next between new later → HasGone first outlets tables next old new (nows ++ later)
gone_on loaded first outlets tables mid next old between new nows later same gone on = record {
  goes = goes_on loaded first outlets tables mid next (read_lists old) (read_lists between) (read_lists new) nows later same gone.goes on.goes;
  records = continues_on old.records between.records new.records gone.records on.records;
  exact = on.exact;
  others = others_stay_on outlets (read_lists old) (read_lists between) (read_lists new) gone.others on.others;
  count = on.count ∙ gone.count;
  few = on.few;
}

-- ---- faults

pub met_rows : (loaded : Option Program) (outlets : List Outlet) (tables : Sets) (before : List (List Message)) (now : Sets) → SomeIsOver (counted_next loaded tables now) → MeetsLimit too_many_rows loaded outlets tables before (now ∷ [])
met_rows loaded outlets tables before now over program others kept course i s more = step_rows program loaded outlets others tables before kept course now over i s more

pub met_messages : (loaded : Option Program) (outlets : List Outlet) (tables : Sets) (before : List (List Message)) (now : Sets) → HasOverflowed loaded outlets now tables before → MeetsLimit too_many_messages loaded outlets tables before (now ∷ [])
met_messages loaded outlets tables before now flow program others kept course i s more = step_messages program loaded outlets others tables before kept course now flow i s more

pub met_on : (fault : EventFault) (loaded first : Option Program) (outlets : List Outlet) (tables mid : Sets) (before between : List (List Message)) (nows later : List Sets) → loaded ≡ first
    → GoesOn first outlets tables mid before between nows → HasMet fault loaded outlets mid between later → HasMet fault first outlets tables before (nows ++ later)
met_on NoInstance loaded first outlets tables mid before between nows later same goes met = met
met_on NoMessage loaded first outlets tables mid before between nows later same goes met = met
met_on NothingToTake loaded first outlets tables mid before between nows later same goes met = met
met_on TooManyRows loaded first outlets tables mid before between nows later same goes met = meets_on too_many_rows loaded first outlets tables mid before between nows later same goes met
met_on TooManyMessages loaded first outlets tables mid before between nows later same goes met = meets_on too_many_messages loaded first outlets tables mid before between nows later same goes met
met_on NoMemory loaded first outlets tables mid before between nows later same goes met = met

pub met_soon : (fault : EventFault) (loaded : Option Program) (outlets : List Outlet) (tables : Sets) (before : List (List Message)) (nows later : List Sets) → HasMet fault loaded outlets tables before nows → HasMet fault loaded outlets tables before (nows ++ later)
met_soon NoInstance loaded outlets tables before nows later met = met
met_soon NoMessage loaded outlets tables before nows later met = met
met_soon NothingToTake loaded outlets tables before nows later met = met
met_soon TooManyRows loaded outlets tables before nows later met = meets_soon too_many_rows loaded outlets tables before nows later met
met_soon TooManyMessages loaded outlets tables before nows later met = meets_soon too_many_messages loaded outlets tables before nows later met
met_soon NoMemory loaded outlets tables before nows later met = met

-- an emission after a step meets no fault but the limit of messages and want of memory
pub met_emitting : (fault : EventFault) (loaded : Option Program) (outlets : List Outlet) (tables : Sets) (before : List (List Message)) (now some : Sets) → IsLimit {X = Unit {0}} (Err fault) → AreStepChanges loaded tables now some
    → (fault ≡ TooManyMessages → message_limit < total (emit_outlets outlets some before)) → HasMet fault loaded outlets tables before (now ∷ [])
met_emitting NoInstance loaded outlets tables before now some legal step over = legal
met_emitting NoMessage loaded outlets tables before now some legal step over = legal
met_emitting NothingToTake loaded outlets tables before now some legal step over = legal
met_emitting TooManyRows loaded outlets tables before now some legal step over = absurd legal
met_emitting TooManyMessages loaded outlets tables before now some legal step over = met_messages loaded outlets tables before now (record { some = some; step = step; over = over refl })
met_emitting NoMemory loaded outlets tables before now some legal step over = tt
