-- What the shell at the place of an instance emits is what the execution says, with the limit that it meets first.
use Rattle.std.proofs.Common.{◌≡◌, ◌<◌, ◌-◌, ℕ, Option, None, Some, List, length, set, get_or, refl, ap, sym, subst, ◌∙◌}
use Rattle.std.specs.Prelude.{IsSome}
use Rattle.std.specs.List.{All}
use Rattle.bloom_forms.specs.declared.program.Program.{Program}
use Rattle.bloom_forms.specs.Step.{Sets}
use Rattle.topo_forms.specs.Data.{Data}
use Rattle.topo_forms.specs.Messages.{Message}
use Rattle.topo_forms.specs.Valid.{IsValid}
use Rattle.topo_forms.specs.View.{View, program_of, replicas_of}
use Rattle.blz_value.proofs.Membership.{Has-get_or}
use Rattle.inbox.specs.Emission.{Kept, emit}
use Rattle.inbox.specs.Events.{Step}
use Rattle.inbox.specs.Executions.{Execution}
use Rattle.inbox.specs.Instances.{Instance}
use Rattle.inbox.specs.Lives.{kept_after}
use Rattle.inbox.specs.Timesteps.{SetOff}
use Rattle.inbox.specs.Wiring.{instance_at, wiring_of}
use Rattle.inbox.specs.Limits.{Limit, limit_of, limit_at, all_messages, messages_in, outputs_from}
use Rattle.messages.specs.Lists.{read_lists, list_at}
use Rattle.sched_net.specs.Net.{Stands, execution_in}
use Rattle.inbox.specs.Outlets.{ShowsOutlets, outlets_for}
use Rattle.inbox.specs.Places.{instance_place}
use Rattle.inbox.specs.Running.{EmitsAt, MeetsAt, IsCourseOf, outputs_of_outlets}
use Rattle.sched_net.specs.declared.books.Books.{Books}
use Rattle.messages.proofs.ListsLemmas.{length-read_lists}
use Rattle.sched_net.proofs.OwnOutlets.{outlets_are, outlets_there}
use Rattle.inbox.proofs.PlacesLemmas.{place-before}
use Rattle.sched_net.proofs.ShellsLemmas.{loaded_at, many_loaded}
use Rattle.sched_net.proofs.Showing.{is_there-true, course_of}

some_of : {X : Type 0} (o : Option X) → IsSome o → (x : X) × (o ≡ Some x)
some_of None s = cc
some_of (Some x) s = (x, refl)

-- what was emitted, where no limit was met
pub record HasEmittedAt (v : View) (given : Data) (x : Execution) (kept : Kept) (c r : ℕ) (tables next : List Sets) (after : List (List Message)) (s : SetOff) : Type 0 where
  pub limit : limit_at (wiring_of v) given x c r s ≡ None
  pub own : ShowsOutlets (outlets_for v c r) after (emit (instance_at (wiring_of v) c r) kept s)
  pub changed : next ≡ set tables (instance_place v c r) (emit (instance_at (wiring_of v) c r) kept s).tables

module _ (v : View) (given : Data) (steps : List Step) (loaded : List (Option Program)) (tables : List Sets) (b : Books) (valid : IsValid v) (stands : Stands v given steps loaded tables b) (c r : ℕ) (there : c < length v.components) (within : r < replicas_of v c) where
  -- the shell
  pub program_here : get_or loaded (instance_place v c r) None ≡ program_of v c
  program_here = loaded_at v loaded c r stands.programs there within

  pub runs_here : IsSome (get_or loaded (instance_place v c r) None)
  runs_here = subst IsSome (sym program_here) (stands.books.bodies c there)

  pub shell_inside : instance_place v c r < length loaded
  shell_inside = subst (λ n. instance_place v c r < n) (sym (many_loaded v loaded stands.programs)) (place-before (replicas_of v) c r (length v.components) within there)

  -- its outlets
  pub outlets_inside : All (λ o. o.place < length b.lists.lists) (outlets_for v c r)
  outlets_inside k d inside =
      subst (λ n. (get_or (outlets_for v c r) k d).place < n) (sym (sym (length-read_lists b.lists) ∙ stands.books.shows.count))
      (outlets_there v c r within (get_or (outlets_for v c r) k d) (Has-get_or (outlets_for v c r) k d inside))

  -- its course
  abbrev others : ℕ
  others = all_messages (wiring_of v) given (execution_in stands.books) - messages_in (outputs_from (wiring_of v) c) (stands.books.seats.seats c r).kept

  course_here : IsCourseOf (instance_at (wiring_of v) c r) (get_or loaded (instance_place v c r) None) (outlets_for v c r) others (list_at tables (instance_place v c r)) (read_lists b.lists) (stands.books.seats.seats c r).kept
  course_here =
      let body = some_of (program_of v c) (stands.books.bodies c there) in
      subst (λ o. IsCourseOf (instance_at (wiring_of v) c r) o (outlets_for v c r) others (list_at tables (instance_place v c r)) (read_lists b.lists) (stands.books.seats.seats c r).kept) (sym program_here)
      (subst (λ t. IsCourseOf (instance_at (wiring_of v) c r) (program_of v c) (outlets_for v c r) others (list_at t (instance_place v c r)) (read_lists b.lists) (stands.books.seats.seats c r).kept) (sym stands.tables_are)
      (course_of v given (execution_in stands.books) stands.books.seats stands.books.tables (read_lists b.lists) valid stands.books.stands.stands stands.books.shows c r there within body.0 body.1))

  limit_here : (s : SetOff) (limit : Option Limit) → limit_of (instance_at (wiring_of v) c r).program (instance_at (wiring_of v) c r) s (outputs_of_outlets (outlets_for v c r)) others (stands.books.seats.seats c r).kept ≡ limit
      → limit_at (wiring_of v) given (execution_in stands.books) c r s ≡ limit
  limit_here s limit is =
      let i : Instance = instance_at (wiring_of v) c r in
      let kept_is : (stands.books.seats.seats c r).kept ≡ kept_after i ((execution_in stands.books).logs c) ((execution_in stands.books).lives c r) = (stands.books.stands.stands.seats c r (is_there-true v c r there within)).kept in
      ap (λ k. limit_of i.program i s (outputs_from (wiring_of v) c) (all_messages (wiring_of v) given (execution_in stands.books) - messages_in (outputs_from (wiring_of v) c) k) k) (sym kept_is)
      ∙ ap (λ outputs. limit_of i.program i s outputs (all_messages (wiring_of v) given (execution_in stands.books) - messages_in (outputs_from (wiring_of v) c) (stands.books.seats.seats c r).kept) (stands.books.seats.seats c r).kept) (outlets_are v c r)
      ∙ is

  pub meets_at : (limit : Limit) (s : SetOff) → MeetsAt limit loaded (instance_place v c r) (outlets_for v c r) tables (read_lists b.lists) s → limit_at (wiring_of v) given (execution_in stands.books) c r s ≡ Some limit
  meets_at limit s meets = limit_here s (Some limit) (meets (instance_at (wiring_of v) c r) others (stands.books.seats.seats c r).kept course_here)

  pub emits_at : (next : List Sets) (after : List (List Message)) (s : SetOff) → EmitsAt loaded (instance_place v c r) (outlets_for v c r) tables next (read_lists b.lists) after s
      → HasEmittedAt v given (execution_in stands.books) (stands.books.seats.seats c r).kept c r stands.books.tables next after s
  emits_at next after s e =
      let i : Instance = instance_at (wiring_of v) c r in
      let kept : Kept = (stands.books.seats.seats c r).kept in
      let has = e.emits i others kept course_here in
      record {
        limit = limit_here s None has.limit;
        own = has.course.course.shows;
        changed = e.changed ∙ ap (λ t. set t (instance_place v c r) e.tables_now) stands.tables_are ∙ ap (set stands.books.tables (instance_place v c r)) has.course.course.tables_are;
      }
