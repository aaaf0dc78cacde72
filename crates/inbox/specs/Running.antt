-- How an instance goes through timesteps, with a shell and the lists of its outlets.
use Rattle.std.specs.Prelude.{◌≡◌, ◌<◌, ◌≤◌, ◌+◌, ◌++◌, [], ℕ, Option, None, Some, List, map, length, slice_set, slice_index_or}
use Rattle.std.specs.List.{fold}
use Rattle.bloom_forms.specs.declared.program.Program.{Program}
use Rattle.bloom_forms.specs.Laws.{StandsStill}
use Rattle.bloom_forms.specs.ProgramStep.{standing_outputs}
use Rattle.bloom_forms.specs.Step.{Sets, set_at}
use Rattle.blz_value.specs.Members.{Has}
use Rattle.blz_value.specs.Record.{Row}
use Rattle.topo_forms.specs.Messages.{Message, rows_in}
use Rattle.inbox.specs.Instances.{Instance}
use Rattle.inbox.specs.Timesteps.{SetOff}
use Rattle.inbox.specs.Emission.{Kept, list_of, output_key, emit_step, emit}
use Rattle.inbox.specs.Growth.{Continues}
use Rattle.inbox.specs.Limits.{Limit, too_many_rows, too_many_messages, message_limit, limit_in, limit_of}
use Rattle.messages.specs.Lists.{Listed, IsExact, read_lists, total}
use Rattle.messages.specs.declared.fault.EventFault.{EventFault}
use Rattle.messages.specs.declared.fault.EventFault.TheVariants.{NoInstance, NoMessage, NothingToTake, TooManyRows, TooManyMessages, NoMemory}
use Rattle.inbox.specs.Outlets.{AreApart, ShowsOutlets, OthersStay, own_messages}
use Rattle.inbox.specs.declared.outlets.Outlet.{Outlet}

-- ---- a course

-- what the tables put out with nothing arriving stands in the lists
pub record StandingIsEmitted (program : Program) (kept : Kept) : Type 0 where
  pub emitted : (output : ℕ) (r : Row) → output < length kept.lists → Has r (set_at (standing_outputs program kept.tables) output) → Has r (rows_in (list_of kept output))

-- a shell with this program and these tables, and the lists, show what is kept of an instance, where other lists have so many messages
pub record IsCourse (program : Program) (loaded : Option Program) (outlets : List Outlet) (others : ℕ) (tables : Sets) (lists : List (List Message)) (kept : Kept) : Type 0 where
  pub runs : loaded ≡ Some program
  pub still : StandsStill program
  pub apart : AreApart outlets
  pub tables_are : tables ≡ kept.tables
  pub shows : ShowsOutlets outlets lists kept
  pub standing : StandingIsEmitted program kept
  pub count : total lists ≡ others + own_messages outlets lists

-- the numbers of outlets' outputs
abbrev pub outputs_of_outlets : List Outlet → List ℕ
outputs_of_outlets outlets = map (λ o. o.output) outlets

-- the course goes on by these timesteps, and meets no limit in them
pub record GoesOnTo (program : Program) (loaded : Option Program) (outlets : List Outlet) (others : ℕ) (next : Sets) (after : List (List Message)) (kept : Kept) (nows : List Sets) : Type 0 where
  pub course : IsCourse program loaded outlets others next after (fold (emit_step program) kept nows)
  pub limit : (i : Instance) (s : SetOff) (more : List Sets) → limit_in program i s (outputs_of_outlets outlets) others kept (nows ++ more) ≡ limit_in program i s (outputs_of_outlets outlets) others (fold (emit_step program) kept nows) more

-- so it is of each course that it was
abbrev pub GoesOn : (loaded : Option Program) → List Outlet → (tables next : Sets) → (before after : List (List Message)) → (nows : List Sets) → Type 0
GoesOn loaded outlets tables next before after nows = (program : Program) (others : ℕ) (kept : Kept) → IsCourse program loaded outlets others tables before kept → GoesOnTo program loaded outlets others next after kept nows

-- each course that it was meets this limit in the timesteps, whatever comes after them
abbrev pub MeetsLimit : Limit → (loaded : Option Program) → List Outlet → (tables : Sets) → (before : List (List Message)) → (nows : List Sets) → Type 0
MeetsLimit limit loaded outlets tables before nows = (program : Program) (others : ℕ) (kept : Kept) → IsCourse program loaded outlets others tables before kept
    → (i : Instance) (s : SetOff) (more : List Sets) → limit_in program i s (outputs_of_outlets outlets) others kept (nows ++ more) ≡ Some limit

-- ---- timesteps that were gone through

-- a shell went through timesteps, and the lists with it: their pool went on and has exactly their records, and the lists of others stay
pub record HasGone (loaded : Option Program) (outlets : List Outlet) (tables next : Sets) (old new : Listed) (nows : List Sets) : Type 0 where
  pub goes : GoesOn loaded outlets tables next (read_lists old) (read_lists new) nows
  pub records : Continues old.records new.records
  pub exact : IsExact new
  pub others : OthersStay outlets (read_lists old) (read_lists new)
  pub count : length new.lists ≡ length old.lists
  pub few : total new.lists ≤ message_limit

-- or it met a fault there: the limit that each course meets, or want of memory
abbrev pub HasMet : EventFault → (loaded : Option Program) → List Outlet → (tables : Sets) → (before : List (List Message)) → (nows : List Sets) → Type 0
HasMet NoInstance loaded outlets tables before nows = ⊥
HasMet NoMessage loaded outlets tables before nows = ⊥
HasMet NothingToTake loaded outlets tables before nows = ⊥
HasMet TooManyRows loaded outlets tables before nows = MeetsLimit too_many_rows loaded outlets tables before nows
HasMet TooManyMessages loaded outlets tables before nows = MeetsLimit too_many_messages loaded outlets tables before nows
HasMet NoMemory loaded outlets tables before nows = Unit {0}

-- ---- what is set off, with its seals

-- each outlet has the key that its output's stream carries
abbrev pub HaveOwnKeys : Instance → List Outlet → Type 0
HaveOwnKeys i outlets = (o : Outlet) → Has o outlets → o.key ≡ output_key i o.output

-- an instance whose course it is: it runs this program, and its outlets are these
pub record IsCourseOf (i : Instance) (loaded : Option Program) (outlets : List Outlet) (others : ℕ) (tables : Sets) (lists : List (List Message)) (kept : Kept) : Type 0 where
  pub program : Program
  pub runs : i.program ≡ Some program
  pub keys : HaveOwnKeys i outlets
  pub course : IsCourse program loaded outlets others tables lists kept

-- each course goes on by what is set off, and meets no limit in it
pub record HasEmitted (i : Instance) (loaded : Option Program) (outlets : List Outlet) (others : ℕ) (next : Sets) (after : List (List Message)) (kept : Kept) (s : SetOff) : Type 0 where
  pub course : IsCourseOf i loaded outlets others next after (emit i kept s)
  pub limit : limit_of i.program i s (outputs_of_outlets outlets) others kept ≡ None

abbrev pub Emits : (loaded : Option Program) → List Outlet → (tables next : Sets) → (before after : List (List Message)) → SetOff → Type 0
Emits loaded outlets tables next before after s = (i : Instance) (others : ℕ) (kept : Kept) → IsCourseOf i loaded outlets others tables before kept → HasEmitted i loaded outlets others next after kept s

-- each course meets this limit first
abbrev pub MeetsFirst : Limit → (loaded : Option Program) → List Outlet → (tables : Sets) → (before : List (List Message)) → SetOff → Type 0
MeetsFirst limit loaded outlets tables before s = (i : Instance) (others : ℕ) (kept : Kept) → IsCourseOf i loaded outlets others tables before kept → limit_of i.program i s (outputs_of_outlets outlets) others kept ≡ Some limit

-- the shell at a place and the lists of its outlets emit what is set off
pub record EmitsAt (loaded : List (Option Program)) (place : ℕ) (outlets : List Outlet) (tables next : List Sets) (before after : List (List Message)) (s : SetOff) : Type 0 where
  pub tables_now : Sets
  pub changed : next ≡ slice_set tables place tables_now
  pub emits : Emits (slice_index_or loaded place None) outlets (slice_index_or tables place []) tables_now before after s

-- or meet this limit first
abbrev pub MeetsAt : Limit → (loaded : List (Option Program)) → (place : ℕ) → List Outlet → (tables : List Sets) → (before : List (List Message)) → SetOff → Type 0
MeetsAt limit loaded place outlets tables before s = MeetsFirst limit (slice_index_or loaded place None) outlets (slice_index_or tables place []) before s
