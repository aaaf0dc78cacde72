-- A reply is the usage line where nothing is asked for, and else the answer at the end of its checks; its status tells which.
use Rattle.std.proofs.Common.{◌≡◌, ◌≢◌, ◌∙◌, ◌<◌, ◌⊎◌, inl, inr, List, Option, Some, None, IfSome, IsSomeAnd, IsTrue, refl, sym, subst, ap, arith}
use Rattle.blz_outside.specs.Counts.{Rose}
use Rattle.blz_outside.specs.Files.{FileMap}
use Rattle.bloom_eval.specs.declared.kind.ProgramKind.{ProgramKind}
use Rattle.blazes_commands.specs.Runs.Bench.{BenchStates}
use Rattle.command_checks.specs.Script.{Bytes, Script, Ending, IsFailed}
use Rattle.command_checks.specs.Script.Ending.{gave, refused, failed}
use Rattle.command_checks.specs.Ends.{FilesStates, Came, Ends, ended}
use Rattle.blazes_words.specs.Words.{Asked, request_of}
use Rattle.command_checks.specs.Reply.{Answer}
use Rattle.blazes_commands.specs.Commands.{Work, script}
use Rattle.blazes_commands.specs.Commands.Work.{labelled, derived, planned, ran, made, soaked, sharded, witnessed, explained}
use Rattle.blazes_commands.specs.Answer.{Answers}
use Rattle.blazes_cli.specs.Answer.{IsReply}
use Rattle.blazes_cli.specs.Outcome.{SinkStates, WroteAll, IsSaid, IsOutcome, IsUsageOrLost, IsReadFaultOrLost}
use Rattle.command_checks.specs.declared.status.Status.{Status}
use Rattle.command_checks.specs.declared.status.Status.TheVariants.{Done, Refused, Usage, ReadFault, WriteFault, Incomplete, NoMemory}
use Rattle.blazes_cli.proofs.SteadyLemmas.{steady_ends}

-- the statuses that there may be at the end of a script
abbrev IsStatusAt : Ending Work → Status → Type 0
IsStatusAt (gave (labelled t)) status = status ≡ Done
IsStatusAt (gave (derived t)) status = status ≡ Done
IsStatusAt (gave (planned t)) status = status ≡ Done
IsStatusAt (gave (soaked batches v given events)) status = status ≡ Done
IsStatusAt (gave (sharded t)) status = status ≡ Done
IsStatusAt (gave (witnessed found)) status = status ≡ Done
IsStatusAt (gave (explained found)) status = status ≡ Done
IsStatusAt (gave (ran v given x)) status = (status ≡ Done) ⊎ (status ≡ Incomplete)
IsStatusAt (gave (made v given events)) status = (status ≡ Done) ⊎ (status ≡ Incomplete)
IsStatusAt (refused line) status = status ≡ Refused
IsStatusAt (failed name) status = status ≡ ReadFault

status_of_answer : (e : Ending Work) (bench : BenchStates) (answer : Answer) → Answers e bench answer → IsStatusAt e answer.status
status_of_answer (gave (labelled t)) bench answer has = ap (λ a. a.status) has.says
status_of_answer (gave (derived t)) bench answer has = ap (λ a. a.status) has.says
status_of_answer (gave (planned t)) bench answer has = has.status
status_of_answer (gave (soaked batches v given events)) bench answer has = ap (λ a. a.status) has.summary.says
status_of_answer (gave (sharded t)) bench answer has = ap (λ a. a.status) has.says
status_of_answer (gave (witnessed found)) bench answer has = ap (λ a. a.status) has.says
status_of_answer (gave (explained found)) bench answer has = ap (λ a. a.status) has.says
status_of_answer (gave (ran v given x)) bench answer has = elim has.contents.status [
  | inl done ↦ inl done.0
  | inr not_done ↦ inr not_done.0
]
status_of_answer (gave (made v given events)) bench answer has = elim has.status [
  | inl done ↦ inl done.0
  | inr not_done ↦ inr not_done.0
]
status_of_answer (refused line) bench answer is = ap (λ a. a.status) is
status_of_answer (failed name) bench answer is = ap (λ a. a.status) is

-- what a status says of the counts of faults
abbrev CountsAs : FilesStates → Status → Type 0
CountsAs files ReadFault = Rose files.before.faults files.after.faults
CountsAs files Done = files.after.faults ≡ files.before.faults
CountsAs files Refused = files.after.faults ≡ files.before.faults
CountsAs files Usage = files.after.faults ≡ files.before.faults
CountsAs files WriteFault = ⊥
CountsAs files Incomplete = files.after.faults ≡ files.before.faults
CountsAs files NoMemory = ⊥

counts_at : (files : FilesStates) (s : Script Work) (e : Ending Work) (status : Status) → Came files s e → IsStatusAt e status → CountsAs files status
counts_at files s (gave (labelled t)) status came is = subst (CountsAs files) (sym is) came.counts
counts_at files s (gave (derived t)) status came is = subst (CountsAs files) (sym is) came.counts
counts_at files s (gave (planned t)) status came is = subst (CountsAs files) (sym is) came.counts
counts_at files s (gave (soaked batches v given events)) status came is = subst (CountsAs files) (sym is) came.counts
counts_at files s (gave (sharded t)) status came is = subst (CountsAs files) (sym is) came.counts
counts_at files s (gave (witnessed found)) status came is = subst (CountsAs files) (sym is) came.counts
counts_at files s (gave (explained found)) status came is = subst (CountsAs files) (sym is) came.counts
counts_at files s (gave (ran v given x)) status came is = elim is [
  | inl done ↦ subst (CountsAs files) (sym done) came.counts
  | inr not_done ↦ subst (CountsAs files) (sym not_done) came.counts
]
counts_at files s (gave (made v given events)) status came is = elim is [
  | inl done ↦ subst (CountsAs files) (sym done) came.counts
  | inr not_done ↦ subst (CountsAs files) (sym not_done) came.counts
]
counts_at files s (refused line) status came is = subst (CountsAs files) (sym is) came.counts
counts_at files s (failed name) status came is = subst (CountsAs files) (sym is) came.counts

-- the status of a reply says what the counts do
pub reply_counts : (asked : Option Asked) (files : FilesStates) (bench : BenchStates) (answer : Answer) → IsReply asked files bench answer → CountsAs files answer.status
reply_counts None files bench answer usage = subst (λ a. CountsAs files a.status) (sym usage.says) (ap (λ s. s.faults) usage.unread)
reply_counts (Some asked) files bench answer answered =
    counts_at files (script bench.kinds asked) answered.ending answer.status answered.came (status_of_answer answered.ending bench answer answered.answers)

-- Usage is the status of a reply exactly where nothing is asked for
not_usage : (e : Ending Work) (status : Status) → IsStatusAt e status → status ≡ Usage → ⊥
not_usage (gave (labelled t)) status at is = cc
not_usage (gave (derived t)) status at is = cc
not_usage (gave (planned t)) status at is = cc
not_usage (gave (soaked batches v given events)) status at is = cc
not_usage (gave (sharded t)) status at is = cc
not_usage (gave (witnessed found)) status at is = cc
not_usage (gave (explained found)) status at is = cc
not_usage (gave (ran v given x)) status at is = elim at [
  | inl done ↦ cc
  | inr not_done ↦ cc
]
not_usage (gave (made v given events)) status at is = elim at [
  | inl done ↦ cc
  | inr not_done ↦ cc
]
not_usage (refused line) status at is = cc
not_usage (failed name) status at is = cc

pub reply_usage : (asked : Option Asked) (files : FilesStates) (bench : BenchStates) (answer : Answer) → IsReply asked files bench answer → answer.status ≡ Usage → asked ≡ None
reply_usage None files bench answer reply is = refl
reply_usage (Some asked) files bench answer reply is =
    absurd (not_usage reply.ending answer.status (status_of_answer reply.ending bench answer reply.answers) is)

pub reply_unmatched : (asked : Option Asked) (files : FilesStates) (bench : BenchStates) (answer : Answer) → IsReply asked files bench answer → asked ≡ None → IsUsageOrLost answer.status
reply_unmatched None files bench answer reply none = subst (λ a. IsUsageOrLost a.status) (sym reply.says) tt
reply_unmatched (Some asked) files bench answer reply none = absurd (cc)

-- a read failed exactly where the status says so
read_failed : (e : Ending Work) (status : Status) → IsStatusAt e status → status ≡ ReadFault → IsFailed e
read_failed (gave (labelled t)) status at is = absurd (cc)
read_failed (gave (derived t)) status at is = absurd (cc)
read_failed (gave (planned t)) status at is = absurd (cc)
read_failed (gave (soaked batches v given events)) status at is = absurd (cc)
read_failed (gave (sharded t)) status at is = absurd (cc)
read_failed (gave (witnessed found)) status at is = absurd (cc)
read_failed (gave (explained found)) status at is = absurd (cc)
read_failed (gave (ran v given x)) status at is = elim at [
  | inl done ↦ absurd (cc)
  | inr not_done ↦ absurd (cc)
]
read_failed (gave (made v given events)) status at is = elim at [
  | inl done ↦ absurd (cc)
  | inr not_done ↦ absurd (cc)
]
read_failed (refused line) status at is = absurd (cc)
read_failed (failed name) status at is = tt

failed_read : (e : Ending Work) (status : Status) → IsStatusAt e status → IsFailed e → status ≡ ReadFault
failed_read (gave work) status at is = absurd is
failed_read (refused line) status at is = absurd is
failed_read (failed name) status at is = at

-- over a steady source the script came to the end which it has over the files that are held
steady_end : (files : FilesStates) (checks : Script Work) (held : FileMap) (e : Ending Work) → IsTrue files.before.told.steady → files.before.told.held ≡ Some held
    → Came files checks e → e ≡ ended held checks
steady_end files checks held e steady is came =
    steady_ends held checks e (subst (λ told. Ends told checks e) (λ i. record { held = is i; steady = steady i }) came.ends)

-- the words ask for something whose checks end in a failed read over these files
abbrev Missed : List ProgramKind → FileMap → Option Asked → Type 0
Missed kinds held asked = IsSomeAnd asked (λ asked. IsFailed (ended held (script kinds asked)))

pub reply_held : (asked : Option Asked) (files : FilesStates) (bench : BenchStates) (answer : Answer) (held : FileMap) → IsReply asked files bench answer
    → IsTrue files.before.told.steady → files.before.told.held ≡ Some held → ¬ Missed bench.kinds held asked → answer.status ≢ ReadFault
reply_held None files bench answer held reply steady is missed read =
    let usage : answer.status ≡ Usage = ap (λ a. a.status) reply.says in
    let bad : Usage ≡ ReadFault = sym usage ∙ read in
    cc
reply_held (Some asked) files bench answer held reply steady is missed read =
    missed (subst IsFailed (steady_end files (script bench.kinds asked) held reply.ending steady is reply.came)
    (read_failed reply.ending answer.status (status_of_answer reply.ending bench answer reply.answers) read))

pub reply_absent : (asked : Option Asked) (files : FilesStates) (bench : BenchStates) (answer : Answer) (held : FileMap) → IsReply asked files bench answer
    → IsTrue files.before.told.steady → files.before.told.held ≡ Some held → Missed bench.kinds held asked → IsReadFaultOrLost answer.status
reply_absent None files bench answer held reply steady is missed = absurd missed
reply_absent (Some asked) files bench answer held reply steady is missed =
    let read : answer.status ≡ ReadFault = failed_read reply.ending answer.status (status_of_answer reply.ending bench answer reply.answers)
    (subst IsFailed (sym (steady_end files (script bench.kinds asked) held reply.ending steady is reply.came)) missed) in
    subst IsReadFaultOrLost (sym read) tt

-- a status under which the count of faults rose
pub counted : (files : FilesStates) (status : Status) → CountsAs files status → files.before.faults < files.after.faults → IsReadFaultOrLost status
counted files ReadFault rose more = tt
counted files Done same more = absurd (omega (arith, same))
counted files Refused same more = absurd (omega (arith, same))
counted files Usage same more = absurd (omega (arith, same))
counted files WriteFault never more = tt
counted files Incomplete same more = absurd (omega (arith, same))
counted files NoMemory never more = tt

pub rose : (files : FilesStates) (status : Status) → CountsAs files status → status ≡ ReadFault → Rose files.before.faults files.after.faults
rose files status counts is = subst (CountsAs files) is counts

-- a fact of the status of a reply, and of WriteFault, is one of the status with which it was said
pub said : (P : Status → Type 0) (sink : SinkStates) (status : Status) (text : Bytes) (result : Status) → IsSaid sink status text result
    → P status → P WriteFault → P result
said P sink status text result (inl whole) here lost = subst P (sym whole.0) here
said P sink status text result (inr front) here lost = subst P (sym front.0) lost

-- a reply that was written whole is the outcome under its status
whole_outcome : (words : List Bytes) (files : FilesStates) (bench : BenchStates) (sink : SinkStates) (status : Status) (text : Bytes) → CountsAs files status
    → IsReply (request_of words) files bench (record { status = status; text = text }) → WroteAll sink text → IsOutcome words files bench sink status
whole_outcome words files bench sink Done text counts reply wrote = (text, reply, wrote)
whole_outcome words files bench sink Refused text counts reply wrote = (text, reply, wrote)
whole_outcome words files bench sink Usage text counts reply wrote = (text, reply, wrote)
whole_outcome words files bench sink ReadFault text counts reply wrote = (text, reply, wrote)
whole_outcome words files bench sink Incomplete text counts reply wrote = (text, reply, wrote)
whole_outcome words files bench sink WriteFault text counts reply wrote = absurd counts
whole_outcome words files bench sink NoMemory text counts reply wrote = absurd counts

pub outcome : (words : List Bytes) (files : FilesStates) (bench : BenchStates) (sink : SinkStates) (answer : Answer) (result : Status)
    → IsReply (request_of words) files bench answer → IsSaid sink answer.status answer.text result → IsOutcome words files bench sink result
outcome words files bench sink answer result reply (inl whole) =
    subst (IsOutcome words files bench sink) (sym whole.0)
    (whole_outcome words files bench sink answer.status answer.text (reply_counts (request_of words) files bench answer reply) reply whole.1)
outcome words files bench sink answer result reply (inr front) = subst (IsOutcome words files bench sink) (sym front.0) (answer, reply, front.1)

-- WriteFault comes only where the count of the sink's faults rose, and always where it is greater
pub write_rose : (files : FilesStates) (sink : SinkStates) (status : Status) (text : Bytes) (result : Status) → CountsAs files status
    → IsSaid sink status text result → result ≡ WriteFault → Rose sink.faults sink.faults_after
write_rose files sink status text result counts (inl whole) is = absurd (subst (CountsAs files) (sym whole.0 ∙ is) counts)
write_rose files sink status text result counts (inr front) is = front.1.rose

pub write_counted : (sink : SinkStates) (status : Status) (text : Bytes) (result : Status) → IsSaid sink status text result
    → sink.faults < sink.faults_after → result ≡ WriteFault
write_counted sink status text result (inl whole) more = absurd (let same = whole.1.quiet in omega (arith, same))
write_counted sink status text result (inr front) more = front.0

-- a fact of whatever is told
pub if_told : (o : Option FileMap) (P : FileMap → Type 0) → ((held : FileMap) → o ≡ Some held → P held) → IfSome o P
if_told None P fact = tt
if_told (Some held) P fact = fact held refl
