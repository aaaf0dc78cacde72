-- What a part of the program returned, beside the script that it runs.
use Rattle.std.specs.Prelude.{◌≡◌, Option, Some, None, IfSome, Result, Ok, Err}
use Rattle.report_lines.specs.declared.refusal.Refusal.{Refusal}
use Rattle.report_lines.specs.Refusals.{refusal_line}
use Rattle.command_checks.specs.Script.{Bytes, Script, Ending}
use Rattle.command_checks.specs.Ends.{Source, FilesStates, files_states, Came}
use Rattle.command_checks.specs.Lines.{cannot_read}
use Rattle.command_checks.specs.Reply.{Answer}
use Rattle.command_checks.specs.declared.reply.Reply.{Reply}
use Rattle.command_checks.specs.declared.status.Status.TheVariants as status
use Rattle.command_checks.specs.declared.stop.Stop.{Stop}
use Rattle.command_checks.specs.declared.stop.Stop.TheVariants.{Refused, Failed, NoMemory}

-- how a script ends where a part stops so; nothing is said where memory ran out
abbrev pub ending_of : {A : Type 0} → Stop → Option (Ending A)
ending_of (Refused line) = Some (Ending.refused line.items)
ending_of (Failed name) = Some (Ending.failed name)
ending_of NoMemory = None

-- the stop of a check that fails with this line, unless memory ran out
abbrev pub IsRefused : Bytes → Stop → Type 0
IsRefused said (Refused line) = line.items ≡ said
IsRefused said (Failed name) = ⊥
IsRefused said NoMemory = Unit {0}

-- the stop where a read of this name failed, unless memory ran out
abbrev pub IsFailure : Bytes → Stop → Type 0
IsFailure name (Refused line) = ⊥
IsFailure name (Failed other) = other ≡ name
IsFailure name NoMemory = Unit {0}

-- the stop of a check that is refused so; without a refusal memory ran out
abbrev pub IsStopAt : Option Refusal → Stop → Type 0
IsStopAt None stop = stop ≡ NoMemory
IsStopAt (Some refused) stop = IsRefused (refusal_line refused) stop

-- the script ends as this stop says
abbrev pub Stopped : {A : Type 0} → FilesStates → Stop → Script A → Type 0
Stopped files stop script = IfSome (ending_of stop) (Came files script)

-- what was returned, seen by view, is how the script ends
abbrev pub Ran : {X A : Type 0} → (X → A) → FilesStates → Result X Stop → Script A → Type 0
Ran view files (Ok x) script = Came files script (Ending.gave (view x))
Ran view files (Err stop) script = Stopped files stop script

-- so it is of a script that reads nothing, whatever the source
abbrev pub RanAtOnce : {X A : Type 0} → (X → A) → Result X Stop → Script A → Type 0
RanAtOnce view result script = (files : Source) → Ran view (files_states files files) result script

-- the stop is that of a check that gives this; nothing is said where memory ran out
abbrev pub StopsAs : {A : Type 0} → Stop → Result A Bytes → Type 0
StopsAs (Refused line) given = given ≡ Err line.items
StopsAs (Failed name) given = ⊥
StopsAs NoMemory given = Unit {0}

-- what was returned, seen by view, is what a check gives
abbrev pub Gives : {X A : Type 0} → (X → A) → Result X Stop → Result A Bytes → Type 0
Gives view (Ok x) given = given ≡ Ok (view x)
Gives view (Err stop) given = StopsAs stop given

-- what a reply says
abbrev pub answer_of : Reply → Answer
answer_of reply = record { status = reply.status; text = reply.text.items }

-- the answer at the end of a command; none where memory ran out
abbrev pub Concludes : Result Reply Stop → Answer → Type 0
Concludes (Ok reply) answer = answer ≡ answer_of reply
Concludes (Err (Refused line)) answer = answer ≡ record { status = status.Refused; text = line.items }
Concludes (Err (Failed name)) answer = answer ≡ record { status = status.ReadFault; text = cannot_read name }
Concludes (Err NoMemory) answer = ⊥
