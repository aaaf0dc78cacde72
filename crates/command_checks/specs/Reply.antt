-- What a command replies.
use Rattle.command_checks.specs.Script.{Bytes}
use Rattle.command_checks.specs.declared.status.Status.{Status}

-- a status and a text
pub record Answer : Type 0 where
  pub status : Status
  pub text : Bytes
