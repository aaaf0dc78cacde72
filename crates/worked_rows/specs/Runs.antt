-- What is known of a run before the program is asked for it, and of its bench after it.
use Rattle.std.specs.Prelude.{◌≡◌, ℕ, List, [], ◌∷◌, Option, Some, length}
use Rattle.blz_outside.specs.Files.{FileMap}
use Rattle.bloom_forms.specs.declared.program.Program.{Program}
use Rattle.bloom_forms.specs.Program.{table_columns}
use Rattle.bloom_forms.specs.Step.{Sets}
use Rattle.topo_forms.specs.Valid.{Validated}
use Rattle.topo_forms.specs.View.{View, program_of, replicas_of}
use Rattle.blazes_words.specs.Words.{Asked, RunFiles, request_of}
use Rattle.command_checks.specs.Checks as check
use Rattle.command_checks.specs.Ends.{ended}
use Rattle.command_checks.specs.Script.{Ending}
use Rattle.blazes_commands.specs.Runs.Bench.{EndsWith}

-- a topology has one instance, whose program has one table
pub record HasOneTable (v : View) : Type 0 where
  pub components : length v.components ≡ 1
  pub replicas : replicas_of v 0 ≡ 1
  pub program : Program
  pub runs : program_of v 0 ≡ Some program
  pub tables : length (table_columns program) ≡ 1

-- over these files, words ask for a run of such a topology
pub record RunsOneTable (held : FileMap) (words : List (List ℕ)) : Type 0 where
  pub files : RunFiles
  pub asks : request_of words ≡ Some (Asked.run files)
  pub seen : Validated
  pub valid : ended held (check.valid_topology files.topology) ≡ Ending.gave seen
  pub one : HasOneTable seen.view

-- the last of some shells, by what they have loaded and keep, has a program, and keeps one table
pub record LeavesOneTable (loaded : List (Option Program)) (kept : List Sets) : Type 0 where
  pub program : Program
  pub last_loaded : EndsWith (Some program ∷ []) loaded
  pub tables : Sets
  pub last_kept : EndsWith (tables ∷ []) kept
  pub one : length tables ≡ 1
