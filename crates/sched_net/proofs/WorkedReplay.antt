-- A cache that forgets answers once more by what it hears afterwards, and what it answered before stays.
use Rattle.std.proofs.Common.{◌≡◌, refl, ℕ, pos, List, [], ◌∷◌, ◌++◌, Some, None, codes}
use Rattle.std.specs.Prelude.{Result, Ok, Err}
use Rattle.blz_value.specs.declared.value.Value.TheVariants.{Int, Text}
use Rattle.blz_value.specs.Record.{Row}
use Rattle.blz_value.specs.Bits.{bit_of, meets}
use Rattle.blz_value.specs.Closure.{within, closure, step}
use Rattle.bloom_forms.specs.declared.program.Program.TheVariants.{Latest}
use Rattle.bloom_forms.specs.declared.note.Note.TheVariants.{OR, OW}
use Rattle.bloom_forms.specs.declared.mode.Mode.TheVariants.{Free}
use Rattle.topo_forms.specs.Carried.{carries, carriers}
use Rattle.topo_forms.specs.Data.{Data}
use Rattle.topo_forms.specs.Dependencies.{usable_fds}
use Rattle.topo_forms.specs.View.{View}
use Rattle.inbox.specs.Executions.{Execution, result_and_then, first_execution, contents}
use Rattle.inbox.specs.Wiring.{wiring_of}
use Rattle.messages.specs.declared.fault.EventFault.TheVariants.{NoInstance}
use Rattle.sched_text.specs.Reading.{entries_of}
use Rattle.sched_net.specs.StepReading.{step_reading}
use Rattle.sched_net.specs.Steps.{after_lines, itself}
use Rattle.sched_net.specs.declared.running.StepRefusal.{StepRefusal}

-- the latest record of each word, as it was put; the attributes are word 0 and n 1
abbrev cached : View
cached = record {
  attributes = codes "word" ∷ codes "n" ∷ [];
  streams =
      record { name = codes "puts"; origin = None; columns = Some 0 ∷ Some 1 ∷ []; key = None; to = (0, 0) ∷ [] }
      ∷ record { name = codes "asks"; origin = None; columns = Some 0 ∷ []; key = None; to = (0, 1) ∷ [] }
      ∷ record { name = codes "answers"; origin = Some (0, 0); columns = Some 0 ∷ Some 1 ∷ []; key = None; to = [] }
      ∷ [];
  components =
      record {
        name = codes "cache";
        program = Some (Latest (codes "word" ∷ codes "n" ∷ []) (0 ∷ []));
        mode = Free;
        replicas = 1;
        ports = record { name = codes "put"; columns = 0 ∷ 1 ∷ [] } ∷ record { name = codes "ask"; columns = 0 ∷ [] } ∷ [];
        outputs = record { name = codes "out"; columns = Some 0 ∷ Some 1 ∷ []; roots = Some 0 ∷ None ∷ []; gate = record { bits = 1 } } ∷ [];
        notes = (Some (OW (record { bits = 1 })) ∷ []) ∷ (Some (OR (record { bits = 1 })) ∷ []) ∷ [];
      }
      ∷ [];
  fds = [];
}

abbrev record_of : ℕ → Row
record_of n = Text (codes "a") ∷ Int (pos n) ∷ []

abbrev given : Data
given = record { rows = record_of 1 ∷ record_of 2 ∷ []; parts = [] } ∷ record { rows = (Text (codes "a") ∷ []) ∷ []; parts = [] } ∷ []

-- what the cache answered after a text
abbrev answered : List ℕ → Result (List Row) StepRefusal
answered text = result_and_then (after_lines itself cached given (entries_of step_reading text) first_execution) (λ (x : Execution). Ok (contents (wiring_of cached) given x 2 0))

abbrev first_put : List ℕ
first_put = codes "deliver puts 0 0 to cache.put 0\n"

abbrev second_put : List ℕ
second_put = codes "deliver puts 0 1 to cache.put 0\n"

abbrev ask : List ℕ
ask = codes "deliver asks 0 0 to cache.ask 0\n"

answers_twice : answered (first_put ++ ask ++ codes "forget cache 0\n" ++ first_put ++ second_put ++ ask) ≡ Ok (record_of 1 ∷ record_of 2 ∷ [])
unfolding wiring_of carries carriers usable_fds bit_of meets within closure step
answers_twice = refl

-- without the second put it has nothing else to answer
answers_no_more : answered (first_put ++ ask ++ codes "forget cache 0\n" ++ ask) ≡ Ok (record_of 1 ∷ [])
unfolding wiring_of carries carriers usable_fds bit_of meets within closure step
answers_no_more = refl

abbrev refused_at : ℕ → Result (List Row) StepRefusal
refused_at line = Err (record { line = line; fault = NoInstance })

-- there is no second replica
forgets_nowhere : answered (codes "# none\n" ++ first_put ++ codes "forget cache 1\n") ≡ refused_at 3
unfolding wiring_of carries carriers usable_fds bit_of meets within closure step
forgets_nowhere = refl
