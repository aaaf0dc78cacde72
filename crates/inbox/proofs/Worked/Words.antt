-- Word count, planned, puts its words, counts and commits out batch by batch, whatever comes first.
use Rattle.std.proofs.Common.{◌≡◌, refl, ℕ, ◌++◌, List, [], ◌∷◌, codes, Some}
use Rattle.std.specs.Prelude.{Result, Ok}
use Rattle.std.specs.List.{flat_map}
use Rattle.blz_value.specs.declared.value.Value.{Value}
use Rattle.blz_value.specs.declared.value.Value.TheVariants.{Text}
use Rattle.bloom_forms.specs.declared.mode.Mode.{Mode}
use Rattle.blz_value.specs.Bits.{bit_of, meets}
use Rattle.bloom_forms.specs.declared.mode.Mode.TheVariants.{Pass, Seal}
use Rattle.bloom_forms.specs.declared.program.Program.{Program}
use Rattle.topo_forms.specs.Data.{Data}
use Rattle.topo_forms.specs.Messages.{Message, row, seal}
use Rattle.topo_forms.proofs.Worked.WordCount.{word_count_with, sealed_at}
use Rattle.inbox.specs.Instances.{Instance}
use Rattle.inbox.specs.Wiring.{Wiring}
use Rattle.inbox.specs.Executions.{result_and_then, execution_of_events, emitted_list}
use Rattle.inbox.specs.Completeness.{left_count}
use Rattle.inbox.specs.Events.{Event, Refusal}
use Rattle.inbox.proofs.Worked.Programs.{int, one_of, three_of, four_of, just, carrying, feed, send, split, count, commit}

abbrev one : Program → Mode → ℕ → ℕ → List Instance
one program mode place stream = record { program = Some program; mode = mode; ports = carrying (place ∷ []) ∷ []; feeds = feed 0 stream ∷ []; outputs = Some (1 ∷ []) ∷ [] } ∷ []

abbrev pub word_count : Wiring
word_count = record {
  streams = (word_count_with (sealed_at 1)).streams;
  components = one split (Pass (just 4)) 2 0 ∷ one count (Seal (just 4)) 1 1 ∷ one commit (Pass (just 4)) 1 2 ∷ [];
}

abbrev a : Value
a = Text (codes "a")

abbrev b : Value
b = Text (codes "b")

abbrev given : Data
given = record { rows = three_of (int 1) (Text (codes "a b a")) (int 1) ∷ three_of (int 2) b (int 1) ∷ three_of (int 3) a (int 2) ∷ []; parts = [] } ∷ []

-- messages of a stream to the one port of a component, each twice
abbrev twice_each : (stream component : ℕ) → List ℕ → List Event
twice_each stream component indexes = flat_map (λ index. send stream index component 0 ∷ send stream index component 0 ∷ []) indexes

abbrev tweets_down : List Event
tweets_down = twice_each 0 0 (4 ∷ 3 ∷ 2 ∷ 1 ∷ 0 ∷ [])

abbrev words_down : List Event
words_down = twice_each 1 1 (6 ∷ 5 ∷ 4 ∷ 3 ∷ 2 ∷ 1 ∷ 0 ∷ [])

abbrev counts_down : List Event
counts_down = twice_each 2 2 (4 ∷ 3 ∷ 2 ∷ 1 ∷ 0 ∷ [])

abbrev Shown : Type 0
Shown = List Message × ℕ

abbrev shown : (stream : ℕ) → List Event → Result Shown Refusal
shown stream events = result_and_then (execution_of_events word_count given events) (λ x. Ok (emitted_list word_count given x stream 0, left_count word_count given x))

-- word-count-delivered: the words
pub words_in_order : shown 1 tweets_down ≡ Ok (
  row (four_of (int 3) (int 2) (int 1) a) ∷ seal (one_of (int 2)) 1
      ∷ row (four_of (int 2) (int 1) (int 1) b) ∷ row (four_of (int 1) (int 1) (int 1) a) ∷ row (four_of (int 1) (int 1) (int 2) b) ∷ row (four_of (int 1) (int 1) (int 3) a) ∷ seal (one_of (int 1)) 4
      ∷ [],
  7,
)
unfolding bit_of meets
words_in_order = refl

-- the counts
pub counts_in_order : shown 2 (tweets_down ++ words_down) ≡ Ok (
  row (three_of a (int 1) (int 2)) ∷ row (three_of b (int 1) (int 2)) ∷ seal (one_of (int 1)) 2
      ∷ row (three_of a (int 2) (int 1)) ∷ seal (one_of (int 2)) 1
      ∷ [],
  5,
)
unfolding bit_of meets
counts_in_order = refl

-- and all that commit emits, where nothing is left
pub commits_in_order : shown 3 (tweets_down ++ words_down ++ counts_down) ≡ Ok (
  row (three_of a (int 2) (int 1)) ∷ seal (one_of (int 2)) 1
      ∷ row (three_of b (int 1) (int 2)) ∷ row (three_of a (int 1) (int 2)) ∷ seal (one_of (int 1)) 2
      ∷ [],
  0,
)
unfolding bit_of meets
commits_in_order = refl
