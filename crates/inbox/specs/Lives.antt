-- An instance can forget: it then begins a life with empty tables, and its emitted lists go on.
use Rattle.std.specs.Prelude.{ℕ, ◌+◌, ◌++◌, if◌then◌else◌, List, [], ◌∷◌, map, length, take}
use Rattle.std.specs.List.{fold, flat_map}
use Rattle.bloom_forms.specs.Step.{Sets}
use Rattle.topo_forms.specs.Messages.{Message}
use Rattle.messages.specs.Messages.{Batch, Entry}
use Rattle.topo_forms.specs.View.{is_order_mode}
use Rattle.inbox.specs.Instances.{Instance}
use Rattle.bloom_eval.specs.Arrivals.{timestep_of}
use Rattle.inbox.specs.Timesteps.{SetOff, each_set_off}
use Rattle.inbox.specs.Emission.{Kept, list_of, emit, begin_life, nothing_emitted}

-- a life: the batches that were heard in it, or of an Order replica how many entries it took in it
pub record Life : Type 0 where
  pub heard : List Batch
  pub taken : ℕ

-- the lives of an instance: there is always a last one
pub record Lives : Type 0 where
  pub earlier : List Life
  pub last : Life

-- nothing heard and nothing taken
abbrev pub empty_life : Life
empty_life = record { heard = []; taken = 0 }

-- one empty life
abbrev pub one_life : Lives
one_life = record { earlier = []; last = empty_life }

-- all of them, in order
abbrev pub all_lives : Lives → List Life
all_lives lives = lives.earlier ++ lives.last ∷ []

-- ---- what a step appends

-- one batch more in the last life
abbrev pub hear_batch : Batch → Lives → Lives
hear_batch batch lives = record { earlier = lives.earlier; last = record { heard = lives.last.heard ++ batch ∷ []; taken = lives.last.taken } }

-- one entry more in the last life
abbrev pub take_entry : Lives → Lives
take_entry lives = record { earlier = lives.earlier; last = record { heard = lives.last.heard; taken = lives.last.taken + 1 } }

-- an empty life after all others
abbrev pub forget_all : Lives → Lives
forget_all lives = record { earlier = all_lives lives; last = empty_life }

-- ---- what lives set off

-- an entry of a log makes one timestep
abbrev pub of_entry : Instance → Entry → SetOff
of_entry i entry = record { steps = timestep_of (length i.ports) (entry ∷ []) ∷ []; whole = [] }

-- what a life sets off, where the component has this log
abbrev pub life_sets_off : Instance → (log : List Entry) → Life → List SetOff
life_sets_off i log life = if is_order_mode i.mode then map (of_entry i) (take life.taken log) else each_set_off i life.heard

-- the timesteps of a life
abbrev pub life_timesteps : Instance → (log : List Entry) → Life → List Sets
life_timesteps i log life = flat_map (λ s. s.steps) (life_sets_off i log life)

-- ---- the tables and the emitted lists at the end of lives

-- after one more life
abbrev pub after_life : Instance → (log : List Entry) → Kept → Life → Kept
after_life i log kept life = fold (emit i) (begin_life i kept) (life_sets_off i log life)

-- after all lives
abbrev pub kept_after : Instance → (log : List Entry) → Lives → Kept
kept_after i log lives = fold (after_life i log) (nothing_emitted i) (all_lives lives)

-- the emitted list of an output
abbrev pub emitted_by : Instance → (log : List Entry) → Lives → (output : ℕ) → List Message
emitted_by i log lives output = list_of (kept_after i log lives) output
