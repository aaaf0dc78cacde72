-- The laws of dependencies at streams, after any legal steps, each in one word.
use Rattle.std.specs.Prelude.{ℕ, ◌≡◌, ◌<◌, ◌↔◌, IsTrue, Bool, is_some, Some, List, [], ◌∷◌, ◌++◌, length}
use Rattle.std.specs.List.{list_all}
use Rattle.blz_value.specs.Members.{Has}
use Rattle.blz_value.specs.Record.{Row}
use Rattle.blz_value.specs.declared.attrs.Attrs.{Attrs}
use Rattle.blz_value.specs.declared.attrs.Fd.{Fd}
use Rattle.blz_value.specs.Closure.{within, closure}
use Rattle.bloom_forms.specs.declared.program.Program.{Program}
use Rattle.bloom_forms.specs.Program.{port_columns}
use Rattle.bloom_forms.specs.ProgramStep.{outputs_of_step}
use Rattle.bloom_forms.specs.Step.{Sets, set_at}
use Rattle.bloom_forms.specs.Annotation.{note_of, gate_of_output}
use Rattle.bloom_forms.specs.Classes.{columns_at, key_of, IsInClosure, AreKeyed}
use Rattle.bloom_forms.specs.Runs.{output_over}
use Rattle.topo_forms.specs.Carried.{may_carry, streams_towards, carries_key, port_carries}
use Rattle.topo_forms.specs.Data.{Data, Holds, has_both, key_value}
use Rattle.topo_forms.specs.Dependencies.{upholds, usable_fds}
use Rattle.topo_forms.specs.Feeds.{Feed}
use Rattle.topo_forms.specs.Messages.{row}
use Rattle.topo_forms.specs.Valid.{IsValid}
use Rattle.topo_forms.specs.View.{View, component_at, stream_at, stream_attrs, stream_replicas, origin_of, mode_of, mode_key, port_attrs, has_stream, program_of, replicas_of}
use Rattle.messages.specs.Messages.{Entry, all_pairs}
use Rattle.inbox.specs.Instances.{entries_of}
use Rattle.inbox.specs.Instances as instances
use Rattle.inbox.specs.Lives.{Life, all_lives, life_timesteps}
use Rattle.inbox.specs.Wiring.{wiring_of, instance_at, carried_places}
use Rattle.inbox.specs.Executions.{Execution, emitted_list}
use Rattle.inbox.specs.Agreement.{port_roots, HaveSameValues, IsTraced, IsCopiedFrom, IsCarriedBy, HaveKey}
use Rattle.inbox.specs.Sent.{IsHistory, IsSentTo, AreSent}
use Rattle.bloom_forms.specs.Steps.{tables_after_steps, AreArrivals}
use Rattle.blz_value.specs.Bits.{members}

-- ---- rows of outputs

-- each row of an output has, in the columns that are their own roots, the values of one record that arrived
abbrev pub CopiedLaw : Type 0
CopiedLaw = (v : View) (c o : ℕ) (program : Program) (earlier : List Sets) (now : Sets) (r : Row) → IsValid v → c < length v.components → program_of v c ≡ Some program
    → o < length (component_at v c).outputs → AreArrivals program (earlier ++ now ∷ [])
    → Has r (set_at (outputs_of_step program (tables_after_steps program earlier) now) o) → IsCopiedFrom v c o program (earlier ++ now ∷ []) r

-- a record stands in an emitted list of an output exactly where it is a row over the timesteps of some life
abbrev pub RowsLaw : Type 0
RowsLaw = (v : View) (d : Data) (x : Execution) (s c o i : ℕ) (program : Program) (r : Row) → IsValid v → s < length v.streams → origin_of v s ≡ Some (c, o) → program_of v c ≡ Some program → i < replicas_of v c
    → Has (row r) (emitted_list (wiring_of v) d x s i) ↔ ((life : Life) × Has life (all_lives (x.lives c i)) × Has r (output_over program o (life_timesteps (instance_at (wiring_of v) c i) (x.logs c) life)))

-- ---- emitted records

-- an emitted record has as many values as its stream has columns
abbrev pub WidthLaw : Type 0
WidthLaw = (v : View) (d : Data) (x : Execution) (s i : ℕ) (r : Row) → IsHistory v d x → s < length v.streams → i < stream_replicas v s
    → Has (row r) (emitted_list (wiring_of v) d x s i) → length r ≡ length (stream_at v s).columns

-- an emitted record of a stream that upholds a dependency and has all its columns has the values of a record of a source in them
abbrev pub TracedLaw : Type 0
TracedLaw = (v : View) (d : Data) (x : Execution) (fd : Fd) (s i : ℕ) (r : Row) → IsHistory v d x → s < length v.streams → i < stream_replicas v s
    → IsTrue (upholds v fd s) → IsTrue (has_both fd (stream_attrs v s).bits)
    → Has (row r) (emitted_list (wiring_of v) d x s i) → IsTraced v d fd (stream_at v s).columns r

-- ---- what arrives at a component

-- each record that an instance has heard, in any life, was sent to its port
abbrev pub HeardLaw : Type 0
HeardLaw = (v : View) (d : Data) (x : Execution) (c j : ℕ) (life : Life) (entry : Entry) → IsHistory v d x → c < length v.components → j < replicas_of v c
    → Has life (all_lives (x.lives c j)) → Has entry (entries_of (instance_at (wiring_of v) c j) (all_pairs life.heard)) → IsSentTo v d x c entry.0 entry.1

-- so was each record of the timesteps of a life, of Order replicas too
abbrev pub TimestepsLaw : Type 0
TimestepsLaw = (v : View) (d : Data) (x : Execution) (c j : ℕ) (life : Life) → IsHistory v d x → c < length v.components → j < replicas_of v c
    → Has life (all_lives (x.lives c j)) → AreSent v d x c (life_timesteps (instance_at (wiring_of v) c j) (x.logs c) life)

-- and what stands in the emitted list of a feed was sent to the feed's port
abbrev pub FeedsLaw : Type 0
FeedsLaw = (v : View) (d : Data) (x : Execution) (c j : ℕ) (feed : Feed) (r : Row) → c < length v.components → j < replicas_of v c
    → Has feed (instance_at (wiring_of v) c j).feeds → Has (row r) (emitted_list (wiring_of v) d x feed.stream feed.sender) → IsSentTo v d x c feed.port r

-- timesteps with one set for each port, of records that were sent, are arrivals of the component's program
abbrev pub ArrivalsLaw : Type 0
ArrivalsLaw = (v : View) (d : Data) (x : Execution) (c : ℕ) (program : Program) (nows : List Sets) → IsHistory v d x → c < length v.components → program_of v c ≡ Some program
    → ((now : Sets) → Has now nows → length now ≡ length (port_columns program)) → AreSent v d x c nows → AreArrivals program nows

-- so are the timesteps of a life
abbrev pub LifeLaw : Type 0
LifeLaw = (v : View) (d : Data) (x : Execution) (c j : ℕ) (program : Program) (life : Life) → IsHistory v d x → c < length v.components → j < replicas_of v c → program_of v c ≡ Some program
    → Has life (all_lives (x.lives c j)) → AreArrivals program (life_timesteps (instance_at (wiring_of v) c j) (x.logs c) life)

-- ---- keys of records at a port that has all columns of the key

-- the key of a record by the names of attributes is its key value
abbrev pub KeyLaw : Type 0
KeyLaw = (v : View) (c p key : ℕ) (program : Program) (r : Row) → IsValid v → c < length v.components → program_of v c ≡ Some program
    → IsTrue (within key (port_attrs v c p).bits) → key_of v.attributes (columns_at program p) (members key) r ≡ key_value (port_roots v c p) key r

-- and so it is as instances have it
abbrev pub EntryKeyLaw : Type 0
EntryKeyLaw = (v : View) (c j : ℕ) (key : Attrs) (entry : Entry) → c < length v.components → j < replicas_of v c → mode_key (mode_of v c) ≡ Some key → entry.0 < length (component_at v c).ports
    → IsTrue (within key.bits (port_attrs v c entry.0).bits) → instances.key_of_entry (instance_at (wiring_of v) c j) entry ≡ Some (key_value (port_roots v c entry.0) key.bits entry.1)

-- ---- carried keys

-- a stream that carries a key has its columns
abbrev pub StreamKeyLaw : Type 0
StreamKeyLaw = (v : View) (key s : ℕ) → IsValid v → s < length v.streams → IsTrue (carries_key v key s) → IsTrue (within key (stream_attrs v s).bits)

-- a port that carries a key has a stream and the columns of the key
abbrev pub PortKeyLaw : Type 0
PortKeyLaw = (v : View) (key c p : ℕ) → IsValid v → IsTrue (port_carries v key c p) → IsTrue (has_stream v c p) × IsTrue (within key (port_attrs v c p).bits)

-- where the stream of an output carries a key, it is that of the mode, the output may carry it, and so do all streams into the ports with a note towards it
abbrev pub CarriedLaw : Type 0
CarriedLaw = (v : View) (s c o : ℕ) (places : List ℕ) → IsValid v → s < length v.streams → origin_of v s ≡ Some (c, o)
    → carried_places v s ≡ Some places → IsCarriedBy v s c o places

-- ---- dependencies that are usable at a component

-- at a port that has a stream, a usable dependency has all of its second side with all of its first
abbrev pub WholeLaw : Type 0
WholeLaw = (v : View) (c p : ℕ) (fd : Fd) → IsValid v → IsTrue (has_stream v c p) → Has fd (usable_fds v c)
    → IsTrue (within fd.from.bits (port_attrs v c p).bits) → IsTrue (within fd.to.bits (port_attrs v c p).bits)

-- so a port that has a stream and all columns of a gate has all columns of its closure
abbrev pub ClosureLaw : Type 0
ClosureLaw = (v : View) (c p gate : ℕ) → IsValid v → IsTrue (has_stream v c p)
    → IsTrue (within gate (port_attrs v c p).bits) → IsTrue (within (closure gate (usable_fds v c)) (port_attrs v c p).bits)

-- over data that hold the dependencies, two records that were sent to ports with all columns of a usable dependency, and that agree on its first side, agree on its second
abbrev pub JointLaw : Type 0
JointLaw = (v : View) (d : Data) (x : Execution) (c p q : ℕ) (fd : Fd) (a b : Row) → IsHistory v d x → Holds v d → Has fd (usable_fds v c)
    → IsSentTo v d x c p a → IsSentTo v d x c q b
    → IsTrue (has_both fd (port_attrs v c p).bits) → IsTrue (has_both fd (port_attrs v c q).bits)
    → HaveSameValues fd.from.bits (port_roots v c p) a (port_roots v c q) b → HaveSameValues fd.to.bits (port_roots v c p) a (port_roots v c q) b

-- so timesteps of records that were sent are keyed by the usable dependencies, and by each key that the used ports with a stream have
abbrev pub KeyedLaw : Type 0
KeyedLaw = (v : View) (d : Data) (x : Execution) (c : ℕ) (program : Program) (nows : List Sets) (is_used : ℕ → Bool) (key : List ℕ)
    → IsHistory v d x → Holds v d → c < length v.components → program_of v c ≡ Some program
    → AreSent v d x c nows → HaveKey v c is_used key → AreKeyed v.attributes program nows is_used (usable_fds v c) key

-- and so they are for an output that carries a key: by the ports with a note towards it, over the closure of its gate
abbrev pub OutputKeyedLaw : Type 0
OutputKeyedLaw = (v : View) (d : Data) (x : Execution) (c o key : ℕ) (program : Program) (nows : List Sets)
    → IsHistory v d x → Holds v d → c < length v.components → o < length (component_at v c).outputs → program_of v c ≡ Some program
    → IsTrue (may_carry v key (Some (c, o))) → IsTrue (list_all (carries_key v key) (streams_towards v c o)) → AreSent v d x c nows
    → AreKeyed v.attributes program nows (λ port. is_some (note_of v.attributes program port o)) (usable_fds v c) (members key) × IsInClosure (members key) (gate_of_output v.attributes program o) (usable_fds v c)
