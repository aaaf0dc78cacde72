-- Outside cycles: where the streams of all paths have equal contents, so has the output.
use Rattle.std.proofs.Common.{◌≡◌, ◌<◌, ℕ, true, false, Some, List, [], ◌∷◌, length, ◌∙◌, sym, subst}
use Rattle.std.specs.Prelude.{is_some}
use Rattle.blz_value.specs.Members.{Has, IsWithin, HaveEqualMembers}
use Rattle.blz_value.specs.Record.{Row}
use Rattle.blz_value.proofs.Membership.{Has-filter}
use Rattle.blz_value.proofs.SetLaws.{Has-set_of}
use Rattle.bloom_forms.specs.declared.program.Program.{Program}
use Rattle.bloom_forms.specs.Program.{port_columns}
use Rattle.bloom_forms.specs.ProgramStep.{answer_of}
use Rattle.bloom_forms.specs.Step.{Sets, set_at}
use Rattle.bloom_forms.specs.Annotation.{note_of}
use Rattle.bloom_forms.specs.declared.note.Note.{Note}
use Rattle.bloom_forms.proofs.Confluent.ConfluentLaw.{one_step_answers}
use Rattle.bloom_forms.proofs.Ports.PortsLaw.{outputs_see}
use Rattle.topo_forms.specs.Data.{Data}
use Rattle.topo_forms.specs.Messages.{rows_in}
use Rattle.topo_forms.specs.View.{View, origin_of, program_of, is_order, replicas_of, component_at, note_at, goes_to, streams_to, stream_numbers}
use Rattle.topo_forms.proofs.Regions.Spreading.{in_below}
use Rattle.inbox.specs.Wiring.{wiring_of}
use Rattle.inbox.specs.Executions.{Execution, emitted_list, contents}
use Rattle.inbox.proofs.TimestepLemmas.Entries.{Has-rows_in}
use Rattle.inbox.specs.Sent.{IsHistory}
use Rattle.confluence.specs.Complete.{contents_into}
use Rattle.confluence.specs.Sound.{HaveEqualContents}
use Rattle.confluence.proofs.Contents.Instances.{inside}
use Rattle.confluence.proofs.Determined.Notes.{covers_some}
use Rattle.confluence.proofs.Contents.Arriving.{runs, ports_same, arrives_sent}
use Rattle.confluence.proofs.Contents.IntoPorts.{in_port}

-- equal contents the other way round
pub equal_back : (v : View) (d : Data) (x y : Execution) (s : ℕ) → HaveEqualContents v d x y s → HaveEqualContents v d y x s
equal_back v d x y s equal i j lt_i lt_j = sym (equal j i lt_j lt_i)

module _ (v : View) (d : Data) (s c o : ℕ) (stands : s < length v.streams) (origin : origin_of v s ≡ Some (c, o)) (unordered : is_order v c ≡ false) (program : Program) (body : program_of v c ≡ Some program) where
  -- the streams of all paths have equal contents
  abbrev pub PathsEqual : Execution → Execution → Type 0
  PathsEqual x y = (port : ℕ) (note : Note) (stream : ℕ) → note_at v c port o ≡ Some note → Has stream (streams_to v c port) → HaveEqualContents v d x y stream

  -- what arrives in one execution at a port with a note arrives in the other
  port_within : (x y : Execution) → IsHistory v d x → IsHistory v d y → PathsEqual x y → (i j : ℕ) → i < replicas_of v c → j < replicas_of v c
      → (port : ℕ) (note : Note) → note_at v c port o ≡ Some note → IsWithin (set_at (contents_into (wiring_of v) d x c i) port) (set_at (contents_into (wiring_of v) d y c j) port)
  port_within x y hx hy equal i j lt_i lt_j port note noted r h =
      let a = arrives_sent v d x hx s c o i stands origin lt_i program body unordered port r h in
      let there : Has a.stream (streams_to v c port) = Has-filter (goes_to v c port) a.stream (stream_numbers v) (in_below (length v.streams) a.stream a.within) a.goes in
      let list = emitted_list (wiring_of v) d x a.stream a.sender in
      let here : Has r (contents (wiring_of v) d x a.stream a.sender) = Has-set_of r (rows_in list) (Has-rows_in r list a.sent) in
      in_port v d y hy.valid c j port a.stream r unordered lt_j a.within a.goes (λ k lt_k. subst (λ (l : List Row). Has r l) (equal port note a.stream noted there a.sender k a.sends lt_k) here)

  pub answers_equal : (x y : Execution) → IsHistory v d x → IsHistory v d y → PathsEqual x y → (i j : ℕ) → i < replicas_of v c → j < replicas_of v c
      → set_at (answer_of program (contents_into (wiring_of v) d x c i)) o ≡ set_at (answer_of program (contents_into (wiring_of v) d y c j)) o
  answers_equal x y hx hy equal i j lt_i lt_j =
      let all_x : Sets = contents_into (wiring_of v) d x c i in
      let all_y : Sets = contents_into (wiring_of v) d y c j in
      let run = runs v d x hx s c o i stands origin lt_i program body unordered in
      let at = inside v d x hx.valid s c o i stands origin lt_i in
      let back : PathsEqual y x = λ port note stream noted there. equal_back v d x y stream (equal port note stream noted there) in
      let same : (port : ℕ) → port < length (port_columns program) → is_some (note_of v.attributes program port o) ≡ true → HaveEqualMembers (set_at all_x port) (set_at all_y port) = λ port lt t.
      let below : port < length (component_at v c).ports = subst (λ (n : ℕ). port < n) (ports_same v d x hx s c o i stands origin lt_i program body unordered) lt in
      let n = covers_some (note_at v c port o) (note_of v.attributes program port o) (run.notes port o below at.1) t in
      (port_within x y hx hy equal i j lt_i lt_j port n.0 n.1, port_within y x hy hx back j i lt_j lt_i port n.0 n.1) in
      sym (one_step_answers program run.proper o all_x)
      ∙ (outputs_see v.attributes program run.proper o).only (all_x ∷ []) (all_y ∷ []) (same, tt)
      ∙ one_step_answers program run.proper o all_y
