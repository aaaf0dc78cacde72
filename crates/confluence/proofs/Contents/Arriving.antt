-- What arrives at an instance in all was sent by streams, and what arrives in its timesteps is among it.
use Rattle.std.proofs.Common.{◌≡◌, ◌<◌, ℕ, true, false, Option, Some, List, [], ◌∷◌, length, ap, ◌∙◌, sym, subst, inl, inr, refl}
use Rattle.std.proofs.lemmas.Bool.{cases_lt}
use Rattle.std.proofs.lemmas.List.{get_or_past, length-map}
use Rattle.std.proofs.lemmas.List.FromFn.{length-map-range_with_len}
use Rattle.blz_value.specs.Members.{Has}
use Rattle.blz_value.specs.Record.{Row}
use Rattle.blz_value.proofs.SetLaws.{Has-from_set_of}
use Rattle.bloom_forms.specs.declared.program.Program.{Program}
use Rattle.bloom_forms.specs.Program.{port_columns, output_columns}
use Rattle.bloom_forms.specs.Step.{Sets, set_at}
use Rattle.bloom_forms.specs.Annotation.{note_of}
use Rattle.bloom_forms.specs.declared.note.Note.{Note}
use Rattle.topo_forms.specs.Data.{Data}
use Rattle.topo_forms.specs.Messages.{rows_in}
use Rattle.topo_forms.specs.Valid.{Runs, IsCovered}
use Rattle.topo_forms.specs.View.{View, origin_of, program_of, is_order, replicas_of, component_at, note_at, has_stream}
use Rattle.inbox.specs.Instances.{Instance}
use Rattle.inbox.specs.Timesteps.{timesteps}
use Rattle.inbox.specs.Lives.{Life, all_lives}
use Rattle.inbox.specs.Wiring.{Wiring, wiring_of, instance_at}
use Rattle.inbox.specs.Executions.{Execution, emitted_list}
use Rattle.inbox.proofs.TimestepLemmas.Widths.{timesteps-many}
use Rattle.inbox.proofs.TimestepLemmas.OfLives.{batches_heard}
use Rattle.inbox.proofs.TimestepLemmas.Entries.{Has-from_rows_in}
use Rattle.inbox.specs.Sent.{IsHistory, IsSentTo, AreSent}
use Rattle.inbox.proofs.Records.ArrivingLaw.{feeds_law}
use Rattle.inbox.proofs.Dependencies.JointLaw.{sent_has_stream}
use Rattle.inbox.proofs.Columns.Viewed.{port_count}
use Rattle.confluence.specs.Complete.{contents_at, contents_into}
use Rattle.confluence.proofs.Determined.Parts.{IsPart, covered_on}
use Rattle.confluence.proofs.Contents.Heard.{from_into, heard_into}
use Rattle.confluence.proofs.Contents.Instances.{ports_are, inside, not_order}
use Rattle.confluence.proofs.Determined.Rows.{AreInside}

module _ (v : View) (d : Data) (x : Execution) (history : IsHistory v d x) (s c o j : ℕ) (within : s < length v.streams) (origin : origin_of v s ≡ Some (c, o)) (sender : j < replicas_of v c)
    (program : Program) (body : program_of v c ≡ Some program) (unordered : is_order v c ≡ false) where
  abbrev w : Wiring
  w = wiring_of v

  abbrev i : Instance
  i = instance_at w c j

  abbrev all : Sets
  all = contents_into w d x c j

  abbrev at : (c < length v.components) × (o < length (component_at v c).outputs)
  at = inside v d x history.valid s c o j within origin sender

  pub runs : Runs v c program
  runs = (history.valid.components c at.0).runs program body

  pub ports_same : length (port_columns program) ≡ length (component_at v c).ports
  ports_same = sym (port_count v history.valid c at.0 program body)

  pub outputs_same : length (output_columns program) ≡ length (component_at v c).outputs
  outputs_same = sym (length-map (output_columns program) _) ∙ sym (ap length runs.outputs) ∙ length-map (component_at v c).outputs _

  pub output_column : o < length (output_columns program)
  output_column = subst (λ (n : ℕ). o < n) (sym outputs_same) at.1

  pub ports_own : length i.ports ≡ length (port_columns program)
  ports_own = ports_are v d x history.valid s c o j within origin sender ∙ sym ports_same

  -- a note covers what a part gives a port
  pub note_covers : (rows : Sets → Sets → List Row) (given : ℕ → Option Note) (gate : ℕ) → IsPart v program o rows given gate → (port : ℕ) → port < length (component_at v c).ports → IsCovered (note_at v c port o) (given port)
  note_covers rows given gate part port lt = covered_on (note_at v c port o) (note_of v.attributes program port o) (given port) (runs.notes port o lt at.1) (part.covered port)

  -- what arrives was sent by a stream into the port
  pub arrives_sent : (port : ℕ) (r : Row) → Has r (set_at all port) → IsSentTo v d x c port r
  arrives_sent port r h =
      let f = (from_into w d x c j port r h).1 in
      let list = emitted_list w d x f.feed.stream f.feed.sender in
      subst (λ (p : ℕ). IsSentTo v d x c p r) f.port_is (feeds_law v d x c j f.feed r at.0 sender f.of_feed (Has-from_rows_in r list (Has-from_set_of r (rows_in list) f.sent)))

  pub arrives_over : (port : ℕ) (r : Row) → Has r (set_at all port) → has_stream v c port ≡ true
  arrives_over port r h = sent_has_stream v d x c port r (arrives_sent port r h)

  -- what arrives in the timesteps of a life is among all that arrives
  pub life_inside : (life : Life) → Has life (all_lives (x.lives c j)) → AreInside (timesteps i life.heard) all
  life_inside life of_life now port r came h = elim (cases_lt port (length now)) [
    | inl lt ↦
        let below : port < length i.ports = subst (λ (n : ℕ). port < n) (timesteps-many i life.heard now came) lt in
        heard_into w d x c j history.steps history.legal life of_life (port, r) below
        (batches_heard i i.mode life.heard (port, r) refl (not_order v d x history.valid s c o j within origin sender program body unordered) (record { now = now; among = came; there = h }))
    | inr past ↦ absurd (subst (λ (l : List Row). Has r l) (get_or_past now port [] past) h)
  ]

  pub inside_sent : (nows : List Sets) → AreInside nows all → AreSent v d x c nows
  inside_sent nows into now port r came h = arrives_sent port r (into now port r came h)

  pub long_all : length all ≡ length (port_columns program)
  long_all = length-map-range_with_len (contents_at w d x i) 0 (length i.ports) ∙ ports_own

  pub long_life : (life : Life) (now : Sets) → Has now (timesteps i life.heard) → length now ≡ length (port_columns program)
  long_life life now came = timesteps-many i life.heard now came ∙ ports_own

  pub all_inside : AreInside (all ∷ []) all
  all_inside now port r (inl e) h = subst (λ (z : Sets). Has r (set_at z port)) (sym e) h
  all_inside now port r (inr never) h = absurd never
