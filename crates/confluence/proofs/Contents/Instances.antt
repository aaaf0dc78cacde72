-- The contents of a stream of a component that isn't Order are the rows of its output over the lives of its instance.
use Rattle.std.proofs.Common.{◌≡◌, ◌<◌, ℕ, true, false, Some, [], ◌∷◌, length, refl, ap, ◌∙◌, sym, subst, inl, arith}
use Rattle.std.proofs.lemmas.Bool.{lt-ltb}
use Rattle.blz_value.specs.Members.{Has, IsWithin}
use Rattle.blz_value.specs.Record.{Row}
use Rattle.blz_value.proofs.Membership.{Has-append_right}
use Rattle.blz_value.proofs.SetLaws.{sorted_set_of, Has-set_of, Has-from_set_of, same_row_sets}
use Rattle.bloom_forms.specs.declared.program.Program.{Program}
use Rattle.bloom_forms.specs.ProgramStep.{empty_tables, answer_of}
use Rattle.bloom_forms.specs.Step.{Sets, set_at}
use Rattle.bloom_forms.specs.Runs.{output_rows, over_steps, output_over}
use Rattle.bloom_forms.proofs.Confluent.ConfluentLaw.{one_step_answers}
use Rattle.topo_forms.specs.Data.{Data}
use Rattle.topo_forms.specs.Messages.{rows_in}
use Rattle.topo_forms.specs.Valid.{IsValid}
use Rattle.topo_forms.specs.View.{View, origin_of, program_of, is_order, is_order_mode, replicas_of, component_at}
use Rattle.inbox.specs.Instances.{Instance}
use Rattle.inbox.specs.Timesteps.{timesteps}
use Rattle.inbox.specs.Lives.{Life, all_lives, life_timesteps}
use Rattle.inbox.specs.Wiring.{Wiring, wiring_of, instance_at, instance_for, is_there}
use Rattle.inbox.specs.Executions.{Execution, emitted_list, contents}
use Rattle.inbox.specs.Completeness.{IsComplete}
use Rattle.inbox.proofs.WiringLemmas.{instance-wired, there-wired, length-below, instance-ports}
use Rattle.inbox.proofs.TimestepLemmas.OfLives.{life_timesteps-hearing}
use Rattle.inbox.proofs.TimestepLemmas.Entries.{Has-rows_in, Has-from_rows_in}
use Rattle.confluence.specs.Complete.{contents_into}
use Rattle.confluence.proofs.Contents.Heard.{last_heard}
use Rattle.confluence.proofs.Determined.Rows.{AreAllIn, IsDetermined}
use Rattle.bloom_forms.specs.Proper.{IsProper}
use Rattle.inbox.proofs.Records.RowsLaw.{rows_law}

-- ---- one stream

module _ (v : View) (d : Data) (x : Execution) (valid : IsValid v) (s c o j : ℕ) (within : s < length v.streams) (origin : origin_of v s ≡ Some (c, o)) (sender : j < replicas_of v c) where
  abbrev pub w : Wiring
  w = wiring_of v

  abbrev pub i : Instance
  i = instance_at w c j

  pub inside : (c < length v.components) × (o < length (component_at v c).outputs)
  inside = valid.numbered.origins s (c, o) within origin

  pub instance_is : i ≡ instance_for v c j
  instance_is = instance-wired v c j inside.0 sender

  pub is_there_so : is_there w c j ≡ true
  is_there_so = there-wired v c j inside.0 ∙ lt-ltb j (replicas_of v c) sender

  pub ports_are : length i.ports ≡ length (component_at v c).ports
  ports_are = ap (λ (z : Instance). length z.ports) instance_is ∙ instance-ports v c j

  pub output_there : o < length i.outputs
  output_there =
      let long : length i.outputs ≡ length (component_at v c).outputs = ap (λ (z : Instance). length z.outputs) instance_is ∙ length-below _ (length (component_at v c).outputs) in
      let lt = inside.1 in omega (arith, long, lt)

  module _ (program : Program) (body : program_of v c ≡ Some program) (unordered : is_order v c ≡ false) where
    pub not_order : is_order_mode i.mode ≡ false
    not_order = ap (λ (z : Instance). is_order_mode z.mode) instance_is ∙ unordered

    life_is : (life : Life) → life_timesteps i (x.logs c) life ≡ timesteps i life.heard
    life_is life = life_timesteps-hearing i (x.logs c) life not_order

    -- the life in which a record was emitted
    pub from_contents : (r : Row) → Has r (contents w d x s j) → (life : Life) × Has life (all_lives (x.lives c j)) × Has r (output_over program o (timesteps i life.heard))
    from_contents r h =
        let list = emitted_list w d x s j in
        let m = (rows_law v d x s c o j program r valid within origin body sender).0 (Has-from_rows_in r list (Has-from_set_of r (rows_in list) h)) in
        (m.0, m.1, subst (λ nows. Has r (output_over program o nows)) (life_is m.0) m.2)

    pub in_contents : (r : Row) (life : Life) → Has life (all_lives (x.lives c j)) → Has r (output_over program o (timesteps i life.heard)) → Has r (contents w d x s j)
    in_contents r life of_life h =
        let list = emitted_list w d x s j in
        let row_there = (rows_law v d x s c o j program r valid within origin body sender).1 (life, of_life, subst (λ nows. Has r (output_over program o nows)) (sym (life_is life)) h) in
        Has-set_of r (rows_in list) (Has-rows_in r list row_there)

    last_of_lives : Has (x.lives c j).last (all_lives (x.lives c j))
    last_of_lives = Has-append_right (x.lives c j).last (x.lives c j).earlier ((x.lives c j).last ∷ []) (inl refl)

    -- where the rows of each life are among those of all at once, and are these where the life heard all, the contents are the one-step answer
    pub determined_contents : IsProper program → IsComplete w d x
        → ((life : Life) → Has life (all_lives (x.lives c j)) → IsDetermined program (output_over program o) (timesteps i life.heard) (contents_into w d x c j))
        → contents w d x s j ≡ set_at (answer_of program (contents_into w d x c j)) o
    determined_contents proper complete each =
        let all : Sets = contents_into w d x c j in
        let full : AreAllIn program (timesteps i (x.lives c j).last.heard) all = λ port r lt h. let st = last_heard w d x c j complete is_there_so not_order port r h in (st.now, st.among, st.there) in
        let to : IsWithin (contents w d x s j) (output_over program o (all ∷ [])) = λ r h. let m = from_contents r h in (each m.0 m.1).within r m.2 in
        let from : IsWithin (output_over program o (all ∷ [])) (contents w d x s j) = λ r h. in_contents r (x.lives c j).last last_of_lives ((each (x.lives c j).last last_of_lives).whole full r h) in
        same_row_sets (contents w d x s j) (output_over program o (all ∷ [])) (sorted_set_of (rows_in (emitted_list w d x s j))) (sorted_set_of (over_steps program (output_rows program o) (empty_tables program) (all ∷ []))) (to, from)
        ∙ one_step_answers program proper o all
