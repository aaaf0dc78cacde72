-- In a complete history all replicas of an Order component have equal contents.
use Rattle.std.proofs.Common.{◌≡◌, ◌<◌, ◌≤◌, ℕ, true, Option, None, Some, [], ◌∷◌, length, map, refl, ap, ◌∙◌, sym, inl, arith}
use Rattle.std.proofs.lemmas.List.{take_all, length-map}
use Rattle.blz_value.proofs.Membership.{Has-append_right, Has-map}
use Rattle.blz_value.proofs.SetLaws.{Has-from_set_of}
use Rattle.bloom_forms.specs.declared.program.Program.{Program}
use Rattle.bloom_forms.specs.Program.{port_columns}
use Rattle.topo_forms.specs.Data.{Data}
use Rattle.topo_forms.specs.Messages.{rows_in}
use Rattle.topo_forms.specs.Valid.{IsValid}
use Rattle.topo_forms.specs.View.{View, origin_of, program_of, is_order, is_order_mode, replicas_of, component_at, stream_at}
use Rattle.inbox.specs.Instances.{Instance}
use Rattle.inbox.specs.Folds.{fold_rows}
use Rattle.inbox.specs.Lives.{Life, Lives, all_lives}
use Rattle.inbox.specs.Wiring.{wiring_of, instance_at}
use Rattle.inbox.specs.Executions.{Execution, emitted_list, contents}
use Rattle.inbox.specs.Completeness.{IsComplete}
use Rattle.inbox.proofs.Executions.Completing.{all_taken}
use Rattle.inbox.proofs.WiringLemmas.{stream-wired}
use Rattle.inbox.specs.OrderReplicas.{most_taken}
use Rattle.inbox.proofs.Lists.SequencerLaw.{sequencer_law, fold_max-member}
use Rattle.inbox.proofs.TimestepLemmas.Entries.{Has-from_rows_in}
use Rattle.confluence.proofs.Determined.DeterminedOutputs.{no_rows}
use Rattle.confluence.proofs.Contents.Instances.{inside, instance_is, is_there_so, ports_are, output_there}
use Rattle.confluence.proofs.Contents.NoBody.{no_body_no_rows}

last_most : (lives : Lives) → lives.last.taken ≤ most_taken lives
last_most lives = fold_max-member (map (λ (life : Life). life.taken) (all_lives lives)) 0 lives.last.taken (Has-map (λ (life : Life). life.taken) lives.last (all_lives lives) (Has-append_right lives.last lives.earlier (lives.last ∷ []) (inl refl)))

-- without a body the contents are empty
pub no_contents : (v : View) (d : Data) (x : Execution) → IsValid v → (s c o j : ℕ) → s < length v.streams → origin_of v s ≡ Some (c, o) → j < replicas_of v c → program_of v c ≡ None → contents (wiring_of v) d x s j ≡ []
no_contents v d x valid s c o j within origin sender none =
    let list = emitted_list (wiring_of v) d x s j in
    no_rows (contents (wiring_of v) d x s j) (λ r h. no_body_no_rows v d x valid s c o j within origin sender none r (Has-from_rows_in r list (Has-from_set_of r (rows_in list) h)))

module _ (v : View) (d : Data) (x : Execution) (valid : IsValid v) (s c o : ℕ) (within : s < length v.streams) (origin : origin_of v s ≡ Some (c, o)) (order : is_order v c ≡ true) (complete : IsComplete (wiring_of v) d x) where
  -- the contents are those of the whole log
  of_log : (program : Program) → program_of v c ≡ Some program → (j : ℕ) → j < replicas_of v c → contents (wiring_of v) d x s j ≡ fold_rows program (x.logs c) o
  of_log program body j sender =
      let is = instance_is v d x valid s c o j within origin sender in
      let there = is_there_so v d x valid s c o j within origin sender in
      let order_mode : is_order_mode (instance_at (wiring_of v) c j).mode ≡ true = ap (λ (z : Instance). is_order_mode z.mode) is ∙ order in
      let at = inside v d x valid s c o j within origin sender in
      let columns : length (port_columns program) ≡ length (component_at v c).ports =
      sym (length-map (port_columns program) _) ∙ sym (ap length ((valid.components c at.0).runs program body).ports) ∙ length-map (component_at v c).ports _ in
      let law = sequencer_law (wiring_of v) d x s c o j program (record {
        line = stream_at v s;
        numbered = stream-wired v s within;
        origin = origin;
        body = ap (λ (z : Instance). z.program) is ∙ body;
        order = order_mode;
        ports = ports_are v d x valid s c o j within origin sender ∙ sym columns;
        output_there = output_there v d x valid s c o j within origin sender;
      }) in
      let taken = all_taken (wiring_of v) d x complete c j there order_mode in
      let most = last_most (x.lives c j) in
      law ∙ ap (λ l. fold_rows program l o) (take_all (most_taken (x.lives c j)) (x.logs c) (omega (arith, taken, most)))

  pub order_equal : (i j : ℕ) → i < replicas_of v c → j < replicas_of v c → contents (wiring_of v) d x s i ≡ contents (wiring_of v) d x s j
  order_equal i j lt_i lt_j = by (program_of v c) refl
    where
      by : (program : Option Program) → program_of v c ≡ program → contents (wiring_of v) d x s i ≡ contents (wiring_of v) d x s j
      by None e = no_contents v d x valid s c o i within origin lt_i e ∙ sym (no_contents v d x valid s c o j within origin lt_j e)
      by (Some program) e = of_log program e i lt_i ∙ sym (of_log program e j lt_j)
