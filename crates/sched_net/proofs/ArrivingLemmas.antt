-- The timesteps that a legal event sets off are arrivals of what the component runs.
use Rattle.std.proofs.Common.{◌≡◌, ◌<◌, ◌+◌, ℕ, suc, true, false, Option, None, Some, List, [], ◌∷◌, ◌++◌, length, map, take, get_or, refl, ap, sym, subst, ◌∙◌, inl, arith}
use Rattle.std.specs.Prelude.{Ok}
use Rattle.std.specs.List.{All, flat_map}
use Rattle.std.proofs.Math.Seq.{take-suc}
use Rattle.blz_value.specs.Members.{Has}
use Rattle.blz_value.proofs.Membership.{All-of_member, Has-get_or, Has-append_right, Has-map, Has-flat_map}
use Rattle.bloom_eval.specs.Step.{Arrive}
use Rattle.bloom_forms.specs.declared.program.Program.{Program}
use Rattle.bloom_forms.specs.Program.{port_columns}
use Rattle.bloom_forms.specs.Step.{Sets}
use Rattle.bloom_forms.specs.Widths.{AreSetsOf}
use Rattle.topo_forms.specs.Data.{Data, IsData}
use Rattle.topo_forms.specs.Valid.{IsValid}
use Rattle.topo_forms.specs.View.{View, program_of, replicas_of, is_order_mode}
use Rattle.inbox.specs.Events.{Step}
use Rattle.inbox.specs.Executions.{Execution, with_lives, execution_of, after_step}
use Rattle.inbox.specs.Instances.{Instance}
use Rattle.inbox.specs.Lives.{Life, Lives, all_lives, hear_batch, take_entry, of_entry, life_timesteps}
use Rattle.messages.specs.Messages.{Batch, Entry, all_pairs}
use Rattle.bloom_eval.specs.Arrivals.{timestep_of}
use Rattle.inbox.specs.Timesteps.{set_off, timesteps}
use Rattle.inbox.specs.Wiring.{instance_at, wiring_of}
use Rattle.inbox.proofs.Executions.Appending.{legal_more, sets_off-taking, timesteps-more}
use Rattle.inbox.proofs.Executions.Lengthening.{lives-changed}
use Rattle.inbox.proofs.TimestepLemmas.OfLives.{life_timesteps-hearing}
use Rattle.inbox.specs.Sent.{IsHistory}
use Rattle.inbox.proofs.Records.ArrivingLaw.{life_law}

-- a timestep of the last life
life_arrives : (v : View) (given : Data) (x : Execution) (c r : ℕ) (lives : Lives) (now : Sets) → IsHistory v given x → c < length v.components → r < replicas_of v c → x.lives c r ≡ lives
    → Has now (life_timesteps (instance_at (wiring_of v) c r) (x.logs c) lives.last) → Arrive (program_of v c) now
life_arrives v given x c r lives now history there within is h = by_program (program_of v c) refl
  where
    last : Has lives.last (all_lives (x.lives c r))
    last = subst (λ l. Has lives.last (all_lives l)) (sym is) (Has-append_right lives.last lives.earlier (lives.last ∷ []) (inl refl))

    by_program : (o : Option Program) → program_of v c ≡ o → Arrive o now
    by_program None runs = tt
    by_program (Some p) runs =
        All-of_member (AreSetsOf (port_columns p)) (life_timesteps (instance_at (wiring_of v) c r) (x.logs c) lives.last) now
        (life_law v given x c r p lives.last history there within runs last) h

module _ (v : View) (given : Data) (steps : List Step) (step : Step) (x : Execution) (valid : IsValid v) (fits : IsData v given) (run : execution_of (wiring_of v) given steps ≡ Ok x) (c r : ℕ) (there : c < length v.components) (within : r < replicas_of v c) where
  after_it : (y : Execution) → after_step (wiring_of v) given step x ≡ Ok y → IsHistory v given y
  after_it y at = record { valid = valid; fits = fits; steps = steps ++ step ∷ []; legal = legal_more (wiring_of v) given steps step x y run at }

  -- of a batch
  pub hearing_arrives : (pairs : Batch) → after_step (wiring_of v) given step x ≡ Ok (with_lives c r (hear_batch pairs) x) → is_order_mode (instance_at (wiring_of v) c r).mode ≡ false
      → All (Arrive (program_of v c)) (set_off (instance_at (wiring_of v) c r) (all_pairs (x.lives c r).last.heard) pairs).steps
  hearing_arrives pairs at hears k d inside =
      let i : Instance = instance_at (wiring_of v) c r in
      let heard : List Batch = (x.lives c r).last.heard in
      let own : List Sets = (set_off i (all_pairs heard) pairs).steps in
      let now : Sets = get_or own k d in
      let life : Life = (hear_batch pairs (x.lives c r)).last in
      life_arrives v given (with_lives c r (hear_batch pairs) x) c r (hear_batch pairs (x.lives c r)) now (after_it (with_lives c r (hear_batch pairs) x) at) there within (lives-changed c r (hear_batch pairs) x)
      (subst (λ nows. Has now nows) (sym (life_timesteps-hearing i (x.logs c) life hears ∙ timesteps-more i heard pairs))
      (Has-append_right now (timesteps i heard) own (Has-get_or own k d inside)))

  -- of an entry
  pub taking_arrives : (entry : Entry) → after_step (wiring_of v) given step x ≡ Ok (with_lives c r take_entry x) → is_order_mode (instance_at (wiring_of v) c r).mode ≡ true
      → (x.lives c r).last.taken < length (x.logs c) → get_or (x.logs c) (x.lives c r).last.taken entry ≡ entry
      → Arrive (program_of v c) (timestep_of (length (instance_at (wiring_of v) c r).ports) (entry ∷ []))
  taking_arrives entry at order less is =
      let i : Instance = instance_at (wiring_of v) c r in
      let log : List Entry = x.logs c in
      let n : ℕ = (x.lives c r).last.taken in
      let now : Sets = timestep_of (length i.ports) (entry ∷ []) in
      let life : Life = (take_entry (x.lives c r)).last in
      let longer : take (n + 1) log ≡ take n log ++ entry ∷ [] = ap (λ m. take m log) (let e : n + 1 ≡ suc n = omega arith in e) ∙ take-suc log n entry less ∙ ap (λ e. take n log ++ e ∷ []) is in
      let member : Has entry (take (n + 1) log) = subst (λ l. Has entry l) (sym longer) (Has-append_right entry (take n log) (entry ∷ []) (inl refl)) in
      life_arrives v given (with_lives c r take_entry x) c r (take_entry (x.lives c r)) now (after_it (with_lives c r take_entry x) at) there within (lives-changed c r take_entry x)
      (subst (λ all. Has now (flat_map (λ s. s.steps) all)) (sym (sets_off-taking i log life order))
      (Has-flat_map (λ s. s.steps) (of_entry i entry) now (map (of_entry i) (take (n + 1) log)) (Has-map (of_entry i) entry (take (n + 1) log) member) (inl refl)))
