-- Outside Seal what is heard stands in the timestep of its batch.
use Rattle.std.proofs.Common.{◌≡◌, refl, ap, sym, subst, ◌∙◌, ◌<◌, List, [], ◌∷◌, ◌++◌, length, inl, inr}
use Rattle.blz_value.specs.Members.{Has}
use Rattle.blz_value.proofs.Membership.{Has-append_left, Has-append_right, Has-append_cases}
use Rattle.bloom_forms.specs.declared.mode.Mode.{Mode}
use Rattle.bloom_forms.specs.declared.mode.Mode.TheVariants.{Free, Pass, Seal, Order}
use Rattle.messages.specs.Messages.{Pair, Batch, Entry, all_pairs}
use Rattle.inbox.specs.Instances.{Instance, entries_of}
use Rattle.inbox.specs.Timesteps.{steps_in, timesteps, one_timestep}
use Rattle.inbox.proofs.Executions.Appending.{timesteps-more}
use Rattle.inbox.specs.Timesteps.{Stands}
use Rattle.inbox.proofs.TimestepLemmas.Arriving.{Stands-together, Stands-from_together}
use Rattle.inbox.proofs.TimestepLemmas.Whole.{entries_of-append}
use Rattle.inbox.proofs.TimestepLemmas.UnderSeal.{by_end, all_pairs-more}

-- a mode that waits for nothing
abbrev pub GoesAtOnce : Mode → Type 0
GoesAtOnce Free = Unit {0}
GoesAtOnce (Pass key) = Unit {0}
GoesAtOnce (Seal key) = ⊥
GoesAtOnce Order = ⊥

steps_at_once : (mode : Mode) (i : Instance) (heard : List Pair) (batch : Batch) → GoesAtOnce mode → steps_in mode i heard batch ≡ one_timestep (length i.ports) (entries_of i batch)
steps_at_once Free i heard batch g = refl
steps_at_once (Pass key) i heard batch g = refl
steps_at_once (Seal key) i heard batch g = absurd g
steps_at_once Order i heard batch g = absurd g

module _ (i : Instance) (at_once : GoesAtOnce i.mode) where
  more_steps : (batches : List Batch) (batch : Batch) → timesteps i (batches ++ batch ∷ []) ≡ timesteps i batches ++ one_timestep (length i.ports) (entries_of i batch)
  more_steps batches batch = timesteps-more i batches batch ∙ ap (λ l. timesteps i batches ++ l) (steps_at_once i.mode i (all_pairs batches) batch at_once)

  -- what stands in a timestep was heard
  pub at_once_timesteps-heard : (batches : List Batch) (entry : Entry) → Stands (timesteps i batches) entry → Has entry (entries_of i (all_pairs batches))
  at_once_timesteps-heard batches entry =
      by_end (λ bs. Stands (timesteps i bs) entry → Has entry (entries_of i (all_pairs bs)))
      (λ s. absurd s.among)
      (λ bs b before s.
      let t = subst (λ l. Stands l entry) (more_steps bs b) s in
      subst (λ l. Has entry l) (sym (ap (entries_of i) (all_pairs-more bs b) ∙ entries_of-append i (all_pairs bs) b))
      (elim (Has-append_cases t.now (timesteps i bs) (one_timestep (length i.ports) (entries_of i b)) t.among) [
        | inl old ↦ Has-append_left entry (entries_of i (all_pairs bs)) (entries_of i b) (before (record { now = t.now; among = old; there = t.there }))
        | inr new ↦ Has-append_right entry (entries_of i (all_pairs bs)) (entries_of i b) (Stands-from_together (length i.ports) (entries_of i b) entry (record { now = t.now; among = new; there = t.there }))
      ]))
      batches

  -- and what was heard stands in one
  pub at_once_timesteps-stand : (batches : List Batch) (entry : Entry) → entry.0 < length i.ports → Has entry (entries_of i (all_pairs batches)) → Stands (timesteps i batches) entry
  at_once_timesteps-stand batches entry within =
      by_end (λ bs. Has entry (entries_of i (all_pairs bs)) → Stands (timesteps i bs) entry)
      (λ h. absurd h)
      (λ bs b before h.
      subst (λ l. Stands l entry) (sym (more_steps bs b))
      (elim (Has-append_cases entry (entries_of i (all_pairs bs)) (entries_of i b) (subst (λ l. Has entry l) (ap (entries_of i) (all_pairs-more bs b) ∙ entries_of-append i (all_pairs bs) b) h)) [
        | inl old ↦ let s = before old in record { now = s.now; among = Has-append_left s.now (timesteps i bs) (one_timestep (length i.ports) (entries_of i b)) s.among; there = s.there }
        | inr new ↦ let s = Stands-together (length i.ports) (entries_of i b) entry within new in record { now = s.now; among = Has-append_right s.now (timesteps i bs) (one_timestep (length i.ports) (entries_of i b)) s.among; there = s.there }
      ]))
      batches
