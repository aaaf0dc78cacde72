-- Each timestep has one set for each port.
use Rattle.std.proofs.Common.{◌≡◌, ap, sym, subst, ◌∙◌, ℕ, not, List, [], ◌∷◌, ◌++◌, length, filter, inl, inr}
use Rattle.std.proofs.lemmas.List.FromFn.{length-map-range_with_len}
use Rattle.blz_value.specs.Members.{Has}
use Rattle.blz_value.specs.Record.{Row}
use Rattle.blz_value.proofs.Membership.{Has-append_cases, Has-from_map, Has-from_flat_map}
use Rattle.bloom_forms.specs.Step.{Sets}
use Rattle.bloom_forms.specs.declared.mode.Mode.{Mode}
use Rattle.bloom_forms.specs.declared.mode.Mode.TheVariants.{Free, Pass, Seal, Order}
use Rattle.messages.specs.Messages.{Pair, Batch, Entry, is_same_entry, firsts}
use Rattle.inbox.specs.Instances.{Instance, is_carrying, entries_of}
use Rattle.bloom_eval.specs.Arrivals.{timestep_of}
use Rattle.inbox.specs.Timesteps.{SetOff, one_timestep, one_by_one, released_steps, is_of_some, first_part, second_part, newly_whole, steps_in, each_after, timesteps}
use Rattle.inbox.proofs.TimestepLemmas.Arriving.{at_port}

timestep_of-many : (ports : ℕ) (entries : List Entry) → length (timestep_of ports entries) ≡ ports
timestep_of-many ports entries = length-map-range_with_len (at_port entries) 0 ports

one_timestep-many : (ports : ℕ) (entries : List Entry) (now : Sets) → Has now (one_timestep ports entries) → length now ≡ ports
one_timestep-many ports [] now h = absurd h
one_timestep-many ports (entry ∷ entries) now (inl e) = sym (ap length e) ∙ timestep_of-many ports (entry ∷ entries)
one_timestep-many ports (entry ∷ entries) now (inr h) = absurd h

pub one_by_one-many : (ports : ℕ) (entries : List Entry) (now : Sets) → Has now (one_by_one ports entries) → length now ≡ ports
one_by_one-many ports entries now h = let m = Has-from_map (λ entry. timestep_of ports (entry ∷ [])) now entries h in sym (ap length m.2) ∙ timestep_of-many ports (m.0 ∷ [])

released-many : (i : Instance) (entries : List Entry) (now : Sets) → Has now (released_steps i entries) → length now ≡ length i.ports
released-many i entries now (inl e) = sym (ap length e) ∙ timestep_of-many (length i.ports) (filter (λ entry. is_carrying i entry.0) entries)
released-many i entries now (inr h) = one_by_one-many (length i.ports) (firsts is_same_entry (filter (λ entry. not (is_carrying i entry.0)) entries)) now h

first-many : (i : Instance) (keys : List Row) (entries : List Entry) (now : Sets) → Has now (first_part i keys entries) → length now ≡ length i.ports
first-many i [] entries now h = absurd h
first-many i (key ∷ keys) entries now h = released-many i (filter (is_of_some i (key ∷ keys)) entries) now h

steps-many : (mode : Mode) (i : Instance) (heard : List Pair) (batch : Batch) (now : Sets) → Has now (steps_in mode i heard batch) → length now ≡ length i.ports
steps-many Free i heard batch now h = one_timestep-many (length i.ports) (entries_of i batch) now h
steps-many (Pass key) i heard batch now h = one_timestep-many (length i.ports) (entries_of i batch) now h
steps-many (Seal key) i heard batch now h = elim (Has-append_cases now (first_part i (newly_whole i heard batch) (entries_of i (heard ++ batch))) (second_part i heard batch) h) [
  | inl first ↦ first-many i (newly_whole i heard batch) (entries_of i (heard ++ batch)) now first
  | inr second ↦ one_timestep-many (length i.ports) _ now second
]
steps-many Order i heard batch now h = absurd h

after-many : (i : Instance) (heard : List Pair) (batches : List Batch) (s : SetOff) → Has s (each_after i heard batches) → (now : Sets) → Has now s.steps → length now ≡ length i.ports
after-many i heard [] s h now m = absurd h
after-many i heard (batch ∷ batches) s (inl e) now m = steps-many i.mode i heard batch now (subst (λ z. Has now z.steps) (sym e) m)
after-many i heard (batch ∷ batches) s (inr h) now m = after-many i (heard ++ batch) batches s h now m

pub timesteps-many : (i : Instance) (batches : List Batch) (now : Sets) → Has now (timesteps i batches) → length now ≡ length i.ports
timesteps-many i batches now h = let m = Has-from_flat_map (λ s. s.steps) now (each_after i [] batches) h in after-many i [] batches m.0 m.1 now m.2
