-- What stands in a timestep of a life was heard in the life, or was taken from the log; and a timestep has one set for each port.
use Rattle.std.proofs.Common.{◌≡◌, refl, ap, sym, subst, ◌∙◌, ℕ, Bool, true, false, List, [], ◌∷◌, length, map, take, inl, inr, ◌⊎◌}
use Rattle.std.specs.Prelude.{if◌then◌else◌}
use Rattle.std.specs.List.{flat_map}
use Rattle.std.proofs.lemmas.Bool.{cases_Bool}
use Rattle.blz_value.specs.Members.{Has}
use Rattle.blz_value.specs.Record.{Row}
use Rattle.blz_value.proofs.Membership.{Has-from_map, Has-from_flat_map}
use Rattle.blz_value.proofs.Lists.{Has-take}
use Rattle.bloom_forms.specs.Step.{Sets, set_at}
use Rattle.bloom_forms.specs.declared.mode.Mode.{Mode}
use Rattle.bloom_forms.specs.declared.mode.Mode.TheVariants.{Free, Pass, Seal, Order}
use Rattle.topo_forms.specs.View.{is_order_mode}
use Rattle.messages.specs.Messages.{Batch, Entry, all_pairs}
use Rattle.inbox.specs.Instances.{Instance, entries_of}
use Rattle.bloom_eval.specs.Arrivals.{timestep_of}
use Rattle.inbox.specs.Timesteps.{SetOff, one_by_one, each_set_off, timesteps, Stands}
use Rattle.inbox.specs.Lives.{Life, of_entry, life_timesteps}
use Rattle.inbox.proofs.Executions.Appending.{sets_off-hearing, sets_off-taking}
use Rattle.inbox.proofs.TimestepLemmas.Arriving.{Has-from_arrivals}
use Rattle.inbox.proofs.TimestepLemmas.AtOnce.{GoesAtOnce, at_once_timesteps-heard}
use Rattle.inbox.proofs.TimestepLemmas.UnderSeal.{seal_timesteps-go}
use Rattle.inbox.proofs.TimestepLemmas.Widths.{timesteps-many, one_by_one-many}

-- ---- by the mode

-- the timesteps of a life that hears are those of its batches
pub life_timesteps-hearing : (i : Instance) (log : List Entry) (life : Life) → is_order_mode i.mode ≡ false → life_timesteps i log life ≡ timesteps i life.heard
life_timesteps-hearing i log life hears = ap (flat_map (λ s. s.steps)) (sets_off-hearing i log life hears)

taken_timesteps : (i : Instance) (entries : List Entry) → flat_map (λ s. s.steps) (map (of_entry i) entries) ≡ one_by_one (length i.ports) entries
taken_timesteps i [] = refl
taken_timesteps i (entry ∷ entries) = ap (λ l. timestep_of (length i.ports) (entry ∷ []) ∷ l) (taken_timesteps i entries)

-- those of a life that takes are one for each entry that it took
pub life_timesteps-taking : (i : Instance) (log : List Entry) (life : Life) → is_order_mode i.mode ≡ true → life_timesteps i log life ≡ one_by_one (length i.ports) (take life.taken log)
life_timesteps-taking i log life takes = ap (flat_map (λ s. s.steps)) (sets_off-taking i log life takes) ∙ taken_timesteps i (take life.taken log)

-- one set for each port
pub life_timesteps-many : (i : Instance) (log : List Entry) (life : Life) (now : Sets) → Has now (life_timesteps i log life) → length now ≡ length i.ports
life_timesteps-many i log life now h = elim (cases_Bool (is_order_mode i.mode)) [
  | inl takes ↦ one_by_one-many (length i.ports) (take life.taken log) now (subst (λ nows. Has now nows) (life_timesteps-taking i log life takes) h)
  | inr hears ↦ timesteps-many i life.heard now (subst (λ nows. Has now nows) (life_timesteps-hearing i log life hears) h)
]

-- ---- where the entries come from

-- the entries of an instance that isn't Order were heard
pub batches_heard : (i : Instance) (mode : Mode) (batches : List Batch) (entry : Entry) → i.mode ≡ mode → is_order_mode mode ≡ false → Stands (timesteps i batches) entry → Has entry (entries_of i (all_pairs batches))
batches_heard i Free batches entry e hears s = at_once_timesteps-heard i (subst GoesAtOnce (sym e) tt) batches entry s
batches_heard i (Pass key) batches entry e hears s = at_once_timesteps-heard i (subst GoesAtOnce (sym e) tt) batches entry s
batches_heard i (Seal key) batches entry e hears s = (seal_timesteps-go i key e batches entry s).there
batches_heard i Order batches entry e hears s = cc

-- those of a replica of an Order component were taken from the log
pub entries_taken : (i : Instance) (entries : List Entry) (now : Sets) (port : ℕ) (r : Row) → Has now (flat_map (λ s. s.steps) (map (of_entry i) entries)) → Has r (set_at now port) → Has (port, r) entries
entries_taken i entries now port r h stands =
    let a = Has-from_flat_map (λ (s : SetOff). s.steps) now (map (of_entry i) entries) h in
    let b = Has-from_map (of_entry i) a.0 entries a.1 in
    let steps : Has now (timestep_of (length i.ports) (b.0 ∷ []) ∷ []) = subst (λ (s : SetOff). Has now s.steps) (sym b.2) a.2 in
    elim steps [
      | inl e ↦ elim (Has-from_arrivals (length i.ports) (b.0 ∷ []) port r (subst (λ (n : Sets). Has r (set_at n port)) (sym e) stands)).1 [
        | inl same ↦ subst (λ z. Has z entries) same b.1
        | inr none ↦ absurd none
      ]
      | inr none ↦ absurd none
    ]

pub timestep_entry : (i : Instance) (log : List Entry) (life : Life) (now : Sets) (port : ℕ) (r : Row) → Has now (life_timesteps i log life) → Has r (set_at now port)
    → Has (port, r) (entries_of i (all_pairs life.heard)) ⊎ Has (port, r) log
timestep_entry i log life now port r h stands = elim (cases_Bool (is_order_mode i.mode)) [
  | inl order ↦
      let steps : Has now (flat_map (λ s. s.steps) (map (of_entry i) (take life.taken log))) = subst (λ (b : Bool). Has now (flat_map (λ s. s.steps) (if b then map (of_entry i) (take life.taken log) else each_set_off i life.heard))) order h in
      inr (Has-take life.taken (port, r) log (entries_taken i (take life.taken log) now port r steps stands))
  | inr hears ↦
      let steps : Has now (timesteps i life.heard) = subst (λ (b : Bool). Has now (flat_map (λ s. s.steps) (if b then map (of_entry i) (take life.taken log) else each_set_off i life.heard))) hears h in
      inl (batches_heard i i.mode life.heard (port, r) refl hears (record { now = now; among = steps; there = stands }))
]
