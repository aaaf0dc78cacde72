-- Outside Seal nothing is held, and under Seal the records whose partition isn't whole.
use Rattle.std.proofs.Common.{◌≡◌, refl, ap, ◌∙◌, ◌<◌, true, false, not, List, [], ◌∷◌, length, filter, arith}
use Rattle.std.specs.List.{list_any}
use Rattle.std.proofs.lemmas.Bool.{not_from_false}
use Rattle.blz_value.specs.Members.{Has}
use Rattle.blz_value.proofs.Membership.{any_from_Has, Has-from_any, Has-filter}
use Rattle.bloom_forms.specs.Step.{Sets, set_at}
use Rattle.blz_value.specs.declared.attrs.Attrs.{Attrs}
use Rattle.blz_value.proofs.Booleans.{same_truth}
use Rattle.blz_value.proofs.Lists.{filter_same}
use Rattle.bloom_forms.specs.declared.mode.Mode.TheVariants.{Seal}
use Rattle.topo_forms.specs.Messages.{is_same_row}
use Rattle.messages.specs.Messages.{Batch, Entry, is_same_entry, all_pairs, firsts}
use Rattle.inbox.specs.Instances.{Instance, entries_of}
use Rattle.inbox.specs.Timesteps.{is_due, timesteps, is_in_some, held_entries, held_count}
use Rattle.messages.proofs.MessagesLemmas.{is_same_row-is, is_same_row-itself, is_same_entry-is, is_same_entry-itself, any-from_same, same-from_any, Has-from_firsts, Has-firsts}
use Rattle.inbox.specs.Timesteps.{Stands}
use Rattle.inbox.proofs.TimestepLemmas.UnderSeal.{seal_timesteps-go, seal_timesteps-stand}
use Rattle.inbox.proofs.TimestepLemmas.AtOnce.{GoesAtOnce, at_once_timesteps-stand}

-- ---- the test

pub is_in_some-is : (steps : List Sets) (entry : Entry) → is_in_some steps entry ≡ true → Stands steps entry
is_in_some-is steps entry e =
    let m = Has-from_any (λ now. list_any (is_same_row entry.1) (set_at now entry.0)) steps e in
    record { now = m.0; among = m.1; there = same-from_any is_same_row is_same_row-is is_same_row-itself entry.1 (set_at m.0 entry.0) m.2 }

pub is-is_in_some : (steps : List Sets) (entry : Entry) → Stands steps entry → is_in_some steps entry ≡ true
is-is_in_some steps entry s = any_from_Has (λ now. list_any (is_same_row entry.1) (set_at now entry.0)) s.now steps s.among (any-from_same is_same_row is_same_row-is is_same_row-itself entry.1 (set_at s.now entry.0) s.there)

-- ---- what is held

-- what was heard came at ports of the instance
abbrev pub ComesAtPorts : Instance → List Batch → Type 0
ComesAtPorts i batches = (entry : Entry) → Has entry (entries_of i (all_pairs batches)) → entry.0 < length i.ports

-- under Seal the distinct records whose port has the key's columns and whose partition isn't whole
pub seal_held : (i : Instance) (mode_key : Attrs) (batches : List Batch) → i.mode ≡ Seal mode_key → ComesAtPorts i batches
    → held_entries i batches ≡ filter (λ entry. not (is_due i (all_pairs batches) entry)) (firsts is_same_entry (entries_of i (all_pairs batches)))
seal_held i mode_key batches is there =
    filter_same (λ entry. not (is_in_some (timesteps i batches) entry)) (λ entry. not (is_due i (all_pairs batches) entry)) (firsts is_same_entry (entries_of i (all_pairs batches)))
    (λ entry h.
    let heard = Has-from_firsts is_same_entry is_same_entry-is is_same_entry-itself entry (entries_of i (all_pairs batches)) h in
    ap not (same_truth (is_in_some (timesteps i batches) entry) (is_due i (all_pairs batches) entry)
    (λ e. (seal_timesteps-go i mode_key is batches entry (is_in_some-is (timesteps i batches) entry e)).due)
    (λ e. is-is_in_some (timesteps i batches) entry (seal_timesteps-stand i mode_key is batches entry (there entry heard) (record { there = heard; due = e })))))

-- outside sealing nothing
pub at_once_held : (i : Instance) (batches : List Batch) → GoesAtOnce i.mode → ComesAtPorts i batches → held_count i batches ≡ 0
at_once_held i batches at_once there =
    ap length (filter_same (λ entry. not (is_in_some (timesteps i batches) entry)) (λ entry. false) (firsts is_same_entry (entries_of i (all_pairs batches)))
    (λ entry h.
    let heard = Has-from_firsts is_same_entry is_same_entry-is is_same_entry-itself entry (entries_of i (all_pairs batches)) h in
    ap not (is-is_in_some (timesteps i batches) entry (at_once_timesteps-stand i at_once batches entry (there entry heard) heard))))
    ∙ ap length (none_chosen (firsts is_same_entry (entries_of i (all_pairs batches))))
  where
    none_chosen : (entries : List Entry) → filter (λ entry. false) entries ≡ []
    none_chosen [] = refl
    none_chosen (entry ∷ entries) = none_chosen entries

-- where nothing is held, all that was heard stands in a timestep
pub nothing_held : (i : Instance) (batches : List Batch) (entry : Entry) → held_count i batches ≡ 0 → Has entry (entries_of i (all_pairs batches)) → Stands (timesteps i batches) entry
nothing_held i batches entry none h =
    let rest : List Entry = held_entries i batches in
    elim (is_in_some (timesteps i batches) entry) as (λ b. is_in_some (timesteps i batches) entry ≡ b → Stands (timesteps i batches) entry) [
      | true ↦ λ e. is_in_some-is (timesteps i batches) entry e
      | false ↦ λ e. absurd (no_member rest entry none (Has-filter (λ x. not (is_in_some (timesteps i batches) x)) entry (firsts is_same_entry (entries_of i (all_pairs batches))) (Has-firsts is_same_entry is_same_entry-is is_same_entry-itself entry (entries_of i (all_pairs batches)) h) (not_from_false (is_in_some (timesteps i batches) entry) e)))
    ] refl
  where
    no_member : (entries : List Entry) (q : Entry) → length entries ≡ 0 → ¬ Has q entries
    no_member [] q e h = h
    no_member (x ∷ entries) q e h = absurd (omega arith)
