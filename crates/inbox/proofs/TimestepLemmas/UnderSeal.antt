-- Under Seal a record stands in a timestep exactly where it was heard and waits for nothing.
use Rattle.std.proofs.Common.{◌≡◌, refl, ap, sym, subst, ◌∙◌, ◌<◌, ◌&&◌, Bool, true, false, not, List, [], ◌∷◌, ◌++◌, length, filter, append_assoc, append-nil, inl, inr, ◌⊎◌, Option, None, Some}
use Rattle.std.specs.List.{list_any}
use Rattle.std.specs.Option.{option_map_or}
use Rattle.std.proofs.lemmas.Bool.{not-true, not_from_false, and_parts, and_from}
use Rattle.std.proofs.lemmas.Grind.{flat_map-append}
use Rattle.blz_value.specs.Members.{Has}
use Rattle.blz_value.specs.Record.{Row}
use Rattle.blz_value.proofs.Membership.{Has-append_left, Has-append_right, Has-append_cases, Has-filter, Has-from_filter, any_from_Has, Has-from_any}
use Rattle.bloom_forms.specs.Step.{Sets, set_at}
use Rattle.bloom_forms.specs.declared.mode.Mode.TheVariants.{Seal}
use Rattle.blz_value.specs.declared.attrs.Attrs.{Attrs}
use Rattle.topo_forms.specs.Messages.{is_same_row}
use Rattle.messages.specs.Messages.{Pair, Batch, Entry, is_same_entry, all_pairs, firsts}
use Rattle.inbox.specs.Instances.{Instance, is_carrying, entries_of, key_of_entry, is_of_key}
use Rattle.bloom_eval.specs.Arrivals.{timestep_of}
use Rattle.inbox.specs.Timesteps.{is_whole, is_due, is_of_some, newly_whole, released_steps, first_part, second_part, steps_in, set_off, timesteps}
use Rattle.messages.proofs.MessagesLemmas.{is_same_row-is, is_same_row-itself, is_same_entry-is, is_same_entry-itself, Has-firsts, Has-from_firsts, any-from_same, same-from_any}
use Rattle.inbox.specs.Timesteps.{Stands, Goes}
use Rattle.inbox.proofs.TimestepLemmas.Arriving.{Has-arrivals, Has-from_arrivals, Stands-together, Stands-from_together, Stands-one_by_one, Stands-from_one_by_one}
use Rattle.inbox.proofs.TimestepLemmas.Whole.{entries_of-append, due-more, BecomesWhole, newly-becomes, becomes-newly}
use Rattle.inbox.proofs.Executions.Appending.{timesteps-more}

-- ---- records of a partition

key_by : (i : Instance) (key : Row) (of : Option Row) → option_map_or (is_same_row key) of false ≡ true → of ≡ Some key
key_by i key None e = cc
key_by i key (Some k) e = ap Some (sym (is_same_row-is key k e))

pub of_key-is : (i : Instance) (key : Row) (entry : Entry) → is_of_key i key entry ≡ true → key_of_entry i entry ≡ Some key
of_key-is i key entry e = key_by i key (key_of_entry i entry) e

pub is-of_key : (i : Instance) (key : Row) (entry : Entry) → key_of_entry i entry ≡ Some key → is_of_key i key entry ≡ true
is-of_key i key entry e = ap (λ of. option_map_or (is_same_row key) of false) e ∙ is_same_row-itself key

-- ---- the two parts

-- a record that stands in the first part: it was heard, and its partition becomes whole
pub record InFirst (i : Instance) (heard : List Pair) (batch : Batch) (entry : Entry) : Type 0 where
  pub there : Has entry (entries_of i (heard ++ batch))
  pub key : Row
  pub of_key : key_of_entry i entry ≡ Some key
  pub becomes : BecomesWhole i heard batch key

-- a record that stands in the second part: it came with the batch, was new and waited for nothing
pub record InSecond (i : Instance) (heard : List Pair) (batch : Batch) (entry : Entry) : Type 0 where
  pub there : Has entry (entries_of i batch)
  pub new : ¬ Has entry (entries_of i heard)
  pub due : is_due i heard entry ≡ true

stands_left : (xs ys : List Sets) (entry : Entry) → Stands xs entry → Stands (xs ++ ys) entry
stands_left xs ys entry s = record { now = s.now; among = Has-append_left s.now xs ys s.among; there = s.there }

stands_right : (xs ys : List Sets) (entry : Entry) → Stands ys entry → Stands (xs ++ ys) entry
stands_right xs ys entry s = record { now = s.now; among = Has-append_right s.now xs ys s.among; there = s.there }

stands_cases : (xs ys : List Sets) (entry : Entry) → Stands (xs ++ ys) entry → Stands xs entry ⊎ Stands ys entry
stands_cases xs ys entry s = elim (Has-append_cases s.now xs ys s.among) [
  | inl a ↦ inl (record { now = s.now; among = a; there = s.there })
  | inr b ↦ inr (record { now = s.now; among = b; there = s.there })
]

-- what is released at once or one by one are the entries given
released_steps-stands : (i : Instance) (entries : List Entry) (entry : Entry) → entry.0 < length i.ports → Has entry entries → Stands (released_steps i entries) entry
released_steps-stands i entries entry within h =
    let at : Entry → Bool = λ e. is_carrying i e.0 in
    let rest : List Entry = firsts is_same_entry (filter (λ e. not (is_carrying i e.0)) entries) in
    elim (is_carrying i entry.0) as (λ b. is_carrying i entry.0 ≡ b → Stands (released_steps i entries) entry) [
      | true ↦ λ e. record { now = timestep_of (length i.ports) (filter at entries); among = inl refl; there = Has-arrivals (length i.ports) (filter at entries) entry.0 entry.1 within (Has-filter at entry entries h e) }
      | false ↦ λ e.
          let s = Stands-one_by_one (length i.ports) rest entry within (Has-firsts is_same_entry is_same_entry-is is_same_entry-itself entry (filter (λ e. not (is_carrying i e.0)) entries) (Has-filter (λ e. not (is_carrying i e.0)) entry entries h (not_from_false (is_carrying i entry.0) e))) in
          record { now = s.now; among = inr s.among; there = s.there }
    ] refl

released_steps-from : (i : Instance) (entries : List Entry) (entry : Entry) → Stands (released_steps i entries) entry → Has entry entries
released_steps-from i entries entry s =
    let at : Entry → Bool = λ e. is_carrying i e.0 in
    let other : Entry → Bool = λ e. not (is_carrying i e.0) in
    elim s.among [
      | inl same ↦ (Has-from_filter at entry entries (Has-from_arrivals (length i.ports) (filter at entries) entry.0 entry.1 (subst (λ now. Has entry.1 (set_at now entry.0)) (sym same) s.there)).1).0
      | inr later ↦
          (Has-from_filter other entry entries (Has-from_firsts is_same_entry is_same_entry-is is_same_entry-itself entry (filter other entries)
          (Stands-from_one_by_one (length i.ports) (firsts is_same_entry (filter other entries)) entry (record { now = s.now; among = later; there = s.there })))).0
    ]

-- ---- the first part

some_key : (i : Instance) (keys : List Row) (entry : Entry) → is_of_some i keys entry ≡ true → (key : Row) × Has key keys × (key_of_entry i entry ≡ Some key)
some_key i keys entry e = let m = Has-from_any (λ key. is_of_key i key entry) keys e in (m.0, m.1, of_key-is i m.0 entry m.2)

first_from : (i : Instance) (keys : List Row) (entries : List Entry) (entry : Entry) → Stands (first_part i keys entries) entry → Has entry entries × (is_of_some i keys entry ≡ true)
first_from i [] entries entry s = absurd s.among
first_from i (key ∷ keys) entries entry s = Has-from_filter (is_of_some i (key ∷ keys)) entry entries (released_steps-from i (filter (is_of_some i (key ∷ keys)) entries) entry s)

first_to : (i : Instance) (keys : List Row) (entries : List Entry) (entry : Entry) → entry.0 < length i.ports → Has entry entries → is_of_some i keys entry ≡ true → Stands (first_part i keys entries) entry
first_to i [] entries entry within h e = cc
first_to i (key ∷ keys) entries entry within h e = released_steps-stands i (filter (is_of_some i (key ∷ keys)) entries) entry within (Has-filter (is_of_some i (key ∷ keys)) entry entries h e)

-- ---- what a batch sets off under Seal

pub seal_steps-from : (i : Instance) (heard : List Pair) (batch : Batch) (mode_key : Attrs) (entry : Entry) → Stands (steps_in (Seal mode_key) i heard batch) entry → InFirst i heard batch entry ⊎ InSecond i heard batch entry
seal_steps-from i heard batch mode_key entry s =
    let test : Entry → Bool = λ e. not (list_any (is_same_entry e) (entries_of i heard)) && is_due i heard e in
    elim (stands_cases (first_part i (newly_whole i heard batch) (entries_of i (heard ++ batch))) (second_part i heard batch) entry s) [
      | inl first ↦
          let f = first_from i (newly_whole i heard batch) (entries_of i (heard ++ batch)) entry first in
          let k = some_key i (newly_whole i heard batch) entry f.1 in
          inl (record { there = f.0; key = k.0; of_key = k.2; becomes = newly-becomes i heard batch k.0 k.1 })
      | inr second ↦
          let f = Has-from_filter test entry (entries_of i batch) (Stands-from_together (length i.ports) (filter test (entries_of i batch)) entry second) in
          let not_heard = not-true (list_any (is_same_entry entry) (entries_of i heard)) (and_parts (not (list_any (is_same_entry entry) (entries_of i heard))) (is_due i heard entry) f.1).0 in
          inr (record {
            there = f.0;
            new = λ h. let found = any-from_same is_same_entry is_same_entry-is is_same_entry-itself entry (entries_of i heard) h in let no : true ≡ false = sym found ∙ not_heard in cc;
            due = (and_parts (not (list_any (is_same_entry entry) (entries_of i heard))) (is_due i heard entry) f.1).1;
          })
    ]

pub seal_steps-first : (i : Instance) (heard : List Pair) (batch : Batch) (mode_key : Attrs) (entry : Entry) → entry.0 < length i.ports → InFirst i heard batch entry → Stands (steps_in (Seal mode_key) i heard batch) entry
seal_steps-first i heard batch mode_key entry within f =
    stands_left (first_part i (newly_whole i heard batch) (entries_of i (heard ++ batch))) (second_part i heard batch) entry
    (first_to i (newly_whole i heard batch) (entries_of i (heard ++ batch)) entry within f.there
    (any_from_Has (λ key. is_of_key i key entry) f.key (newly_whole i heard batch) (becomes-newly i heard batch f.key f.becomes) (is-of_key i f.key entry f.of_key)))

pub seal_steps-second : (i : Instance) (heard : List Pair) (batch : Batch) (mode_key : Attrs) (entry : Entry) → entry.0 < length i.ports → InSecond i heard batch entry → Stands (steps_in (Seal mode_key) i heard batch) entry
seal_steps-second i heard batch mode_key entry within f =
    let test : Entry → Bool = λ e. not (list_any (is_same_entry e) (entries_of i heard)) && is_due i heard e in
    let new : list_any (is_same_entry entry) (entries_of i heard) ≡ false = elim (list_any (is_same_entry entry) (entries_of i heard)) as (λ b. list_any (is_same_entry entry) (entries_of i heard) ≡ b → b ≡ false) [
      | true ↦ λ e. absurd (f.new (same-from_any is_same_entry is_same_entry-is is_same_entry-itself entry (entries_of i heard) e))
      | false ↦ λ e. refl
    ] refl in
    stands_right (first_part i (newly_whole i heard batch) (entries_of i (heard ++ batch))) (second_part i heard batch) entry
    (Stands-together (length i.ports) (filter test (entries_of i batch)) entry within
    (Has-filter test entry (entries_of i batch) f.there (and_from (not (list_any (is_same_entry entry) (entries_of i heard))) (is_due i heard entry) (not_from_false (list_any (is_same_entry entry) (entries_of i heard)) new) f.due)))

-- ---- lists from their end

from_end : {X : Type 0} (P : List X → Type 0) → ((xs : List X) (x : X) → P xs → P (xs ++ x ∷ [])) → (xs ys : List X) → P xs → P (xs ++ ys)
from_end P more xs [] p = subst P (sym (append-nil xs)) p
from_end P more xs (y ∷ ys) p = subst P (append_assoc xs (y ∷ []) ys) (from_end P more (xs ++ y ∷ []) ys (more xs y p))

-- induction on the end of a list
pub by_end : {X : Type 0} (P : List X → Type 0) → P [] → ((xs : List X) (x : X) → P xs → P (xs ++ x ∷ [])) → (xs : List X) → P xs
by_end P none more xs = from_end P more [] xs none

-- ---- a record stands in a timestep exactly where it was heard and waits for nothing

goes-more : (i : Instance) (heard more : List Pair) (entry : Entry) → Goes i heard entry → Goes i (heard ++ more) entry
goes-more i heard more entry g = record {
  there = subst (λ l. Has entry l) (sym (entries_of-append i heard more)) (Has-append_left entry (entries_of i heard) (entries_of i more) g.there);
  due = due-more i heard more entry g.due;
}

due_of : (i : Instance) (heard : List Pair) (entry : Entry) (key : Row) → key_of_entry i entry ≡ Some key → is_whole i heard key ≡ true → is_due i heard entry ≡ true
due_of i heard entry key of e = ap (λ k. option_map_or (is_whole i heard) k true) of ∙ e

goes-first : (i : Instance) (heard : List Pair) (batch : Batch) (entry : Entry) → InFirst i heard batch entry → Goes i (heard ++ batch) entry
goes-first i heard batch entry f = record { there = f.there; due = due_of i (heard ++ batch) entry f.key f.of_key f.becomes.after }

goes-second : (i : Instance) (heard : List Pair) (batch : Batch) (entry : Entry) → InSecond i heard batch entry → Goes i (heard ++ batch) entry
goes-second i heard batch entry f = record {
  there = subst (λ l. Has entry l) (sym (entries_of-append i heard batch)) (Has-append_right entry (entries_of i heard) (entries_of i batch) f.there);
  due = due-more i heard batch entry f.due;
}

-- a record that goes after a batch went before it, or is in one of the two parts
pub goes-cases : (i : Instance) (heard : List Pair) (batch : Batch) (entry : Entry) → Goes i (heard ++ batch) entry → Goes i heard entry ⊎ (InFirst i heard batch entry ⊎ InSecond i heard batch entry)
goes-cases i heard batch entry g =
    let waited : is_due i heard entry ≡ true → Goes i heard entry ⊎ (InFirst i heard batch entry ⊎ InSecond i heard batch entry) = λ due.
    elim (list_any (is_same_entry entry) (entries_of i heard)) as (λ b. list_any (is_same_entry entry) (entries_of i heard) ≡ b → Goes i heard entry ⊎ (InFirst i heard batch entry ⊎ InSecond i heard batch entry)) [
      | true ↦ λ e. inl (record { there = same-from_any is_same_entry is_same_entry-is is_same_entry-itself entry (entries_of i heard) e; due = due })
      | false ↦ λ e.
          let new : ¬ Has entry (entries_of i heard) = λ h. let found = any-from_same is_same_entry is_same_entry-is is_same_entry-itself entry (entries_of i heard) h in let no : true ≡ false = sym found ∙ e in cc in
          elim (Has-append_cases entry (entries_of i heard) (entries_of i batch) (subst (λ l. Has entry l) (entries_of-append i heard batch) g.there)) [
            | inl old ↦ absurd (new old)
            | inr now ↦ inr (inr (record { there = now; new = new; due = due }))
          ]
    ] refl in
    elim (key_of_entry i entry) as (λ of. key_of_entry i entry ≡ of → Goes i heard entry ⊎ (InFirst i heard batch entry ⊎ InSecond i heard batch entry)) [
      | None ↦ λ of. waited (ap (λ k. option_map_or (is_whole i heard) k true) of)
      | Some key ↦ λ of.
          let after : is_whole i (heard ++ batch) key ≡ true = sym (ap (λ k. option_map_or (is_whole i (heard ++ batch)) k true) of) ∙ g.due in
          elim (is_whole i heard key) as (λ b. is_whole i heard key ≡ b → Goes i heard entry ⊎ (InFirst i heard batch entry ⊎ InSecond i heard batch entry)) [
            | true ↦ λ e. waited (due_of i heard entry key of e)
            | false ↦ λ e. inr (inl (record { there = g.there; key = key; of_key = of; becomes = record { before = e; after = after } }))
          ] refl
    ] refl

pub all_pairs-more : (batches : List Batch) (batch : Batch) → all_pairs (batches ++ batch ∷ []) ≡ all_pairs batches ++ batch
all_pairs-more batches batch = flat_map-append (λ b. b) batches (batch ∷ []) ∙ ap (λ l. all_pairs batches ++ l) (append-nil batch)

no_pairs : (i : Instance) (entry : Entry) → ¬ Goes i [] entry
no_pairs i entry g = g.there

module _ (i : Instance) (mode_key : Attrs) (is_seal : i.mode ≡ Seal mode_key) where
  pub seal_set_off : (heard : List Pair) (batch : Batch) → (set_off i heard batch).steps ≡ steps_in (Seal mode_key) i heard batch
  seal_set_off heard batch = ap (λ mode. steps_in mode i heard batch) is_seal

  more_steps : (batches : List Batch) (batch : Batch) → timesteps i (batches ++ batch ∷ []) ≡ timesteps i batches ++ steps_in (Seal mode_key) i (all_pairs batches) batch
  more_steps batches batch = timesteps-more i batches batch ∙ ap (λ l. timesteps i batches ++ l) (seal_set_off (all_pairs batches) batch)

  -- what stands in a timestep was heard and waits for nothing
  pub seal_timesteps-go : (batches : List Batch) (entry : Entry) → Stands (timesteps i batches) entry → Goes i (all_pairs batches) entry
  seal_timesteps-go batches entry =
      by_end (λ bs. Stands (timesteps i bs) entry → Goes i (all_pairs bs) entry)
      (λ s. absurd s.among)
      (λ bs b before s.
      subst (λ h. Goes i h entry) (sym (all_pairs-more bs b))
      (elim (stands_cases (timesteps i bs) (steps_in (Seal mode_key) i (all_pairs bs) b) entry (subst (λ l. Stands l entry) (more_steps bs b) s)) [
        | inl old ↦ goes-more i (all_pairs bs) b entry (before old)
        | inr new ↦ elim (seal_steps-from i (all_pairs bs) b mode_key entry new) [
          | inl first ↦ goes-first i (all_pairs bs) b entry first
          | inr second ↦ goes-second i (all_pairs bs) b entry second
        ]
      ]))
      batches

  -- and what was heard and waits for nothing stands in one
  pub seal_timesteps-stand : (batches : List Batch) (entry : Entry) → entry.0 < length i.ports → Goes i (all_pairs batches) entry → Stands (timesteps i batches) entry
  seal_timesteps-stand batches entry within =
      by_end (λ bs. Goes i (all_pairs bs) entry → Stands (timesteps i bs) entry)
      (λ g. absurd (no_pairs i entry g))
      (λ bs b before g.
      subst (λ l. Stands l entry) (sym (more_steps bs b))
      (elim (goes-cases i (all_pairs bs) b entry (subst (λ h. Goes i h entry) (all_pairs-more bs b) g)) [
        | inl old ↦ stands_left (timesteps i bs) (steps_in (Seal mode_key) i (all_pairs bs) b) entry (before old)
        | inr new ↦ stands_right (timesteps i bs) (steps_in (Seal mode_key) i (all_pairs bs) b) entry (elim new [
          | inl first ↦ seal_steps-first i (all_pairs bs) b mode_key entry within first
          | inr second ↦ seal_steps-second i (all_pairs bs) b mode_key entry within second
        ])
      ]))
      batches
