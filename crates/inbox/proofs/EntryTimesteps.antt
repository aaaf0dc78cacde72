-- Timesteps of entries, one after the other, where each emission lets the pool go on.
use Rattle.std.proofs.Common.{◌≡◌, ◌<◌, ◌≤◌, ◌+◌, ◌==◌, ℕ, zero, suc, Bool, true, false, Option, None, Some, List, [], ◌∷◌, ◌++◌, length, take, drop, get_or, refl, ap, ◌∙◌, sym, subst, arith, length-append}
use Rattle.std.specs.List.{All}
use Rattle.std.proofs.Common.{true≢false}
use Rattle.std.proofs.lemmas.Bool.{eqb-true, eq-eqb}
use Rattle.std.proofs.lemmas.List.{map-append, get_or-map, length-map, take_more, take_all, take-append-drop, get_or_append_left, get_or-append-add}
use Rattle.blz_pool.specs.Entries.{EntryId, entry_with_id, entries_with_ids}
use Rattle.blz_value.specs.Record.{Row}
use Rattle.bloom_eval.specs.Arrivals.{timestep_of}
use Rattle.bloom_eval.specs.Step.{Arrive}
use Rattle.bloom_forms.specs.declared.program.Program.{Program}
use Rattle.bloom_forms.specs.Step.{Sets}
use Rattle.messages.specs.Lists.{Listed, read_lists}
use Rattle.messages.specs.Messages.{Entry}
use Rattle.messages.specs.declared.fault.EventFault.{EventFault}
use Rattle.inbox.specs.Growth.{Continues}
use Rattle.inbox.specs.SetOffs.{released_read, AreReleasedFrom, AreGivenTo}
use Rattle.inbox.specs.Timesteps.{one_timestep, one_by_one}
use Rattle.inbox.specs.Running.{HasGone, HasMet}
use Rattle.inbox.specs.declared.outlets.Outlet.{Outlet}
use Rattle.inbox.specs.declared.set_off.Released.{Released}
use Rattle.inbox.specs.declared.set_off.SetOffIds.{SetOffIds}
use Rattle.inbox.proofs.EntriesOn.{entries_on, given_on}
use Rattle.inbox.proofs.RunningLemmas.{gone_on, met_on, met_soon}

-- the ids of entries are those of a pool with these records
abbrev pub AreIn : List Row → List EntryId → Type 0
AreIn records entries = All (λ entry. entry.1 < length records) entries

-- ---- timesteps after others, of entries that are read in the pool of before

module _ (read : List Entry → List Sets) (loaded first : Option Program) (outlets : List Outlet) (tables mid : Sets) (old between : Listed) (entries : List EntryId) (nows : List Sets) (same : loaded ≡ first) (gone : HasGone first outlets tables mid old between nows) (given : AreIn old.records entries) where
  read_on : read (entries_with_ids between.records entries) ≡ read (entries_with_ids old.records entries)
  read_on = ap read (entries_on old.records between.records entries gone.records given)

  pub gone_then : (next : Sets) (new : Listed) → HasGone loaded outlets mid next between new (read (entries_with_ids between.records entries)) → HasGone first outlets tables next old new (nows ++ read (entries_with_ids old.records entries))
  gone_then next new on =
      gone_on loaded first outlets tables mid next old between new nows (read (entries_with_ids old.records entries)) same gone
      (subst (λ l. HasGone loaded outlets mid next between new l) read_on on)

  pub met_then : (fault : EventFault) → HasMet fault loaded outlets mid (read_lists between) (read (entries_with_ids between.records entries)) → HasMet fault first outlets tables (read_lists old) (nows ++ read (entries_with_ids old.records entries))
  met_then fault met =
      met_on fault loaded first outlets tables mid (read_lists old) (read_lists between) nows (read (entries_with_ids old.records entries)) same gone.goes
      (subst (λ l. HasMet fault loaded outlets mid (read_lists between) l) read_on met)

  pub arrive_then : All (Arrive first) (read (entries_with_ids old.records entries)) → All (Arrive loaded) (read (entries_with_ids between.records entries))
  arrive_then all = subst (λ l. All (Arrive loaded) l) (sym read_on) (subst (λ o. All (Arrive o) (read (entries_with_ids old.records entries))) (sym same) all)

  pub given_then : AreIn between.records entries
  given_then = given_on old.records between.records entries gone.records given

-- ---- one entry after the other

one_by_one-append : (ports : ℕ) (records : List Row) (xs ys : List EntryId) → one_by_one ports (entries_with_ids records (xs ++ ys)) ≡ one_by_one ports (entries_with_ids records xs) ++ one_by_one ports (entries_with_ids records ys)
one_by_one-append ports records xs ys =
    ap (one_by_one ports) (map-append (entry_with_id records) xs ys)
    ∙ map-append (λ (entry : Entry). timestep_of ports (entry ∷ [])) (entries_with_ids records xs) (entries_with_ids records ys)

one_is_given : (records : List Row) (e : EntryId) → e.1 < length records → AreIn records (e ∷ [])
one_is_given records e within zero d less = within
one_is_given records e within (suc k) d less = absurd (omega arith)

module _ (ports : ℕ) (loaded first : Option Program) (outlets : List Outlet) (tables mid : Sets) (old between : Listed) (entries : List EntryId) (i : ℕ) (e : EntryId) (same : loaded ≡ first) (given : AreIn old.records entries) (within : i < length entries) (at : e ≡ get_or entries i e) (gone : HasGone first outlets tables mid old between (one_by_one ports (entries_with_ids old.records (take i entries)))) where
  here : e.1 < length old.records
  here = subst (λ (x : EntryId). x.1 < length old.records) (sym at) (given i e within)

  one_given : AreIn old.records (e ∷ [])
  one_given = one_is_given old.records e here

  taken : take (i + 1) entries ≡ take i entries ++ e ∷ []
  taken = take_more entries i e within ∙ ap (λ x. take i entries ++ x ∷ []) (sym at)

  more : one_by_one ports (entries_with_ids old.records (take (i + 1) entries)) ≡ one_by_one ports (entries_with_ids old.records (take i entries)) ++ timestep_of ports (entries_with_ids old.records (e ∷ [])) ∷ []
  more = ap (λ l. one_by_one ports (entries_with_ids old.records l)) taken ∙ one_by_one-append ports old.records (take i entries) (e ∷ [])

  all : one_by_one ports (entries_with_ids old.records entries) ≡ (one_by_one ports (entries_with_ids old.records (take i entries)) ++ timestep_of ports (entries_with_ids old.records (e ∷ [])) ∷ []) ++ one_by_one ports (entries_with_ids old.records (drop (i + 1) entries))
  all =
      ap (λ l. one_by_one ports (entries_with_ids old.records l)) (sym (take-append-drop (i + 1) entries))
      ∙ one_by_one-append ports old.records (take (i + 1) entries) (drop (i + 1) entries)
      ∙ ap (λ l. l ++ one_by_one ports (entries_with_ids old.records (drop (i + 1) entries))) more

  pub alone_given : AreIn between.records (e ∷ [])
  alone_given = given_then (λ l. timestep_of ports l ∷ []) loaded first outlets tables mid old between (e ∷ []) (one_by_one ports (entries_with_ids old.records (take i entries))) same gone one_given

  pub alone_arrives : All (Arrive first) (one_by_one ports (entries_with_ids old.records entries)) → Arrive loaded (timestep_of ports (entries_with_ids between.records (e ∷ [])))
  alone_arrives arrive =
      let step : Sets = timestep_of ports (entries_with_ids old.records (e ∷ [])) in
      let there : i < length (one_by_one ports (entries_with_ids old.records entries)) = omega (arith, within, length-map entries (entry_with_id old.records), length-map (entries_with_ids old.records entries) (λ (entry : Entry). timestep_of ports (entry ∷ []))) in
      let is : get_or (one_by_one ports (entries_with_ids old.records entries)) i step ≡ step =
      get_or-map (λ (entry : Entry). timestep_of ports (entry ∷ [])) (entries_with_ids old.records entries) i (entry_with_id old.records e) step (omega (arith, within, length-map entries (entry_with_id old.records)))
      ∙ ap (λ (entry : Entry). timestep_of ports (entry ∷ [])) (get_or-map (entry_with_id old.records) entries i e (entry_with_id old.records e) within ∙ ap (entry_with_id old.records) (sym at)) in
      arrive_then (λ l. timestep_of ports l ∷ []) loaded first outlets tables mid old between (e ∷ []) (one_by_one ports (entries_with_ids old.records (take i entries))) same gone one_given
      (λ k d less. one k d less (subst (Arrive first) is (arrive i step there)))
      0 step (omega arith)
    where
      one : (k : ℕ) (d : Sets) → k < 1 → Arrive first (timestep_of ports (entries_with_ids old.records (e ∷ []))) → Arrive first (get_or (timestep_of ports (entries_with_ids old.records (e ∷ [])) ∷ []) k d)
      one zero d less arrives = arrives
      one (suc k) d less arrives = absurd (omega arith)

  pub alone_gone : (next : Sets) (new : Listed) → HasGone loaded outlets mid next between new (timestep_of ports (entries_with_ids between.records (e ∷ [])) ∷ []) → HasGone first outlets tables next old new (one_by_one ports (entries_with_ids old.records (take (i + 1) entries)))
  alone_gone next new on =
      subst (λ l. HasGone first outlets tables next old new l) (sym more)
      (gone_then (λ l. timestep_of ports l ∷ []) loaded first outlets tables mid old between (e ∷ []) (one_by_one ports (entries_with_ids old.records (take i entries))) same gone one_given next new on)

  pub alone_met : (fault : EventFault) → HasMet fault loaded outlets mid (read_lists between) (timestep_of ports (entries_with_ids between.records (e ∷ [])) ∷ []) → HasMet fault first outlets tables (read_lists old) (one_by_one ports (entries_with_ids old.records entries))
  alone_met fault met =
      subst (λ l. HasMet fault first outlets tables (read_lists old) l) (sym all)
      (met_soon fault first outlets tables (read_lists old) (one_by_one ports (entries_with_ids old.records (take i entries)) ++ timestep_of ports (entries_with_ids old.records (e ∷ [])) ∷ []) (one_by_one ports (entries_with_ids old.records (drop (i + 1) entries)))
      (met_then (λ l. timestep_of ports l ∷ []) loaded first outlets tables mid old between (e ∷ []) (one_by_one ports (entries_with_ids old.records (take i entries))) same gone one_given fault met))

-- after the last
pub alone_all : (ports : ℕ) (loaded : Option Program) (outlets : List Outlet) (tables next : Sets) (old new : Listed) (entries : List EntryId) (i : ℕ) → length entries ≤ i → HasGone loaded outlets tables next old new (one_by_one ports (entries_with_ids old.records (take i entries))) → HasGone loaded outlets tables next old new (one_by_one ports (entries_with_ids old.records entries))
alone_all ports loaded outlets tables next old new entries i past gone = subst (λ l. HasGone loaded outlets tables next old new (one_by_one ports (entries_with_ids old.records l))) (take_all i entries past) gone

-- ---- one timestep, where there is one

-- entries as they are lent
module _ (ports : ℕ) (records : List Row) (going entries : List EntryId) (is : entries ≡ going) where
  pub along_given : AreIn records going → AreIn records entries
  along_given given = subst (AreIn records) (sym is) given

  pub along_none : (test : Bool) → test ≡ (length entries == 0) → test ≡ true → one_timestep ports (entries_with_ids records going) ≡ []
  along_none test of holds = ap (λ l. one_timestep ports (entries_with_ids records l)) (sym is) ∙ empty entries (eqb-true (length entries) 0 (sym of ∙ holds))
    where
      empty : (l : List EntryId) → length l ≡ 0 → one_timestep ports (entries_with_ids records l) ≡ []
      empty [] none = refl
      empty (e ∷ l) none = absurd (omega arith)

  pub along_some : (test : Bool) → test ≡ (length entries == 0) → test ≡ false → one_timestep ports (entries_with_ids records going) ≡ timestep_of ports (entries_with_ids records entries) ∷ []
  along_some test of fails = ap (λ l. one_timestep ports (entries_with_ids records l)) (sym is) ∙ first entries (λ none. true≢false (sym (eq-eqb (length entries) 0 none) ∙ sym of ∙ fails))
    where
      first : (l : List EntryId) → (length l ≡ 0 → ⊥) → one_timestep ports (entries_with_ids records l) ≡ timestep_of ports (entries_with_ids records l) ∷ []
      first [] some = absurd (some refl)
      first (e ∷ l) some = refl

-- ---- what arrives in one part of some timesteps

pub arrive_first : (program : Option Program) (now : Sets) (later : List Sets) → All (Arrive program) (now ∷ later) → Arrive program now
arrive_first program now later all = all 0 now (omega arith)

pub arrive_rest : (program : Option Program) (now : Sets) (later : List Sets) → All (Arrive program) (now ∷ later) → All (Arrive program) later
arrive_rest program now later all k d less = all (suc k) d (omega arith)

pub arrive_left : (program : Option Program) (nows later : List Sets) → All (Arrive program) (nows ++ later) → All (Arrive program) nows
arrive_left program nows later all k d less = subst (Arrive program) (get_or_append_left nows later d k less) (all k d (omega (arith, length-append nows later)))

pub arrive_right : (program : Option Program) (nows later : List Sets) → All (Arrive program) (nows ++ later) → All (Arrive program) later
arrive_right program nows later all k d less = subst (Arrive program) (get_or-append-add nows later k d) (all (length nows + k) d (omega (arith, length-append nows later)))

-- ---- ids in a pool that went on

released_on : (records later : List Row) (released : Option Released) → Continues records later → AreReleasedFrom records released → AreReleasedFrom later released
released_on records later None on given = given
released_on records later (Some released) on given = (given_on records later released.together.items on given.0, given_on records later released.alone.items on given.1)

pub given_to_on : (records later : List Row) (set : SetOffIds) → Continues records later → AreGivenTo records set → AreGivenTo later set
given_to_on records later set on given = record {
  released = released_on records later set.released on given.released;
  going = given_on records later _ on given.going;
}

-- ---- what partitions release

module _ (ports : ℕ) (first : Option Program) (outlets : List Outlet) (tables : Sets) (old : Listed) (set : Option Released) (released : Released) (some : set ≡ Some released) (given : AreReleasedFrom old.records set) (arrive : All (Arrive first) (released_read old.records ports set)) (together : List EntryId) (together_is : together ≡ released.together.items) where
  own : AreReleasedFrom old.records (Some released)
  own = subst (AreReleasedFrom old.records) some given

  read_is : released_read old.records ports set ≡ timestep_of ports (entries_with_ids old.records together) ∷ one_by_one ports (entries_with_ids old.records released.alone.items)
  read_is = ap (released_read old.records ports) some ∙ ap (λ l. timestep_of ports (entries_with_ids old.records l) ∷ one_by_one ports (entries_with_ids old.records released.alone.items)) (sym together_is)

  all_arrive : All (Arrive first) (timestep_of ports (entries_with_ids old.records together) ∷ one_by_one ports (entries_with_ids old.records released.alone.items))
  all_arrive = subst (λ l. All (Arrive first) l) read_is arrive

  pub together_given : AreIn old.records together
  together_given = subst (AreIn old.records) (sym together_is) own.0

  pub together_arrives : Arrive first (timestep_of ports (entries_with_ids old.records together))
  together_arrives = arrive_first first (timestep_of ports (entries_with_ids old.records together)) (one_by_one ports (entries_with_ids old.records released.alone.items)) all_arrive

  pub together_met : (fault : EventFault) → HasMet fault first outlets tables (read_lists old) (timestep_of ports (entries_with_ids old.records together) ∷ []) → HasMet fault first outlets tables (read_lists old) (released_read old.records ports set)
  together_met fault met =
      subst (λ l. HasMet fault first outlets tables (read_lists old) l) (sym read_is)
      (met_soon fault first outlets tables (read_lists old) (timestep_of ports (entries_with_ids old.records together) ∷ []) (one_by_one ports (entries_with_ids old.records released.alone.items)) met)

  module _ (loaded : Option Program) (mid : Sets) (between : Listed) (same : loaded ≡ first) (gone : HasGone first outlets tables mid old between (timestep_of ports (entries_with_ids old.records together) ∷ [])) (alone : List EntryId) (alone_is : alone ≡ released.alone.items) where
    alone_own : AreIn old.records alone
    alone_own = subst (AreIn old.records) (sym alone_is) own.1

    read_alone : released_read old.records ports set ≡ timestep_of ports (entries_with_ids old.records together) ∷ one_by_one ports (entries_with_ids old.records alone)
    read_alone = read_is ∙ ap (λ l. timestep_of ports (entries_with_ids old.records together) ∷ one_by_one ports (entries_with_ids old.records l)) (sym alone_is)

    pub rest_given : AreIn between.records alone
    rest_given = given_then (one_by_one ports) loaded first outlets tables mid old between alone (timestep_of ports (entries_with_ids old.records together) ∷ []) same gone alone_own

    pub rest_arrive : All (Arrive loaded) (one_by_one ports (entries_with_ids between.records alone))
    rest_arrive =
        arrive_then (one_by_one ports) loaded first outlets tables mid old between alone (timestep_of ports (entries_with_ids old.records together) ∷ []) same gone alone_own
        (arrive_rest first (timestep_of ports (entries_with_ids old.records together)) (one_by_one ports (entries_with_ids old.records alone)) (subst (λ l. All (Arrive first) l) read_alone arrive))

    pub rest_gone : (next : Sets) (new : Listed) → HasGone loaded outlets mid next between new (one_by_one ports (entries_with_ids between.records alone)) → HasGone first outlets tables next old new (released_read old.records ports set)
    rest_gone next new on =
        subst (λ l. HasGone first outlets tables next old new l) (sym read_alone)
        (gone_then (one_by_one ports) loaded first outlets tables mid old between alone (timestep_of ports (entries_with_ids old.records together) ∷ []) same gone alone_own next new on)

    pub rest_met : (fault : EventFault) → HasMet fault loaded outlets mid (read_lists between) (one_by_one ports (entries_with_ids between.records alone)) → HasMet fault first outlets tables (read_lists old) (released_read old.records ports set)
    rest_met fault met =
        subst (λ l. HasMet fault first outlets tables (read_lists old) l) (sym read_alone)
        (met_then (one_by_one ports) loaded first outlets tables mid old between alone (timestep_of ports (entries_with_ids old.records together) ∷ []) same gone alone_own fault met)
