-- Over the records of one partition that stand in the timesteps of a life, there are no rows, or those of one timestep with all of them.
use Rattle.std.proofs.Common.{◌≡◌, refl, ap, sym, subst, ◌∙◌, ℕ, ◌<◌, ◌≤◌, ◌⊎◌, true, false, List, [], ◌∷◌, ◌++◌, length, map, append_assoc, inl, inr, Option, Some}
use Rattle.std.specs.Prelude.{◌↔◌, is_some}
use Rattle.std.specs.Option.{option_map_or}
use Rattle.std.proofs.lemmas.Bool.{cases_lt}
use Rattle.std.proofs.lemmas.List.{get_or_past, map-append}
use Rattle.std.proofs.lemmas.List.FromFn.{length-map-range_with_len}
use Rattle.std.proofs.lemmas.Grind.{flat_map-append}
use Rattle.blz_value.specs.declared.attrs.Attrs.{Attrs}
use Rattle.blz_value.specs.Members.{Has}
use Rattle.blz_value.specs.Record.{Row}
use Rattle.blz_value.proofs.Membership.{Has-append_left, Has-append_right, Has-map, Has-from_map}
use Rattle.bloom_forms.specs.declared.program.Program.{Program}
use Rattle.bloom_forms.specs.Program.{port_columns}
use Rattle.bloom_forms.specs.Step.{Sets, set_at}
use Rattle.bloom_forms.specs.declared.note.Note.{Note}
use Rattle.bloom_forms.specs.Ports.{SeesItsPorts}
use Rattle.bloom_forms.specs.Runs.{arriving_at, at_once}
use Rattle.bloom_forms.proofs.Ports.Rules.{at_once_union}
use Rattle.bloom_forms.specs.declared.mode.Mode.TheVariants.{Seal}
use Rattle.topo_forms.specs.Data.{Data}
use Rattle.messages.specs.Messages.{Batch, all_pairs}
use Rattle.inbox.specs.Instances.{Instance, is_carrying, key_of_entry}
use Rattle.inbox.specs.Timesteps.{is_whole, timesteps, Stands}
use Rattle.inbox.specs.Wiring.{Wiring}
use Rattle.inbox.specs.Executions.{Execution}
use Rattle.inbox.proofs.TimestepLemmas.UnderSeal.{seal_timesteps-go, seal_timesteps-stand}
use Rattle.inbox.proofs.TimestepLemmas.Partitions.{became_whole, split_timesteps, partition_opens, opening_at, later_at}
use Rattle.confluence.specs.Partitions.{IsFed}
use Rattle.confluence.proofs.Honest.FromFeeds.{AllCome, IsFedHonestly, heard_fed, whole_heard}
use Rattle.bloom_forms.specs.Given.{is_w}

pub none_there : {X : Type 0} (xs : List X) → ((q : X) → ¬ Has q xs) → xs ≡ []
none_there [] none = refl
none_there (x ∷ xs) none = absurd (none x (inl refl))

-- of some arrivals, at each port with the key's columns, the records of a partition
pub record IsRestriction (i : Instance) (of : Sets → Sets) (key : Row) : Type 0 where
  pub chosen : (now : Sets) (port : ℕ) (r : Row) → Has r (set_at (of now) port) → (port < length i.ports) × Has r (set_at now port) × (key_of_entry i (port, r) ≡ Some key)
  pub kept : (now : Sets) (port : ℕ) (r : Row) → port < length i.ports → Has r (set_at now port) → key_of_entry i (port, r) ≡ Some key → Has r (set_at (of now) port)

module _ (program : Program) (i : Instance) (ports : length i.ports ≡ length (port_columns program)) where
  -- what stands in all of some arrivals at once
  pub at_once_from : (nows : List Sets) (port : ℕ) (r : Row) → port < length i.ports → Has r (set_at (at_once program nows) port) → Stands nows (port, r)
  at_once_from nows port r within h =
      let m = (at_once_union program nows port (subst (λ n. port < n) ports within)).some r h in
      record { now = m.0.0; among = m.0.1; there = m.1 }

  pub at_once_in : (nows : List Sets) (port : ℕ) (r : Row) → port < length i.ports → Stands nows (port, r) → Has r (set_at (at_once program nows) port)
  at_once_in nows port r within s = (at_once_union program nows port (subst (λ n. port < n) ports within)).inside (s.now, s.among) r s.there

  pub at_once_port : (nows : List Sets) (port : ℕ) (r : Row) → Has r (set_at (at_once program nows) port) → port < length i.ports
  at_once_port nows port r h = elim (cases_lt port (length i.ports)) [
    | inl lt ↦ lt
    | inr past ↦
        let none : length (at_once program nows) ≤ port = subst (λ n. n ≤ port) (sym (length-map-range_with_len (λ p. arriving_at p nows) 0 (length (port_columns program)))) (subst (λ n. n ≤ port) ports past) in
        absurd (subst (λ rows. Has r rows) (get_or_past (at_once program nows) port [] none) h)
  ]

  module _ (of : Sets → Sets) (key : Row) (only : IsRestriction i of key) where
    -- the records of the partition in some timesteps
    pub from_chosen : (nows : List Sets) (port : ℕ) (r : Row) → Stands (map of nows) (port, r) → (port < length i.ports) × Stands nows (port, r) × (key_of_entry i (port, r) ≡ Some key)
    from_chosen nows port r s =
        let m = Has-from_map of s.now nows s.among in
        let c = only.chosen m.0 port r (subst (λ now. Has r (set_at now port)) (sym m.2) s.there) in
        (c.0, record { now = m.0; among = m.1; there = c.1 }, c.2)

    pub in_chosen : (nows : List Sets) (port : ℕ) (r : Row) → port < length i.ports → Stands nows (port, r) → key_of_entry i (port, r) ≡ Some key → Stands (map of nows) (port, r)
    in_chosen nows port r within s is = record { now = of s.now; among = Has-map of s.now nows s.among; there = only.kept s.now port r within s.there is }

    -- where no record of the partition stands in timesteps, nothing arrives
    pub none_chosen : (nows : List Sets) → ((port : ℕ) (r : Row) → key_of_entry i (port, r) ≡ Some key → ¬ Stands nows (port, r)) → (now : Sets) → Has now (map of nows) → (port : ℕ) → set_at now port ≡ []
    none_chosen nows none now among port = none_there (set_at now port) (λ r h. let c = from_chosen nows port r (record { now = now; among = among; there = h }) in none port r c.2 c.1)

module _ (w : Wiring) (given : Data) (x : Execution) (i : Instance) (mode_key : Attrs) (is_seal : i.mode ≡ Seal mode_key)
    (honest : (port : ℕ) → is_carrying i port ≡ true → IsFedHonestly w given x i port)
    (program : Program) (ports : length i.ports ≡ length (port_columns program)) (batches : List Batch) (come : AllCome w given x i (all_pairs batches))
    (of : Sets → Sets) (key : Row) (only : IsRestriction i of key) where
  -- what stands in a timestep a feed has emitted
  pub stands_fed : (port : ℕ) (r : Row) → Stands (timesteps i batches) (port, r) → IsFed w given x i port r
  stands_fed port r s = heard_fed w given x i (all_pairs batches) come (port, r) (seal_timesteps-go i mode_key is_seal batches (port, r) s).there

  -- a partition of which a record stands in a timestep is whole
  pub stands_whole : (port : ℕ) (r : Row) → key_of_entry i (port, r) ≡ Some key → Stands (timesteps i batches) (port, r) → is_whole i (all_pairs batches) key ≡ true
  stands_whole port r is s = sym (ap (λ k. option_map_or (is_whole i (all_pairs batches)) k true) is) ∙ (seal_timesteps-go i mode_key is_seal batches (port, r) s).due

  -- of a partition that isn't whole nothing stands in any timestep
  pub nothing_of : is_whole i (all_pairs batches) key ≡ false → (now : Sets) → Has now (map of (timesteps i batches)) → (port : ℕ) → set_at now port ≡ []
  nothing_of waits = none_chosen program i ports of key only (timesteps i batches) (λ port r is s. let no : true ≡ false = sym (stands_whole port r is s) ∙ waits in cc)

  -- all records of a whole partition at a carrying port stand in timesteps
  pub all_stand : is_whole i (all_pairs batches) key ≡ true → (port : ℕ) (r : Row) → port < length i.ports → is_carrying i port ≡ true → key_of_entry i (port, r) ≡ Some key → IsFed w given x i port r → Stands (timesteps i batches) (port, r)
  all_stand whole port r within carries is fed =
      seal_timesteps-stand i mode_key is_seal batches (port, r) within (record {
        there = whole_heard w given x i (all_pairs batches) come key whole port r carries (honest port carries) fed is;
        due = ap (λ k. option_map_or (is_whole i (all_pairs batches)) k true) is ∙ whole;
      })

  -- of a whole one carrying ports have all records that feeds have emitted
  pub carried : is_whole i (all_pairs batches) key ≡ true → (port : ℕ) (r : Row) → port < length i.ports → is_carrying i port ≡ true
      → Has r (set_at (at_once program (map of (timesteps i batches))) port) ↔ (IsFed w given x i port r × (key_of_entry i (port, r) ≡ Some key))
  carried whole port r within carries = (
    λ h.
        let c = from_chosen program i ports of key only (timesteps i batches) port r (at_once_from program i ports (map of (timesteps i batches)) port r within h) in
        (stands_fed port r c.1, c.2),
    λ both. at_once_in program i ports (map of (timesteps i batches)) port r within (in_chosen program i ports of key only (timesteps i batches) port r within (all_stand whole port r within carries both.1 both.0) both.1),
  )

  -- and where each used port is carrying, or isn't W, or has nothing of its feeds, the rows are those of one timestep with all of its records
  pub one_timestep : (given_to : ℕ → Option Note) (over : List Sets → List Row) → SeesItsPorts program given_to over
      → ((port : ℕ) → port < length (port_columns program) → is_w (given_to port) ≡ true → (is_carrying i port ≡ true) ⊎ ((r : Row) → ¬ IsFed w given x i port r))
      → is_whole i (all_pairs batches) key ≡ true → over (map of (timesteps i batches)) ≡ over (at_once program (map of (timesteps i batches)) ∷ [])
  one_timestep given_to over sees fits whole =
      let b = became_whole i key batches whole in
      let opens = partition_opens i mode_key is_seal b.before b.batch b.after key b.becomes in
      let earlier : List Sets = timesteps i b.before in
      let opening : Sets = opening_at i mode_key is_seal (all_pairs b.before) b.batch in
      let later : List Sets = later_at i mode_key is_seal (all_pairs b.before) b.batch b.after in
      let parts : timesteps i batches ≡ earlier ++ opening ∷ later = ap (timesteps i) b.are ∙ split_timesteps i mode_key is_seal b.before b.batch b.after key b.becomes in
      let chosen : map of (timesteps i batches) ≡ map of earlier ++ of opening ∷ map of later = ap (map of) parts ∙ map-append of earlier (opening ∷ later) in
      let later_stands : (port : ℕ) (r : Row) → Stands later (port, r) → Stands (timesteps i batches) (port, r) = λ port r s.
      record { now = s.now; among = subst (λ l. Has s.now l) (sym parts) (Has-append_right s.now earlier (opening ∷ later) (inr s.among)); there = s.there } in
      let first_come : AllCome w given x i (all_pairs b.before ++ b.batch) = λ pair h.
      come pair (subst (λ l. Has pair l) (sym (ap all_pairs b.are ∙ pairs_split b.before b.batch b.after)) (Has-append_left pair (all_pairs b.before ++ b.batch) (all_pairs b.after) h)) in
      let before_silent : (now : Sets) → Has now (map of earlier) → (port : ℕ) → port < length (port_columns program) → is_some (given_to port) ≡ true → set_at now port ≡ [] = λ now h port lt t.
      none_chosen program i ports of key only earlier (λ p r is s. opens.none_before (p, r) is s) now h port in
      let after_silent : (now : Sets) → Has now (map of later) → (port : ℕ) → port < length (port_columns program) → is_w (given_to port) ≡ true → set_at now port ≡ [] = λ now h port lt t.
      none_there (set_at now port) (λ r m.
      let c = from_chosen program i ports of key only later port r (record { now = now; among = h; there = m }) in
      let fed = stands_fed port r (later_stands port r c.1) in
      elim (fits port lt t) [
        | inl carries ↦ opens.later_new (port, r) c.2 carries c.1 (whole_heard w given x i (all_pairs b.before ++ b.batch) first_come key b.becomes.after port r carries (honest port carries) fed c.2)
        | inr none ↦ none r fed
      ]) in
      ap over chosen
      ∙ sees.partition (map of earlier) (map of later) (of opening) before_silent after_silent
      ∙ ap (λ nows. over (at_once program nows ∷ [])) (sym chosen)
    where
      pairs_split : (before : List Batch) (batch : Batch) (after : List Batch) → all_pairs (before ++ batch ∷ after) ≡ (all_pairs before ++ batch) ++ all_pairs after
      pairs_split before batch after = flat_map-append (λ b. b) before (batch ∷ after) ∙ sym (append_assoc (all_pairs before) batch (all_pairs after))
