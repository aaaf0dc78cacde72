-- A row of a partition that one life of an instance puts out, each life puts out in which the partition is whole.
use Rattle.std.proofs.Common.{◌≡◌, refl, ap, sym, subst, ◌∙◌, ℕ, ◌<◌, ◌^◌, ◌⊎◌, true, false, List, [], ◌∷◌, ◌++◌, length, map, inl, inr, Option, None, Some}
use Rattle.std.specs.Prelude.{is_some, IfSome}
use Rattle.std.specs.List.{list_all, zip}
use Rattle.std.specs.Option.{option_map_or}
use Rattle.blz_value.specs.declared.attrs.Attrs.{Attrs}
use Rattle.blz_value.specs.Bits.{bit_of}
use Rattle.blz_value.proofs.Members.{meets_more}
use Rattle.blz_value.specs.Members.{Has}
use Rattle.blz_value.specs.Record.{Row}
use Rattle.blz_value.specs.Operators.{cells}
use Rattle.blz_value.proofs.Membership.{Has-append_left, Has-append_right, Has-append_cases, Has-from_map, Has-filter, all_member}
use Rattle.bloom_forms.specs.declared.program.Program.{Program}
use Rattle.bloom_forms.specs.Program.{port_columns}
use Rattle.bloom_forms.specs.ProgramStep.{empty_tables}
use Rattle.bloom_forms.specs.Query.{Name}
use Rattle.bloom_forms.specs.Step.{Sets, set_at}
use Rattle.bloom_forms.specs.declared.note.Note.{Note}
use Rattle.bloom_forms.specs.Annotation.{note_of, gate_of_output}
use Rattle.bloom_forms.specs.Note.{covers_write, covers_gate, is_write, own_gate}
use Rattle.bloom_forms.specs.Classes.{AreKeyed, IsInClosure, of_class}
use Rattle.bloom_forms.specs.Confluence.{AreAmong}
use Rattle.bloom_forms.specs.Ports.{AreSameAt}
use Rattle.bloom_forms.specs.Runs.{output_rows, output_over, at_once}
use Rattle.bloom_forms.proofs.Confluent.ConfluentLaw.{all_confluent}
use Rattle.bloom_forms.proofs.Split.ClassesLemmas.{from_class, arrivals_of_class}
use Rattle.bloom_forms.proofs.Ports.PortsLaw.{outputs_see}
use Rattle.bloom_forms.proofs.Reach.ProperLemmas.{distinct_columns}
use Rattle.bloom_forms.proofs.Split.SplitLaw.{all_split}
use Rattle.bloom_forms.specs.declared.mode.Mode.TheVariants.{Pass, Seal}
use Rattle.topo_forms.specs.Carried.{carries_key, port_carries, streams_towards, is_confluent, allows_notes, may_carry}
use Rattle.topo_forms.specs.Data.{Data, Holds, key_places, key_value}
use Rattle.topo_forms.specs.Dependencies.{usable_fds}
use Rattle.topo_forms.specs.Valid.{IsValid, Runs, IsCovered}
use Rattle.topo_forms.specs.ViewOf.{derived_note}
use Rattle.topo_forms.specs.View.{View, component_at, output_at, own_attrs, own_root, note_at, program_of, mode_of, mode_key, replicas_of, ports_towards, port_numbers}
use Rattle.topo_forms.proofs.Regions.Spreading.{in_below}
use Rattle.messages.specs.Messages.{Batch, Entry, all_pairs}
use Rattle.inbox.specs.Instances.{Instance, is_carrying, key_of_entry, entries_of}
use Rattle.inbox.specs.Timesteps.{is_whole, timesteps, Stands}
use Rattle.inbox.specs.Wiring.{Wiring, wiring_of, instance_for}
use Rattle.inbox.specs.Executions.{Execution}
use Rattle.inbox.proofs.TimestepLemmas.AtOnce.{GoesAtOnce, at_once_timesteps-stand}
use Rattle.inbox.proofs.WiringLemmas.{instance-ports}
use Rattle.inbox.specs.Sent.{IsHistory}
use Rattle.inbox.specs.Agreement.{port_roots}
use Rattle.inbox.proofs.Dependencies.JointLaw.{same_keys}
use Rattle.inbox.proofs.Records.PutOut.{put_out_over, arrived_up, arrivals_up}
use Rattle.inbox.proofs.Streams.CarriedKeys.{MayCarry, may_carry-is, towards_carries}
use Rattle.inbox.proofs.Streams.InstancePorts.{carrying_is, ports_same, key_given}
use Rattle.inbox.proofs.Columns.Attributes.{within-small}
use Rattle.inbox.proofs.Dependencies.KeyedOutputs.{output_keyed_law, used_is}
use Rattle.inbox.proofs.Records.CopiedLaw.{copied_law}
use Rattle.confluence.proofs.Honest.LivesHeard.{by_mode, all_come, heard_standing, all_sent, all_arrive}
use Rattle.confluence.specs.Partitions.{IsLived, IsFed}
use Rattle.confluence.proofs.Honest.FromFeeds.{AllCome, IsFedHonestly, heard_fed, whole_heard}
use Rattle.confluence.proofs.Honest.Partitions.{IsRestriction, at_once_port, at_once_from, at_once_in, from_chosen, stands_whole, carried, one_timestep}
use Rattle.confluence.proofs.Honest.PartitionRecords.{restricts}
use Rattle.confluence.proofs.Honest.Runs.{to_over, from_over}
use Rattle.inbox.specs.Folds.{rows_from}
use Rattle.bloom_forms.specs.Steps.{AreArrivals}
use Rattle.bloom_forms.specs.Given.{AreAllC, is_w}
use Rattle.blz_value.specs.Bits.{members}
use Rattle.blz_value.proofs.Booleans.{both_true}
use Rattle.bloom_forms.proofs.Ports.Rules.{w_some}

-- The plan: take two lives of one instance. By the split law a row is one over the records of its own key,
-- since its columns are copies. In mode Pass all notes are C: what the second life has of the partition
-- the first has too, since it is whole there, so no row is lost. In mode Seal the partition is whole in
-- both, so both have all of it in one timestep, and what they have is the same.

-- ---- notes that are used

covers_c : (used derived : Option Attrs) → covers_gate used derived ≡ true → used ≡ None → derived ≡ None
covers_c used None e none = refl
covers_c None (Some g) e none = cc
covers_c (Some u) (Some g) e none = cc

confluent_gate : (note : Note) → is_confluent note ≡ true → own_gate note ≡ None
confluent_gate note e = go (own_gate note) e
  where
    go : (g : Option Attrs) → option_map_or (λ gate. false) g true ≡ true → g ≡ None
    go None t = refl
    go (Some g) t = cc

covered_c : (used derived : Option Note) → IsCovered used derived → option_map_or is_confluent used true ≡ true → IfSome derived (λ note. own_gate note ≡ None)
covered_c used None c e = tt
covered_c None (Some derived) c e = absurd c
covered_c (Some used) (Some derived) c e =
    let both = both_true (covers_write (is_write used) (is_write derived)) (covers_gate (own_gate used) (own_gate derived)) c in
    covers_c (own_gate used) (own_gate derived) both.1 (confluent_gate used e)

module _ (v : View) (d : Data) (x : Execution) (history : IsHistory v d x) (holds : Holds v d)
    (c o j : ℕ) (there : c < length v.components) (replica : j < replicas_of v c) (out : o < length (component_at v c).outputs)
    (program : Program) (body : program_of v c ≡ Some program) (key : Attrs) (mode : mode_key (mode_of v c) ≡ Some key)
    (allowed : may_carry v key.bits (Some (c, o)) ≡ true) (behind : list_all (carries_key v key.bits) (streams_towards v c o) ≡ true)
    (honest : (port : ℕ) → is_carrying (instance_for v c j) port ≡ true → IsFedHonestly (wiring_of v) d x (instance_for v c j) port) where
  valid : IsValid v
  valid = history.valid

  runs : Runs v c program
  runs = (valid.components c there).runs program body

  may : MayCarry v key.bits c o
  may = may_carry-is v key.bits c o allowed

  abbrev i : Instance
  i = instance_for v c j

  abbrev w : Wiring
  w = wiring_of v

  abbrev names : List Name
  names = v.attributes

  abbrev attributes : List ℕ
  attributes = members key.bits

  abbrev given : ℕ → Option Note
  given port = note_of names program port o

  abbrev over : List Sets → List Row
  over = output_over program o

  abbrev of : Row → Sets → Sets
  of k = of_class names program attributes (λ values. values) k

  small : key.bits < 2 ^ 64
  small = within-small key.bits (map own_root (zip (output_at v c o).columns (output_at v c o).roots)) may.own

  only : (k : Row) → IsRestriction i (of k) k
  only = restricts v c j key mode valid there program body small

  many : length i.ports ≡ length (port_columns program)
  many = ports_same v c j key mode program runs

  port_in : (port : ℕ) → port < length (port_columns program) → port < length i.ports
  port_in port lt = subst (λ n. port < n) (sym many) lt

  port_there : (port : ℕ) → port < length i.ports → port < length (component_at v c).ports
  port_there port lt = subst (λ n. port < n) (instance-ports v c j) lt

  -- ---- ports with a note

  used_towards : (port : ℕ) → port < length (component_at v c).ports → is_some (given port) ≡ true → Has port (ports_towards v c o)
  used_towards port lt t = Has-filter (λ p. is_some (note_at v c p o)) port (port_numbers v c) (in_below (length (component_at v c).ports) port lt) (used_is (note_at v c port o) (derived_note names (Some program) port o) (runs.notes port o lt out) t)

  used_carries : (port : ℕ) → port < length (component_at v c).ports → is_some (given port) ≡ true → port_carries v key.bits c port ≡ true
  used_carries port lt t = towards_carries v valid key.bits c o port may behind (used_towards port lt t)

  used_carrying : (port : ℕ) → port < length i.ports → is_some (given port) ≡ true → is_carrying i port ≡ true
  used_carrying port lt t = carrying_is v c j key mode port (port_there port lt) ∙ used_carries port (port_there port lt) t

  -- in mode Pass all notes are C
  all_c : mode_of v c ≡ Pass key → AreAllC program given
  all_c is_pass port lt =
      let at = port_there port (port_in port lt) in
      let all : list_all (λ p. option_map_or is_confluent (note_at v c p o) true) (ports_towards v c o) ≡ true = ap (λ m. allows_notes v m c o) (sym is_pass) ∙ may.notes in
      covered_c (note_at v c port o) (given port) (runs.notes port o at out) (note_c at all (note_at v c port o) refl)
    where
      note_c : port < length (component_at v c).ports → list_all (λ p. option_map_or is_confluent (note_at v c p o) true) (ports_towards v c o) ≡ true → (note : Option Note) → note_at v c port o ≡ note → option_map_or is_confluent note true ≡ true
      note_c at all None e = refl
      note_c at all (Some note) e =
          ap (λ n. option_map_or is_confluent n true) (sym e)
          ∙ all_member (λ p. option_map_or is_confluent (note_at v c p o) true) (ports_towards v c o) port all
          (Has-filter (λ p. is_some (note_at v c p o)) port (port_numbers v c) (in_below (length (component_at v c).ports) port at) (ap is_some e))

  -- ---- what stands in timesteps

  module _ (batches : List Batch) (lived : IsLived x c j batches) where
    come : AllCome w d x i (all_pairs batches)
    come = all_come v d x history c j there replica batches lived

    stands_heard : (entry : Entry) → Stands (timesteps i batches) entry → Has entry (entries_of i (all_pairs batches))
    stands_heard = heard_standing v d x history c j there replica batches lived key mode

    arrive : AreArrivals program (timesteps i batches)
    arrive = all_arrive v d x history c j there replica batches lived key mode program body

    -- what arrives is keyed, and the key lies in the closure of the output's gate
    keyed_closed : AreKeyed names program (timesteps i batches) (λ port. is_some (given port)) (usable_fds v c) attributes × IsInClosure attributes (gate_of_output names program o) (usable_fds v c)
    keyed_closed = output_keyed_law v d x c o key.bits program (timesteps i batches) history holds there out body allowed behind (all_sent v d x history c j there replica batches lived key mode)

    -- a row over the records of a class has that key, and some record of the class stands in a timestep
    pub record HasKey (k r : Row) : Type 0 where
      pub is : cells (key_places (output_at v c o).columns key.bits) r ≡ k
      pub port : ℕ
      pub copied : Row
      pub of_key : key_of_entry i (port, copied) ≡ Some k
      pub stands : Stands (timesteps i batches) (port, copied)

    class_key : (k r : Row) → Has r (over (map (of k) (timesteps i batches))) → HasKey k r
    class_key k r h =
        let nows : List Sets = map (of k) (timesteps i batches) in
        let p = put_out_over program (output_rows program o) nows r h in
        let all : AreArrivals program nows = arrivals_of_class names program attributes (λ values. values) k (timesteps i batches) arrive in
        let copy = copied_law v c o program p.earlier p.now r valid there body out (arrivals_up program (output_rows program o) nows p.earlier p.later p.now p.are all) p.there in
        let among : Has copy.now nows = arrived_up program (output_rows program o) nows p.earlier p.later p.now p.are copy.now copy.came in
        let f = from_chosen program i many (of k) k (only k) (timesteps i batches) copy.port copy.copied (record { now = copy.now; among = among; there = copy.arrived }) in
        let m = Has-from_map (of k) copy.now (timesteps i batches) among in
        let a = from_class names program attributes (λ values. values) k m.0 copy.port copy.copied (subst (λ now. Has copy.copied (set_at now copy.port)) {y = of k m.0} (sym {a = of k m.0} m.2) copy.arrived) in
        let same = same_keys key.bits (output_at v c o).columns r (port_roots v c copy.port) copy.copied (λ n h. copy.same n (meets_more (bit_of n) key.bits (own_attrs (output_at v c o)) h may.own)) in
        record {
          is = ◌∙◌ {b = key_value (port_roots v c copy.port) key.bits copy.copied} same (key_given v c j key mode copy.port copy.copied k (port_there copy.port (port_in copy.port a.within)) f.2);
          port = copy.port;
          copied = copy.copied;
          of_key = f.2;
          stands = f.1;
        }

    -- by the split law
    split_to : (r : Row) → Has r (over (timesteps i batches)) → (k : Row) × Has r (over (map (of k) (timesteps i batches)))
    split_to r h = ((all_split names program runs.proper (distinct_columns program runs.distinct) o).runs (timesteps i batches) (usable_fds v c) attributes (λ values. values) arrive keyed_closed.0 keyed_closed.1 r).0 h

    split_from : (k r : Row) → Has r (over (map (of k) (timesteps i batches))) → Has r (over (timesteps i batches))
    split_from k r h = ((all_split names program runs.proper (distinct_columns program runs.distinct) o).runs (timesteps i batches) (usable_fds v c) attributes (λ values. values) arrive keyed_closed.0 keyed_closed.1 r).1 (k, h)

    own_key : (k r : Row) → cells (key_places (output_at v c o).columns key.bits) r ≡ k → Has r (over (timesteps i batches)) → Has r (over (map (of k) (timesteps i batches)))
    own_key k r is h = let s = split_to r h in subst (λ z. Has r (over (map (of z) (timesteps i batches)))) (sym (class_key s.0 r s.1).is ∙ is) s.1

  -- ---- two lives: in the first the partition is whole, in the second a row of it is put out

  module _ (batches others : List Batch) (lived : IsLived x c j batches) (other_lived : IsLived x c j others) (k : Row) (whole : is_whole i (all_pairs batches) k ≡ true) where
    -- what the second life heard of the partition at a used port the first life heard
    heard_too : (port : ℕ) (r : Row) → port < length i.ports → is_some (given port) ≡ true → key_of_entry i (port, r) ≡ Some k → Has (port, r) (entries_of i (all_pairs others)) → Has (port, r) (entries_of i (all_pairs batches))
    heard_too port r lt t is h =
        let carries = used_carrying port lt t in
        whole_heard w d x i (all_pairs batches) (come batches lived) k whole port r carries (honest port carries) (heard_fed w d x i (all_pairs others) (come others other_lived) (port, r) h) is

    abbrev nows : List Sets
    nows = timesteps i batches

    abbrev chosen : List Sets
    chosen = map (of k) (timesteps i batches)

    abbrev other_chosen : List Sets
    other_chosen = map (of k) (timesteps i others)

    -- mode Pass: all that the second life has of the partition the first one has too
    pass_rows : mode_of v c ≡ Pass key → (r : Row) → Has r (over other_chosen) → Has r (over nows)
    pass_rows is_pass r h =
        let both : List Sets = other_chosen ++ nows in
        let confluent = all_confluent names program runs.proper o (all_c is_pass) in
        let left : (now : Sets) → Has now other_chosen → Has now both = λ now m. Has-append_left now other_chosen nows m in
        let among : AreAmong (at_once program other_chosen) (at_once program both) = λ port q m.
        let lt = at_once_port program i many other_chosen port q m in
        let s = at_once_from program i many other_chosen port q lt m in
        at_once_in program i many both port q lt (record { now = s.now; among = left s.now s.among; there = s.there }) in
        let same : AreSameAt program (λ port. is_some (given port)) (at_once program both) (at_once program nows) = λ port lt t. (
          λ q m.
              let at = port_in port lt in
              let s = at_once_from program i many both port q at m in
              at_once_in program i many nows port q at (elim (Has-append_cases s.now other_chosen nows s.among) [
                | inl other ↦
                    let f = from_chosen program i many (of k) k (only k) (timesteps i others) port q (record { now = s.now; among = other; there = s.there }) in
                    at_once_timesteps-stand i (subst (λ m. GoesAtOnce m) (sym is_pass) tt) batches (port, q) at (heard_too port q at t f.2 (stands_heard others other_lived (port, q) f.1))
                | inr here ↦ record { now = s.now; among = here; there = s.there }
              ]),
          λ q m.
              let at = port_in port lt in
              let s = at_once_from program i many nows port q at m in
              at_once_in program i many both port q at (record { now = s.now; among = Has-append_right s.now other_chosen nows s.among; there = s.there }),
        ) in
        let sees = outputs_see names program runs.proper o in
        let first : Has r (over (at_once program other_chosen ∷ [])) = subst (λ l. Has r l) (confluent.same other_chosen) h in
        let second : Has r (over (at_once program both ∷ [])) = confluent.grows (at_once program other_chosen) (at_once program both) among r first in
        let third : Has r (over (at_once program nows ∷ [])) = subst (λ l. Has r l) (sees.only (at_once program both ∷ []) (at_once program nows ∷ []) (same, tt)) second in
        subst (λ l. Has r l) (sym (confluent.same nows)) third

    -- mode Seal: both have the same of it
    seal_rows : mode_of v c ≡ Seal key → (r : Row) → Has r (over other_chosen) → Has r (over chosen)
    seal_rows is_seal r h =
        let sees = outputs_see names program runs.proper o in
        let at_w : (port : ℕ) → port < length (port_columns program) → is_w (given port) ≡ true → (is_carrying i port ≡ true) ⊎ ((q : Row) → ¬ IsFed w d x i port q) = λ port lt t. inl (used_carrying port (port_in port lt) (w_some (given port) t)) in
        let key_there = class_key others other_lived k r h in
        let other_whole : is_whole i (all_pairs others) k ≡ true = stands_whole w d x i key is_seal honest program many others (come others other_lived) (of k) k (only k) key_there.port key_there.copied key_there.of_key key_there.stands in
        let here = one_timestep w d x i key is_seal honest program many batches (come batches lived) (of k) k (only k) given over sees at_w whole in
        let other = one_timestep w d x i key is_seal honest program many others (come others other_lived) (of k) k (only k) given over sees at_w other_whole in
        let same : AreSameAt program (λ port. is_some (given port)) (at_once program other_chosen) (at_once program chosen) = λ port lt t.
        let at = port_in port lt in
        let carries = used_carrying port at t in (
          λ q m. (carried w d x i key is_seal honest program many batches (come batches lived) (of k) k (only k) whole port q at carries).1 ((carried w d x i key is_seal honest program many others (come others other_lived) (of k) k (only k) other_whole port q at carries).0 m),
          λ q m. (carried w d x i key is_seal honest program many others (come others other_lived) (of k) k (only k) other_whole port q at carries).1 ((carried w d x i key is_seal honest program many batches (come batches lived) (of k) k (only k) whole port q at carries).0 m),
        ) in
        subst (λ l. Has r l) (other ∙ sees.only (at_once program other_chosen ∷ []) (at_once program chosen ∷ []) (same, tt) ∙ sym here) h

    -- a row of the partition that one life puts out each life puts out in which the partition is whole
    pub same_rows : (r : Row) → cells (key_places (output_at v c o).columns key.bits) r ≡ k → Has r (rows_from program (empty_tables program) (timesteps i others) o) → Has r (rows_from program (empty_tables program) (timesteps i batches) o)
    same_rows r is h =
        let there_too = own_key others other_lived k r is (to_over program o (timesteps i others) r h) in
        from_over program o (timesteps i batches) r (elim (by_mode (mode_of v c) key mode) [
          | inl is_pass ↦ pass_rows is_pass r there_too
          | inr is_seal ↦ split_from batches lived k r (seal_rows is_seal r there_too)
        ])
