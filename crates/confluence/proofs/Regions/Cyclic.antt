-- In a cyclic region without O notes members emit in one execution what they emit in another that hears the same from outside; and where nothing comes from outside they emit nothing.
use Rattle.std.proofs.Common.{◌≡◌, ◌<◌, ℕ, true, false, Option, None, Some, List, [], ◌∷◌, length, map, filter, get_or, refl, ap, ◌∙◌, sym, subst, inl, inr, arith}
use Rattle.std.specs.List.{filter_map}
use Rattle.std.specs.Option.{option_map_or}
use Rattle.std.proofs.lemmas.Bool.{cases_Bool, cases_lt, true≢false}
use Rattle.std.proofs.lemmas.List.{get_or_past}
use Rattle.std.proofs.lemmas.Option.{slice_get_past}
use Rattle.blz_value.specs.Members.{Has, IsWithin}
use Rattle.blz_value.specs.Record.{Row}
use Rattle.blz_value.proofs.Membership.{Has-get_or, Has-filter, Has-map, Has-flat_map, Has-from_flat_map}
use Rattle.blz_value.proofs.SetLaws.{Has-set_of, Has-from_set_of}
use Rattle.bloom_forms.specs.declared.program.Program.{Program}
use Rattle.bloom_forms.specs.ProgramStep.{answer_of}
use Rattle.bloom_forms.specs.Step.{Sets, set_at}
use Rattle.bloom_forms.specs.declared.note.Note.{Note}
use Rattle.bloom_forms.specs.Runs.{output_over}
use Rattle.bloom_forms.proofs.Confluent.ConfluentLaw.{one_step_answers}
use Rattle.bloom_forms.proofs.Reach.ProperLemmas.{distinct_columns}
use Rattle.topo_forms.specs.Carried.{is_confluent}
use Rattle.topo_forms.specs.Data.{Data}
use Rattle.topo_forms.specs.Feeds.{no_feed}
use Rattle.blz_value.specs.Graph.{is_in}
use Rattle.topo_forms.specs.Messages.{row, rows_in}
use Rattle.topo_forms.specs.Regions.{region_set, is_in_cycle}
use Rattle.blz_value.specs.NumberSets.{below}
use Rattle.topo_forms.specs.Valid.{IsValid}
use Rattle.topo_forms.specs.View.{View, End, origin_of, ends_of, program_of, is_order, replicas_of, component_at, note_at, senders_of, stream_replicas, goes_to, stream_numbers}
use Rattle.topo_forms.proofs.Regions.Spreading.{in_below}
use Rattle.label_walk.specs.Paths.{notes_in, is_from_outside, ends_in, region_inputs}
use Rattle.messages.specs.Messages.{all_pairs}
use Rattle.inbox.specs.Instances.{Instance, port_of_feed}
use Rattle.inbox.specs.Timesteps.{timesteps}
use Rattle.inbox.specs.Lives.{Life, all_lives}
use Rattle.inbox.specs.Growth.{feed_numbered}
use Rattle.inbox.specs.Wiring.{Wiring, wiring_of, instance_at}
use Rattle.inbox.specs.Executions.{Execution, emitted_list, contents}
use Rattle.inbox.specs.Completeness.{IsComplete}
use Rattle.inbox.proofs.TimestepLemmas.Whole.{Has-filter_map}
use Rattle.inbox.proofs.WiringLemmas.{port_of-feed, instance-wired, instance-feeds}
use Rattle.inbox.proofs.TimestepLemmas.Widths.{timesteps-many}
use Rattle.inbox.proofs.TimestepLemmas.Entries.{heard_entry, Has-rows_in, Has-from_rows_in}
use Rattle.inbox.proofs.TimestepLemmas.OfLives.{batches_heard}
use Rattle.inbox.specs.Sent.{IsHistory}
use Rattle.inbox.proofs.Streams.IntoPorts.{goes_is}
use Rattle.confluence.specs.Complete.{contents_into}
use Rattle.topo_forms.specs.Laws.{OrderIsAcyclic}
use Rattle.confluence.proofs.Determined.Parts.{by_parts}
use Rattle.confluence.proofs.Determined.Rows.{AreInside, confluent_part}
use Rattle.confluence.proofs.Contents.Instances.{inside, not_order, from_contents}
use Rattle.confluence.proofs.Contents.Arriving.{runs, output_column, life_inside, arrives_sent}
use Rattle.confluence.proofs.Determined.DeterminedOutputs.{contents_by_parts, c_part, nothing_part, no_rows}
use Rattle.confluence.proofs.Regions.Members.{same_cycle}
use Rattle.confluence.proofs.Contents.IntoPorts.{in_port}
use Rattle.confluence.proofs.Contents.NoBody.{no_body_no_rows}
use Rattle.confluence.proofs.Regions.ByEmission.{Hears, HeardFine, OutsideFine, EmittedFine, outside_cases, all_fine}
use Rattle.blz_value.specs.Bits.{members}

-- a note stands among those of its component
pub noted_in : (v : View) (m p o : ℕ) (note : Note) → note_at v m p o ≡ Some note → Has note (notes_in v m)
noted_in v m p o note is = elim (cases_lt p (length notes)) [
  | inl lt ↦ elim (cases_lt o (length (get_or notes p []))) [
    | inl there ↦
        let one : Has (Some note) (get_or notes p []) = subst (λ (n : Option Note). Has n (get_or notes p [])) is (Has-get_or (get_or notes p []) o None there) in
        Has-flat_map (filter_map (λ n. n)) (get_or notes p []) note notes (Has-get_or notes p [] lt) (Has-filter_map (λ n. n) (Some note) note (get_or notes p []) one refl)
    | inr past ↦ absurd (let none : get_or (get_or notes p []) o None ≡ None = get_or_past (get_or notes p []) o None past in let both : Some note ≡ None = sym is ∙ none in cc)
  ]
  | inr past ↦ absurd (
      let empty : get_or notes p [] ≡ [] = get_or_past notes p [] past in
      let none : get_or (get_or notes p []) o None ≡ None = ap (λ (l : List (Option Note)). get_or l o None) empty in
      let both : Some note ≡ None = sym is ∙ none in
      cc)
]
  where
    notes : List (List (Option Note))
    notes = (component_at v m).notes

-- a stream from outside into a member is an input of the region
pub in_inputs : (v : View) (set s m p : ℕ) → s < length v.streams → is_from_outside v set s ≡ true → is_in m set ≡ true → goes_to v m p s ≡ true → Has (s, (m, p)) (region_inputs v set)
in_inputs v set s m p lt outside member goes =
    let end : End = (m, p) in
    let pair_with : End → ℕ × End = λ e. (s, e) in
    let input : ℕ × End = (s, end) in
    let here : Has end (ends_in v set s) = Has-filter (λ (e : End). is_in e.0 set) end (ends_of v s) (goes_is v m p s goes) member in
    let streams : List ℕ = filter (is_from_outside v set) (stream_numbers v) in
    Has-flat_map (λ u. map (λ e. (u, e)) (ends_in v set u)) s input streams (Has-filter (is_from_outside v set) s (stream_numbers v) (in_below (length v.streams) s lt) outside) (Has-map pair_with end (ends_in v set s) here)

-- a feed from which an entry at a port of its instance was heard is one of the instance's
feed_there : (i : Instance) (n port : ℕ) → port_of_feed i n ≡ port → port < length i.ports → n < length i.feeds
feed_there i n port is lt = elim (cases_lt n (length i.feeds)) [
  | inl there ↦ there
  | inr past ↦ absurd (
      let none : port_of_feed i n ≡ length i.ports = ap (λ o. option_map_or (λ f. f.port) o (length i.ports)) (slice_get_past i.feeds n past) in
      omega (arith, none, is, lt))
]

module _ (v : View) (d : Data) (valid : IsValid v) (order_acyclic : OrderIsAcyclic) (c : ℕ) (lt_c : c < length v.components) (cyclic : is_in_cycle v c ≡ true) where
  abbrev w : Wiring
  w = wiring_of v

  abbrev set : ℕ
  set = region_set v c

  pub member_unordered : (m : ℕ) → m < length v.components → is_in m set ≡ true → is_order v m ≡ false
  member_unordered m lt member = elim (cases_Bool (is_order v m)) [
    | inl t ↦ absurd (true≢false (sym cyclic ∙ same_cycle v valid c m lt_c lt member ∙ order_acyclic v m valid lt t))
    | inr f ↦ f
  ]

  -- what an instance of a member has in its timesteps it heard from its feeds
  record FromFeed (x : Execution) (m i port : ℕ) (r : Row) : Type 0 where
    number : ℕ
    heard : Hears (x.lives m i) (number, row r)
    feed_port : (feed_numbered (instance_at w m i) number).port ≡ port
    stream_there : (feed_numbered (instance_at w m i) number).stream < length v.streams
    goes : goes_to v m (feed_numbered (instance_at w m i) number).port (feed_numbered (instance_at w m i) number).stream ≡ true

  from_feed : (x : Execution) (s m o i : ℕ) (stands : s < length v.streams) (origin : origin_of v s ≡ Some (m, o)) (lt_i : i < replicas_of v m) (program : Program) (body : program_of v m ≡ Some program) (unordered : is_order v m ≡ false)
      → (life : Life) → Has life (all_lives (x.lives m i)) → (now : Sets) (port : ℕ) (r : Row) → Has now (timesteps (instance_at w m i) life.heard) → Has r (set_at now port) → FromFeed x m i port r
  from_feed x s m o i stands origin lt_i program body unordered life of_life now port r came h = elim (cases_lt port (length now)) [
    | inr past ↦ absurd (subst (λ (l : List Row). Has r l) (get_or_past now port [] past) h)
    | inl lt ↦
        let inst : Instance = instance_at w m i in
        let at = inside v d x valid s m o i stands origin lt_i in
        let below_it : port < length inst.ports = subst (λ (n : ℕ). port < n) (timesteps-many inst life.heard now came) lt in
        let e = heard_entry inst (all_pairs life.heard) (port, r) (batches_heard inst inst.mode life.heard (port, r) refl (not_order v d x valid s m o i stands origin lt_i program body unordered) (record { now = now; among = came; there = h })) in
        let b = Has-from_flat_map (λ batch. batch) (e.feed, row r) life.heard e.there in
        let number_lt = feed_there inst e.feed port e.port below_it in
        let into = instance-feeds v m i (feed_numbered inst e.feed) (subst (λ (z : Instance). Has (feed_numbered inst e.feed) z.feeds) (instance-wired v m i at.0 lt_i) (Has-get_or inst.feeds e.feed no_feed number_lt)) in
        record {
          number = e.feed;
          heard = record { life = life; of_life = of_life; batch = b.0; of_batch = b.1; there = b.2 };
          feed_port = sym (port_of-feed inst e.feed number_lt) ∙ e.port;
          stream_there = into.stream;
          goes = into.goes;
        }
  ]

  in_list : (x : Execution) (s i : ℕ) (r : Row) → Has (row r) (emitted_list w d x s i) → Has r (contents w d x s i)
  in_list x s i r sent = let list = emitted_list w d x s i in Has-set_of r (rows_in list) (Has-rows_in r list sent)

  from_list : (x : Execution) (s i : ℕ) (r : Row) → Has r (contents w d x s i) → Has (row r) (emitted_list w d x s i)
  from_list x s i r h = let list = emitted_list w d x s i in Has-from_rows_in r list (Has-from_set_of r (rows_in list) h)

  -- ---- all notes are C

  module _ (all_c : (m : ℕ) (note : Note) → Has m (members set) → Has note (notes_in v m) → is_confluent note ≡ true) where
    member_c : (m : ℕ) → m < length v.components → is_in m set ≡ true → (p o : ℕ) (note : Note) → note_at v m p o ≡ Some note → is_confluent note ≡ true
    member_c m lt member p o note is =
        let small : m < 64 = let few = valid.numbered.few_components in omega (arith, lt, few) in
        all_c m note (Has-filter (λ n. is_in n set) m (below 64) (in_below 64 m small) member) (noted_in v m p o note is)

    -- part 2
    pub confluent_contents : (x : Execution) → IsHistory v d x → IsComplete w d x → (s m o i : ℕ) → (stands : s < length v.streams) → (origin : origin_of v s ≡ Some (m, o)) → (lt_i : i < replicas_of v m) → is_in m set ≡ true
        → (program : Program) → program_of v m ≡ Some program → contents w d x s i ≡ set_at (answer_of program (contents_into w d x m i)) o
    confluent_contents x hx complete s m o i stands origin lt_i member program body =
        let lt = (inside v d x valid s m o i stands origin lt_i).0 in
        let unordered = member_unordered m lt member in
        contents_by_parts v d x hx s m o i stands origin lt_i program body unordered complete (λ rows given gate part life of_life.
        confluent_part v program o rows given gate part
        (c_part v d x hx s m o i stands origin lt_i program body unordered rows given gate part (λ port note below_it is. member_c m lt member port o note is))
        (timesteps (instance_at w m i) life.heard) (contents_into w d x m i) (life_inside v d x hx s m o i stands origin lt_i program body unordered life of_life))

    module _ (y : Execution) (hy : IsHistory v d y) (complete : IsComplete w d y) where
      -- a record is in the contents of all replicas in the other execution
      abbrev IsCommon : (stream : ℕ) → Row → Type 0
      IsCommon s r = (k : ℕ) → k < stream_replicas v s → Has r (contents w d y s k)

      emits_common : (x : Execution) → HeardFine v d valid set IsCommon x → EmittedFine v d valid set IsCommon x
      emits_common x heard s m o i r stands origin lt_i member sent k lt_k = by (program_of v m) refl
        where
          by : (program : Option Program) → program_of v m ≡ program → Has r (contents w d y s k)
          by None e = absurd (no_body_no_rows v d x valid s m o i stands origin lt_i e r sent)
          by (Some program) e =
              let lt = (inside v d x valid s m o i stands origin lt_i).0 in
              let unordered = member_unordered m lt member in
              let there : k < replicas_of v m = subst (λ (from : Option End). k < senders_of v from) origin lt_k in
              let all : Sets = contents_into w d y m k in
              let f = from_contents v d x valid s m o i stands origin lt_i program e unordered r (in_list x s i r sent) in
              let nows : List Sets = timesteps (instance_at w m i) f.0.heard in
              let into : AreInside nows all = λ now port q came q_in.
              let a = from_feed x s m o i stands origin lt_i program e unordered f.0 f.1 now port q came q_in in
              subst (λ (p : ℕ). Has q (set_at all p)) a.feed_port
              (in_port v d y valid m k (feed_numbered (instance_at w m i) a.number).port (feed_numbered (instance_at w m i) a.number).stream q unordered there a.stream_there a.goes (heard m i a.number q lt lt_i member a.heard)) in
              let run = runs v d y hy s m o k stands origin there program e unordered in
              let up = by_parts v program o run.proper (distinct_columns program run.distinct) (output_column v d y hy s m o k stands origin there program e unordered) nows (all ∷ [])
              (λ rows given gate part. (confluent_part v program o rows given gate part
              (c_part v d y hy s m o k stands origin there program e unordered rows given gate part (λ port note below_it is. member_c m lt member port o note is)) nows all into).within) r f.2 in
              subst (λ (l : List Row). Has r l) (one_step_answers program run.proper o all ∙ sym (confluent_contents y hy complete s m o k stands origin there member program e)) up

      -- parts 1 and 3, one way
      pub contents_common : (x : Execution) → IsHistory v d x → OutsideFine v d valid set IsCommon x
          → (s m o i k : ℕ) → s < length v.streams → origin_of v s ≡ Some (m, o) → i < replicas_of v m → k < replicas_of v m → is_in m set ≡ true → IsWithin (contents w d x s i) (contents w d y s k)
      contents_common x hx outside s m o i k stands origin lt_i lt_k member r h =
          emits_common x (all_fine v d valid set IsCommon emits_common hx.steps x hx.legal outside) s m o i r stands origin lt_i member (from_list x s i r h) k (subst (λ (from : Option End). k < senders_of v from) (sym origin) lt_k)

  -- ---- nothing comes from outside

  module _ (none : region_inputs v set ≡ []) where
    abbrev IsNever : (stream : ℕ) → Row → Type 0
    IsNever s r = ⊥

    never_outside : (x : Execution) → OutsideFine v d valid set IsNever x
    never_outside x s i m p r lt lt_i outside member goes sent =
        let input : ℕ × End = (s, (m, p)) in
        subst (λ (l : List (ℕ × End)). Has input l) none (in_inputs v set s m p lt outside member goes)

    module _ (x : Execution) (hx : IsHistory v d x) where
      -- an output over timesteps in which nothing arrives
      quiet_output : (s m o i : ℕ) → (stands : s < length v.streams) → (origin : origin_of v s ≡ Some (m, o)) → (lt_i : i < replicas_of v m) → is_in m set ≡ true → (program : Program) → program_of v m ≡ Some program
          → (nows : List Sets) → ((now : Sets) (port : ℕ) (r : Row) → Has now nows → ¬ Has r (set_at now port)) → (r : Row) → ¬ Has r (output_over program o nows)
      quiet_output s m o i stands origin lt_i member program body nows quiet r h =
          let lt = (inside v d x valid s m o i stands origin lt_i).0 in
          let unordered = member_unordered m lt member in
          let run = runs v d x hx s m o i stands origin lt_i program body unordered in
          by_parts v program o run.proper (distinct_columns program run.distinct) (output_column v d x hx s m o i stands origin lt_i program body unordered) nows []
          (λ rows given gate part. nothing_part v d x hx s m o i stands origin lt_i program body unordered rows given gate part nows quiet) r h

      emits_never : (z : Execution) → HeardFine v d valid set IsNever z → EmittedFine v d valid set IsNever z
      emits_never z heard s m o i r stands origin lt_i member sent = by (program_of v m) refl
        where
          by : (program : Option Program) → program_of v m ≡ program → ⊥
          by None e = no_body_no_rows v d z valid s m o i stands origin lt_i e r sent
          by (Some program) e =
              let lt = (inside v d z valid s m o i stands origin lt_i).0 in
              let unordered = member_unordered m lt member in
              let f = from_contents v d z valid s m o i stands origin lt_i program e unordered r (in_list z s i r sent) in
              quiet_output s m o i stands origin lt_i member program e (timesteps (instance_at w m i) f.0.heard) (λ now port q came q_in.
              let a = from_feed z s m o i stands origin lt_i program e unordered f.0 f.1 now port q came q_in in
              heard m i a.number q lt lt_i member a.heard) r f.2

      never_emitted : EmittedFine v d valid set IsNever x
      never_emitted = emits_never x (all_fine v d valid set IsNever emits_never hx.steps x hx.legal (never_outside x))

      -- parts 1 and 3
      pub empty_contents : (s m o i : ℕ) → s < length v.streams → origin_of v s ≡ Some (m, o) → i < replicas_of v m → is_in m set ≡ true → contents w d x s i ≡ []
      empty_contents s m o i stands origin lt_i member = no_rows (contents w d x s i) (λ r h. never_emitted s m o i r stands origin lt_i member (from_list x s i r h))

      -- part 2
      pub empty_answer : (s m o i : ℕ) → (stands : s < length v.streams) → (origin : origin_of v s ≡ Some (m, o)) → (lt_i : i < replicas_of v m) → is_in m set ≡ true → (program : Program) → program_of v m ≡ Some program
          → set_at (answer_of program (contents_into w d x m i)) o ≡ []
      empty_answer s m o i stands origin lt_i member program body =
          let lt = (inside v d x valid s m o i stands origin lt_i).0 in
          let unordered = member_unordered m lt member in
          let all : Sets = contents_into w d x m i in
          let run = runs v d x hx s m o i stands origin lt_i program body unordered in
          let quiet : (port : ℕ) (r : Row) → ¬ Has r (set_at all port) = λ port r h.
          let a = arrives_sent v d x hx s m o i stands origin lt_i program body unordered port r h in
          elim (outside_cases v d valid set IsNever a.stream) [
            | inl out ↦ never_outside x a.stream a.sender m port r a.within a.sends out member a.goes a.sent
            | inr from ↦ never_emitted a.stream from.0.0 from.0.1 a.sender r a.within from.1 (subst (λ (o : Option End). a.sender < senders_of v o) from.1 a.sends) from.2 a.sent
          ] in
          no_rows (set_at (answer_of program all) o) (λ r h.
          quiet_output s m o i stands origin lt_i member program body (all ∷ []) (λ now port q came. elim came [
            | inl e ↦ λ q_in. quiet port q (subst (λ (z : Sets). Has q (set_at z port)) (sym e) q_in)
            | inr never ↦ absurd never
          ]) r (subst (λ (l : List Row). Has r l) (sym (one_step_answers program run.proper o all)) h))
