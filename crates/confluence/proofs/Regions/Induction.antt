-- Contents are equal region by region: from those of lower regions to those of the next.
use Rattle.std.proofs.Common.{if◌then◌else◌, ◌≡◌, ◌<◌, ◌≤◌, not, ℕ, zero, suc, Bool, true, false, Option, None, Some, List, [], length, refl, ap, ◌∙◌, sym, subst, inl, inr, ◌⊎◌, arith}
use Rattle.std.specs.Prelude.{MatchBool}
use Rattle.std.specs.Option.{option_map_or, unwrap_or}
use Rattle.std.proofs.lemmas.Bool.{cases_Bool, cases_lt, true≢false, lt-ltb}
use Rattle.blz_value.specs.Members.{Has}
use Rattle.blz_value.specs.Record.{Row}
use Rattle.blz_value.proofs.Membership.{Has-filter, Has-from_filter, any_from_Has}
use Rattle.blz_value.proofs.SetLaws.{sorted_set_of, same_row_sets, Has-set_of}
use Rattle.bloom_forms.specs.declared.program.Program.{Program}
use Rattle.bloom_forms.specs.ProgramStep.{answer_of}
use Rattle.bloom_forms.specs.Step.{set_at}
use Rattle.blz_value.specs.Sets.{set_of}
use Rattle.topo_forms.specs.Data.{Data, IsData, Holds}
use Rattle.blz_value.specs.Graph.{is_in}
use Rattle.topo_forms.specs.Messages.{rows_in, row}
use Rattle.topo_forms.specs.Regions.{region_of, region_set, is_in_cycle}
use Rattle.blz_value.specs.NumberSets.{below}
use Rattle.topo_forms.specs.Valid.{IsValid}
use Rattle.topo_forms.specs.View.{View, End, origin_of, program_of, is_order, is_replicated, replicas_of, senders_of, goes_to, stream_numbers}
use Rattle.topo_forms.proofs.Regions.Spreading.{in_below}
use Rattle.topo_forms.proofs.Regions.OrderAlone.{order_acyclic}
use Rattle.label_rules.specs.declared.label.Label.{Label}
use Rattle.label_rules.specs.declared.label.Label.TheVariants.{Seal, Async, Run, Inst, Diverge}
use Rattle.label_rules.specs.Label.{severity}
use Rattle.label_walk.specs.Labels.{AreLabels, IsLabel, IsRegionLabel, IsOutsideLabel}
use Rattle.label_walk.specs.Paths.{label_at, is_from_outside, region_inputs, is_replicated_set}
use Rattle.inbox.specs.Wiring.{Wiring, wiring_of}
use Rattle.inbox.specs.Executions.{Execution, emitted_list, contents}
use Rattle.inbox.proofs.Lists.Origins.{source_list}
use Rattle.inbox.proofs.TimestepLemmas.Entries.{Has-rows_in}
use Rattle.inbox.specs.Sent.{IsHistory}
use Rattle.inbox.proofs.Streams.IntoPorts.{goes_is}
use Rattle.confluence.specs.Complete.{IsCompleted, contents_into}
use Rattle.confluence.specs.LabelMeaning.{IsOutside, IsProtected, IsGuarded, IsInCycle, HasGoodPaths, HasGoodInputs, HasConfluentPaths}
use Rattle.confluence.specs.Laws.{StrongRestartLaw, OpenRegionLaw, DeterminedOutputs}
use Rattle.confluence.specs.Sound.{IsSteady, HaveEqualContents, HasOneStepContents, is_replicated_node, IsOpenSound}
use Rattle.confluence.proofs.Determined.DeterminedOutputs.{determined_output}
use Rattle.confluence.proofs.Regions.Members.{in_own, same_region, same_number, earlier}
use Rattle.confluence.proofs.Contents.OrderReplicas.{no_contents, order_equal}
use Rattle.confluence.proofs.Regions.Acyclic.{PathsEqual, answers_equal, equal_back}
use Rattle.confluence.proofs.Regions.Cyclic.{in_inputs, member_unordered, confluent_contents, contents_common, empty_contents, empty_answer}
use Rattle.confluence.proofs.Labels.CyclicLaw.{inputs_of_async, inputs_of_run}
use Rattle.confluence.proofs.Labels.GoodPathsLaw.{good_of_async, good_of_run}
use Rattle.confluence.proofs.Labels.ProtectedLaw.{protected_guarded}
use Rattle.blz_value.specs.Bits.{members}
use Rattle.blz_value.proofs.Ranges.{Has-below as from_below}

-- The plan: one claim for each stream, over any two complete histories: equal contents where it is Seal or
-- Async, and for one history alone where it is Run. A source has its contents whatever happens. A stream
-- of an Order component goes by the log. Outside cycles an output with good paths is determined by what
-- its feeds hold, which is equal by the claim of lower streams. In a cycle the same goes by emission.

-- ---- labels

steady_severe : (label : Label) → IsSteady label → severity label ≤ severity Async
steady_severe (Seal key) h = omega arith
steady_severe Async h = omega arith
steady_severe Run h = absurd h
steady_severe Inst h = absurd h
steady_severe Diverge h = absurd h

severe_steady : (label : Label) → severity label ≤ severity Async → IsSteady label
severe_steady (Seal key) h = tt
severe_steady Async h = tt
severe_steady Run h = absurd (omega (arith, h))
severe_steady Inst h = absurd (omega (arith, h))
severe_steady Diverge h = absurd (omega (arith, h))

severe_mild : (label : Label) → severity label ≤ severity Run → IsSteady label ⊎ (label ≡ Run)
severe_mild (Seal key) h = inl tt
severe_mild Async h = inl tt
severe_mild Run h = inr refl
severe_mild Inst h = absurd (omega (arith, h))
severe_mild Diverge h = absurd (omega (arith, h))

outside_so : (set : ℕ) (origin : Option End) (from : End) → origin ≡ Some from → option_map_or (λ (output : End). not (is_in output.0 set)) origin true ≡ true → is_in from.0 set ≡ true → ⊥
outside_so set origin from e out member =
    let t : not (is_in from.0 set) ≡ true = ap (λ o. option_map_or (λ (output : End). not (is_in output.0 set)) o true) (sym e) ∙ out in
    true≢false (sym t ∙ ap not member)

module _ (v : View) (labels : List Label) (d : Data) (valid : IsValid v) (are : AreLabels v labels) (fits : IsData v d) (holds : Holds v d) where
  abbrev w : Wiring
  w = wiring_of v

  abbrev Done : Execution → Type 0
  Done x = IsCompleted w d x

  history : (x : Execution) → Done x → IsHistory v d x
  history x done = record { valid = valid; fits = fits; steps = done.steps; legal = done.legal }

  -- a stream into the component, or into a region's member, comes from before
  abbrev IsBefore : (stream component : ℕ) → Type 0
  IsBefore s c = (from : End) → origin_of v s ≡ Some from → is_order v from.0 ≡ false → region_of v from.0 < region_of v c

  -- ---- outside cycles

  module _ (s c o : ℕ) (stands : s < length v.streams) (origin : origin_of v s ≡ Some (c, o)) (unordered : is_order v c ≡ false) (kept : IsProtected v labels (c, o) ⊎ HasConfluentPaths v (c, o)) where
    outside_given : (x : Execution) → (done : Done x) → (i : ℕ) → (lt_i : i < replicas_of v c) → (program : Program) → program_of v c ≡ Some program → contents w d x s i ≡ set_at (answer_of program (contents_into w d x c i)) o
    outside_given x done i lt_i program body =
        let hx = history x done in
        let guarded : IsGuarded v (c, o) ⊎ HasConfluentPaths v (c, o) = elim kept [ inl p ↦ inl (protected_guarded v labels (c, o) valid are p) | inr q ↦ inr q ] in
        determined_output v d x hx s c o i stands origin lt_i program body unordered holds guarded done.complete

  module _ (s c o : ℕ) (stands : s < length v.streams) (origin : origin_of v s ≡ Some (c, o)) (unordered : is_order v c ≡ false) (acyclic : is_in_cycle v c ≡ false) (worst : Label) (good : HasGoodPaths v labels (c, o) worst) where
    -- part 2
    outside_answer : (x : Execution) → (done : Done x) → (i : ℕ) → (lt_i : i < replicas_of v c) → (program : Program) → program_of v c ≡ Some program → contents w d x s i ≡ set_at (answer_of program (contents_into w d x c i)) o
    outside_answer x done i lt_i program body = outside_given s c o stands origin unordered good.kept x done i lt_i program body

    -- parts 1 and 3
    outside_equal : (x y : Execution) → Done x → Done y → ((stream : ℕ) → stream < length v.streams → IsBefore stream c → severity (label_at labels stream) ≤ severity worst → HaveEqualContents v d x y stream) → HaveEqualContents v d x y s
    outside_equal x y done_x done_y before i j lt_i' lt_j' = by (program_of v c) refl
      where
        lt_i : i < replicas_of v c
        lt_i = subst (λ (from : Option End). i < senders_of v from) origin lt_i'

        lt_j : j < replicas_of v c
        lt_j = subst (λ (from : Option End). j < senders_of v from) origin lt_j'

        is_before : (port stream : ℕ) → stream < length v.streams → goes_to v c port stream ≡ true → IsBefore stream c
        is_before port stream lt goes from of_from order = elim (earlier v valid stream from (c, port) lt of_from (goes_is v c port stream goes) unordered) [
          | inl lower ↦ lower
          | inr cycle ↦ absurd (true≢false (sym cycle.1 ∙ acyclic))
        ]

        by : (program : Option Program) → program_of v c ≡ program → contents w d x s i ≡ contents w d y s j
        by None e = no_contents v d x valid s c o i stands origin lt_i e ∙ sym (no_contents v d y valid s c o j stands origin lt_j e)
        by (Some program) e =
            let equal : PathsEqual v d s c o stands origin unordered program e x y = λ port note stream noted there.
            let m = Has-from_filter (goes_to v c port) stream (stream_numbers v) there in
            let lt = from_below (length v.streams) stream m.0 in
            before stream lt (is_before port stream lt m.1) (good.labelled port note stream (record { noted = noted; leads = there })) in
            outside_answer x done_x i lt_i program e
            ∙ answers_equal v d s c o stands origin unordered program e x y (history x done_x) (history y done_y) equal i j lt_i lt_j
            ∙ sym (outside_answer y done_y j lt_j program e)

  -- ---- cyclic regions

  module _ (s c o : ℕ) (stands : s < length v.streams) (origin : origin_of v s ≡ Some (c, o)) (cyclic : is_in_cycle v c ≡ true) (worst : Label) (good : (region_inputs v (region_set v c) ≡ []) ⊎ HasGoodInputs v labels (region_set v c) worst) where
    lt_c : c < length v.components
    lt_c = (valid.numbered.origins s (c, o) stands origin).0

    own : is_in c (region_set v c) ≡ true
    own = in_own v valid c lt_c

    -- part 2
    cycle_answer : (x : Execution) → Done x → (i : ℕ) → i < replicas_of v c → (program : Program) → program_of v c ≡ Some program → contents w d x s i ≡ set_at (answer_of program (contents_into w d x c i)) o
    cycle_answer x done i lt_i program body = elim good [
      | inl none ↦
          empty_contents v d valid order_acyclic c lt_c cyclic none x (history x done) s c o i stands origin lt_i own
          ∙ sym (empty_answer v d valid order_acyclic c lt_c cyclic none x (history x done) s c o i stands origin lt_i own program body)
      | inr inputs ↦ confluent_contents v d valid order_acyclic c lt_c cyclic inputs.confluent x (history x done) done.complete s c o i stands origin lt_i own program body
    ]

    -- parts 1 and 3
    cycle_equal : (x y : Execution) → Done x → Done y → ((stream : ℕ) → stream < length v.streams → IsBefore stream c → severity (label_at labels stream) ≤ severity worst → HaveEqualContents v d x y stream) → HaveEqualContents v d x y s
    cycle_equal x y done_x done_y before i j lt_i' lt_j' = elim good [
      | inl none ↦
          empty_contents v d valid order_acyclic c lt_c cyclic none x (history x done_x) s c o i stands origin lt_i own
          ∙ sym (empty_contents v d valid order_acyclic c lt_c cyclic none y (history y done_y) s c o j stands origin lt_j own)
      | inr inputs ↦
          same_row_sets (contents w d x s i) (contents w d y s j) (sorted_set_of (rows_in (emitted_list w d x s i))) (sorted_set_of (rows_in (emitted_list w d y s j))) (
            contents_common v d valid order_acyclic c lt_c cyclic inputs.confluent y (history y done_y) done_y.complete x (history x done_x)
                (λ u k m p r lt lt_k out member goes sent l lt_l. subst (λ (z : List Row). Has r z) (before u lt (is_before u m p lt out member goes) (inputs.labelled (u, (m, p)) (in_inputs v (region_set v c) u m p lt out member goes)) k l lt_k lt_l) (listed x u k r sent))
                s c o i j stands origin lt_i lt_j own,
            contents_common v d valid order_acyclic c lt_c cyclic inputs.confluent x (history x done_x) done_x.complete y (history y done_y)
                (λ u k m p r lt lt_k out member goes sent l lt_l. subst (λ (z : List Row). Has r z)
                (equal_back v d x y u (before u lt (is_before u m p lt out member goes) (inputs.labelled (u, (m, p)) (in_inputs v (region_set v c) u m p lt out member goes))) k l lt_k lt_l) (listed y u k r sent))
                s c o j i stands origin lt_j lt_i own,
          )
    ]
      where
        lt_i : i < replicas_of v c
        lt_i = subst (λ (from : Option End). i < senders_of v from) origin lt_i'

        lt_j : j < replicas_of v c
        lt_j = subst (λ (from : Option End). j < senders_of v from) origin lt_j'

        listed : (z : Execution) (u k : ℕ) (r : Row) → Has (row r) (emitted_list w d z u k) → Has r (contents w d z u k)
        listed z u k r sent = let list = emitted_list w d z u k in Has-set_of r (rows_in list) (Has-rows_in r list sent)

        is_before : (u m p : ℕ) → u < length v.streams → is_from_outside v (region_set v c) u ≡ true → is_in m (region_set v c) ≡ true → goes_to v m p u ≡ true → IsBefore u c
        is_before u m p lt out member goes from of_from order =
            let end = goes_is v m p u goes in
            let lt_m = (valid.numbered.ends u (m, p) lt end).0 in
            let unordered_m = member_unordered v d valid order_acyclic c lt_c cyclic m lt_m member in
            elim (earlier v valid u from (m, p) lt of_from end unordered_m) [
              | inl lower ↦ subst (λ (n : ℕ). region_of v from.0 < n) (sym (same_number v valid c m lt_c lt_m member)) lower
              | inr cycle ↦ absurd (outside_so (region_set v c) (origin_of v u) from of_from out (subst (λ (set : ℕ). is_in from.0 set ≡ true) (sym (same_region v valid c m lt_c lt_m member)) cycle.0))
            ]

  -- ---- one stream, where the streams before it are known

  -- parts 1 and 3
  record Claim (s : ℕ) : Type 0 where
    steady : IsSteady (label_at labels s) → (x y : Execution) → Done x → Done y → HaveEqualContents v d x y s
    run : label_at labels s ≡ Run → (x : Execution) → Done x → HaveEqualContents v d x x s

  abbrev Before : (component : ℕ) → Type 0
  Before c = (stream : ℕ) → stream < length v.streams → IsBefore stream c → Claim stream

  steady_before : (c : ℕ) → Before c → (x y : Execution) → Done x → Done y → (stream : ℕ) → stream < length v.streams → IsBefore stream c → severity (label_at labels stream) ≤ severity Async → HaveEqualContents v d x y stream
  steady_before c before x y done_x done_y stream lt is sev = (before stream lt is).steady (severe_steady (label_at labels stream) sev) x y done_x done_y

  mild_before : (c : ℕ) → Before c → (x : Execution) → Done x → (stream : ℕ) → stream < length v.streams → IsBefore stream c → severity (label_at labels stream) ≤ severity Run → HaveEqualContents v d x x stream
  mild_before c before x done stream lt is sev = elim (severe_mild (label_at labels stream) sev) [
    | inl steady ↦ (before stream lt is).steady steady x x done done
    | inr run ↦ (before stream lt is).run run x done
  ]

  -- where there is one replica, its contents are its own
  one_replica : (s c o : ℕ) → origin_of v s ≡ Some (c, o) → is_replicated v c ≡ false → (x : Execution) → HaveEqualContents v d x x s
  one_replica s c o origin one x i j lt_i' lt_j' =
      let lt_i : i < replicas_of v c = subst (λ (from : Option End). i < senders_of v from) origin lt_i' in
      let lt_j : j < replicas_of v c = subst (λ (from : Option End). j < senders_of v from) origin lt_j' in
      elim (cases_lt 1 (replicas_of v c)) [
        | inl more ↦ absurd (true≢false (sym (lt-ltb 1 (replicas_of v c) more) ∙ one))
        | inr few ↦ let same : i ≡ j = omega (arith, lt_i, lt_j, few) in ap (λ k. contents w d x s k) same
      ]

  -- a source
  source_equal : (s : ℕ) → s < length v.streams → origin_of v s ≡ None → (x y : Execution) → HaveEqualContents v d x y s
  source_equal s stands origin x y i j lt_i lt_j = ap (λ l. set_of (rows_in l)) (source_list v d x s i stands origin ∙ sym (source_list v d y s j stands origin))

  label_of : (s : ℕ) (from : Option End) → s < length v.streams → origin_of v s ≡ from → IsLabel v labels s from (label_at labels s)
  label_of s from stands origin = subst (λ (o : Option End). IsLabel v labels s o (label_at labels s)) origin (are.are s stands)

  order_run : (s c o : ℕ) → s < length v.streams → origin_of v s ≡ Some (c, o) → is_order v c ≡ true → label_at labels s ≡ Run
  order_run s c o stands origin order =
      subst (λ (b : Bool). MatchBool b (label_at labels s ≡ Run) (MatchBool (is_in_cycle v c) (IsRegionLabel v labels (region_set v c) (label_at labels s)) (IsOutsideLabel v labels s (c, o) (label_at labels s)))) order (label_of s (Some (c, o)) stands origin)

  not_steady : (label : Label) → label ≡ Run → ¬ IsSteady label
  not_steady label e h = subst (λ (l : Label). IsSteady l) e h

  order_claim : (s c o : ℕ) → s < length v.streams → origin_of v s ≡ Some (c, o) → is_order v c ≡ true → Claim s
  order_claim s c o stands origin order = record {
    steady = λ steady x y done_x done_y. absurd (not_steady (label_at labels s) (order_run s c o stands origin order) steady);
    run = λ run x done i j lt_i lt_j. order_equal v d x valid s c o stands origin order done.complete i j (subst (λ (from : Option End). i < senders_of v from) origin lt_i) (subst (λ (from : Option End). j < senders_of v from) origin lt_j);
  }

  outside_claim : (s c o : ℕ) → s < length v.streams → origin_of v s ≡ Some (c, o) → is_order v c ≡ false → is_in_cycle v c ≡ false → Before c → Claim s
  outside_claim s c o stands origin unordered acyclic before =
      let is : IsOutside v s (c, o) = record { stands = stands; origin = origin; unordered = unordered; acyclic = acyclic } in record {
        steady = λ steady x y done_x done_y.
            let good = good_of_async v labels s (c, o) valid are is (steady_severe (label_at labels s) steady) in
            outside_equal s c o stands origin unordered acyclic Async good x y done_x done_y (steady_before c before x y done_x done_y);
        run = λ run x done. elim (cases_Bool (is_replicated v c)) [
          | inr one ↦ one_replica s c o origin one x
          | inl more ↦
              let good = good_of_run v labels s (c, o) valid are is more run in
              outside_equal s c o stands origin unordered acyclic Run good x x done done (mild_before c before x done)
        ];
      }

  -- a region without replicas has none of its members replicated
  member_replicated : (s c o : ℕ) → s < length v.streams → origin_of v s ≡ Some (c, o) → is_replicated_set v (region_set v c) ≡ false → is_replicated v c ≡ false
  member_replicated s c o stands origin one = elim (cases_Bool (is_replicated v c)) [
    | inr f ↦ f
    | inl t ↦
        let lt = (valid.numbered.origins s (c, o) stands origin).0 in
        let small : c < 64 = let few = valid.numbered.few_components in omega (arith, lt, few) in
        absurd (true≢false (sym (any_from_Has (is_replicated v) c (members (region_set v c)) (Has-filter (λ n. is_in n (region_set v c)) c (below 64) (in_below 64 c small) (in_own v valid c lt)) t) ∙ one))
  ]

  cycle_claim : (s c o : ℕ) → s < length v.streams → origin_of v s ≡ Some (c, o) → is_in_cycle v c ≡ true → Before c → Claim s
  cycle_claim s c o stands origin cyclic before =
      let is : IsInCycle v s (c, o) = record { stands = stands; origin = origin; cyclic = cyclic } in record {
        steady = λ steady x y done_x done_y.
            let good = inputs_of_async v labels s (c, o) valid are is (steady_severe (label_at labels s) steady) in
            cycle_equal s c o stands origin cyclic Async good x y done_x done_y (steady_before c before x y done_x done_y);
        run = λ run x done. elim (cases_Bool (is_replicated_set v (region_set v c))) [
          | inr one ↦ one_replica s c o origin (member_replicated s c o stands origin one) x
          | inl more ↦
              let good = inputs_of_run v labels s (c, o) valid are is more run in
              cycle_equal s c o stands origin cyclic Run (inr good) x x done done (mild_before c before x done)
        ];
      }

  -- ---- all streams, by the numbers of regions

  claim_with : (s : ℕ) → s < length v.streams → ((from : End) → origin_of v s ≡ Some from → is_order v from.0 ≡ false → Before from.0) → Claim s
  claim_with s stands before = by (origin_of v s) refl
    where
      by : (origin : Option End) → origin_of v s ≡ origin → Claim s
      by None e = record { steady = λ steady x y done_x done_y. source_equal s stands e x y; run = λ run x done. source_equal s stands e x x }
      by (Some from) e = elim (cases_Bool (is_order v from.0)) [
        | inl order ↦ order_claim s from.0 from.1 stands e order
        | inr unordered ↦ elim (cases_Bool (is_in_cycle v from.0)) [
          | inl cyclic ↦ cycle_claim s from.0 from.1 stands e cyclic (before from e unordered)
          | inr acyclic ↦ outside_claim s from.0 from.1 stands e unordered acyclic (before from e unordered)
        ]
      ]

  claim_below : (n s : ℕ) → s < length v.streams → ((from : End) → origin_of v s ≡ Some from → is_order v from.0 ≡ false → region_of v from.0 < n) → Claim s
  claim_below zero s stands low = claim_with s stands (λ from e unordered. absurd (let never = low from e unordered in omega (arith, never)))
  claim_below (suc n) s stands low = claim_with s stands (λ from e unordered stream lt is.
      claim_below n stream lt (λ other of_other order. let first = low from e unordered in let second = is other of_other order in omega (arith, first, second)))

  claim : (s : ℕ) → s < length v.streams → Claim s
  claim s stands = claim_with s stands (λ from e unordered stream lt is. claim_below (region_of v from.0) stream lt is)

  -- ---- part 2

  answers : (s c o : ℕ) → s < length v.streams → origin_of v s ≡ Some (c, o)
      → ((is_order v c ≡ false) → (x : Execution) → Done x → (i : ℕ) → i < replicas_of v c → (program : Program) → program_of v c ≡ Some program → contents w d x s i ≡ set_at (answer_of program (contents_into w d x c i)) o)
      → (x : Execution) → Done x → HasOneStepContents v d x s
  answers s c o stands origin each x done c' o' i program origin' body unordered lt_i =
      let same : Some (c, o) ≡ Some (c', o') = sym origin ∙ origin' in
      let ends : (c, o) ≡ (c', o') = ap (λ from. unwrap_or from (c, o)) same in
      let ce : c ≡ c' = ap (λ (e : End). e.0) ends in
      let oe : o ≡ o' = ap (λ (e : End). e.1) ends in
      let lt : i < replicas_of v c' = subst (λ (from : Option End). i < senders_of v from) origin' lt_i in
      subst (λ (p : ℕ). contents w d x s i ≡ set_at (answer_of program (contents_into w d x c' i)) p) oe
      (subst (λ (m : ℕ). is_order v m ≡ false → i < replicas_of v m → program_of v m ≡ Some program → contents w d x s i ≡ set_at (answer_of program (contents_into w d x m i)) o) ce
      (λ u l b. each u x done i l program b) unordered lt body)

  steady_answers : (s : ℕ) → s < length v.streams → IsSteady (label_at labels s) → (x : Execution) → Done x → HasOneStepContents v d x s
  steady_answers s stands steady x done c o i program origin body unordered lt_i =
      answers s c o stands origin (λ un. elim (cases_Bool (is_in_cycle v c)) [
        | inl cyclic ↦ cycle_answer s c o stands origin cyclic Async (inputs_of_async v labels s (c, o) valid are (record { stands = stands; origin = origin; cyclic = cyclic }) (steady_severe (label_at labels s) steady))
        | inr acyclic ↦
            outside_answer s c o stands origin un acyclic Async (good_of_async v labels s (c, o) valid are (record { stands = stands; origin = origin; unordered = un; acyclic = acyclic }) (steady_severe (label_at labels s) steady))
      ]) x done c o i program origin body unordered lt_i

  run_answers : (s c o : ℕ) → s < length v.streams → origin_of v s ≡ Some (c, o) → is_replicated_node v c ≡ true → label_at labels s ≡ Run → (x : Execution) → Done x → HasOneStepContents v d x s
  run_answers s c o stands origin replicated run =
      answers s c o stands origin (λ un. elim (cases_Bool (is_in_cycle v c)) [
        | inl cyclic ↦
            let more : is_replicated_set v (region_set v c) ≡ true = ap (λ b. if b then is_replicated_set v (region_set v c) else is_replicated v c) (sym cyclic) ∙ replicated in
            cycle_answer s c o stands origin cyclic Run (inr (inputs_of_run v labels s (c, o) valid are (record { stands = stands; origin = origin; cyclic = cyclic }) more run))
        | inr acyclic ↦
            let more : is_replicated v c ≡ true = ap (λ b. if b then is_replicated_set v (region_set v c) else is_replicated v c) (sym acyclic) ∙ replicated in
            outside_answer s c o stands origin un acyclic Run (good_of_run v labels s (c, o) valid are (record { stands = stands; origin = origin; unordered = un; acyclic = acyclic }) more run)
      ])

  open_sound : (s : ℕ) → s < length v.streams → IsOpenSound v d labels s
  open_sound s stands =
      let all = claim s stands in record {
        schedules = all.steady;
        one_step = steady_answers s stands;
        run_one_step = λ c o origin replicated run. run_answers s c o stands origin replicated run;
        replicas = all.run;
      }

-- the law over all histories and of all streams
pub open_region_law : OpenRegionLaw
open_region_law v labels d s valid are fits holds stands = open_sound v labels d valid are fits holds s stands

-- and so with bodied streams
pub strong_law : StrongRestartLaw
strong_law v labels valid are d s fits holds stands bodied =
    let sound = open_region_law v labels d s valid are fits holds stands in
    record { schedules = sound.schedules; one_step = sound.one_step; replicas = sound.replicas }

-- the contents of a protected output, or of one with confluent paths
pub determined_outputs : DeterminedOutputs
determined_outputs v labels d s output x valid are fits holds is kept done =
    answers v labels d valid are fits holds s output.0 output.1 is.stands is.origin (λ unordered y done_y i lt_i program body.
    outside_given v labels d valid are fits holds s output.0 output.1 is.stands is.origin unordered kept y done_y i lt_i program body) x done
