-- What holds of the records of sources, and of each row of an output over arrivals of which it holds, holds of all emitted records.
use Rattle.std.proofs.Common.{◌≡◌, refl, ap, sym, subst, ◌∙◌, ℕ, ◌<◌, true, List, [], ◌∷◌, ◌++◌, length, inl, inr, Option, None, Some, not, map}
use Rattle.std.specs.Prelude.{Ok}
use Rattle.std.specs.Option.{option_map_or, unwrap_or}
use Rattle.blz_value.specs.Members.{Has}
use Rattle.blz_value.specs.Record.{Row}
use Rattle.blz_value.proofs.Membership.{Has-append_cases, Has-append_left, Has-append_right, Has-from_map, Has-from_filter}
use Rattle.blz_value.specs.declared.attrs.Attrs.{Attrs}
use Rattle.bloom_forms.specs.declared.program.Program.{Program}
use Rattle.bloom_forms.specs.ProgramStep.{outputs_of_step}
use Rattle.bloom_forms.specs.Step.{Sets, set_at}
use Rattle.topo_forms.specs.Data.{Data, SourceData, source_data, rows_with_key}
use Rattle.topo_forms.specs.Messages.{Message, row, row_in, is_same_row, seal, distinct_rows, partitions, source_seals, source_messages}
use Rattle.topo_forms.specs.Valid.{IsValid}
use Rattle.topo_forms.specs.View.{View, End, component_at, origin_of, program_of, replicas_of, senders_of, stream_replicas, goes_to, Stream, stream_at}
use Rattle.messages.specs.Messages.{all_pairs}
use Rattle.inbox.specs.Instances.{Instance, entries_of}
use Rattle.inbox.specs.Lives.{Life, all_lives, life_timesteps, emitted_by}
use Rattle.inbox.specs.Wiring.{instance_at, instance_for, wiring_of}
use Rattle.inbox.specs.Executions.{Execution, first_execution, list_from, emitted_list, after_step, execution_of}
use Rattle.inbox.specs.Events.{Step}
use Rattle.inbox.proofs.Executions.Histories.{by_history, step_changes}
use Rattle.inbox.proofs.Executions.Sent.{history_holds, step_before}
use Rattle.inbox.proofs.TimestepLemmas.Whole.{Has-filter_map}
use Rattle.inbox.proofs.WiringLemmas.{instance-wired, instance-ports, stream-wired, length-below}
use Rattle.inbox.proofs.Executions.Appending.{legal_more}
use Rattle.inbox.proofs.TimestepLemmas.OfLives.{timestep_entry, life_timesteps-many}
use Rattle.inbox.proofs.Lists.NoBody.{nothing_without}
use Rattle.inbox.specs.Sent.{IsSentTo}
use Rattle.inbox.proofs.Records.Sending.{timestep_sent}
use Rattle.inbox.proofs.Records.PutOut.{emitted_in_step}
use Rattle.bloom_forms.specs.Steps.{tables_after_steps}
use Rattle.bloom_forms.specs.Roots.{Roots}

-- The plan: what a step finds in lives and logs stood in emitted lists before it. So if the fact holds
-- of all that was emitted after some steps, it holds of all that arrives after one more, and then of
-- all rows that are put out over that. It speaks of no execution, so it needn't be carried on.

-- ---- records of sources

seals_no_row : (columns : Roots) (key : Option Attrs) (given : SourceData) (r : Row) → ¬ Has (row r) (source_seals columns key given)
seals_no_row columns None given r h = h
seals_no_row columns (Some key) given r h =
    let sealed : Row → Message = λ value. seal value (length (rows_with_key columns key.bits value (distinct_rows given.rows))) in
    let m = Has-from_map sealed (row r) (partitions columns key.bits given) h in
    let is : row_in (sealed m.0) ≡ row_in (row r) = ap row_in m.2 in
    let bad : None ≡ Some r = is in cc

-- distinct records are records
among_rows : (rows : List Row) (r : Row) → Has r (distinct_rows rows) → Has r rows
among_rows [] r h = absurd h
among_rows (x ∷ rows) r (inl e) = inl e
among_rows (x ∷ rows) r (inr h) = inr (among_rows rows r (Has-from_filter (λ y. not (is_same_row x y)) r (distinct_rows rows) h).0)

pub source_row : (s : Stream) (given : SourceData) (r : Row) → Has (row r) (source_messages s given) → Has r given.rows
source_row s given r h =
    elim (Has-append_cases (row r) (map row (distinct_rows given.rows)) (source_seals s.columns s.key given) h) [
      | inl own ↦
          let m = Has-from_map row (row r) (distinct_rows given.rows) own in
          let is : m.0 ≡ r = ap (λ (z : Message). unwrap_or (row_in z) r) m.2 in
          among_rows given.rows r (subst (λ (q : Row). Has q (distinct_rows given.rows)) is m.1)
      | inr sealed ↦ absurd (seals_no_row s.columns s.key given r sealed)
    ]

-- ---- the induction

module _ (v : View) (d : Data) (valid : IsValid v) (Q : (stream : ℕ) → Row → Type 0) where
  -- a record comes to a port from a stream of which Q holds
  pub record SentWith (c p : ℕ) (r : Row) : Type 0 where
    pub stream : ℕ
    pub within : stream < length v.streams
    pub goes : goes_to v c p stream ≡ true
    pub holds : Q stream r

  -- Q holds of the records of sources
  abbrev pub OfSources : Type 0
  OfSources = (s : ℕ) (r : Row) → s < length v.streams → origin_of v s ≡ None → Has r (source_data d s).rows → Q s r

  -- and of each row of an output in a step after others, where it holds of all that arrives in these steps
  abbrev pub OfOutputs : Type 0
  OfOutputs = (s c o : ℕ) (program : Program) (earlier : List Sets) (now : Sets) (r : Row) → s < length v.streams → origin_of v s ≡ Some (c, o) → c < length v.components → program_of v c ≡ Some program
      → ((other : Sets) → Has other (earlier ++ now ∷ []) → length other ≡ length (component_at v c).ports)
      → ((other : Sets) (port : ℕ) (q : Row) → Has other (earlier ++ now ∷ []) → Has q (set_at other port) → SentWith c port q)
      → Has r (set_at (outputs_of_step program (tables_after_steps program earlier) now) o) → Q s r

  -- Q holds of all emitted records
  abbrev pub OfEmitted : Execution → Type 0
  OfEmitted x = (s i : ℕ) (r : Row) → s < length v.streams → i < stream_replicas v s → Has (row r) (emitted_list (wiring_of v) d x s i) → Q s r

  -- and of all that stands in timesteps
  abbrev pub OfTimesteps : Execution → Type 0
  OfTimesteps y = (c j : ℕ) (life : Life) (now : Sets) (port : ℕ) (r : Row) → c < length v.components → j < replicas_of v c
      → Has life (all_lives (y.lives c j)) → Has now (life_timesteps (instance_for v c j) (y.logs c) life) → Has r (set_at now port) → SentWith c port r

  among_more : (earlier later : List Sets) (now other : Sets) → Has other (earlier ++ now ∷ []) → Has other (earlier ++ now ∷ later)
  among_more earlier later now other h = elim (Has-append_cases other earlier (now ∷ []) h) [
    | inl e ↦ Has-append_left other earlier (now ∷ later) e
    | inr n ↦ elim n [ inl e ↦ Has-append_right other earlier (now ∷ later) (inl e) | inr none ↦ absurd none ]
  ]

  module _ (sources : OfSources) (outputs : OfOutputs) where
    module _ (y : Execution) (arrives : OfTimesteps y) where
      made : (s i c o : ℕ) (r : Row) (body : Option Program) → s < length v.streams → origin_of v s ≡ Some (c, o) → program_of v c ≡ body → i < replicas_of v c
          → Has (row r) (emitted_by (instance_at (wiring_of v) c i) (y.logs c) (y.lives c i) o) → Q s r
      made s i c o r body within from has sends h =
          let numbers = valid.numbered.origins s (c, o) within from in
          let own : Has (row r) (emitted_by (instance_for v c i) (y.logs c) (y.lives c i) o) = subst (λ (z : Instance). Has (row r) (emitted_by z (y.logs c) (y.lives c i) o)) (instance-wired v c i numbers.0 sends) h in
          by_body body has numbers own
        where
          by_body : (b : Option Program) → program_of v c ≡ b → (c < length v.components) × (o < length (component_at v c).outputs) → Has (row r) (emitted_by (instance_for v c i) (y.logs c) (y.lives c i) o) → Q s r
          by_body None none numbers own = absurd (subst (λ (l : List Message). Has (row r) l) (nothing_without (instance_for v c i) none (y.logs c) (y.lives c i) o) own)
          by_body (Some program) some numbers own =
              let instance = instance_for v c i in
              let list = emitted_by instance (y.logs c) (y.lives c i) o in
              let there : o < length instance.outputs = subst (λ n. o < n) (sym (length-below _ (length (component_at v c).outputs))) numbers.1 in
              let e = emitted_in_step program instance some (y.logs c) (y.lives c i) o r there (Has-filter_map row_in (row r) r list own refl) in
              let nows = life_timesteps instance (y.logs c) e.life in
              let among : (other : Sets) → Has other (e.step.earlier ++ e.step.now ∷ []) → Has other nows = λ other m. subst (λ (l : List Sets). Has other l) (sym e.step.are) (among_more e.step.earlier e.step.later e.step.now other m) in
              outputs s c o program e.step.earlier e.step.now r within from numbers.0 some
              (λ other m. life_timesteps-many instance (y.logs c) e.life other (among other m) ∙ instance-ports v c i)
              (λ other port q m stands. arrives c i e.life other port q numbers.0 sends e.lived (among other m) stands)
              e.step.there

      pub emitted_from : OfEmitted y
      emitted_from s i r within sends h =
          let line : Stream = stream_at v s in
          let list : emitted_list (wiring_of v) d y s i ≡ list_from (origin_of v s) (wiring_of v) d y line s i = ap (λ (o : Option Stream). option_map_or (λ (l : Stream). list_from l.origin (wiring_of v) d y l s i) o []) (stream-wired v s within) in
          by_origin (origin_of v s) refl (subst (λ (l : List Message). Has (row r) l) list h)
        where
          by_origin : (from : Option End) → origin_of v s ≡ from → Has (row r) (list_from from (wiring_of v) d y (stream_at v s) s i) → Q s r
          by_origin None none own = sources s r within none (source_row (stream_at v s) (source_data d s) r own)
          by_origin (Some spot) some own = made s i spot.0 spot.1 r (program_of v spot.0) within some refl (subst (λ (o : Option End). i < senders_of v o) some sends) own

    none_first : OfTimesteps first_execution
    none_first c j life now port r within there lived h stands = elim lived [
      | inl e ↦ elim (timestep_entry (instance_for v c j) [] life now port r h stands) [
        | inl heard ↦ absurd (subst (λ (l : Life). Has (port, r) (entries_of (instance_for v c j) (all_pairs l.heard))) (sym e) heard)
        | inr logged ↦ absurd logged
      ]
      | inr none ↦ absurd none
    ]

    -- after legal steps, and of all emitted records
    record Reached (x : Execution) : Type 0 where
      pub steps : List Step
      pub legal : execution_of (wiring_of v) d steps ≡ Ok x
      pub holds : OfEmitted x

    next : (x y : Execution) (step : Step) → Reached x → after_step (wiring_of v) d step x ≡ Ok y → Reached y
    next x y step reached at =
        let before = step_before (wiring_of v) d x y (history_holds (wiring_of v) d reached.steps x reached.legal) (step_changes (wiring_of v) d step x y at) in
        record {
          steps = reached.steps ++ step ∷ [];
          legal = legal_more (wiring_of v) d reached.steps step x y reached.legal at;
          holds = emitted_from y (λ c j life now port r within there lived h stands.
              let sent : IsSentTo v d x c port r = timestep_sent v d x valid y before c j life now port r within there lived h stands in
              record { stream = sent.stream; within = sent.within; goes = sent.goes; holds = reached.holds sent.stream sent.sender r sent.within sent.sends sent.sent });
        }

    pub by_rank : (steps : List Step) (x : Execution) → execution_of (wiring_of v) d steps ≡ Ok x → OfEmitted x
    by_rank steps x legal =
        (by_history (wiring_of v) d Reached (record { steps = []; legal = refl; holds = emitted_from first_execution none_first }) next steps x legal).holds
