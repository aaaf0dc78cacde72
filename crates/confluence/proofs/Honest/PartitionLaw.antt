-- Of each partition the rows of a rule, and of an output, are none or those of one timestep with all of it.
use Rattle.std.proofs.Common.{◌≡◌, refl, ap, sym, subst, ◌∙◌, ℕ, ◌<◌, ◌⊎◌, true, false, List, [], length, inl, inr, Option, Some}
use Rattle.std.proofs.lemmas.Bool.{true≢false}
use Rattle.blz_value.specs.declared.attrs.Attrs.{Attrs}
use Rattle.blz_value.specs.Members.{Has}
use Rattle.blz_value.specs.Record.{Row}
use Rattle.blz_value.proofs.Membership.{Has-get_or}
use Rattle.bloom_forms.specs.declared.program.Program.{Program}
use Rattle.bloom_forms.specs.declared.program.Program.TheVariants.{Module}
use Rattle.bloom_forms.specs.Program.{port_columns}
use Rattle.bloom_forms.specs.Step.{Sets, set_at}
use Rattle.bloom_forms.specs.declared.note.Note.{Note}
use Rattle.bloom_forms.specs.Annotation.{note_of}
use Rattle.bloom_forms.proofs.Copies.AllOrigins.{outputs_origins}
use Rattle.bloom_forms.proofs.Copies.ModuleOrigins.{module_rules}
use Rattle.bloom_forms.specs.Classes.{of_class}
use Rattle.bloom_forms.specs.Ports.{SeesItsPorts}
use Rattle.bloom_forms.specs.Runs.{query_rows, output_rows, rows_over}
use Rattle.bloom_forms.proofs.Split.ClassesLemmas.{arrivals_of_class}
use Rattle.bloom_forms.proofs.Ports.Rules.{rules_see}
use Rattle.bloom_forms.proofs.Ports.PortsLaw.{outputs_see}
use Rattle.topo_forms.specs.Data.{Data}
use Rattle.topo_forms.specs.Feeds.{no_feed}
use Rattle.topo_forms.specs.Valid.{Runs}
use Rattle.topo_forms.specs.View.{View, component_at, program_of, mode_of, mode_key, has_stream, goes_to}
use Rattle.messages.specs.Messages.{Batch, all_pairs}
use Rattle.inbox.specs.Instances.{Instance, is_carrying}
use Rattle.inbox.specs.Timesteps.{is_whole, timesteps}
use Rattle.inbox.specs.Wiring.{wiring_of, instance_for}
use Rattle.inbox.specs.Executions.{Execution}
use Rattle.inbox.specs.Growth.{feed_numbered}
use Rattle.inbox.proofs.WiringLemmas.{instance-feeds, instance-ports, port_of-feed}
use Rattle.confluence.specs.Partitions.{IsFed, IsWaiting, IsAtOnce, AreCarrying, IsSealing, of_partition}
use Rattle.confluence.specs.Laws.{RulesLaw, OutputsLaw}
use Rattle.confluence.proofs.Honest.HonestLaw.{feeds_honest}
use Rattle.confluence.proofs.Honest.PartitionRecords.{restricts}
use Rattle.confluence.proofs.Honest.LivesHeard.{all_come, all_arrive}
use Rattle.confluence.proofs.Honest.Partitions.{IsRestriction, none_there, nothing_of, one_timestep, carried}
use Rattle.confluence.proofs.Honest.Runs.{no_rows_of_nothing}
use Rattle.bloom_forms.specs.Steps.{AreArrivals}
use Rattle.bloom_forms.specs.Annotation.{rule_use}
use Rattle.bloom_forms.specs.Given.{is_w}
use Rattle.blz_value.specs.Bits.{members}
use Rattle.inbox.proofs.Streams.InstancePorts.{carrying_is, ports_same}
use Rattle.inbox.proofs.Streams.IntoPorts.{has_some}

module _ (v : View) (d : Data) (x : Execution) (c j : ℕ) (key : Attrs) (batches : List Batch) (program : Program) (body : program_of v c ≡ Some program) (value : Row) (s : IsSealing v d x c j key batches) where
  abbrev i : Instance
  i = instance_for v c j

  mode : mode_key (mode_of v c) ≡ Some key
  mode = ap mode_key s.mode

  runs : Runs v c program
  runs = (s.history.valid.components c s.there).runs program body

  abbrev of : Sets → Sets
  of = of_class v.attributes program (members key.bits) (λ values. values) value

  only : IsRestriction i of value
  only = restricts v c j key mode s.history.valid s.there program body s.small value

  many : length i.ports ≡ length (port_columns program)
  many = ports_same v c j key mode program runs

  -- a port of which a feed has emitted a record has a stream
  fed_stream : (port : ℕ) (r : Row) → IsFed (wiring_of v) d x i port r → has_stream v c port ≡ true
  fed_stream port r f =
      let feed = feed_numbered i f.feed in
      let into = instance-feeds v c j feed (Has-get_or i.feeds f.feed no_feed f.within) in
      let same : feed.port ≡ port = sym (port_of-feed i f.feed f.within) ∙ f.at in
      has_some v c port feed.stream (record { stands = into.stream; goes = subst (λ p. goes_to v c p feed.stream ≡ true) same into.goes })

  arrive : AreArrivals program (of_partition v program key value (timesteps i batches))
  arrive = arrivals_of_class v.attributes program (members key.bits) (λ values. values) value (timesteps i batches) (all_arrive v d x s.history c j s.there s.replica batches s.lived key mode program body)

  -- by whether the partition is whole
  by_partition : (given : ℕ → Option Note) (rows : (kept now : Sets) → List Row) → SeesItsPorts program given (rows_over program rows)
      → ((nows : List Sets) → AreArrivals program nows → ((now : Sets) → Has now nows → (port : ℕ) → set_at now port ≡ []) → (row : Row) → ¬ Has row (rows_over program rows nows))
      → AreCarrying v c key given → IsWaiting v d x c j key program batches value (rows_over program rows) ⊎ IsAtOnce v d x c j key program batches value (rows_over program rows)
  by_partition given rows sees nothing carrying =
      let honest = feeds_honest v d x s.history s.holds c s.there key mode j in
      let come = all_come v d x s.history c j s.there s.replica batches s.lived in
      elim (is_whole i (all_pairs batches) value) as (λ b. is_whole i (all_pairs batches) value ≡ b → IsWaiting v d x c j key program batches value (rows_over program rows) ⊎ IsAtOnce v d x c j key program batches value (rows_over program rows)) [
        | false ↦ λ waits.
            let silent = nothing_of (wiring_of v) d x i key s.mode honest program many batches come of value only waits in
            inl (record { waits = waits; silent = silent; rows = none_there (rows_over program rows (of_partition v program key value (timesteps i batches))) (nothing (of_partition v program key value (timesteps i batches)) arrive silent) })
        | true ↦ λ whole.
            inr (record {
              whole = whole;
              rows = one_timestep (wiring_of v) d x i key s.mode honest program many batches come of value only given (rows_over program rows) sees (λ port lt t. at_w given carrying port lt t) whole;
              carried = λ port r there carries. carried (wiring_of v) d x i key s.mode honest program many batches come of value only whole port r (subst (λ n. port < n) (sym (instance-ports v c j)) there) (carrying_is v c j key mode port there ∙ carries);
            })
      ] refl
    where
      at_w : (given : ℕ → Option Note) → AreCarrying v c key given → (port : ℕ) → port < length (port_columns program) → is_w (given port) ≡ true → (is_carrying i port ≡ true) ⊎ ((r : Row) → ¬ IsFed (wiring_of v) d x i port r)
      at_w given carrying port lt t =
          let there : port < length (component_at v c).ports = subst (λ n. port < n) (sym many ∙ instance-ports v c j) lt in
          elim (has_stream v c port) as (λ b. has_stream v c port ≡ b → (is_carrying i port ≡ true) ⊎ ((r : Row) → ¬ IsFed (wiring_of v) d x i port r)) [
            | true ↦ λ has. inl (carrying_is v c j key mode port there ∙ carrying port t has)
            | false ↦ λ lacks. inr (λ r f. true≢false (sym (fed_stream port r f) ∙ lacks))
          ] refl

-- of outputs
pub partitions_of_outputs : OutputsLaw
partitions_of_outputs v d x c j key batches program value s body o carrying =
    let runs = (s.history.valid.components c s.there).runs program body in
    by_partition v d x c j key batches program body value s (λ port. note_of v.attributes program port o) (output_rows program o) (outputs_see v.attributes program runs.proper o)
    (no_rows_of_nothing program (output_rows program o) (λ earlier now r arrivals h.
    let g = outputs_origins v.attributes program runs.proper earlier now o r arrivals h in
    record { now = g.now; came = g.came; port = g.port; record_there = g.copied; arrived = g.arrived }))
    carrying

-- of rules
pub partitions_of_rules : RulesLaw
partitions_of_rules v d x c j key batches a value s body rule stands carrying =
    let runs = (s.history.valid.components c s.there).runs (Module a) body in
    by_partition v d x c j key batches (Module a) body value s (rule_use v.attributes a rule) (query_rows a rule.1) (rules_see v.attributes a runs.proper rule stands).0
    (no_rows_of_nothing (Module a) (query_rows a rule.1) (λ earlier now r arrivals h.
    let g = module_rules v.attributes a runs.proper earlier now rule r arrivals stands h in
    record { now = g.now; came = g.came; port = g.port; record_there = g.copied; arrived = g.arrived }))
    carrying
