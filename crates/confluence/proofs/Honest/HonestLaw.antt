-- Seals tell the truth, by induction on the region of a stream's component.
use Rattle.std.proofs.Common.{◌≡◌, refl, ap, sym, subst, ◌∙◌, ℕ, zero, suc, ◌<◌, true, false, List, [], ◌∷◌, ◌++◌, length, append-nil, inr, Option, None, Some, arith}
use Rattle.std.proofs.lemmas.Bool.{false_from_ne_true}
use Rattle.std.specs.Prelude.{is_some}
use Rattle.std.specs.List.{list_all}
use Rattle.std.specs.Option.{option_map, option_map_or, option_and_then}
use Rattle.blz_value.specs.declared.attrs.Attrs.{Attrs}
use Rattle.blz_value.specs.Members.{Has}
use Rattle.blz_value.specs.Operators.{cells}
use Rattle.blz_value.proofs.Membership.{Has-append_right, Has-from_flat_map, Has-get_or, all_member}
use Rattle.blz_value.proofs.Booleans.{both_true}
use Rattle.bloom_forms.specs.declared.program.Program.{Program}
use Rattle.bloom_forms.specs.ProgramStep.{empty_tables}
use Rattle.topo_forms.specs.Carried.{carries_key, key_before, carries}
use Rattle.topo_forms.specs.Data.{Data, Holds, source_data, key_places}
use Rattle.topo_forms.specs.Feeds.{Feed, no_feed}
use Rattle.topo_forms.specs.Messages.{Message, row, seal, rows_in, is_same_row, source_messages}
use Rattle.topo_forms.specs.Regions.{region_of}
use Rattle.topo_forms.specs.Valid.{IsValid}
use Rattle.topo_forms.specs.View.{View, End, origin_of, stream_at, stream_replicas, component_at, output_at, mode_of, mode_key, program_of, replicas_of, has_stream, goes_to, senders_of, stream_of, streams_to, is_order_mode}
use Rattle.inbox.specs.Instances.{Instance, is_carrying}
use Rattle.inbox.specs.Timesteps.{timesteps}
use Rattle.inbox.specs.Wiring.{Wiring, wiring_of, instance_for, carried_places}
use Rattle.inbox.specs.Lives.{Life, all_lives, life_timesteps, emitted_by}
use Rattle.inbox.specs.Executions.{Execution, list_from, emitted_list}
use Rattle.inbox.specs.Growth.{feed_numbered, NoRepeats}
use Rattle.inbox.proofs.Lists.Repeats.{no_repeats-emitted_by}
use Rattle.inbox.proofs.Lists.Rows.{life_rows, rows_of_list}
use Rattle.messages.proofs.MessagesLemmas.{is_same_row-is}
use Rattle.inbox.proofs.WiringLemmas.{instance-wired, stream-wired, instance-feeds, length-below, port_of-feed}
use Rattle.inbox.specs.Sent.{IsHistory}
use Rattle.inbox.proofs.Streams.CarriedKeys.{carries-from, key_of_source, may_carry-is, carried_output, carried_at, not_ordered, comes_lower, output_places, port_places}
use Rattle.inbox.proofs.Streams.IntoPorts.{into_port}
use Rattle.inbox.proofs.Streams.InstancePorts.{carrying_is, places_only}
use Rattle.confluence.specs.Honest.{IsHonest}
use Rattle.confluence.specs.Laws.{HonestLaw}
use Rattle.confluence.proofs.Honest.FromFeeds.{IsFedHonestly}
use Rattle.inbox.specs.Folds.{rows_from}
use Rattle.inbox.proofs.Lists.Seals.{seals_of_list}
use Rattle.inbox.proofs.TimestepLemmas.OfLives.{life_timesteps-hearing}
use Rattle.inbox.proofs.TimestepLemmas.Entries.{Has-rows_in, Has-from_rows_in}
use Rattle.confluence.proofs.Honest.Sources.{no_other_seal, no_row_again, honest_source}
use Rattle.confluence.proofs.Honest.Rows.{same_rows}

-- ---- one output

has_program : (o : Option Program) → is_some o ≡ true → (program : Program) × (o ≡ Some program)
has_program None e = cc
has_program (Some program) e = (program, refl)

-- the places that a stream carries are those of a key
places_of : (o : Option Attrs) (f : Attrs → List ℕ) (places : List ℕ) → option_map f o ≡ Some places → (key : Attrs) × (o ≡ Some key) × (places ≡ f key)
places_of None f places e = cc
places_of (Some key) f places e = (key, refl, let same : Some (f key) ≡ Some places = e in cc)

module _ (v : View) (d : Data) (x : Execution) (history : IsHistory v d x) (holds : Holds v d) where
  valid : IsValid v
  valid = history.valid

  abbrev w : Wiring
  w = wiring_of v

  -- the emitted list of a stream is honest, if it carries a key
  abbrev IsHonestStream : ℕ → Type 0
  IsHonestStream s = (j : ℕ) (places : List ℕ) → j < stream_replicas v s → carried_places v s ≡ Some places → IsHonest places (emitted_list w d x s j)

  list_is : (s j : ℕ) → s < length v.streams → emitted_list w d x s j ≡ list_from (origin_of v s) w d x (stream_at v s) s j
  list_is s j lt = ap (λ line. option_map_or (λ l. list_from l.origin w d x l s j) line []) (stream-wired v s lt)

  source_stream : (s : ℕ) → s < length v.streams → origin_of v s ≡ None → IsHonestStream s
  source_stream s lt is j places small carried =
      let list : emitted_list w d x s j ≡ source_messages (stream_at v s) (source_data d s) = list_is s j lt ∙ ap (λ o. list_from o w d x (stream_at v s) s j) is in
      let own = key_of_source v s places is carried in
      subst (λ l. IsHonest places l) (sym list)
      (subst (λ set. IsHonest set (source_messages (stream_at v s) (source_data d s))) (sym own.2) (honest_source (stream_at v s) own.0 (source_data d s) own.1))

  -- the feeds of carrying ports are honest where the streams into the component are
  module _ (c : ℕ) (there : c < length v.components) (key : Attrs) (mode : mode_key (mode_of v c) ≡ Some key) (into_honest : (port u : ℕ) → u < length v.streams → goes_to v c port u ≡ true → IsHonestStream u) where
    fed_honestly : (j port : ℕ) → is_carrying (instance_for v c j) port ≡ true → IsFedHonestly w d x (instance_for v c j) port
    fed_honestly j port carries feed places within at has =
        let i : Instance = instance_for v c j in
        let f : Feed = feed_numbered i feed in
        let into = instance-feeds v c j f (Has-get_or i.feeds feed no_feed within) in
        let same : f.port ≡ port = sym (port_of-feed i feed within) ∙ at in
        let here : port < length (component_at v c).ports = subst (λ p. p < length (component_at v c).ports) same into.port in
        let goes : goes_to v c port f.stream ≡ true = subst (λ p. goes_to v c p f.stream ≡ true) same into.goes in
        let all = both_true (has_stream v c port) (list_all (carries_key v key.bits) (streams_to v c port)) (sym (carrying_is v c j key mode port here) ∙ carries) in
        let does : carries_key v key.bits f.stream ≡ true = all_member (carries_key v key.bits) (streams_to v c port) f.stream all.1 (into_port v c port f.stream into.stream goes) in
        let is : key_places (stream_at v f.stream).columns key.bits ≡ places = port_places v valid key.bits c port f.stream into.stream goes ∙ sym (places_only v c j key mode port places here has) in
        into_honest port f.stream into.stream goes f.sender places into.sender (carried_at v valid key.bits f.stream into.stream does ∙ ap Some is)

  -- where the streams from lower regions are honest, so is each stream of a component
  module _ (c o s : ℕ) (lt : s < length v.streams) (origin : origin_of v s ≡ Some (c, o)) (lower : (u : ℕ) (output : End) → u < length v.streams → origin_of v u ≡ Some output → region_of v output.0 < region_of v c → IsHonestStream u) where
    there : c < length v.components
    there = (valid.numbered.origins s (c, o) lt origin).0

    out : o < length (component_at v c).outputs
    out = (valid.numbered.origins s (c, o) lt origin).1

    any_stream : (port u : ℕ) → u < length v.streams → (key : Attrs) → mode_key (mode_of v c) ≡ Some key → goes_to v c port u ≡ true → IsHonestStream u
    any_stream port u small key mode goes = by_origin (origin_of v u) refl
      where
        by_origin : (from : Option End) → origin_of v u ≡ from → IsHonestStream u
        by_origin None e = source_stream u small e
        by_origin (Some output) e = lower u output small e (comes_lower v valid c port u output key there mode small e goes)

    output_stream : IsHonestStream s
    output_stream j places small carried before after k count e =
        let named = places_of (carries v s) (λ (key : Attrs). key_places (stream_at v s).columns key.bits) places carried in
        let key : Attrs = named.0 in
        let from = carries-from v s key named.1 in
        let mode : mode_key (mode_of v c) ≡ Some key = sym (ap (key_before v s) origin) ∙ from.0 in
        let both = carried_output v valid key.bits s (c, o) lt origin from.1 in
        let may = may_carry-is v key.bits c o both.0 in
        let body = has_program (program_of v c) may.body in
        let program : Program = body.0 in
        let i : Instance = instance_for v c j in
        let replica : j < replicas_of v c = subst (λ n. j < n) (ap (senders_of v) origin) small in
        let hears : is_order_mode i.mode ≡ false = not_ordered v valid c key mode in
        let all : List Life = all_lives (x.lives c j) in
        let list : List Message = emitted_by i (x.logs c) (x.lives c j) o in
        let list_of_output : emitted_list w d x s j ≡ list =
        list_is s j lt ∙ ap (λ from. list_from from w d x (stream_at v s) s j) origin ∙ ap (λ (z : Instance). emitted_by z (x.logs c) (x.lives c j) o) (instance-wired v c j there replica) in
        let cut_at : list ≡ before ++ seal k count ∷ after = sym list_of_output ∙ e in
        let long : o < length i.outputs = subst (λ n. o < n) (sym (length-below (λ p. option_and_then (carried_places v) (stream_of v c p)) (length (component_at v c).outputs))) out in
        let sealed = seals_of_list program i body.1 hears o places (output_places v valid c o s j places lt origin carried) all (x.logs c) (x.lives c j) refl long before after k count cut_at in
        let none : NoRepeats (before ++ seal k count ∷ after) = subst (λ l. NoRepeats l) cut_at (no_repeats-emitted_by i (x.logs c) (x.lives c j) o) in
        let columns : (stream_at v s).columns ≡ (output_at v c o).columns = (valid.columns s lt).of_output (c, o) origin in
        let at : places ≡ key_places (output_at v c o).columns key.bits = named.2 ∙ ap (λ cs. key_places cs key.bits) columns in
        record {
          counts = sealed.counts;
          no_row = λ r h. false_from_ne_true (is_same_row (cells places r) k) (λ t.
              let is : cells (key_places (output_at v c o).columns key.bits) r ≡ k = ap (λ ps. cells ps r) (sym at) ∙ is_same_row-is (cells places r) k t in
              let in_list : Has r (rows_in list) = Has-rows_in r list (subst (λ l. Has (row r) l) (sym cut_at) (Has-append_right (row r) before (seal k count ∷ after) (inr h))) in
              let lived = Has-from_flat_map (life_rows program i (x.logs c) o) r all ((rows_of_list program i body.1 (x.logs c) (x.lives c j) o long).0 r in_list) in
              let there_too : Has r (rows_from program (empty_tables program) (timesteps i lived.0.heard) o) = subst (λ nows. Has r (rows_from program (empty_tables program) nows o)) {x = life_timesteps i (x.logs c) lived.0} {y = timesteps i lived.0.heard} (life_timesteps-hearing i (x.logs c) lived.0 hears) lived.2 in
              let here = same_rows v d x history holds c o j there replica out program body.1 key mode both.0 both.1 (fed_honestly c there key mode (λ port u u_lt goes. any_stream port u u_lt key mode goes) j)
              sealed.heard lived.0.heard
              (record { life = sealed.life; lived = sealed.lived; first = sealed.first })
              (record { life = lived.0; lived = lived.1; first = record { more = []; with_more = append-nil lived.0.heard } })
              k sealed.whole r is there_too in
              no_row_again before after (seal k count) r none (Has-from_rows_in r before (sealed.rows r here)) h);
          no_seal = λ other h. no_other_seal before after k count none other h;
        }

  honest_below : (n : ℕ) (u : ℕ) (output : End) → u < length v.streams → origin_of v u ≡ Some output → region_of v output.0 < n → IsHonestStream u
  honest_below zero u output lt origin small = absurd (omega arith)
  honest_below (suc n) u output lt origin small =
      output_stream output.0 output.1 u lt origin (λ t other t_lt t_origin below. honest_below n t other t_lt t_origin (omega (arith, below, small)))

  pub honest_stream : (s : ℕ) → s < length v.streams → IsHonestStream s
  honest_stream s lt = by_origin (origin_of v s) refl
    where
      by_origin : (from : Option End) → origin_of v s ≡ from → IsHonestStream s
      by_origin None e = source_stream s lt e
      by_origin (Some output) e = honest_below (suc (region_of v output.0)) s output lt e (omega arith)

  -- so the feeds of carrying ports are
  pub feeds_honest : (c : ℕ) → c < length v.components → (key : Attrs) → mode_key (mode_of v c) ≡ Some key → (j port : ℕ) → is_carrying (instance_for v c j) port ≡ true → IsFedHonestly w d x (instance_for v c j) port
  feeds_honest c there key mode = fed_honestly c there key mode (λ port u lt goes. honest_stream u lt)

-- the law
pub honest_law : HonestLaw
honest_law v d steps x s j places valid fits holds legal lt sends carried =
    honest_stream v d x (record { valid = valid; fits = fits; steps = steps; legal = legal }) holds s lt j places sends carried
