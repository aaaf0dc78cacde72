-- The contents of a protected output, or of one with confluent paths, are the one-step answer to all that arrives.
use Rattle.std.proofs.Common.{◌≡◌, ◌<◌, ◌^◌, ◌&&◌, ℕ, Bool, true, false, Option, None, Some, IfSome, List, [], ◌∷◌, length, map, refl, ap, ◌∙◌, sym, subst, inl, inr, ◌⊎◌}
use Rattle.std.specs.Prelude.{is_some}
use Rattle.std.specs.List.{list_any}
use Rattle.std.proofs.lemmas.Bool.{cases_Bool, true≢false}
use Rattle.blz_value.specs.Members.{Has, IsWithin, HaveEqualMembers}
use Rattle.blz_value.specs.Record.{Row}
use Rattle.blz_value.proofs.Membership.{Has-from_any, any_from_Has, Has-from_map, Has-get_or, Has-filter}
use Rattle.blz_value.specs.declared.attrs.Attrs.{Attrs}
use Rattle.blz_value.specs.declared.attrs.Fd.{Fd}
use Rattle.blz_value.specs.Closure.{within, closure}
use Rattle.blz_value.proofs.Least.{closure-least}
use Rattle.blz_value.proofs.Reached.{least-monotone}
use Rattle.blz_value.proofs.Within.{within-trans}
use Rattle.blz_value.proofs.MembersInOrder.{members_within}
use Rattle.bloom_forms.specs.declared.program.Program.{Program}
use Rattle.bloom_forms.specs.Program.{port_columns}
use Rattle.bloom_forms.specs.ProgramStep.{answer_of}
use Rattle.bloom_forms.specs.Step.{Sets, set_at}
use Rattle.bloom_forms.specs.declared.note.Note.{Note}
use Rattle.bloom_forms.specs.declared.note.Note.TheVariants.{CR, CW, OR, OW}
use Rattle.blz_value.proofs.SetLaws.{Has-set_of, Has-from_set_of}
use Rattle.bloom_forms.specs.Classes.{IsInClosure, of_class}
use Rattle.bloom_forms.specs.Ports.{AreSilentAt}
use Rattle.bloom_forms.specs.Runs.{rows_over, at_once}
use Rattle.bloom_forms.proofs.Split.ClassesLemmas.{from_class}
use Rattle.bloom_forms.proofs.Reach.ProperLemmas.{distinct_columns}
use Rattle.topo_forms.specs.Carried.{is_confluent, port_carries}
use Rattle.topo_forms.specs.Data.{Data, Holds}
use Rattle.topo_forms.specs.Dependencies.{usable_fds}
use Rattle.blz_value.specs.NumberSets.{below}
use Rattle.topo_forms.specs.Feeds.{Feed, no_feed}
use Rattle.topo_forms.specs.Messages.{row, rows_in}
use Rattle.topo_forms.specs.Valid.{IsCovered}
use Rattle.topo_forms.specs.View.{View, origin_of, program_of, is_order, mode_key, replicas_of, component_at, note_at, has_stream, goes_to, port_at, port_attrs, stream_numbers}
use Rattle.topo_forms.proofs.Regions.Spreading.{in_below}
use Rattle.inbox.specs.Instances.{Instance}
use Rattle.inbox.specs.Timesteps.{timesteps}
use Rattle.inbox.specs.Lives.{Life, all_lives}
use Rattle.inbox.specs.Growth.{feed_numbered}
use Rattle.inbox.specs.Wiring.{Wiring, wiring_of, instance_at, instance_for}
use Rattle.inbox.proofs.Lists.Growing.{continues_itself}
use Rattle.inbox.proofs.WiringLemmas.{instance-ports, port_of-feed}
use Rattle.inbox.proofs.TimestepLemmas.Entries.{Has-rows_in, Has-from_rows_in}
use Rattle.inbox.specs.Executions.{Execution, emitted_list, contents}
use Rattle.inbox.specs.Completeness.{IsComplete}
use Rattle.inbox.specs.Sent.{IsHistory}
use Rattle.inbox.specs.Agreement.{HaveKey}
use Rattle.inbox.proofs.Streams.IntoPorts.{end_there}
use Rattle.inbox.proofs.Columns.Attributes.{within-small, numbers_are_roots}
use Rattle.inbox.proofs.Records.ArrivingLaw.{arrivals_law}
use Rattle.inbox.proofs.Dependencies.JointLaw.{keyed_law}
use Rattle.confluence.specs.Complete.{contents_into}
use Rattle.confluence.specs.LabelMeaning.{HasConfluentPaths, IsPath, IsGuarded}
use Rattle.confluence.specs.Partitions.{IsFed, IsSealing, AreCarrying, IsAtOnce}
use Rattle.confluence.proofs.Contents.Heard.{at_place, in_into, from_into}
use Rattle.confluence.proofs.Honest.PartitionRecords.{restricts}
use Rattle.confluence.proofs.Honest.Partitions.{IsRestriction}
use Rattle.confluence.proofs.Determined.Parts.{IsPart, by_parts}
use Rattle.confluence.proofs.Determined.Rows.{AreInside, IsDetermined, from_once, once_inside, confluent_part, silent_part, IsOpen, apart_part}
use Rattle.confluence.proofs.Contents.Instances.{inside, instance_is, determined_contents}
use Rattle.confluence.proofs.Determined.Notes.{covers_o, covers_some, covers_read, not_o}
use Rattle.confluence.proofs.Contents.Arriving.{runs, ports_same, output_column, note_covers, arrives_over, life_inside, inside_sent, long_all, long_life, all_inside}
use Rattle.bloom_forms.specs.Given.{AreAllC, is_o, is_w}
use Rattle.bloom_forms.specs.Note.{own_gate}
use Rattle.blz_value.specs.Bits.{members}
use Rattle.blz_value.proofs.Booleans.{and_true, both_true}
use Rattle.blz_value.proofs.Ranges.{Has-below as from_below}
use Rattle.bloom_forms.proofs.Ports.Rules.{w_some}

-- The plan: the contents are the rows over the lives of an instance. Of each life the rows of a part have
-- to be among those of all at once, and of the last life, which heard all, they have to be these. Where
-- all that a part is given is C, the confluent law says so. Where it is O and nothing arrives at O ports,
-- there are no rows. Else the output is protected: its rows go by the values of the key, of each value
-- nothing or all at once, and the records of one value agree on what comes at carrying ports.

-- a key in the closure of a gate is in that of a larger one
key_closed : (key gate own : ℕ) (fds : List Fd) → within gate own ≡ true → within key (closure gate fds) ≡ true → IsInClosure (members key) own fds
key_closed key gate own fds smaller lies attribute h =
    members_within key (closure own fds) (within-trans key (closure gate fds) (closure own fds) lies (least-monotone gate own fds (closure gate fds) (closure own fds) smaller (closure-least gate fds) (closure-least own fds))) attribute h

-- a port has the columns of a key, and it carries the key or what it is given isn't W
record Waits (v : View) (c port : ℕ) (key : Attrs) (given : Option Note) : Type 0 where
  columns : within key.bits (port_attrs v c port).bits ≡ true
  carrying : (port_carries v key.bits c port ≡ true) ⊎ (is_w given ≡ false)

-- what is O is there
o_used : (given : Option Note) → is_o given ≡ true → is_some given ≡ true
o_used None o = cc
o_used (Some note) o = refl

-- an O note isn't confluent
gated_o : (note : Note) (gate : Attrs) → own_gate note ≡ Some gate → is_confluent note ≡ true → ⊥
gated_o CR gate is t = cc
gated_o CW gate is t = cc
gated_o (OR own) gate is t = cc
gated_o (OW own) gate is t = cc

-- the gate of what is given is the part's
gated_is : (given : Option Note) (one : Note) (own : Attrs) (gate : ℕ) → given ≡ Some one → own_gate one ≡ Some own → IfSome given (λ note. IfSome (own_gate note) (λ a. a.bits ≡ gate)) → own.bits ≡ gate
gated_is given one own gate is gate_is h =
    let inner : IfSome (own_gate one) (λ a. a.bits ≡ gate) = subst (λ (g : Option Note). IfSome g (λ note. IfSome (own_gate note) (λ a. a.bits ≡ gate))) is h in
    subst (λ (g : Option Attrs). IfSome g (λ a. a.bits ≡ gate)) gate_is inner

pub no_rows : (xs : List Row) → ((r : Row) → ¬ Has r xs) → xs ≡ []
no_rows [] none = refl
no_rows (x ∷ xs) none = absurd (none x (inl refl))

none_passes : (test : ℕ → Bool) (count n : ℕ) → list_any test (below count) ≡ false → n < count → test n ≡ false
none_passes test count n none lt = elim (cases_Bool (test n)) [
  | inl t ↦ absurd (true≢false (sym (any_from_Has test n (below count) (in_below count n lt) t) ∙ none))
  | inr f ↦ f
]

module _ (v : View) (d : Data) (x : Execution) (history : IsHistory v d x) (s c o j : ℕ) (stands : s < length v.streams) (origin : origin_of v s ≡ Some (c, o)) (sender : j < replicas_of v c)
    (program : Program) (body : program_of v c ≡ Some program) (unordered : is_order v c ≡ false) where
  abbrev w : Wiring
  w = wiring_of v

  abbrev i : Instance
  i = instance_at w c j

  abbrev all : Sets
  all = contents_into w d x c j

  abbrev at : (c < length v.components) × (o < length (component_at v c).outputs)
  at = inside v d x history.valid s c o j stands origin sender

  abbrev count : ℕ
  count = length (port_columns program)

  below_ports : (port : ℕ) → port < count → port < length (component_at v c).ports
  below_ports port lt = subst (λ (n : ℕ). port < n) (ports_same v d x history s c o j stands origin sender program body unordered) lt

  over_stream : (port : ℕ) (r : Row) → Has r (set_at all port) → has_stream v c port ≡ true
  over_stream = arrives_over v d x history s c o j stands origin sender program body unordered

  -- nothing arrives at a port without a stream
  no_stream_silent : (nows : List Sets) → AreInside nows all → (now : Sets) → Has now nows → (port : ℕ) → has_stream v c port ≡ false → set_at now port ≡ []
  no_stream_silent nows into now came port none = no_rows (set_at now port) (λ r h. true≢false (sym (over_stream port r (into now port r came h)) ∙ none))

  abbrev into_life : (life : Life) → Has life (all_lives (x.lives c j)) → AreInside (timesteps i life.heard) all
  into_life life of_life = life_inside v d x history s c o j stands origin sender program body unordered life of_life

  abbrev into_all : AreInside (all ∷ []) all
  into_all = all_inside v d x history s c o j stands origin sender program body unordered

  -- the contents where each part is determined in each life
  pub contents_by_parts : IsComplete w d x
      → ((rows : Sets → Sets → List Row) (given : ℕ → Option Note) (gate : ℕ) → IsPart v program o rows given gate → (life : Life) → Has life (all_lives (x.lives c j)) → IsDetermined program (λ nows. rows_over program rows nows) (timesteps i life.heard) all)
      → contents w d x s j ≡ set_at (answer_of program all) o
  contents_by_parts complete each =
      let run = runs v d x history s c o j stands origin sender program body unordered in
      let whole = by_parts v program o run.proper (distinct_columns program run.distinct) (output_column v d x history s c o j stands origin sender program body unordered) in
      determined_contents v d x history.valid s c o j stands origin sender program body unordered run.proper complete (λ life of_life. record {
        within = whole (timesteps i life.heard) (all ∷ []) (λ rows given gate part. (each rows given gate part life of_life).within);
        whole = λ full. whole (all ∷ []) (timesteps i life.heard) (λ rows given gate part. (each rows given gate part life of_life).whole full);
      })

  -- ---- one part

  module _ (rows : Sets → Sets → List Row) (given : ℕ → Option Note) (gate : ℕ) (part : IsPart v program o rows given gate) where
    abbrev over : List Sets → List Row
    over nows = rows_over program rows nows

    covered : (port : ℕ) → port < length (component_at v c).ports → IsCovered (note_at v c port o) (given port)
    covered port lt = note_covers v d x history s c o j stands origin sender program body unordered rows given gate part port lt

    all_c : ((port : ℕ) → port < count → is_o (given port) ≡ false) → AreAllC program given
    all_c none port lt = by (given port) refl
      where
        by : (use_of : Option Note) → given port ≡ use_of → IfSome use_of (λ note. own_gate note ≡ None)
        by None e = tt
        by (Some note) e = not_o (given port) note (none port lt) e

    -- where all notes are C
    pub c_part : ((port : ℕ) (note : Note) → port < count → note_at v c port o ≡ Some note → is_confluent note ≡ true) → AreAllC program given
    c_part confluent = all_c (λ port lt. elim (cases_Bool (is_o (given port))) [
      | inr f ↦ f
      | inl t ↦ absurd (
          let g = covers_o (note_at v c port o) (given port) (covered port (below_ports port lt)) t in
          let no = confluent port g.note lt g.noted in
          gated_o g.note g.gate g.gate_is no)
    ])

    -- where nothing arrives at all there are no rows
    pub nothing_part : (nows : List Sets) → ((now : Sets) (port : ℕ) (r : Row) → Has now nows → ¬ Has r (set_at now port)) → IsWithin (over nows) (over [])
    nothing_part nows none r h = elim (cases_Bool (list_any (λ port. is_o (given port)) (below count))) [
      | inr no_o ↦
          let law = part.confluent (all_c (λ port lt. none_passes (λ other. is_o (given other)) count port no_o lt)) in
          subst (λ (l : List Row). Has r l) (sym (law.same []))
          (law.grows (at_once program nows) (at_once program []) (once_inside program nows (at_once program []) (λ now port q came q_in. absurd (none now port q came q_in))) r (subst (λ (l : List Row). Has r l) (law.same nows) h))
      | inl some ↦
          let q = Has-from_any (λ port. is_o (given port)) (below count) some in
          absurd (subst (λ (l : List Row). Has r l) (part.silent q.0 (from_below count q.0 q.1) q.2 nows (λ now came port lt t. no_rows (set_at now port) (λ z z_in. none now port z came z_in))) h)
    ]

    -- where no port that is O has a stream
    quiet_part : (port : ℕ) → port < count → is_o (given port) ≡ true → ((other : ℕ) → other < count → is_o (given other) ≡ true → has_stream v c other ≡ false)
        → (life : Life) → Has life (all_lives (x.lives c j)) → IsDetermined program over (timesteps i life.heard) all
    quiet_part port lt o_there none life of_life =
        let silent : (nows : List Sets) → AreInside nows all → AreSilentAt program (λ other. is_o (given other)) nows = λ nows into now came other below t. no_stream_silent nows into now came other (none other below t) in
        silent_part v program o rows given gate part port lt o_there (timesteps i life.heard) all (silent (timesteps i life.heard) (into_life life of_life)) (silent (all ∷ []) into_all)

    -- where one has, and the output is protected
    module _ (holds : Holds v d) (guard : IsGuarded v (c, o)) where
      abbrev key : Attrs
      key = guard.key

      waits_at : (port : ℕ) → port < length (component_at v c).ports → is_some (given port) ≡ true → has_stream v c port ≡ true → Waits v c port key (given port)
      waits_at port lt t over_it =
          let n = covers_some (note_at v c port o) (given port) (covered port lt) t in
          let waits = guard.waits port n.0 over_it n.1 in record {
            columns = waits.columns;
            carrying = elim waits.carrying [ inl carries ↦ inl carries | inr reads ↦ inr (covers_read (note_at v c port o) (given port) n.0 (covered port lt) n.1 reads) ];
          }

      has_key : HaveKey v c (λ port. is_some (given port)) (members key.bits)
      has_key port attribute t over_it h =
          members_within key.bits (port_attrs v c port).bits (waits_at port (end_there v history.valid c port over_it).1 t over_it).columns attribute h

      closed_at : (port : ℕ) → port < count → is_o (given port) ≡ true → has_stream v c port ≡ true → IsInClosure (members key.bits) gate (usable_fds v c)
      closed_at port lt o_there over_it =
          let g = covers_o (note_at v c port o) (given port) (covered port (below_ports port lt)) o_there in
          let own_gate : g.own.bits ≡ gate = gated_is (given port) g.one g.own gate g.given_is g.own_is (part.gated port) in
          subst (λ (n : ℕ). IsInClosure (members key.bits) n (usable_fds v c)) own_gate
          (key_closed key.bits g.gate.bits g.own.bits (usable_fds v c) g.inside ((guard.waits port g.note over_it g.noted).gated g.gate g.gate_is))

      -- the key is a set of numbers below 64, as columns are
      key_small : (port : ℕ) → port < count → is_o (given port) ≡ true → has_stream v c port ≡ true → key.bits < 2 ^ 64
      key_small port lt o_there over_it =
          let columns = (waits_at port (below_ports port lt) (o_used (given port) o_there) over_it).columns in
          within-small key.bits (map Some (port_at v c port).columns) (ap (within key.bits) (sym (numbers_are_roots (port_at v c port).columns)) ∙ columns)

      abbrev seen : Instance
      seen = instance_for v c j

      seen_is : i ≡ seen
      seen_is = instance_is v d x history.valid s c o j stands origin sender

      carrying : AreCarrying v c key given
      carrying port writes over_it = elim (waits_at port (end_there v history.valid c port over_it).1 (w_some (given port) writes) over_it).carrying [
        | inl carries ↦ carries
        | inr reads ↦ absurd (true≢false (sym writes ∙ reads))
      ]

      module _ (small : key.bits < 2 ^ 64) (life : Life) (of_life : Has life (all_lives (x.lives c j))) (value : Row) where
        abbrev of : Sets → Sets
        of now = of_class v.attributes program (members key.bits) (λ values. values) value now

        only : IsRestriction seen of value
        only = restricts v c j key (ap mode_key guard.sealed) history.valid at.0 program body small value

        same_steps : timesteps seen life.heard ≡ timesteps i life.heard
        same_steps = ap (λ (z : Instance). timesteps z life.heard) (sym seen_is)

        below_seen : (port : ℕ) → port < count → port < length seen.ports
        below_seen port lt = subst (λ (n : ℕ). port < n) (sym (instance-ports v c j)) (below_ports port lt)

        sealing : IsSealing v d x c j key life.heard
        sealing = record { history = history; holds = holds; there = at.0; replica = sender; mode = guard.sealed; small = small; lived = record { life = life; lived = of_life; first = continues_itself life.heard } }

        fed_into : (port : ℕ) (r : Row) → port < length seen.ports → IsFed w d x seen port r → Has r (set_at all port)
        fed_into port r lt f =
            let feed : Feed = feed_numbered seen f.feed in
            let same : feed.port ≡ port = sym (port_of-feed seen f.feed f.within) ∙ f.at in
            let list = emitted_list w d x feed.stream feed.sender in
            let there : Has feed i.feeds = subst (λ (z : Instance). Has feed z.feeds) (sym seen_is) (Has-get_or seen.feeds f.feed no_feed f.within) in
            let lt_i : feed.port < length i.ports = subst (λ (z : Instance). feed.port < length z.ports) (sym seen_is) (subst (λ (p : ℕ). p < length seen.ports) (sym same) lt) in
            subst (λ (p : ℕ). Has r (set_at all p)) same (in_into w d x c j feed r there lt_i (Has-set_of r (rows_in list) (Has-rows_in r list f.sent)))

        into_fed : (port : ℕ) (r : Row) → Has r (set_at all port) → IsFed w d x seen port r
        into_fed port r h =
            let f = (from_into w d x c j port r h).1 in
            let n = at_place f.feed seen.feeds no_feed (subst (λ (z : Instance). Has f.feed z.feeds) seen_is f.of_feed) in
            let list = emitted_list w d x f.feed.stream f.feed.sender in
            let sent : Has (row r) list = Has-from_rows_in r list (Has-from_set_of r (rows_in list) f.sent) in
            record {
              feed = n.0;
              within = n.1;
              at = port_of-feed seen n.0 n.1 ∙ ap (λ (g : Feed). g.port) n.2 ∙ f.port_is;
              sent = subst (λ (g : Feed). Has (row r) (emitted_list w d x g.stream g.sender)) (sym n.2) sent;
            }

        opened : IsAtOnce v d x c j key program life.heard value over → IsOpen v program o rows given gate part (members key.bits) (timesteps i life.heard) all value
        opened open_ = record {
          same = subst (λ (nows : List Sets). over (map of nows) ≡ over (at_once program (map of nows) ∷ [])) same_steps open_.rows;
          full = λ port lt writes. elim (cases_Bool (has_stream v c port)) [
            | inl over_it ↦
                let both = λ (r : Row). open_.carried port r (below_ports port lt) (carrying port writes over_it) in
                subst (λ (nows : List Sets). HaveEqualMembers (set_at (at_once program (map of nows)) port) (set_at (of all) port)) same_steps (
                  λ r h. let f = (both r).0 h in only.kept all port r (below_seen port lt) (fed_into port r (below_seen port lt) f.0) f.1,
                  λ r h. let k = only.chosen all port r h in (both r).1 (into_fed port r k.1, k.2),
                )
            | inr none ↦ (
              λ r h.
                  let m = from_once program (map of (timesteps i life.heard)) port r lt h in
                  let n = Has-from_map of m.0 (timesteps i life.heard) m.1 in
                  let f = from_class v.attributes program (members key.bits) (λ values. values) value n.0 port r (subst (λ (z : Sets). Has r (set_at z port)) (sym n.2) m.2) in
                  absurd (true≢false (sym (over_stream port r (into_life life of_life n.0 port r n.1 f.stands)) ∙ none)),
              λ r h. absurd (true≢false (sym (over_stream port r (from_class v.attributes program (members key.bits) (λ values. values) value all port r h).stands) ∙ none)),
            )
          ];
        }

        by_value : AreSilentAt program (λ port. is_some (given port)) (map of (timesteps i life.heard)) ⊎ IsOpen v program o rows given gate part (members key.bits) (timesteps i life.heard) all value
        by_value = elim (part.partitions d x c j key life.heard value sealing body carrying) [
          | inl waiting ↦ inl (λ now came port lt t. subst (λ (nows : List Sets). (z : Sets) → Has z (map of nows) → (p : ℕ) → set_at z p ≡ []) same_steps waiting.silent now came port)
          | inr open_ ↦ inr (opened open_)
        ]

      guarded_part : (port : ℕ) → port < count → is_o (given port) ≡ true → has_stream v c port ≡ true
          → (life : Life) → Has life (all_lives (x.lives c j)) → IsDetermined program over (timesteps i life.heard) all
      guarded_part port lt o_there over_it life of_life =
          let nows : List Sets = timesteps i life.heard in
          let into : AreInside nows all = into_life life of_life in
          let sent = inside_sent v d x history s c o j stands origin sender program body unordered in
          apart_part v program o rows given gate part (members key.bits) nows all port lt o_there (usable_fds v c) (record {
            arrivals = arrivals_law v d x c program nows history at.0 body (long_life v d x history s c o j stands origin sender program body unordered life) (sent nows into);
            all_arrivals = arrivals_law v d x c program (all ∷ []) history at.0 body
                (λ now h. elim h [ inl e ↦ ap length (sym e) ∙ long_all v d x history s c o j stands origin sender program body unordered | inr never ↦ absurd never ]) (sent (all ∷ []) into_all);
            keyed = keyed_law v d x c program nows (λ other. is_some (given other)) (members key.bits) history holds at.0 body (sent nows into) has_key;
            all_keyed = keyed_law v d x c program (all ∷ []) (λ other. is_some (given other)) (members key.bits) history holds at.0 body (sent (all ∷ []) into_all) has_key;
            closed = closed_at port lt o_there over_it;
            each = λ value. by_value (key_small port lt o_there over_it) life of_life value;
          }) into

    -- the cases
    pub part_determined : Holds v d → IsGuarded v (c, o) ⊎ HasConfluentPaths v (c, o)
        → (life : Life) → Has life (all_lives (x.lives c j)) → IsDetermined program over (timesteps i life.heard) all
    part_determined holds kept life of_life =
        elim (cases_Bool (list_any (λ port. is_o (given port)) (below count))) [
          | inr none ↦ confluent_part v program o rows given gate part (all_c (λ port lt. none_passes (λ other. is_o (given other)) count port none lt)) (timesteps i life.heard) all (into_life life of_life)
          | inl some ↦
              let q = Has-from_any (λ port. is_o (given port)) (below count) some in
              let q_lt = from_below count q.0 q.1 in
              elim (cases_Bool (list_any (λ port. is_o (given port) && has_stream v c port) (below count))) [
                | inr quiet ↦ quiet_part q.0 q_lt q.2 (λ other below_it t. no_stream other (none_passes (λ port. is_o (given port) && has_stream v c port) count other quiet below_it) t) life of_life
                | inl asked ↦
                    let p = Has-from_any (λ port. is_o (given port) && has_stream v c port) (below count) asked in
                    let p_lt = from_below count p.0 p.1 in
                    let both = both_true (is_o (given p.0)) (has_stream v c p.0) p.2 in
                    elim kept [
                      | inl guard ↦ guarded_part holds guard p.0 p_lt both.0 both.1 life of_life
                      | inr confluent ↦
                          let g = covers_o (note_at v c p.0 o) (given p.0) (covered p.0 (below_ports p.0 p_lt)) both.0 in
                          let st = Has-from_any (goes_to v c p.0) (stream_numbers v) both.1 in
                          let path : IsPath v (c, o) p.0 g.note st.0 = record { noted = g.noted; leads = Has-filter (goes_to v c p.0) st.0 (stream_numbers v) st.1 st.2 } in
                          absurd (gated_o g.note g.gate g.gate_is (confluent p.0 g.note st.0 path))
                    ]
              ]
        ]
      where
        no_stream : (other : ℕ) → (is_o (given other) && has_stream v c other) ≡ false → is_o (given other) ≡ true → has_stream v c other ≡ false
        no_stream other none t = elim (cases_Bool (has_stream v c other)) [
          | inl yes_it ↦ absurd (true≢false (sym (and_true (is_o (given other)) (has_stream v c other) t yes_it) ∙ none))
          | inr no_it ↦ no_it
        ]

  -- the contents of a guarded output, or of one with confluent paths
  pub determined_output : Holds v d → IsGuarded v (c, o) ⊎ HasConfluentPaths v (c, o) → IsComplete w d x
      → contents w d x s j ≡ set_at (answer_of program all) o
  determined_output holds kept complete =
      contents_by_parts complete (λ rows given gate part life of_life. part_determined rows given gate part holds kept life of_life)
