-- An emitted record is as wide as its stream, and has the values of a record of a source where the stream keeps to a dependency.
use Rattle.std.proofs.Common.{◌≡◌, ◌<◌, ◌≤◌, ℕ, Bool, true, not, ◌&&◌, ◌||◌, bit_or, Option, Some, List, [], ◌∷◌, ◌++◌, length, get_or, refl, ap, ◌∙◌, sym, subst, arith}
use Rattle.std.specs.Prelude.{is_none}
use Rattle.std.specs.List.{list_all}
use Rattle.std.proofs.lemmas.List.{length-map}
use Rattle.std.proofs.lemmas.Bool.{and_parts, and_from}
use Rattle.blz_value.specs.Members.{Has}
use Rattle.blz_value.specs.Record.{Row}
use Rattle.blz_value.proofs.Membership.{All-of_member, all_member}
use Rattle.blz_value.specs.declared.attrs.Fd.{Fd}
use Rattle.blz_value.specs.Bits.{bit_of, meets}
use Rattle.blz_value.specs.Closure.{within}
use Rattle.blz_value.proofs.Members.{in-within}
use Rattle.blz_value.proofs.Within.{within-trans, within-or_l, within-or_r}
use Rattle.bloom_forms.specs.declared.program.Program.{Program}
use Rattle.bloom_forms.specs.Program.{port_columns, output_columns}
use Rattle.bloom_forms.specs.ProgramStep.{outputs_of_step}
use Rattle.bloom_forms.specs.Step.{Sets, set_at}
use Rattle.bloom_forms.specs.Roots.{Roots}
use Rattle.topo_forms.specs.Data.{Data, IsData, source_data, has_both}
use Rattle.topo_forms.specs.Dependencies.{upholds, hands_on}
use Rattle.topo_forms.specs.Laws.{upholds_next}
use Rattle.topo_forms.specs.Messages.{row}
use Rattle.topo_forms.specs.Valid.{IsValid}
use Rattle.topo_forms.specs.View.{View, End, component_at, stream_at, output_at, origin_of, program_of, has_body, is_order, own_attrs, stream_attrs, stream_replicas, streams_into, source_count}
use Rattle.topo_forms.specs.Regions.{is_in_cycle}
use Rattle.topo_forms.proofs.Found.OneLevel.{upholds_law}
use Rattle.inbox.specs.Wiring.{wiring_of}
use Rattle.inbox.specs.Executions.{Execution, emitted_list}
use Rattle.inbox.specs.Agreement.{port_roots, value_at, IsTraced, IsCopiedFrom, HaveSameValues}
use Rattle.inbox.specs.Sent.{IsHistory}
use Rattle.inbox.specs.StreamLaws.{WidthLaw, TracedLaw}
use Rattle.inbox.proofs.Records.ByRank.{SentWith, OfSources, OfOutputs, by_rank}
use Rattle.inbox.proofs.Records.CopiedLaw.{copied_law}
use Rattle.inbox.proofs.Columns.Viewed.{runs, output_is, port_count, stream_is, are_arrivals}
use Rattle.inbox.proofs.Columns.Wide.{output_wide}
use Rattle.inbox.proofs.Streams.IntoPorts.{stream_into, attrs_into, goes_in}
use Rattle.bloom_forms.specs.Steps.{tables_after_steps, AreArrivals}
use Rattle.blz_value.proofs.Members.{member_small}

-- what an output that upholds a dependency and has all its columns says
pub record HandsOn (v : View) (fd : Fd) (c o : ℕ) : Type 0 where
  pub own : within (bit_or fd.from.bits fd.to.bits) (own_attrs (output_at v c o)) ≡ true
  pub before : list_all (upholds v fd) (streams_into v c) ≡ true

next_cases : (v : View) (fd : Fd) (s c o : ℕ) (from : Option End) → from ≡ Some (c, o) → has_both fd (stream_attrs v s).bits ≡ true → (not (has_both fd (stream_attrs v s).bits) || is_none from || (hands_on v fd from && list_all (upholds v fd) (streams_into v c))) ≡ true → HandsOn v fd c o
next_cases v fd s c o from e both holds =
    let some : (hands_on v fd (Some (c, o)) && list_all (upholds v fd) (streams_into v c)) ≡ true =
    subst (λ (z : Option End). (is_none z || (hands_on v fd z && list_all (upholds v fd) (streams_into v c))) ≡ true) e (subst (λ (b : Bool). (not b || is_none from || (hands_on v fd from && list_all (upholds v fd) (streams_into v c))) ≡ true) both holds) in
    let hands = (and_parts (hands_on v fd (Some (c, o))) (list_all (upholds v fd) (streams_into v c)) some).0 in
    let own = within (bit_or fd.from.bits fd.to.bits) (own_attrs (output_at v c o)) in
    let one = (and_parts (has_body v c) (not (is_order v c) && (not (is_in_cycle v c) && own)) hands).1 in
    let two = (and_parts (not (is_order v c)) (not (is_in_cycle v c) && own) one).1 in
    record {
      own = (and_parts (not (is_in_cycle v c)) own two).1;
      before = (and_parts (hands_on v fd (Some (c, o))) (list_all (upholds v fd) (streams_into v c)) some).1;
    }

-- a record that has the values of a traced one is traced
carry_on : (v : View) (d : Data) (fd : Fd) (columns others : Roots) (r q : Row) → IsTraced v d fd others q → HaveSameValues fd.from.bits columns r others q → HaveSameValues fd.to.bits columns r others q → IsTraced v d fd columns r
carry_on v d fd columns others r q t from to = record {
  source = t.source;
  is_source = t.is_source;
  has_all = t.has_all;
  origin = t.origin;
  there = t.there;
  same_from = λ a h. from a h ∙ t.same_from a h;
  same_to = λ a h. to a h ∙ t.same_to a h;
}

module _ (v : View) (d : Data) (valid : IsValid v) (fits : IsData v d) where
  -- what holds of each emitted record: its width, and where its values come from
  pub record IsFit (s : ℕ) (r : Row) : Type 0 where
    pub wide : length r ≡ length (stream_at v s).columns
    pub traced : (fd : Fd) → upholds v fd s ≡ true → has_both fd (stream_attrs v s).bits ≡ true → IsTraced v d fd (stream_at v s).columns r

  of_sources : OfSources v d valid IsFit
  of_sources s r within none h =
      let is_source : s < source_count v = (valid.numbered.sources s within).0 none in
      record {
        wide = All-of_member (λ (q : Row). length q ≡ length (stream_at v s).columns) (source_data d s).rows r (fits.fit s is_source).rows h;
        traced = λ fd up both. record {
          source = s;
          is_source = is_source;
          has_all = both;
          origin = r;
          there = h;
          same_from = λ a at. refl;
          same_to = λ a at. refl;
        };
      }

  -- ---- one output

  module _ (s c o : ℕ) (program : Program) (earlier : List Sets) (now : Sets) (r : Row) (inside : s < length v.streams) (from : origin_of v s ≡ Some (c, o)) (there : c < length v.components) (has : program_of v c ≡ Some program)
      (shape : (other : Sets) → Has other (earlier ++ now ∷ []) → length other ≡ length (component_at v c).ports)
      (came : (other : Sets) (port : ℕ) (q : Row) → Has other (earlier ++ now ∷ []) → Has q (set_at other port) → SentWith v d valid IsFit c port q)
      (stands : Has r (set_at (outputs_of_step program (tables_after_steps program earlier) now) o)) where
    abbrev nows : List Sets
    nows = earlier ++ now ∷ []

    arrivals : AreArrivals program nows
    arrivals =
        are_arrivals program nows (λ other h. shape other h ∙ port_count v valid c there program has)
        (λ other port q h at.
        let sent = came other port q h at in
        sent.holds.wide ∙ ap length (stream_is v valid c there program has port sent.stream sent.within sent.goes) ∙ length-map (get_or (port_columns program) port []) _)

    columns_are : (stream_at v s).columns ≡ (output_at v c o).columns
    columns_are = (valid.columns s inside).of_output (c, o) from

    wide : length r ≡ length (stream_at v s).columns
    wide =
        output_wide program (runs v valid c there program has).proper earlier now o r arrivals stands
        ∙ sym (length-map (get_or (output_columns program) o []) _) ∙ sym (ap length (columns_are ∙ output_is v valid c there program has o))

    copy : IsCopiedFrom v c o program nows r
    copy = copied_law v c o program earlier now r valid there has (valid.numbered.origins s (c, o) inside from).1 arrivals stands

    sent : SentWith v d valid IsFit c copy.port copy.copied
    sent = came copy.now copy.port copy.copied copy.came copy.arrived

    source_columns_are : (stream_at v sent.stream).columns ≡ port_roots v c copy.port
    source_columns_are = stream_into v valid c copy.port sent.stream sent.within sent.goes

    own_within : within (own_attrs (output_at v c o)) (stream_attrs v sent.stream).bits ≡ true
    own_within = subst (λ (n : ℕ). within (own_attrs (output_at v c o)) n ≡ true) (attrs_into v valid c copy.port sent.stream sent.within sent.goes) copy.has_all

    same_in : (set : ℕ) → within set (own_attrs (output_at v c o)) ≡ true → (a : ℕ) → meets (bit_of a) set ≡ true → value_at (stream_at v s).columns r a ≡ value_at (stream_at v sent.stream).columns copy.copied a
    same_in set inside_own a h =
        ap (λ (z : Roots). value_at z r a) columns_are
        ∙ copy.same a (in-within a set (own_attrs (output_at v c o)) (member_small a set h) h inside_own)
        ∙ sym (ap (λ (z : Roots). value_at z copy.copied a) source_columns_are)

    traced : (fd : Fd) → upholds v fd s ≡ true → has_both fd (stream_attrs v s).bits ≡ true → IsTraced v d fd (stream_at v s).columns r
    traced fd up both =
        let few : length v.streams < 65 = (let f : length v.streams ≤ 64 = valid.numbered.few_streams in omega (arith, f)) in
        let holds : upholds_next v fd (upholds v fd) s (Some (c, o)) ≡ true = subst (λ (z : Option End). upholds_next v fd (upholds v fd) s z ≡ true) from (sym (upholds_law v few fd s inside) ∙ up) in
        let hands = next_of fd both holds in
        let from_own = within-trans fd.from.bits (bit_or fd.from.bits fd.to.bits) (own_attrs (output_at v c o)) (within-or_l fd.from.bits fd.to.bits) hands.own in
        let to_own = within-trans fd.to.bits (bit_or fd.from.bits fd.to.bits) (own_attrs (output_at v c o)) (within-or_r fd.from.bits fd.to.bits) hands.own in
        let attrs = (stream_attrs v sent.stream).bits in
        let has_all = and_from (within fd.from.bits attrs) (within fd.to.bits attrs) (within-trans fd.from.bits (own_attrs (output_at v c o)) attrs from_own own_within) (within-trans fd.to.bits (own_attrs (output_at v c o)) attrs to_own own_within) in
        let up_before = all_member (upholds v fd) (streams_into v c) sent.stream hands.before (goes_in v c copy.port sent.stream sent.within sent.goes) in
        let t = sent.holds.traced fd up_before has_all in
        carry_on v d fd (stream_at v s).columns (stream_at v sent.stream).columns r copy.copied t (same_in fd.from.bits from_own) (same_in fd.to.bits to_own)
      where
        next_of : (fd : Fd) → has_both fd (stream_attrs v s).bits ≡ true → upholds_next v fd (upholds v fd) s (Some (c, o)) ≡ true → HandsOn v fd c o
        next_of fd both holds = next_cases v fd s c o (Some (c, o)) refl both (subst (λ (z : Option End). (not (has_both fd (stream_attrs v s).bits) || is_none z || (hands_on v fd (Some (c, o)) && list_all (upholds v fd) (streams_into v c))) ≡ true) from holds)

  of_outputs : OfOutputs v d valid IsFit
  of_outputs s c o program earlier now r inside from there has shape came stands = record {
    wide = wide s c o program earlier now r inside from there has shape came stands;
    traced = traced s c o program earlier now r inside from there has shape came stands;
  }

pub all_fit : (v : View) (d : Data) (x : Execution) (h : IsHistory v d x) (s i : ℕ) (r : Row) → s < length v.streams → i < stream_replicas v s → Has (row r) (emitted_list (wiring_of v) d x s i) → IsFit v d h.valid h.fits s r
all_fit v d x h = by_rank v d h.valid (IsFit v d h.valid h.fits) (of_sources v d h.valid h.fits) (of_outputs v d h.valid h.fits) h.steps x h.legal

pub width_law : WidthLaw
width_law v d x s i r h within sends sent = (all_fit v d x h s i r within sends sent).wide

pub traced_law : TracedLaw
traced_law v d x fd s i r h within sends up both sent = (all_fit v d x h s i r within sends sent).traced fd up both
