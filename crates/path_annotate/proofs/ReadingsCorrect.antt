-- What the rules of a checked module read, by numbers and by names.
use Rattle.std.proofs.Common.{◌≡◌, ◌≤◌, ◌<◌, ◌&&◌, inl, inr, Option, None, Some, ℕ, Bool, true, false, not, if◌then◌else◌, List, map, filter, length, bit_and, refl, ap, ◌∙◌, sym, arith}
use Rattle.std.specs.Cmp.{first_so, second_so, both_ways}
use Rattle.std.specs.Option.{option_map_or}
use Rattle.std.specs.List.{list_all, flat_map, enumerate_from}
use Rattle.std.proofs.lemmas.Simd.{map-map}
use Rattle.std.proofs.lemmas.Bool.{true≢false, cases_Bool}
use Rattle.blz_value.specs.Members.{Has}
use Rattle.blz_value.proofs.Membership.{Has-filter, Has-from_filter, all_member, all_from}
use Rattle.blz_value.specs.declared.attrs.Fd.{Fd}
use Rattle.blz_value.specs.Bits.{bit_of, meets}
use Rattle.blz_value.specs.Closure.{closure}
use Rattle.blz_value.proofs.Members.{meets-some, some-meets, bit-in, in-bit}
use Rattle.bloom_forms.specs.declared.module.Kind.{Kind}
use Rattle.bloom_forms.specs.declared.module.Kind.TheVariants.{Input, Output, Table, Scratch}
use Rattle.bloom_forms.specs.declared.module.Collection.{Collection}
use Rattle.bloom_forms.specs.declared.numbered.NumberedRule.{NumberedRule}
use Rattle.bloom_forms.specs.Form.{RuleForm, Accepted}
use Rattle.bloom_forms.specs.Kinds.{same_kind, has_kind, is_input, is_scratch}
use Rattle.bloom_forms.specs.Lookup.{collection_number, declared, kind_of}
use Rattle.bloom_forms.specs.Numbered.{IsNumberedRule, AreNumbered}
use Rattle.bloom_forms.specs.Query.{Name, Query}
use Rattle.bloom_forms.specs.Reads.{set_of_name, named, arrows, scratch_arrows, scratch_arrow, cone, direct, kind_set}
use Rattle.blz_value.specs.Arrows.{arrow_from, with_all, bit_if}
use Rattle.blz_value.proofs.Lists.{map_same as map-same}
use Rattle.bloom_forms.specs.Plain.{is_free, is_plain}
use Rattle.bloom_forms.proofs.Reach.Unfolding.{number_small, bit_small}
use Rattle.bloom_forms.proofs.Collections.Chosen.{from_chosen, in_chosen, chosen-lt}
use Rattle.bloom_forms.proofs.Collections.KindSets.{in_kind_set, from_kind_set, kind-named, named-kind}
use Rattle.path_facts.specs.declared.readings.Graph.{Graph}
use Rattle.path_facts.specs.declared.readings.Reading.{Reading}
use Rattle.path_facts.specs.declared.readings.RuleFacts.{RuleFacts}
use Rattle.path_annotate.specs.Code.ByNumber.{facts_by}
use Rattle.bloom_forms.specs.ClosedForms.{bad_tables, is_bad_rule, spoils}
use Rattle.bloom_forms.specs.Gates.{all_attributes, in_all, operator_sets, bodies_read, query_gate}
use Rattle.bloom_forms.specs.Good.{all_tables}
use Rattle.bloom_forms.specs.HeadRoots.{roots_named, roots_table}
use Rattle.path_annotate.specs.Code.Readings.{facts_of, rule_reading, readings_of}
use Rattle.path_facts.specs.Readings.{rule_arrow, arrow_through, stopped, graph_of, gate_among, reading_from, readings_from, bad_among}
use Rattle.path_facts.proofs.GatesLemmas.{in_all-append, in_all-filter, in_all-flat_map}
use Rattle.path_annotate.proofs.ByNumberLemmas.{named-same, plain-same, gate-same}
use Rattle.path_annotate.proofs.ByNumberCorrect.{map-numbered}

-- ---- what each rule says by itself

module _ (names : List Name) (a : Accepted) where
  facts-one : (form : RuleForm) (rule : NumberedRule) → IsNumberedRule a.form.collections form rule → facts_by (all_attributes names) (roots_table names a) rule ≡ facts_of names a form
  facts-one form rule is = λ i. record {
    head = is.head i;
    named = record { bits = named-same a.form.collections form.1 rule.body is.body i };
    is_plain = plain-same a.form.collections form.1 rule.body is.body i;
    gate = record { bits = gate-same a.form.collections (roots_table names a) (all_attributes names) form.1 rule.body is.body i };
  }

  pub facts-same : (rules : List NumberedRule) → AreNumbered a.form.collections a.form.rules rules → map (facts_by (all_attributes names) (roots_table names a)) rules ≡ map (facts_of names a) a.form.rules
  facts-same rules are = map-numbered a.form.collections (facts_by (all_attributes names) (roots_table names a)) (facts_of names a) facts-one a.form.rules rules are

-- ---- what the rules say of the collections

-- a name is that of a collection of a kind exactly where its number is in the set of the kind
module _ (cs : List Collection) (few : length cs ≤ 32) where
  number-lt : (name : Name) → collection_number cs name < 64
  number-lt name = omega (arith, number_small cs name, few)

  kind-in_set : (kind : Kind) (name : Name) → meets (bit_of (collection_number cs name)) (kind_set (same_kind kind) cs) ≡ has_kind (same_kind kind) cs name
  kind-in_set kind name = both_ways _ _ to from
    where
      n : ℕ
      n = collection_number cs name

      to : meets (bit_of n) (kind_set (same_kind kind) cs) ≡ true → has_kind (same_kind kind) cs name ≡ true
      to h = let found = from_kind_set (same_kind kind) cs n (number-lt name) h in named-kind (same_kind kind) cs name found.0 found.1 found.2

      from : has_kind (same_kind kind) cs name ≡ true → meets (bit_of n) (kind_set (same_kind kind) cs) ≡ true
      from h = let found = kind-named (same_kind kind) cs name h in in_kind_set (same_kind kind) cs n found.0 (number-lt name) found.1 found.2

input-is : (kind : Kind) → same_kind Input kind ≡ is_input kind
input-is Input = refl
input-is Output = refl
input-is Table = refl
input-is Scratch = refl

inputs-same : (cs : List Collection) → kind_set (same_kind Input) cs ≡ kind_set is_input cs
inputs-same cs = ap (with_all 0) (map-same (λ (place : ℕ × Collection). bit_if (same_kind Input place.1.kind) place.0) (λ (place : ℕ × Collection). bit_if (is_input place.1.kind) place.0) (λ place. ap (λ (b : Bool). bit_if b place.0) (input-is place.1.kind)) (enumerate_from 0 cs))

scratch-is : (o : Option Kind) → option_map_or (same_kind Scratch) o false ≡ option_map_or is_scratch o false
scratch-is None = refl
scratch-is (Some Input) = refl
scratch-is (Some Output) = refl
scratch-is (Some Table) = refl
scratch-is (Some Scratch) = refl

not_both : (x y : Bool) → (x && not y) ≡ true → (x ≡ true) × (y ≡ false)
not_both true false e = (refl, refl)
not_both true true e = absurd (true≢false (sym e))
not_both false y e = absurd (true≢false (sym e))

-- whether an expression is free of group and notin, by the set of the scratches that have a rule which isn't plain
module _ (cs : List Collection) (few : length cs ≤ 32) (forms : List RuleForm) (scratches : ℕ) (is : (name : Name) → meets (bit_of (collection_number cs name)) scratches ≡ has_kind is_scratch cs name) where
  -- a rule of a scratch that isn't plain
  abbrev stops : RuleForm → Bool
  stops rule = meets (bit_of (collection_number cs rule.0)) scratches && not (is_plain rule.1)

  abbrev number : RuleForm → ℕ
  number rule = collection_number cs rule.0

  abbrev stopped_set : ℕ
  stopped_set = with_all 0 (map (λ rule. bit_if (stops rule) (number rule)) forms)

  -- a rule of a scratch that is read
  abbrev is_read : (reads : ℕ) → RuleForm → Bool
  is_read reads rule = has_kind is_scratch cs rule.0 && meets (set_of_name cs rule.0) reads

  none_stopped : (reads : ℕ) → not (meets stopped_set reads) ≡ true → list_all (λ rule. is_plain rule.1) (filter (is_read reads) forms) ≡ true
  none_stopped reads none = all_from (λ rule. is_plain rule.1) (filter (is_read reads) forms) each
    where
      each : (rule : RuleForm) → Has rule (filter (is_read reads) forms) → is_plain rule.1 ≡ true
      each rule h = elim (cases_Bool (is_plain rule.1)) [
        | inl plain ↦ plain
        | inr bad ↦
            let kept = Has-from_filter (is_read reads) rule forms h in
            let of_scratch = first_so (has_kind is_scratch cs rule.0) (meets (set_of_name cs rule.0) reads) kept.1 in
            let there = second_so (has_kind is_scratch cs rule.0) (meets (set_of_name cs rule.0) reads) kept.1 in
            let passes : stops rule ≡ true = λ i. (is rule.0 ∙ of_scratch) i && not (bad i) in
            let lt = number-lt cs few rule.0 in
            let stands = in_chosen stops number forms rule kept.0 passes lt in
            let met = some-meets stopped_set reads (number rule) (in-bit (number rule) stopped_set lt stands) (in-bit (number rule) reads lt there) in
            absurd (true≢false (sym none ∙ ap not met))
      ]

  all_plain : (reads : ℕ) → list_all (λ rule. is_plain rule.1) (filter (is_read reads) forms) ≡ true → not (meets stopped_set reads) ≡ true
  all_plain reads all = elim (cases_Bool (meets stopped_set reads)) [
    | inr none ↦ ap not none
    | inl met ↦
        let bit = meets-some stopped_set reads met in
        let lt = bit_small stopped_set bit.0 (chosen-lt stops number forms) bit.1.0 in
        let found = from_chosen stops number forms bit.0 lt (bit-in bit.0 stopped_set lt bit.1.0) in
        let rule = found.element in
        let both = not_both (meets (bit_of (number rule)) scratches) (is_plain rule.1) found.passes in
        let read : meets (set_of_name cs rule.0) reads ≡ true = ap (λ (n : ℕ). meets (bit_of n) reads) found.is ∙ bit-in bit.0 reads lt bit.1.1 in
        let kept = Has-filter (is_read reads) rule forms found.stands (λ i. (sym (is rule.0) ∙ both.0) i && read i) in
        absurd (true≢false (sym (all_member (λ rule. is_plain rule.1) (filter (is_read reads) forms) rule all kept) ∙ both.1))
  ]

  pub free-same : (reads : ℕ) → not (meets stopped_set reads) ≡ list_all (λ rule. is_plain rule.1) (filter (is_read reads) forms)
  free-same reads = both_ways _ _ (none_stopped reads) (all_plain reads)

-- ---- a whole reading

module _ (names : List Name) (a : Accepted) (few : length a.form.collections ≤ 32) where
  abbrev all : ℕ
  all = all_attributes names

  abbrev facts : List RuleFacts
  facts = map (facts_of names a) a.form.rules

  abbrev scratches : ℕ
  scratches = kind_set (same_kind Scratch) a.form.collections

  scratch-in : (name : Name) → meets (bit_of (collection_number a.form.collections name)) scratches ≡ has_kind is_scratch a.form.collections name
  scratch-in name = kind-in_set a.form.collections few Scratch name ∙ scratch-is (kind_of a.form.collections name)

  arrows-same : map rule_arrow facts ≡ arrows a.form.collections a.form.rules
  arrows-same = map-map rule_arrow (facts_of names a) a.form.rules

  scratch_arrows-same : map (arrow_through scratches) facts ≡ scratch_arrows a.form.collections a.form.rules
  scratch_arrows-same =
      map-map (arrow_through scratches) (facts_of names a) a.form.rules
      ∙ map-same (λ (rule : RuleForm). arrow_through scratches (facts_of names a rule)) (scratch_arrow a.form.collections)
      (λ rule. ap (λ (b : Bool). arrow_from (set_of_name a.form.collections rule.0) (if b then named a.form.collections rule.1 else 0)) (scratch-in rule.0)) a.form.rules

  stopped-same : stopped scratches facts ≡ stopped_set a.form.collections few a.form.rules scratches scratch-in
  stopped-same = ap (with_all 0) (map-map (λ (rule : RuleFacts). bit_if (meets (bit_of rule.head) scratches && not rule.is_plain) rule.head) (facts_of names a) a.form.rules)

  free-is : (q : Query) → (is_plain q && not (meets (stopped scratches facts) (closure (named a.form.collections q) (map (arrow_through scratches) facts)))) ≡ is_free a.form.collections a.form.rules q
  free-is q =
      ap (λ (fds : List Fd). is_plain q && not (meets (stopped scratches facts) (closure (named a.form.collections q) fds))) scratch_arrows-same
      ∙ ap (λ (set : ℕ). is_plain q && not (meets set (direct a.form.collections a.form.rules q))) stopped-same
      ∙ ap (λ (b : Bool). is_plain q && b) (free-same a.form.collections few a.form.rules scratches scratch-in (direct a.form.collections a.form.rules q))

  abbrev sets_of : Query → List ℕ
  sets_of q = operator_sets (declared a.form.collections) (roots_named a.form.collections (roots_table names a)) q

  gate-is : (q : Query) → bit_and (in_all all (sets_of q)) (gate_among all (closure (named a.form.collections q) (map rule_arrow facts)) facts) ≡ query_gate names a.form (roots_table names a) q
  gate-is q =
      let c = cone a.form.collections a.form.rules q in
      let among = λ (rule : RuleForm). meets (set_of_name a.form.collections rule.0) c in
      let own = in_all all (sets_of q) in
      let read = filter among a.form.rules in
      ap (λ (fds : List Fd). bit_and own (gate_among all (closure (named a.form.collections q) fds) facts)) arrows-same
      ∙ ap (bit_and own) (
      ap (in_all all) (map-map (λ (rule : RuleFacts). if meets (bit_of rule.head) c then rule.gate.bits else all) (facts_of names a) a.form.rules)
      ∙ in_all-filter all among (λ (rule : RuleForm). in_all all (sets_of rule.1)) a.form.rules
      ∙ ap (in_all all) (sym (map-map (λ (body : Query). in_all all (sets_of body)) (λ (rule : RuleForm). rule.1) read))
      ∙ in_all-flat_map all sets_of (map (λ (rule : RuleForm). rule.1) read))
      ∙ sym (in_all-append all (sets_of q) (flat_map sets_of (bodies_read a.form q)))

  abbrev graph : Graph
  graph = graph_of a.form.collections facts

  reading-same : (rule : RuleForm) → reading_from graph all facts (facts_of names a rule) ≡ rule_reading names a rule
  reading-same rule =
      let cs = a.form.collections in
      let reads = λ (fds : List Fd). closure (named cs rule.1) fds in
      λ i. record {
        head = collection_number cs rule.0;
        direct = record { bits = reads (scratch_arrows-same i) };
        behind = record { bits = closure (bit_and (all_tables cs) (reads (scratch_arrows-same i))) (arrows-same i) };
        is_momentary = meets (inputs-same cs i) (reads (scratch_arrows-same i));
        is_free = free-is rule.1 i;
        gate = record { bits = gate-is rule.1 i };
      }

  rules-same : map (reading_from graph all facts) facts ≡ map (rule_reading names a) a.form.rules
  rules-same = map-map (reading_from graph all facts) (facts_of names a) a.form.rules ∙ map-same (λ (rule : RuleForm). reading_from graph all facts (facts_of names a rule)) (rule_reading names a) reading-same a.form.rules

  bad-same : bad_among (all_tables a.form.collections) (map (rule_reading names a) a.form.rules) ≡ bad_tables a.form.collections a.form.rules
  bad-same = ap (with_all 0) (
      map-map (λ (reading : Reading). bit_if (meets (bit_of reading.head) (all_tables a.form.collections) && (if reading.is_momentary then meets (all_tables a.form.collections) reading.direct.bits else not reading.is_free)) reading.head) (rule_reading names a) a.form.rules
      ∙ map-same _ (λ (rule : RuleForm). bit_if (spoils a.form.collections a.form.rules rule) (collection_number a.form.collections rule.0))
      (λ rule. ap (λ (b : Bool). bit_if (b && is_bad_rule a.form.collections a.form.rules rule.1) (collection_number a.form.collections rule.0)) (kind-in_set a.form.collections few Table rule.0)) a.form.rules)

  pub readings-same : readings_from a.form.collections all facts ≡ readings_of names a
  readings-same =
      let bad = ap (bad_among (all_tables a.form.collections)) rules-same ∙ bad-same in
      λ i. record { rules = rules-same i; tables = record { bits = all_tables a.form.collections }; bad = record { bits = bad i } }
