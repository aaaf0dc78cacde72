-- What feeds a table, and the uses of a port.
use Rattle.std.proofs.Common.{◌≡◌, ◌≤◌, ◌||◌, ◌&&◌, ◌⊎◌, inl, inr, ℕ, true, Some, List, length, ap, sym, ◌∙◌}
use Rattle.std.specs.Cmp.{both_ways}
use Rattle.std.proofs.lemmas.Bool.{and_parts, and_from, or_cases, or_left, or_right}
use Rattle.blz_value.specs.Members.{Has}
use Rattle.blz_value.proofs.Membership.{any_from_Has, Has-from_any}
use Rattle.blz_value.specs.Bits.{bit_of, meets}
use Rattle.blz_value.proofs.Members.{member_small}
use Rattle.bloom_forms.specs.declared.module.Kind.TheVariants.{Input, Table}
use Rattle.bloom_forms.specs.declared.module.Collection.{Collection}
use Rattle.bloom_forms.specs.Checks.{IsRule, IsChecked}
use Rattle.bloom_forms.specs.Form.{RuleForm, Form}
use Rattle.bloom_forms.specs.Kinds.{kind_at}
use Rattle.bloom_forms.specs.Query.{Query}
use Rattle.bloom_forms.specs.Reads.{direct}
use Rattle.bloom_forms.specs.KindNumbers.{numbers_of_kind}
use Rattle.bloom_forms.proofs.Collections.KindSets.{small_kind, in_tables, from_tables}
use Rattle.bloom_forms.proofs.Reach.Cones.{from_closure, in_closure, IsReadByRule, from_head, in_head}
use Rattle.bloom_forms.specs.ClosedForms.{behind}
use Rattle.bloom_forms.specs.Good.{tables_read}
use Rattle.bloom_forms.specs.ReadLaws.{ReadsFedTable, HasFedRule, FeedsByRules, FeedsByClosure}
use Rattle.bloom_forms.specs.Uses.{reads_port, feeds, feeds_read}
use Rattle.bloom_forms.proofs.Reach.ClosedFormsLemmas.{rule_of}
use Rattle.bloom_forms.proofs.Reach.Behind.{in_cone, in_tables_read, from_tables_read}

module _ (cs : List Collection) (rules : List RuleForm) (few : length cs ≤ 32) where
  -- a table that an expression reads, and that a port feeds

  pub from_feeds_read : (port : ℕ) (q : Query) → feeds_read cs rules port q ≡ true → ReadsFedTable cs rules port q
  from_feeds_read port q h =
      let found = Has-from_any (λ table. meets (bit_of table) (direct cs rules q) && feeds cs rules port table) (numbers_of_kind Table cs) h in
      let both = and_parts (meets (bit_of found.0) (direct cs rules q)) (feeds cs rules port found.0) found.2 in
      record { table = found.0; is = from_tables cs found.0 found.1; read = both.0; fed = both.1 }

  in_feeds_read : (port : ℕ) (q : Query) → ReadsFedTable cs rules port q → feeds_read cs rules port q ≡ true
  in_feeds_read port q r = any_from_Has (λ table. meets (bit_of table) (direct cs rules q) && feeds cs rules port table) r.table (numbers_of_kind Table cs) (in_tables cs r.table r.is) (and_from (meets (bit_of r.table) (direct cs rules q)) (feeds cs rules port r.table) r.read r.fed)

  fed_behind : (port : ℕ) (q : Query) → ReadsFedTable cs rules port q → meets (bit_of port) (behind cs rules q) ≡ true
  fed_behind port q r =
      let small = small_kind cs few r.table Table r.is in
      in_closure cs rules few (tables_read cs rules q) r.table port small (member_small port _ r.fed) (in_tables_read cs rules q r.table small r.is r.read) r.fed

  behind_fed : (port : ℕ) (q : Query) → meets (bit_of port) (behind cs rules q) ≡ true → ReadsFedTable cs rules port q
  behind_fed port q h =
      let t = from_closure cs rules few (tables_read cs rules q) port (member_small port (behind cs rules q) h) h in
      let read = from_tables_read cs rules q t.0 t.1 t.2 in
      record { table = t.0; is = read.0; read = read.1; fed = t.3 }

  pub feeds_read-is : (port : ℕ) (q : Query) → feeds_read cs rules port q ≡ meets (bit_of port) (behind cs rules q)
  feeds_read-is port q = both_ways (feeds_read cs rules port q) (meets (bit_of port) (behind cs rules q)) (λ h. fed_behind port q (from_feeds_read port q h)) (λ h. in_feeds_read port q (behind_fed port q h))

  module _ (each : (r : RuleForm) → Has r rules → IsRule cs rules r) where
    feeds_rule : (port table : ℕ) → kind_at cs port ≡ Some Input → kind_at cs table ≡ Some Table → feeds cs rules port table ≡ true → HasFedRule cs rules port table
    feeds_rule port table is_port is_t h = by_way (from_head cs rules few table port (small_kind cs few table Table is_t) (small_kind cs few port Input is_port) h)
      where
        by_way : (table ≡ port) ⊎ IsReadByRule cs rules few table port → HasFedRule cs rules port table
        by_way (inl e) = absurd (let both : Some Table ≡ Some Input = sym is_t ∙ ap (kind_at cs) e ∙ is_port in cc)
        by_way (inr r) =
            let stands = rule_of cs rules table r.rule r.of_head in
            let either = or_cases (meets (bit_of port) (direct cs rules r.rule.1)) (meets (bit_of port) (behind cs rules r.rule.1)) (sym (in_cone cs rules few each r.rule.1 (each r.rule stands.0).known port (small_kind cs few port Input is_port)) ∙ r.there) in
            record { rule = r.rule; of_table = r.of_head; fed = elim either [ inl t ↦ inl t | inr t ↦ inr (behind_fed port r.rule.1 t) ] }

    rule_feeds : (port table : ℕ) → kind_at cs port ≡ Some Input → HasFedRule cs rules port table → feeds cs rules port table ≡ true
    rule_feeds port table is_port r = in_head cs rules few table port (small_kind cs few port Input is_port) (record { rule = r.rule; of_head = r.of_table; there = in_cone cs rules few each r.rule.1 (each r.rule (rule_of cs rules table r.rule r.of_table).0).known port (small_kind cs few port Input is_port) ∙ by_way r.fed })
      where
        by_way : (reads_port cs rules port r.rule.1 ≡ true) ⊎ ReadsFedTable cs rules port r.rule.1 → (meets (bit_of port) (direct cs rules r.rule.1) || meets (bit_of port) (behind cs rules r.rule.1)) ≡ true
        by_way (inl t) = or_left _ _ t
        by_way (inr t) = or_right _ _ (fed_behind port r.rule.1 t)

pub feeds_by_rules : (m : Form) (heads : List ℕ) → IsChecked m heads → FeedsByRules m
feeds_by_rules m heads checked port table is_port is_t = (
  feeds_rule m.collections m.rules checked.few_collections checked.rules port table is_port is_t,
  rule_feeds m.collections m.rules checked.few_collections checked.rules port table is_port,
)

pub feeds_by_closure : (m : Form) (heads : List ℕ) → IsChecked m heads → FeedsByClosure m
feeds_by_closure m heads checked = feeds_read-is m.collections m.rules checked.few_collections
