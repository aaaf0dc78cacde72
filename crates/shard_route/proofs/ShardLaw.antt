-- The copies as they are checked answer as those of the law on rows, whose order of heads is the module's.
use Rattle.std.proofs.Common.{◌≡◌, ◌∙◌, ◌↔◌, ◌&&◌, not, ℕ, true, false, Option, None, Some, List, [], ◌∷◌, length, map, refl, ap, sym, subst}
use Rattle.std.specs.List.{range_with_len}
use Rattle.std.specs.Option.{option_map_or}
use Rattle.std.proofs.lemmas.Bool.{true≢false}
use Rattle.blz_value.specs.Members.{Has}
use Rattle.blz_value.proofs.Membership.{Has-map, Has-from_map, Has-from_filter}
use Rattle.blz_value.specs.Bits.{bit_of, meets}
use Rattle.blz_value.specs.Closure.{closure}
use Rattle.blz_value.specs.Names.{place_of}
use Rattle.blz_value.proofs.Booleans.{not_false, has_it}
use Rattle.blz_value.proofs.Lists.{any-none as any_none}
use Rattle.bloom_forms.specs.declared.module.Collection.{Collection}
use Rattle.bloom_forms.specs.declared.module.Kind.{Kind}
use Rattle.bloom_forms.specs.declared.module.Kind.TheVariants.{Input, Output, Table, Scratch}
use Rattle.bloom_forms.specs.declared.program.Program.TheVariants.{Module}
use Rattle.bloom_forms.specs.Checks.{IsChecked}
use Rattle.bloom_forms.specs.Faults.{recursive_rule}
use Rattle.bloom_forms.specs.Fits.{has_name}
use Rattle.bloom_forms.specs.Form.{RuleForm, Accepted}
use Rattle.bloom_forms.specs.HeadOrder.{heads_of}
use Rattle.bloom_forms.specs.Heads.{names_of, HasRule, InOrder, IsOrdered}
use Rattle.bloom_forms.specs.Lookup.{collection_number}
use Rattle.bloom_forms.specs.Kinds.{same_kind, is_input}
use Rattle.bloom_forms.specs.Program.{port_columns, output_columns}
use Rattle.bloom_forms.specs.ProgramStep.{answer_of, empty_tables}
use Rattle.bloom_forms.specs.Query.{Name, Formula}
use Rattle.bloom_forms.specs.Reads.{set_of_name, arrows}
use Rattle.bloom_forms.specs.Step.{Sets, set_at}
use Rattle.bloom_forms.proofs.Ends.OverTables.{steps_same}
use Rattle.bloom_forms.proofs.Faults.Ordering.{ordered}
use Rattle.bloom_forms.specs.Annotation.{gate_of_output}
use Rattle.topo_forms.proofs.Regions.Spreading.{in_below}
use Rattle.bloom_forms.specs.Shards.{buckets, copied, copied_rule}
use Rattle.bloom_forms.proofs.Shard.ShardLaw.{answers_by_bucket}
use Rattle.shard_route.specs.Copies.{copied_form, copy_of, copies_of, is_port_without, lacks_column}
use Rattle.shard_route.specs.Laws.{SomeCopyHas, ShardLaw}
use Rattle.shard_route.specs.Sharding.{has_attribute}
use Rattle.shard_route.proofs.Faultless.{same_names, same_named, same_arrows}
use Rattle.shard_route.proofs.OwnNames.{has_of_name}

-- ---- the order of heads

module _ (a : Accepted) (checked : IsChecked a.form a.heads) (test : Formula) where
  abbrev cs : List Collection
  cs = a.form.collections

  abbrev rules : List RuleForm
  rules = map (copied_rule cs test) a.form.rules

  free : (r : RuleForm) → Has r rules → recursive_rule cs (arrows cs rules) r ≡ false
  free r h =
      let from = Has-from_map (copied_rule cs test) r a.form.rules h in
      let same : recursive_rule cs (arrows cs rules) (copied_rule cs test from.0) ≡ recursive_rule cs (arrows cs a.form.rules) from.0 = λ i. meets (set_of_name cs from.0.0) (closure (same_named cs test from.0.1 i) (same_arrows cs test a.form.rules i)) in
      subst (λ (s : RuleForm). recursive_rule cs (arrows cs rules) s ≡ false) from.2 (same ∙ (checked.rules from.0 from.1).free)

  own_order : IsOrdered cs rules (heads_of (copied_form a.form test))
  own_order = ordered cs rules checked.few_collections free

  -- the module's own order serves the copy, too

  own_rule : (h m : ℕ) → HasRule cs rules h m → HasRule cs a.form.rules h m
  own_rule h m r =
      let from = Has-from_map (copied_rule cs test) r.rule a.form.rules r.stands in
      let named : names_of r.rule.1 ≡ names_of from.0.1 = ap (λ (rule : RuleForm). names_of rule.1) (sym from.2) ∙ same_names cs test from.0.1 in
      record { rule = from.0; stands = from.1; head = ap (λ (rule : RuleForm). collection_number cs rule.0) from.2 ∙ r.head; name = r.name; read = subst (λ (names : List Name). Has r.name names) named r.read; is = r.is }

  in_order : (heads : List ℕ) → InOrder cs a.form.rules heads → InOrder cs rules heads
  in_order [] order = tt
  in_order (h ∷ heads) order = (order.0, (λ m stands r. order.1 m stands (own_rule h m r)), in_order heads order.2)

  row_order : IsOrdered cs rules a.heads
  row_order = record { all = checked.ordered.all; none_else = checked.ordered.none_else; order = in_order a.heads checked.ordered.order }

  -- so a copy answers the same with either order
  pub same_answer : (now : Sets) → answer_of (Module (copied a test)) now ≡ answer_of (Module (copy_of a test)) now
  same_answer now = (steps_same (copied a test) (heads_of (copied_form a.form test)) row_order own_order).outputs (empty_tables (Module (copied a test))) now

-- ---- the law

input_kind : (k : Kind) → same_kind Input k ≡ true → is_input k ≡ true
input_kind Input e = refl
input_kind Output e = e
input_kind Table e = e
input_kind Scratch e = e

-- each port has the column
ports_have : (a : Accepted) (column : Name) → lacks_column column a.form ≡ false → (columns : List Name) → Has columns (port_columns (Module a)) → Has column columns
ports_have a column e columns h =
    let from = Has-from_map (λ (c : Collection). c.columns) columns _ h in
    let kept = Has-from_filter (λ (c : Collection). same_kind Input c.kind) from.0 a.form.collections from.1 in
    let it = has_it (is_input from.0.kind) (has_name from.0.columns column) (any_none (is_port_without column) a.form.collections e from.0 kept.0) (input_kind from.0.kind kept.1) in
    subst (λ (names : List Name). Has column names) from.2 (has_of_name from.0.columns column it)

-- the column is an attribute that lies in the gate
record IsGated (names : List Name) (column : Name) (gate : ℕ) : Type 0 where
  attribute : ℕ
  place : place_of names column ≡ Some attribute
  within : meets (bit_of attribute) gate ≡ true

gated : (names : List Name) (column : Name) (gate : ℕ) → has_attribute names column gate ≡ true → IsGated names column gate
gated names column gate e = go (place_of names column) refl e
  where
    go : (o : Option ℕ) → place_of names column ≡ o → option_map_or (λ attribute. meets (bit_of attribute) gate) o false ≡ true → IsGated names column gate
    go None place t = absurd (true≢false (sym t))
    go (Some attribute) place t = record { attribute = attribute; place = place; within = t }

pub answers_together : ShardLaw
answers_together names a column first bounds checked ports gates now output row arrivals lt = (to, from)
  where
    gate : ℕ
    gate = gate_of_output names (Module a) output

    g : IsGated names column gate
    g = gated names column gate (not_false (has_attribute names column gate)
        (any_none (λ (o : ℕ). not (has_attribute names column (gate_of_output names (Module a) o))) (range_with_len 0 (length (output_columns (Module a)))) gates output (in_below (length (output_columns (Module a))) output lt)))

    law : Has row (set_at (answer_of (Module a) now) output) ↔ ((test : Formula) × Has test (buckets column first bounds) × Has row (set_at (answer_of (Module (copied a test)) now) output))
    law = answers_by_bucket names a checked column g.attribute first bounds output now g.place (ports_have a column ports) g.within arrivals row

    to : Has row (set_at (answer_of (Module a) now) output) → SomeCopyHas (copies_of a column (first ∷ bounds)) output now row
    to h =
        let found = law.0 h in
        record { copy = copy_of a found.0; stands = Has-map (copy_of a) found.0 (buckets column first bounds) found.1; row_is = subst (λ (sets : Sets). Has row (set_at sets output)) (same_answer a checked found.0 now) found.2 }

    from : SomeCopyHas (copies_of a column (first ∷ bounds)) output now row → Has row (set_at (answer_of (Module a) now) output)
    from some =
        let m = Has-from_map (copy_of a) some.copy (buckets column first bounds) some.stands in
        let there : Has row (set_at (answer_of (Module (copy_of a m.0)) now) output) = subst (λ (c : Accepted). Has row (set_at (answer_of (Module c) now) output)) (sym m.2) some.row_is in
        law.1 (m.0, m.1, subst (λ (sets : Sets). Has row (set_at sets output)) (sym (same_answer a checked m.0 now)) there)
