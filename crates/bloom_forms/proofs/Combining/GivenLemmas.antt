-- A rule gives W to the ports behind it, and where it gives O to one port, to all ports that it reads.
use Rattle.std.proofs.Common.{◌≡◌, ◌&&◌, ℕ, Bool, true, false, Option, Some, List, refl, ap, ◌∙◌, sym, inl, inr}
use Rattle.std.specs.Prelude.{is_some}
use Rattle.std.proofs.lemmas.Bool.{cases_Bool, true≢false}
use Rattle.blz_value.specs.Members.{Has}
use Rattle.blz_value.specs.Bits.{bit_of, meets}
use Rattle.blz_value.proofs.Members.{some-meets, in-bit}
use Rattle.bloom_forms.specs.declared.module.Kind.TheVariants.{Input, Table}
use Rattle.bloom_forms.specs.declared.module.Collection.{Collection}
use Rattle.bloom_forms.specs.Checks.{IsChecked}
use Rattle.bloom_forms.specs.Form.{RuleForm, Accepted}
use Rattle.bloom_forms.specs.Kinds.{same_kind, kind_at, place_in_kind}
use Rattle.bloom_forms.specs.Query.{Name}
use Rattle.bloom_forms.specs.Reads.{direct}
use Rattle.bloom_forms.specs.Plain.{is_free}
use Rattle.bloom_forms.proofs.Collections.KindSets.{small_kind, in_kind_set}
use Rattle.bloom_forms.proofs.Reach.ByCones.{IsBelow}
use Rattle.bloom_forms.proofs.Reach.MomentaryLemmas.{now}
use Rattle.bloom_forms.proofs.Reach.ReadsLemmas.{number_of, IsIn}
use Rattle.bloom_forms.proofs.Collections.KindNumbersLemmas.{number_at_place}
use Rattle.bloom_forms.specs.declared.note.Note.{Note}
use Rattle.bloom_forms.specs.declared.note.Note.TheVariants.{CR, OR}
use Rattle.bloom_forms.specs.ClosedForms.{behind}
use Rattle.bloom_forms.specs.Good.{all_tables, reads_table, reads_good, good_tables}
use Rattle.bloom_forms.specs.Uses.{both_uses, use_if, reads_port, feeds_read, writes, use_of}
use Rattle.bloom_forms.specs.Annotation.{rule_gate, rule_use}
use Rattle.bloom_forms.specs.Given.{is_o, is_w}
use Rattle.bloom_forms.proofs.Combining.Feeding.{from_feeds_read, feeds_read-is}
use Rattle.bloom_forms.proofs.Combining.Using.{uses_by_cone}

asked_w : (gate : ℕ) (reads confluent : Bool) → is_w (both_uses (use_if reads (OR (record { bits = gate }))) (use_if true (writes confluent gate))) ≡ true
asked_w gate true true = refl
asked_w gate true false = refl
asked_w gate false true = refl
asked_w gate false false = refl

summed_w : (gate : ℕ) (confluent : Bool) → is_w (use_if true (writes confluent gate)) ≡ true
summed_w gate true = refl
summed_w gate false = refl

asked_o : (gate : ℕ) (fed confluent : Bool) → is_o (both_uses (use_if true (OR (record { bits = gate }))) (use_if fed (writes confluent gate))) ≡ true
asked_o gate true true = refl
asked_o gate true false = refl
asked_o gate false confluent = refl

linear_o : (reads : Bool) → is_o (use_if reads CR) ≡ true → ⊥
linear_o true h = true≢false (sym h)
linear_o false h = true≢false (sym h)

summed_o : (gate : ℕ) (fed confluent : Bool) → is_o (use_if fed (writes confluent gate)) ≡ true → confluent ≡ false
summed_o gate true true h = absurd (true≢false (sym h))
summed_o gate true false h = refl
summed_o gate false confluent h = absurd (true≢false (sym h))

sums_o : (gate : ℕ) (fed : Bool) → is_some (use_if fed (writes false gate)) ≡ true → is_o (use_if fed (writes false gate)) ≡ true
sums_o gate true h = refl
sums_o gate false h = absurd (true≢false (sym h))

module _ (names : List Name) (a : Accepted) (checked : IsChecked a.form a.heads) (rule : RuleForm) (stands : Has rule a.form.rules) where
  abbrev cs : List Collection
  cs = a.form.collections

  abbrev gate : ℕ
  gate = rule_gate names a rule

  -- what the rule gives to the collection with the number
  abbrev pub use_at : ℕ → Option Note
  use_at k = use_of cs a.form.rules (good_tables a) gate k rule.1

  pub use_at_place : (k : ℕ) → kind_at cs k ≡ Some Input → rule_use names a rule (place_in_kind Input cs k) ≡ use_at k
  use_at_place k is = ap use_at (number_at_place Input cs k is)

  -- a port of the cone is used
  pub used_below : (n : Name) → IsBelow a checked rule n → kind_at cs (number_of a checked n) ≡ Some Input
      → is_some (rule_use names a rule (place_in_kind Input cs (number_of a checked n))) ≡ true
  used_below n below is = ap (λ (o : Option Note). is_some o) (use_at_place (number_of a checked n) is) ∙ uses_by_cone a.form a.heads checked rule (number_of a checked n) stands is (good_tables a) gate ∙ below

  -- a port behind the rule is W
  pub w_behind : (n : Name) → meets (bit_of (number_of a checked n)) (behind cs a.form.rules rule.1) ≡ true
      → kind_at cs (number_of a checked n) ≡ Some Input
      → is_w (rule_use names a rule (place_in_kind Input cs (number_of a checked n))) ≡ true
  w_behind n there is =
      let k = number_of a checked n in
      let fed : feeds_read cs a.form.rules k rule.1 ≡ true = feeds_read-is cs a.form.rules checked.few_collections k rule.1 ∙ there in
      let r = from_feeds_read cs a.form.rules checked.few_collections k rule.1 fed in
      let small = small_kind cs checked.few_collections r.table Table r.is in
      let tables : reads_table cs a.form.rules rule.1 ≡ true = some-meets (all_tables cs) (direct cs a.form.rules rule.1) r.table (in-bit r.table (all_tables cs) small (in_kind_set (same_kind Table) cs r.table Table small r.is refl)) (in-bit r.table (direct cs a.form.rules rule.1) small r.read) in
      ap is_w (use_at_place k is) ∙ elim (cases_Bool (now a checked rule.1)) [
        | inl t ↦ rw (t, tables, fed) (asked_w gate (reads_port cs a.form.rules k rule.1) (reads_good cs a.form.rules (good_tables a) rule.1))
        | inr f ↦ rw (f, fed) (summed_w gate (is_free cs a.form.rules rule.1 && reads_good cs a.form.rules (good_tables a) rule.1))
      ]

  -- a rule with a port that is O is asking or summing

  -- a momentary rule with such a port gives O to all ports that it reads
  pub o_read : now a checked rule.1 ≡ true → (port : ℕ) → is_o (rule_use names a rule port) ≡ true → (n : Name)
      → IsIn a checked rule.1 n → kind_at cs (number_of a checked n) ≡ Some Input
      → is_o (rule_use names a rule (place_in_kind Input cs (number_of a checked n))) ≡ true
  o_read t port h n inside is =
      let k = number_of a checked n in
      ap is_o (use_at_place k is) ∙ elim (cases_Bool (reads_table cs a.form.rules rule.1)) [
        | inl tables ↦ (let read : reads_port cs a.form.rules k rule.1 ≡ true = inside in rw (t, tables, read) (asked_o gate (feeds_read cs a.form.rules k rule.1) (reads_good cs a.form.rules (good_tables a) rule.1)))
        | inr none ↦ absurd (linear_o _ (rw (t, none) at h))
      ]

  -- a table-only rule with such a port gives O to all ports of its cone
  pub o_below : now a checked rule.1 ≡ false → (port : ℕ) → is_o (rule_use names a rule port) ≡ true → (n : Name)
      → IsBelow a checked rule n → kind_at cs (number_of a checked n) ≡ Some Input
      → is_o (rule_use names a rule (place_in_kind Input cs (number_of a checked n))) ≡ true
  o_below f port h n below is =
      let k = number_of a checked n in
      let gated : (is_free cs a.form.rules rule.1 && reads_good cs a.form.rules (good_tables a) rule.1) ≡ false = summed_o gate _ _ (rw f at h) in
      let some : is_some (use_at k) ≡ true = uses_by_cone a.form a.heads checked rule k stands is (good_tables a) gate ∙ below in
      ap is_o (use_at_place k is) ∙ rw (f, gated) (sums_o gate (feeds_read cs a.form.rules k rule.1) (rw (f, gated) at some))
