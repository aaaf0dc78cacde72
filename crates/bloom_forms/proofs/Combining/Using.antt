-- The uses of a port: a rule uses the ports of its cone, with its gate.
use Rattle.std.proofs.Common.{◌≡◌, ◌≤◌, ◌<◌, ◌||◌, ◌&&◌, ℕ, Bool, true, false, if◌then◌else◌, Option, Some, IfSome, List, length, refl, ap, sym, ◌∙◌}
use Rattle.std.specs.Prelude.{is_some}
use Rattle.std.specs.Int.Bits.{and_self}
use Rattle.std.proofs.lemmas.Bool.{true≢false, false_from_ne_true}
use Rattle.std.proofs.Math.Bool.{or-false}
use Rattle.blz_value.proofs.Members.{some-meets, in-bit}
use Rattle.bloom_forms.specs.declared.module.Kind.TheVariants.{Input, Table}
use Rattle.bloom_forms.specs.declared.module.Collection.{Collection}
use Rattle.bloom_forms.specs.Checks.{IsChecked}
use Rattle.bloom_forms.specs.Form.{RuleForm, Form}
use Rattle.bloom_forms.specs.Kinds.{same_kind, kind_at, is_input}
use Rattle.bloom_forms.specs.Query.{Query}
use Rattle.bloom_forms.specs.Reads.{direct, kind_set, is_momentary}
use Rattle.bloom_forms.specs.Plain.{is_free}
use Rattle.bloom_forms.proofs.Collections.KindSets.{small_kind, in_kind_set}
use Rattle.bloom_forms.specs.declared.note.Note.{Note}
use Rattle.bloom_forms.specs.declared.note.Note.TheVariants.{CR, OR}
use Rattle.bloom_forms.specs.Good.{all_tables, reads_table, reads_good}
use Rattle.bloom_forms.specs.Note.{own_gate}
use Rattle.bloom_forms.specs.ReadLaws.{UsesByCone, UsesHaveGate}
use Rattle.bloom_forms.specs.Uses.{both_uses, use_if, reads_port, feeds_read, writes, linear_use, asking_use, summing_use, use_of}
use Rattle.bloom_forms.proofs.Reach.Behind.{in_cone}
use Rattle.bloom_forms.proofs.Combining.Feeding.{from_feeds_read, feeds_read-is}

-- ---- whether there is a use

some_use : (holds : Bool) (note : Note) → is_some (use_if holds note) ≡ holds
some_use true note = refl
some_use false note = refl

some_both : (a b : Bool) (first second : Note) → is_some (both_uses (use_if a first) (use_if b second)) ≡ (a || b)
some_both true true first second = refl
some_both true false first second = refl
some_both false true first second = refl
some_both false false first second = refl

module _ (cs : List Collection) (rules : List RuleForm) (few : length cs ≤ 32) (q : Query) (port : ℕ) where
  -- a rule that reads no table is fed by none
  no_table : reads_table cs rules q ≡ false → feeds_read cs rules port q ≡ false
  no_table none = false_from_ne_true (feeds_read cs rules port q) (λ h.
      let read = from_feeds_read cs rules few port q h in
      let small : read.table < 64 = small_kind cs few read.table Table read.is in
      true≢false (sym (some-meets (all_tables cs) (direct cs rules q) read.table (in-bit read.table (all_tables cs) small (in_kind_set (same_kind Table) cs read.table Table small read.is refl)) (in-bit read.table (direct cs rules q) small read.read)) ∙ none))

  -- a table-only rule reads no port
  no_port : kind_at cs port ≡ Some Input → is_momentary cs rules q ≡ false → reads_port cs rules port q ≡ false
  no_port is none = false_from_ne_true (reads_port cs rules port q) (λ h.
      let small : port < 64 = small_kind cs few port Input is in
      true≢false (sym (some-meets (kind_set is_input cs) (direct cs rules q) port (in-bit port (kind_set is_input cs) small (in_kind_set is_input cs port Input small is refl)) (in-bit port (direct cs rules q) small h)) ∙ none))

  used : kind_at cs port ≡ Some Input → (good gate : ℕ) → is_some (use_of cs rules good gate port q) ≡ (reads_port cs rules port q || feeds_read cs rules port q)
  used is good gate = go (is_momentary cs rules q) (reads_table cs rules q) refl refl
    where
      go : (momentary tables : Bool) → is_momentary cs rules q ≡ momentary → reads_table cs rules q ≡ tables
          → is_some (if momentary then (if tables then asking_use cs rules good gate port q else linear_use cs rules port q) else summing_use cs rules good gate port q) ≡ (reads_port cs rules port q || feeds_read cs rules port q)
      go true true m t = some_both (reads_port cs rules port q) (feeds_read cs rules port q) _ _
      go true false m t = some_use (reads_port cs rules port q) CR ∙ rw (no_table t) (sym (or-false (reads_port cs rules port q)))
      go false tables m t = some_use (feeds_read cs rules port q) _ ∙ rw (no_port is m) refl

pub uses_by_cone : (m : Form) (heads : List ℕ) → IsChecked m heads → UsesByCone m
uses_by_cone m heads checked rule port stands is good gate =
    let cs = m.collections in
    let few = checked.few_collections in
    let small : port < 64 = small_kind cs few port Input is in
    used cs m.rules few rule.1 port is good gate
    ∙ ap (λ (fed : Bool). reads_port cs m.rules port rule.1 || fed) (feeds_read-is cs m.rules few port rule.1)
    ∙ sym (in_cone cs m.rules few checked.rules rule.1 (checked.rules rule stands).known port small)

-- ---- the gate of a use

abbrev HasGate : ℕ → Option Note → Type 0
HasGate gate note_used = IfSome note_used (λ note. IfSome (own_gate note) (λ own. own.bits ≡ gate))

gate_if : (gate : ℕ) (holds : Bool) (note : Note) → IfSome (own_gate note) (λ own. own.bits ≡ gate) → HasGate gate (use_if holds note)
gate_if gate true note h = h
gate_if gate false note h = tt

gate_writes : (gate : ℕ) (confluent : Bool) → IfSome (own_gate (writes confluent gate)) (λ own. own.bits ≡ gate)
gate_writes gate true = tt
gate_writes gate false = refl

gate_both : (gate : ℕ) (reads fed confluent : Bool) → HasGate gate (both_uses (use_if reads (OR (record { bits = gate }))) (use_if fed (writes confluent gate)))
gate_both gate true true true = refl
gate_both gate true true false = and_self gate
gate_both gate true false confluent = refl
gate_both gate false true confluent = gate_writes gate confluent
gate_both gate false false confluent = tt

pub uses_have_gate : (form : Form) → UsesHaveGate form
uses_have_gate form good gate port q = go (is_momentary cs rules q) (reads_table cs rules q)
  where
    cs : List Collection
    cs = form.collections

    rules : List RuleForm
    rules = form.rules

    go : (momentary tables : Bool) → HasGate gate (if momentary then (if tables then asking_use cs rules good gate port q else linear_use cs rules port q) else summing_use cs rules good gate port q)
    go true true = gate_both gate (reads_port cs rules port q) (feeds_read cs rules port q) (reads_good cs rules good q)
    go true false = gate_if gate (reads_port cs rules port q) CR tt
    go false tables = gate_if gate (feeds_read cs rules port q) _ (gate_writes gate (is_free cs rules q && reads_good cs rules good q))
