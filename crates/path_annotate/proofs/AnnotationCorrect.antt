-- The notes and the gates of a checked module, by what its rules read.
use Rattle.std.proofs.Common.{◌≡◌, ◌&&◌, ◌==◌, ℕ, Bool, true, false, cond, if◌then◌else◌, Option, None, List, [], ◌∷◌, map, filter, length, get_or, refl, ap, ◌∙◌, sym}
use Rattle.std.specs.List.{range_with_len}
use Rattle.std.proofs.lemmas.Simd.{map-map}
use Rattle.blz_value.specs.Bits.{bit_of}
use Rattle.blz_value.proofs.Lists.{map_same as map-same}
use Rattle.bloom_forms.specs.declared.module.Kind.TheVariants.{Input, Output}
use Rattle.bloom_forms.specs.declared.program.Program.TheVariants.{Module}
use Rattle.bloom_forms.specs.Checks.{IsChecked}
use Rattle.bloom_forms.specs.Form.{RuleForm, Accepted}
use Rattle.bloom_forms.specs.Lookup.{collection_number}
use Rattle.bloom_forms.specs.Query.{Name}
use Rattle.bloom_forms.specs.Reads.{is_momentary}
use Rattle.bloom_forms.specs.Step.{rules_at}
use Rattle.bloom_forms.specs.KindNumbers.{numbers_of_kind}
use Rattle.bloom_forms.specs.Plain.{is_free}
use Rattle.bloom_forms.specs.declared.note.Note.{Note}
use Rattle.bloom_forms.specs.declared.note.Note.TheVariants.{CR, OR}
use Rattle.path_facts.specs.declared.readings.Reading.{Reading}
use Rattle.bloom_forms.specs.Annotation.{rule_gate, notes_of}
use Rattle.bloom_forms.specs.Gates.{all_attributes, in_all, query_gate, head_gate}
use Rattle.bloom_forms.specs.Good.{good_tables, reads_table}
use Rattle.bloom_forms.specs.HeadRoots.{roots_table}
use Rattle.path_annotate.specs.Code.ReadingUses.{use_from, use_towards, path_note_from, gate_towards}
use Rattle.path_annotate.specs.Code.Readings.{rule_reading, readings_of}
use Rattle.bloom_forms.specs.Uses.{both_uses, all_uses, use_if, reads_port, writes, use_of}
use Rattle.bloom_forms.proofs.Combining.Feeding.{feeds_by_closure}
use Rattle.path_facts.proofs.GatesLemmas.{in_all-filter}
use Rattle.bloom_forms.proofs.Reach.GoodTables.{reads_good_by_closure}
use Rattle.bloom_forms.proofs.ByNumber.NumbersLemmas.{map-places, length_numbers_of_kind}

-- the uses of those rules that pass a test, others giving nothing
uses-filter : {X : Type 0} (passes : X → Bool) (use_by : X → Option Note) (xs : List X)
    → all_uses (map (λ x. if passes x then use_by x else None) xs) ≡ all_uses (map use_by (filter passes xs))
uses-filter passes use_by [] = refl
uses-filter {X = X} passes use_by (x ∷ xs) = ap (both_uses (if passes x then use_by x else None)) (uses-filter passes use_by xs) ∙ by (passes x)
  where
    rest : List X
    rest = filter passes xs

    by : (b : Bool) → both_uses (if b then use_by x else None) (all_uses (map use_by rest)) ≡ all_uses (map use_by (cond b (x ∷ rest) rest))
    by true = refl
    by false = refl

module _ (names : List Name) (a : Accepted) (checked : IsChecked a.form a.heads) where
  -- the note of a path from one collection to another, by their numbers
  abbrev note_between : (port output : ℕ) → Option Note
  note_between port output =
      all_uses (map (λ rule. use_of a.form.collections a.form.rules (good_tables a) (rule_gate names a rule) port rule.1) (rules_at a.form.collections a.form.rules output))

  -- a use, told what its rule reads
  use-same : (port : ℕ) (rule : RuleForm)
      → use_from (readings_of names a) (rule_reading names a rule) (bit_of port) ≡ use_of a.form.collections a.form.rules (good_tables a) (query_gate names a.form (roots_table names a) rule.1) port rule.1
  use-same port rule =
      let cs = a.form.collections in
      let rules = a.form.rules in
      let q = rule.1 in
      let gate = query_gate names a.form (roots_table names a) q in
      let feeds = sym (feeds_by_closure a.form a.heads checked port q) in
      let good = sym (reads_good_by_closure a checked q) in
      λ i.
      if is_momentary cs rules q
      then (if reads_table cs rules q then both_uses (use_if (reads_port cs rules port q) (OR (record { bits = gate }))) (use_if (feeds i) (writes (good i) gate)) else use_if (reads_port cs rules port q) CR)
      else use_if (feeds i) (writes (is_free cs rules q && good i) gate)

  pub path-same : (port output : ℕ) → path_note_from (readings_of names a) port output ≡ note_between port output
  path-same port output =
      let of_head = λ (rule : RuleForm). collection_number a.form.collections rule.0 == output in
      let by_reading = λ (rule : RuleForm). use_from (readings_of names a) (rule_reading names a rule) (bit_of port) in
      ap all_uses (map-map (use_towards (readings_of names a) port output) (rule_reading names a) a.form.rules)
      ∙ uses-filter of_head by_reading a.form.rules
      ∙ ap all_uses (map-same by_reading (λ (rule : RuleForm). use_of a.form.collections a.form.rules (good_tables a) (query_gate names a.form (roots_table names a) rule.1) port rule.1) (use-same port) (rules_at a.form.collections a.form.rules output))

  pub head_gate-same : (output : ℕ)
      → gate_towards (all_attributes names) output (map (rule_reading names a) a.form.rules) ≡ head_gate names a.form (roots_table names a) output
  head_gate-same output =
      ap (in_all (all_attributes names)) (map-map (λ (reading : Reading). if reading.head == output then reading.gate.bits else all_attributes names) (rule_reading names a) a.form.rules)
      ∙ in_all-filter (all_attributes names) (λ (rule : RuleForm). collection_number a.form.collections rule.0 == output) (λ (rule : RuleForm). query_gate names a.form (roots_table names a) rule.1) a.form.rules

  pub notes-same : map (λ (port : ℕ). map (path_note_from (readings_of names a) port) (numbers_of_kind Output a.form.collections)) (numbers_of_kind Input a.form.collections) ≡ notes_of names (Module a)
  notes-same =
      let cs = a.form.collections in
      let outputs = numbers_of_kind Output cs in
      let row = λ (port : ℕ). map (note_between port) outputs in
      map-same _ row (λ port. map-same (path_note_from (readings_of names a) port) (note_between port) (path-same port) outputs) (numbers_of_kind Input cs)
      ∙ sym (map-places row (length cs) (numbers_of_kind Input cs) _ (length_numbers_of_kind Input cs))
      ∙ map-same _ _ (λ (port : ℕ). sym (map-places (note_between (get_or (numbers_of_kind Input cs) port (length cs))) (length cs) outputs _ (length_numbers_of_kind Output cs))) (range_with_len 0 _)
