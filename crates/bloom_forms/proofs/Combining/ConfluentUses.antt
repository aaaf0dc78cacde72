-- A rule whose uses are CR or CW reads no table, or is free of group and notin over good tables.
use Rattle.std.proofs.Common.{◌≡◌, ◌<◌, ℕ, Bool, true, false, Option, None, Some, IfSome, List, [], ◌∷◌, refl, ap, ◌∙◌, sym, subst, inl, inr}
use Rattle.std.specs.Prelude.{is_some}
use Rattle.std.proofs.lemmas.Bool.{and_parts, cases_Bool, true≢false}
use Rattle.blz_value.specs.Members.{Has}
use Rattle.blz_value.specs.declared.attrs.Attrs.{Attrs}
use Rattle.blz_value.proofs.Members.{meets-some, bit-in}
use Rattle.bloom_forms.specs.declared.module.Kind.{Kind}
use Rattle.bloom_forms.specs.declared.module.Kind.TheVariants.{Input, Output, Table, Scratch}
use Rattle.bloom_forms.specs.declared.module.Collection.{Collection}
use Rattle.bloom_forms.specs.declared.program.Program.TheVariants.{Module}
use Rattle.bloom_forms.specs.Checks.{IsChecked}
use Rattle.bloom_forms.specs.Form.{RuleForm, Accepted}
use Rattle.bloom_forms.specs.Kinds.{is_input, kind_at, place_in_kind}
use Rattle.bloom_forms.specs.Query.{Name}
use Rattle.bloom_forms.specs.Reads.{named, direct, kind_set}
use Rattle.bloom_forms.specs.Plain.{is_free}
use Rattle.bloom_forms.proofs.Reach.Unfolding.{bit_small}
use Rattle.bloom_forms.proofs.Collections.KindSets.{from_kind_set, kind_set-lt}
use Rattle.bloom_forms.proofs.Reach.ByCones.{IsFed}
use Rattle.bloom_forms.proofs.Reach.MomentaryLemmas.{now}
use Rattle.bloom_forms.proofs.Collections.KindNumbersLemmas.{place_within, number_at_place}
use Rattle.bloom_forms.specs.declared.note.Note.{Note}
use Rattle.bloom_forms.specs.declared.note.Note.TheVariants.{OR}
use Rattle.bloom_forms.specs.Good.{reads_table, reads_good, good_tables}
use Rattle.bloom_forms.specs.Note.{own_gate, note_with, common_gate}
use Rattle.bloom_forms.specs.Uses.{both_uses, all_uses, use_if, reads_port, feeds_read, writes, use_of}
use Rattle.bloom_forms.specs.Annotation.{rule_gate, rule_use}
use Rattle.bloom_forms.specs.Given.{AreAllC}
use Rattle.bloom_forms.proofs.Combining.Using.{uses_by_cone}

-- a use that is CR or CW, or none
abbrev pub IsC : Option Note → Type 0
IsC given = IfSome given (λ note. own_gate note ≡ None)

-- ---- combined uses

gates_none : (w : Bool) (g h : Option Attrs) → own_gate (note_with w (common_gate g h)) ≡ None → (g ≡ None) × (h ≡ None)
gates_none w None None e = (refl, refl)
gates_none true None (Some h) e = cc
gates_none false None (Some h) e = cc
gates_none true (Some g) None e = cc
gates_none false (Some g) None e = cc
gates_none true (Some g) (Some h) e = cc
gates_none false (Some g) (Some h) e = cc

both_c : (a b : Option Note) → IsC (both_uses a b) → IsC a × IsC b
both_c None b h = (tt, h)
both_c (Some a) None h = (h, tt)
both_c (Some a) (Some b) h = gates_none _ (own_gate a) (own_gate b) h

pub each_c : (uses : List (Option Note)) → IsC (all_uses uses) → (one : Option Note) → Has one uses → IsC one
each_c [] c one h = absurd h
each_c (first ∷ uses) c one (inl e) = subst (λ (u : Option Note). IsC u) e (both_c first (all_uses uses) c).0
each_c (first ∷ uses) c one (inr h) = each_c uses (both_c first (all_uses uses) c).1 one h

-- ---- a rule whose uses are C

-- a port that is asked through tables has a gate
asks : (gate : ℕ) (reads : Bool) → reads ≡ true → (other : Option Note) → IsC (both_uses (use_if reads (OR (record { bits = gate }))) other) → ⊥
asks gate true e None h = cc
asks gate true e (Some other) h = let both = gates_none _ (Some _) (own_gate other) h in let bad = both.0 in cc
asks gate false e other h = true≢false (sym e)

sums : (gate : ℕ) (fed confluent : Bool) → is_some (use_if fed (writes confluent gate)) ≡ true
    → IsC (use_if fed (writes confluent gate)) → confluent ≡ true
sums gate true true e h = refl
sums gate true false e h = cc
sums gate false confluent e h = absurd (true≢false (sym e))

module _ (names : List Name) (a : Accepted) (checked : IsChecked a.form a.heads) (rule : RuleForm) (stands : Has rule a.form.rules) (all_c : AreAllC (Module a) (rule_use names a rule)) where
  abbrev cs : List Collection
  cs = a.form.collections

  abbrev use_at : ℕ → Option Note
  use_at k = use_of cs a.form.rules (good_tables a) (rule_gate names a rule) k rule.1

  port_c : (k : ℕ) → kind_at cs k ≡ Some Input → IsC (use_at k)
  port_c k is = subst (λ (n : ℕ). IsC (use_at n)) (number_at_place Input cs k is) (all_c (place_in_kind Input cs k) (place_within Input cs k is))

  input_kind : (kind : Kind) → is_input kind ≡ true → kind ≡ Input
  input_kind Input e = refl
  input_kind Output e = cc
  input_kind Table e = cc
  input_kind Scratch e = cc

  -- a momentary rule reads no table
  pub linear_c : now a checked rule.1 ≡ true → reads_table cs a.form.rules rule.1 ≡ false
  linear_c t = elim (cases_Bool (reads_table cs a.form.rules rule.1)) [
    | inr f ↦ f
    | inl g ↦ absurd (
        let m = meets-some (kind_set is_input cs) (direct cs a.form.rules rule.1) t in
        let small : m.0 < 64 = bit_small (kind_set is_input cs) m.0 (kind_set-lt is_input cs) m.1.0 in
        let found = from_kind_set is_input cs m.0 small (bit-in m.0 (kind_set is_input cs) small m.1.0) in
        let read : reads_port cs a.form.rules m.0 rule.1 ≡ true = bit-in m.0 (direct cs a.form.rules rule.1) small m.1.1 in
        let c = port_c m.0 (found.1 ∙ ap Some (input_kind found.0 found.2)) in
        asks (rule_gate names a rule) (reads_port cs a.form.rules m.0 rule.1) read _ (rw (t, g) at c))
  ]

  -- a table-only rule that a port feeds is free of group and notin, over good tables
  pub growing_c : now a checked rule.1 ≡ false → IsFed a checked (named cs rule.1)
      → (is_free cs a.form.rules rule.1 ≡ true) × (reads_good cs a.form.rules (good_tables a) rule.1 ≡ true)
  growing_c f fed =
      let k = fed.port in
      let there : is_some (use_at k) ≡ true = uses_by_cone a.form a.heads checked rule k stands fed.is (good_tables a) (rule_gate names a rule) ∙ fed.there in
      and_parts _ _ (sums (rule_gate names a rule) (feeds_read cs a.form.rules k rule.1) _ (rw f at there) (rw f at (port_c k fed.is)))
