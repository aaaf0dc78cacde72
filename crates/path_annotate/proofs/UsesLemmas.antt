-- Uses of one port combine in any grouping.
use Rattle.std.proofs.Common.{◌≡◌, ◌||◌, Bool, true, false, Option, None, Some, refl, ap, ◌∙◌, sym}
use Rattle.std.proofs.lemmas.Nat.{and_assoc}
use Rattle.blz_value.specs.declared.attrs.Attrs.{Attrs}
use Rattle.bloom_forms.proofs.Combining.CoversLaw.{is_write-note_with, gate_of-note_with}
use Rattle.bloom_forms.specs.declared.note.Note.{Note}
use Rattle.bloom_forms.specs.Note.{is_write, own_gate, note_with, common_gate, combine}
use Rattle.bloom_forms.specs.Uses.{both_uses}

or-assoc : (a b c : Bool) → ((a || b) || c) ≡ (a || (b || c))
or-assoc true b c = refl
or-assoc false b c = refl

common-assoc : (a b c : Option Attrs) → common_gate (common_gate a b) c ≡ common_gate a (common_gate b c)
common-assoc None None None = refl
common-assoc None None (Some c) = refl
common-assoc None (Some b) None = refl
common-assoc None (Some b) (Some c) = refl
common-assoc (Some a) None None = refl
common-assoc (Some a) None (Some c) = refl
common-assoc (Some a) (Some b) None = refl
common-assoc (Some a) (Some b) (Some c) = ap (λ bits. let both : Attrs = record { bits = bits } in Some both) (and_assoc c.bits a.bits b.bits)

combine-assoc : (a b c : Note) → combine (combine a b) c ≡ combine a (combine b c)
combine-assoc a b c =
    let w = is_write a || is_write b in
    let v = is_write b || is_write c in
    let g = common_gate (own_gate a) (own_gate b) in
    let h = common_gate (own_gate b) (own_gate c) in
    ap (λ x. note_with (x || is_write c) (common_gate (own_gate (note_with w g)) (own_gate c))) (is_write-note_with w g)
    ∙ ap (λ x. note_with (w || is_write c) (common_gate x (own_gate c))) (gate_of-note_with w g)
    ∙ ap (λ x. note_with x (common_gate g (own_gate c))) (or-assoc (is_write a) (is_write b) (is_write c))
    ∙ ap (note_with (is_write a || v)) (common-assoc (own_gate a) (own_gate b) (own_gate c))
    ∙ ap (λ x. note_with (is_write a || v) (common_gate (own_gate a) x)) (sym (gate_of-note_with v h))
    ∙ ap (λ x. note_with (is_write a || x) (common_gate (own_gate a) (own_gate (note_with v h)))) (sym (is_write-note_with v h))

pub both_uses_assoc : (a b c : Option Note) → both_uses (both_uses a b) c ≡ both_uses a (both_uses b c)
both_uses_assoc None b c = refl
both_uses_assoc (Some a) None c = refl
both_uses_assoc (Some a) (Some b) None = refl
both_uses_assoc (Some a) (Some b) (Some c) = ap Some (combine-assoc a b c)
