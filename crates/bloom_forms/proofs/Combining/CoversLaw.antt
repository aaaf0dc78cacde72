-- To cover is an order, and two notes combine to the least note that covers both.
use Rattle.std.proofs.Common.{◌≡◌, Bool, true, false, ◌||◌, refl, ap, sym, subst, Option, Some, None}
use Rattle.std.specs.Cmp.{first_so, second_so}
use Rattle.std.specs.Cmp.Derive.{both_true}
use Rattle.blz_value.specs.declared.attrs.Attrs.{Attrs}
use Rattle.blz_value.proofs.Within.{within-refl, within-trans, within-antisym, and-within_l, and-within_r, within-and}
use Rattle.bloom_forms.specs.declared.note.Note.{Note}
use Rattle.bloom_forms.specs.declared.note.Note.TheVariants.{CR, CW, OR, OW}
use Rattle.bloom_forms.specs.Note.{is_write, own_gate, note_with, common_gate, covers_write, covers_gate, covers, combine}
use Rattle.bloom_forms.specs.NoteLaws.{CoversLaw, CombineLaw}

-- W

covers_write-refl : (a : Bool) → covers_write a a ≡ true
covers_write-refl true = refl
covers_write-refl false = refl

covers_write-trans : (a b c : Bool) → covers_write a b ≡ true → covers_write b c ≡ true → covers_write a c ≡ true
covers_write-trans true b c p q = refl
covers_write-trans false false c p q = q
covers_write-trans false true c p q = cc

write-covers_l : (a b : Bool) → covers_write (a || b) a ≡ true
write-covers_l true b = refl
write-covers_l false true = refl
write-covers_l false false = refl

write-covers_r : (a b : Bool) → covers_write (a || b) b ≡ true
write-covers_r true b = refl
write-covers_r false b = covers_write-refl b

covers_write-or : (c a b : Bool) → covers_write c a ≡ true → covers_write c b ≡ true → covers_write c (a || b) ≡ true
covers_write-or c true b p q = p
covers_write-or c false b p q = q

-- gates

covers_gate-refl : (a : Option Attrs) → covers_gate a a ≡ true
covers_gate-refl None = refl
covers_gate-refl (Some a) = within-refl a.bits

covers_gate-trans : (a b c : Option Attrs) → covers_gate a b ≡ true → covers_gate b c ≡ true → covers_gate a c ≡ true
covers_gate-trans a b None p q = refl
covers_gate-trans a None (Some c) p q = cc
covers_gate-trans None (Some b) (Some c) p q = p
covers_gate-trans (Some a) (Some b) (Some c) p q = within-trans a.bits b.bits c.bits p q

gate-covers_l : (a b : Option Attrs) → covers_gate (common_gate a b) a ≡ true
gate-covers_l None b = refl
gate-covers_l (Some a) None = within-refl a.bits
gate-covers_l (Some a) (Some b) = and-within_l a.bits b.bits

gate-covers_r : (a b : Option Attrs) → covers_gate (common_gate a b) b ≡ true
gate-covers_r a None = refl
gate-covers_r None (Some b) = within-refl b.bits
gate-covers_r (Some a) (Some b) = and-within_r a.bits b.bits

covers_gate-common : (c a b : Option Attrs) → covers_gate c a ≡ true → covers_gate c b ≡ true → covers_gate c (common_gate a b) ≡ true
covers_gate-common c None None p q = refl
covers_gate-common c None (Some b) p q = q
covers_gate-common c (Some a) None p q = p
covers_gate-common None (Some a) (Some b) p q = p
covers_gate-common (Some c) (Some a) (Some b) p q = within-and a.bits b.bits c.bits p q

-- notes

pub is_write-note_with : (write : Bool) (gate : Option Attrs) → is_write (note_with write gate) ≡ write
is_write-note_with false None = refl
is_write-note_with true None = refl
is_write-note_with false (Some gate) = refl
is_write-note_with true (Some gate) = refl

pub gate_of-note_with : (write : Bool) (gate : Option Attrs) → own_gate (note_with write gate) ≡ gate
gate_of-note_with false None = refl
gate_of-note_with true None = refl
gate_of-note_with false (Some gate) = refl
gate_of-note_with true (Some gate) = refl

covers-write : (a b : Note) → covers a b ≡ true → covers_write (is_write a) (is_write b) ≡ true
covers-write a b h = first_so _ _ h

covers-gate : (a b : Note) → covers a b ≡ true → covers_gate (own_gate a) (own_gate b) ≡ true
covers-gate a b h = second_so _ _ h

pub covers-refl : (a : Note) → covers a a ≡ true
covers-refl a = both_true (covers_write-refl (is_write a)) (covers_gate-refl (own_gate a))

covers-trans : (a b c : Note) → covers a b ≡ true → covers b c ≡ true → covers a c ≡ true
covers-trans a b c p q = both_true
    (covers_write-trans (is_write a) (is_write b) (is_write c) (covers-write a b p) (covers-write b c q))
    (covers_gate-trans (own_gate a) (own_gate b) (own_gate c) (covers-gate a b p) (covers-gate b c q))

same_gate : (a b : Attrs) → a.bits ≡ b.bits → a ≡ b
same_gate a b e = ap (λ n. record { bits = n }) e

covers-antisym : (a b : Note) → covers a b ≡ true → covers b a ≡ true → a ≡ b
covers-antisym CR CR p q = refl
covers-antisym CW CW p q = refl
covers-antisym (OR a) (OR b) p q = ap (λ gate. OR gate) (same_gate a b (within-antisym a.bits b.bits p q))
covers-antisym (OW a) (OW b) p q = ap (λ gate. OW gate) (same_gate a b (within-antisym a.bits b.bits p q))
covers-antisym a b p q = cc

pub covers_law : CoversLaw
covers_law = record {
  reflexive = covers-refl;
  transitive = covers-trans;
  antisymmetric = covers-antisym;
}

is_write-combine : (a b : Note) → is_write (combine a b) ≡ (is_write a || is_write b)
is_write-combine a b = is_write-note_with (is_write a || is_write b) (common_gate (own_gate a) (own_gate b))

gate_of-combine : (a b : Note) → own_gate (combine a b) ≡ common_gate (own_gate a) (own_gate b)
gate_of-combine a b = gate_of-note_with (is_write a || is_write b) (common_gate (own_gate a) (own_gate b))

combine-covers_l : (a b : Note) → covers (combine a b) a ≡ true
combine-covers_l a b = both_true
    (subst (λ write. covers_write write (is_write a) ≡ true) (sym (is_write-combine a b)) (write-covers_l (is_write a) (is_write b)))
    (subst (λ gate. covers_gate gate (own_gate a) ≡ true) (sym (gate_of-combine a b)) (gate-covers_l (own_gate a) (own_gate b)))

combine-covers_r : (a b : Note) → covers (combine a b) b ≡ true
combine-covers_r a b = both_true
    (subst (λ write. covers_write write (is_write b) ≡ true) (sym (is_write-combine a b)) (write-covers_r (is_write a) (is_write b)))
    (subst (λ gate. covers_gate gate (own_gate b) ≡ true) (sym (gate_of-combine a b)) (gate-covers_r (own_gate a) (own_gate b)))

covers-combine : (a b note : Note) → covers note a ≡ true → covers note b ≡ true → covers note (combine a b) ≡ true
covers-combine a b note p q = both_true
    (subst (λ write. covers_write (is_write note) write ≡ true) (sym (is_write-combine a b)) (covers_write-or (is_write note) (is_write a) (is_write b) (covers-write note a p) (covers-write note b q)))
    (subst (λ gate. covers_gate (own_gate note) gate ≡ true) (sym (gate_of-combine a b)) (covers_gate-common (own_gate note) (own_gate a) (own_gate b) (covers-gate note a p) (covers-gate note b q)))

pub combine_law : CombineLaw
combine_law a b = record {
  first = combine-covers_l a b;
  second = combine-covers_r a b;
  least = covers-combine a b;
}
