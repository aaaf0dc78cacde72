-- What messages are about is one thing or two, and one thing is hashed alike.
use Rattle.std.specs.Prelude.{◌≡◌, true}
use Rattle.std.specs.Cmp.{IsEquivalence, nat_eq_equiv, unsigned_Decides, eq_by_cmp_equiv}
use Rattle.std.proofs.Common.{refl, sym, ap, true≢false}
use Rattle.std.proofs.lemmas.Map.Views.{tells_apart}
use Rattle.blz_value.specs.RecordOrder.{record_cmp_total, record_cmp_exact}
use Rattle.blz_value.specs.Message.{is_same_row}
use Rattle.messages.specs.Subject.{is_same_subject, subject_writes}
use Rattle.messages.specs.declared.subject.Subject.{Subject}
use Rattle.messages.specs.declared.subject.Subject.TheVariants.{Row, Partition}

one_record : IsEquivalence is_same_row
one_record = eq_by_cmp_equiv record_cmp_total

itself : (s : Subject) → is_same_subject s s ≡ true
itself (Row id) = nat_eq_equiv.refl id
itself (Partition key) = one_record.refl key

either_way : (s t : Subject) → is_same_subject s t ≡ is_same_subject t s
either_way (Row id) (Row other) = nat_eq_equiv.symm id other
either_way (Row id) (Partition key) = refl
either_way (Partition key) (Row id) = refl
either_way (Partition key) (Partition other) = one_record.symm key other

alike : (s t u : Subject) → is_same_subject s t ≡ true → is_same_subject s u ≡ is_same_subject t u
alike (Row id) (Row other) (Row third) same = nat_eq_equiv.congr id other third same
alike (Row id) (Row other) (Partition key) same = refl
alike (Row id) (Partition key) u same = absurd (true≢false (sym same))
alike (Partition key) (Row id) u same = absurd (true≢false (sym same))
alike (Partition key) (Partition other) (Row id) same = refl
alike (Partition key) (Partition other) (Partition third) same = one_record.congr key other third same

pub is_same_subject_equiv : IsEquivalence is_same_subject
is_same_subject_equiv = record { refl = itself; symm = either_way; congr = alike }

-- one thing has one name
pub same_subject : (s t : Subject) → is_same_subject s t ≡ true → s ≡ t
same_subject (Row id) (Row other) same = ap Row ((unsigned_Decides id other).0 same)
same_subject (Row id) (Partition key) same = absurd (true≢false (sym same))
same_subject (Partition key) (Row id) same = absurd (true≢false (sym same))
same_subject (Partition key) (Partition other) same = ap Partition (tells_apart record_cmp_exact key other same)

pub subject_writes_alike : (s t : Subject) → is_same_subject s t ≡ true → subject_writes s ≡ subject_writes t
subject_writes_alike s t same = ap subject_writes (same_subject s t same)
