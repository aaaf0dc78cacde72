-- A source carries the key that it declares.
use Rattle.std.proofs.Common.{◌≡◌, ◌<◌, ℕ, Bool, true, nat_eq, if◌then◌else◌, Option, None, Some, length, refl, arith, rules, ap, ◌∙◌}
use Rattle.std.specs.Option.{option_and_then}
use Rattle.blz_value.specs.declared.attrs.Attrs.{Attrs}
use Rattle.topo_forms.specs.Carried.{key_before, carries, carries_key}
use Rattle.blz_value.specs.Arrows.{is_key}
use Rattle.topo_forms.specs.Laws.{carries_next}
use Rattle.topo_forms.specs.Valid.{IsValid}
use Rattle.topo_forms.specs.View.{View, End, origin_of, stream_at}
use Rattle.topo_forms.proofs.Found.OneLevel.{carries_law}

pub source_carries : (v : View) → IsValid v → (s : ℕ) → s < length v.streams → origin_of v s ≡ None → carries v s ≡ (stream_at v s).key
unfolding carries
source_carries v valid s lt is = ap (λ (o : Option End). option_and_then (λ key. if carries_key v key.bits s then Some key else None) (key_before v s o)) is ∙ by (stream_at v s).key refl
  where
    few : length v.streams < 65
    few = omega (arith, valid.numbered.few_streams)

    declared : (key : ℕ) → carries_key v key s ≡ is_key key (stream_at v s).key
    declared key = carries_law v few key s lt ∙ ap (λ (o : Option End). carries_next v key (carries_key v key) s o) is

    by : (key : Option Attrs) → (stream_at v s).key ≡ key → option_and_then (λ key. if carries_key v key.bits s then Some key else None) key ≡ key
    by None e = refl
    by (Some key) e =
        let here : carries_key v key.bits s ≡ true = declared key.bits ∙ ap (is_key key.bits) e ∙ same key.bits in
        ap (λ (b : Bool). if b then Some key else None) here
      where
        same : (n : ℕ) → nat_eq n n ≡ true
        same n = search rules
