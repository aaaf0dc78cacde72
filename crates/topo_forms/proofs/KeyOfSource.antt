-- A source carries its own key, and is one of the streams.
use Rattle.std.proofs.Common.{◌≡◌, ◌<◌, ◌≤◌, ℕ, true, if◌then◌else◌, Option, None, Some, length, refl, arith, ap, ◌∙◌}
use Rattle.std.specs.Option.{option_and_then}
use Rattle.std.proofs.lemmas.Bool.{eq-eqb}
use Rattle.std.proofs.lemmas.List.Sums.{length-filter, count_by-le-length}
use Rattle.blz_value.specs.declared.attrs.Attrs.{Attrs}
use Rattle.topo_forms.specs.Carried.{key_before, carries_key, carries}
use Rattle.blz_value.specs.Arrows.{is_key}
use Rattle.topo_forms.specs.Laws.{carries_next}
use Rattle.topo_forms.specs.Valid.{IsValid}
use Rattle.topo_forms.specs.View.{View, End, is_source, stream_at, origin_of, source_count}
use Rattle.topo_forms.proofs.Found.OneLevel.{carries_law}

-- there are no more sources than streams
pub source_stream : (v : View) → source_count v ≤ length v.streams
source_stream v = omega (arith, length-filter is_source v.streams, count_by-le-length is_source v.streams)

module _ (v : View) (valid : IsValid v) (s : ℕ) (lt : s < source_count v) where
  stream_lt : s < length v.streams
  stream_lt = omega (arith, source_stream v)

  no_origin : origin_of v s ≡ None
  no_origin = (valid.numbered.sources s stream_lt).1 lt

  few : length v.streams < 65
  few = omega (arith, valid.numbered.few_streams)

  own : (key : Attrs) → (stream_at v s).key ≡ Some key → carries_key v key.bits s ≡ true
  own key e =
      carries_law v few key.bits s stream_lt
      ∙ ap (λ (o : Option End). carries_next v key.bits (carries_key v key.bits) s o) no_origin
      ∙ ap (is_key key.bits) e ∙ eq-eqb key.bits key.bits refl

  kept : (o : Option Attrs) → (stream_at v s).key ≡ o → option_and_then (λ key. if carries_key v key.bits s then Some key else None) o ≡ o
  kept None e = refl
  kept (Some key) e = rw (own key e) refl

  pub carried_of_source : carries v s ≡ (stream_at v s).key
  unfolding carries
  carried_of_source =
      ap (λ (o : Option End). option_and_then (λ key. if carries_key v key.bits s then Some key else None) (key_before v s o)) no_origin
      ∙ kept (stream_at v s).key refl
