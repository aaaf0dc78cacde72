-- A stream carries a key exactly where it is the key that the stream carries.
use Rattle.std.proofs.Common.{◌≡◌, refl, ap, sym, subst, ◌∙◌, ℕ, ◌<◌, ◌&&◌, ◌||◌, true, false, cond, length, arith, Option, None, Some}
use Rattle.std.specs.List.{list_all}
use Rattle.std.specs.Option.{option_and_then}
use Rattle.std.proofs.lemmas.Bool.{eq-eqb}
use Rattle.blz_value.specs.declared.attrs.Attrs.{Attrs}
use Rattle.topo_forms.specs.Carried.{may_carry, streams_towards, carries_key, key_before, carries}
use Rattle.blz_value.specs.Arrows.{is_key}
use Rattle.blz_value.proofs.Booleans.{same_truth, both_true}
use Rattle.blz_value.proofs.Options.{is_key-is}
use Rattle.topo_forms.specs.Laws.{carries_next}
use Rattle.topo_forms.specs.Valid.{IsValid}
use Rattle.topo_forms.specs.View.{View, End, origin_of, stream_at, mode_of, mode_key, has_body}
use Rattle.topo_forms.proofs.Found.OneLevel.{carries_law}

carries_cases : (v : View) (s : ℕ) (o : Option Attrs) (key : Attrs) → option_and_then (λ own. cond (carries_key v own.bits s) (Some own) None) o ≡ Some key → carries_key v key.bits s ≡ true
carries_cases v s None key e = cc
carries_cases v s (Some own) key e =
    elim (carries_key v own.bits s) as (λ b. carries_key v own.bits s ≡ b → carries_key v key.bits s ≡ true) [
      | true ↦ λ t.
          let same : Some own ≡ Some key = sym (ap (λ b. cond b (Some own) None) t) ∙ e in
          subst (λ (k : Attrs). carries_key v k.bits s ≡ true) (let is : own ≡ key = cc in is) t
      | false ↦ λ f. let none : None ≡ Some key = sym (ap (λ b. cond b (Some own) None) f) ∙ e in cc
    ] refl

module _ (v : View) (valid : IsValid v) (s : ℕ) (lt : s < length v.streams) where
  few : length v.streams < 65
  few = let n = valid.numbered.few_streams in omega (arith, n)

  carries_by : (o : Option End) (own : Attrs) → origin_of v s ≡ o → key_before v s o ≡ Some own → carries_key v own.bits s ≡ true → carries v s ≡ Some own
  unfolding carries
  carries_by o own is before does =
      ap (λ (p : Option End). option_and_then (λ key. cond (carries_key v key.bits s) (Some key) None) (key_before v s p)) is
      ∙ ap (option_and_then (λ key. cond (carries_key v key.bits s) (Some key) None)) before
      ∙ ap (λ b. cond b (Some own) None) does

  key_then : (key : ℕ) (own : Attrs) → own.bits ≡ key → carries v s ≡ Some own → is_key key (carries v s) ≡ true
  key_then key own is e = ap (is_key key) e ∙ eq-eqb own.bits key is

  there : (key : ℕ) (o : Option End) → origin_of v s ≡ o → carries_key v key s ≡ true → is_key key (carries v s) ≡ true
  there key None is e =
      let declared : is_key key (stream_at v s).key ≡ true = sym (carries_law v few key s lt ∙ ap (λ (p : Option End). carries_next v key (carries_key v key) s p) is) ∙ e in
      let k = is_key-is key (stream_at v s).key declared in
      key_then key k.0 k.2 (carries_by None k.0 is k.1 (subst (λ n. carries_key v n s ≡ true) (sym k.2) e))
  there key (Some output) is e =
      let next : carries_next v key (carries_key v key) s (Some output) ≡ true = sym (carries_law v few key s lt ∙ ap (λ (p : Option End). carries_next v key (carries_key v key) s p) is) ∙ e in
      let may = (both_true (may_carry v key (Some output)) _ (sym (ap (λ b. b || (may_carry v key (Some output) && list_all (carries_key v key) (streams_towards v output.0 output.1))) (no_key (stream_at v s).key refl)) ∙ next)).0 in
      let mode = (both_true (is_key key (mode_key (mode_of v output.0))) _ (both_true (has_body v output.0) _ may).1).0 in
      let k = is_key-is key (mode_key (mode_of v output.0)) mode in
      key_then key k.0 k.2 (carries_by (Some output) k.0 is k.1 (subst (λ n. carries_key v n s ≡ true) (sym k.2) e))
    where
      no_key : (o : Option Attrs) → (stream_at v s).key ≡ o → is_key key (stream_at v s).key ≡ false
      no_key None p = ap (is_key key) p
      no_key (Some own) p = (let bad : Some output ≡ None = sym is ∙ (valid.columns s lt).of_source own p in cc)

  back : (key : ℕ) → is_key key (carries v s) ≡ true → carries_key v key s ≡ true
  unfolding carries
  back key e =
      let k = is_key-is key (carries v s) e in
      subst (λ n. carries_key v n s ≡ true) k.2 (carries_cases v s (key_before v s (origin_of v s)) k.0 k.1)

  pub carries_key-is : (key : ℕ) → carries_key v key s ≡ is_key key (carries v s)
  carries_key-is key = same_truth (carries_key v key s) (is_key key (carries v s)) (there key (origin_of v s) refl) (back key)
