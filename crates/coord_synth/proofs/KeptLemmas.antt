-- A key that is kept is that of a port, the mode that is chosen may be written, and gives what the plan says.
use Rattle.std.proofs.Common.{◌≡◌, ◌<◌, ◌&&◌, inl, inr, ℕ, Bool, true, false, if◌then◌else◌, Option, None, Some, List, [], ◌∷◌, length, refl, ap, sym, subst, ◌∙◌}
use Rattle.std.specs.List.{cons_option, filter_map, find, list_all}
use Rattle.std.specs.Option.{option_and_then}
use Rattle.blz_value.specs.declared.attrs.Attrs.{Attrs}
use Rattle.blz_value.specs.Members.{Has}
use Rattle.blz_value.proofs.Membership.{Has-from_filter}
use Rattle.blz_value.proofs.Ranges.{Has-below as from_below}
use Rattle.blz_value.proofs.Options.{same_some}
use Rattle.bloom_forms.specs.declared.mode.Mode.{Mode}
use Rattle.bloom_forms.specs.declared.mode.Mode.TheVariants.{Order}
use Rattle.topo_forms.specs.Carried.{carries_key, carries, common_key, port_key}
use Rattle.topo_forms.specs.Laws.{CanHaveMode}
use Rattle.topo_forms.specs.Regions.{is_in_cycle}
use Rattle.topo_forms.specs.Valid.{IsValid, IsWhole, Validated}
use Rattle.topo_forms.specs.View.{View, goes_to, is_order, port_numbers, stream_numbers, streams_to, with_mode}
use Rattle.coord_modes.specs.declared.steps.Steps.{Steps}
use Rattle.coord_modes.specs.Keys.{IsKeyIn}
use Rattle.coord_modes.specs.Plan.{is_good, trial, kept_key, tried_mode, wants_order, with_key, plan_component}
use Rattle.coord_modes.specs.Choice.{chosen_mode, mode_with_key}
use Rattle.coord_modes.proofs.FreshRegions.{find-some}
use Rattle.coord_modes.proofs.KeysFound.{carried_key}
use Rattle.coord_synth.proofs.TrialLemmas.{can_try, can_order}

module _ (now : Validated) (whole : IsWhole now) (valid : IsValid now.view) where
  abbrev v : View
  v = now.view

  pub port_key_fits : (c p : ℕ) (key : Attrs) → port_key v c p ≡ Some key → IsKeyIn v key
  port_key_fits c p key e = go (streams_to v c p) (λ s has. from_below (length v.streams) s (Has-from_filter (goes_to v c p) s (stream_numbers v) has).0) e
    where
      go : (ss : List ℕ) → ((s : ℕ) → Has s ss → s < length v.streams) → common_key v ss ≡ Some key → IsKeyIn v key
      go [] low e = let bad : None ≡ Some key = e in cc
      go (s ∷ ss) low e = by (carries v s) refl e
        where
          by : (o : Option Attrs) → carries v s ≡ o → option_and_then (λ k. if list_all (carries_key v k.bits) ss then Some k else None) o ≡ Some key → IsKeyIn v key
          by None is e = let bad : None ≡ Some key = e in cc
          by (Some own) is e = test (list_all (carries_key v own.bits) ss) e
            where
              test : (b : Bool) → (if b then Some own else None) ≡ Some key → IsKeyIn v key
              test true e = carried_key now whole valid s key (low s (inl refl)) (is ∙ e)
              test false e = let bad : None ≡ Some key = e in cc

  from_given : (c : ℕ) (ps : List ℕ) (key : Attrs) → Has key (filter_map (port_key v c) ps) → IsKeyIn v key
  from_given c [] key has = absurd has
  from_given c (p ∷ ps) key has = by (port_key v c p) refl (λ later. from_given c ps key later) has
    where
      by : (o : Option Attrs) → port_key v c p ≡ o → (Has key (filter_map (port_key v c) ps) → IsKeyIn v key) → Has key (cons_option o (filter_map (port_key v c) ps)) → IsKeyIn v key
      by None is more has = more has
      by (Some own) is more (inl same) = port_key_fits c p key (is ∙ ap (λ (k : Attrs). Some k) same)
      by (Some own) is more (inr has) = more has

  pub kept_fits : (steps : Steps) (c : ℕ) (key : Attrs) → kept_key steps v c ≡ Some key → IsKeyIn v key
  kept_fits steps c key e = by steps.keys e
    where
      by : (b : Bool) → find (λ k. is_good (trial v c k) c) (if b then filter_map (port_key v c) (port_numbers v c) else []) ≡ Some key → IsKeyIn v key
      by true e = from_given c (port_numbers v c) key (find-some (λ k. is_good (trial v c k) c) (filter_map (port_key v c) (port_numbers v c)) key e).0
      by false e = let bad : None ≡ Some key = e in cc

-- ---- the mode that is chosen

module _ (now : Validated) (whole : IsWhole now) (valid : IsValid now.view) (steps : Steps) (c : ℕ) (lt : c < length now.view.components) (free : is_order now.view c ≡ false) (outside : is_in_cycle now.view c ≡ false) where
  -- it may be written
  pub chosen_fits : (m : Mode) → chosen_mode steps now.view c ≡ Some m → CanHaveMode now.view c m
  chosen_fits m e = by (kept_key steps now.view c) refl e
    where
      by : (o : Option Attrs) → kept_key steps now.view c ≡ o → mode_with_key steps now.view c o ≡ Some m → CanHaveMode now.view c m
      by (Some key) is e = can_try now.view c lt free key m outside (kept_fits now whole valid steps c key is) (sym (same_some (tried_mode now.view c key) m e))
      by None is e = test (steps.orders && wants_order now.view c) e
        where
          test : (b : Bool) → (if b then Some Order else None) ≡ Some m → CanHaveMode now.view c m
          test true e = subst (CanHaveMode now.view c) (same_some Order m e) (can_order now.view c lt free)
          test false e = let bad : None ≡ Some m = e in cc

-- and the topology with it is that of the plan
pub chosen_is : (steps : Steps) (v : View) (c : ℕ) (m : Mode) → chosen_mode steps v c ≡ Some m → with_mode v c m ≡ with_key steps v c (kept_key steps v c)
chosen_is steps v c m e = by (kept_key steps v c) e
  where
    by : (o : Option Attrs) → mode_with_key steps v c o ≡ Some m → with_mode v c m ≡ with_key steps v c o
    by (Some key) e = ap (with_mode v c) (sym (same_some (tried_mode v c key) m e))
    by None e = test (steps.orders && wants_order v c) e
      where
        test : (b : Bool) → (if b then Some Order else None) ≡ Some m → with_mode v c m ≡ (if b then with_mode v c Order else v)
        test true e = ap (with_mode v c) (sym (same_some Order m e))
        test false e = let bad : None ≡ Some m = e in cc

pub none_chosen : (steps : Steps) (v : View) (c : ℕ) → chosen_mode steps v c ≡ None → v ≡ with_key steps v c (kept_key steps v c)
none_chosen steps v c e = by (kept_key steps v c) e
  where
    by : (o : Option Attrs) → mode_with_key steps v c o ≡ None → v ≡ with_key steps v c o
    by (Some key) e = let bad : Some (tried_mode v c key) ≡ None = e in cc
    by None e = test (steps.orders && wants_order v c) e
      where
        test : (b : Bool) → (if b then Some Order else None) ≡ None → v ≡ (if b then with_mode v c Order else v)
        test true e = let bad : Some Order ≡ None = e in cc
        test false e = refl

-- ---- what is Order, and what isn't

module _ (steps : Steps) (v : View) (c : ℕ) where
  pub plan_order : is_order v c ≡ true → v ≡ plan_component steps v c
  plan_order e = ap (λ (b : Bool). if b then v else with_key steps v c (kept_key steps v c)) (sym e)

  pub plan_free : is_order v c ≡ false → with_key steps v c (kept_key steps v c) ≡ plan_component steps v c
  plan_free e = ap (λ (b : Bool). if b then v else with_key steps v c (kept_key steps v c)) (sym e)
