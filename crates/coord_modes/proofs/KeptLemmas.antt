-- Keys are tried, or none is, and no key is tried with Order.
use Rattle.std.proofs.Common.{◌≡◌, ℕ, Bool, true, false, if◌then◌else◌, None, [], refl, ap, sym, subst}
use Rattle.std.specs.List.{filter_map, find}
use Rattle.blz_value.specs.declared.attrs.Attrs.{Attrs}
use Rattle.bloom_forms.specs.declared.mode.Mode.{Mode}
use Rattle.bloom_forms.specs.declared.mode.Mode.TheVariants.{Pass, Seal}
use Rattle.topo_forms.specs.Carried.{port_key}
use Rattle.topo_forms.specs.View.{View, is_order_mode, port_numbers}
use Rattle.coord_modes.specs.declared.steps.Steps.{Steps}
use Rattle.coord_modes.specs.Plan.{has_order_note, is_good, tried_mode, trial, kept_key}

module _ (steps : Steps) (v : View) (c : ℕ) where
  pub keys_tried : steps.keys ≡ true → find (λ k. is_good (trial v c k) c) (filter_map (port_key v c) (port_numbers v c)) ≡ kept_key steps v c
  keys_tried e = ap (λ (b : Bool). find (λ k. is_good (trial v c k) c) (if b then filter_map (port_key v c) (port_numbers v c) else [])) (sym e)

  pub none_tried : steps.keys ≡ false → None ≡ kept_key steps v c
  none_tried e = ap (λ (b : Bool). find (λ k. is_good (trial v c k) c) (if b then filter_map (port_key v c) (port_numbers v c) else [])) (sym e)

pub tried_unordered : (v : View) (c : ℕ) (key : Attrs) (m : Mode) → m ≡ tried_mode v c key → is_order_mode m ≡ false
tried_unordered v c key m is = subst (λ (n : Mode). is_order_mode n ≡ false) (sym is) (by (has_order_note v c))
  where
    by : (b : Bool) → is_order_mode (if b then Seal key else Pass key) ≡ false
    by true = refl
    by false = refl
