-- Modes that a plan sets may be written, and what they give is what the plan says.
use Rattle.std.proofs.Common.{◌≡◌, ◌<◌, ◌&&◌, ℕ, zero, suc, not, Bool, true, false, if◌then◌else◌, List, [], ◌∷◌, length, get_or, slice_set, refl, ap, sym, subst, ◌∙◌}
use Rattle.std.proofs.lemmas.Bool.{true≢false}
use Rattle.blz_value.specs.declared.attrs.Attrs.{Attrs}
use Rattle.blz_value.proofs.Booleans.{not_true as not_so, both_true}
use Rattle.bloom_forms.specs.declared.mode.Mode.{Mode}
use Rattle.bloom_forms.specs.declared.mode.Mode.TheVariants.{Free, Pass, Seal, Order}
use Rattle.topo_forms.specs.Laws.{IsKeyOf, CanHaveMode}
use Rattle.topo_forms.specs.Regions.{is_in_cycle}
use Rattle.topo_forms.specs.Valid.{Validated}
use Rattle.topo_forms.specs.View.{View, Component, no_component, component_at, component_with_mode, is_order, is_order_mode, with_mode}
use Rattle.coord_modes.specs.Keys.{IsKeyIn}
use Rattle.coord_synth.specs.Code.Written.{StaysWritten}
use Rattle.coord_modes.specs.Plan.{has_order_note, tried_mode, order_member}

module _ (v : View) (c : ℕ) (lt : c < length v.components) (free : is_order v c ≡ false) where
  pub can_order : CanHaveMode v c Order
  can_order = record { within = lt; unordered = free; key = tt; acyclic = λ cyclic. tt }

  pub can_free : CanHaveMode v c Free
  can_free = record { within = lt; unordered = free; key = tt; acyclic = λ cyclic. tt }

  pub can_try : (key : Attrs) (m : Mode) → is_in_cycle v c ≡ false → IsKeyIn v key → m ≡ tried_mode v c key → CanHaveMode v c m
  can_try key m outside fits is = subst (CanHaveMode v c) (sym is) (record {
    within = lt;
    unordered = free;
    key = fit (has_order_note v c);
    acyclic = λ cyclic. absurd (true≢false (sym cyclic ∙ outside));
  })
    where
      fit : (b : Bool) → IsKeyOf v (if b then Seal key else Pass key)
      fit true = (fits.filled, fits.within)
      fit false = (fits.filled, fits.within)

-- ---- what a mode gives

pub stays_same : (seen : Validated) → StaysWritten seen seen
stays_same seen t written = written

-- ---- a member of a cyclic region

-- an element that is set anew
pub set_own : {X : Type 0} (xs : List X) (i : ℕ) (d x : X) → x ≡ get_or xs i d → slice_set xs i x ≡ xs
set_own [] i d x own = refl
set_own (y ∷ xs) zero d x own = ap (λ z. z ∷ xs) own
set_own (y ∷ xs) (suc i) d x own = ap (λ ys. y ∷ ys) (set_own xs i d x own)

order_mode : (m : Mode) → is_order_mode m ≡ true → Order ≡ m
order_mode Free e = absurd (true≢false (sym e))
order_mode (Pass key) e = absurd (true≢false (sym e))
order_mode (Seal key) e = absurd (true≢false (sym e))
order_mode Order e = refl

-- a component that is Order stays as it is
order_same : (v : View) (c : ℕ) → is_order v c ≡ true → with_mode v c Order ≡ v
order_same v c e =
    let own = order_mode (component_at v c).mode e in
    ap (λ (cs : List Component). record v { components = cs }) (set_own v.components c no_component (component_with_mode Order (component_at v c)) (λ i. component_with_mode (own i) (component_at v c)))

pub member_stays : (v : View) (c : ℕ) → (has_order_note v c && not (is_order v c)) ≡ false → v ≡ order_member v c
member_stays v c e = by (has_order_note v c) (is_order v c) refl e
  where
    by : (a b : Bool) → is_order v c ≡ b → (a && not b) ≡ false → v ≡ (if a then with_mode v c Order else v)
    by false b is e = refl
    by true true is e = sym (order_same v c is)
    by true false is e = absurd (true≢false e)

pub member_ordered : (v : View) (c : ℕ) → (has_order_note v c && not (is_order v c)) ≡ true → with_mode v c Order ≡ order_member v c
member_ordered v c e = sym (ap (λ (b : Bool). if b then with_mode v c Order else v) (both_true (has_order_note v c) (not (is_order v c)) e).0)

pub member_free : (v : View) (c : ℕ) → (has_order_note v c && not (is_order v c)) ≡ true → is_order v c ≡ false
member_free v c e = not_so (is_order v c) (both_true (has_order_note v c) (not (is_order v c)) e).1
