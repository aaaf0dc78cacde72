use Rattle.std.proofs.Common.{◌≡◌, ◌∙◌, ℕ, List, [], ◌∷◌, refl, ap, subst, nat_lt, inl, inr}
use Rattle.std.specs.List.{insert}
use Rattle.std.proofs.lemmas.Bool.{cases_Bool}
use Rattle.bloom_forms.specs.HeadOrder.{key_at, place_for, put_head}
use Rattle.bloom_ast.proofs.checking.put_head.Goals as goal

placed : (key : ℕ → ℕ) (h : ℕ) (heads : List ℕ) → insert heads (place_for key (key h) heads) h ≡ put_head key h heads
placed key h [] = refl
placed key h (g ∷ heads) = elim (cases_Bool (nat_lt (key h) (key g))) [
  | inl t ↦ rw t refl
  | inr f ↦ rw f (ap (λ (l : List ℕ). g ∷ l) (placed key h heads))
]

pub returns : goal.returns
returns c = c.in_ok-insert.ensures.items ∙ subst (λ (at : ℕ). insert c.args.heads.now.items at c.args.head ≡ put_head (key_at c.args.keys.now) c.args.head c.args.heads.now.items)
    (let e : place_for (key_at c.args.keys.now) (key_at c.args.keys.now c.args.head) c.args.heads.now.items ≡ c.place_for-place.result = cc (c.place_for-place.ensures.value, c.key_at.ensures, c.deref.ensures.value) in e)
    (placed (key_at c.args.keys.now) c.args.head c.args.heads.now.items)
