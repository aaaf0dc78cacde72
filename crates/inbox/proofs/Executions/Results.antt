-- An answer without refusal comes of answers without refusal.
use Rattle.std.proofs.Common.{◌≡◌, refl, ap, sym, ◌∙◌, Bool, true, false}
use Rattle.std.specs.Prelude.{Result, Ok, Err, if◌then◌else◌}
use Rattle.std.specs.Result.{result_unwrap_or}
use Rattle.inbox.specs.Executions.{result_and_then}

module _ {A E : Type 0} where
  pub Ok_same : (r : Result A E) (a b : A) → r ≡ Ok a → r ≡ Ok b → a ≡ b
  Ok_same r a b p q = ap (λ s. result_unwrap_or s a) (sym p ∙ q)

  pub if_Ok : (b : Bool) (r : Result A E) (refusal : E) (a : A) → (if b then r else Err refusal) ≡ Ok a → (b ≡ true) × (r ≡ Ok a)
  if_Ok true r refusal a e = (refl, e)
  if_Ok false r refusal a e = cc

  pub and_then_Ok : {B : Type 0} (r : Result A E) (f : A → Result B E) (b : B) → result_and_then r f ≡ Ok b → (a : A) × (r ≡ Ok a) × (f a ≡ Ok b)
  and_then_Ok (Ok a) f b e = (a, refl, e)
  and_then_Ok (Err refusal) f b e = cc
