-- An instance without a body emits nothing.
use Rattle.std.proofs.Common.{◌≡◌, refl, ap, ◌∙◌, ℕ, zero, suc, List, [], ◌∷◌, map, get_or, Option, None}
use Rattle.std.specs.List.{fold}
use Rattle.bloom_forms.specs.declared.program.Program.{Program}
use Rattle.topo_forms.specs.Messages.{Message}
use Rattle.messages.specs.Messages.{Entry}
use Rattle.inbox.specs.Instances.{Instance}
use Rattle.inbox.specs.Timesteps.{SetOff}
use Rattle.inbox.specs.Emission.{Kept, emit_of, emit, begin_life, nothing_emitted}
use Rattle.inbox.specs.Lives.{Life, Lives, all_lives, life_sets_off, after_life, emitted_by}

module _ (i : Instance) (bodiless : i.program ≡ None) (log : List Entry) where
  lists-emit : (kept : Kept) (answers : List SetOff) → (fold (emit i) kept answers).lists ≡ kept.lists
  lists-emit kept [] = refl
  lists-emit kept (s ∷ answers) = lists-emit (emit i kept s) answers ∙ ap (λ (p : Option Program). (emit_of p i kept s).lists) bodiless

  lists-lives : (lives : List Life) (kept : Kept) → (fold (after_life i log) kept lives).lists ≡ kept.lists
  lists-lives [] kept = refl
  lists-lives (life ∷ lives) kept = lists-lives lives (after_life i log kept life) ∙ lists-emit (begin_life i kept) (life_sets_off i log life)

  abbrev no_messages : List Message
  no_messages = []

  empties : {X : Type 0} (xs : List X) (n : ℕ) → get_or (map (λ (x : X). no_messages) xs) n [] ≡ no_messages
  empties [] n = refl
  empties (x ∷ xs) zero = refl
  empties (x ∷ xs) (suc n) = empties xs n

  pub nothing_without : (lives : Lives) (output : ℕ) → emitted_by i log lives output ≡ []
  nothing_without lives output = ap (λ lists. get_or lists output []) (lists-lives (all_lives lives) (nothing_emitted i)) ∙ empties i.outputs output
