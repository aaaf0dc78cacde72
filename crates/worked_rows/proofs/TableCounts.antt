-- An instance with a program keeps one set for each of its tables, whatever came to it.
use Rattle.std.proofs.Common.{◌≡◌, ◌∙◌, List, [], ◌∷◌, Option, Some, length, sym, subst, ap}
use Rattle.std.specs.List.{fold}
use Rattle.std.proofs.lemmas.List.{length-map}
use Rattle.bloom_forms.specs.declared.program.Program.{Program}
use Rattle.bloom_forms.specs.Program.{table_columns}
use Rattle.bloom_forms.specs.Query.{Name}
use Rattle.blz_boxes.proofs.Tables.{as_many_tables}
use Rattle.inbox.specs.Emission.{Kept, emit, emit_of, emit_step, first_tables, begin_life, nothing_emitted}
use Rattle.inbox.specs.Instances.{Instance}
use Rattle.inbox.specs.Lives.{Life, Lives, all_lives, after_life, kept_after, life_sets_off}
use Rattle.inbox.specs.Timesteps.{SetOff}
use Rattle.messages.specs.Messages.{Entry}

-- what holds at the beginning and is kept by each step holds at the end
fold_keeps : {X Y : Type 0} (f : X → Y → X) (P : X → Type 0) → ((x : X) (y : Y) → P x → P (f x y)) → (x : X) (ys : List Y) → P x → P (fold f x ys)
fold_keeps f P keeps x [] here = here
fold_keeps f P keeps x (y ∷ ys) here = fold_keeps f P keeps (f x y) ys (keeps x y here)

-- one set for each table of a program
abbrev IsCounted : Program → Kept → Type 0
IsCounted program kept = length kept.tables ≡ length (table_columns program)

module _ (i : Instance) (program : Program) (is : i.program ≡ Some program) where
  first : length (first_tables i.program) ≡ length (table_columns program)
  first = ap (λ (p : Option Program). length (first_tables p)) is ∙ length-map (table_columns program) (λ (names : List Name). [])

  after_set_off : (kept : Kept) (s : SetOff) → IsCounted program kept → IsCounted program (emit i kept s)
  after_set_off kept s here =
      subst (λ (p : Option Program). IsCounted program (emit_of p i kept s)) (sym is)
      (fold_keeps (emit_step program) (IsCounted program) (λ k now before. as_many_tables program k.tables now) kept s.steps here)

  one_life : (log : List Entry) (kept : Kept) (life : Life) → IsCounted program kept → IsCounted program (after_life i log kept life)
  one_life log kept life here = fold_keeps (emit i) (IsCounted program) after_set_off (begin_life i kept) (life_sets_off i log life) first

  pub counted_after : (log : List Entry) (lives : Lives) → length (kept_after i log lives).tables ≡ length (table_columns program)
  counted_after log lives = fold_keeps (after_life i log) (IsCounted program) (one_life log) (nothing_emitted i) (all_lives lives) first
