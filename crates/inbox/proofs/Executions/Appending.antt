-- One batch, one entry, one forget and one step more: what each adds to what was there.
use Rattle.std.proofs.Common.{◌≡◌, refl, ap, sym, ◌∙◌, ◌+◌, ◌<◌, Bool, true, false, List, [], ◌∷◌, ◌++◌, length, map, take, get_or, append_assoc, append-nil, arith, suc}
use Rattle.std.specs.Prelude.{Ok, if◌then◌else◌}
use Rattle.std.specs.List.{fold, flat_map}
use Rattle.std.proofs.lemmas.List.{map-append}
use Rattle.std.proofs.lemmas.List.Sums.{fold-append}
use Rattle.std.proofs.lemmas.Grind.{flat_map-append}
use Rattle.std.proofs.Math.Seq.{take-suc}
use Rattle.messages.specs.Messages.{Pair, Batch, Entry, all_pairs}
use Rattle.topo_forms.specs.View.{is_order_mode}
use Rattle.inbox.specs.Instances.{Instance}
use Rattle.inbox.specs.Timesteps.{SetOff, set_off, each_after, each_set_off, timesteps}
use Rattle.inbox.specs.Emission.{Kept, emit, begin_life, nothing_emitted}
use Rattle.inbox.specs.Lives.{Life, Lives, hear_batch, take_entry, forget_all, of_entry, life_sets_off, after_life, kept_after}
use Rattle.topo_forms.specs.Data.{Data}
use Rattle.inbox.specs.Wiring.{Wiring}
use Rattle.inbox.specs.Executions.{first_execution, result_and_then, after_step, execution_of, Execution}
use Rattle.inbox.specs.Events.{Step}

-- ---- one batch more

pub each_after-append : (i : Instance) (heard : List Pair) (batches : List Batch) (batch : Batch) → each_after i heard (batches ++ batch ∷ []) ≡ each_after i heard batches ++ set_off i (heard ++ all_pairs batches) batch ∷ []
each_after-append i heard [] batch = ap (λ h. set_off i h batch ∷ []) (sym (append-nil heard))
each_after-append i heard (first ∷ batches) batch =
    ap (λ l. set_off i heard first ∷ l) (each_after-append i (heard ++ first) batches batch
    ∙ ap (λ h. each_after i (heard ++ first) batches ++ set_off i h batch ∷ []) (append_assoc heard first (all_pairs batches)))

-- what a batch sets off comes after what the batches before it set off
pub each_set_off-more : (i : Instance) (batches : List Batch) (batch : Batch) → each_set_off i (batches ++ batch ∷ []) ≡ each_set_off i batches ++ set_off i (all_pairs batches) batch ∷ []
each_set_off-more i batches batch = each_after-append i [] batches batch

-- the timesteps with one batch more are those before it, and those that it sets off after all that was heard before it
pub timesteps-more : (i : Instance) (batches : List Batch) (batch : Batch) → timesteps i (batches ++ batch ∷ []) ≡ timesteps i batches ++ (set_off i (all_pairs batches) batch).steps
timesteps-more i batches batch =
    ap (flat_map (λ s. s.steps)) (each_set_off-more i batches batch)
    ∙ flat_map-append (λ s. s.steps) (each_set_off i batches) (set_off i (all_pairs batches) batch ∷ [])
    ∙ ap (λ l. timesteps i batches ++ l) (append-nil (set_off i (all_pairs batches) batch).steps)

-- ---- lives

-- what a life sets off, where the instance hears messages, and where it takes entries
pub sets_off-hearing : (i : Instance) (log : List Entry) (life : Life) → is_order_mode i.mode ≡ false → life_sets_off i log life ≡ each_set_off i life.heard
sets_off-hearing i log life not_order = ap (λ b. if b then map (of_entry i) (take life.taken log) else each_set_off i life.heard) not_order

pub sets_off-taking : (i : Instance) (log : List Entry) (life : Life) → is_order_mode i.mode ≡ true → life_sets_off i log life ≡ map (of_entry i) (take life.taken log)
sets_off-taking i log life is = ap (λ b. if b then map (of_entry i) (take life.taken log) else each_set_off i life.heard) is

-- what a last life makes, after the lives before it
kept_after-last : (i : Instance) (log : List Entry) (lives : Lives) → kept_after i log lives ≡ after_life i log (fold (after_life i log) (nothing_emitted i) lives.earlier) lives.last
kept_after-last i log lives = fold-append (after_life i log) (nothing_emitted i) lives.earlier (lives.last ∷ [])

one_more : (i : Instance) (kept : Kept) (before : List SetOff) (s : SetOff) → fold (emit i) kept (before ++ s ∷ []) ≡ emit i (fold (emit i) kept before) s
one_more i kept before s = fold-append (emit i) kept before (s ∷ [])

-- a batch more in the last life: its timesteps, and its seals
pub kept_after-hear : (i : Instance) (log : List Entry) (lives : Lives) (batch : Batch) → is_order_mode i.mode ≡ false → kept_after i log (hear_batch batch lives) ≡ emit i (kept_after i log lives) (set_off i (all_pairs lives.last.heard) batch)
kept_after-hear i log lives batch not_order =
    let kept = begin_life i (fold (after_life i log) (nothing_emitted i) lives.earlier) in
    kept_after-last i log (hear_batch batch lives)
    ∙ ap (fold (emit i) kept) (sets_off-hearing i log (hear_batch batch lives).last not_order ∙ each_set_off-more i lives.last.heard batch)
    ∙ one_more i kept (each_set_off i lives.last.heard) (set_off i (all_pairs lives.last.heard) batch)
    ∙ ap (λ before. emit i (fold (emit i) kept before) (set_off i (all_pairs lives.last.heard) batch)) (sym (sets_off-hearing i log lives.last not_order))
    ∙ ap (λ k. emit i k (set_off i (all_pairs lives.last.heard) batch)) (sym (kept_after-last i log lives))

-- an entry more in the last life of an Order replica: one timestep
pub kept_after-take : (i : Instance) (log : List Entry) (lives : Lives) (entry : Entry) → is_order_mode i.mode ≡ true → lives.last.taken < length log → get_or log lives.last.taken entry ≡ entry → kept_after i log (take_entry lives) ≡ emit i (kept_after i log lives) (of_entry i entry)
kept_after-take i log lives entry is within is_next =
    let kept = begin_life i (fold (after_life i log) (nothing_emitted i) lives.earlier) in
    let n = lives.last.taken in
    let longer : take (n + 1) log ≡ take n log ++ entry ∷ [] = ap (λ m. take m log) (let e : n + 1 ≡ suc n = omega arith in e) ∙ take-suc log n entry within ∙ ap (λ e. take n log ++ e ∷ []) is_next in
    kept_after-last i log (take_entry lives)
    ∙ ap (fold (emit i) kept) (sets_off-taking i log (take_entry lives).last is ∙ ap (map (of_entry i)) longer ∙ map-append (of_entry i) (take n log) (entry ∷ []))
    ∙ one_more i kept (map (of_entry i) (take n log)) (of_entry i entry)
    ∙ ap (λ before. emit i (fold (emit i) kept before) (of_entry i entry)) (sym (sets_off-taking i log lives.last is))
    ∙ ap (λ k. emit i k (of_entry i entry)) (sym (kept_after-last i log lives))

empty_sets_off : (i : Instance) (log : List Entry) (b : Bool) → (if b then map (of_entry i) (take 0 log) else each_set_off i []) ≡ []
empty_sets_off i log true = refl
empty_sets_off i log false = refl

-- after a forget the tables are empty, and the lists as they were
pub kept_after-forget : (i : Instance) (log : List Entry) (lives : Lives) → kept_after i log (forget_all lives) ≡ begin_life i (kept_after i log lives)
kept_after-forget i log lives =
    kept_after-last i log (forget_all lives)
    ∙ ap (fold (emit i) (begin_life i (kept_after i log lives))) (empty_sets_off i log (is_order_mode i.mode))

-- ---- one step more

pub execution_of-more : (w : Wiring) (given : Data) (steps : List Step) (step : Step) → execution_of w given (steps ++ step ∷ []) ≡ result_and_then (execution_of w given steps) (after_step w given step)
execution_of-more w given steps step = fold-append (λ result s. result_and_then result (after_step w given s)) (Ok first_execution) steps (step ∷ [])

-- a legal step more after legal steps
pub legal_more : (w : Wiring) (given : Data) (steps : List Step) (step : Step) (x y : Execution) → execution_of w given steps ≡ Ok x → after_step w given step x ≡ Ok y → execution_of w given (steps ++ step ∷ []) ≡ Ok y
legal_more w given steps step x y legal at = execution_of-more w given steps step ∙ ap (λ r. result_and_then r (after_step w given step)) legal ∙ at
