use Rattle.std.proofs.Common.{◌≡◌, ◌∙◌, ◌++◌, ◌∷◌, [], ℕ, List, Result, Ok, Err, OnOk, subst}
use Rattle.std.proofs.lemmas.Result.{IfOk-weaker}
use Rattle.messages.specs.Ids.{batch_with_ids}
use Rattle.messages.specs.Messages.{Batch, all_pairs}
use Rattle.messages.specs.declared.message.Message.{Message}
use Rattle.inbox.specs.Inbox.{HasHeard}
use Rattle.inbox.specs.Instances.{Instance}
use Rattle.inbox.specs.Timesteps.{set_off}
use Rattle.inbox.proofs.inbox.Inbox.hear.Goals as goal

-- what holds, holds where there is an answer
on_ok : {T E P : Type 0} (r : Result T E) → P → OnOk r P
on_ok (Ok x) p = p
on_ok (Err e) p = tt

pub returns-clause-heard : goal.returns-clause-heard
returns-clause-heard c =
    on_ok c.timesteps_of.result
    (subst (λ (b : List (ℕ × Message)). (i : Instance) (batches : List Batch) → HasHeard i c.args.pool.now batches c.args.self.now → HasHeard i c.args.pool.now (batches ++ batch_with_ids c.args.pool.now b ∷ []) c.hear_batch.new.self)
    c.as_slice.ensures.value c.in_ok-set.ensures.heard)

pub returns-clause-whole : goal.returns-clause-whole
returns-clause-whole c =
    IfOk-weaker c.timesteps_of.result _ _
    (λ read same i batches heard.
    same
    ∙ subst (λ (b : List (ℕ × Message)). c.in_ok-set.set.whole ≡ (set_off i (all_pairs batches) (batch_with_ids c.args.pool.now b)).whole) c.as_slice.ensures.value (c.in_ok-set.ensures.whole i batches heard))
    c.timesteps_of.ensures.whole
