-- Each legal step lengthens emitted lists and logs, and takes stay within logs.
use Rattle.std.proofs.Common.{◌≡◌, refl, ap, sym, subst, ◌∙◌, ℕ, ◌+◌, ◌<◌, ◌≤◌, ◌==◌, ◌&&◌, not, Bool, true, false, List, [], ◌∷◌, ◌++◌, length, map, get_or, arith, Option, None, Some, inl, inr, slice_get}
use Rattle.std.specs.Prelude.{Ok, if◌then◌else◌}
use Rattle.std.specs.List.{fold, list_any}
use Rattle.std.specs.Option.{option_map_or}
use Rattle.std.proofs.lemmas.Bool.{eqb-true, eq-eqb, ltb-true}
use Rattle.std.proofs.lemmas.List.{take-append-le, get_or_default}
use Rattle.blz_value.specs.Members.{Has}
use Rattle.blz_value.proofs.Membership.{Has-append_left, Has-append_right, Has-append_cases}
use Rattle.messages.proofs.ListsLemmas.{length-continues}
use Rattle.topo_forms.specs.Data.{Data}
use Rattle.topo_forms.specs.Messages.{Message, row, seal}
use Rattle.messages.specs.Messages.{Batch, Entry, is_same_entry, with_new, all_pairs}
use Rattle.topo_forms.specs.View.{is_order_mode, Stream}
use Rattle.inbox.specs.Instances.{Instance}
use Rattle.inbox.specs.Timesteps.{each_set_off, set_off}
use Rattle.inbox.specs.Emission.{Kept, list_of, emit, begin_life, nothing_emitted}
use Rattle.inbox.specs.Lives.{Life, Lives, empty_life, all_lives, hear_batch, take_entry, forget_all, of_entry, life_sets_off, after_life, kept_after, emitted_by}
use Rattle.inbox.specs.Wiring.{Wiring, instance_at, is_there}
use Rattle.inbox.specs.Executions.{Execution, first_execution, with_lives, list_from, is_hearing, with_logged, after_step, execution_of}
use Rattle.inbox.specs.Growth.{Continues, IsExtendedBy, TakesWithinLogs}
use Rattle.inbox.specs.Events.{Part, Step}
use Rattle.inbox.proofs.Executions.Appending.{kept_after-hear, kept_after-take, kept_after-forget}
use Rattle.inbox.proofs.Lists.Growing.{continues_itself, continues_with, emit-continues}
use Rattle.inbox.proofs.Executions.Histories.{Changes, hears, logs, takes, forgets, step_changes, by_history}

-- ---- a longer log

life_sets_off-log : (i : Instance) (log more : List Entry) (life : Life) → life.taken ≤ length log → life_sets_off i (log ++ more) life ≡ life_sets_off i log life
life_sets_off-log i log more life within = ap (λ entries. if is_order_mode i.mode then map (of_entry i) entries else each_set_off i life.heard) (take-append-le life.taken log more within)

lives-log : (i : Instance) (log more : List Entry) (lives : List Life) (kept : Kept) → ((life : Life) → Has life lives → life.taken ≤ length log) → fold (after_life i (log ++ more)) kept lives ≡ fold (after_life i log) kept lives
lives-log i log more [] kept within = refl
lives-log i log more (life ∷ lives) kept within =
    ap (λ s. fold (after_life i (log ++ more)) (fold (emit i) (begin_life i kept) s) lives) (life_sets_off-log i log more life (within life (inl refl)))
    ∙ lives-log i log more lives (after_life i log kept life) (λ other h. within other (inr h))

-- entries at the end of a log change nothing of what was taken before
pub kept_after-log : (i : Instance) (log more : List Entry) (lives : Lives) → ((life : Life) → Has life (all_lives lives) → life.taken ≤ length log) → kept_after i (log ++ more) lives ≡ kept_after i log lives
kept_after-log i log more lives within = lives-log i log more (all_lives lives) (nothing_emitted i) within

-- ---- one instance, one log

pub same_numbers : (a b c d : ℕ) → (a == c && b == d) ≡ true → (a ≡ c) × (b ≡ d)
same_numbers a b c d e =
    elim (a == c) as (λ t. (a == c) ≡ t → (t && b == d) ≡ true → (a ≡ c) × (b ≡ d)) [
      | true ↦ λ p q. (eqb-true a c p, eqb-true b d q)
      | false ↦ λ p q. cc
    ] refl e

-- the lives of the instance, and those of another
pub lives-changed : (component replica : ℕ) (change : Lives → Lives) (x : Execution) → (with_lives component replica change x).lives component replica ≡ change (x.lives component replica)
lives-changed component replica change x =
    ap (λ t. if t && replica == replica then change (x.lives component replica) else x.lives component replica) (eq-eqb component component refl)
    ∙ ap (λ t. if t then change (x.lives component replica) else x.lives component replica) (eq-eqb replica replica refl)

pub lives-other : (component replica c r : ℕ) (change : Lives → Lives) (x : Execution) → (c == component && r == replica) ≡ false → (with_lives component replica change x).lives c r ≡ x.lives c r
lives-other component replica c r change x other = ap (λ t. if t then change (x.lives c r) else x.lives c r) other

-- ---- emitted lists

from_origin : (w : Wiring) (given : Data) (x y : Execution) (line : Stream) (stream replica : ℕ) → ((c r o : ℕ) → Continues (emitted_by (instance_at w c r) (x.logs c) (x.lives c r) o) (emitted_by (instance_at w c r) (y.logs c) (y.lives c r) o))
    → (origin : Option (ℕ × ℕ)) → Continues (list_from origin w given x line stream replica) (list_from origin w given y line stream replica)
from_origin w given x y line stream replica grows None = continues_itself _
from_origin w given x y line stream replica grows (Some spot) = grows spot.0 replica spot.1

from_line : (w : Wiring) (given : Data) (x y : Execution) (stream replica : ℕ) → ((c r o : ℕ) → Continues (emitted_by (instance_at w c r) (x.logs c) (x.lives c r) o) (emitted_by (instance_at w c r) (y.logs c) (y.lives c r) o))
    → (line : Option Stream) → Continues (option_map_or (λ l. list_from l.origin w given x l stream replica) line []) (option_map_or (λ l. list_from l.origin w given y l stream replica) line [])
from_line w given x y stream replica grows None = continues_itself []
from_line w given x y stream replica grows (Some line) = from_origin w given x y line stream replica grows line.origin

-- where the lists of instances and the logs are longer, the execution is
pub instances_grow : (w : Wiring) (given : Data) (x y : Execution) → ((c r o : ℕ) → Continues (emitted_by (instance_at w c r) (x.logs c) (x.lives c r) o) (emitted_by (instance_at w c r) (y.logs c) (y.lives c r) o)) → ((c : ℕ) → Continues (x.logs c) (y.logs c)) → IsExtendedBy w given x y
instances_grow w given x y lists longer = record { lists = λ stream replica. from_line w given x y stream replica lists (slice_get w.streams stream); logs = longer }

-- the lives of one instance are changed
pub one_instance_grows : (w : Wiring) (given : Data) (x : Execution) (component replica : ℕ) (change : Lives → Lives)
    → ((o : ℕ) → Continues (emitted_by (instance_at w component replica) (x.logs component) (x.lives component replica) o) (emitted_by (instance_at w component replica) (x.logs component) (change (x.lives component replica)) o))
    → IsExtendedBy w given x (with_lives component replica change x)
one_instance_grows w given x component replica change grows =
    instances_grow w given x (with_lives component replica change x)
    (λ c r o. let P : Bool → Type 0 = λ t. Continues (emitted_by (instance_at w c r) (x.logs c) (x.lives c r) o) (emitted_by (instance_at w c r) (x.logs c) (if t then change (x.lives c r) else x.lives c r) o) in
    elim (c == component && r == replica) as (λ t. (c == component && r == replica) ≡ t → P t) [
      | true ↦ λ e.
          let same = same_numbers c r component replica e in
          subst (λ n. Continues (emitted_by (instance_at w n r) (x.logs n) (x.lives n r) o) (emitted_by (instance_at w n r) (x.logs n) (change (x.lives n r)) o)) (sym same.0)
          (subst (λ m. Continues (emitted_by (instance_at w component m) (x.logs component) (x.lives component m) o) (emitted_by (instance_at w component m) (x.logs component) (change (x.lives component m)) o)) (sym same.1) (grows o))
      | false ↦ λ e. continues_itself _
    ] refl)
    (λ c. continues_itself (x.logs c))

-- by what it does

hearing_grows : (i : Instance) (log : List Entry) (lives : Lives) (batch : Batch) (o : ℕ) → is_order_mode i.mode ≡ false → Continues (emitted_by i log lives o) (emitted_by i log (hear_batch batch lives) o)
hearing_grows i log lives batch o not_order =
    subst (λ kept. Continues (emitted_by i log lives o) (list_of kept o)) (sym (kept_after-hear i log lives batch not_order))
    ((emit-continues i (kept_after i log lives) (set_off i (all_pairs lives.last.heard) batch)).each o)

taking_grows : (i : Instance) (log : List Entry) (lives : Lives) (o : ℕ) → is_order_mode i.mode ≡ true → lives.last.taken < length log → Continues (emitted_by i log lives o) (emitted_by i log (take_entry lives) o)
taking_grows i log lives o is within =
    let next : Entry = get_or log lives.last.taken (0, []) in
    let is_next : get_or log lives.last.taken next ≡ next = get_or_default log lives.last.taken next (0, []) within in
    subst (λ kept. Continues (emitted_by i log lives o) (list_of kept o)) (sym (kept_after-take i log lives next is within is_next))
    ((emit-continues i (kept_after i log lives) (of_entry i next)).each o)

forgetting_grows : (i : Instance) (log : List Entry) (lives : Lives) (o : ℕ) → Continues (emitted_by i log lives o) (emitted_by i log (forget_all lives) o)
forgetting_grows i log lives o = subst (λ kept. Continues (emitted_by i log lives o) (list_of kept o)) (sym (kept_after-forget i log lives)) (continues_itself (emitted_by i log lives o))

-- ---- takes stay within logs

-- a log with an entry at its end, unless it stands there
with_new-cases : (log : List Entry) (entry : Entry) (b : Bool) → Continues log (if b then log else log ++ entry ∷ [])
with_new-cases log entry true = continues_itself log
with_new-cases log entry false = continues_with log (entry ∷ [])

with_new-continues : (log : List Entry) (entry : Entry) → Continues log (with_new is_same_entry log entry)
with_new-continues log entry = with_new-cases log entry (list_any (is_same_entry entry) log)

with_entry-logs : (component : ℕ) (entry : Entry) (x : Execution) (c : ℕ) (b : Bool) → Continues (x.logs c) (if b then with_new is_same_entry (x.logs c) entry else x.logs c)
with_entry-logs component entry x c true = with_new-continues (x.logs c) entry
with_entry-logs component entry x c false = continues_itself (x.logs c)

pub with_logged-lives : (component port : ℕ) (message : Message) (x : Execution) (c r : ℕ) → (with_logged component port message x).lives c r ≡ x.lives c r
with_logged-lives component port (row record_in) x c r = refl
with_logged-lives component port (seal key count) x c r = refl

pub with_logged-logs : (component port : ℕ) (message : Message) (x : Execution) (c : ℕ) → Continues (x.logs c) ((with_logged component port message x).logs c)
with_logged-logs component port (row record_in) x c = with_entry-logs component (port, record_in) x c (c == component)
with_logged-logs component port (seal key count) x c = continues_itself (x.logs c)

-- the lives that hear, take or forget: each of them took no more than an old one, or one entry more than the last
hear-lives : (batch : Batch) (lives : Lives) (n : ℕ) → ((life : Life) → Has life (all_lives lives) → life.taken ≤ n) → (life : Life) → Has life (all_lives (hear_batch batch lives)) → life.taken ≤ n
hear-lives batch lives n within life h =
    elim (Has-append_cases life lives.earlier ((hear_batch batch lives).last ∷ []) h) [
      | inl old ↦ within life (Has-append_left life lives.earlier (lives.last ∷ []) old)
      | inr new ↦ elim new [
        | inl e ↦ subst (λ l. l.taken ≤ n) e (within lives.last (Has-append_right lives.last lives.earlier (lives.last ∷ []) (inl refl)))
        | inr none ↦ absurd none
      ]
    ]

take-lives : (lives : Lives) (n : ℕ) → lives.last.taken < n → ((life : Life) → Has life (all_lives lives) → life.taken ≤ n) → (life : Life) → Has life (all_lives (take_entry lives)) → life.taken ≤ n
take-lives lives n room within life h =
    elim (Has-append_cases life lives.earlier ((take_entry lives).last ∷ []) h) [
      | inl old ↦ within life (Has-append_left life lives.earlier (lives.last ∷ []) old)
      | inr new ↦ elim new [
        | inl e ↦ let one_more : lives.last.taken + 1 ≤ n = omega arith in subst (λ l. l.taken ≤ n) e one_more
        | inr none ↦ absurd none
      ]
    ]

forget-lives : (lives : Lives) (n : ℕ) → ((life : Life) → Has life (all_lives lives) → life.taken ≤ n) → (life : Life) → Has life (all_lives (forget_all lives)) → life.taken ≤ n
forget-lives lives n within life h =
    elim (Has-append_cases life (all_lives lives) (empty_life ∷ []) h) [
      | inl old ↦ within life old
      | inr new ↦ elim new [
        | inl e ↦ let none : 0 ≤ n = omega arith in subst (λ l. l.taken ≤ n) e none
        | inr none ↦ absurd none
      ]
    ]

-- a change of the lives of one instance keeps takes within logs where it does so there
one_instance_takes : (component replica : ℕ) (change : Lives → Lives) (x : Execution) → TakesWithinLogs x
    → ((life : Life) → Has life (all_lives (change (x.lives component replica))) → life.taken ≤ length (x.logs component))
    → TakesWithinLogs (with_lives component replica change x)
one_instance_takes component replica change x within new c r =
    let P : Bool → Type 0 = λ t. (life : Life) → Has life (all_lives (if t then change (x.lives c r) else x.lives c r)) → life.taken ≤ length (x.logs c) in
    elim (c == component && r == replica) as (λ t. (c == component && r == replica) ≡ t → P t) [
      | true ↦ λ e.
          let same = same_numbers c r component replica e in
          subst (λ n. (life : Life) → Has life (all_lives (change (x.lives n r))) → life.taken ≤ length (x.logs n)) (sym same.0)
          (subst (λ m. (life : Life) → Has life (all_lives (change (x.lives component m))) → life.taken ≤ length (x.logs component)) (sym same.1) new)
      | false ↦ λ e. within c r
    ] refl

pub step_takes : (w : Wiring) (given : Data) (x y : Execution) → TakesWithinLogs x → Changes w given x y → TakesWithinLogs y
step_takes w given x y within (hears component replica parts pairs h p e) =
    subst TakesWithinLogs e (one_instance_takes component replica (hear_batch pairs) x within (hear-lives pairs (x.lives component replica) (length (x.logs component)) (within component replica)))
step_takes w given x y within (logs component part pair s p e) =
    subst TakesWithinLogs e (λ c r life h.
    let old : life.taken ≤ length (x.logs c) = within c r life (subst (λ l. Has life (all_lives l)) (with_logged-lives component part.port pair.1 x c r) h) in
    let longer = length-continues (x.logs c) ((with_logged component part.port pair.1 x).logs c) (with_logged-logs component part.port pair.1 x c) in
    omega (arith, old, longer))
step_takes w given x y within (takes component replica t n e) =
    subst TakesWithinLogs e (one_instance_takes component replica take_entry x within (take-lives (x.lives component replica) (length (x.logs component)) (ltb-true _ _ n) (within component replica)))
step_takes w given x y within (forgets component replica t e) =
    subst TakesWithinLogs e (one_instance_takes component replica forget_all x within (forget-lives (x.lives component replica) (length (x.logs component)) (within component replica)))

pub begun_takes : TakesWithinLogs first_execution
begun_takes c r life (inl e) = let none : 0 ≤ 0 = omega arith in subst (λ l. l.taken ≤ 0) e none
begun_takes c r life (inr h) = absurd h

-- in every history no replica took more than its log has
pub takes_within_logs : (w : Wiring) (given : Data) (steps : List Step) (x : Execution) → execution_of w given steps ≡ Ok x → TakesWithinLogs x
takes_within_logs w given steps x legal = by_history w given TakesWithinLogs begun_takes (λ y z step within at. step_takes w given y z within (step_changes w given step y z at)) steps x legal

-- ---- each step

not_order : (a b : Bool) → (a && not b) ≡ true → b ≡ false
not_order true true e = cc
not_order true false e = refl
not_order false b e = cc

is_order_and : (a b : Bool) → (a && b) ≡ true → b ≡ true
is_order_and true b e = e
is_order_and false b e = cc

pub hearing_isnt_order : (w : Wiring) (component replica : ℕ) (parts : List Part) → is_hearing w component replica parts ≡ true → is_order_mode (instance_at w component replica).mode ≡ false
hearing_isnt_order w component replica [] h = cc
hearing_isnt_order w component replica (part ∷ parts) h = not_order (is_there w component replica) (is_order_mode (instance_at w component replica).mode) h

logging_grows : (w : Wiring) (given : Data) (component port : ℕ) (message : Message) (x : Execution) → TakesWithinLogs x → IsExtendedBy w given x (with_logged component port message x)
logging_grows w given component port message x within =
    instances_grow w given x (with_logged component port message x)
    (λ c r o.
    let longer = with_logged-logs component port message x c in
    let same : kept_after (instance_at w c r) ((with_logged component port message x).logs c) ((with_logged component port message x).lives c r) ≡ kept_after (instance_at w c r) (x.logs c) (x.lives c r) =
    ap (λ l. kept_after (instance_at w c r) ((with_logged component port message x).logs c) l) (with_logged-lives component port message x c r)
    ∙ ap (λ l. kept_after (instance_at w c r) l (x.lives c r)) (sym longer.with_more)
    ∙ kept_after-log (instance_at w c r) (x.logs c) longer.more (x.lives c r) (within c r) in
    subst (λ kept. Continues (emitted_by (instance_at w c r) (x.logs c) (x.lives c r) o) (list_of kept o)) (sym same) (continues_itself _))
    (λ c. with_logged-logs component port message x c)

-- a legal step only lengthens emitted lists and logs
pub step_grows : (w : Wiring) (given : Data) (x y : Execution) → TakesWithinLogs x → Changes w given x y → IsExtendedBy w given x y
step_grows w given x y within (hears component replica parts pairs h p e) =
    subst (IsExtendedBy w given x) e (one_instance_grows w given x component replica (hear_batch pairs)
    (λ o. hearing_grows (instance_at w component replica) (x.logs component) (x.lives component replica) pairs o (hearing_isnt_order w component replica parts h)))
step_grows w given x y within (logs component part pair s p e) = subst (IsExtendedBy w given x) e (logging_grows w given component part.port pair.1 x within)
step_grows w given x y within (takes component replica t n e) =
    subst (IsExtendedBy w given x) e (one_instance_grows w given x component replica take_entry
    (λ o. taking_grows (instance_at w component replica) (x.logs component) (x.lives component replica) o (is_order_and (is_there w component replica) (is_order_mode (instance_at w component replica).mode) t) (ltb-true _ _ n)))
step_grows w given x y within (forgets component replica t e) =
    subst (IsExtendedBy w given x) e (one_instance_grows w given x component replica forget_all
    (λ o. forgetting_grows (instance_at w component replica) (x.logs component) (x.lives component replica) o))

-- in every history each further legal step does so
pub history_grows : (w : Wiring) (given : Data) (steps : List Step) (step : Step) (x y : Execution) → execution_of w given steps ≡ Ok x → after_step w given step x ≡ Ok y → IsExtendedBy w given x y
history_grows w given steps step x y legal at = step_grows w given x y (takes_within_logs w given steps x legal) (step_changes w given step x y at)
