-- A comparison is what its three parts read, or the fault of the first part that fails.
use Rattle.std.proofs.Common.{◌≡◌, ℕ, List, Ok, ap, ◌∙◌, sym, subst}
use Rattle.std.specs.Prelude.{Result, Err}
use Rattle.std.specs.Result.{IsErrAnd}
use Rattle.blz_value.specs.declared.test.Op.{Op}
use Rattle.bloom_forms.specs.declared.expr.Term.{Term}
use Rattle.bloom_forms.specs.Query.Formula.{compare}
use Rattle.bloom_parse.specs.declared.lexing.terminal.Terminal.{Terminal}
use Rattle.bloom_parse.specs.declared.reading.read_fault.ReadFault.{ReadFault}
use Rattle.bloom_parse.specs.declared.reading.read_fault.ReadFault.TheVariants as faults
use Rattle.bloom_parse.specs.Code.ReadingSingle.{◌>>=◌, Fails, Gives, operand_at, sign_at}
use Rattle.bloom_parse.specs.Code.ReadingPredicates.{comparison_at}

-- a fault of the first reading is one of both
pub fails_first : {A B : Type 0} (fault : ReadFault) (read : Result A ℕ) (f : A → Result B ℕ) → Fails fault read → Fails fault (read >>= f)
fails_first faults.NoMemory read f h = tt
fails_first (faults.Left n) read f h = ap (λ r. r >>= f) h

-- a fault behind a reading that succeeds is one of both
pub fails_behind : {A B : Type 0} (fault : ReadFault) (read : Result A ℕ) (f : A → Result B ℕ) (x : A) → read ≡ Ok x → Fails fault (f x) → Fails fault (read >>= f)
fails_behind faults.NoMemory read f x e h = tt
fails_behind (faults.Left n) read f x e h = ap (λ r. r >>= f) e ∙ h

pub comparison_is : (left : ℕ) (ts rest behind after : List Terminal) (first second : Term) (op : Op) → operand_at ts ≡ Ok (first, rest) → sign_at rest ≡ Ok (op, behind) → operand_at behind ≡ Ok (second, after) → comparison_at left ts ≡ Ok (compare first op second, left, after)
unfolding comparison_at
comparison_is left ts rest behind after first second op one two three =
    ap (λ (r : Result (Term × List Terminal) ℕ). r >>= λ l. sign_at l.1 >>= λ o. operand_at o.1 >>= λ s. Ok (compare l.0 o.0 s.0, left, s.1)) one
    ∙ ap (λ (r : Result (Op × List Terminal) ℕ). r >>= λ o. operand_at o.1 >>= λ s. Ok (compare first o.0 s.0, left, s.1)) two
    ∙ ap (λ (r : Result (Term × List Terminal) ℕ). r >>= λ s. Ok (compare first op s.0, left, s.1)) three

pub no_first : (left : ℕ) (ts : List Terminal) (fault : ReadFault) → Fails fault (operand_at ts) → Fails fault (comparison_at left ts)
unfolding comparison_at
no_first left ts fault h = fails_first fault (operand_at ts) (λ l. sign_at l.1 >>= λ o. operand_at o.1 >>= λ s. Ok (compare l.0 o.0 s.0, left, s.1)) h

pub no_sign : (left : ℕ) (ts rest : List Terminal) (first : Term) (fault : ReadFault) → operand_at ts ≡ Ok (first, rest) → Fails fault (sign_at rest) → Fails fault (comparison_at left ts)
unfolding comparison_at
no_sign left ts rest first fault one h =
    fails_behind fault (operand_at ts) (λ l. sign_at l.1 >>= λ o. operand_at o.1 >>= λ s. Ok (compare l.0 o.0 s.0, left, s.1)) (first, rest) one
    (fails_first fault (sign_at rest) (λ o. operand_at o.1 >>= λ s. Ok (compare first o.0 s.0, left, s.1)) h)

pub no_second : (left : ℕ) (ts rest behind : List Terminal) (first : Term) (op : Op) (fault : ReadFault) → operand_at ts ≡ Ok (first, rest) → sign_at rest ≡ Ok (op, behind) → Fails fault (operand_at behind) → Fails fault (comparison_at left ts)
unfolding comparison_at
no_second left ts rest behind first op fault one two h =
    fails_behind fault (operand_at ts) (λ l. sign_at l.1 >>= λ o. operand_at o.1 >>= λ s. Ok (compare l.0 o.0 s.0, left, s.1)) (first, rest) one
    (fails_behind fault (sign_at rest) (λ o. operand_at o.1 >>= λ s. Ok (compare first o.0 s.0, left, s.1)) (op, behind) two
    (fails_first fault (operand_at behind) (λ s. Ok (compare first op s.0, left, s.1)) h))

-- a fault that `?` hands on
pub fault_handed : {X Y : Type 0} (view : X → Y) (result : Result X ReadFault) (fault : ReadFault) (read : Result Y ℕ) → IsErrAnd result (λ given. given ≡ fault) → Fails fault read → Gives view result read
fault_handed view (Ok x) fault read is fails = absurd is
fault_handed view (Err given) fault read is fails = subst (λ given. Fails given read) (sym is) fails
