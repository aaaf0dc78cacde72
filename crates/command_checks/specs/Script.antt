-- What a command does before it writes, as plain data: it reads files in turn, and checks what it has read.
use Rattle.std.specs.Prelude.{ℕ, List}

-- the bytes of a name, a file or a line
abbrev pub Bytes : Type 0
Bytes = List ℕ

pub data Script (A : Type 0) : Type 0 where
  -- all checks passed, and this is what they give
  gives : A → Script A
  -- a check fails, with this line
  refuses : Bytes → Script A
  -- the file of this name is read, and its bytes say how it goes on
  reads : Bytes → (Bytes → Script A) → Script A

infixl 10 ◌>>=◌
-- goes on with what was given
abbrev pub ◌>>=◌ : {A B : Type 0} → Script A → (A → Script B) → Script B
(Script.gives x) >>= next = next x
(Script.refuses line) >>= next = Script.refuses line
(Script.reads name after) >>= next = Script.reads name (λ bytes. after bytes >>= next)

-- how a script ends
pub data Ending (A : Type 0) : Type 0 where
  gave : A → Ending A
  refused : Bytes → Ending A
  -- the read of this name failed
  failed : Bytes → Ending A

-- a read failed
abbrev pub IsFailed : {A : Type 0} → Ending A → Type 0
IsFailed (Ending.gave x) = ⊥
IsFailed (Ending.refused line) = ⊥
IsFailed (Ending.failed name) = Unit {0}
