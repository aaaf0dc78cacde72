-- What dependencies add to a set of attributes. A set is one number, whose bit k says that attribute k is in it.
use Rattle.std.specs.Prelude.{ℕ, zero, suc, ◌==◌, ◌≢◌, ◌&&◌, not, Bool, IsTrue, if◌then◌else◌, List, [], ◌∷◌, length, bit_and, bit_or}
use Rattle.blz_value.specs.Members.{Has}
use Rattle.blz_value.specs.declared.attrs.Fd.{Fd}

-- each attribute of a is one of b
unfoldable pub within : ℕ → ℕ → Bool
within a b = bit_and a b == a

-- s holds all of a dependency's `to` wherever it holds all of its `from`
abbrev pub IsClosed : List Fd → ℕ → Type 0
IsClosed fds s = (fd : Fd) → Has fd fds → IsTrue (within fd.from.bits s) → IsTrue (within fd.to.bits s)

-- s is the closure of start: the least closed set that contains start
pub record IsLeastClosed (start : ℕ) (fds : List Fd) (s : ℕ) : Type 0 where
  pub contains : IsTrue (within start s)
  pub closed : IsClosed fds s
  pub least : (t : ℕ) → IsTrue (within start t) → IsClosed fds t → IsTrue (within s t)

-- the key isn't empty and lies in the closure of the gate
pub record IsCompatible (gate key : ℕ) (fds : List Fd) : Type 0 where
  pub filled : key ≢ 0
  pub reached : ℕ
  pub least : IsLeastClosed gate fds reached
  pub inside : IsTrue (within key reached)

-- The same by computation, for definitions that compute.

-- a set with what one dependency adds
unfoldable pub step : Fd → ℕ → ℕ
step fd s = if within fd.from.bits s then bit_or s fd.to.bits else s

-- a set with what one pass over the dependencies adds
abbrev pub grown : List Fd → ℕ → ℕ
grown [] s = s
grown (fd ∷ fds) s = grown fds (step fd s)

-- a set with what n passes add
abbrev pub grown_times : ℕ → List Fd → ℕ → ℕ
grown_times zero fds s = s
grown_times (suc n) fds s = grown_times n fds (grown fds s)

-- the closure, by as many passes as there are dependencies
unfoldable pub closure : ℕ → List Fd → ℕ
closure start fds = grown_times (length fds) fds start

-- the key isn't empty and lies in the closure of the gate
unfoldable pub compatible : ℕ → ℕ → List Fd → Bool
compatible gate key fds = not (key == 0) && within key (closure gate fds)
