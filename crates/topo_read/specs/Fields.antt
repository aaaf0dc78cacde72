-- The fields of a table one after the other: what they give, or the path of the first break.
use Rattle.std.specs.Prelude.{ℕ, List, [], Option, Some, None, Result, Ok, Err}
use Rattle.toml.specs.Data.{Data, Members}
use Rattle.topo_read.specs.Values.{only_if}
use Rattle.topo_read.specs.Tables.{at_key, maybe_at_key, list_at_key, lacks, unknown_key}

-- the text that names the place of a break; of a break in an entry it is at first the key alone
abbrev pub Path : Type 0
Path = List ℕ

-- goes on with what was read; the first break ends the reading
infixl 10 ◌>>=◌
abbrev pub ◌>>=◌ : {A B : Type 0} → Result A Path → (A → Result B Path) → Result B Path
(Ok x) >>= next = next x
(Err path) >>= next = Err path

-- what was read, or a break at this key
abbrev pub or_break : {X : Type 0} → List ℕ → Option X → Result X Path
or_break key (Some x) = Ok x
or_break key None = Err key

-- a required key
abbrev pub required : {X : Type 0} → (Data → Option X) → List ℕ → Members → Result X Path
required read key table = or_break key (at_key read key table)

-- a key that may be missing
abbrev pub optional : {X : Type 0} → (Data → Option X) → List ℕ → Members → Result (Option X) Path
optional read key table = or_break key (maybe_at_key read key table)

-- a list whose key may be missing
abbrev pub optional_list : {X : Type 0} → (Data → Option X) → List ℕ → Members → Result (List X) Path
optional_list read key table = or_break key (list_at_key read key table)

-- a key that may not stand here
abbrev pub absent : List ℕ → Members → Result (Unit {0}) Path
absent key table = or_break key (only_if (lacks key table) tt)

-- a break at the key, where there is one
abbrev pub break_at : Option (List ℕ) → Result (Unit {0}) Path
break_at None = Ok tt
break_at (Some key) = Err key

-- no key but these; the break is at the first other key in byte order
abbrev pub only_keys : List (List ℕ) → Members → Result (Unit {0}) Path
only_keys known table = break_at (unknown_key known table)
