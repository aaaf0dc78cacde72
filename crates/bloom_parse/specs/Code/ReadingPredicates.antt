-- Reading predicates.
use Rattle.std.specs.Prelude.{ℕ, zero, suc, ◌-◌, ◌==◌, List, ◌∷◌, length, drop, Option, Some, None, Result, Ok, Err, if◌then◌else◌}
use Rattle.bloom_forms.specs.declared.expr.Pred.{Pred}
use Rattle.bloom_forms.specs.Form.{formula_of}
use Rattle.bloom_forms.specs.Query.{Formula}
use Rattle.bloom_forms.specs.Query.Formula.{compare, both, either, not_so}
use Rattle.bloom_parse.specs.declared.lexing.terminal.Terminal.{Terminal}
use Rattle.bloom_parse.specs.declared.lexing.terminal.Terminal.TheVariants as terminals
use Rattle.bloom_parse.specs.declared.lexing.terminal.Word.TheVariants as words
use Rattle.bloom_parse.specs.declared.lexing.terminal.Mark.TheVariants as marks
use Rattle.bloom_parse.specs.declared.reading.predicates.Link.{Link}
use Rattle.bloom_parse.specs.declared.reading.predicates.Link.TheVariants as links
use Rattle.bloom_parse.specs.declared.reading.predicates.Opening.{Opening}
use Rattle.bloom_parse.specs.declared.reading.predicates.Opening.TheVariants as openings
use Rattle.bloom_parse.specs.Code.ReadingSingle.{◌>>=◌, mark_at, operand_at, sign_at}

-- a predicate, how many and and or may still come, and what is behind it
abbrev pub Read : Type 0
Read = Result (Formula × ℕ × List Terminal) ℕ

-- operand op operand
unfoldable pub comparison_at : ℕ → List Terminal → Read
comparison_at left ts = do
  l ← operand_at ts
  o ← sign_at l.1
  r ← operand_at o.1
  Ok (compare l.0 o.0 r.0, left, r.1)

-- one more summand, behind those that may be there
abbrev pub summed_of : Option Formula → Formula → Formula
summed_of None product = product
summed_of (Some sum) product = either sum product

-- one more comparison, if it may still come
abbrev pub spend : ℕ → (ℕ → List Terminal → Read) → List Terminal → Read
spend left more ts = if left == 0 then Err (length ts) else more (left - 1) (drop 1 ts)

-- which word stands behind a unit
abbrev pub link_of : List Terminal → Link
link_of (terminals.Word words.And ∷ rest) = links.And
link_of (terminals.Word words.Or ∷ rest) = links.Or
link_of ts = links.Stop

-- how it goes on behind a unit
abbrev pub by_link : Link → ℕ → (ℕ → List Terminal → Read) → (ℕ → List Terminal → Read) → (List Terminal → Read) → List Terminal → Read
by_link links.And left anded ored stop ts = spend left anded ts
by_link links.Or left anded ored stop ts = spend left ored ts
by_link links.Stop left anded ored stop ts = stop ts

-- a sum that may be there
abbrev pub formulas : Option Pred → Option Formula
formulas None = None
formulas (Some p) = Some (formula_of p)

-- { "and" unit } and { "or" both } in one
unfoldable pub chain_at : (ℕ → List Terminal → Read) → ℕ → ℕ → Option Formula → Formula → List Terminal → Read
chain_at unit zero left sum product ts = by_link (link_of ts) 0 (λ left rest. Err 0) (λ left rest. Err 0) (λ ts. Ok (summed_of sum product, left, ts)) ts
chain_at unit (suc turns) left sum product ts = by_link (link_of ts) left (λ left rest. unit left rest >>= λ u. chain_at unit turns u.1 sum (both product u.0) u.2) (λ left rest. unit left rest >>= λ u. chain_at unit turns u.1 (Some (summed_of sum product)) u.0 u.2) (λ ts. Ok (summed_of sum product, left, ts)) ts

-- both { "or" both }
unfoldable pub pred_by : (ℕ → List Terminal → Read) → ℕ → List Terminal → Read
pred_by unit left ts = unit left ts >>= λ u. chain_at unit 31 u.1 None u.0 u.2

-- what a unit begins with
abbrev pub opening_of : List Terminal → Opening
opening_of (terminals.Word words.Not ∷ rest) = openings.Negation
opening_of (terminals.Mark marks.Open ∷ rest) = openings.Parenthesis
opening_of ts = openings.Operand

-- a unit by what it begins with
abbrev pub by_opening : (ℕ → List Terminal → Read) → Opening → ℕ → List Terminal → Read
by_opening unit openings.Negation left ts = unit left (drop 1 ts) >>= λ u. Ok (not_so u.0, u.1, u.2)
by_opening unit openings.Parenthesis left ts = pred_by unit left (drop 1 ts) >>= λ p. mark_at marks.Close p.2 >>= λ after. Ok (p.0, p.1, after)
by_opening unit openings.Operand left ts = comparison_at left ts

-- a unit where one more level may open
unfoldable pub unit_by : (ℕ → List Terminal → Read) → ℕ → List Terminal → Read
unit_by unit left ts = by_opening unit (opening_of ts) left ts

-- a unit with so many levels that may still open
unfoldable pub unit_at : ℕ → ℕ → List Terminal → Read
unit_at zero left ts = comparison_at left ts
unit_at (suc room) left ts = unit_by (unit_at room) left ts
