-- When two marks are the same.
use Rattle.std.specs.Prelude.{ℕ, Bool, ◌==◌}
use Rattle.bloom_parse.specs.declared.lexing.terminal.Mark.{Mark}
use Rattle.bloom_parse.specs.declared.lexing.terminal.Mark.TheVariants.{Semicolon, Comma, Open, Close, OpenKeys, CloseKeys}

-- a number of its own for each mark
abbrev pub mark_number : Mark → ℕ
mark_number Semicolon = 0
mark_number Comma = 1
mark_number Open = 2
mark_number Close = 3
mark_number OpenKeys = 4
mark_number CloseKeys = 5

-- whether two marks are the same
abbrev pub is_same_mark : Mark → Mark → Bool
is_same_mark m n = mark_number m == mark_number n
