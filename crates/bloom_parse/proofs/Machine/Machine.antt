-- A machine that reads token by token, and what may still come.
use Rattle.std.proofs.Common.{◌≡◌, ℕ, zero, suc, cond, List, [], ◌∷◌, length, Option, Some, None, Result, Ok, Err, refl, ◌∙◌}
use Rattle.std.specs.Prelude.{pos, int_le}
use Rattle.blz_value.specs.declared.test.Op.TheVariants.{Eq, Le}
use Rattle.bloom_parse.specs.declared.lexing.terminal.Terminal.{Terminal}
use Rattle.bloom_parse.specs.declared.lexing.terminal.Terminal.TheVariants as terminals
use Rattle.bloom_parse.specs.declared.lexing.terminal.Word.TheVariants as words
use Rattle.bloom_parse.specs.declared.lexing.terminal.Mark.{Mark}
use Rattle.bloom_parse.specs.declared.lexing.terminal.Mark.TheVariants as marks
use Rattle.bloom_parse.specs.Code.Marks.{is_same_mark}

-- what is still to come
pub data Sym : Type 0 where
  mark : Mark → Sym
  a_name : Sym
  a_sign : Sym
  equals : Sym
  an_operand : Sym
  unit : ℕ → Sym
  tail : ℕ → Sym
  first_unit : ℕ → Sym
  expr : ℕ → Sym
  item_end : Sym
  more_items : Sym
  more_pairs : Sym
  more_names : Sym
  more_keys : Sym
  first_key : Sym
  an_agg : Sym
  the_as : Sym
  a_bound : Sym
  the_module : Sym
  arrow : Sym
  collections : Sym
  rules : Sym
  the_end : Sym

-- how many and and or may still come in the predicate, and what is to come
abbrev pub State : Type 0
State = ℕ × List Sym

abbrev pub deeper : ℕ → (ℕ → State) → Option State
deeper zero then = None
deeper (suc room) then = Some (then room)

abbrev pub spent : ℕ → List Sym → Option State
spent zero st = None
spent (suc left) st = Some (left, st)

-- behind the word of a collection
abbrev pub in_collection : List Sym → List Sym
in_collection st = Sym.a_name ∷ Sym.mark marks.Open ∷ Sym.a_name ∷ Sym.more_names ∷ Sym.mark marks.Semicolon ∷ Sym.collections ∷ st

-- behind the head of a rule
abbrev pub in_rule : List Sym → List Sym
in_rule st = Sym.arrow ∷ Sym.expr 32 ∷ Sym.mark marks.Semicolon ∷ Sym.rules ∷ st

-- what one token does
abbrev pub step : ℕ → List Sym → Terminal → Option State
step k [] t = None
step k (Sym.mark m ∷ st) (terminals.Mark n) = cond (is_same_mark m n) (Some (k, st)) None
step k (Sym.mark m ∷ st) t = None
step k (Sym.a_name ∷ st) (terminals.Name n) = Some (k, st)
step k (Sym.a_name ∷ st) t = None
step k (Sym.a_sign ∷ st) (terminals.Sign o) = Some (k, st)
step k (Sym.a_sign ∷ st) t = None
step k (Sym.equals ∷ st) (terminals.Sign Eq) = Some (k, st)
step k (Sym.equals ∷ st) t = None
step k (Sym.an_operand ∷ st) (terminals.Name n) = Some (k, st)
step k (Sym.an_operand ∷ st) (terminals.Integer n) = Some (k, st)
step k (Sym.an_operand ∷ st) (terminals.Text n) = Some (k, st)
step k (Sym.an_operand ∷ st) t = None
step k (Sym.unit room ∷ st) (terminals.Name n) = Some (k, Sym.a_sign ∷ Sym.an_operand ∷ st)
step k (Sym.unit room ∷ st) (terminals.Integer n) = Some (k, Sym.a_sign ∷ Sym.an_operand ∷ st)
step k (Sym.unit room ∷ st) (terminals.Text n) = Some (k, Sym.a_sign ∷ Sym.an_operand ∷ st)
step k (Sym.unit room ∷ st) (terminals.Word words.Not) = deeper room (λ r. (k, Sym.unit r ∷ st))
step k (Sym.unit room ∷ st) (terminals.Mark marks.Open) = deeper room (λ r. (k, Sym.unit r ∷ Sym.tail r ∷ st))
step k (Sym.unit room ∷ st) t = None
step k (Sym.tail room ∷ st) (terminals.Word words.And) = spent k (Sym.unit room ∷ Sym.tail room ∷ st)
step k (Sym.tail room ∷ st) (terminals.Word words.Or) = spent k (Sym.unit room ∷ Sym.tail room ∷ st)
step k (Sym.tail room ∷ st) (terminals.Mark m) = cond (is_same_mark marks.Close m) (Some (k, st)) None
step k (Sym.tail room ∷ st) t = None
step k (Sym.first_unit room ∷ st) (terminals.Mark marks.Comma) = Some (31, Sym.unit room ∷ Sym.tail room ∷ st)
step k (Sym.first_unit room ∷ st) t = None
step k (Sym.expr room ∷ st) (terminals.Name n) = Some (k, st)
step k (Sym.expr room ∷ st) (terminals.Word words.Select) = deeper room (λ r. (k, Sym.mark marks.Open ∷ Sym.expr r ∷ Sym.first_unit r ∷ st))
step k (Sym.expr room ∷ st) (terminals.Word words.Project) = deeper room (λ r. (k, Sym.mark marks.Open ∷ Sym.expr r ∷ Sym.mark marks.Comma ∷ Sym.a_name ∷ Sym.item_end ∷ st))
step k (Sym.expr room ∷ st) (terminals.Word words.Join) = deeper room (λ r. (k, Sym.mark marks.Open ∷ Sym.expr r ∷ Sym.mark marks.Comma ∷ Sym.expr r ∷ Sym.more_pairs ∷ st))
step k (Sym.expr room ∷ st) (terminals.Word words.NotIn) = deeper room (λ r. (k, Sym.mark marks.Open ∷ Sym.expr r ∷ Sym.mark marks.Comma ∷ Sym.expr r ∷ Sym.more_pairs ∷ st))
step k (Sym.expr room ∷ st) (terminals.Word words.Group) = deeper room (λ r. (k, Sym.mark marks.Open ∷ Sym.expr r ∷ Sym.mark marks.Comma ∷ Sym.mark marks.OpenKeys ∷ Sym.first_key ∷ Sym.mark marks.Comma ∷ Sym.an_agg ∷ Sym.the_as ∷ Sym.a_name ∷ Sym.mark marks.Close ∷ st))
step k (Sym.expr room ∷ st) (terminals.Word words.AtLeast) = deeper room (λ r. (k, Sym.mark marks.Open ∷ Sym.expr r ∷ Sym.mark marks.Comma ∷ Sym.mark marks.OpenKeys ∷ Sym.first_key ∷ Sym.mark marks.Comma ∷ Sym.a_bound ∷ Sym.mark marks.Close ∷ st))
step k (Sym.expr room ∷ st) t = None
step k (Sym.item_end ∷ st) (terminals.Word words.As) = Some (k, Sym.a_name ∷ Sym.more_items ∷ st)
step k (Sym.item_end ∷ st) (terminals.Mark marks.Comma) = Some (k, Sym.a_name ∷ Sym.item_end ∷ st)
step k (Sym.item_end ∷ st) (terminals.Mark m) = cond (is_same_mark marks.Close m) (Some (k, st)) None
step k (Sym.item_end ∷ st) t = None
step k (Sym.more_items ∷ st) (terminals.Mark marks.Comma) = Some (k, Sym.a_name ∷ Sym.item_end ∷ st)
step k (Sym.more_items ∷ st) (terminals.Mark m) = cond (is_same_mark marks.Close m) (Some (k, st)) None
step k (Sym.more_items ∷ st) t = None
step k (Sym.more_pairs ∷ st) (terminals.Mark marks.Comma) = Some (k, Sym.a_name ∷ Sym.equals ∷ Sym.a_name ∷ Sym.more_pairs ∷ st)
step k (Sym.more_pairs ∷ st) (terminals.Mark m) = cond (is_same_mark marks.Close m) (Some (k, st)) None
step k (Sym.more_pairs ∷ st) t = None
step k (Sym.more_names ∷ st) (terminals.Mark marks.Comma) = Some (k, Sym.a_name ∷ Sym.more_names ∷ st)
step k (Sym.more_names ∷ st) (terminals.Mark m) = cond (is_same_mark marks.Close m) (Some (k, st)) None
step k (Sym.more_names ∷ st) t = None
step k (Sym.more_keys ∷ st) (terminals.Mark marks.Comma) = Some (k, Sym.a_name ∷ Sym.more_keys ∷ st)
step k (Sym.more_keys ∷ st) (terminals.Mark m) = cond (is_same_mark marks.CloseKeys m) (Some (k, st)) None
step k (Sym.more_keys ∷ st) t = None
step k (Sym.first_key ∷ st) (terminals.Name n) = Some (k, Sym.more_keys ∷ st)
step k (Sym.first_key ∷ st) (terminals.Mark m) = cond (is_same_mark marks.CloseKeys m) (Some (k, st)) None
step k (Sym.first_key ∷ st) t = None
step k (Sym.an_agg ∷ st) (terminals.Word words.Count) = Some (k, st)
step k (Sym.an_agg ∷ st) (terminals.Word words.Sum) = Some (k, Sym.mark marks.Open ∷ Sym.a_name ∷ Sym.mark marks.Close ∷ st)
step k (Sym.an_agg ∷ st) (terminals.Word words.Min) = Some (k, Sym.mark marks.Open ∷ Sym.a_name ∷ Sym.mark marks.Close ∷ st)
step k (Sym.an_agg ∷ st) (terminals.Word words.Max) = Some (k, Sym.mark marks.Open ∷ Sym.a_name ∷ Sym.mark marks.Close ∷ st)
step k (Sym.an_agg ∷ st) t = None
step k (Sym.the_as ∷ st) (terminals.Word words.As) = Some (k, st)
step k (Sym.the_as ∷ st) t = None
step k (Sym.a_bound ∷ st) (terminals.Integer n) = cond (int_le (pos 1) n) (Some (k, st)) None
step k (Sym.a_bound ∷ st) t = None
step k (Sym.the_module ∷ st) (terminals.Word words.Module) = Some (k, st)
step k (Sym.the_module ∷ st) t = None
step k (Sym.arrow ∷ st) (terminals.Sign Le) = Some (k, st)
step k (Sym.arrow ∷ st) t = None
step k (Sym.collections ∷ st) (terminals.Word words.Input) = Some (k, in_collection st)
step k (Sym.collections ∷ st) (terminals.Word words.Output) = Some (k, in_collection st)
step k (Sym.collections ∷ st) (terminals.Word words.Table) = Some (k, in_collection st)
step k (Sym.collections ∷ st) (terminals.Word words.Scratch) = Some (k, in_collection st)
step k (Sym.collections ∷ st) (terminals.Name n) = Some (k, in_rule st)
step k (Sym.collections ∷ st) terminals.End = Some (k, st)
step k (Sym.collections ∷ st) t = None
step k (Sym.rules ∷ st) (terminals.Name n) = Some (k, in_rule st)
step k (Sym.rules ∷ st) terminals.End = Some (k, st)
step k (Sym.rules ∷ st) t = None
step k (Sym.the_end ∷ st) terminals.End = Some (k, st)
step k (Sym.the_end ∷ st) t = None

-- the end of the list: nothing may still be to come
abbrev pub ended : ℕ → List Sym → Result State ℕ
ended k [] = Ok (k, [])
ended k (s ∷ st) = Err 0

-- the state at the end, or how many tokens are left at the first that has no step
abbrev pub run : ℕ → List Sym → List Terminal → Result State ℕ
run k st [] = ended k st
run k st (t ∷ ts) = elim (step k st t) [ None ↦ Err (length (t ∷ ts)) | Some s ↦ run s.0 s.1 ts ]

-- a way to go on from each state to the end
abbrev pub a : List ℕ
a = 97 ∷ []

abbrev pub closing : List Sym → List Terminal
closing [] = []
closing (Sym.mark m ∷ st) = terminals.Mark m ∷ closing st
closing (Sym.a_name ∷ st) = terminals.Name a ∷ closing st
closing (Sym.a_sign ∷ st) = terminals.Sign Eq ∷ closing st
closing (Sym.equals ∷ st) = terminals.Sign Eq ∷ closing st
closing (Sym.an_operand ∷ st) = terminals.Name a ∷ closing st
closing (Sym.unit room ∷ st) = terminals.Name a ∷ terminals.Sign Eq ∷ terminals.Name a ∷ closing st
closing (Sym.tail room ∷ st) = terminals.Mark marks.Close ∷ closing st
closing (Sym.first_unit room ∷ st) = terminals.Mark marks.Comma ∷ terminals.Name a ∷ terminals.Sign Eq ∷ terminals.Name a ∷ terminals.Mark marks.Close ∷ closing st
closing (Sym.expr room ∷ st) = terminals.Name a ∷ closing st
closing (Sym.item_end ∷ st) = terminals.Mark marks.Close ∷ closing st
closing (Sym.more_items ∷ st) = terminals.Mark marks.Close ∷ closing st
closing (Sym.more_pairs ∷ st) = terminals.Mark marks.Close ∷ closing st
closing (Sym.more_names ∷ st) = terminals.Mark marks.Close ∷ closing st
closing (Sym.more_keys ∷ st) = terminals.Mark marks.CloseKeys ∷ closing st
closing (Sym.first_key ∷ st) = terminals.Mark marks.CloseKeys ∷ closing st
closing (Sym.an_agg ∷ st) = terminals.Word words.Count ∷ closing st
closing (Sym.the_as ∷ st) = terminals.Word words.As ∷ closing st
closing (Sym.a_bound ∷ st) = terminals.Integer (pos 1) ∷ closing st
closing (Sym.the_module ∷ st) = terminals.Word words.Module ∷ closing st
closing (Sym.arrow ∷ st) = terminals.Sign Le ∷ closing st
closing (Sym.collections ∷ st) = terminals.End ∷ closing st
closing (Sym.rules ∷ st) = terminals.End ∷ closing st
closing (Sym.the_end ∷ st) = terminals.End ∷ closing st

mark_takes : (m : Mark) (k : ℕ) (st : List Sym) (ts : List Terminal) → run k (Sym.mark m ∷ st) (terminals.Mark m ∷ ts) ≡ run k st ts
mark_takes marks.Semicolon k st ts = refl
mark_takes marks.Comma k st ts = refl
mark_takes marks.Open k st ts = refl
mark_takes marks.Close k st ts = refl
mark_takes marks.OpenKeys k st ts = refl
mark_takes marks.CloseKeys k st ts = refl

-- each state can be led to the end
abbrev Closes : ℕ → List Sym → Type 0
Closes k st = (left : ℕ) × (run k st (closing st) ≡ Ok (left, []))

pub closes : (st : List Sym) (k : ℕ) → Closes k st
closes [] k = (k, refl)
closes (Sym.mark m ∷ st) k = let c = closes st k in (c.0, mark_takes m k st (closing st) ∙ c.1)
closes (Sym.a_name ∷ st) k = closes st k
closes (Sym.a_sign ∷ st) k = closes st k
closes (Sym.equals ∷ st) k = closes st k
closes (Sym.an_operand ∷ st) k = closes st k
closes (Sym.unit room ∷ st) k = closes st k
closes (Sym.tail room ∷ st) k = closes st k
closes (Sym.first_unit room ∷ st) k = closes st 31
closes (Sym.expr room ∷ st) k = closes st k
closes (Sym.item_end ∷ st) k = closes st k
closes (Sym.more_items ∷ st) k = closes st k
closes (Sym.more_pairs ∷ st) k = closes st k
closes (Sym.more_names ∷ st) k = closes st k
closes (Sym.more_keys ∷ st) k = closes st k
closes (Sym.first_key ∷ st) k = closes st k
closes (Sym.an_agg ∷ st) k = closes st k
closes (Sym.the_as ∷ st) k = closes st k
closes (Sym.a_bound ∷ st) k = closes st k
closes (Sym.the_module ∷ st) k = closes st k
closes (Sym.arrow ∷ st) k = closes st k
closes (Sym.collections ∷ st) k = closes st k
closes (Sym.rules ∷ st) k = closes st k
closes (Sym.the_end ∷ st) k = closes st k
