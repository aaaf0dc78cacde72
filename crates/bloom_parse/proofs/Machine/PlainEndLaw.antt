-- What begins a module text is completed by plain terminals.
use Rattle.std.proofs.Common.{◌≡◌, ℕ, List, [], ◌∷◌, ◌++◌, length, All, Option, Some, None, Result, Ok, Err, refl, sym, ap, ◌∙◌}
use Rattle.std.proofs.lemmas.List.Elements.{All-nil, All-cons}
use Rattle.bloom_forms.specs.Form.{Form}
use Rattle.bloom_parse.specs.declared.lexing.terminal.Terminal.{Terminal}
use Rattle.bloom_parse.specs.declared.lexing.terminal.Terminal.TheVariants as terminals
use Rattle.bloom_parse.specs.declared.lexing.terminal.Mark.{Mark}
use Rattle.bloom_parse.specs.declared.lexing.terminal.Mark.TheVariants as marks
use Rattle.bloom_parse.specs.Places.{IsModuleText, Begins}
use Rattle.bloom_parse.specs.Plain.{IsPlain}
use Rattle.blz_value.specs.declared.test.Op.{Op}
use Rattle.blz_value.specs.declared.test.Op.TheVariants.{Eq, Le}
use Rattle.bloom_parse.specs.declared.lexing.terminal.Word.{Word}
use Rattle.bloom_parse.specs.declared.lexing.terminal.Word.TheVariants as words
use Rattle.std.specs.Prelude.{pos}
use Rattle.bloom_parse.proofs.Machine.Machine.{Sym, State, step, run, a, closing, closes}
use Rattle.bloom_parse.proofs.Grammar.ModuleCorrect.{whole}
use Rattle.bloom_parse.proofs.Machine.PlacesCorrect.{text_goes, accepted, not_both}

-- the state of the machine behind a front that it takes
record Halfway (k : ℕ) (st : List Sym) (front : List Terminal) : Type 0 where
  left : ℕ
  state : List Sym
  goes : (more : List Terminal) → run k st (front ++ more) ≡ run left state more

halfway_at : (k : ℕ) (st : List Sym) (t : Terminal) (front more : List Terminal) (end : ℕ) (o : Option State) → step k st t ≡ o
    → ((s : State) → run s.0 s.1 (front ++ more) ≡ Ok (end, []) → Halfway s.0 s.1 front)
    → run k st (t ∷ (front ++ more)) ≡ Ok (end, []) → Halfway k st (t ∷ front)
halfway_at k st t front more end None e rec f =
    let stuck : run k st (t ∷ (front ++ more)) ≡ Err (length (t ∷ (front ++ more))) = ap (λ (o : Option State). elim o as (λ s. Result State ℕ) [ None ↦ Err (length (t ∷ (front ++ more))) | Some s ↦ run s.0 s.1 (front ++ more) ]) e in
    absurd (not_both (run k st (t ∷ (front ++ more))) (length (t ∷ (front ++ more))) (end, []) stuck f)
halfway_at k st t front more end (Some s) e rec f =
    let now : (more : List Terminal) → run k st (t ∷ more) ≡ run s.0 s.1 more = λ more. ap (λ (o : Option State). elim o as (λ s. Result State ℕ) [ None ↦ Err (length (t ∷ more)) | Some s ↦ run s.0 s.1 more ]) e in
    let r = rec s (sym (now (front ++ more)) ∙ f) in
    record { left = r.left; state = r.state; goes = λ more. now (front ++ more) ∙ r.goes more }

halfway : (front more : List Terminal) (k : ℕ) (st : List Sym) (end : ℕ) → run k st (front ++ more) ≡ Ok (end, []) → Halfway k st front
halfway [] more k st end e = record { left = k; state = st; goes = λ more. refl }
halfway (t ∷ front) more k st end e = halfway_at k st t front more end (step k st t) refl (λ s f. halfway front more s.0 s.1 end f) e

-- ---- one more plain terminal

with_name : (ts : List Terminal) → All IsPlain ts → All IsPlain (terminals.Name a ∷ ts)
with_name ts h = All-cons IsPlain (terminals.Name a) ts refl h

with_mark : (m : Mark) (ts : List Terminal) → All IsPlain ts → All IsPlain (terminals.Mark m ∷ ts)
with_mark m ts h = All-cons IsPlain (terminals.Mark m) ts tt h

with_sign : (o : Op) (ts : List Terminal) → All IsPlain ts → All IsPlain (terminals.Sign o ∷ ts)
with_sign o ts h = All-cons IsPlain (terminals.Sign o) ts tt h

with_word : (w : Word) (ts : List Terminal) → All IsPlain ts → All IsPlain (terminals.Word w ∷ ts)
with_word w ts h = All-cons IsPlain (terminals.Word w) ts tt h

with_end : (ts : List Terminal) → All IsPlain ts → All IsPlain (terminals.End ∷ ts)
with_end ts h = All-cons IsPlain terminals.End ts tt h

compared : (ts : List Terminal) → All IsPlain ts → All IsPlain (terminals.Name a ∷ terminals.Sign Eq ∷ terminals.Name a ∷ ts)
compared ts h = with_name (terminals.Sign Eq ∷ terminals.Name a ∷ ts) (with_sign Eq (terminals.Name a ∷ ts) (with_name ts h))

closing_plain : (st : List Sym) → All IsPlain (closing st)
closing_plain [] = All-nil IsPlain
closing_plain (Sym.mark m ∷ st) = with_mark m (closing st) (closing_plain st)
closing_plain (Sym.a_name ∷ st) = with_name (closing st) (closing_plain st)
closing_plain (Sym.a_sign ∷ st) = with_sign Eq (closing st) (closing_plain st)
closing_plain (Sym.equals ∷ st) = with_sign Eq (closing st) (closing_plain st)
closing_plain (Sym.an_operand ∷ st) = with_name (closing st) (closing_plain st)
closing_plain (Sym.unit room ∷ st) = compared (closing st) (closing_plain st)
closing_plain (Sym.tail room ∷ st) = with_mark marks.Close (closing st) (closing_plain st)
closing_plain (Sym.first_unit room ∷ st) = with_mark marks.Comma (terminals.Name a ∷ terminals.Sign Eq ∷ terminals.Name a ∷ terminals.Mark marks.Close ∷ closing st) (compared (terminals.Mark marks.Close ∷ closing st) (with_mark marks.Close (closing st) (closing_plain st)))
closing_plain (Sym.expr room ∷ st) = with_name (closing st) (closing_plain st)
closing_plain (Sym.item_end ∷ st) = with_mark marks.Close (closing st) (closing_plain st)
closing_plain (Sym.more_items ∷ st) = with_mark marks.Close (closing st) (closing_plain st)
closing_plain (Sym.more_pairs ∷ st) = with_mark marks.Close (closing st) (closing_plain st)
closing_plain (Sym.more_names ∷ st) = with_mark marks.Close (closing st) (closing_plain st)
closing_plain (Sym.more_keys ∷ st) = with_mark marks.CloseKeys (closing st) (closing_plain st)
closing_plain (Sym.first_key ∷ st) = with_mark marks.CloseKeys (closing st) (closing_plain st)
closing_plain (Sym.an_agg ∷ st) = with_word words.Count (closing st) (closing_plain st)
closing_plain (Sym.the_as ∷ st) = with_word words.As (closing st) (closing_plain st)
closing_plain (Sym.a_bound ∷ st) = All-cons IsPlain (terminals.Integer (pos 1)) (closing st) refl (closing_plain st)
closing_plain (Sym.the_module ∷ st) = with_word words.Module (closing st) (closing_plain st)
closing_plain (Sym.arrow ∷ st) = with_sign Le (closing st) (closing_plain st)
closing_plain (Sym.collections ∷ st) = with_end (closing st) (closing_plain st)
closing_plain (Sym.rules ∷ st) = with_end (closing st) (closing_plain st)
closing_plain (Sym.the_end ∷ st) = with_end (closing st) (closing_plain st)

pub completed : (front : List Terminal) → Begins front → (more : List Terminal) × All IsPlain more × ((m : Form) × IsModuleText (front ++ more) m)
completed front b =
    let g = text_goes (front ++ b.0) b.1 b.2 in
    let h = halfway front b.0 0 whole g.0 g.1 in
    let c = closes h.state h.left in
    let r = accepted (front ++ closing h.state) c.0 (h.goes (closing h.state) ∙ c.1) in
    (closing h.state, closing_plain h.state, (r.0, r.1))
