-- What a run of name bytes is, by its length and its word.
use Rattle.std.proofs.Common.{◌≡◌, ◌<◌, ◌≤◌, ℕ, Bool, true, false, cond, List, Option, Some, None, length, nat_le, refl, ap, sym, ◌∙◌}
use Rattle.std.proofs.lemmas.Bool.{le-leb, lt-leb}
use Rattle.std.specs.Option.{option_map_or}
use Rattle.bloom_forms.specs.Query.{Name}
use Rattle.bloom_parse.specs.declared.lexing.terminal.Terminal.TheVariants as terminals
use Rattle.bloom_parse.specs.declared.lexing.terminal.Word.{Word}
use Rattle.bloom_parse.specs.Spelling.{word_of}
use Rattle.bloom_parse.specs.Tokens.{named}

-- what a run is, by whether it is short and by its word
named_by : (run : List ℕ) (short : Bool) (word : Option Word) → nat_le (length run) 64 ≡ short → word_of run ≡ word → named run ≡ cond short (Some (option_map_or terminals.Word word (terminals.Name run))) None
named_by run short word s e =
    ap (λ b. cond b (Some (option_map_or terminals.Word (word_of run) (terminals.Name run))) None) s
    ∙ ap (λ w. cond short (Some (option_map_or terminals.Word w (terminals.Name run))) None) e

-- a run of more than 64 bytes is nothing
pub named_long : (run : List ℕ) → 64 < length run → None ≡ named run
named_long run h = sym (named_by run false (word_of run) (lt-leb (length run) 64 h) refl)

-- a short one with a word is that word
pub named_word : (run name : Name) (word : Word) → length run ≤ 64 → name ≡ run → Some word ≡ word_of name → Some (terminals.Word word) ≡ named run
named_word run name word h e w = sym (named_by run true (Some word) (le-leb (length run) 64 h) (sym (w ∙ ap word_of e)))

-- and one without a word is a name
pub named_name : (run name own : Name) → length run ≤ 64 → name ≡ run → None ≡ word_of name → own ≡ name → Some (terminals.Name own) ≡ named run
named_name run name own h e w o = ap (λ n. Some (terminals.Name n)) (o ∙ e) ∙ sym (named_by run true None (le-leb (length run) 64 h) (sym (w ∙ ap word_of e)))
