use Rattle.std.proofs.Common.{sym, ap, ◌∙◌, subst, ◌++◌, ◌∷◌, [], length, ◌<◌, List, ℕ}
use Rattle.std.specs.Option.{option_map}
use Rattle.bloom_parse.specs.declared.lexing.terminal.Terminal.{Terminal}
use Rattle.bloom_parse.specs.Tokens.{HasTokens}
use Rattle.bloom_parse.proofs.Texts.ShorterLemmas.{lex_shorter}
use Rattle.bloom_parse.proofs.Texts.TokensLemmas.{lex_done}
use Rattle.bloom_parse.proofs.lexing.lexer.lexed.Goals as goal

pub loop-terminals-smaller : goal.loop-terminals-smaller
loop-terminals-smaller c =
    let less = lex_shorter c.loop-terminals.rest.now c.in-Some.after.now c.in-Some.terminal (sym c.in_ok-terminal.ensures ∙ ap (option_map (λ x. (x.0, x.1.now))) c.in-Some.is) in
    subst (λ (x : List ℕ). length x < length c.loop-terminals.rest.now) (sym c.behind_blanks-rest-in-Some.ensures) less

pub returns : goal.returns
returns c =
    subst (λ (xs : List Terminal). HasTokens c.args.text.now c.loop-terminals.tokens.items xs c.loop-terminals.rest.now) (sym (c.in_ok-push-3.ensures.items ∙ ap (λ (t : Terminal). c.loop-terminals.terminals.items ++ t ∷ []) c.last_of.ensures))
    (lex_done c.args.text.now c.loop-terminals.rest.now c.loop-terminals.tokens.items c.loop-terminals.terminals.items (sym c.in_ok-terminal.ensures ∙ ap (option_map (λ x. (x.0, x.1.now))) c.in_default.is) c.loop-terminals.invariant)
