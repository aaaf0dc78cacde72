use Rattle.std.proofs.Common.{◌∙◌, List, Ok, ap, length, subst, sym}
use Rattle.bloom_parse.specs.Code.ReadPlaces.{IsPlace}
use Rattle.bloom_parse.specs.declared.lexing.token.Token.{Token}
use Rattle.bloom_parse.specs.Places.{IsModuleText, IsFault}
use Rattle.bloom_forms.specs.Form.{form_of}
use Rattle.bloom_parse.specs.Tokens.{place_of, start_of}
use Rattle.bloom_parse.proofs.Printed.NameLemmas.{text_has_own_names}
use Rattle.bloom_parse.proofs.Grammar.ParsingLemmas.{text_is, reads_ok, no_fault}
use Rattle.bloom_parse.proofs.Grammar.ReadingLaw.{reads_texts, reads_faults}
use Rattle.bloom_parse.proofs.parser.parse.Goals as goal

-- the text's terminals are those that were read, so the module that was read is the text's
pub returns-in-Ok-clause-only : goal.returns-in-Ok-clause-only
returns-in-Ok-clause-only c = λ m is. reads_ok m (Ok (form_of c.in-Ok.module)) (c.in-Ok.ensures.only m (subst (λ ts. IsModuleText ts m) (sym c.deref.ensures.value) (text_is c.args.text.now _ _ _ m c.in_ok-tokens.ensures is)))

pub returns-in-Err-Left-clause-only : goal.returns-in-Err-Left-clause-only
returns-in-Err-Left-clause-only c = λ m is. no_fault m c.in-Err-Left.field-0 c.in-Err-Left.left c.in-Err-Left.field-0-is (c.in-Err-Left.ensures.only m (subst (λ ts. IsModuleText ts m) (sym c.deref.ensures.value) (text_is c.args.text.now _ _ _ m c.in_ok-tokens.ensures is)))

pub returns-in-Ok-clause-names : goal.returns-in-Ok-clause-names
returns-in-Ok-clause-names c = text_has_own_names c.args.text.now (form_of c.in-Ok.module) (_, (_, _, c.in_ok-tokens.ensures), subst (λ ts. IsModuleText ts (form_of c.in-Ok.module)) c.deref.ensures.value c.in-Ok.ensures.read)

-- the grammar says what the text is read as
pub returns-in-Ok-clause-exact : goal.returns-in-Ok-clause-exact
returns-in-Ok-clause-exact c = (reads_texts c.args.text.now (form_of c.in-Ok.module)).1 (_, (_, _, c.in_ok-tokens.ensures), subst (λ ts. IsModuleText ts (form_of c.in-Ok.module)) c.deref.ensures.value c.in-Ok.ensures.read)

pub returns-in-Err-Left-clause-exact : goal.returns-in-Err-Left-clause-exact
returns-in-Err-Left-clause-exact c =
    let text = c.args.text.now in
    let fault : IsFault c.in_ok-tokens.terminals.items c.in-Err-Left.left = subst (λ ts. IsFault ts c.in-Err-Left.left) c.deref.ensures.value (subst (λ f. IsPlace c.deref.result.now f) c.in-Err-Left.field-0-is c.in-Err-Left.ensures.place) in
    let here = ap (λ (tokens : List Token). place_of text (start_of (length text) tokens c.in_ok-tokens.rest.now c.in-Err-Left.left)) c.deref-in-Err-Left.ensures.value in
    (reads_faults text c.place_at.result).1 (c.in_ok-tokens.tokens.items, c.in_ok-tokens.terminals.items, c.in_ok-tokens.rest.now, c.in-Err-Left.left, c.in_ok-tokens.ensures, fault, c.place_at.ensures ∙ here)
