-- Each module of the grammar is read as what it means.
use Rattle.std.proofs.Common.{◌≡◌, ℕ, true, false, List, [], ◌∷◌, ◌++◌, map, flat_map, Option, Some, Result, Ok, refl, sym, ap, subst, ◌∙◌}
use Rattle.bloom_forms.specs.Query.{Name, Query}
use Rattle.bloom_parse.specs.declared.lexing.terminal.Terminal.{Terminal}
use Rattle.bloom_parse.specs.declared.lexing.terminal.Terminal.TheVariants as terminals
use Rattle.bloom_parse.specs.declared.lexing.terminal.Mark.TheVariants as marks
use Rattle.bloom_forms.specs.declared.module.Kind.{Kind}
use Rattle.bloom_forms.specs.declared.module.Kind.TheVariants.{Input, Output, Table, Scratch}
use Rattle.bloom_forms.specs.declared.module.Collection.{Collection}
use Rattle.bloom_forms.specs.declared.module.Module.{Module}
use Rattle.bloom_forms.specs.Form.{RuleForm, Form, form_of}
use Rattle.bloom_parse.specs.declared.reading.read_fault.ReadFault.{ReadFault}
use Rattle.bloom_parse.specs.Trees.{word, mark, more_names_text, expr_query, ExprFits, kind_word, CollectionTree, collection_text, collection_form, RuleTree, rule_text, ModuleTree, ModuleFits, module_text, module_form}
use Rattle.bloom_parse.specs.Places.{IsModuleText}
use Rattle.bloom_parse.specs.Code.ReadingSingle.{◌>>=◌, Gives, mark_at, has_name}
use Rattle.bloom_parse.specs.Code.ReadingExprs.{ReadQuery}
use Rattle.bloom_parse.specs.Code.ReadingModules.{kind_at, has_kind, collection_of, declared_at, by_kind, collection_at, rule_at, rules_at, end_at, form_from, module_at}
use Rattle.bloom_parse.proofs.Printed.TreesLemmas.{flat_collection, flat_rule, flat_module}
use Rattle.bloom_parse.proofs.Grammar.RepeatLemmas.{ReadAgain, many_again}
use Rattle.bloom_parse.proofs.Grammar.ListLemmas.{names_again, all_fit}
use Rattle.bloom_parse.proofs.Grammar.ExprComplete.{expr_again}
use Rattle.bloom_parse.proofs.Grammar.ModuleCorrect.{collection_kind, collection_longer, rule_kind, rule_longer}

abbrev declared : Collection → List Terminal → Result (Collection × List Terminal) ℕ
declared c rest = Ok (c, rest)

abbrev ruled : Name → Query → List Terminal → Result (RuleForm × List Terminal) ℕ
ruled head body rest = Ok ((head, body), rest)

abbrev formed : Form → Result Form ℕ
formed m = Ok m

kind_again : (kind : Kind) (rest : List Terminal) → kind_at (word (kind_word kind) ∷ rest) ≡ Some kind
kind_again Input rest = refl
kind_again Output rest = refl
kind_again Table rest = refl
kind_again Scratch rest = refl

has_kind_again : (kind : Kind) (rest : List Terminal) → has_kind (word (kind_word kind) ∷ rest) ≡ true
has_kind_again Input rest = refl
has_kind_again Output rest = refl
has_kind_again Table rest = refl
has_kind_again Scratch rest = refl

declared_again : (kind : Kind) (name first : Name) (more : List Name) (rest : List Terminal) → declared_at kind (terminals.Name name ∷ mark marks.Open ∷ terminals.Name first ∷ (more_names_text more ++ mark marks.Close ∷ mark marks.Semicolon ∷ rest)) ≡ declared (collection_of kind name (first ∷ more)) rest
unfolding declared_at
declared_again kind name first more rest = ap (λ (r : Result (List Name × List Terminal) ℕ). r >>= λ ns. mark_at marks.Close ns.1 >>= λ c. mark_at marks.Semicolon c >>= λ s. declared (collection_of kind name ns.0) s) (names_again first more (mark marks.Close ∷ mark marks.Semicolon ∷ rest) refl)

collection_again : (c : CollectionTree) (rest : List Terminal) → collection_at (collection_text c ++ rest) ≡ declared (collection_form c) rest
unfolding collection_at
collection_again c rest =
    let behind = terminals.Name c.name ∷ mark marks.Open ∷ terminals.Name c.first ∷ (more_names_text c.more ++ mark marks.Close ∷ mark marks.Semicolon ∷ rest) in
    ap (λ (t : List Terminal). collection_at t) (flat_collection c rest)
    ∙ ap (λ (o : Option Kind). by_kind o (word (kind_word c.kind) ∷ behind)) (kind_again c.kind behind)
    ∙ declared_again c.kind c.name c.first c.more rest

rule_again : (r : RuleTree) (rest : List Terminal) → ExprFits 32 r.body → rule_at (rule_text r ++ rest) ≡ ruled r.head (expr_query r.body) rest
unfolding rule_at
rule_again r rest fits =
    ap (λ (t : List Terminal). rule_at t) (flat_rule r rest)
    ∙ ap (λ (x : ReadQuery). x >>= λ b. mark_at marks.Semicolon b.1 >>= λ s. ruled r.head b.0 s) (expr_again r.body 32 fits (mark marks.Semicolon ∷ rest))

collections_read_again : (rest : List Terminal) → has_kind rest ≡ false → ReadAgain collection_kind has_kind collection_at rest
collections_read_again rest e = record { nil = refl; cons = λ t ts. refl; begins = λ t more. has_kind_again t.kind _; ends = e; longer = collection_longer; again = λ t ts f. collection_again t (flat_map collection_text ts ++ rest) }

rules_read_again : ReadAgain rule_kind has_name rule_at (terminals.End ∷ [])
rules_read_again = record { nil = refl; cons = λ t ts. refl; begins = λ t more. refl; ends = refl; longer = rule_longer; again = λ t ts f. rule_again t (flat_map rule_text ts ++ terminals.End ∷ []) f }

-- rules begin with no kind
rules_no_kind : (rules : List RuleTree) → has_kind (flat_map rule_text rules ++ terminals.End ∷ []) ≡ false
rules_no_kind [] = refl
rules_no_kind (r ∷ rules) = refl

module_again : (m : ModuleTree) → ModuleFits m → module_at (module_text m ++ terminals.End ∷ []) ≡ formed (module_form m)
unfolding module_at
module_again m fits =
    let behind = flat_map rule_text m.rules ++ terminals.End ∷ [] in
    ap (λ (t : List Terminal). module_at t) (flat_module m)
    ∙ ap (λ (r : Result (List Collection × List Terminal) ℕ). r >>= λ cs. rules_at cs.1 >>= λ rs. end_at rs.1 >>= λ z. formed (form_from m.name cs.0 rs.0)) (many_again collection_kind has_kind collection_at behind (collections_read_again behind (rules_no_kind m.rules)) m.collections (all_fit m.collections))
    ∙ ap (λ (r : Result (List RuleForm × List Terminal) ℕ). r >>= λ rs. end_at rs.1 >>= λ z. formed (form_from m.name (map collection_form m.collections) rs.0)) (many_again rule_kind has_name rule_at (terminals.End ∷ []) rules_read_again m.rules fits)

pub text_again : (ts : List Terminal) (m : Form) → IsModuleText ts m → module_at ts ≡ Ok m
text_again ts m h = ap (λ (t : List Terminal). module_at t) (sym h.text) ∙ module_again h.tree h.fits ∙ ap formed h.means

pub only_text : (ts : List Terminal) (m : Form) (r : Result Module ReadFault) → Gives (λ x. form_of x) r (module_at ts) → IsModuleText ts m → Gives (λ x. form_of x) r (Ok m)
only_text ts m r g h = subst (λ (x : Result Form ℕ). Gives (λ x. form_of x) r x) (text_again ts m h) g

same_form : (a b : Form) → formed a ≡ formed b → a ≡ b
same_form a b e = cc

-- a text has one module
pub one_module : (ts : List Terminal) (a b : Form) → IsModuleText ts a → IsModuleText ts b → a ≡ b
one_module ts a b g h = same_form a b (sym (text_again ts a g) ∙ text_again ts b h)
