-- Lists in print, element by element.
use Rattle.std.proofs.Common.{◌≡◌, ℕ, List, [], ◌∷◌, ◌++◌, map, codes, refl, ap, ◌∙◌, sym, append_assoc, length, take, ◌≤◌, true, false, if◌then◌else◌}
use Rattle.std.proofs.lemmas.List.{append-nil, take_all}
use Rattle.std.proofs.lemmas.Grind.{flat_map-append}
use Rattle.std.specs.List.{flat_map}
use Rattle.std.specs.Str.{bytes_eq}
use Rattle.bloom_forms.specs.declared.module.Collection.{Collection}
use Rattle.bloom_forms.specs.declared.module.Rule.{Rule}
use Rattle.bloom_forms.specs.Form.{RuleForm, rule_form, rule_forms}
use Rattle.bloom_forms.specs.Query.{Name, Formula}
use Rattle.bloom_forms.specs.Query.Formula.{both, either, not_so}
use Rattle.bloom_parse.specs.declared.lexing.terminal.Mark.TheVariants as marks
use Rattle.bloom_parse.specs.declared.lexing.terminal.Terminal.{Terminal}
use Rattle.bloom_parse.specs.declared.lexing.terminal.Word.TheVariants as words
use Rattle.bloom_parse.specs.declared.printer.Place.{Place}
use Rattle.bloom_parse.specs.declared.printer.Place.TheVariants.{Whole, Side, Single}
use Rattle.bloom_parse.specs.Trees.{Item, collection_text, rule_text, item_text, more_items_text, more_names_text, more_pairs_text, keys_text, word, mark, unit_text, ands_text, ors_text}
use Rattle.bloom_parse.specs.Layout.{laid, text_of, levels, item_of, collection_tree, rule_tree}
use Rattle.bloom_parse.specs.Code.Printing.{names_text, placed, encloses_and, encloses_or}

-- a comma, a space and a name
abbrev pub name_part : Name → List ℕ
name_part name = codes ", " ++ name

pub names_flat : (names : List Name) → text_of (more_names_text names) ≡ flat_map name_part names
names_flat [] = refl
names_flat (n ∷ names) = ap (λ bytes. codes ", " ++ (bytes ++ text_of (more_names_text names))) (append-nil n) ∙ ap (λ bytes. codes ", " ++ (n ++ bytes)) (names_flat names)

-- keys are names between brackets
pub keys_written : (names : List Name) → text_of (keys_text names) ≡ codes "[" ++ (text_of (names_text names) ++ codes "]")
keys_written [] = refl
keys_written (n ∷ names) =
    ap (λ bytes. codes "[" ++ ((n ++ []) ++ bytes)) (flat_map-append laid (more_names_text names) (mark marks.CloseKeys ∷ []))
    ∙ ap (λ bytes. codes "[" ++ bytes) (sym (append_assoc (n ++ []) (text_of (more_names_text names)) (codes "]")))

abbrev pub pair_part : Name × Name → List ℕ
pair_part pair = codes ", " ++ (pair.0 ++ (codes " = " ++ pair.1))

pub pairs_flat : (pairs : List (Name × Name)) → text_of (more_pairs_text pairs) ≡ flat_map pair_part pairs
pairs_flat [] = refl
pairs_flat (p ∷ pairs) =
    ap (λ bytes. codes ", " ++ (bytes ++ (codes " = " ++ ((p.1 ++ []) ++ text_of (more_pairs_text pairs))))) (append-nil p.0)
    ∙ ap (λ bytes. codes ", " ++ (p.0 ++ (codes " = " ++ (bytes ++ text_of (more_pairs_text pairs))))) (append-nil p.1)
    ∙ ap (λ bytes. codes ", " ++ (p.0 ++ (codes " = " ++ (p.1 ++ bytes)))) (pairs_flat pairs)
    ∙ ap (λ bytes. codes ", " ++ bytes) (sym (append_assoc p.0 (codes " = " ++ p.1) (flat_map pair_part pairs)))

-- a column that keeps its name
pub plain_item : (column name : Name) → bytes_eq column name ≡ true → text_of (item_text (item_of (column, name))) ≡ column
plain_item column name same =
    ap (λ b. text_of (item_text (if b then Item.plain column else Item.renamed column name))) same
    ∙ append-nil (column ++ []) ∙ append-nil column

-- a column that gets another name
pub renamed_item : (column name : Name) → bytes_eq column name ≡ false → text_of (item_text (item_of (column, name))) ≡ column ++ (codes " as " ++ name)
renamed_item column name other =
    ap (λ b. text_of (item_text (if b then Item.plain column else Item.renamed column name))) other
    ∙ ap (λ bytes. bytes ++ (codes " as " ++ ((name ++ []) ++ []))) (append-nil column)
    ∙ ap (λ bytes. column ++ (codes " as " ++ bytes)) (append-nil (name ++ []) ∙ append-nil name)

abbrev pub item_part : Name × Name → List ℕ
item_part pair = codes ", " ++ text_of (item_text (item_of pair))

pub items_flat : (pairs : List (Name × Name)) → text_of (more_items_text (map item_of pairs)) ≡ flat_map item_part pairs
items_flat [] = refl
items_flat (p ∷ pairs) = ap (λ bytes. codes ", " ++ bytes) (flat_map-append laid (item_text (item_of p)) (more_items_text (map item_of pairs)) ∙ ap (λ bytes. text_of (item_text (item_of p)) ++ bytes) (items_flat pairs))

abbrev pub collection_part : Collection → List ℕ
collection_part c = text_of (collection_text (collection_tree c))

pub collections_flat : (cs : List Collection) → text_of (flat_map collection_text (map collection_tree cs)) ≡ flat_map collection_part cs
collections_flat [] = refl
collections_flat (c ∷ cs) =
    flat_map-append laid (collection_text (collection_tree c)) (flat_map collection_text (map collection_tree cs)) ∙ ap (λ bytes. collection_part c ++ bytes) (collections_flat cs)

abbrev pub rule_part : RuleForm → List ℕ
rule_part r = text_of (rule_text (rule_tree r))

abbrev pub whole_rule_part : Rule → List ℕ
whole_rule_part r = rule_part (rule_form r)

pub rules_flat : (rules : List Rule) → text_of (flat_map rule_text (map rule_tree (rule_forms rules))) ≡ flat_map whole_rule_part rules
rules_flat [] = refl
rules_flat (r ∷ rules) =
    flat_map-append laid (rule_text (rule_tree (rule_form r))) (flat_map rule_text (map rule_tree (rule_forms rules))) ∙ ap (λ bytes. whole_rule_part r ++ bytes) (rules_flat rules)

-- ---- predicates

-- `not` and a single unit
pub not_written : (place : Place) (f : Formula) → text_of (placed place (levels (not_so f))) ≡ codes "not " ++ text_of (placed Single (levels f))
not_written Whole f = refl
not_written Side f = refl
not_written Single f = refl

-- two parts with a terminal between them, without parentheses
bare : (a : List Terminal) (t : Terminal) (b : List Terminal) → text_of (a ++ t ∷ b) ≡ text_of a ++ (laid t ++ (text_of b ++ []))
bare a t b = flat_map-append laid a (t ∷ b) ∙ ap (λ bytes. text_of a ++ (laid t ++ bytes)) (sym (append-nil (text_of b)))

-- and in parentheses
enclosed : (a : List Terminal) (t : Terminal) (b : List Terminal) → text_of ((a ++ t ∷ b) ++ mark marks.Close ∷ []) ≡ text_of a ++ (laid t ++ (text_of b ++ codes ")"))
enclosed a t b =
    ap text_of (append_assoc a (t ∷ b) (mark marks.Close ∷ []))
    ∙ flat_map-append laid a (t ∷ (b ++ mark marks.Close ∷ []))
    ∙ ap (λ bytes. text_of a ++ (laid t ++ bytes)) (flat_map-append laid b (mark marks.Close ∷ []))

-- the two sides of `and`, in the parentheses that it needs there
pub and_written : (place : Place) (f g : Formula) → text_of (placed place (levels (both f g))) ≡ (if encloses_and place then 40 ∷ [] else []) ++ (text_of (placed Side (levels f)) ++ (codes " and " ++ (text_of (placed Single (levels g)) ++ (if encloses_and place then 41 ∷ [] else []))))
and_written Whole f g = bare (ands_text (levels f).ands) (word words.And) (unit_text (levels g).unit)
and_written Side f g = bare (ands_text (levels f).ands) (word words.And) (unit_text (levels g).unit)
and_written Single f g = ap (λ bytes. codes "(" ++ bytes) (enclosed (ands_text (levels f).ands) (word words.And) (unit_text (levels g).unit))

-- and those of `or`
pub or_written : (place : Place) (f g : Formula) → text_of (placed place (levels (either f g))) ≡ (if encloses_or place then 40 ∷ [] else []) ++ (text_of (placed Whole (levels f)) ++ (codes " or " ++ (text_of (placed Side (levels g)) ++ (if encloses_or place then 41 ∷ [] else []))))
or_written Whole f g = bare (ors_text (levels f).ors) (word words.Or) (ands_text (levels g).ands)
or_written Side f g = ap (λ bytes. codes "(" ++ bytes) (enclosed (ors_text (levels f).ors) (word words.Or) (ands_text (levels g).ands))
or_written Single f g = ap (λ bytes. codes "(" ++ bytes) (enclosed (ors_text (levels f).ors) (word words.Or) (ands_text (levels g).ands))

-- five parts that were written one behind another
pub five_parts : (old a b c d e : List ℕ) → ((((old ++ a) ++ b) ++ c) ++ d) ++ e ≡ old ++ (a ++ (b ++ (c ++ (d ++ e))))
five_parts old a b c d e =
    append_assoc (((old ++ a) ++ b) ++ c) d e
    ∙ append_assoc ((old ++ a) ++ b) c (d ++ e)
    ∙ append_assoc (old ++ a) b (c ++ (d ++ e))
    ∙ append_assoc old a (b ++ (c ++ (d ++ e)))

-- a loop that wrote the part of each element wrote the whole
pub written_all : {X : Type 0} (part : X → List ℕ) (xs : List X) (n : ℕ) (base into whole : List ℕ) → length xs ≤ n → whole ≡ flat_map part xs → into ≡ base ++ flat_map part (take n xs) → into ≡ base ++ whole
written_all part xs n base into whole h e w = w ∙ ap (λ ys. base ++ flat_map part ys) (take_all n xs h) ∙ ap (λ bytes. base ++ bytes) (sym e)
