-- The collections are marked head by head: a head's rules name none of the heads that are left.
-- A table has the mark, a port hasn't, and a scratch or an output has it where all its rules pass a test.
use Rattle.std.proofs.Common.{◌≡◌, ◌≢◌, ◌<◌, ◌∙◌, ◌+◌, ◌&&◌, ◌||◌, ◌⊎◌, not, cond, ℕ, zero, suc, Bool, true, false, None, Some, Option, List, [], ◌∷◌, replicate, drop, get_or, length, slice_set, inl, inr, refl, ap, sym, subst, arith}
use Rattle.std.specs.Prelude.{◌==◌}
use Rattle.std.specs.List.{list_all}
use Rattle.std.proofs.lemmas.Bool.{cases_eq, cases_Bool, true≢false}
use Rattle.std.proofs.lemmas.List.{get_or-set_same, get_or-set_other, length-set, length-replicate, drop_more}
use Rattle.blz_value.specs.Members.{Has}
use Rattle.blz_value.proofs.Membership.{Has-get_or}
use Rattle.bloom_forms.specs.declared.module.Kind.{Kind}
use Rattle.bloom_forms.specs.declared.module.Kind.TheVariants.{Input, Output, Table, Scratch}
use Rattle.bloom_forms.specs.declared.module.Collection.{Collection}
use Rattle.bloom_forms.specs.declared.numbered.NumberedRule.{NumberedRule}
use Rattle.bloom_forms.specs.Checks.{IsChecked}
use Rattle.bloom_forms.specs.Form.{RuleForm, Form, Accepted}
use Rattle.bloom_forms.specs.Heads.{names_of, InOrder}
use Rattle.bloom_forms.specs.Kinds.{kind_at}
use Rattle.bloom_forms.specs.Lookup.{collection_number}
use Rattle.bloom_forms.specs.Numbered.{IsNumberedRule, AreNumbered}
use Rattle.bloom_forms.specs.Query.{Name}
use Rattle.bloom_forms.specs.Step.{rules_at}
use Rattle.bloom_forms.proofs.Collections.Numbers.{derived_or, get-within}
use Rattle.bloom_forms.proofs.Reach.ReadsLemmas.{number_of, rule_stands}
use Rattle.bloom_index.specs.Code.Growth.{grows_at, kind_grows}

-- a collection has the mark that its kind and its rules give
abbrev pub HasMark : Form → (ruled : ℕ → Bool) → (marks : List Bool) → ℕ → Type 0
HasMark form ruled marks number = grows_at marks number ≡ kind_grows (kind_at form.collections number) (ruled number)

-- there are as many marks as collections, and all collections but these heads have theirs
pub record AreMarkedBut (form : Form) (ruled : ℕ → Bool) (marks : List Bool) (left : List ℕ) : Type 0 where
  pub many : length marks ≡ length form.collections
  pub marked : (number : ℕ) → ¬ Has number left → HasMark form ruled marks number

-- no collection has a mark that all are without
none_marked : (count number : ℕ) → grows_at (replicate count false) number ≡ false
none_marked zero number = refl
none_marked (suc count) zero = refl
none_marked (suc count) (suc number) = none_marked count number

module _ (a : Accepted) (checked : IsChecked a.form a.heads) (ruled : ℕ → Bool) where
  abbrev cs : List Collection
  cs = a.form.collections

  pub marked_first : (marks : List Bool) → marks ≡ replicate (length cs) false → AreMarkedBut a.form ruled marks a.heads
  marked_first marks is = record {
    many = ap (λ (l : List Bool). length l) is ∙ length-replicate (length cs) false;
    marked = λ number lacks.
        let none : grows_at marks number ≡ false = ap (λ (l : List Bool). grows_at l number) is ∙ none_marked (length cs) number in
        elim (derived_or cs number) [
          | inl derived ↦ absurd (lacks (checked.ordered.all number derived))
          | inr other ↦ elim other [
            | inl gone ↦ none ∙ sym (ap (λ (o : Option Kind). kind_grows o (ruled number)) gone)
            | inr port ↦ none ∙ sym (ap (λ (o : Option Kind). kind_grows o (ruled number)) port)
          ]
        ];
  }

  order_from : (i : ℕ) (heads : List ℕ) → InOrder cs a.form.rules heads → InOrder cs a.form.rules (drop i heads)
  order_from zero heads order = order
  order_from (suc i) [] order = tt
  order_from (suc i) (h ∷ heads) order = order_from i heads order.2

  module _ (marks : List Bool) (heads : List ℕ) (same : heads ≡ a.heads) (i : ℕ) (lt : i < length heads) (are : AreMarkedBut a.form ruled marks (drop i a.heads)) where
    abbrev head : ℕ
    head = get_or heads i 0

    from : drop i a.heads ≡ head ∷ drop (i + 1) a.heads
    from = subst (λ (l : List ℕ). drop i l ≡ head ∷ drop (i + 1) l) same (drop_more heads i 0 lt)

    -- the next head is a collection
    pub head_within : head < length cs
    head_within = let derived = checked.ordered.none_else head (subst (λ (l : List ℕ). Has head l) same (Has-get_or heads i 0 lt)) in get-within cs head derived.collection derived.stands

    -- what its rules name is marked
    pub marked_below : (rule : RuleForm) (name : Name) → Has rule (rules_at cs a.form.rules head) → Has name (names_of rule.1) → HasMark a.form ruled marks (number_of a checked name)
    marked_below rule name of_head names =
        let order : InOrder cs a.form.rules (head ∷ drop (i + 1) a.heads) = subst (InOrder cs a.form.rules) from (order_from i a.heads checked.ordered.order) in
        let stands = rule_stands a checked head rule of_head in
        are.marked (number_of a checked name) (λ h.
        order.1 (number_of a checked name) (subst (λ (l : List ℕ). Has (number_of a checked name) l) from h) (record { rule = rule; stands = stands.0; head = stands.1; name = name; read = names; is = refl }))

    -- with its mark the others are left
    pub marked_more : (here : Bool) → here ≡ kind_grows (kind_at cs head) (ruled head) → AreMarkedBut a.form ruled (slice_set marks head here) (drop (i + 1) a.heads)
    marked_more here is = record {
      many = length-set marks head here ∙ are.many;
      marked = λ number lacks. elim (cases_eq number head) [
        | inl e ↦ subst (λ (k : ℕ). HasMark a.form ruled (slice_set marks head here) k) (sym e) (get_or-set_same marks head here false (omega (arith, head_within, are.many)) ∙ is)
        | inr other ↦ get_or-set_other marks head number here false other ∙ are.marked number (λ h. elim (subst (λ (l : List ℕ). Has number l) from h) [ inl e ↦ other (sym e) | inr m ↦ lacks m ])
      ];
    }

  -- where no head is left all are marked
  pub marked_all : (marks : List Bool) (left : List ℕ) → left ≡ [] → AreMarkedBut a.form ruled marks left → (number : ℕ) → HasMark a.form ruled marks number
  marked_all marks left none are number = are.marked number (λ h. subst (λ (l : List ℕ). Has number l) none h)

-- ---- the rules of a head

-- those of a head pass a test by numbers exactly where they pass it as they are written
pub rules_are : (declared : List Collection) (test : RuleForm → Bool) (by : NumberedRule → Bool) (number : ℕ) (forms : List RuleForm) (rules : List NumberedRule) → AreNumbered declared forms rules
    → ((form : RuleForm) (rule : NumberedRule) → Has form (rules_at declared forms number) → IsNumberedRule declared form rule → by rule ≡ test form)
    → list_all (λ (rule : NumberedRule). not (rule.head == number) || by rule) rules ≡ list_all test (rules_at declared forms number)
rules_are declared test by number [] [] all each = refl
rules_are declared test by number [] (r ∷ rules) all each = absurd all
rules_are declared test by number (f ∷ forms) [] all each = absurd all
rules_are declared test by number (f ∷ forms) (r ∷ rules) all each =
    let rest = rules_at declared forms number in
    let passes : NumberedRule → Bool = λ (rule : NumberedRule). not (rule.head == number) || by rule in
    let same : (r.head == number) ≡ (collection_number declared f.0 == number) = ap (λ (n : ℕ). n == number) all.0.head in
    elim (cases_Bool (collection_number declared f.0 == number)) [
      | inl t ↦
          let own : rules_at declared (f ∷ forms) number ≡ f ∷ rest = ap (λ (b : Bool). cond b (f ∷ rest) rest) t in
          let here : by r ≡ test f = each f r (subst (λ (l : List RuleForm). Has f l) (sym own) (inl refl)) all.0 in
          let others = rules_are declared test by number forms rules all.1 (λ form rule h. each form rule (subst (λ (l : List RuleForm). Has form l) (sym own) (inr h))) in
          ap (λ (b : Bool). (not b || by r) && list_all passes rules) (same ∙ t) ∙ (λ i. here i && others i) ∙ ap (list_all test) (sym own)
      | inr other ↦
          let own : rules_at declared (f ∷ forms) number ≡ rest = ap (λ (b : Bool). cond b (f ∷ rest) rest) other in
          let others = rules_are declared test by number forms rules all.1 (λ form rule h. each form rule (subst (λ (l : List RuleForm). Has form l) (sym own) h)) in
          ap (λ (b : Bool). (not b || by r) && list_all passes rules) (same ∙ other) ∙ others ∙ ap (list_all test) (sym own)
    ]

-- of a marked head that is no table all rules pass the test
pub rules_pass : (o : Option Kind) (ruled : Bool) → o ≢ Some Table → kind_grows o ruled ≡ true → ruled ≡ true
rules_pass None ruled other t = absurd (true≢false (sym t))
rules_pass (Some Input) ruled other t = absurd (true≢false (sym t))
rules_pass (Some Table) ruled other t = absurd (other refl)
rules_pass (Some Output) ruled other t = t
rules_pass (Some Scratch) ruled other t = t

-- ---- the kind of a head

kind_from : (cs : List Collection) (k : ℕ) (d : Collection) (kind : Kind) → k < length cs → (get_or cs k d).kind ≡ kind → kind_at cs k ≡ Some kind
kind_from [] k d kind lt e = absurd (omega (arith, lt))
kind_from (c ∷ cs) zero d kind lt e = ap Some e
kind_from (c ∷ cs) (suc k) d kind lt e = kind_from cs k d kind (omega (arith, lt)) e

-- an output and a scratch have the mark that their rules give
pub ruled_head : (written cs : List Collection) (head : ℕ) (d : Collection) (ruled : Bool) → written ≡ cs → head < length cs
    → ((get_or written head d).kind ≡ Output) ⊎ ((get_or written head d).kind ≡ Scratch) → ruled ≡ kind_grows (kind_at cs head) ruled
ruled_head written cs head d ruled same lt (inl e) = sym (ap (λ (o : Option Kind). kind_grows o ruled) (kind_from cs head d Output lt (subst (λ (l : List Collection). (get_or l head d).kind ≡ Output) same e)))
ruled_head written cs head d ruled same lt (inr e) = sym (ap (λ (o : Option Kind). kind_grows o ruled) (kind_from cs head d Scratch lt (subst (λ (l : List Collection). (get_or l head d).kind ≡ Scratch) same e)))
