-- Adding the rows of rules to a set, one rule after the other.
use Rattle.std.proofs.Common.{◌≡◌, ◌≢◌, ◌<◌, ◌≤◌, ◌+◌, ℕ, zero, suc, Bool, cond, ◌∷◌, ◌++◌, [], drop, get_or, List, length, Result, Ok, Err, refl, ap, ◌∙◌, sym, subst, inl, inr, arith}
use Rattle.std.specs.Prelude.{slice_set}
use Rattle.std.proofs.lemmas.List.{append_assoc, append-nil, drop_all, get_or-set_same}
use Rattle.std.proofs.lemmas.Bool.{eq-eqb, ne_eqb}
use Rattle.std.proofs.lemmas.Slice.Zip.{AllZip-long}
use Rattle.blz_value.specs.Record.{Row}
use Rattle.blz_value.specs.Sets.{set_of, IsRowSet}
use Rattle.blz_value.proofs.Membership.{Has-append_left, Has-append_right, Has-append_cases}
use Rattle.blz_value.proofs.RowSets.{set_of-sorted, set_of-append_set, length-set_of-append_left}
use Rattle.blz_set.specs.RecordSet.{row_limit}
use Rattle.blz_set.specs.declared.fault.SetFault.{SetFault}
use Rattle.blz_set.specs.declared.fault.SetFault.TheVariants.{TooManyRows, NoMemory}
use Rattle.bloom_forms.specs.Query.{Name}
use Rattle.bloom_forms.specs.Form.{RuleForm}
use Rattle.bloom_forms.specs.declared.module.Collection.{Collection}
use Rattle.bloom_forms.specs.declared.numbered.NumberedRule.{NumberedRule}
use Rattle.bloom_forms.specs.Lookup.{collection_number, declared}
use Rattle.bloom_forms.specs.Numbered.{IsNumberedRule, AreNumbered}
use Rattle.bloom_forms.specs.Rows.{rows_of}
use Rattle.bloom_forms.specs.Step.{Sets, set_at, rows_named, union_of, rules_at}
use Rattle.bloom_eval.specs.NumberedRows.{numbered_rows, numbered_sets}
use Rattle.bloom_eval.specs.StepAnswers.{part_sets, AllFit, rule_sets}
use Rattle.bloom_eval.specs.Counted.{AddsRows, Adds, TakesHead}
use Rattle.bloom_eval.proofs.ByNumbers.{same_rows, same_sets}

module _ (columns : Name → List Name) (env : Name → List Row) where
  -- the union with one rule more
  union-cons : (rule : RuleForm) (rules : List RuleForm) (old : List Row) → set_of (set_of (old ++ rows_of columns env rule.1) ++ union_of columns env rules) ≡ set_of (old ++ union_of columns env (rule ∷ rules))
  union-cons rule rules old = set_of-append_set (old ++ rows_of columns env rule.1) (union_of columns env rules) ∙ ap set_of (append_assoc old (rows_of columns env rule.1) (union_of columns env rules))

  pub adds_none : (set : List Row) → IsRowSet set → length set ≤ row_limit → {X : Type 0} (x : X) → Adds columns env [] set set (Ok x)
  adds_none set sorted few x = (sym (ap set_of (append-nil set) ∙ set_of-sorted set sorted), λ rows h. elim h [ inl e ↦ subst (λ (r : List Row). length r ≤ row_limit) e few | inr m ↦ absurd m ])

  pub adds_one : {X : Type 0} (rule : RuleForm) (rules : List RuleForm) (old new : List Row) (r : Result X SetFault) → AllFit (part_sets columns env rule.1) → Adds columns env rules (set_of (old ++ rows_of columns env rule.1)) new r → Adds columns env (rule ∷ rules) old new r
  adds_one rule rules old new (Ok x) fit adds = (
    adds.0 ∙ union-cons rule rules old,
    λ rows h. elim h [
      | inl e ↦ adds.1 rows (inl e)
      | inr m ↦ elim (Has-append_cases rows (part_sets columns env rule.1) (rule_sets columns env rules) m) [ inl a ↦ fit rows a | inr b ↦ adds.1 rows (inr b) ]
    ],
  )
  adds_one rule rules old new (Err TooManyRows) fit adds = elim adds.stands [
    | inl e ↦ record { rows = set_of (old ++ union_of columns env (rule ∷ rules)); stands = inl refl; over = subst (λ (r : List Row). row_limit < length r) (sym e ∙ union-cons rule rules old) adds.over }
    | inr m ↦ record { rows = adds.rows; stands = inr (Has-append_right adds.rows (part_sets columns env rule.1) (rule_sets columns env rules) m); over = adds.over }
  ]
  adds_one rule rules old new (Err NoMemory) fit adds = tt

  -- the first rule is refused
  pub first_refused : (X : Type 0) (rule : RuleForm) (rules : List RuleForm) (old mid new : List Row) (fault : SetFault) → AddsRows {X = X} (rows_of columns env rule.1) (part_sets columns env rule.1) old mid (Err fault) → Adds {X = X} columns env (rule ∷ rules) old new (Err fault)
  first_refused X rule rules old mid new TooManyRows over = elim over.stands [
    | inl e ↦ record {
      rows = set_of (old ++ union_of columns env (rule ∷ rules));
      stands = inl refl;
      over = omega (arith, over.over, ap (λ (rows : List Row). length rows) e, length-set_of-append_left (old ++ rows_of columns env rule.1) (union_of columns env rules), ap (λ (rows : List Row). length (set_of rows)) (append_assoc old (rows_of columns env rule.1) (union_of columns env rules)));
    }
    | inr m ↦ record { rows = over.rows; stands = inr (Has-append_left over.rows (part_sets columns env rule.1) (rule_sets columns env rules) m); over = over.over }
  ]
  first_refused X rule rules old mid new NoMemory over = tt

-- ---- rules by numbers

-- the rules from a place on begin with one whose form by numbers is this rule
pub record IsFormAt (cs : List Collection) (forms : List RuleForm) (i : ℕ) (rule : NumberedRule) : Type 0 where
  pub form : RuleForm
  pub from : drop i forms ≡ form ∷ drop (i + 1) forms
  pub is : IsNumberedRule cs form rule

pub form_at : (cs : List Collection) (forms : List RuleForm) (rules : List NumberedRule) (i : ℕ) (rule : NumberedRule) → AreNumbered cs forms rules → i < length rules → rule ≡ get_or rules i rule → IsFormAt cs forms i rule
form_at cs [] [] i rule all lt is = absurd (omega (arith, lt))
form_at cs [] (r ∷ rules) i rule all lt is = absurd all
form_at cs (f ∷ forms) [] i rule all lt is = absurd all
form_at cs (f ∷ forms) (r ∷ rules) zero rule all lt is = record { form = f; from = refl; is = subst (λ (held : NumberedRule). IsNumberedRule cs f held) (sym is) all.0 }
form_at cs (f ∷ forms) (r ∷ rules) (suc i) rule all lt is =
    let at = form_at cs forms rules i rule all.1 (omega (arith, lt)) is in
    let next : suc (i + 1) ≡ suc i + 1 = omega arith in
    record { form = at.form; from = at.from ∙ ap (λ n. at.form ∷ drop n (f ∷ forms)) next; is = at.is }

-- a rule is one of the head that has its number, and of no other

pub own_rule : (cs : List Collection) (form : RuleForm) (forms : List RuleForm) (rule : NumberedRule) (head : ℕ) → IsNumberedRule cs form rule → rule.head ≡ head → rules_at cs (form ∷ forms) head ≡ form ∷ rules_at cs forms head
own_rule cs form forms rule head is same = ap (λ (b : Bool). cond b (form ∷ rules_at cs forms head) (rules_at cs forms head)) (eq-eqb (collection_number cs form.0) head (sym is.head ∙ same))

pub other_rule : (cs : List Collection) (form : RuleForm) (forms : List RuleForm) (rule : NumberedRule) (head : ℕ) → IsNumberedRule cs form rule → rule.head ≢ head → rules_at cs (form ∷ forms) head ≡ rules_at cs forms head
other_rule cs form forms rule head is differ = ap (λ (b : Bool). cond b (form ∷ rules_at cs forms head) (rules_at cs forms head)) (ne_eqb (collection_number cs form.0) head (λ same. differ (is.head ∙ same)))

-- past the last rule there are no forms
pub none_from : (cs : List Collection) (forms : List RuleForm) (rules : List NumberedRule) (i : ℕ) → AreNumbered cs forms rules → length rules ≤ i → drop i forms ≡ []
none_from cs forms rules i all le = drop_all i forms (omega (arith, AllZip-long (IsNumberedRule cs) forms rules all, le))

-- the rows of a rule by numbers are those of its form
pub adds_named : (X : Type 0) (cs : List Collection) (sets : Sets) (form : RuleForm) (rule : NumberedRule) (old new : List Row) (r : Result X SetFault) → IsNumberedRule cs form rule → AddsRows {X = X} (numbered_rows sets rule.body) (numbered_sets sets rule.body) old new r
    → AddsRows {X = X} (rows_of (declared cs) (rows_named cs sets) form.1) (part_sets (declared cs) (rows_named cs sets) form.1) old new r
adds_named X cs sets form rule old new r is adds =
    let rows = same_rows cs sets form.1 rule.body is.body in
    let parts = same_sets cs sets form.1 rule.body is.body in
    subst (λ (A : Type 0). A) (λ i. AddsRows {X = X} (rows i) (parts i) old new r) adds

-- ---- a head

set-twice : (sets : Sets) (head : ℕ) (first second : List Row) → slice_set (slice_set sets head first) head second ≡ slice_set sets head second
set-twice [] head first second = refl
set-twice (s ∷ sets) zero first second = refl
set-twice (s ∷ sets) (suc head) first second = ap (λ (rest : Sets). s ∷ rest) (set-twice sets head first second)

-- a head is taken: its set is taken out, its rules are added, and it is put back
pub head_taken : (X : Type 0) (cs : List Collection) (rules : List RuleForm) (head : ℕ) (old mid read new : Sets) (start set : List Row) (x : X) → head < length old → mid ≡ slice_set old head [] → read ≡ mid → new ≡ slice_set mid head set → start ≡ set_at old head
    → Adds {X = X} (declared cs) (rows_named cs read) (rules_at cs rules head) start set (Ok x) → TakesHead {X = X} cs rules head old new (Ok x)
head_taken X cs rules head old mid read new start set x lt emptied same put began adds =
    let is : new ≡ slice_set old head set = put ∙ ap (λ (sets : Sets). slice_set sets head set) emptied ∙ set-twice old head [] set in
    let at : set_at new head ≡ set = ap (λ (sets : Sets). set_at sets head) is ∙ get_or-set_same old head set [] lt in
    let over_old : Adds {X = X} (declared cs) (rows_named cs (slice_set old head [])) (rules_at cs rules head) (set_at old head) set (Ok x) = subst (λ (sets : Sets). Adds {X = X} (declared cs) (rows_named cs sets) (rules_at cs rules head) (set_at old head) set (Ok x)) (same ∙ emptied) (subst (λ (first : List Row). Adds {X = X} (declared cs) (rows_named cs read) (rules_at cs rules head) first set (Ok x)) began adds) in
    (subst (λ (rows : List Row). Adds {X = X} (declared cs) (rows_named cs (slice_set old head [])) (rules_at cs rules head) (set_at old head) rows (Ok x)) (sym at) over_old, is ∙ ap (slice_set old head) (sym at))
