-- Going through the rules of a head: what one rule adds, and what is kept of the rules so far.
use Rattle.std.proofs.Common.{◌≡◌, ◌≢◌, ◌<◌, ◌≤◌, ◌+◌, ℕ, zero, suc, Bool, ◌∷◌, ◌++◌, [], drop, get_or, List, length, Some, Result, Ok, Err, refl, ap, ◌∙◌, sym, subst, inl, inr, arith}
use Rattle.std.specs.Prelude.{slice_get, slice_set}
use Rattle.std.proofs.lemmas.Bool.{cases_eq}
use Rattle.std.proofs.lemmas.List.{length-set}
use Rattle.std.proofs.lemmas.Slice.Zip.{AllZip-long}
use Rattle.std.proofs.lemmas.Option.{slice_get_read, slice_get_past, same_Some}
use Rattle.blz_value.specs.Members.{Has}
use Rattle.blz_value.specs.Record.{Row}
use Rattle.blz_value.specs.Sets.{set_of, IsRowSet}
use Rattle.blz_value.proofs.Membership.{Has-get_or}
use Rattle.blz_set.specs.RecordSet.{row_limit}
use Rattle.blz_set.specs.declared.fault.SetFault.{SetFault}
use Rattle.blz_set.specs.declared.fault.SetFault.TheVariants.{TooManyRows, NoMemory}
use Rattle.bloom_forms.specs.declared.module.Collection.{Collection}
use Rattle.bloom_forms.specs.declared.numbered.NumberedExpr.{NumberedExpr, Base, Select', Project', Join', NotIn', Group', AtLeast'}
use Rattle.bloom_forms.specs.declared.numbered.NumberedRule.{NumberedRule}
use Rattle.bloom_forms.specs.Form.{RuleForm}
use Rattle.bloom_forms.specs.Lookup.{declared}
use Rattle.bloom_forms.specs.Columns.{columns_of}
use Rattle.bloom_forms.specs.Numbered.{IsNumbered, AreNumbered}
use Rattle.bloom_forms.specs.Query.{Name, Query}
use Rattle.bloom_forms.specs.Query.Query.{base, select, project, join, notin, group, at_least}
use Rattle.bloom_forms.specs.Widths.{AreWide}
use Rattle.bloom_forms.proofs.Ends.Wide.{wide_rows}
use Rattle.bloom_forms.specs.Step.{Sets, rows_named, rules_at}
use Rattle.bloom_eval.specs.Counted.{AddsRows, Adds}
use Rattle.bloom_eval.specs.NumberedRows.{numbered_rows, numbered_sets}
use Rattle.bloom_eval.specs.StepAnswers.{AllFit}
use Rattle.bloom_eval.proofs.ByNumbers.{same_rows, tests_fit}
use Rattle.bloom_eval.proofs.Rules.{adds_none, adds_one, first_refused, IsFormAt, form_at, own_rule, other_rule, none_from, adds_named}
use Rattle.bloom_eval.proofs.Widths.{wide_named}
use Rattle.bloom_parts.specs.declared.change.Change.{Change}
use Rattle.bloom_parts.specs.KeptParts.{IsWide}
use Rattle.bloom_index.specs.declared.plan.Plan.{Plan}
use Rattle.bloom_index.specs.Code.Evaluation.{IsReady, JoinsFit, Stands}
use Rattle.bloom_index.specs.Code.HeadRules.{AreReady, HaveHeads, CanTurn, AreTurned}
use Rattle.bloom_index.specs.Code.Heads.{GrowsBy}

-- ---- places

pub got_set : {X : Type 0} (xs : List X) (i : ℕ) (x : X) → i < length xs → slice_get (slice_set xs i x) i ≡ Some x
got_set [] i x lt = absurd (omega (arith, lt))
got_set (y ∷ xs) zero x lt = refl
got_set (y ∷ xs) (suc i) x lt = got_set xs i x (omega (arith, lt))

pub got_other : {X : Type 0} (xs : List X) (i k : ℕ) (x : X) → k ≢ i → slice_get (slice_set xs i x) k ≡ slice_get xs k
got_other [] i k x differ = refl
got_other (y ∷ xs) zero zero x differ = absurd (differ refl)
got_other (y ∷ xs) zero (suc k) x differ = refl
got_other (y ∷ xs) (suc i) zero x differ = refl
got_other (y ∷ xs) (suc i) (suc k) x differ = got_other xs i k x (λ e. differ (ap suc e))

-- an element that is read
pub kept_at : {X : Type 0} (first now : List X) (i : ℕ) (x : X) → ((k : ℕ) → i ≤ k → slice_get now k ≡ slice_get first k) → i < length now → x ≡ get_or now i x → slice_get first i ≡ Some x
kept_at first now i x later lt is = sym (later i (omega arith)) ∙ slice_get_read now (length now) i x refl lt is

-- the later elements stay where one is set
pub later_set : {X : Type 0} (first now after : List X) (i : ℕ) (x : X) → after ≡ slice_set now i x → ((k : ℕ) → i ≤ k → slice_get now k ≡ slice_get first k) → (k : ℕ) → i + 1 ≤ k → slice_get after k ≡ slice_get first k
later_set {X = X} first now after i x put later k le = ap (λ (l : List X). slice_get l k) put ∙ got_other now i k x (λ e. absurd (omega (arith, e, le))) ∙ later k (omega (arith, le))

pub later_same : {X : Type 0} (first now after : List X) (i : ℕ) → after ≡ now → ((k : ℕ) → i ≤ k → slice_get now k ≡ slice_get first k) → (k : ℕ) → i + 1 ≤ k → slice_get after k ≡ slice_get first k
later_same {X = X} first now after i put later k le = ap (λ (l : List X). slice_get l k) put ∙ later k (omega (arith, le))

-- ---- what one rule adds

module _ (X : Type 0) (cs : List Collection) (forms : List RuleForm) (rules : List NumberedRule) (numbered : AreNumbered cs forms rules) (sets : Sets) (head i : ℕ) (rule : NumberedRule) (lt : i < length rules) (is : rule ≡ get_or rules i rule) where
  at : IsFormAt cs forms i rule
  at = form_at cs forms rules i rule numbered lt is

  here : rule.head ≡ head → rules_at cs (drop i forms) head ≡ at.form ∷ rules_at cs (drop (i + 1) forms) head
  here same = ap (λ (left : List RuleForm). rules_at cs left head) at.from ∙ own_rule cs at.form (drop (i + 1) forms) rule head at.is same

  -- a rule of the head adds its rows, and the later ones the rest
  pub own_adds : rule.head ≡ head → (old mid new : List Row) (r : Result X SetFault) → mid ≡ set_of (old ++ numbered_rows sets rule.body) → AllFit (numbered_sets sets rule.body)
      → Adds {X = X} (declared cs) (rows_named cs sets) (rules_at cs (drop (i + 1) forms) head) mid new r → Adds {X = X} (declared cs) (rows_named cs sets) (rules_at cs (drop i forms) head) old new r
  own_adds same old mid new r made fit adds =
      let rest = rules_at cs (drop (i + 1) forms) head in
      let added = adds_named (Unit {0}) cs sets at.form rule old mid (Ok (tt {0})) at.is (made, fit) in
      subst (λ (own : List RuleForm). Adds {X = X} (declared cs) (rows_named cs sets) own old new r) (sym (here same))
      (adds_one (declared cs) (rows_named cs sets) at.form rest old new r added.1 (subst (λ (s : List Row). Adds {X = X} (declared cs) (rows_named cs sets) rest s new r) added.0 adds))

  -- a rule of another head adds nothing
  pub other_adds : rule.head ≢ head → (old new : List Row) (r : Result X SetFault)
      → Adds {X = X} (declared cs) (rows_named cs sets) (rules_at cs (drop (i + 1) forms) head) old new r → Adds {X = X} (declared cs) (rows_named cs sets) (rules_at cs (drop i forms) head) old new r
  other_adds differ old new r adds =
      subst (λ (own : List RuleForm). Adds {X = X} (declared cs) (rows_named cs sets) own old new r) (sym (ap (λ (left : List RuleForm). rules_at cs left head) at.from ∙ other_rule cs at.form (drop (i + 1) forms) rule head at.is differ)) adds

  -- a rule of the head is refused
  pub own_fault : rule.head ≡ head → (old mid new : List Row) (fault : SetFault) → AddsRows {X = X} (numbered_rows sets rule.body) (numbered_sets sets rule.body) old mid (Err fault)
      → Adds {X = X} (declared cs) (rows_named cs sets) (rules_at cs (drop i forms) head) old new (Err fault)
  own_fault same old mid new fault h =
      subst (λ (own : List RuleForm). Adds {X = X} (declared cs) (rows_named cs sets) own old new (Err fault)) (sym (here same))
      (first_refused (declared cs) (rows_named cs sets) X at.form (rules_at cs (drop (i + 1) forms) head) old mid new fault (adds_named X cs sets at.form rule old mid (Err fault) at.is h))

-- past the last rule nothing is added
pub none_adds : (X : Type 0) (cs : List Collection) (forms : List RuleForm) (rules : List NumberedRule) → AreNumbered cs forms rules → (sets : Sets) (head i : ℕ) → length rules ≤ i → (set : List Row) → IsRowSet set → length set ≤ row_limit → (x : X)
    → Adds {X = X} (declared cs) (rows_named cs sets) (rules_at cs (drop i forms) head) set set (Ok x)
none_adds X cs forms rules numbered sets head i le set sorted few x =
    subst (λ (own : List RuleForm). Adds {X = X} (declared cs) (rows_named cs sets) own set set (Ok x)) (sym (ap (λ (left : List RuleForm). rules_at cs left head) (none_from cs forms rules i numbered le)))
    (adds_none (declared cs) (rows_named cs sets) set sorted few x)

-- ---- a rule of a head that is ready

-- the parts of joins and projects have rows of one width, over sets of their widths
module _ (cs : List Collection) (old new : Sets) (wide_old : (name : Name) → AreWide (length (declared cs name)) (rows_named cs old name)) (wide_new : (name : Name) → AreWide (length (declared cs name)) (rows_named cs new name)) where
  part_wide : (q : Query) (e : NumberedExpr) → IsNumbered cs q e → IsWide (numbered_rows old e) (numbered_rows new e)
  part_wide q e is = record {
    width = length (columns_of (declared cs) q);
    wide = (
      subst (AreWide (length (columns_of (declared cs) q))) (sym (same_rows cs old q e is)) (wide_rows (declared cs) (rows_named cs old) wide_old q),
      subst (AreWide (length (columns_of (declared cs) q))) (sym (same_rows cs new q e is)) (wide_rows (declared cs) (rows_named cs new) wide_new q),
    );
  }

  pub joins_fit : (q : Query) (e : NumberedExpr) → IsNumbered cs q e → JoinsFit old new e
  joins_fit (base name) (Base number) is = tt
  joins_fit (select q f) (Select' p e test) is = joins_fit q e is.0
  joins_fit (project q items) (Project' p e columns) is = (joins_fit q e is.0, part_wide q e is.0)
  joins_fit (join a b pairs) (Join' p left r right numbers) is = (joins_fit a left is.0, joins_fit b right is.1, part_wide a left is.0, part_wide b right is.1)
  joins_fit (notin a b pairs) (NotIn' p left r right numbers) is = (joins_fit a left is.0, joins_fit b right is.1)
  joins_fit (group q keys agg name) (Group' p e numbers by) is = joins_fit q e is.0
  joins_fit (at_least q keys bound) (AtLeast' p e numbers count) is = joins_fit q e is.0
  joins_fit q e is = absurd is

-- a rule at a place whose head is known
pub record RuleAt (rules : List NumberedRule) (i head : ℕ) : Type 0 where
  pub rule : NumberedRule
  pub within : i < length rules
  pub is : rule ≡ get_or rules i rule
  pub head_is : rule.head ≡ head

-- at each place stands a rule with the head of the one that is read there
pub rule_at : (rules read : List NumberedRule) → HaveHeads rules read → (i : ℕ) (other : NumberedRule) → i < length read → other ≡ get_or read i other → RuleAt rules i other.head
rule_at [] [] heads i other lt is = absurd (omega (arith, lt))
rule_at [] (r ∷ read) heads i other lt is = absurd heads
rule_at (rule ∷ rules) [] heads i other lt is = absurd heads
rule_at (rule ∷ rules) (r ∷ read) heads zero other lt is = record { rule = rule; within = omega arith; is = refl; head_is = heads.0 ∙ sym (ap (λ (x : NumberedRule). x.head) is) }
rule_at (rule ∷ rules) (r ∷ read) heads (suc i) other lt is =
    let there = rule_at rules read heads.1 i other (omega (arith, lt)) is in
    record { rule = there.rule; within = omega (arith, there.within); is = there.is; head_is = there.head_is }

-- there is a plan for each rule that is read
pub can_many : (read : List NumberedRule) (head : ℕ) (plans : List Plan) (held : List Change) (can : CanTurn read head plans held) → length plans ≡ length read
can_many read head plans held can = can.ready.many ∙ sym (AllZip-long (λ (rule other : NumberedRule). rule.head ≡ other.head) can.rules read can.heads)

-- past the last that is read there is no rule
pub can_ended : (read : List NumberedRule) (head : ℕ) (plans : List Plan) (held : List Change) (can : CanTurn read head plans held) (i : ℕ) → length read ≤ i → length can.rules ≤ i
can_ended read head plans held can i le = omega (arith, le, AllZip-long (λ (rule other : NumberedRule). rule.head ≡ other.head) can.rules read can.heads)

abbrev pub ready_at : (rules : List NumberedRule) (head : ℕ) (plans : List Plan) (held : List Change) (ready : AreReady rules head plans held) (i : ℕ) (rule : NumberedRule) (plan : Plan) → i < length rules → rule ≡ get_or rules i rule → slice_get plans i ≡ Some plan → rule.head ≡ head → IsReady rule.body plan held
ready_at rules head plans held ready i rule plan lt is kept same = record {
  growing = ready.growing;
  lasting = ready.lasting;
  old = ready.old;
  new = ready.new;
  turned = ready.turned;
  grown = ready.grown;
  stands = ready.stands i rule plan (slice_get_read rules (length rules) i rule refl lt is) kept same;
  enough = ready.enough rule (subst (λ (r : NumberedRule). Has r rules) (sym is) (Has-get_or rules i rule lt));
  fit_old = tests_fit ready.a.form.collections ready.old (wide_named ready.a.form.collections ready.old ready.wide_old) (form_at ready.a.form.collections ready.a.form.rules rules i rule ready.numbered lt is).form.1 rule.body (form_at ready.a.form.collections ready.a.form.rules rules i rule ready.numbered lt is).is.body;
  fit = tests_fit ready.a.form.collections ready.new (wide_named ready.a.form.collections ready.new ready.wide) (form_at ready.a.form.collections ready.a.form.rules rules i rule ready.numbered lt is).form.1 rule.body (form_at ready.a.form.collections ready.a.form.rules rules i rule ready.numbered lt is).is.body;
  wide = joins_fit ready.a.form.collections ready.old ready.new (wide_named ready.a.form.collections ready.old ready.wide_old) (wide_named ready.a.form.collections ready.new ready.wide) (form_at ready.a.form.collections ready.a.form.rules rules i rule ready.numbered lt is).form.1 rule.body (form_at ready.a.form.collections ready.a.form.rules rules i rule ready.numbered lt is).is.body;
}

-- ---- what is kept of the rules so far

module _ (growing lasting : List Bool) (new : Sets) (rules : List NumberedRule) (head : ℕ) where
  pub none_turned : (was : List Plan) → AreTurned growing lasting new rules head 0 was was
  none_turned was = record {
    many = refl;
    own = λ k rule plan lt. absurd (omega (arith, lt));
    other = λ k rule lt. absurd (omega (arith, lt));
    later = λ k le. refl;
  }

  pub own_turned : (i : ℕ) (rule : NumberedRule) (was now after : List Plan) (plan : Plan) → i < length now → slice_get rules i ≡ Some rule → rule.head ≡ head → after ≡ slice_set now i plan → Stands growing lasting new rule.body plan
      → AreTurned growing lasting new rules head i was now → AreTurned growing lasting new rules head (i + 1) was after
  own_turned i rule was now after plan lt here same put stands t = record {
    many = ap length put ∙ length-set now i plan ∙ t.many;
    own = λ k r m below at kept own. elim (cases_eq k i) [
      | inl e ↦
          let rule_is : r ≡ rule = same_Some r rule (sym at ∙ ap (slice_get rules) e ∙ here) in
          let plan_is : m ≡ plan = same_Some m plan (sym kept ∙ ap (λ (l : List Plan). slice_get l k) put ∙ ap (slice_get (slice_set now i plan)) e ∙ got_set now i plan lt) in
          subst (λ (z : NumberedRule). Stands growing lasting new z.body m) (sym rule_is) (subst (Stands growing lasting new rule.body) (sym plan_is) stands)
      | inr differ ↦ t.own k r m (omega (arith, below, differ)) at (sym (got_other now i k plan differ) ∙ sym (ap (λ (l : List Plan). slice_get l k) put) ∙ kept) own
    ];
    other = λ k r below at apart. elim (cases_eq k i) [
      | inl e ↦
          let rule_is : r ≡ rule = same_Some r rule (sym at ∙ ap (slice_get rules) e ∙ here) in
          absurd (apart (ap (λ (z : NumberedRule). z.head) rule_is ∙ same))
      | inr differ ↦ ap (λ (l : List Plan). slice_get l k) put ∙ got_other now i k plan differ ∙ t.other k r (omega (arith, below, differ)) at apart
    ];
    later = λ k le. ap (λ (l : List Plan). slice_get l k) put ∙ got_other now i k plan (λ e. absurd (omega (arith, e, le))) ∙ t.later k (omega (arith, le));
  }

  pub other_turned : (i : ℕ) (rule : NumberedRule) (was now after : List Plan) → slice_get rules i ≡ Some rule → rule.head ≢ head → after ≡ now → AreTurned growing lasting new rules head i was now → AreTurned growing lasting new rules head (i + 1) was after
  other_turned i rule was now after here apart put t = subst (AreTurned growing lasting new rules head (i + 1) was) (sym put) (record {
    many = t.many;
    own = λ k r m below at kept own. elim (cases_eq k i) [
      | inl e ↦
          let rule_is : r ≡ rule = same_Some r rule (sym at ∙ ap (slice_get rules) e ∙ here) in
          absurd (apart (sym (ap (λ (z : NumberedRule). z.head) rule_is) ∙ own))
      | inr differ ↦ t.own k r m (omega (arith, below, differ)) at kept own
    ];
    other = λ k r below at differs. elim (cases_eq k i) [
      | inl e ↦ t.later k (omega (arith, e))
      | inr differ ↦ t.other k r (omega (arith, below, differ)) at differs
    ];
    later = λ k le. t.later k (omega (arith, le));
  })

  -- at the end nothing later is left
  pub all_turned : (i : ℕ) (was now : List Plan) → length was ≡ length rules → length rules ≤ i → AreTurned growing lasting new rules head i was now → AreTurned growing lasting new rules head (length rules) was now
  all_turned i was now many le t = record {
    many = t.many;
    own = λ k r m below at kept own. t.own k r m (omega (arith, below, le)) at kept own;
    other = λ k r below at differs. t.other k r (omega (arith, below, le)) at differs;
    later = λ k past. slice_get_past now k (omega (arith, past, t.many, many)) ∙ sym (slice_get_past was k (omega (arith, past, many)));
  }

-- ---- what a rule answers

pub grown_fault : (X : Type 0) (body : NumberedExpr) (m after : Plan) (held : List Change) (ready : IsReady body m held) (start rows new made : List Row) (fault : SetFault) → GrowsBy body m after held ready start rows new made (Err fault) → AddsRows {X = X} (numbered_rows ready.new body) (numbered_sets ready.new body) rows new (Err fault)
grown_fault X body m after held ready start rows new made TooManyRows h = h
grown_fault X body m after held ready start rows new made NoMemory h = tt
