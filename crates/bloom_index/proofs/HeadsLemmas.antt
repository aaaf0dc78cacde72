-- What a rule gives to its head.
use Rattle.std.proofs.Common.{◌≡◌, ◌∙◌, ◌<◌, ◌≤◌, Bool, true, false, IsTrue, List, ◌++◌, length, Result, Ok, Err, OnOk, refl, ap, sym, subst, inl, inr, arith}
use Rattle.std.specs.Result.{IsErrAnd}
use Rattle.blz_value.specs.Members.{Has, IsWithin}
use Rattle.blz_value.specs.Record.{Row}
use Rattle.blz_value.specs.Sets.{set_of, IsRowSet}
use Rattle.blz_value.proofs.Membership.{Has-append_left, Has-append_right, Has-append_cases}
use Rattle.blz_value.proofs.OperatorsLemmas.{length-within}
use Rattle.blz_value.proofs.RowSets.{same_set_of, is_set_of}
use Rattle.blz_value.proofs.SetLaws.{sorted_set_of, Has-set_of, Has-from_set_of}
use Rattle.blz_set.specs.RecordSet.{row_limit}
use Rattle.blz_set.specs.declared.fault.SetFault.{SetFault}
use Rattle.blz_set.specs.declared.fault.SetFault.TheVariants.{TooManyRows, NoMemory}
use Rattle.blz_set.proofs.Unions.{handed_on}
use Rattle.bloom_forms.specs.declared.numbered.NumberedExpr.{NumberedExpr}
use Rattle.bloom_eval.specs.NumberedRows.{numbered_rows, numbered_sets}
use Rattle.bloom_eval.specs.StepAnswers.{AllFit}
use Rattle.bloom_parts.specs.declared.change.Change.{Change}
use Rattle.bloom_parts.specs.Turns.{HasTurned}
use Rattle.bloom_parts.proofs.Turning.{gets}
use Rattle.bloom_index.specs.declared.plan.Plan.{Plan}
use Rattle.bloom_growth.specs.Growth.{Extends, Takes}
use Rattle.bloom_growth.proofs.Extending.{sorted_new, old_is_in, fresh_is_in, old_or_fresh}
use Rattle.bloom_growth.proofs.TurnedLemmas.{held_or_not, came}
use Rattle.bloom_index.specs.Code.Evaluation.{Stands, IsReady, Evaluates}
use Rattle.bloom_index.specs.Code.Heads.{GrowsBy}

-- a change added to rows that have the old ones is the whole added
pub gets_all : (kept : Bool) (old new turned gone set rows : List Row) → HasTurned kept old new turned gone → (IsTrue kept → IsWithin old rows) → set ≡ turned → set_of (rows ++ set) ≡ set_of (rows ++ new)
gets_all kept old new turned gone set rows t within is =
    ap (λ (l : List Row). set_of (rows ++ l)) is
    ∙ same_set_of (rows ++ turned) (rows ++ new) (
      λ q h. elim (Has-append_cases q rows turned h) [ inl a ↦ Has-append_left q rows new a | inr b ↦ Has-append_right q rows new (turned_in kept t q b) ],
      λ q h. elim (Has-append_cases q rows new h) [
        | inl a ↦ Has-append_left q rows turned a
        | inr b ↦ elim (held_or_not rows q) [ inl held ↦ Has-append_left q rows turned held | inr lacks ↦ Has-append_right q rows turned (gets kept old new turned gone rows t within q b lacks) ]
      ],
    )
  where
    turned_in : (b : Bool) → HasTurned b old new turned gone → (q : Row) → Has q turned → Has q new
    turned_in true t q h = (came old new turned gone t.0 q h).0
    turned_in false t q h = subst (λ (l : List Row). Has q l) t h

-- what is new of what is new
pub extends_on : (start rows new first more both : List Row) → Extends start rows first → Extends rows new more → both ≡ set_of (first ++ more) → Extends start new both
extends_on start rows new first more both e f is = record {
  sorted = e.sorted;
  fresh_sorted = subst IsRowSet (sym is) (sorted_set_of (first ++ more));
  all = is_set_of new (start ++ both) (sorted_new rows new more f) (
    λ q h. elim (old_or_fresh rows new more f q h) [
      | inl r ↦ elim (old_or_fresh start rows first e q r) [
        | inl s ↦ Has-append_left q start both s
        | inr a ↦ Has-append_right q start both (subst (λ (l : List Row). Has q l) (sym is) (Has-set_of q (first ++ more) (Has-append_left q first more a)))
      ]
      | inr b ↦ Has-append_right q start both (subst (λ (l : List Row). Has q l) (sym is) (Has-set_of q (first ++ more) (Has-append_right q first more b)))
    ],
    λ q h. elim (Has-append_cases q start both h) [
      | inl s ↦ old_is_in rows new more f q (old_is_in start rows first e q s)
      | inr b ↦ elim (Has-append_cases q first more (Has-from_set_of q (first ++ more) (subst (λ (l : List Row). Has q l) is b))) [
        | inl a ↦ old_is_in rows new more f q (fresh_is_in start rows first e q a)
        | inr m ↦ fresh_is_in rows new more f q m
      ]
    ],
  );
  apart = λ q h s. elim (Has-append_cases q first more (Has-from_set_of q (first ++ more) (subst (λ (l : List Row). Has q l) is h))) [
    | inl a ↦ e.apart q a s
    | inr m ↦ f.apart q m (old_is_in start rows first e q s)
  ];
}

-- so there are no more of them than rows
few_on : (start rows new first more : List Row) → Extends start rows first → Extends rows new more → length (set_of (first ++ more)) ≤ length new
few_on start rows new first more e f = length-within (set_of (first ++ more)) new (sorted_set_of (first ++ more)) (λ q h. elim (Has-append_cases q first more (Has-from_set_of q (first ++ more) h)) [
  | inl a ↦ old_is_in rows new more f q (fresh_is_in start rows first e q a)
  | inr m ↦ fresh_is_in rows new more f q m
])

module _ (body : NumberedExpr) (m after : Plan) (held : List Change) (ready : IsReady body m held) (start rows new made : List Row) (r : Result (Unit {0}) SetFault) (fault : SetFault) (is : IsErrAnd r (λ d. d ≡ fault)) where
  -- a fault of the evaluation
  pub head_refused : (after1 : Plan) → Evaluates body m after1 held ready (Err fault) → GrowsBy body m after held ready start rows new made r
  head_refused after1 h = subst (GrowsBy body m after held ready start rows new made) (sym (handed_on (Unit {0}) r fault is)) (go fault h)
    where
      go : (d : SetFault) → Evaluates body m after1 held ready (Err d) → GrowsBy body m after held ready start rows new made (Err d)
      go TooManyRows over = record { rows = over.rows; stands = inr over.stands; over = over.over }
      go NoMemory h = tt

  -- a head that gets too many
  pub head_over : (set took : List Row) → set_of (rows ++ set) ≡ set_of (rows ++ numbered_rows ready.new body) → Takes rows set took (Err fault) → GrowsBy body m after held ready start rows new made r
  head_over set took whole h = subst (GrowsBy body m after held ready start rows new made) (sym (handed_on (Unit {0}) r fault is)) (go fault h)
    where
      go : (d : SetFault) → Takes rows set took (Err d) → GrowsBy body m after held ready start rows new made (Err d)
      go TooManyRows over = record { rows = set_of (rows ++ numbered_rows ready.new body); stands = inl refl; over = subst (λ (l : List Row). row_limit < length l) whole over }
      go NoMemory h = tt

-- the new rows of a head, which are never too many, are put to others
pub head_put : (body : NumberedExpr) (m after : Plan) (held : List Change) (ready : IsReady body m held) (start rows took first more all : List Row) (r : Result (Unit {0}) SetFault)
    → took ≡ set_of (rows ++ numbered_rows ready.new body) → length took ≤ row_limit → Stands ready.growing ready.lasting ready.new body after → AllFit (numbered_sets ready.new body) → Extends start rows first → Extends rows took more
    → OnOk r (all ≡ set_of (first ++ more)) → (r ≡ Err TooManyRows → row_limit < length (set_of (first ++ more))) → GrowsBy body m after held ready start rows took all r
head_put body m after held ready start rows took first more all (Ok x) is few stands fits e f put over =
    (is, stands, λ set h. elim h [ inl own ↦ subst (λ (l : List Row). length l ≤ row_limit) own few | inr n ↦ fits set n ], extends_on start rows took first more all e f put)
head_put body m after held ready start rows took first more all (Err TooManyRows) is few stands fits e f put over = absurd (omega (arith, over refl, few, few_on start rows took first more e f))
head_put body m after held ready start rows took first more all (Err NoMemory) is few stands fits e f put over = tt
