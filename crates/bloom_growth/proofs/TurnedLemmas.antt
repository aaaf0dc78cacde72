-- A turn is a growth read backwards, and then a growth.
use Rattle.std.proofs.Common.{◌≡◌, ◌⊎◌, ◌∙◌, true, false, not, List, [], ◌∷◌, ◌++◌, Ok, Err, refl, ap, sym, subst, inl, inr, arith}
use Rattle.std.proofs.lemmas.Bool.{cases_Bool}
use Rattle.std.specs.Ordering.{eq_by_cmp}
use Rattle.blz_value.proofs.Lists.{same-self as own_key}
use Rattle.blz_set.proofs.Runs.{same_row}
use Rattle.blz_value.specs.Members.{Has}
use Rattle.blz_value.specs.Record.{Row, record_cmp}
use Rattle.blz_value.specs.Sets.{set_of, IsRowSet}
use Rattle.blz_value.proofs.Membership.{Has-append_left, Has-append_right, Has-append_cases, Has-filter, Has-from_filter}
use Rattle.blz_value.proofs.RowSets.{is_set_of}
use Rattle.blz_value.proofs.SetLaws.{same_row_sets, sorted_set_of}
use Rattle.blz_set.specs.Answers.{Gives}
use Rattle.blz_set.specs.Missing.{has_row, missing_from}
use Rattle.blz_set.specs.RecordSet.{IsRecordSet}
use Rattle.blz_set.specs.declared.fault.SetFault.{SetFault}
use Rattle.blz_set.specs.declared.fault.SetFault.TheVariants.{TooManyRows, NoMemory}
use Rattle.blz_set.proofs.RecordSets.{has_row-from_Has, has_row-from_lacks, Has-from_has_row, length-filter-le}
use Rattle.bloom_growth.specs.Growth.{Extends}
use Rattle.bloom_growth.specs.Turned.{Turned, TurnsInto}
use Rattle.bloom_growth.proofs.Extending.{sorted_new, old_is_in, fresh_is_in, old_or_fresh}
use Rattle.blz_value.proofs.OperatorsLemmas.{not_any}
use Rattle.bloom_growth.proofs.GrowSets.{missing_sorted}

-- ---- the rows of a list that another lacks

pub in_missing : (rows others : List Row) (q : Row) → Has q others → ¬ Has q rows → Has q (missing_from rows others)
in_missing rows others q h lacks = Has-filter (λ (r : Row). not (has_row rows r)) q others h (ap not (has_row-from_lacks rows q lacks))

pub from_missing : (rows others : List Row) (q : Row) → Has q (missing_from rows others) → Has q others × ¬ Has q rows
from_missing rows others q h =
    let m = Has-from_filter (λ (r : Row). not (has_row rows r)) q others h in
    (m.0, λ held. not_any (has_row rows q) m.1 (has_row-from_Has rows q held))

-- a row is there or not
pub held_or_not : (rows : List Row) (q : Row) → Has q rows ⊎ (¬ Has q rows)
held_or_not rows q = elim (cases_Bool (has_row rows q)) [
  | inl e ↦ inl (Has-from_has_row rows q e)
  | inr e ↦ inr (λ held. let is : has_row rows q ≡ true = has_row-from_Has rows q held in cc)
]

-- a set is the rows that another lacks, if it has just these
pub is_missing : (rows others some : List Row) → IsRowSet others → IsRowSet some → ((q : Row) → Has q some → Has q others × ¬ Has q rows) → ((q : Row) → Has q others → ¬ Has q rows → Has q some) → some ≡ missing_from rows others
is_missing rows others some sorted own only all =
    same_row_sets some (missing_from rows others) own (missing_sorted rows others sorted) (
      λ q h. let m = only q h in in_missing rows others q m.0 m.1,
      λ q h. let m = from_missing rows others q h in all q m.0 m.1,
    )

-- ---- a turn

module _ (old new more gone : List Row) (t : Turned old new more gone) where
  pub came : (q : Row) → Has q more → Has q new × ¬ Has q old
  came q h = from_missing old new q (subst (λ (l : List Row). Has q l) t.more_is h)

  pub comes : (q : Row) → Has q new → ¬ Has q old → Has q more
  comes q h lacks = subst (λ (l : List Row). Has q l) (sym t.more_is) (in_missing old new q h lacks)

  pub went : (q : Row) → Has q gone → Has q old × ¬ Has q new
  went q h = from_missing new old q (subst (λ (l : List Row). Has q l) t.gone_is h)

  pub goes : (q : Row) → Has q old → ¬ Has q new → Has q gone
  goes q h lacks = subst (λ (l : List Row). Has q l) (sym t.gone_is) (in_missing new old q h lacks)

  pub more_sorted : IsRowSet more
  more_sorted = subst IsRowSet (sym t.more_is) (missing_sorted old new t.new_sorted)

  pub gone_sorted : IsRowSet gone
  gone_sorted = subst IsRowSet (sym t.gone_is) (missing_sorted new old t.old_sorted)

  mid : List Row
  mid = missing_from gone old

  -- what stays is in both
  stays_new : (q : Row) → Has q (missing_from gone old) → Has q new
  stays_new q h =
      let m = from_missing gone old q h in
      elim (held_or_not new q) [ inl held ↦ held | inr lacks ↦ absurd (m.1 (goes q m.0 lacks)) ]

  -- the rows before are those that stay and those that go, and the rows after those that stay and those that come
  pub stays : Extends (missing_from gone old) old gone × Extends (missing_from gone old) new more × ((row : Row) → Has row more → Has row gone → ⊥)
  stays =
      let kept = missing_from gone old in
      let kept_sorted : IsRowSet kept = missing_sorted gone old t.old_sorted in (
        record {
          sorted = kept_sorted;
          fresh_sorted = gone_sorted;
          all = is_set_of old (kept ++ gone) t.old_sorted (
            λ q h. elim (held_or_not gone q) [
              | inl g ↦ Has-append_right q kept gone g
              | inr n ↦ Has-append_left q kept gone (in_missing gone old q h n)
            ],
            λ q h. elim (Has-append_cases q kept gone h) [
              | inl k ↦ (from_missing gone old q k).0
              | inr g ↦ (went q g).0
            ],
          );
          apart = λ q g k. (from_missing gone old q k).1 g;
        },
        record {
          sorted = kept_sorted;
          fresh_sorted = more_sorted;
          all = is_set_of new (kept ++ more) t.new_sorted (
            λ q h. elim (held_or_not old q) [
              | inl o ↦ Has-append_left q kept more (in_missing gone old q o (λ g. (went q g).1 h))
              | inr n ↦ Has-append_right q kept more (comes q h n)
            ],
            λ q h. elim (Has-append_cases q kept more h) [
              | inl k ↦ stays_new q k
              | inr m ↦ (came q m).0
            ],
          );
          apart = λ q m k. (came q m).1 (from_missing gone old q k).0;
        },
        λ q m g. (came q m).1 (went q g).0,
      )

-- and back: two growths of one set, where no row of the one is of the other, are a turn
pub turned_by : (old new more gone mid : List Row) → Extends mid old gone → Extends mid new more → ((row : Row) → Has row more → Has row gone → ⊥) → Turned old new more gone
turned_by old new more gone mid before after apart = record {
  old_sorted = sorted_new mid old gone before;
  new_sorted = sorted_new mid new more after;
  more_is = is_missing old new more (sorted_new mid new more after) after.fresh_sorted
      (λ q h. (fresh_is_in mid new more after q h, λ held. elim (old_or_fresh mid old gone before q held) [ inl k ↦ after.apart q h k | inr g ↦ apart q h g ]))
      (λ q h lacks. elim (old_or_fresh mid new more after q h) [ inl k ↦ absurd (lacks (old_is_in mid old gone before q k)) | inr m ↦ m ]);
  gone_is = is_missing new old gone (sorted_new mid old gone before) before.fresh_sorted
      (λ q h. (fresh_is_in mid old gone before q h, λ held. elim (old_or_fresh mid new more after q held) [ inl k ↦ before.apart q h k | inr m ↦ apart q m h ]))
      (λ q h lacks. elim (old_or_fresh mid old gone before q h) [ inl k ↦ absurd (lacks (old_is_in mid new more after q k)) | inr g ↦ g ]);
}

-- rows of a set are never too many
pub turn_fault : (old new rows others : List Row) (fault : SetFault) → IsRecordSet others → Gives (missing_from rows others) (Err fault) → TurnsInto old new (Err fault)
turn_fault old new rows others TooManyRows set over = absurd (omega (arith, over, length-filter-le (λ (r : Row). not (has_row rows r)) others, set.small))
turn_fault old new rows others NoMemory set h = tt

-- ---- one row becomes another

none_sorted : IsRowSet []
none_sorted = sorted_set_of []

one_sorted : (row : Row) → IsRowSet (row ∷ [])
one_sorted row = sorted_set_of (row ∷ [])

-- a row lacks any other
one_lacks : (row other : Row) → eq_by_cmp record_cmp row other ≡ false → ¬ (row ≡ other)
one_lacks row other e same = let tied : eq_by_cmp record_cmp row other ≡ true = subst (λ (r : Row). eq_by_cmp record_cmp row r ≡ true) same (own_key row) in cc

-- the row of a set that lacks another is missing from that one
one_missing : (row other : Row) → ¬ (row ≡ other) → row ∷ [] ≡ missing_from (other ∷ []) (row ∷ [])
one_missing row other different = is_missing (other ∷ []) (row ∷ []) (row ∷ []) (one_sorted row) (one_sorted row)
    (λ q h. (h, λ m. elim m [ inl e ↦ (elim h [ inl s ↦ different (s ∙ sym e) | inr none ↦ none ]) | inr none ↦ none ]))
    (λ q h lacks. h)

pub exchanged : (old new : Row) (more gone : List Row) → eq_by_cmp record_cmp old new ≡ false → more ≡ new ∷ [] → gone ≡ old ∷ [] → TurnsInto (old ∷ []) (new ∷ []) (Ok (record { more = more; gone = gone }))
exchanged old new more gone e m g = (
  record {
    old_sorted = one_sorted old;
    new_sorted = one_sorted new;
    more_is = m ∙ one_missing new old (λ s. one_lacks old new e (sym s));
    gone_is = g ∙ one_missing old new (one_lacks old new e);
  },
  omega arith,
)

-- a row that stays
pub unexchanged : (old new : Row) (more gone : List Row) → eq_by_cmp record_cmp old new ≡ true → more ≡ [] → gone ≡ [] → TurnsInto (old ∷ []) (new ∷ []) (Ok (record { more = more; gone = gone }))
unexchanged old new more gone e m g = (
  record {
    old_sorted = one_sorted old;
    new_sorted = one_sorted new;
    more_is = m ∙ none_missing old new (same_row old new e);
    gone_is = g ∙ none_missing new old (sym (same_row old new e));
  },
  omega arith,
)
  where
    none_missing : (row other : Row) → row ≡ other → [] ≡ missing_from (row ∷ []) (other ∷ [])
    none_missing row other same = is_missing (row ∷ []) (other ∷ []) [] (one_sorted other) none_sorted
        (λ q h. absurd h)
        (λ q h lacks. elim h [ inl e ↦ absurd (lacks (inl (same ∙ e))) | inr none ↦ absurd none ])

-- ---- a turn of one row

module _ (old new : List Row) (row : Row) (t : Turned old new (row ∷ []) []) where
  pub only_lacks : ¬ Has row old
  only_lacks = (came old new (row ∷ []) [] t row (inl refl)).1

  pub only_all : new ≡ set_of (row ∷ old)
  only_all = is_set_of new (row ∷ old) t.new_sorted (
    λ q h. elim (held_or_not old q) [
      | inl held ↦ inr held
      | inr lacks ↦ elim (comes old new (row ∷ []) [] t q h lacks) [ inl e ↦ inl e | inr none ↦ absurd none ]
    ],
    λ q h. elim h [
      | inl e ↦ subst (λ (r : Row). Has r new) e (came old new (row ∷ []) [] t row (inl refl)).0
      | inr held ↦ elim (held_or_not new q) [ inl m ↦ m | inr lacks ↦ absurd (goes old new (row ∷ []) [] t q held lacks) ]
    ],
  )
