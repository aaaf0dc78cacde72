-- What comes and what goes of a notin of two parts that turn.
use Rattle.std.proofs.Common.{◌↔◌, IsTrue, OnOk, Result, Ok, get_or, take, ◌+◌, ◌≡◌, ◌<◌, ◌≤◌, ℕ, Bool, true, false, not, nat_eq, cond, List, [], ◌∷◌, ◌++◌, length, Err, refl, ap, ◌∙◌, sym, subst, inl, inr, arith}
use Rattle.std.proofs.lemmas.Bool.{cases_Bool, cases_lt, eqb-true, eq-eqb}
use Rattle.std.proofs.lemmas.List.{take_more}
use Rattle.std.specs.BTreeMap.{BTreeMap}
use Rattle.std.specs.List.{flat_map, list_any}
use Rattle.std.specs.Ordering.{eq_by_cmp}
use Rattle.blz_value.specs.Groups.{with_key}
use Rattle.blz_value.specs.Members.{Has}
use Rattle.blz_value.specs.Operators.{Pairs, agree, cells, notin_rows, project_rows}
use Rattle.blz_value.specs.Record.{Row, record_cmp}
use Rattle.blz_value.specs.Sets.{set_of}
use Rattle.blz_value.proofs.Membership.{Has-append_left, Has-append_right, Has-append_cases, Has-filter, Has-from_filter, Has-flat_map, Has-from_flat_map, Has-from_any}
use Rattle.blz_value.proofs.OperatorsLemmas.{from_notin, in_notin, from_project, in_project, length-within}
use Rattle.blz_value.proofs.RowSets.{same_set_of}
use Rattle.blz_value.proofs.SetLaws.{sorted_set_of, Has-set_of, Has-from_set_of}
use Rattle.blz_value.proofs.Lists.{same-self as own_key}
use Rattle.blz_set.specs.Answers.{Gives}
use Rattle.blz_set.specs.Missing.{missing_from}
use Rattle.blz_set.specs.Pairs.{lefts_of, rights_of}
use Rattle.blz_set.specs.RecordSet.{row_limit}
use Rattle.blz_set.specs.declared.fault.SetFault.{SetFault}
use Rattle.blz_set.specs.declared.fault.SetFault.TheVariants.{TooManyRows, NoMemory}
use Rattle.blz_set.proofs.Joins.{grown_once}
use Rattle.blz_set.proofs.Keys.{keys-push}
use Rattle.blz_set.proofs.Runs.{same_row}
use Rattle.bloom_growth.specs.ByKey.{rows_found, AreByKey}
use Rattle.bloom_growth.specs.Kept.{Kept}
use Rattle.bloom_growth.specs.NotInTurns.{NotInTurns}
use Rattle.bloom_growth.specs.Code.NotIns.{free_at, free_rows, freed_at, freed_rows}
use Rattle.bloom_growth.specs.Turned.{Turned, TurnsInto}
use Rattle.bloom_growth.proofs.Extending.{old_is_in, fresh_is_in, old_or_fresh}
use Rattle.bloom_growth.proofs.PartnersLemmas.{right_has}
use Rattle.bloom_growth.proofs.TurnJoins.{Between, between, back, not_before}
use Rattle.bloom_growth.proofs.TurnedLemmas.{is_missing}

empty_has : (rows : List Row) (q : Row) → length rows ≡ 0 → Has q rows → ⊥
empty_has [] q e h = h
empty_has (r ∷ rows) q e h = omega arith

none_has : (rows : List Row) → ((q : Row) → Has q rows → ⊥) → length rows ≡ 0
none_has [] none = refl
none_has (r ∷ rows) none = absurd (none r (inl refl))

flat_map_same : (f g : Row → List Row) (xs : List Row) → ((x : Row) → f x ≡ g x) → flat_map f xs ≡ flat_map g xs
flat_map_same f g [] same = refl
flat_map_same f g (x ∷ xs) same = ap (λ (l : List Row). l ++ flat_map f xs) (same x) ∙ ap (λ (l : List Row). g x ++ l) (flat_map_same f g xs same)

-- what stands at the keys is by the rows
pub free_is : (pairs : Pairs) (lefts rights some : List Row) (left right : BTreeMap Row (List Row)) → AreByKey (lefts_of pairs) lefts left → AreByKey (rights_of pairs) rights right → free_rows pairs left right some ≡ freed_rows pairs lefts rights some
free_is pairs lefts rights some left right own other =
    flat_map_same (free_at left right) (freed_at pairs lefts rights) (set_of (project_rows (rights_of pairs) some)) (λ key.
    ap (λ (l : List Row). cond (nat_eq (length l) 0) (rows_found left key) []) (other key) ∙ ap (λ (l : List Row). cond (nat_eq (length (with_key (rights_of pairs) key rights)) 0) l []) (own key)
    )

-- a left row at the key of some right row, with which no right row agrees
pub record IsFreed (pairs : Pairs) (lefts rights some : List Row) (row : Row) : Type 0 where
  pub stands : Has row lefts
  pub none : (right : Row) → Has right rights → agree pairs row right ≡ true → ⊥
  pub cause : Row
  pub changed : Has cause some
  pub agrees : agree pairs row cause ≡ true

module _ (pairs : Pairs) (lefts rights some : List Row) where
  has_key_of : (left right : Row) → agree pairs left right ≡ true → cells (rights_of pairs) right ≡ cells (lefts_of pairs) left
  has_key_of left right e = same_row (cells (rights_of pairs) right) (cells (lefts_of pairs) left) (sym (right_has pairs left right) ∙ e)

  agree_by_key : (left right : Row) → cells (rights_of pairs) right ≡ cells (lefts_of pairs) left → agree pairs left right ≡ true
  agree_by_key left right e = right_has pairs left right ∙ ap (λ (k : Row). eq_by_cmp record_cmp k (cells (lefts_of pairs) left)) e ∙ own_key (cells (lefts_of pairs) left)

  pub from_freed : (q : Row) → Has q (freed_rows pairs lefts rights some) → IsFreed pairs lefts rights some q
  from_freed q h =
      let keys = set_of (project_rows (rights_of pairs) some) in
      let m = Has-from_flat_map (freed_at pairs lefts rights) q keys h in
      let p = from_project (rights_of pairs) some m.0 m.1 in
      by_case m.0 p.source p.stands p.is (nat_eq (length (with_key (rights_of pairs) m.0 rights)) 0) refl m.2
    where
      by_case : (key source : Row) → Has source some → cells (rights_of pairs) source ≡ key → (b : Bool) → nat_eq (length (with_key (rights_of pairs) key rights)) 0 ≡ b → Has q (cond b (with_key (lefts_of pairs) key lefts) []) → IsFreed pairs lefts rights some q
      by_case key source stands is true none held =
          let n = Has-from_filter (λ (r : Row). eq_by_cmp record_cmp (cells (lefts_of pairs) r) key) q lefts held in
          let same : cells (lefts_of pairs) q ≡ key = same_row (cells (lefts_of pairs) q) key n.1 in
          record {
            stands = n.0;
            none = λ right among agrees.
                let at : eq_by_cmp record_cmp (cells (rights_of pairs) right) key ≡ true = subst (λ (k : Row). eq_by_cmp record_cmp k key ≡ true) (sym (has_key_of q right agrees ∙ same)) (own_key key) in
                empty_has (with_key (rights_of pairs) key rights) right (eqb-true (length (with_key (rights_of pairs) key rights)) 0 none) (Has-filter (λ (r : Row). eq_by_cmp record_cmp (cells (rights_of pairs) r) key) right rights among at);
            cause = source;
            changed = stands;
            agrees = agree_by_key q source (is ∙ sym same);
          }
      by_case key source stands is false none held = absurd held

  pub in_freed : (q : Row) → IsFreed pairs lefts rights some q → Has q (freed_rows pairs lefts rights some)
  in_freed q f =
      let key : Row = cells (rights_of pairs) f.cause in
      let same : key ≡ cells (lefts_of pairs) q = has_key_of q f.cause f.agrees in
      let keys = set_of (project_rows (rights_of pairs) some) in
      let stands : Has key keys = in_project (rights_of pairs) some key (record { source = f.cause; stands = f.changed; is = refl }) in
      let none : nat_eq (length (with_key (rights_of pairs) key rights)) 0 ≡ true = eq-eqb (length (with_key (rights_of pairs) key rights)) 0 (none_has (with_key (rights_of pairs) key rights) (λ right h.
      let n = Has-from_filter (λ (r : Row). eq_by_cmp record_cmp (cells (rights_of pairs) r) key) right rights h in
      f.none right n.0 (agree_by_key q right (same_row (cells (rights_of pairs) right) key n.1 ∙ same)))) in
      let at : eq_by_cmp record_cmp (cells (lefts_of pairs) q) key ≡ true = subst (λ (k : Row). eq_by_cmp record_cmp k key ≡ true) same (own_key key) in
      let held : Has q (with_key (lefts_of pairs) key lefts) = Has-filter (λ (r : Row). eq_by_cmp record_cmp (cells (lefts_of pairs) r) key) q lefts f.stands at in
      Has-flat_map (freed_at pairs lefts rights) key q keys stands (subst (λ (b : Bool). Has q (cond b (with_key (lefts_of pairs) key lefts) [])) (sym none) held)

-- the rows that come, as they are made
abbrev pub unmatched_rows : Pairs → (lk lm rn rg : List Row) → List Row
unmatched_rows pairs lk lm rn rg = freed_rows pairs lk rn rg ++ notin_rows pairs lm rn

module _ (pairs : Pairs) (lo ln lm lg lk ro rn rm rg rk : List Row) (l : Between lo ln lm lg lk) (r : Between ro rn rm rg rk) where
  unmatched_new : (q : Row) → Has q (unmatched_rows pairs lk lm rn rg) → Has q (set_of (notin_rows pairs ln rn)) × ¬ Has q (set_of (notin_rows pairs lo ro))
  unmatched_new q h = elim (Has-append_cases q (freed_rows pairs lk rn rg) (notin_rows pairs lm rn) h) [
    | inl a ↦
        let f = from_freed pairs lk rn rg q a in (
          in_notin pairs ln rn q (record { stands = old_is_in lk ln lm l.after q f.stands; none = f.none }),
          λ held.
              (from_notin pairs lo ro q held).none f.cause (fresh_is_in rk ro rg r.before f.cause f.changed) f.agrees,
        )
    | inr b ↦
        let n = from_notin pairs lm rn q (Has-set_of q (notin_rows pairs lm rn) b) in (
          in_notin pairs ln rn q (record { stands = fresh_is_in lk ln lm l.after q n.stands; none = n.none }),
          λ held.
              not_before lo ln lm lg lk l q n.stands (from_notin pairs lo ro q held).stands,
        )
  ]

  unmatched_all : (q : Row) → Has q (set_of (notin_rows pairs ln rn)) → ¬ Has q (set_of (notin_rows pairs lo ro)) → Has q (unmatched_rows pairs lk lm rn rg)
  unmatched_all q h lacks =
      let n = from_notin pairs ln rn q h in
      let first = freed_rows pairs lk rn rg in
      let rest = notin_rows pairs lm rn in
      elim (old_or_fresh lk ln lm l.after q n.stands) [
        | inr m ↦ Has-append_right q first rest (Has-from_set_of q rest (in_notin pairs lm rn q (record { stands = m; none = n.none })))
        | inl k ↦ Has-append_left q first rest (in_freed pairs lk rn rg q (freed q k n.none lacks))
      ]
    where
      freed : (q : Row) → Has q lk → ((right : Row) → Has right rn → agree pairs q right ≡ true → ⊥) → ¬ Has q (set_of (notin_rows pairs lo ro)) → IsFreed pairs lk rn rg q
      freed q k none lacks = elim (cases_Bool (list_any (agree pairs q) ro)) [
        | inl e ↦
            let m = Has-from_any (agree pairs q) ro e in
            elim (old_or_fresh rk ro rg r.before m.0 m.1) [
              | inl stayed ↦ absurd (none m.0 (old_is_in rk rn rm r.after m.0 stayed) m.2)
              | inr gone ↦ record { stands = k; none = none; cause = m.0; changed = gone; agrees = m.2 }
            ]
        | inr e ↦
            let alone : Has q (notin_rows pairs lo ro) = Has-filter (λ (row : Row). not (list_any (agree pairs row) ro)) q lo (old_is_in lk lo lg l.before q k) (ap not e) in
            absurd (lacks (Has-set_of q (notin_rows pairs lo ro) alone))
      ]

  -- what is made is what comes
  pub unmatched_is : set_of (unmatched_rows pairs lk lm rn rg) ≡ missing_from (set_of (notin_rows pairs lo ro)) (set_of (notin_rows pairs ln rn))
  unmatched_is =
      let made = unmatched_rows pairs lk lm rn rg in
      is_missing (set_of (notin_rows pairs lo ro)) (set_of (notin_rows pairs ln rn)) (set_of made) (sorted_set_of (notin_rows pairs ln rn)) (sorted_set_of made) (λ q h. unmatched_new q (Has-from_set_of q made h)) (λ q h lacks. Has-set_of q made (unmatched_all q h lacks))

  -- it is no more than what is there after
  pub few_unmatched : length (set_of (unmatched_rows pairs lk lm rn rg)) ≤ length (set_of (notin_rows pairs ln rn))
  few_unmatched =
      let made = unmatched_rows pairs lk lm rn rg in
      length-within (set_of made) (set_of (notin_rows pairs ln rn)) (sorted_set_of made) (λ q h. (unmatched_new q (Has-from_set_of q made h)).0)

-- a notin has no more rows than its left part
pub few_notin : (pairs : Pairs) (lefts rights : List Row) → length (set_of (notin_rows pairs lefts rights)) ≤ length lefts
few_notin pairs lefts rights = length-within (set_of (notin_rows pairs lefts rights)) lefts (sorted_set_of (notin_rows pairs lefts rights)) (λ q h. (from_notin pairs lefts rights q h).stands)

-- the same set in the other order
swapped : (xs ys : List Row) → set_of (xs ++ ys) ≡ set_of (ys ++ xs)
swapped xs ys = same_set_of (xs ++ ys) (ys ++ xs) (
  λ q h. elim (Has-append_cases q xs ys h) [ inl a ↦ Has-append_right q ys xs a | inr b ↦ Has-append_left q ys xs b ],
  λ q h. elim (Has-append_cases q ys xs h) [ inl b ↦ Has-append_right q xs ys b | inr a ↦ Has-append_left q xs ys a ],
)

module _ (pairs : Pairs) (lo ln lm lg ro rn rm rg : List Row) (left right : Kept) (t : NotInTurns pairs lo ln lm lg ro rn rm rg left right) where
  -- the rows without partner turned
  pub unmatched_turned : (more gone : List Row) → more ≡ set_of (freed_rows pairs (missing_from lg lo) rn rg ++ notin_rows pairs lm rn) → gone ≡ set_of (notin_rows pairs lg ro ++ freed_rows pairs (missing_from lg lo) ro rm)
      → Turned (set_of (notin_rows pairs lo ro)) (set_of (notin_rows pairs ln rn)) more gone
  unmatched_turned more gone more_is gone_is =
      let kept = missing_from lg lo in
      let others = missing_from rg ro in
      let l = between lo ln lm lg t.left_turns.turned in
      let r = between ro rn rm rg t.right_turns.turned in
      record {
        old_sorted = sorted_set_of (notin_rows pairs lo ro);
        new_sorted = sorted_set_of (notin_rows pairs ln rn);
        more_is = more_is ∙ unmatched_is pairs lo ln lm lg kept ro rn rm rg others l r;
        gone_is = gone_is ∙ swapped (notin_rows pairs lg ro) (freed_rows pairs kept ro rm) ∙ unmatched_is pairs ln lo lg lm kept rn ro rg rm others (back lo ln lm lg kept l) (back ro rn rm rg others r);
      }

  pub unmatched_few : length (set_of (notin_rows pairs ln rn)) ≤ row_limit
  unmatched_few = omega (arith, few_notin pairs ln rn, t.left_turns.few)

  -- there never were too many that go
  pub lost_fault : (fault : SetFault) → Gives (set_of (notin_rows pairs lg ro ++ freed_rows pairs (missing_from lg lo) ro rm)) (Err fault) → TurnsInto (set_of (notin_rows pairs lo ro)) (set_of (notin_rows pairs ln rn)) (Err fault)
  lost_fault TooManyRows over =
      let kept = missing_from lg lo in
      let others = missing_from rg ro in
      let l = between lo ln lm lg t.left_turns.turned in
      let r = between ro rn rm rg t.right_turns.turned in
      let few = few_unmatched pairs ln lo lg lm kept rn ro rg rm others (back lo ln lm lg kept l) (back ro rn rm rg others r) in
      absurd (omega (arith, over, ap (length {A = Row}) (swapped (notin_rows pairs lg ro) (freed_rows pairs kept ro rm)), few, few_notin pairs lo ro, t.few))
  lost_fault NoMemory h = tt

  pub gained_fault : (fault : SetFault) → Gives (set_of (freed_rows pairs (missing_from lg lo) rn rg ++ notin_rows pairs lm rn)) (Err fault) → TurnsInto (set_of (notin_rows pairs lo ro)) (set_of (notin_rows pairs ln rn)) (Err fault)
  gained_fault TooManyRows over =
      let few = few_unmatched pairs lo ln lm lg (missing_from lg lo) ro rn rm rg (missing_from rg ro) (between lo ln lm lg t.left_turns.turned) (between ro rn rm rg t.right_turns.turned) in
      omega (arith, over, few)
  gained_fault NoMemory h = tt

-- ---- the code

-- a test of whether there are some
pub none_there : (b : Bool) (n : ℕ) → IsTrue b ↔ (0 < n) → b ≡ false → n ≡ 0
none_there b n means off = elim (cases_lt 0 n) [
  | inl some ↦ let on : b ≡ true = means.1 some in absurd cc
  | inr few ↦ omega (arith, few)
]

pub some_there : (b : Bool) (n : ℕ) → IsTrue b ↔ (0 < n) → b ≡ true → n ≡ 0 → ⊥
some_there b n means on none = let some : 0 < n = means.0 on in omega arith

-- the key of one row more
pub key_more : (columns : List ℕ) (rows keys : List Row) (i : ℕ) (row key : Row) → i < length rows → row ≡ get_or rows i row → key ≡ cells columns row → keys ≡ set_of (project_rows columns (take i rows))
    → set_of (key ∷ keys) ≡ set_of (project_rows columns (take (i + 1) rows))
key_more columns rows keys i row key lt is same so_far =
    let more : project_rows columns (take (i + 1) rows) ≡ project_rows columns (take i rows) ++ cells columns row ∷ [] = ap (project_rows columns) (take_more rows i row lt ∙ ap (λ (r : Row). take i rows ++ r ∷ []) (sym is)) ∙ keys-push columns (take i rows) row in
    ap (λ (k : Row). set_of (k ∷ keys)) same ∙ grown_once [] (project_rows columns (take i rows)) (project_rows columns (take (i + 1) rows)) keys (cells columns row) so_far more

-- what holds whatever a call answers
pub always : (P : Type 0) (r : Result (List Row) SetFault) → P → OnOk r P
always P (Ok x) p = p
always P (Err e) p = tt
