-- Seals behind a list, one partition after the other.
use Rattle.std.proofs.Common.{◌≡◌, ◌<◌, ◌≤◌, ◌+◌, ◌||◌, ℕ, false, List, [], ◌∷◌, ◌++◌, length, map, filter, set, refl, ap, ◌∙◌, sym, subst, inl, inr, arith, append-nil, append_assoc, length-append}
use Rattle.std.specs.Cmp.{tied_itself}
use Rattle.std.specs.List.{All, list_any}
use Rattle.std.specs.List.Sorted.{IsStrictlySortedBy}
use Rattle.std.specs.declared.cmp.Ordering.TheVariants.{Less, Equal}
use Rattle.std.proofs.lemmas.Bool.{cases_Bool, cases_eq}
use Rattle.std.proofs.lemmas.List.{map-append, map-set, set-set, get_or-set_same, get_or-set_other}
use Rattle.std.proofs.lemmas.List.Elements.{All-from_recursion}
use Rattle.std.proofs.lemmas.List.Sums.{sum_by-set}
use Rattle.blz_value.specs.Members.{Has}
use Rattle.blz_value.specs.Operators.{cells}
use Rattle.blz_value.specs.Record.{Row as Record, record_cmp}
use Rattle.blz_value.specs.Message.{Message, row, seal, is_same_row, rows_in}
use Rattle.blz_value.specs.RecordOrder.{record_cmp_total}
use Rattle.blz_value.specs.Sets.{IsRowSet}
use Rattle.blz_value.proofs.Booleans.{neither}
use Rattle.blz_value.proofs.Membership.{All-of_member, Has-append_right, Has-from_any}
use Rattle.messages.specs.Emitted.{count_in, has_seal, Continues}
use Rattle.messages.specs.EmittedIds.{is_seal_of}
use Rattle.messages.specs.Ids.{message_with_id}
use Rattle.messages.specs.declared.message.Message.TheVariants.{Seal}
use Rattle.messages.proofs.EmittedLemmas.{continues_itself, continues_on, rows_in-append}
use Rattle.messages.specs.Lists.{message_limit, Listed, read_list, read_lists, list_at, total, IsExact, OneListBecomes}
use Rattle.messages.specs.EmittedCounts.{seals_of}
use Rattle.messages.proofs.ListSeals.{seal-at}
use Rattle.messages.proofs.MessagesLemmas.{is_same_row-is}
use Rattle.messages.proofs.ListsLemmas.{read-at, total-read, length-read_lists, same_count}

-- ---- one seal

module _ (old new : Listed) (place : ℕ) (key : Record) (count : ℕ) (within : place < length old.lists) (same : new.records ≡ old.records) (lists : new.lists ≡ set old.lists place (list_at old.lists place ++ Seal key count ∷ [])) where
  pub one_seal : OneListBecomes old new place (list_at (read_lists old) place ++ seal key count ∷ [])
  one_seal = record {
    records = subst (λ r. Continues old.records r) (sym same) (continues_itself old.records);
    lists =
        ap (λ r. map (read_list r) new.lists) same
        ∙ ap (map (read_list old.records)) lists
        ∙ map-set (read_list old.records) old.lists place (list_at old.lists place ++ Seal key count ∷ [])
        ∙ ap (set (read_lists old) place)
        (map-append (message_with_id old.records) (list_at old.lists place) (Seal key count ∷ [])
        ∙ ap (λ l. l ++ seal key count ∷ []) (read-at old.records old.lists place));
  }

  there : place < length (read_lists old)
  there = subst (λ n. place < n) (sym (length-read_lists old)) within

  pub one_longer : total new.lists ≡ total old.lists + 1
  one_longer =
      omega (arith, total-read old, total-read new, ap total one_seal.lists, sum_by-set length (read_lists old) place (list_at (read_lists old) place ++ seal key count ∷ []) [] there, length-append (list_at (read_lists old) place) (seal key count ∷ []))

  pub seal_exact : IsExact old → IsExact new
  seal_exact exact = record {
    emitted = λ q h.
        let e = exact.emitted q (subst (λ r. Has q r) same h) in (
          e.0,
          subst (λ n. e.0 < n) (sym (same_count old new place (list_at (read_lists old) place ++ seal key count ∷ []) one_seal)) e.1,
          subst (λ l. Has q (rows_in (list_at l e.0))) (sym one_seal.lists)
              (elim (cases_eq e.0 place) [
                | inl is ↦ subst (λ rows. Has q rows)
                    (sym (ap (λ n. rows_in (list_at (set (read_lists old) place (list_at (read_lists old) place ++ seal key count ∷ [])) n)) is
                    ∙ ap rows_in (get_or-set_same (read_lists old) place (list_at (read_lists old) place ++ seal key count ∷ []) [] there)
                    ∙ rows_in-append (list_at (read_lists old) place) (seal key count ∷ [])
                    ∙ append-nil (rows_in (list_at (read_lists old) place))
                    ∙ ap (λ n. rows_in (list_at (read_lists old) n)) (sym is)))
                    e.2
                | inr differ ↦ subst (λ l. Has q (rows_in l)) (sym (get_or-set_other (read_lists old) place e.0 (list_at (read_lists old) place ++ seal key count ∷ []) [] differ)) e.2
              ]),
        );
    few = omega (arith, ap length same, exact.few, one_longer);
  }

-- ---- partition after partition

-- the seals of some partitions stand behind a list, those of the rest are still to come, and there is room for them
pub record IsSealedBy (old now : Listed) (place : ℕ) (columns : List ℕ) (rest keys : List Record) : Type 0 where
  pub done : List Record
  pub all : done ++ rest ≡ keys
  pub becomes : OneListBecomes old now place (list_at (read_lists old) place ++ seals_of columns (list_at (read_lists old) place) done)
  pub exact : IsExact now
  pub within : place < length now.lists
  pub room : total now.lists + length rest ≤ message_limit

pub sealed_next : (old now new : Listed) (place : ℕ) (columns : List ℕ) (key : Record) (rest keys : List Record) (count : ℕ) → place < length old.lists → IsSealedBy old now place columns (key ∷ rest) keys
    → count ≡ count_in columns (list_at (read_lists old) place) key → new.records ≡ now.records → new.lists ≡ set now.lists place (list_at now.lists place ++ Seal key count ∷ [])
    → IsSealedBy old new place columns rest keys
sealed_next old now new place columns key rest keys count within s counted same lists =
    let list : List Message = list_at (read_lists old) place in
    let so_far : List Message = list ++ seals_of columns list s.done in
    let step = one_seal now new place key count s.within same lists in
    let seen : list_at (read_lists now) place ≡ so_far = ap (λ l. list_at l place) s.becomes.lists ∙ get_or-set_same (read_lists old) place so_far [] (subst (λ n. place < n) (sym (length-read_lists old)) within) in
    record {
      done = s.done ++ key ∷ [];
      all = append_assoc s.done (key ∷ []) rest ∙ s.all;
      becomes = record {
        records = continues_on old.records now.records new.records s.becomes.records step.records;
        lists =
            step.lists
            ∙ ap (λ l. set l place (list_at (read_lists now) place ++ seal key count ∷ [])) s.becomes.lists
            ∙ set-set (read_lists old) place so_far (list_at (read_lists now) place ++ seal key count ∷ [])
            ∙ ap (set (read_lists old) place)
            (ap (λ l. l ++ seal key count ∷ []) seen
            ∙ append_assoc list (seals_of columns list s.done) (seal key count ∷ [])
            ∙ ap (λ n. list ++ (seals_of columns list s.done ++ seal key n ∷ [])) counted
            ∙ ap (λ l. list ++ l) (sym (map-append (λ k. seal k (count_in columns list k)) s.done (key ∷ []))));
      };
      exact = seal_exact now new place key count s.within same lists s.exact;
      within = subst (λ n. place < n) (sym (same_count now new place _ step)) s.within;
      room = omega (arith, s.room, one_longer now new place key count s.within same lists);
    }

-- what is left of a set is none of what went before
apart : (done : List Record) (key other : Record) (rest : List Record) → IsRowSet (done ++ key ∷ rest) → Has other done → key ≡ other → ⊥
unfolding IsStrictlySortedBy
apart [] key other rest set never same = absurd never
apart (x ∷ done) key other rest set (inl e) same =
    let below : record_cmp x key ≡ Less = All-of_member (λ y. record_cmp x y ≡ Less) (done ++ key ∷ rest) key (All-from_recursion (λ y. record_cmp x y ≡ Less) (done ++ key ∷ rest) set.0) (Has-append_right key done (key ∷ rest) (inl refl)) in
    let is : x ≡ key = e ∙ sym same in
    let tied : record_cmp x key ≡ Equal = ap (record_cmp x) (sym is) ∙ tied_itself record_cmp_total x in
    let bad : Less ≡ Equal = sym below ∙ tied in
    cc
apart (x ∷ done) key other rest set (inr h) same = apart done key other rest set.1 h same

seals_only : (columns : List ℕ) (list : List Message) (done : List Record) (key : Record) → has_seal (seals_of columns list done) key ≡ list_any (is_same_row key) done
seals_only columns list [] key = refl
seals_only columns list (k ∷ done) key = ap (λ b. is_same_row key k || b) (seals_only columns list done key)

-- a list without a seal of a partition, and the seals of others behind it
none_behind : (before list : List Message) (columns : List ℕ) (done : List Record) (key : Record) → has_seal before key ≡ false → list_any (is_same_row key) done ≡ false → has_seal (before ++ seals_of columns list done) key ≡ false
none_behind [] list columns done key lacks none = seals_only columns list done key ∙ none
none_behind (row r ∷ before) list columns done key lacks none = none_behind before list columns done key lacks none
none_behind (seal k n ∷ before) list columns done key lacks none =
    let both = neither (is_same_row key k) (has_seal before key) lacks in
    rw both.0 (none_behind before list columns done key both.1 none)

-- where no partition had a seal, the next has none
pub unsealed_next : (old now : Listed) (place : ℕ) (columns : List ℕ) (key : Record) (rest keys : List Record) → place < length old.lists → IsSealedBy old now place columns (key ∷ rest) keys
    → All (λ k. has_seal (list_at (read_lists old) place) k ≡ false) keys → IsRowSet keys → list_any (is_seal_of key) (list_at now.lists place) ≡ false
unsealed_next old now place columns key rest keys within s unsealed set =
    let list : List Message = list_at (read_lists old) place in
    let so_far : List Message = list ++ seals_of columns list s.done in
    let seen : list_at (read_lists now) place ≡ so_far = ap (λ l. list_at l place) s.becomes.lists ∙ get_or-set_same (read_lists old) place so_far [] (subst (λ n. place < n) (sym (length-read_lists old)) within) in
    let own : has_seal list key ≡ false = All-of_member (λ k. has_seal list k ≡ false) keys key unsealed (subst (λ (l : List Record). Has key l) s.all (Has-append_right key s.done (key ∷ rest) (inl refl))) in
    let others : list_any (is_same_row key) s.done ≡ false = elim (cases_Bool (list_any (is_same_row key) s.done)) [
      | inl t ↦ absurd (
          let found = Has-from_any (is_same_row key) s.done t in
          apart s.done key found.0 rest (subst IsRowSet (sym s.all) set) found.1 (is_same_row-is key found.0 found.2))
      | inr f ↦ f
    ] in
    seal-at now place key ∙ ap (λ l. has_seal l key) seen ∙ none_behind list list columns s.done key own others

-- seals aren't counted
rows_of_seals : (count : Record → ℕ) (keys : List Record) → rows_in (map (λ key. seal key (count key)) keys) ≡ []
rows_of_seals count [] = refl
rows_of_seals count (key ∷ keys) = rows_of_seals count keys

pub count_stays : (old now : Listed) (place : ℕ) (columns : List ℕ) (key : Record) (rest keys : List Record) → place < length old.lists → IsSealedBy old now place columns rest keys
    → count_in columns (list_at (read_lists now) place) key ≡ count_in columns (list_at (read_lists old) place) key
count_stays old now place columns key rest keys within s =
    let list : List Message = list_at (read_lists old) place in
    let so_far : List Message = list ++ seals_of columns list s.done in
    let seen : list_at (read_lists now) place ≡ so_far = ap (λ l. list_at l place) s.becomes.lists ∙ get_or-set_same (read_lists old) place so_far [] (subst (λ n. place < n) (sym (length-read_lists old)) within) in
    ap (λ l. count_in columns l key) seen
    ∙ ap (λ rows. length (filter (λ r. is_same_row (cells columns r) key) rows))
    (rows_in-append list (seals_of columns list s.done)
    ∙ ap (λ rows. rows_in list ++ rows) (rows_of_seals (λ k. count_in columns list k) s.done)
    ∙ append-nil (rows_in list))
