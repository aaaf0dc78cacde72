-- Emission one by one: a record or a seal more.
use Rattle.std.proofs.Common.{◌≡◌, ◌<◌, ◌+◌, ℕ, List, [], ◌∷◌, ◌++◌, length, take, drop, set, get_or, ap, ◌∙◌, sym, subst, arith}
use Rattle.std.specs.List.{fold}
use Rattle.std.proofs.lemmas.List.{take_more, set-get_or, set-set, get_or-set_same, take-append-drop}
use Rattle.std.proofs.lemmas.List.Sums.{fold-append}
use Rattle.blz_value.specs.Message.{Message}
use Rattle.messages.specs.Emitted.{Continues}
use Rattle.messages.proofs.EmittedLemmas.{continues_itself, continues_on}
use Rattle.messages.specs.Lists.{message_limit, Listed, read_lists, list_at, total, OneListBecomes}
use Rattle.messages.proofs.ListsLemmas.{total-longer}

pub becomes_itself : (l : Listed) (place : ℕ) → OneListBecomes l l place (list_at (read_lists l) place)
becomes_itself l place = record { records = continues_itself l.records; lists = sym (set-get_or (read_lists l) place []) }

-- one element more of those that change a list
module _ {A : Type 0} (change : List Message → A → List Message) (xs : List A) (index : ℕ) (x : A) (within : index < length xs) (at : x ≡ get_or xs index x) where
  one_more : (list : List Message) → fold change list (take (index + 1) xs) ≡ change (fold change list (take index xs)) x
  one_more list =
      ap (fold change list) (take_more xs index x within ∙ ap (λ y. take index xs ++ y ∷ []) (sym at))
      ∙ fold-append change list (take index xs) (x ∷ [])

  pub becomes_more : (first mid last : Listed) (place : ℕ) → place < length (read_lists first)
      → OneListBecomes first mid place (fold change (list_at (read_lists first) place) (take index xs))
      → OneListBecomes mid last place (change (list_at (read_lists mid) place) x)
      → OneListBecomes first last place (fold change (list_at (read_lists first) place) (take (index + 1) xs))
  becomes_more first mid last place there before step =
      let before_list : List Message = fold change (list_at (read_lists first) place) (take index xs) in
      let seen : list_at (read_lists mid) place ≡ before_list = ap (λ l. list_at l place) before.lists ∙ get_or-set_same (read_lists first) place before_list [] there in
      record {
        records = continues_on first.records mid.records last.records before.records step.records;
        lists =
            step.lists
            ∙ ap (λ l. set l place (change (list_at (read_lists mid) place) x)) before.lists
            ∙ set-set (read_lists first) place before_list (change (list_at (read_lists mid) place) x)
            ∙ ap (set (read_lists first) place) (ap (λ l. change l x) seen ∙ sym (one_more (list_at (read_lists first) place)));
      }

  -- where the limit is passed at one element it is passed at all
  pub over_more : (grows : (list : List Message) (ys : List A) → Continues list (fold change list ys)) (first mid : Listed) (place : ℕ) → place < length (read_lists first)
      → OneListBecomes first mid place (fold change (list_at (read_lists first) place) (take index xs))
      → message_limit < total (set (read_lists mid) place (change (list_at (read_lists mid) place) x))
      → message_limit < total (set (read_lists first) place (fold change (list_at (read_lists first) place) xs))
  over_more grows first mid place there before over =
      let start : List Message = list_at (read_lists first) place in
      let before_list : List Message = fold change start (take index xs) in
      let seen : list_at (read_lists mid) place ≡ before_list = ap (λ l. list_at l place) before.lists ∙ get_or-set_same (read_lists first) place before_list [] there in
      let here : set (read_lists mid) place (change (list_at (read_lists mid) place) x) ≡ set (read_lists first) place (fold change start (take (index + 1) xs)) =
      ap (λ l. set l place (change (list_at (read_lists mid) place) x)) before.lists
      ∙ set-set (read_lists first) place before_list (change (list_at (read_lists mid) place) x)
      ∙ ap (set (read_lists first) place) (ap (λ l. change l x) seen ∙ sym (one_more start)) in
      let on : Continues (fold change start (take (index + 1) xs)) (fold change start xs) =
      subst (λ l. Continues (fold change start (take (index + 1) xs)) l)
      (sym (fold-append change start (take (index + 1) xs) (drop (index + 1) xs)) ∙ ap (fold change start) (take-append-drop (index + 1) xs))
      (grows (fold change start (take (index + 1) xs)) (drop (index + 1) xs)) in
      omega (arith, over, ap total here, total-longer (read_lists first) place (fold change start (take (index + 1) xs)) (fold change start xs) there on)
