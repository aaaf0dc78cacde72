-- A text by lines of numbers grows line by line, and a list by members of numbers member by member, of whatever data and steps the books stand for.
use Rattle.std.proofs.Common.{◌≡◌, ◌+◌, ℕ, ◌++◌, ◌∷◌, List, [], map, ap, ◌∙◌, sym, subst, append_assoc, append-nil}
use Rattle.std.specs.List.{flat_map}
use Rattle.topo_forms.specs.Data.{Data}
use Rattle.blz_value.specs.NumberSets.{below}
use Rattle.blz_value.proofs.Ranges.{map_below_more, flat_below_more}
use Rattle.topo_forms.specs.View.{View}
use Rattle.inbox.specs.Executions.{Execution}
use Rattle.sched_net.specs.Reading.{IsRead}
use Rattle.sched_net.specs.declared.books.Books.{Books}
use Rattle.report_lines.specs.Words.{Text}

module _ (v : View) (b : Books) (of : Data → Execution → ℕ → Text) (first : Text) where
  -- the text so far, of the numbers below one
  abbrev pub IsSoFar : (n : ℕ) → Text → Type 0
  IsSoFar n text = IsRead v b (λ given x. first ++ flat_map (of given x) (below n)) text

  pub none_yet : IsSoFar 0 first
  none_yet given steps stand = sym (append-nil first)

  pub one_more : (n : ℕ) (old new : Text) → IsRead v b (λ given x. old ++ of given x n) new → IsSoFar n old → IsSoFar (n + 1) new
  one_more n old new more so_far given steps stand =
      let f : ℕ → Text = of given stand.stands.execution in
      let joined : first ++ flat_map f (below n) ++ f n ≡ first ++ (flat_map f (below n) ++ f n) = simp append_assoc in
      more given steps stand
      ∙ ap (λ t. t ++ f n) (so_far given steps stand)
      ∙ joined
      ∙ ap (λ t. first ++ t) (sym (flat_below_more f n))

  pub all_of : (n count : ℕ) (text : Text) → n ≡ count → IsSoFar n text → IsSoFar count text
  all_of n count text same so_far = subst (λ k. IsSoFar k text) same so_far

module _ {X : Type 0} (v : View) (b : Books) (of : Data → Execution → ℕ → X) (first : List X) where
  -- the list so far, of the numbers below one
  abbrev pub HasSoFar : (n : ℕ) → List X → Type 0
  HasSoFar n list = IsRead v b (λ given x. first ++ map (of given x) (below n)) list

  pub has_none : HasSoFar 0 first
  has_none given steps stand = sym (append-nil first)

  pub has_more : (n : ℕ) (old new : List X) → IsRead v b (λ given x. old ++ of given x n ∷ []) new → HasSoFar n old → HasSoFar (n + 1) new
  has_more n old new more so_far given steps stand =
      let f : ℕ → X = of given stand.stands.execution in
      let joined : first ++ map f (below n) ++ f n ∷ [] ≡ first ++ (map f (below n) ++ f n ∷ []) = simp append_assoc in
      more given steps stand
      ∙ ap (λ l. l ++ f n ∷ []) (so_far given steps stand)
      ∙ joined
      ∙ ap (λ l. first ++ l) (sym (map_below_more f n))

  pub has_all : (n count : ℕ) (list : List X) → n ≡ count → HasSoFar n list → HasSoFar count list
  has_all n count list same so_far = subst (λ k. HasSoFar k list) same so_far
