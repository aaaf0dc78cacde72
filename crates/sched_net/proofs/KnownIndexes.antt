-- Messages that are noted one by one are known then, and no other.
use Rattle.std.proofs.Common.{◌≡◌, ◌<◌, ◌≤◌, ◌+◌, ◌==◌, ◌&&◌, ◌||◌, ℕ, Bool, true, List, [], ◌∷◌, ◌++◌, length, get_or, take, ap, ◌∙◌, sym, subst, inl, inr, ◌⊎◌}
use Rattle.std.proofs.lemmas.Bool.{and_from, and_parts, eq-eqb, eqb-true, or_cases, or_left, or_right}
use Rattle.std.proofs.lemmas.List.{take_all, take_more}
use Rattle.blz_value.specs.Members.{Has}
use Rattle.blz_value.proofs.Membership.{Has-append_left, Has-append_right, Has-append_cases}
use Rattle.messages.specs.Known.{is_known, KnowsAlso}
use Rattle.sched_net.specs.Code.Hearing.{KnowsMore}

pair_same : (a b : ℕ × ℕ) → a.0 ≡ b.0 → a.1 ≡ b.1 → a ≡ b
pair_same a b p q = let f : ℕ → ℕ → ℕ × ℕ = λ m n. (m, n) in ap (λ m. f m a.1) p ∙ ap (f b.0) q

from_test : (pair : ℕ × ℕ) (feed index : ℕ) → (feed == pair.0 && index == pair.1) ≡ true → pair ≡ (feed, index)
from_test pair feed index is =
    let both = and_parts (feed == pair.0) (index == pair.1) is in
    pair_same pair (feed, index) (sym (eqb-true feed pair.0 both.0)) (sym (eqb-true index pair.1 both.1))

to_test : (pair : ℕ × ℕ) (feed index : ℕ) → pair ≡ (feed, index) → (feed == pair.0 && index == pair.1) ≡ true
to_test pair feed index same =
    and_from (feed == pair.0) (index == pair.1) (eq-eqb feed pair.0 (sym (ap (λ (p : ℕ × ℕ). p.0) same))) (eq-eqb index pair.1 (sym (ap (λ (p : ℕ × ℕ). p.1) same)))

pub knows_one : (old mid new : List (List ℕ)) (indexes : List (ℕ × ℕ)) (k : ℕ) (d : ℕ × ℕ) → k < length indexes → KnowsAlso (get_or indexes k d).0 (get_or indexes k d).1 mid new → KnowsMore old (take k indexes) mid → KnowsMore old (take (k + 1) indexes) new
knows_one old mid new indexes k d less also before feed index =
    let pair : ℕ × ℕ = get_or indexes k d in
    let here : Bool = feed == pair.0 && index == pair.1 in
    let there : Bool = is_known mid feed index in
    let longer : take (k + 1) indexes ≡ take k indexes ++ pair ∷ [] = take_more indexes k d less in
    subst (λ l. (is_known new feed index ≡ true → (is_known old feed index ≡ true) ⊎ Has (feed, index) l) × ((is_known old feed index ≡ true) ⊎ Has (feed, index) l → is_known new feed index ≡ true)) (sym longer) (
      λ h. elim (or_cases here there (sym (also feed index) ∙ h)) [
        | inl same ↦ inr (Has-append_right (feed, index) (take k indexes) (pair ∷ []) (inl (from_test pair feed index same)))
        | inr was ↦ elim ((before feed index).0 was) [
          | inl first ↦ inl first
          | inr added ↦ inr (Has-append_left (feed, index) (take k indexes) (pair ∷ []) added)
        ]
      ],
      λ h.
          let so : (here || there) ≡ true = elim h [
            | inl first ↦ or_right here there ((before feed index).1 (inl first))
            | inr added ↦ elim (Has-append_cases (feed, index) (take k indexes) (pair ∷ []) added) [
              | inl earlier ↦ or_right here there ((before feed index).1 (inr earlier))
              | inr last ↦ elim last [
                | inl same ↦ or_left here there (to_test pair feed index same)
                | inr none ↦ absurd none
              ]
            ]
          ] in
          also feed index ∙ so,
    )

pub knows_all : (old new : List (List ℕ)) (indexes : List (ℕ × ℕ)) (k : ℕ) → length indexes ≤ k → KnowsMore old (take k indexes) new → KnowsMore old indexes new
knows_all old new indexes k past before = subst (λ l. KnowsMore old l new) (take_all k indexes past) before
