-- What expressions by numbers say is what they say by names.
use Rattle.std.proofs.Common.{◌≡◌, ◌&&◌, ℕ, List, [], ◌∷◌, ◌++◌, refl, ap, ◌∙◌, sym, bit_and, bit_or}
use Rattle.std.specs.Prelude.{None}
use Rattle.blz_value.specs.Bits.{bit_of}
use Rattle.bloom_forms.specs.declared.module.Collection.{Collection}
use Rattle.bloom_forms.specs.declared.numbered.NumberedExpr.{NumberedExpr, Base, Select', Project', Join', NotIn', Group', AtLeast'}
use Rattle.bloom_forms.specs.Lookup.{declared}
use Rattle.bloom_forms.specs.Numbered.{IsNumbered}
use Rattle.bloom_forms.specs.Query.{Query}
use Rattle.bloom_forms.specs.Query.Query.{base, select, project, join, notin, group, at_least}
use Rattle.bloom_forms.specs.Reads.{named}
use Rattle.bloom_forms.specs.Plain.{is_plain}
use Rattle.path_annotate.specs.Code.ByNumber.{named_by, is_plain_by, roots_by, gate_by}
use Rattle.bloom_forms.specs.Gates.{in_all, operator_sets, pairs_set, set_of_roots}
use Rattle.bloom_forms.specs.HeadRoots.{roots_numbered, roots_named}
use Rattle.bloom_forms.specs.Roots.{Roots, joined_roots, roots_at, roots_of}
use Rattle.path_facts.proofs.GatesLemmas.{in_all-append}

module _ (cs : List Collection) where
  pub named-same : (q : Query) (e : NumberedExpr) → IsNumbered cs q e → named_by e ≡ named cs q
  named-same (base name) (Base number) is = ap bit_of is
  named-same (select q f) (Select' p e test) is = named-same q e is.0
  named-same (project q items) (Project' p e numbers) is = named-same q e is.0
  named-same (join a b pairs) (Join' p left r right numbers) is = λ i. bit_or (named-same a left is.0 i) (named-same b right is.1 i)
  named-same (notin a b pairs) (NotIn' p left r right numbers) is = λ i. bit_or (named-same a left is.0 i) (named-same b right is.1 i)
  named-same (group q keys agg name) (Group' p e numbers by) is = named-same q e is.0
  named-same (at_least q keys bound) (AtLeast' p e numbers count) is = named-same q e is.0
  named-same q e is = absurd is

  pub plain-same : (q : Query) (e : NumberedExpr) → IsNumbered cs q e → is_plain_by e ≡ is_plain q
  plain-same (base name) (Base number) is = refl
  plain-same (select q f) (Select' p e test) is = plain-same q e is.0
  plain-same (project q items) (Project' p e numbers) is = plain-same q e is.0
  plain-same (join a b pairs) (Join' p left r right numbers) is = λ i. plain-same a left is.0 i && plain-same b right is.1 i
  plain-same (notin a b pairs) (NotIn' p left r right numbers) is = refl
  plain-same (group q keys agg name) (Group' p e numbers by) is = refl
  plain-same (at_least q keys bound) (AtLeast' p e numbers count) is = plain-same q e is.0
  plain-same q e is = absurd is

  module _ (table : List Roots) where
    pub roots-same : (q : Query) (e : NumberedExpr) → IsNumbered cs q e → roots_by table e ≡ roots_of (declared cs) (roots_named cs table) q
    roots-same (base name) (Base number) is = ap (roots_numbered table) is
    roots-same (select q f) (Select' p e test) is = roots-same q e is.0
    roots-same (project q items) (Project' p e numbers) is = λ i. roots_at (roots-same q e is.0 i) (is.1 i)
    roots-same (join a b pairs) (Join' p left r right numbers) is = λ i. joined_roots (is.2 i) (roots-same a left is.0 i) (roots-same b right is.1 i)
    roots-same (notin a b pairs) (NotIn' p left r right numbers) is = roots-same a left is.0
    roots-same (group q keys agg name) (Group' p e numbers by) is = λ i. roots_at (roots-same q e is.0 i) (is.1 i) ++ None ∷ []
    roots-same (at_least q keys bound) (AtLeast' p e numbers count) is = λ i. roots_at (roots-same q e is.0 i) (is.1 i)
    roots-same q e is = absurd is

    -- the sets of two parts beside one of their own
    both : (all set left right : ℕ) (xs ys : List ℕ) → left ≡ in_all all xs → right ≡ in_all all ys → bit_and set (bit_and left right) ≡ in_all all (set ∷ (xs ++ ys))
    both all set left right xs ys e f = (λ i. bit_and set (bit_and (e i) (f i))) ∙ ap (bit_and set) (sym (in_all-append all xs ys))

    pub gate-same : (all : ℕ) (q : Query) (e : NumberedExpr) → IsNumbered cs q e → gate_by all table e ≡ in_all all (operator_sets (declared cs) (roots_named cs table) q)
    gate-same all (base name) (Base number) is = refl
    gate-same all (select q f) (Select' p e test) is = gate-same all q e is.0
    gate-same all (project q items) (Project' p e numbers) is = gate-same all q e is.0
    gate-same all (join a b pairs) (Join' p left r right numbers) is =
        ap (λ (set : ℕ). bit_and set (bit_and (gate_by all table left) (gate_by all table right))) (λ i. pairs_set (is.2 i) (roots-same a left is.0 i) (roots-same b right is.1 i))
        ∙ both all _ _ _ (operator_sets (declared cs) (roots_named cs table) a) (operator_sets (declared cs) (roots_named cs table) b) (gate-same all a left is.0) (gate-same all b right is.1)
    gate-same all (notin a b pairs) (NotIn' p left r right numbers) is =
        ap (λ (set : ℕ). bit_and set (bit_and (gate_by all table left) (gate_by all table right))) (λ i. pairs_set (is.2 i) (roots-same a left is.0 i) (roots-same b right is.1 i))
        ∙ both all _ _ _ (operator_sets (declared cs) (roots_named cs table) a) (operator_sets (declared cs) (roots_named cs table) b) (gate-same all a left is.0) (gate-same all b right is.1)
    gate-same all (group q keys agg name) (Group' p e numbers by) is = λ i. bit_and (set_of_roots (roots_at (roots-same q e is.0 i) (is.1 i))) (gate-same all q e is.0 i)
    gate-same all (at_least q keys bound) (AtLeast' p e numbers count) is = λ i. bit_and (set_of_roots (roots_at (roots-same q e is.0 i) (is.1 i))) (gate-same all q e is.0 i)
    gate-same all q e is = absurd is
