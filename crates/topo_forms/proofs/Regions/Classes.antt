-- Regions are classes of nodes.
use Rattle.std.proofs.Common.{◌≡◌, ◌≤◌, ◌<◌, ℕ, true, List, arith, refl, subst}
use Rattle.blz_value.specs.Members.{Has}
use Rattle.blz_value.specs.declared.attrs.Fd.{Fd}
use Rattle.blz_value.specs.Bits.{bit_of}
use Rattle.blz_value.specs.Closure.{IsLeastClosed}
use Rattle.blz_value.proofs.Members.{within-meets}
use Rattle.blz_value.proofs.Least.{closure-least}
use Rattle.blz_value.proofs.Reached.{closure-self, closure-trans, closed-map}
use Rattle.bloom_forms.proofs.Collections.Chosen.{in_chosen, from_chosen}
use Rattle.blz_value.specs.Graph.{Edge, arrow, arrows, is_in, up, together, region}
use Rattle.blz_value.specs.NumberSets.{below}
use Rattle.blz_value.proofs.Booleans.{same_truth, both_true}
use Rattle.topo_forms.proofs.Regions.Spreading.{in_below}

module _ (ar : List Fd) where
  together-parts : (c d : ℕ) → together ar c d ≡ true → (is_in d (up ar c) ≡ true) × (is_in c (up ar d) ≡ true)
  together-parts c d e = both_true (is_in d (up ar c)) (is_in c (up ar d)) e

  pub are-together : (c d : ℕ) → is_in d (up ar c) ≡ true → is_in c (up ar d) ≡ true → together ar c d ≡ true
  are-together c d h k = rw (h, k) refl

  pub together-up : (c d : ℕ) → together ar c d ≡ true → is_in d (up ar c) ≡ true
  together-up c d e = (together-parts c d e).0

  pub together-self : (c : ℕ) → c < 64 → together ar c c ≡ true
  together-self c lt = are-together c c (closure-self ar c lt) (closure-self ar c lt)

  pub together-sym : (c d : ℕ) → together ar c d ≡ true → together ar d c ≡ true
  together-sym c d e = are-together d c (together-parts c d e).1 (together-parts c d e).0

  pub together-trans : (a b c : ℕ) → a < 64 → c < 64 → together ar a b ≡ true → together ar b c ≡ true → together ar a c ≡ true
  together-trans a b c la lc p q = are-together a c
      (closure-trans ar (bit_of a) b c lc (together-parts a b p).0 (together-parts b c q).0)
      (closure-trans ar (bit_of c) b a la (together-parts b c q).1 (together-parts a b p).1)

  -- members of one region have the same class
  pub same-class : (a b d : ℕ) → a < 64 → b < 64 → d < 64 → together ar a b ≡ true → together ar a d ≡ together ar b d
  same-class a b d la lb ld e = same_truth (together ar a d) (together ar b d)
      (λ h. together-trans b a d lb ld (together-sym a b e) h)
      (λ h. together-trans a b d la ld e h)

  -- who is in the region of a node
  pub region-is : (count c d : ℕ) → count ≤ 64 → d < count → is_in d (region ar count c) ≡ together ar c d
  region-is count c d few lt = same_truth (is_in d (region ar count c)) (together ar c d)
      (λ h. let chosen = from_chosen (together ar c) (λ n. n) (below count) d (omega arith) h in subst (λ (n : ℕ). together ar c n ≡ true) chosen.is chosen.passes)
      (λ h. in_chosen (together ar c) (λ n. n) (below count) d (in_below count d lt) h (omega arith))

-- who feeds a node reaches it
pub fed-up : (edges : List Edge) (e : Edge) → e.0 < 64 → e.1 < 64 → Has e edges → is_in e.0 (up (arrows edges) e.1) ≡ true
fed-up edges e l0 l1 h =
    let c : IsLeastClosed (bit_of e.1) (arrows edges) (up (arrows edges) e.1) = closure-least (bit_of e.1) (arrows edges) in
    within-meets e.0 _ l0 (closed-map arrow edges (up (arrows edges) e.1) c.closed e h c.contains)
