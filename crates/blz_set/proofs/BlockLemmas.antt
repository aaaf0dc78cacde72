-- Blocks that are taken off rows, and put behind one another again.
use Rattle.std.proofs.Common.{◌≡◌, ℕ, ◌+◌, ◌≤◌, List, [], ◌∷◌, ◌++◌, length, take, drop, append_assoc, append-nil, refl, ap, ◌∙◌, sym, subst, inl, inr, arith}
use Rattle.std.proofs.lemmas.List.{length-append}
use Rattle.std.specs.List.{insert}
use Rattle.blz_value.specs.Members.{Has}
use Rattle.blz_value.specs.Record.{Row}
use Rattle.blz_value.specs.Sets.{set_of, IsRowSet}
use Rattle.blz_value.proofs.Membership.{Has-append_left, Has-append_right, Has-append_cases}
use Rattle.blz_value.proofs.RowSets.{same_set_of}
use Rattle.blz_set.specs.declared.merge.Block.{Block}
use Rattle.blz_set.specs.Code.Blocks.{rows_before, rows_after}
use Rattle.blz_set.proofs.MergeLemmas.{merged_last, merged_none}

-- ---- the last block comes first

pub rows_before-push : (blocks : List Block) (block : Block) → rows_before (blocks ++ block ∷ []) ≡ block.rest.items ++ rows_before blocks
unfolding rows_before
rows_before-push [] block = sym (append-nil block.rest.items)
rows_before-push (b ∷ blocks) block = ap (λ (l : List Row). l ++ b.rest.items) (rows_before-push blocks block) ∙ append_assoc block.rest.items (rows_before blocks) b.rest.items

pub rows_after-push : (blocks : List Block) (block : Block) → rows_after (blocks ++ block ∷ []) ≡ (block.first ∷ block.rest.items) ++ rows_after blocks
unfolding rows_after
rows_after-push [] block = sym (append-nil (block.first ∷ block.rest.items))
rows_after-push (b ∷ blocks) block =
    ap (λ (l : List Row). l ++ b.first ∷ b.rest.items) (rows_after-push blocks block) ∙ append_assoc (block.first ∷ block.rest.items) (rows_after blocks) (b.first ∷ b.rest.items)

pub rows_before-none : (blocks : List Block) → length blocks ≡ 0 → rows_before blocks ≡ []
unfolding rows_before
rows_before-none [] none = refl
rows_before-none (b ∷ blocks) none = absurd (omega arith)

pub rows_after-none : (blocks : List Block) → length blocks ≡ 0 → rows_after blocks ≡ []
unfolding rows_after
rows_after-none [] none = refl
rows_after-none (b ∷ blocks) none = absurd (omega arith)

-- ---- blocks that go behind rows

-- what was put there, with the blocks that are left, is the whole still
pub whole_on : (rows pushed left behind all whole : List Row) → pushed ≡ rows ++ left → all ≡ left ++ behind → rows ++ all ≡ whole → pushed ++ behind ≡ whole
whole_on rows pushed left behind all whole push taken so_far = ap (λ (l : List Row). l ++ behind) push ∙ append_assoc rows left behind ∙ ap (λ (l : List Row). rows ++ l) (sym taken) ∙ so_far

-- the rest of the last block has room
pub has_room : (rows left behind all whole : List Row) (most : ℕ) → all ≡ left ++ behind → rows ++ all ≡ whole → length whole ≤ most → length rows + length left ≤ most
has_room rows left behind all whole most taken so_far room =
    omega (arith, room, ap (length {A = Row}) so_far, length-append rows all, ap (length {A = Row}) taken, length-append left behind)

-- when none are left, all were put there
pub all_on : (rows left whole : List Row) → left ≡ [] → rows ++ left ≡ whole → rows ≡ whole
all_on rows left whole none so_far = sym (append-nil rows) ∙ ap (λ (l : List Row). rows ++ l) (sym none) ∙ so_far

-- ---- blocks that are taken off

-- the block that is taken off comes before those that were
pub before_on : (rows front rest behind now whole : List Row) → rows ≡ front ++ rest → now ≡ rest ++ behind → rows ++ behind ≡ whole → front ++ now ≡ whole
before_on rows front rest behind now whole cut made so_far =
    ap (λ (l : List Row). front ++ l) made ∙ sym (append_assoc front rest behind) ∙ ap (λ (l : List Row). l ++ behind) (sym cut) ∙ so_far

-- the row before it comes before those that are behind its place, and the others go among the rest
module _ (rows more all behind whole : List Row) (x : Row) (taken : all ≡ more ++ x ∷ []) (so_far : set_of (rows ++ all) ++ behind ≡ whole) where
  pub after_on : (at : ℕ) → IsRowSet all → insert rows at x ≡ set_of (x ∷ rows) → (left now : List Row) → left ≡ take at rows → now ≡ (x ∷ drop at rows) ++ behind → set_of (left ++ more) ++ now ≡ whole
  after_on at sorted gap left now front made =
      let lows = set_of (take at rows ++ more) in
      ap (λ (l : List Row). set_of (l ++ more) ++ now) front
      ∙ ap (λ (l : List Row). lows ++ l) made
      ∙ sym (append_assoc lows (x ∷ drop at rows) behind)
      ∙ ap (λ (l : List Row). l ++ behind) (sym (merged_last rows more x at (subst IsRowSet taken sorted) gap))
      ∙ ap (λ (l : List Row). set_of (rows ++ l) ++ behind) (sym taken)
      ∙ so_far

  -- one that is there adds nothing
  pub there_on : Has x rows → set_of (rows ++ more) ++ behind ≡ whole
  there_on there =
      let same =
      same_set_of (rows ++ (more ++ x ∷ [])) (rows ++ more) (
        λ q h. elim (Has-append_cases q rows (more ++ x ∷ []) h) [
          | inl m ↦ Has-append_left q rows more m
          | inr m ↦ elim (Has-append_cases q more (x ∷ []) m) [
            | inl n ↦ Has-append_right q rows more n
            | inr n ↦ elim n [ inl e ↦ Has-append_left q rows more (subst (λ (y : Row). Has y rows) e there) | inr none ↦ absurd none ]
          ]
        ],
        λ q h. elim (Has-append_cases q rows more h) [
          | inl m ↦ Has-append_left q rows (more ++ x ∷ []) m
          | inr m ↦ Has-append_right q rows (more ++ x ∷ []) (Has-append_left q more (x ∷ []) m)
        ],
      ) in
      ap (λ (l : List Row). l ++ behind) (sym same) ∙ ap (λ (l : List Row). set_of (rows ++ l) ++ behind) (sym taken) ∙ so_far

-- when none are left to come
pub after_all : (rows more behind whole : List Row) → length more ≡ 0 → IsRowSet rows → set_of (rows ++ more) ++ behind ≡ whole → rows ++ behind ≡ whole
after_all rows more behind whole none sorted so_far = ap (λ (l : List Row). l ++ behind) (merged_none rows more none sorted) ∙ so_far
