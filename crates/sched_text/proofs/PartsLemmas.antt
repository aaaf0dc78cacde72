-- The groups of a batch, read one after another.
use Rattle.std.proofs.Common.{◌≡◌, ℕ, zero, suc, ◌+◌, ◌<◌, ◌≤◌, Bool, true, false, ◌&&◌, Option, Some, None, Result, Err, List, [], ◌∷◌, ◌++◌, length, refl, ap, ◌∙◌, sym, subst, arith, length-append, append_assoc}
use Rattle.std.specs.Prelude.{nat_le}
use Rattle.std.specs.Option.{option_map}
use Rattle.std.proofs.lemmas.List.{append-nil}
use Rattle.std.proofs.lemmas.Bool.{le-leb, lt-leb}
use Rattle.sched_text.specs.declared.event.Part.{Part}
use Rattle.sched_text.specs.declared.fault.LineFault.{LineFault}
use Rattle.sched_text.specs.declared.fault.LineFault.TheVariants as line
use Rattle.sched_text.specs.Given.{TakesFront, GivesAll}
use Rattle.sched_text.specs.Fields.{Field, name_of, number_of, only_if, ◌>>=◌}
use Rattle.sched_text.specs.Kinds.{Front, part_at, parts_of, groups_of, is_empty, part_limit}

-- what a group gives by what its fields stand for
abbrev part_by : List Field → Option (List ℕ) → Option ℕ → Option ℕ → Option (List ℕ) → Front Part
part_by others None replica index port = None
part_by others (Some stream) None index port = None
part_by others (Some stream) (Some replica) None port = None
part_by others (Some stream) (Some replica) (Some index) None = None
part_by others (Some stream) (Some replica) (Some index) (Some port) = Some (record { sent = record { stream = stream; replica = replica; index = index }; port = port }, others)

module _ (s r i p : Field) (others : List Field) where
  part_at-by : (a : Option (List ℕ)) (b c : Option ℕ) (d : Option (List ℕ)) → name_of s ≡ a → number_of r ≡ b → number_of i ≡ c → name_of p ≡ d → part_at (s ∷ r ∷ i ∷ p ∷ others) ≡ part_by others a b c d
  part_at-by None b c d e f g h = rw e refl
  part_at-by (Some stream) None c d e f g h = rw (e, f) refl
  part_at-by (Some stream) (Some replica) None d e f g h = rw (e, f, g) refl
  part_at-by (Some stream) (Some replica) (Some index) None e f g h = rw (e, f, g, h) refl
  part_at-by (Some stream) (Some replica) (Some index) (Some port) e f g h = rw (e, f, g, h) refl

  part_at-four : part_at (s ∷ r ∷ i ∷ p ∷ others) ≡ part_by others (name_of s) (number_of r) (number_of i) (name_of p)
  part_at-four = part_at-by (name_of s) (number_of r) (number_of i) (name_of p) refl refl refl refl

-- ---- fewer than four fields are no group

one_field : (s : Field) (a : Option (List ℕ)) → name_of s ≡ a → part_at (s ∷ []) ≡ None
one_field s None e = rw e refl
one_field s (Some stream) e = rw e refl

two_fields : (s r : Field) (a : Option (List ℕ)) (b : Option ℕ) → name_of s ≡ a → number_of r ≡ b → part_at (s ∷ r ∷ []) ≡ None
two_fields s r None b e f = rw e refl
two_fields s r (Some stream) None e f = rw (e, f) refl
two_fields s r (Some stream) (Some replica) e f = rw (e, f) refl

three_fields : (s r i : Field) (a : Option (List ℕ)) (b c : Option ℕ) → name_of s ≡ a → number_of r ≡ b → number_of i ≡ c → part_at (s ∷ r ∷ i ∷ []) ≡ None
three_fields s r i None b c e f g = rw e refl
three_fields s r i (Some stream) None c e f g = rw (e, f) refl
three_fields s r i (Some stream) (Some replica) None e f g = rw (e, f, g) refl
three_fields s r i (Some stream) (Some replica) (Some index) e f g = rw (e, f, g) refl

-- ---- the first group, and the groups behind it

-- groups behind one that was read
abbrev pub onto : Part × List Field → Option (List Part)
onto part = option_map (λ more. part.0 ∷ more) (parts_of part.1)

more_parts : (part : Part) (parts : Option (List Part)) → (parts >>= λ more. Some (part ∷ more)) ≡ option_map (λ more. part ∷ more) parts
more_parts part None = refl
more_parts part (Some more) = refl

four_by : (others : List Field) (a : Option (List ℕ)) (b c : Option ℕ) (d : Option (List ℕ)) → (part_by [] a b c d >>= λ part. parts_of others >>= λ more. Some (part.0 ∷ more)) ≡ (part_by others a b c d >>= onto)
four_by others None b c d = refl
four_by others (Some stream) None c d = refl
four_by others (Some stream) (Some replica) None d = refl
four_by others (Some stream) (Some replica) (Some index) None = refl
four_by others (Some stream) (Some replica) (Some index) (Some port) = more_parts (record { sent = record { stream = stream; replica = replica; index = index }; port = port }) (parts_of others)

pub parts_of-front : (fields : List Field) → is_empty fields ≡ false → parts_of fields ≡ (part_at fields >>= onto)
parts_of-front [] some = cc
parts_of-front (s ∷ []) some = ap (λ (front : Front Part). front >>= onto) (sym (one_field s (name_of s) refl))
parts_of-front (s ∷ r ∷ []) some = ap (λ (front : Front Part). front >>= onto) (sym (two_fields s r (name_of s) (number_of r) refl refl))
parts_of-front (s ∷ r ∷ i ∷ []) some = ap (λ (front : Front Part). front >>= onto) (sym (three_fields s r i (name_of s) (number_of r) (number_of i) refl refl refl))
parts_of-front (s ∷ r ∷ i ∷ p ∷ others) some =
    ap (λ (front : Front Part). front >>= λ part. parts_of others >>= λ more. Some (part.0 ∷ more)) (part_at-four s r i p [])
    ∙ four_by others (name_of s) (number_of r) (number_of i) (name_of p)
    ∙ ap (λ (front : Front Part). front >>= onto) (sym (part_at-four s r i p others))

-- ---- one group after another

-- what was read of some fields, where these are left
pub record AreRead (fields : List Field) (parts : List Part) (rest : List Field) : Type 0 where
  pub read : parts_of fields ≡ option_map (λ more. parts ++ more) (parts_of rest)
  pub left : 0 < length parts → is_empty rest ≡ false

option_map-map : {X Y Z : Type 0} (f : Y → Z) (g : X → Y) (x : Option X) → option_map f (option_map g x) ≡ option_map (λ y. f (g y)) x
option_map-map f g None = refl
option_map-map f g (Some x) = refl

append_one : (parts : List Part) (part : Part) (o : Option (List Part)) → option_map (λ more. parts ++ part ∷ more) o ≡ option_map (λ more. (parts ++ part ∷ []) ++ more) o
append_one parts part None = refl
append_one parts part (Some more) = ap Some (sym (append_assoc parts (part ∷ []) more))

some_left : (rest : List Field) (x : Part × List Field) → part_at rest ≡ Some x → is_empty rest ≡ false
some_left [] x e = cc
some_left (field ∷ rest) x e = refl

none_left : (rest : List Field) → is_empty rest ≡ true → parts_of rest ≡ Some []
none_left [] e = refl
none_left (field ∷ rest) e = cc

by_part : (front : Front Part) (more : List Part) → (front >>= onto) ≡ Some more → 0 < length more
by_part None more e = cc
by_part (Some part) more e = go (parts_of part.1) e
  where
    go : (o : Option (List Part)) → option_map (λ ps. part.0 ∷ ps) o ≡ Some more → 0 < length more
    go None e = cc
    go (Some ps) e = (let is : part.0 ∷ ps ≡ more = cc in subst (λ (x : List Part). 0 < length x) is (omega arith))

some_parts : (rest : List Field) (more : List Part) → is_empty rest ≡ false → parts_of rest ≡ Some more → 0 < length more
some_parts rest more some e = by_part (part_at rest) more (sym (parts_of-front rest some) ∙ e)

-- 1 to 64 groups
abbrev in_limit : List Part → Option (List Part)
in_limit parts = only_if (nat_le 1 (length parts) && nat_le (length parts) part_limit) parts

within_limit : (parts : List Part) → 1 ≤ length parts → length parts ≤ part_limit → in_limit parts ≡ Some parts
within_limit parts low high = rw (le-leb 1 (length parts) low, le-leb (length parts) part_limit high) refl

below_limit : (parts : List Part) → length parts ≡ 0 → in_limit parts ≡ None
below_limit [] e = refl
below_limit (part ∷ parts) e = absurd (omega arith)

no_parts : (n : ℕ) → (0 < n → ⊥) → n ≡ 0
no_parts zero none = refl
no_parts (suc n) none = absurd (none (omega arith))

past_limit : (parts : List Part) → part_limit < length parts → in_limit parts ≡ None
past_limit parts high = rw (lt-leb (length parts) part_limit high) (by (nat_le 1 (length parts)))
  where
    by : (b : Bool) → only_if (b && false) parts ≡ None
    by true = refl
    by false = refl

module _ (fields rest : List Field) (parts : List Part) (read : AreRead fields parts rest) where
  after_group : (part : Part) (behind : List Field) → part_at rest ≡ Some (part, behind) → parts_of fields ≡ option_map (λ more. (parts ++ part ∷ []) ++ more) (parts_of behind)
  after_group part behind e =
      let front : parts_of rest ≡ option_map (λ more. part ∷ more) (parts_of behind) = parts_of-front rest (some_left rest (part, behind) e) ∙ ap (λ (x : Front Part). x >>= onto) e in
      read.read ∙ ap (option_map (λ more. parts ++ more)) front ∙ option_map-map (λ more. parts ++ more) (λ more. part ∷ more) (parts_of behind) ∙ append_one parts part (parts_of behind)

  pub one_more : (part : Part) (behind : List Field) → part_at rest ≡ Some (part, behind) → is_empty behind ≡ false → AreRead fields (parts ++ part ∷ []) behind
  one_more part behind e some = record { read = after_group part behind e; left = λ _. some }

  pub all_read : (part : Part) (behind : List Field) → part_at rest ≡ Some (part, behind) → is_empty behind ≡ true → length parts < part_limit → groups_of fields ≡ Some (parts ++ part ∷ [])
  all_read part behind e none room =
      let whole : parts_of fields ≡ Some ((parts ++ part ∷ []) ++ []) = after_group part behind e ∙ ap (option_map (λ more. (parts ++ part ∷ []) ++ more)) (none_left behind none) in
      let count : length (parts ++ part ∷ []) ≡ length parts + 1 = length-append parts (part ∷ []) in
      ap (λ (x : Option (List Part)). x >>= in_limit) (whole ∙ ap Some (append-nil (parts ++ part ∷ []))) ∙ within_limit (parts ++ part ∷ []) (omega arith) (omega arith)

  pub bad_group : part_at rest ≡ None → groups_of fields ≡ None
  bad_group e = go (is_empty rest) refl
    where
      go : (b : Bool) → is_empty rest ≡ b → groups_of fields ≡ None
      go false some = (let none : parts_of rest ≡ None = parts_of-front rest some ∙ ap (λ (x : Front Part). x >>= onto) e in ap (λ (x : Option (List Part)). x >>= in_limit) (read.read ∙ ap (option_map (λ more. parts ++ more)) none))
      go true none =
          let few : length parts ≡ 0 = (no_parts (length parts) (λ some. let other : is_empty rest ≡ false = read.left some in let bad : true ≡ false = sym none ∙ other in cc)) in
          let whole : parts_of fields ≡ Some (parts ++ []) = read.read ∙ ap (option_map (λ more. parts ++ more)) (none_left rest none) in
          ap (λ (x : Option (List Part)). x >>= in_limit) (whole ∙ ap Some (append-nil parts)) ∙ below_limit parts few

  pub too_many : part_limit ≤ length parts → groups_of fields ≡ None
  too_many full = go (parts_of rest) refl
    where
      go : (o : Option (List Part)) → parts_of rest ≡ o → groups_of fields ≡ None
      go None e = ap (λ (x : Option (List Part)). x >>= in_limit) (read.read ∙ ap (option_map (λ more. parts ++ more)) e)
      go (Some more) e =
          let some : is_empty rest ≡ false = read.left (omega (arith, full)) in
          let others : 0 < length more = some_parts rest more some e in
          let count : length (parts ++ more) ≡ length parts + length more = length-append parts more in
          let whole : parts_of fields ≡ Some (parts ++ more) = read.read ∙ ap (option_map (λ ps. parts ++ ps)) e in
          ap (λ (x : Option (List Part)). x >>= in_limit) whole ∙ past_limit (parts ++ more) (omega (arith, full))

-- ---- a fault is handed on

pub fails_so : (fields rest behind : List Field) (parts : List Part) → AreRead fields parts rest → (fault : LineFault) (r : Result (List Part) LineFault) → r ≡ Err fault → TakesFront (λ (part : Part). part) (Err fault) behind (part_at rest) → GivesAll r (groups_of fields)
fails_so fields rest behind parts read line.Bad r e front = rw e (bad_group fields rest parts read front)
fails_so fields rest behind parts read line.NoMemory r e front = rw e tt
