-- Checks that are run on each element of a list in turn.
use Rattle.std.proofs.Common.{◌≡◌, ◌∙◌, ◌<◌, ◌+◌, ◌++◌, ℕ, inl, inr, List, [], ◌∷◌, Option, Some, None, take, drop, length, get_or, suc, refl, sym, subst, ap}
use Rattle.std.specs.List.{filter_map}
use Rattle.std.proofs.lemmas.List.{append_assoc, take-append-drop, take_more}
use Rattle.std.proofs.lemmas.List.Elements.{filter_map-append}
use Rattle.command_checks.specs.Script.{Bytes, Script, ◌>>=◌}
use Rattle.command_checks.specs.Script.Script.{gives, refuses, reads}
use Rattle.command_checks.specs.Script.Ending.{gave, refused, failed}
use Rattle.command_checks.specs.Checks.{each}
use Rattle.command_checks.specs.Ran.{Stopped}
use Rattle.command_checks.specs.Ends.{Told, Source, files_states, Came, Ends}
use Rattle.command_checks.specs.declared.stop.Stop.{Stop}
use Rattle.command_checks.specs.declared.stop.Stop.TheVariants.{Refused, Failed, NoMemory}
use Rattle.command_checks.proofs.ScriptLemmas.{ends_then, refused_then, failed_then, counts_after}

-- what a part gave on the way to what the whole gave
pub record Through {A B : Type 0} (files : Told) (s : Script A) (next : A → Script B) (y : B) : Type 0 where
  pub given : A
  pub first : Ends files s (gave given)
  pub rest : Ends files (next given) (gave y)

pub through : {A B : Type 0} (files : Told) (s : Script A) (next : A → Script B) (y : B) → Ends files (s >>= next) (gave y) → Through files s next y
through files (gives x) next y ends = record { given = x; first = refl; rest = ends }
through files (refuses line) next y ends = absurd (cc)
through files (reads name after) next y (inl failing) = absurd (cc)
through files (reads name after) next y (inr given) =
    let t = through files (after given.0) next y given.2 in
    record { given = t.given; first = inr (given.0, given.1, t.first); rest = t.rest }

module _ {A B : Type 0} (files : Told) (check : A → Script B) where
  -- what is done with the first result
  abbrev Goes : List A → B → Script (List B)
  Goes xs b = each check xs >>= λ others. gives (b ∷ others)

  -- one element more
  pub one_more : (xs : List A) (x : A) (bs : List B) (b : B) → Ends files (each check xs) (gave bs) → Ends files (check x) (gave b)
      → Ends files (each check (xs ++ x ∷ [])) (gave (bs ++ b ∷ []))
  one_more [] x [] b before last = ends_then files (check x) (Goes []) b (gave (b ∷ [])) last refl
  one_more [] x (c ∷ bs) b before last = absurd (cc)
  one_more (z ∷ xs) x bs b before last =
      let t = through files (check z) (Goes xs) bs before in
      let u = through files (each check xs) (λ others. gives (t.given ∷ others)) bs t.rest in
      let all = ends_then files (check z) (Goes (xs ++ x ∷ [])) t.given (gave (t.given ∷ (u.given ++ b ∷ []))) t.first
      (ends_then files (each check (xs ++ x ∷ [])) (λ others. gives (t.given ∷ others)) (u.given ++ b ∷ []) (gave (t.given ∷ (u.given ++ b ∷ []))) (one_more xs x u.given b u.first last) refl) in
      subst (λ (cs : List B). Ends files (each check (z ∷ (xs ++ x ∷ []))) (gave (cs ++ b ∷ []))) (sym (given_same u.rest)) all
    where
      given_same : {c : B} {cs : List B} → gave bs ≡ gave (c ∷ cs) → bs ≡ c ∷ cs
      given_same is = cc

  -- an element whose check is refused
  pub one_refused : (xs : List A) (x : A) (later : List A) (bs : List B) (line : Bytes) → Ends files (each check xs) (gave bs) → Ends files (check x) (refused line)
      → Ends files (each check (xs ++ x ∷ later)) (refused line)
  one_refused [] x later bs line before last = refused_then files (check x) (Goes later) line last
  one_refused (z ∷ xs) x later bs line before last =
      let t = through files (check z) (Goes xs) bs before in
      let u = through files (each check xs) (λ others. gives (t.given ∷ others)) bs t.rest in
      ends_then files (check z) (Goes (xs ++ x ∷ later)) t.given (refused line) t.first
      (refused_then files (each check (xs ++ x ∷ later)) (λ others. gives (t.given ∷ others)) line (one_refused xs x later u.given line u.first last))

  -- an element at whose check a read fails
  pub one_failed : (xs : List A) (x : A) (later : List A) (bs : List B) (name : Bytes) → Ends files (each check xs) (gave bs) → Ends files (check x) (failed name)
      → Ends files (each check (xs ++ x ∷ later)) (failed name)
  one_failed [] x later bs name before last = failed_then files (check x) (Goes later) name last
  one_failed (z ∷ xs) x later bs name before last =
      let t = through files (check z) (Goes xs) bs before in
      let u = through files (each check xs) (λ others. gives (t.given ∷ others)) bs t.rest in
      ends_then files (check z) (Goes (xs ++ x ∷ later)) t.given (failed name) t.first
      (failed_then files (each check (xs ++ x ∷ later)) (λ others. gives (t.given ∷ others)) name (one_failed xs x later u.given name u.first last))

  -- as many results as elements
  pub each_length : (xs : List A) (bs : List B) → Ends files (each check xs) (gave bs) → length bs ≡ length xs
  each_length [] [] ends = refl
  each_length [] (b ∷ bs) ends = absurd (cc)
  each_length (z ∷ xs) bs ends =
      let t = through files (check z) (Goes xs) bs ends in
      let u = through files (each check xs) (λ others. gives (t.given ∷ others)) bs t.rest in
      subst (λ (cs : List B). length cs ≡ suc (length xs)) (sym (given_whole u.rest)) (ap suc (each_length xs u.given u.first))
    where
      given_whole : {c : B} {cs : List B} → gave bs ≡ gave (c ∷ cs) → bs ≡ c ∷ cs
      given_whole is = cc

-- the same with the source before, between and after
module _ {A B : Type 0} (a b c : Source) (check : A → Script B) where
  pub came_more : (xs : List A) (x : A) (bs : List B) (y : B) → Came (files_states a b) (each check xs) (gave bs) → Came (files_states b c) (check x) (gave y)
      → Came (files_states a c) (each check (xs ++ x ∷ [])) (gave (bs ++ y ∷ []))
  came_more xs x bs y first last = record {
    kept = last.kept ∙ first.kept;
    ends = one_more a.told check xs x bs y first.ends (subst (λ told. Ends told (check x) (gave y)) first.kept last.ends);
    counts = last.counts ∙ first.counts;
  }

  pub stop_among : (xs : List A) (x : A) (later : List A) (bs : List B) (stop : Stop) → Came (files_states a b) (each check xs) (gave bs) → Stopped (files_states b c) stop (check x)
      → Stopped (files_states a c) stop (each check (xs ++ x ∷ later))
  stop_among xs x later bs (Refused line) first last = record {
    kept = last.kept ∙ first.kept;
    ends = one_refused a.told check xs x later bs line.items first.ends (subst (λ told. Ends told (check x) (refused line.items)) first.kept last.ends);
    counts = last.counts ∙ first.counts;
  }
  stop_among xs x later bs (Failed name) first last = record {
    kept = last.kept ∙ first.kept;
    ends = one_failed a.told check xs x later bs name first.ends (subst (λ told. Ends told (check x) (failed name)) first.kept last.ends);
    counts = counts_after {A = List B} a b c (failed name) first.counts last.counts;
  }
  stop_among xs x later bs NoMemory first last = tt

-- ---- the elements of a list for which a name is found, in a loop over the list

module _ {X A : Type 0} (found : X → Option A) where
  -- what is found of one element more
  abbrev pub found_one : (x : X) (o : Option A) → found x ≡ o → List A
  found_one x None is = []
  found_one x (Some a) is = a ∷ []

  found_next : (x : X) (o : Option A) (is : found x ≡ o) → filter_map found (x ∷ []) ≡ found_one x o is
  found_next x None is = rw is refl
  found_next x (Some a) is = rw is refl

  pub taken_more : (xs : List X) (i : ℕ) (x : X) (o : Option A) (is : found x ≡ o) → i < length xs → x ≡ get_or xs i x
      → filter_map found (take (i + 1) xs) ≡ filter_map found (take i xs) ++ found_one x o is
  taken_more xs i x o is lt at =
      ap (filter_map found) (take_more xs i x lt ∙ ap (λ z. take i xs ++ z ∷ []) (sym at))
      ∙ filter_map-append found (take i xs) (x ∷ []) ∙ ap (λ ys. filter_map found (take i xs) ++ ys) (found_next x o is)

  -- the whole list, parted at an element for which a name is found
  pub taken_at : (xs : List X) (i : ℕ) (x : X) (a : A) → found x ≡ Some a → i < length xs → x ≡ get_or xs i x
      → filter_map found xs ≡ filter_map found (take i xs) ++ a ∷ filter_map found (drop (i + 1) xs)
  taken_at xs i x a is lt at =
      ap (filter_map found) (sym (take-append-drop (i + 1) xs))
      ∙ filter_map-append found (take (i + 1) xs) (drop (i + 1) xs)
      ∙ ap (λ ys. ys ++ filter_map found (drop (i + 1) xs)) (taken_more xs i x (Some a) is lt at)
      ∙ append_assoc (filter_map found (take i xs)) (a ∷ []) (filter_map found (drop (i + 1) xs))
