-- What is said of feeds by their views, as one of them changes or all are cleared.
use Rattle.std.proofs.Common.{◌≡◌, ◌≢◌, refl, ap, sym, subst, set, ◌∙◌, ℕ, zero, suc, ◌+◌, ◌<◌, ◌≤◌, ◌&&◌, ◌||◌, Bool, List, [], ◌∷◌, ◌++◌, length, map, get_or, take, arith, inl, inr}
use Rattle.std.specs.Prelude.{Result, Ok, Err, OnOk}
use Rattle.std.specs.List.{list_any, list_all}
use Rattle.std.proofs.lemmas.Bool.Decides.{eqb_tells}
use Rattle.std.proofs.lemmas.Bool.{cases_eq}
use Rattle.std.proofs.lemmas.List.{get_or-set_same, get_or-set_other, get_or_append_left, get_or-append-add, length-append, take_more}
use Rattle.messages.specs.Code.Hearing.{IsEmpty, AreEmpty}
use Rattle.messages.specs.Feeds.{carries_at}
use Rattle.messages.specs.Ports.{PortKey}
use Rattle.messages.specs.declared.feed.Feed.{Feed}

module _ {X Y : Type 0} (f : X → Y) where
  pub views-set : (xs : List X) (k : ℕ) (x : X) → map f (set xs k x) ≡ set (map f xs) k (f x)
  views-set [] k x = refl
  views-set (y ∷ xs) zero x = refl
  views-set (y ∷ xs) (suc k) x = ap (λ l. f y ∷ l) (views-set xs k x)

  pub views-get : (xs : List X) (k : ℕ) (d : X) (e : Y) → k < length xs → get_or (map f xs) k e ≡ f (get_or xs k d)
  views-get [] k d e below = absurd (omega arith)
  views-get (x ∷ xs) zero d e below = refl
  views-get (x ∷ xs) (suc k) d e below = views-get xs k d e (omega arith)

  pub views-length : (xs : List X) → length (map f xs) ≡ length xs
  views-length [] = refl
  views-length (x ∷ xs) = ap suc (views-length xs)

  pub views-all : (p : Y → Bool) (xs : List X) → list_all p (map f xs) ≡ list_all (λ x. p (f x)) xs
  views-all p [] = refl
  views-all p (x ∷ xs) = ap (λ b. p (f x) && b) (views-all p xs)

  pub views-any : (p : Y → Bool) (xs : List X) → list_any p (map f xs) ≡ list_any (λ x. p (f x)) xs
  views-any p [] = refl
  views-any p (x ∷ xs) = ap (λ b. p (f x) || b) (views-any p xs)

-- one more of a list is changed in a way that is said of it and what it was
module _ {X : Type 0} (P : X → X → Type 0) where
  pub changed_more : (first now : List X) (n : ℕ) (was f : X) → n < length now → was ≡ get_or now n was → P was f
      → ((k : ℕ) (d : X) → k < n → P (get_or first k d) (get_or now k d)) → ((k : ℕ) (d : X) → n ≤ k → get_or now k d ≡ get_or first k d)
      → (k : ℕ) (d : X) → k < n + 1 → P (get_or first k d) (get_or (set now n f) k d)
  changed_more first now n was f within is fresh before others k d below = elim (eqb_tells n k) [
    | inl one ↦
        let e : n ≡ k = one.1 in
        let at : get_or first n d ≡ was = sym (others n d (omega arith)) ∙ same_default now n d was within ∙ sym is in
        subst (λ (m : ℕ). P (get_or first m d) (get_or (set now n f) m d)) e
        (subst (λ (x : X). P x (get_or (set now n f) n d)) (sym at)
        (subst (λ (x : X). P was x) (sym (get_or-set_same now n f d within)) fresh))
    | inr apart ↦
        let less : k < n = (let no_one : n ≢ k = apart.1 in omega arith) in
        subst (λ (x : X). P (get_or first k d) x) (sym (get_or-set_other now n k f d (λ e. apart.1 (sym e)))) (before k d less)
  ]
    where
      same_default : (xs : List X) (k : ℕ) (c d : X) → k < length xs → get_or xs k c ≡ get_or xs k d
      same_default [] k c d less = absurd (omega arith)
      same_default (x ∷ xs) zero c d less = refl
      same_default (x ∷ xs) (suc k) c d less = same_default xs k c d (omega arith)

pub others_more : {X : Type 0} (first now : List X) (n : ℕ) (f : X) → ((k : ℕ) (d : X) → n ≤ k → get_or now k d ≡ get_or first k d) → (k : ℕ) (d : X) → n + 1 ≤ k → get_or (set now n f) k d ≡ get_or first k d
others_more first now n f others k d above = get_or-set_other now n k f d (let apart : k ≢ n = omega arith in apart) ∙ others k d (omega arith)

-- what follows from what holds on Ok
pub on_ok : {A E P Q : Type 0} (r : Result A E) → (P → Q) → OnOk r P → OnOk r Q
on_ok (Ok x) f p = f p
on_ok (Err e) f p = p

-- ---- feeds on which nothing came

one_empty_more : (ports : List PortKey) (feed_ports : List ℕ) (feeds : List Feed) (port : ℕ) (feed : Feed) → AreEmpty ports feed_ports feeds → IsEmpty port (carries_at ports port) feed → AreEmpty ports (feed_ports ++ port ∷ []) (feeds ++ feed ∷ [])
one_empty_more ports feed_ports feeds port feed before empty =
    let many : length (feeds ++ feed ∷ []) ≡ length feeds + 1 = length-append feeds (feed ∷ []) in
    let more : length (feed_ports ++ port ∷ []) ≡ length feed_ports + 1 = length-append feed_ports (port ∷ []) in
    record {
      count = omega (arith, many, more, before.count);
      each = λ k d lt. elim (cases_eq k (length feeds)) [
        | inl last ↦
            let here : get_or (feed_ports ++ port ∷ []) k 0 ≡ port = ap (λ j. get_or (feed_ports ++ port ∷ []) j 0) (omega (arith, last, before.count)) ∙ get_or-append-add feed_ports (port ∷ []) 0 0 in
            let there : get_or (feeds ++ feed ∷ []) k d ≡ feed = ap (λ j. get_or (feeds ++ feed ∷ []) j d) (omega (arith, last)) ∙ get_or-append-add feeds (feed ∷ []) 0 d in
            subst (λ (X : Type 0). X) (λ j. IsEmpty (sym here j) (carries_at ports (sym here j)) (sym there j)) empty
        | inr other ↦
            let below : k < length feeds = omega (arith, many, lt, other) in
            let here : get_or (feed_ports ++ port ∷ []) k 0 ≡ get_or feed_ports k 0 = get_or_append_left feed_ports (port ∷ []) 0 k (omega (arith, below, before.count)) in
            let there : get_or (feeds ++ feed ∷ []) k d ≡ get_or feeds k d = get_or_append_left feeds (feed ∷ []) d k below in
            subst (λ (X : Type 0). X) (λ j. IsEmpty (sym here j) (carries_at ports (sym here j)) (sym there j)) (before.each k d below)
      ];
    }

-- one more of the next port
pub empty_more : (ports : List PortKey) (feed_ports : List ℕ) (i : ℕ) (feeds longer : List Feed) (feed : Feed) → i < length feed_ports → AreEmpty ports (take i feed_ports) feeds → IsEmpty (get_or feed_ports i 0) (carries_at ports (get_or feed_ports i 0)) feed → longer ≡ feeds ++ feed ∷ [] → AreEmpty ports (take (i + 1) feed_ports) longer
empty_more ports feed_ports i feeds longer feed lt before empty pushed =
    rw (pushed, take_more feed_ports i 0 lt) (one_empty_more ports (take i feed_ports) feeds (get_or feed_ports i 0) feed before empty)
