-- One more name in an index of names.
use Rattle.std.proofs.Common.{◌≡◌, ◌<◌, ◌+◌, inl, inr, ℕ, suc, Bool, true, false, cond, if◌then◌else◌, is_some, Bor, Option, None, Some, List, [], ◌∷◌, ◌++◌, map, length, take, get_or, refl, arith, ap, sym, subst, ◌∙◌}
use Rattle.std.specs.BTreeMap.{BTreeMap, get, is_at}
use Rattle.std.specs.List.{position_from}
use Rattle.std.specs.Option.{option_or}
use Rattle.std.specs.Str.{bytes_eq}
use Rattle.std.proofs.lemmas.Bool.{cases_Bool, true≢false}
use Rattle.std.proofs.lemmas.List.{take_more, map-append, length-map, length-take, get_or-map}
use Rattle.std.proofs.lemmas.Map.Text.{is_eq-slice_cmp}
use Rattle.bloom_forms.specs.Query.{Name}
use Rattle.topo_forms.specs.declared.kept.Kept.{Kept}
use Rattle.topo_forms.specs.declared.kept.KeptComponent.{KeptComponent}
use Rattle.topo_forms.specs.declared.kept.KeptStream.{KeptStream}
use Rattle.bloom_forms.specs.declared.mode.Mode.TheVariants.{Free}
use Rattle.topo_forms.specs.Code.Index.{name_cmp, place_in, Places, AllPlaces, IsIndex}
use Rattle.topo_forms.specs.Kept.{view_kept, stream_kept, component_kept, port_kept}
use Rattle.topo_forms.specs.View.{Component, component_at, no_component, number_named}
use Rattle.topo_forms.proofs.Views.ViewParts.{same_bytes}

or_none : {X : Type 0} (o : Option X) → option_or o None ≡ o
or_none None = refl
or_none (Some x) = refl

or_some : {X : Type 0} (o p : Option X) → is_some o ≡ true → option_or o p ≡ o
or_some None p e = absurd (true≢false (sym e))
or_some (Some x) p e = refl

is_none_of : {X : Type 0} (o : Option X) → is_some o ≡ false → o ≡ None
is_none_of None e = refl
is_none_of (Some x) e = absurd (true≢false e)

position_more : {X : Type 0} (test : X → Bool) (at : ℕ) (xs : List X) (x : X) → position_from test at (xs ++ x ∷ []) ≡ option_or (position_from test at xs) (if test x then Some (at + length xs) else None)
position_more test at [] x = elim (cases_Bool (test x)) [
  | inl t ↦ let z : at ≡ at + 0 = omega arith in rw t (ap Some z)
  | inr f ↦ rw f refl
]
position_more test at (y ∷ ys) x = elim (cases_Bool (test y)) [
  | inl t ↦ rw t refl
  | inr f ↦ let z : at + 1 + length ys ≡ at + suc (length ys) = omega arith in rw f (position_more test (at + 1) ys x ∙ ap (λ (n : ℕ). option_or (position_from test (at + 1) ys) (if test x then Some n else None)) z)
]

place_more : (names : List Name) (x name : Name) → place_in (names ++ x ∷ []) name ≡ option_or (place_in names name) (if bytes_eq x name then Some (length names) else None)
place_more names x name = let z : 0 + length names ≡ length names = omega arith in position_more (λ held. bytes_eq held name) 0 names x ∙ ap (λ (n : ℕ). option_or (place_in names name) (if bytes_eq x name then Some n else None)) z

module _ (names : List Name) (x : Name) (m : BTreeMap Name ℕ) (before : Places names m) where
  -- a name that is there keeps its place
  stays : is_some (get name_cmp m x) ≡ true → Places (names ++ x ∷ []) m
  stays there name = before name ∙ sym (place_more names x name ∙ elim (cases_Bool (bytes_eq x name)) [
    | inl t ↦ or_some (place_in names name) _ (subst (λ (n : Name). is_some (place_in names n) ≡ true) (same_bytes x name t) (ap is_some (sym (before x)) ∙ there))
    | inr f ↦ rw f (or_none (place_in names name))
  ])

  -- a new name gets the next place
  grows : (n : BTreeMap Name ℕ) (place : ℕ) → place ≡ length names → is_some (get name_cmp m x) ≡ false → ((name : Name) → get name_cmp n name ≡ cond (is_at (name_cmp x) name) (Some place) (get name_cmp m name)) → Places (names ++ x ∷ []) n
  grows n place is absent updates name = updates name ∙ ap (λ (b : Bool). cond b (Some place) (get name_cmp m name)) (is_eq-slice_cmp x name) ∙ elim (cases_Bool (bytes_eq x name)) [
    | inl t ↦
        let none : place_in names name ≡ None = subst (λ (k : Name). place_in names k ≡ None) (same_bytes x name t) (sym (before x) ∙ is_none_of (get name_cmp m x) absent) in
        rw t (ap Some is ∙ sym (place_more names x name ∙ rw (none, t) refl))
    | inr f ↦ rw f (before name ∙ sym (place_more names x name ∙ rw f (or_none (place_in names name))))
  ]

-- ---- step by step, as the code goes through names

abbrev pub shown : List (Bor Name) → List Name
shown names = map (λ name. name.now) names

module _ (all : List (Bor Name)) (at : ℕ) (d : Bor Name) (lt : at < length all) where
  shown_more : shown (take (at + 1) all) ≡ shown (take at all) ++ (get_or all at d).now ∷ []
  shown_more = ap shown (take_more all at d lt) ∙ map-append (λ (name : Bor Name). name.now) (take at all) (get_or all at d ∷ [])

  length_taken : length (take at all) ≡ at
  length_taken = omega (arith, lt, length-take {A = Bor Name})

  length_shown : length (shown (take at all)) ≡ at
  length_shown = length-map (take at all) (λ (name : Bor Name). name.now) ∙ length_taken

  pub place_stays : (m : BTreeMap Name ℕ) → Places (shown (take at all)) m → is_some (get name_cmp m (get_or all at d).now) ≡ true → Places (shown (take (at + 1) all)) m
  place_stays m before there = subst (λ (names : List Name). Places names m) (sym shown_more) (stays (shown (take at all)) (get_or all at d).now m before there)

  pub place_grows : (m n : BTreeMap Name ℕ) → Places (shown (take at all)) m → is_some (get name_cmp m (get_or all at d).now) ≡ false
      → ((name : Name) → get name_cmp n name ≡ cond (is_at (name_cmp (get_or all at d).now) name) (Some at) (get name_cmp m name)) → Places (shown (take (at + 1) all)) n
  place_grows m n before absent updates = subst (λ (names : List Name). Places names n) (sym shown_more) (grows (shown (take at all)) (get_or all at d).now m before n at (sym length_shown) absent updates)

-- ---- components

position-map : {X Y : Type 0} (f : X → Y) (test : Y → Bool) (at : ℕ) (xs : List X) → position_from test at (map f xs) ≡ position_from (λ x. test (f x)) at xs
position-map f test at [] = refl
position-map f test at (x ∷ xs) = let more = position-map f test (at + 1) xs in rw more refl

-- the number of the first part that has a name is the first place of the name among the names
place_is : {X Y : Type 0} (f : X → Y) (name_of : Y → Name) (own : X → Name) (same : (x : X) → name_of (f x) ≡ own x) (xs : List X) (name : Name) → place_in (map own xs) name ≡ number_named name_of (map f xs) name
place_is f name_of own same xs name =
    position-map own (λ held. bytes_eq held name) 0 xs
    ∙ (λ i. position_from (λ x. bytes_eq (sym (same x) i) name) 0 xs)
    ∙ sym (position-map f (λ y. bytes_eq (name_of y) name) 0 xs)

-- ---- the whole

none_kept : KeptComponent
none_kept = record { name = []; program = None; mode = Free; replicas = 0; ports = []; outputs = []; notes = [] }

pub index_of : (kept : Kept) (streams components : BTreeMap Name ℕ) (ports : List (BTreeMap Name ℕ))
    → Places (map (λ (s : KeptStream). s.name) kept.streams) streams
    → Places (map (λ (c : KeptComponent). c.name) kept.components) components
    → length ports ≡ length kept.components → AllPlaces kept.components ports
    → IsIndex (view_kept kept) (record { streams = streams; components = components; ports = ports })
index_of kept streams components ports one two each all = record {
  streams = λ name. one name ∙ place_is stream_kept (λ s. s.name) (λ s. s.name) (λ s. refl) kept.streams name;
  components = λ name. two name ∙ place_is component_kept (λ c. c.name) (λ c. c.name) (λ c. refl) kept.components name;
  each = each ∙ sym (length-map kept.components component_kept);
  ports = λ c d name lt.
      let count = length-map kept.components component_kept in
      let within : c < length kept.components = omega (arith, lt, count) in
      let at : component_at (view_kept kept) c ≡ component_kept (get_or kept.components c none_kept) = get_or-map component_kept kept.components c none_kept no_component within in
      all c none_kept d (omega (arith, within, each)) name
      ∙ place_is port_kept (λ p. p.name) (λ p. p.name) (λ p. refl) (get_or kept.components c none_kept).ports name
      ∙ ap (λ (x : Component). number_named (λ p. p.name) x.ports name) (sym at);
}
