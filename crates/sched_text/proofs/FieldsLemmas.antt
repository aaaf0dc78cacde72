-- The first field of a line.
use Rattle.std.proofs.Common.{◌≡◌, ◌≢◌, ℕ, ◌+◌, length, arith, Bool, true, false, cond, not, ◌&&◌, List, [], ◌∷◌, take, drop, filter, refl, ap, ◌∙◌, sym, subst, one-add}
use Rattle.std.specs.List.{prefix_len, list_all}
use Rattle.sched_text.specs.Lines.{has_bytes}
use Rattle.sched_text.specs.Fields.{Field, is_blank, fields_of}
use Rattle.sched_text.specs.Kinds.{is_empty}
use Rattle.sched_text.proofs.SplitLemmas.{front_size, parts_behind, slice_split-front}

-- ---- blanks in front

pub fields_of-blank : (byte : ℕ) (text : List ℕ) → is_blank byte ≡ true → fields_of (byte ∷ text) ≡ fields_of text
fields_of-blank byte text blank = rw blank refl

blanks_step : (byte : ℕ) (text : List ℕ) (blank : Bool) → is_blank byte ≡ blank → fields_of text ≡ fields_of (drop (prefix_len is_blank text) text) → fields_of (byte ∷ text) ≡ fields_of (drop (cond blank (1 + prefix_len is_blank text) 0) (byte ∷ text))
blanks_step byte text true e rest = fields_of-blank byte text e ∙ rw one-add rest
blanks_step byte text false e rest = refl

-- they don't count
pub fields_of-blanks : (text : List ℕ) → fields_of text ≡ fields_of (drop (prefix_len is_blank text) text)
fields_of-blanks [] = refl
fields_of-blanks (byte ∷ text) = blanks_step byte text (is_blank byte) refl (fields_of-blanks text)

-- ---- a field in front

abbrev StartsBlank : List ℕ → Type 0
StartsBlank [] = Unit {0}
StartsBlank (byte ∷ text) = is_blank byte ≡ true

blank_step : (byte : ℕ) (text : List ℕ) (blank : Bool) → is_blank byte ≡ blank → StartsBlank (drop (front_size is_blank text) text) → StartsBlank (drop (cond (not blank) (1 + front_size is_blank text) 0) (byte ∷ text))
blank_step byte text true e rest = e
blank_step byte text false e rest = rw one-add rest

-- behind a field stands a blank or nothing
blank_behind : (text : List ℕ) → StartsBlank (drop (front_size is_blank text) text)
blank_behind [] = tt
blank_behind (byte ∷ text) = blank_step byte text (is_blank byte) refl (blank_behind text)

fields_behind : (rest : List ℕ) → StartsBlank rest → filter has_bytes (parts_behind is_blank rest) ≡ fields_of rest
fields_behind [] blank = refl
fields_behind (byte ∷ text) blank = sym (fields_of-blank byte text blank)

-- the bytes before the first blank are a field, where there are any
pub fields_of-front : (text : List ℕ) → let size = front_size is_blank text in fields_of text ≡ cond (has_bytes (take size text)) (take size text ∷ fields_of (drop size text)) (fields_of (drop size text))
fields_of-front text =
    let size = front_size is_blank text in
    let behind : filter has_bytes (parts_behind is_blank (drop size text)) ≡ fields_of (drop size text) = fields_behind (drop size text) (blank_behind text) in
    ap (filter has_bytes) (slice_split-front is_blank text) ∙ ap (λ (fields : List Field). cond (has_bytes (take size text)) (take size text ∷ fields) fields) behind

some_field : (text : List ℕ) → has_bytes (take (front_size is_blank text) text) ≡ false → StartsBlank text
some_field [] e = tt
some_field (byte ∷ text) e = go (is_blank byte) refl e
  where
    go : (b : Bool) → is_blank byte ≡ b → has_bytes (take (cond (not b) (1 + front_size is_blank text) 0) (byte ∷ text)) ≡ false → is_blank byte ≡ true
    go true is e = is
    go false is e = (let bad : true ≡ false = rw one-add at e in cc)

stops : (byte : ℕ) (text : List ℕ) (blank : Bool) → is_blank byte ≡ blank → (StartsBlank (drop (prefix_len is_blank text) text) → drop (prefix_len is_blank text) text ≡ []) → StartsBlank (drop (cond blank (1 + prefix_len is_blank text) 0) (byte ∷ text)) → drop (cond blank (1 + prefix_len is_blank text) 0) (byte ∷ text) ≡ []
stops byte text true e rest blank = rw one-add (rest (rw one-add at blank))
stops byte text false e rest blank = (let bad : true ≡ false = sym blank ∙ e in cc)

-- behind blanks stands no blank
no_blank : (text : List ℕ) → StartsBlank (drop (prefix_len is_blank text) text) → drop (prefix_len is_blank text) text ≡ []
no_blank [] blank = refl
no_blank (byte ∷ text) blank = stops byte text (is_blank byte) refl (no_blank text) blank

-- ---- no field

no_fields : (byte : ℕ) (text : List ℕ) (blank : Bool) → is_blank byte ≡ blank → list_all is_blank text ≡ is_empty (fields_of text) → (blank && list_all is_blank text) ≡ is_empty (fields_of (byte ∷ text))
no_fields byte text true e rest = rest ∙ ap is_empty (sym (fields_of-blank byte text e))
no_fields byte text false e rest =
    let size : front_size is_blank (byte ∷ text) ≡ 1 + front_size is_blank text = rw e refl in
    let front : fields_of (byte ∷ text) ≡ cond (has_bytes (take (1 + front_size is_blank text) (byte ∷ text))) (take (1 + front_size is_blank text) (byte ∷ text) ∷ fields_of (drop (1 + front_size is_blank text) (byte ∷ text))) (fields_of (drop (1 + front_size is_blank text) (byte ∷ text))) = subst (λ (n : ℕ). fields_of (byte ∷ text) ≡ cond (has_bytes (take n (byte ∷ text))) (take n (byte ∷ text) ∷ fields_of (drop n (byte ∷ text))) (fields_of (drop n (byte ∷ text)))) size (fields_of-front (byte ∷ text)) in
    sym (ap is_empty (rw one-add at front))

-- where there is nothing but blanks
pub no_fields-blanks : (text : List ℕ) → list_all is_blank text ≡ is_empty (fields_of text)
no_fields-blanks [] = refl
no_fields-blanks (byte ∷ text) = no_fields byte text (is_blank byte) refl (no_fields-blanks text)

-- ---- taking a field: the one that stands behind the blanks, up to the next blank

empty_field : (field : Field) → length field ≡ 0 → has_bytes field ≡ false
empty_field [] e = refl
empty_field (byte ∷ field) e = absurd (omega arith)

full_field : (field : Field) → length field ≢ 0 → has_bytes field ≡ true
full_field [] e = absurd (e refl)
full_field (byte ∷ field) e = refl

module _ (text behind field rest : List ℕ) (skipped size : ℕ) (skips : skipped ≡ prefix_len is_blank text) (goes : behind ≡ drop skipped text) (counts : size ≡ front_size is_blank behind) (front : field ≡ take size behind) (back : rest ≡ drop size behind) where
  behind_is : behind ≡ drop (prefix_len is_blank text) text
  behind_is = rw skips at goes

  field_is : field ≡ take (front_size is_blank behind) behind
  field_is = rw counts at front

  rest_is : rest ≡ drop (front_size is_blank behind) behind
  rest_is = rw counts at back

  -- the fields of the text are those of what is behind the blanks
  fields_stay : fields_of text ≡ fields_of behind
  fields_stay = fields_of-blanks text ∙ ap fields_of (sym behind_is)

  pub taken_field : length field ≢ 0 → fields_of text ≡ field ∷ fields_of rest
  taken_field some =
      let full : has_bytes (take (front_size is_blank behind) behind) ≡ true = subst (λ (x : Field). has_bytes x ≡ true) field_is (full_field field some) in
      fields_stay ∙ fields_of-front behind ∙ rw (full, ← field_is, ← rest_is) refl

  pub no_field : length field ≡ 0 → (fields_of text ≡ []) × (fields_of rest ≡ [])
  no_field none =
      let empty : has_bytes (take (front_size is_blank behind) behind) ≡ false = subst (λ (x : Field). has_bytes x ≡ false) field_is (empty_field field none) in
      let blank : StartsBlank (drop (prefix_len is_blank text) text) = subst StartsBlank behind_is (some_field behind empty) in
      let nothing : behind ≡ [] = behind_is ∙ no_blank text blank in
      (fields_stay ∙ ap fields_of nothing, ap fields_of (rest_is ∙ ap (λ (x : List ℕ). drop (front_size is_blank x) x) nothing))
