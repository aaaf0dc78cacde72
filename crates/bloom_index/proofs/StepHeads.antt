-- A head in a step: what its rules give, over what was and over what is, and the set that it gets.
-- The collections are seen thrice: `sets` are those of bloom_eval, where the heads are taken one after the other; `seen` is what evaluation sees,
-- where an output may lack rows and a collection that is kept and isn't taken yet has its old ones; `past` is what evaluation takes for old.
use Rattle.std.proofs.Common.{◌≡◌, ◌≢◌, ◌<◌, ◌≤◌, ℕ, Bool, true, false, ◌∷◌, ◌++◌, [], List, length, Option, None, Some, Ok, Err, refl, ap, ◌∙◌, sym, subst, ◌⊎◌, inl, inr, arith}
use Rattle.std.specs.Prelude.{◌==◌, slice_set}
use Rattle.std.proofs.lemmas.Bool.{eq-eqb, true≢false}
use Rattle.std.proofs.lemmas.List.{get_or-set_same, get_or-set_other}
use Rattle.std.proofs.lemmas.Slice.Zip.{AllZip-long}
use Rattle.blz_value.specs.Members.{Has, IsWithin}
use Rattle.blz_value.specs.Record.{Row}
use Rattle.blz_value.specs.Sets.{set_of}
use Rattle.blz_value.proofs.Membership.{Has-append_right, Has-append_cases, Has-filter, Has-from_filter, Has-flat_map, Has-from_flat_map}
use Rattle.blz_value.proofs.RowSets.{same_set_of}
use Rattle.blz_value.proofs.SetLaws.{Has-set_of, Has-from_set_of}
use Rattle.blz_set.specs.declared.fault.SetFault.{SetFault}
use Rattle.blz_set.specs.declared.fault.SetFault.TheVariants.{TooManyRows, NoMemory}
use Rattle.bloom_forms.specs.declared.module.Kind.{Kind}
use Rattle.bloom_forms.specs.declared.module.Kind.TheVariants.{Input, Output, Table, Scratch}
use Rattle.bloom_forms.specs.declared.module.Collection.{Collection}
use Rattle.bloom_forms.specs.declared.numbered.NumberedRule.{NumberedRule}
use Rattle.bloom_forms.specs.declared.program.Program.TheVariants.{Module}
use Rattle.bloom_forms.specs.Checks.{IsChecked}
use Rattle.bloom_forms.specs.Form.{RuleForm, Accepted}
use Rattle.bloom_forms.specs.Heads.{names_of, IsDerived}
use Rattle.bloom_forms.specs.Kinds.{kind_at, place_in_kind}
use Rattle.bloom_forms.specs.Lookup.{collection_number, declared}
use Rattle.bloom_forms.specs.Numbered.{IsNumberedRule, AreNumbered}
use Rattle.bloom_forms.specs.Program.{columns_of_kind}
use Rattle.bloom_forms.specs.ProgramStep.{no_arrivals}
use Rattle.bloom_forms.specs.Query.{Name}
use Rattle.bloom_forms.specs.Rows.{rows_of}
use Rattle.bloom_forms.specs.Step.{Sets, set_at, rows_named, begun, ended, at_start, rules_at, ruled_at, at_end, tables_after}
use Rattle.bloom_forms.specs.Widths.{AreSetsOf}
use Rattle.bloom_forms.proofs.Collections.Numbers.{derived-some, derived-no_port, set-of_kind, get-within}
use Rattle.bloom_forms.proofs.Ends.Equated.{same_union, names_none, untouched, starts, ends, length-at_end}
use Rattle.bloom_forms.proofs.Reach.ReadsLemmas.{reads}
use Rattle.bloom_eval.specs.Counted.{TakesHead}
use Rattle.bloom_eval.specs.NumberedRows.{numbered_rows}
use Rattle.bloom_eval.specs.StepAnswers.{AllFit, SomeIsOver}
use Rattle.bloom_eval.proofs.ByNumbers as numbers
use Rattle.bloom_eval.proofs.Taking.{IsAt, same_rule_sets}
use Rattle.bloom_eval.proofs.Widths.{length-sets_of_all}
use Rattle.bloom_index.specs.Code.Evaluation.{HaveGrown}
use Rattle.bloom_index.specs.Code.Growth.{grows_at, grows, kind_grows, rules_grow, AreGrowing}
use Rattle.bloom_index.specs.Code.HeadRules.{head_sets}
use Rattle.bloom_index.specs.Code.Lasting.{lasts, AreLasting, GrowLast, KeepsEnough}
use Rattle.bloom_index.proofs.GrowsLemmas.{bodies_grow}
use Rattle.bloom_index.proofs.LastsLemmas.{enough, grow_last, grow_lasts}
use Rattle.bloom_index.proofs.Monotone.{grown}
use Rattle.bloom_index.proofs.StandsAlong.{AgreeOn, agree_named, same_part}

-- ---- rules and their forms

pub form_of : (cs : List Collection) (forms : List RuleForm) (rules : List NumberedRule) → AreNumbered cs forms rules → (rule : NumberedRule) → Has rule rules → (form : RuleForm) × Has form forms × IsNumberedRule cs form rule
form_of cs [] [] all rule h = absurd h
form_of cs [] (r ∷ rules) all rule h = absurd all
form_of cs (f ∷ forms) [] all rule h = absurd all
form_of cs (f ∷ forms) (r ∷ rules) all rule (inl e) = (f, inl refl, subst (IsNumberedRule cs f) e all.0)
form_of cs (f ∷ forms) (r ∷ rules) all rule (inr h) = let m = form_of cs forms rules all.1 rule h in (m.0, inr m.1, m.2)

pub rule_for : (cs : List Collection) (forms : List RuleForm) (rules : List NumberedRule) → AreNumbered cs forms rules → (form : RuleForm) → Has form forms → (rule : NumberedRule) × Has rule rules × IsNumberedRule cs form rule
rule_for cs [] [] all form h = absurd h
rule_for cs [] (r ∷ rules) all form h = absurd all
rule_for cs (f ∷ forms) [] all form h = absurd all
rule_for cs (f ∷ forms) (r ∷ rules) all form (inl e) = (r, inl refl, subst (λ (x : RuleForm). IsNumberedRule cs x r) e all.0)
rule_for cs (f ∷ forms) (r ∷ rules) all form (inr h) = let m = rule_for cs forms rules all.1 form h in (m.0, inr m.1, m.2)

-- ---- kinds

-- what rules give stands among what a head holds in the end
ruled_ends : (o : Option Kind) (kept now ruled : List Row) → o ≢ None → o ≢ Some Input → (row : Row) → Has row ruled → Has row (ended o kept now ruled)
ruled_ends None kept now ruled some port row h = absurd (some refl)
ruled_ends (Some Input) kept now ruled some port row h = absurd (port refl)
ruled_ends (Some Output) kept now ruled some port row h = Has-set_of row ruled h
ruled_ends (Some Table) kept now ruled some port row h = Has-set_of row (kept ++ ruled) (Has-append_right row kept ruled h)
ruled_ends (Some Scratch) kept now ruled some port row h = Has-set_of row ruled h

-- a head that is no table has what rules give, and nothing else
pub plainly_ends : (o : Option Kind) (kept now ruled : List Row) → o ≢ None → o ≢ Some Input → o ≢ Some Table → ended o kept now ruled ≡ set_of ruled
plainly_ends None kept now ruled some port other = absurd (some refl)
plainly_ends (Some Input) kept now ruled some port other = absurd (port refl)
plainly_ends (Some Output) kept now ruled some port other = refl
plainly_ends (Some Table) kept now ruled some port other = absurd (other refl)
plainly_ends (Some Scratch) kept now ruled some port other = refl

kind_cases : (o : Option Kind) → (o ≡ Some Table) ⊎ (o ≢ Some Table)
kind_cases None = inr (λ e. cc)
kind_cases (Some Input) = inr (λ e. cc)
kind_cases (Some Output) = inr (λ e. cc)
kind_cases (Some Table) = inl refl
kind_cases (Some Scratch) = inr (λ e. cc)

-- ---- the setting of a step

-- what the collections hold with nothing arriving
abbrev pub quiet : Accepted → (tables : Sets) → Sets
quiet a tables = at_end a tables (no_arrivals (Module a))

-- a checked module by numbers, what grows and what is kept, tables that stand still, and what arrives
pub record IsStep (a : Accepted) (rules : List NumberedRule) (growing lasting : List Bool) (tables now : Sets) : Type 0 where
  pub checked : IsChecked a.form a.heads
  pub numbered : AreNumbered a.form.collections a.form.rules rules
  pub are : AreGrowing a growing
  pub last : AreLasting a lasting
  pub still : tables_after a tables (no_arrivals (Module a)) ≡ tables
  pub kept : AreSetsOf (columns_of_kind Table a.form.collections) tables
  pub ports : AreSetsOf (columns_of_kind Input a.form.collections) now

module _ (a : Accepted) (rules : List NumberedRule) (growing lasting : List Bool) (tables now : Sets) (st : IsStep a rules growing lasting tables now) where
  abbrev cs : List Collection
  cs = a.form.collections

  pub tables_grow : (k : ℕ) → kind_at a.form.collections k ≡ Some Table → grows_at growing k ≡ true
  tables_grow k is = st.are.each k ∙ ap (λ (o : Option Kind). kind_grows o (rules_grow a.form k)) is

  pub no_table : (k : ℕ) → grows_at growing k ≡ false → kind_at a.form.collections k ≢ Some Table
  no_table k none is = true≢false (sym (tables_grow k is) ∙ none)

  -- the table of a step with nothing arriving is that which is kept
  pub quiet_table : (k : ℕ) → kind_at a.form.collections k ≡ Some Table → set_at (quiet a tables) k ≡ set_at tables (place_in_kind Table a.form.collections k)
  quiet_table k is = sym (set-of_kind Table cs (quiet a tables) k (length-at_end a tables (no_arrivals (Module a))) is) ∙ ap (λ (l : Sets). set_at l (place_in_kind Table cs k)) st.still

  -- the rules are few, and each keeps enough of its body
  pub few_rules : length rules ≤ 64
  few_rules = omega (arith, st.checked.few_rules, AllZip-long (IsNumberedRule cs) a.form.rules rules st.numbered)

  pub keeps_enough : (rule : NumberedRule) → Has rule rules → KeepsEnough lasting rule.body
  keeps_enough rule among = let f = form_of cs a.form.rules rules st.numbered rule among in enough a st.checked lasting st.last f.0 f.1 rule.body f.2.body

  -- what grows is kept
  pub both : GrowLast growing lasting
  both = grow_last a growing lasting st.are st.last

  -- what evaluation takes for new and for old, where these heads are left
  pub record IsView (sets : Sets) (left : List ℕ) (past seen : Sets) : Type 0 where
    pub seen_is : (k : ℕ) → kind_at a.form.collections k ≢ Some Output → set_at seen k ≡ set_at sets k
    pub past_is : (k : ℕ) → ¬ Has k left → set_at past k ≡ set_at (quiet a tables) k
    pub grew : HaveGrown growing past seen

  -- ---- a head, and what its rules read

  module _ (sets : Sets) (h : ℕ) (left : List ℕ) (at : IsAt a (at_start a.form.collections tables now) sets (h ∷ left)) where
    pub derived : IsDerived a.form.collections h
    derived = st.checked.ordered.none_else h (at.within h (inl refl))

    pub within : h < length a.form.collections
    within = get-within cs h derived.collection derived.stands

    pub some_kind : kind_at a.form.collections h ≢ None
    some_kind e = derived-some cs h derived e

    pub no_port : kind_at a.form.collections h ≢ Some Input
    no_port e = derived-no_port cs h derived e

    -- a collection that isn't left holds what it holds in the end
    pub taken : (k : ℕ) → ¬ Has k (h ∷ left) → set_at sets k ≡ set_at (at_end a tables now) k
    taken k lacks = sym (untouched a.form (h ∷ left) sets k lacks) ∙ ap (λ (l : Sets). set_at l k) at.rest

    stands : (rule : RuleForm) → Has rule (rules_at a.form.collections a.form.rules h) → Has rule a.form.rules
    stands rule of_head = (Has-from_filter (λ (r : RuleForm). collection_number cs r.0 == h) rule a.form.rules of_head).0

    pub read : (rule : RuleForm) (n : Name) → Has rule (rules_at a.form.collections a.form.rules h) → Has n (names_of rule.1) → ¬ Has (collection_number a.form.collections n) (h ∷ left)
    read rule n of_head names = names_none a.form h left at.order rule n of_head names

    pub not_out : (rule : RuleForm) (n : Name) → Has rule (rules_at a.form.collections a.form.rules h) → Has n (names_of rule.1) → kind_at a.form.collections (collection_number a.form.collections n) ≢ Some Output
    not_out rule n of_head names is = elim (reads a st.checked rule (stands rule of_head) n names) [
      | inl e ↦ absurd (let bad : Some Output ≡ Some Input = sym is ∙ e in cc)
      | inr other ↦ elim other [
        | inl e ↦ absurd (let bad : Some Output ≡ Some Table = sym is ∙ e in cc)
        | inr e ↦ absurd (let bad : Some Output ≡ Some Scratch = sym is ∙ e in cc)
      ]
    ]

    -- a rule by numbers of the head has a form of the head
    pub record IsOfHead (rule : NumberedRule) : Type 0 where
      pub form : RuleForm
      pub of_head : Has form (rules_at a.form.collections a.form.rules h)
      pub is : IsNumberedRule a.form.collections form rule

    pub own_form : (rule : NumberedRule) → Has rule rules → rule.head ≡ h → IsOfHead rule
    own_form rule among same =
        let f = form_of cs a.form.rules rules st.numbered rule among in
        record { form = f.0; of_head = Has-filter (λ (r : RuleForm). collection_number cs r.0 == h) f.0 a.form.rules f.1 (eq-eqb (collection_number cs f.0.0) h (sym f.2.head ∙ same)); is = f.2 }

    -- sets that hold the same of what isn't left agree on the bodies of the head's rules
    pub agree : (xs ys : Sets) → ((k : ℕ) → ¬ Has k (h ∷ left) → kind_at a.form.collections k ≢ Some Output → set_at xs k ≡ set_at ys k) → (rule : NumberedRule) → IsOfHead rule → AgreeOn lasting xs ys rule.body
    agree xs ys same rule own =
        agree_named cs lasting xs ys own.form.1 rule.body own.is.body (λ n names g. same (collection_number cs n) (read own.form n own.of_head names) (not_out own.form n own.of_head names))

    pub same_ruled : (xs ys : Sets) → ((k : ℕ) → ¬ Has k (h ∷ left) → kind_at a.form.collections k ≢ Some Output → set_at xs k ≡ set_at ys k) → ruled_at a.form xs h ≡ ruled_at a.form ys h
    same_ruled xs ys same =
        same_union (declared cs) (rows_named cs xs) (rows_named cs ys) (rules_at cs a.form.rules h) (λ rule own n names. same (collection_number cs n) (read rule n own names) (not_out rule n own names))

    pub same_head_sets : (xs ys : Sets) → ((k : ℕ) → ¬ Has k (h ∷ left) → kind_at a.form.collections k ≢ Some Output → set_at xs k ≡ set_at ys k) → head_sets a xs h ≡ head_sets a ys h
    same_head_sets xs ys same =
        same_rule_sets (declared cs) (rows_named cs xs) (rows_named cs ys) (rules_at cs a.form.rules h) (λ rule own n names. same (collection_number cs n) (read rule n own names) (not_out rule n own names))

    -- ---- what evaluation sees

    module _ (past seen : Sets) (v : IsView sets (h ∷ left) past seen) where
      apart : (k : ℕ) → ¬ Has k (h ∷ left) → kind_at a.form.collections k ≢ Some Output → set_at seen k ≡ set_at (slice_set sets h []) k
      apart k lacks other = v.seen_is k other ∙ sym (get_or-set_other sets h k [] [] (λ e. lacks (inl (sym e))))

      -- the head is taken, where it gets its rows and what the rules give
      pub takes : (made : List Row) → made ≡ set_of (set_at sets h ++ ruled_at a.form seen h) → AllFit (made ∷ head_sets a seen h) → TakesHead {X = Unit {0}} a.form.collections a.form.rules h sets (slice_set sets h made) (Ok (tt {0}))
      takes made is fit =
          let there : set_at (slice_set sets h made) h ≡ made = get_or-set_same sets h made [] (omega (arith, within, length-sets_of_all cs sets at.wide)) in
          let ruled : ruled_at a.form seen h ≡ ruled_at a.form (slice_set sets h []) h = same_ruled seen (slice_set sets h []) apart in
          let parts : head_sets a seen h ≡ head_sets a (slice_set sets h []) h = same_head_sets seen (slice_set sets h []) apart in (
            (
              there ∙ is ∙ ap (λ (rows : List Row). set_of (set_at sets h ++ rows)) ruled,
              subst (λ (rows : List Row). AllFit (rows ∷ head_sets a (slice_set sets h []) h)) (sym there) (subst (λ (l : Sets). AllFit (made ∷ l)) parts fit),
            ),
            ap (slice_set sets h) (sym there),
          )

      pub takes_none : (new : Sets) (fault : SetFault) → (fault ≡ TooManyRows → SomeIsOver (set_of (set_at sets h ++ ruled_at a.form seen h) ∷ head_sets a seen h)) → TakesHead {X = Unit {0}} a.form.collections a.form.rules h sets new (Err fault)
      takes_none new TooManyRows over =
          let ruled : ruled_at a.form seen h ≡ ruled_at a.form (slice_set sets h []) h = same_ruled seen (slice_set sets h []) apart in
          let parts : head_sets a seen h ≡ head_sets a (slice_set sets h []) h = same_head_sets seen (slice_set sets h []) apart in
          (subst (λ (X : Type 0). X) (λ i. SomeIsOver (set_of (set_at sets h ++ ruled i) ∷ parts i)) (over refl), tt)
      takes_none new NoMemory over = (tt, tt)

      -- the rows of a body over what is old are those with nothing arriving
      old_rows : (rule : NumberedRule) (own : IsOfHead rule) → lasts lasting rule.body ≡ true → numbered_rows past rule.body ≡ rows_of (declared a.form.collections) (rows_named a.form.collections (quiet a tables)) own.form.1
      old_rows rule own g = same_part lasting past (quiet a tables) rule.body (agree past (quiet a tables) (λ k lacks other. v.past_is k lacks) rule own) g ∙ numbers.same_rows cs (quiet a tables) own.form.1 rule.body own.is.body

      -- the old rows of its rules that are kept stand in the head
      pub old_head : (rule : NumberedRule) → Has rule rules → rule.head ≡ h → lasts lasting rule.body ≡ true → IsWithin (numbered_rows past rule.body) (set_at (quiet a tables) h)
      old_head rule among same g q m =
          let own = own_form rule among same in
          let there : Has q (rows_of (declared cs) (rows_named cs (quiet a tables)) own.form.1) = subst (λ (l : List Row). Has q l) (old_rows rule own g) m in
          let ruled : Has q (ruled_at a.form (quiet a tables) h) = Has-flat_map (λ (r : RuleForm). rows_of (declared cs) (rows_named cs (quiet a tables)) r.1) own.form q (rules_at cs a.form.rules h) own.of_head there in
          subst (λ (l : List Row). Has q l) (sym (ends a tables (no_arrivals (Module a)) st.checked.ordered h (inl derived)))
          (ruled_ends (kind_at cs h) (set_at tables (place_in_kind Table cs h)) (set_at (no_arrivals (Module a)) (place_in_kind Input cs h)) (ruled_at a.form (quiet a tables) h) some_kind no_port q ruled)

      -- a head that is no table holds with nothing arriving what its rules give then
      pub quiet_head : kind_at a.form.collections h ≢ Some Table → set_at (quiet a tables) h ≡ set_of (ruled_at a.form (quiet a tables) h)
      quiet_head other =
          ends a tables (no_arrivals (Module a)) st.checked.ordered h (inl derived)
          ∙ plainly_ends (kind_at cs h) (set_at tables (place_in_kind Table cs h)) (set_at (no_arrivals (Module a)) (place_in_kind Input cs h)) (ruled_at a.form (quiet a tables) h) some_kind no_port other

      -- and where it grows its rules give that now too
      quiet_within : kind_at a.form.collections h ≢ Some Table → grows_at growing h ≡ true → IsWithin (set_at (quiet a tables) h) (ruled_at a.form seen h)
      quiet_within other grow q m =
          let f = Has-from_flat_map (λ (r : RuleForm). rows_of (declared cs) (rows_named cs (quiet a tables)) r.1) q (rules_at cs a.form.rules h) (Has-from_set_of q (ruled_at a.form (quiet a tables) h) (subst (λ (l : List Row). Has q l) (quiet_head other) m)) in
          let r = rule_for cs a.form.rules rules st.numbered f.0 (stands f.0 f.1) in
          let rule = r.0 in
          let own : IsOfHead rule = record { form = f.0; of_head = f.1; is = r.2 } in
          let g : grows growing rule.body ≡ true = bodies_grow a growing st.checked st.are h other grow f.0 f.1 rule.body r.2.body in
          let before : Has q (numbered_rows past rule.body) = subst (λ (l : List Row). Has q l) (sym (old_rows rule own (grow_lasts growing lasting both rule.body g))) f.2 in
          let after : Has q (numbered_rows seen rule.body) = (grown growing past seen v.grew rule.body g).within q before in
          Has-flat_map (λ (r : RuleForm). rows_of (declared cs) (rows_named cs seen) r.1) f.0 q (rules_at cs a.form.rules h) f.1 (subst (λ (l : List Row). Has q l) (numbers.same_rows cs seen f.0.1 rule.body r.2.body) after)

      -- so a head that grows gets the same from its old rows as from what it begins with
      pub grown_head : grows_at growing h ≡ true → set_at sets h ≡ set_at (at_start a.form.collections tables now) h → set_of (set_at (quiet a tables) h ++ ruled_at a.form seen h) ≡ set_of (set_at sets h ++ ruled_at a.form seen h)
      grown_head grow begun_is = elim (kind_cases (kind_at cs h)) [
        | inl is ↦
            let table : set_at (at_start a.form.collections tables now) h ≡ set_at tables (place_in_kind Table cs h) = starts cs tables now h ∙ ap (λ (o : Option Kind). begun o (set_at tables (place_in_kind Table cs h)) (set_at now (place_in_kind Input cs h))) is in
            ap (λ (rows : List Row). set_of (rows ++ ruled_at a.form seen h)) (quiet_table h is ∙ sym table ∙ sym begun_is)
        | inr other ↦
            let inside = quiet_within other grow in
            same_set_of (set_at (quiet a tables) h ++ ruled_at a.form seen h) (ruled_at a.form seen h) (
              λ q m. elim (Has-append_cases q (set_at (quiet a tables) h) (ruled_at a.form seen h) m) [ inl old ↦ inside q old | inr new ↦ new ],
              λ q m. Has-append_right q (set_at (quiet a tables) h) (ruled_at a.form seen h) m,
            )
            ∙ ap (λ (rows : List Row). set_of (rows ++ ruled_at a.form seen h)) (sym (at.fresh h (inl refl) other))
      ]

      -- what the rules of a head that doesn't grow gave before
      pub past_head : kind_at a.form.collections h ≢ Some Table → set_of (ruled_at a.form past h) ≡ set_at (quiet a tables) h
      past_head other = ap set_of (same_ruled past (quiet a tables) (λ k lacks out. v.past_is k lacks)) ∙ sym (quiet_head other)
