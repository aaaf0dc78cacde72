use denote.Enum.Bare.{sameb}
use Rattle.std.proofs.Common.{◌≡◌, ◌≢◌, ◌<◌, ◌+◌, ◌∙◌, Bool, true, not, List, length, Some, drop, get_or, Ok, Err, sym, ap, subst, refl, arith}
use Rattle.std.specs.Prelude.{slice_set}
use Rattle.std.proofs.lemmas.List.{length-map}
use Rattle.bloom_forms.specs.declared.module.Kind.{Kind}
use Rattle.bloom_forms.specs.declared.module.Kind.TheVariants.{Input, Output, Table, Scratch}
use Rattle.bloom_forms.specs.contracts.module.Kind.{the_type}
use Rattle.bloom_forms.specs.declared.module.Collection.{Collection}
use Rattle.bloom_forms.specs.Form.{Form}
use Rattle.bloom_forms.specs.Kinds.{of_kind, kind_at}
use Rattle.bloom_forms.specs.Program.{columns_of_kind}
use Rattle.bloom_eval.proofs.Widths.{length-sets_of}
use Rattle.bloom_parts.specs.declared.change.Change.{Change}
use Rattle.bloom_index.specs.Code.Growth.{grows_at}
use Rattle.bloom_index.specs.Code.HeadRules.{CanTurn}
use Rattle.bloom_index.specs.Code.Kept.{tables_in}
use Rattle.bloom_index.specs.Code.Lasting.{lasts_at}
use Rattle.bloom_index.specs.Code.Plans.{rules_by}
use Rattle.bloom_index.specs.Code.Arriving.{arrived_in}
use Rattle.bloom_index.specs.Code.StepSets.{AreBegunAt, outs_in}
use Rattle.bloom_index.proofs.PlanRules.{rules_numbered, heads_same}
use Rattle.bloom_index.proofs.StepEnds.{mid_starts, parts_end, tables_end, fits_end, puts_out}
use Rattle.bloom_index.proofs.StepHeads.{IsStep}
use Rattle.bloom_index.proofs.StepLoops.{fault_is, kind_read}
use Rattle.bloom_index.proofs.StepNext.{mid_within, mid_ready, HasChanged, head_next, head_refused, mid_one, mid_none}
use Rattle.bloom_index.proofs.step.step.Goals as goal

no_output : (kind : Kind) → kind ≢ Output → not (sameb the_type kind Output) ≡ true
no_output Input other = refl
no_output Output other = absurd (other refl)
no_output Table other = refl
no_output Scratch other = refl

pub begin-requires-clause-ports : goal.begin-requires-clause-ports
begin-requires-clause-ports c =
    let cs = c.args.program.now.form.collections in
    let same = c.as_slice-collections.ensures ∙ ap (λ (f : Form). f.collections) c.module-written.ensures.form in
    length-sets_of (columns_of_kind Input cs) (arrived_in c.args.now.now) c.requires.ports
    ∙ length-map (of_kind Input cs) (λ (d : Collection). d.columns)
    ∙ sym (ap (λ own. length (of_kind Input own)) same)

pub loop-head-init : goal.loop-head-init
loop-head-init c =
    let a = c.args.program.now in
    let parts = c.args.parts.now in
    let growing = parts.growing.items in
    let lasting = parts.lasting.items in
    let tables = tables_in a parts.rows.items in
    let now = (arrived_in c.args.now.now) in
    let rules = rules_by a.form.collections a.form.rules c.args.parts.now.plans.items in
    let held = c.in_ok-held.held.items in
    let same = c.as_slice-collections.ensures ∙ ap (λ (f : Form). f.collections) c.module-written.ensures.form in
    let st : IsStep a rules growing lasting tables now = record {
      checked = c.module-written.ensures.checked;
      numbered = rules_numbered a.form.collections a.form.rules parts.plans.items c.requires.parts.numbered;
      are = c.requires.parts.growing;
      last = c.requires.parts.lasting;
      still = c.requires.parts.still;
      kept = c.requires.parts.wide;
      ports = c.requires.ports;
    } in
    let begun = subst (λ (cs : List Collection). AreBegunAt cs lasting now (length cs) held) same c.in_ok-held.ensures.begun in
    (st, mid_starts a rules growing lasting tables now st parts held c.requires.parts refl refl refl refl c.in_ok-held.ensures.sets begun)

pub bounds-collections-number : goal.bounds-collections-number
bounds-collections-number c =
    let a = c.args.program.now in
    let growing = c.args.parts.now.growing.items in
    let lasting = c.args.parts.now.lasting.items in
    let tables = tables_in a c.args.parts.now.rows.items in
    let now = (arrived_in c.args.now.now) in
    let rules = rules_by a.form.collections a.form.rules c.args.parts.now.plans.items in
    let parts = c.loop-head.parts in
    let i = c.loop-head.head-index in
    let read = c.heads-head-items.result.now in
    let h = get_or read i 0 in
    let left = drop (i + 1) a.heads in
    let st = c.loop-head.invariant.0 in
    let held = c.loop-head.held.items in
    let m = mid_one a rules growing lasting tables now st parts held held read i refl c.heads-head-items.ensures c.loop-head-test.true c.loop-head.invariant.1 in
    let same = c.as_slice-collections.ensures ∙ ap (λ (f : Form). f.collections) c.module-written.ensures.form in
    omega (arith, mid_within a rules growing lasting tables now st parts held h left m, ap (length {A = Collection}) same)

pub head_change-requires-clause-growing : goal.head_change-requires-clause-growing
head_change-requires-clause-growing c =
    let a = c.args.program.now in
    let growing = c.args.parts.now.growing.items in
    let lasting = c.args.parts.now.lasting.items in
    let tables = tables_in a c.args.parts.now.rows.items in
    let now = (arrived_in c.args.now.now) in
    let rules = rules_by a.form.collections a.form.rules c.args.parts.now.plans.items in
    let parts = c.loop-head.parts in
    let i = c.loop-head.head-index in
    let read = c.heads-head-items.result.now in
    let h = get_or read i 0 in
    let left = drop (i + 1) a.heads in
    let st = c.loop-head.invariant.0 in
    let held = c.deref.result.now in
    let m = mid_one a rules growing lasting tables now st parts c.loop-head.held.items held read i c.deref.ensures.value c.heads-head-items.ensures c.loop-head-test.true c.loop-head.invariant.1 in
    omega (arith, mid_within a rules growing lasting tables now st parts held h left m, ap (length {A = Bool}) m.growing_is, st.are.many)

pub head_change-requires-clause-lasting : goal.head_change-requires-clause-lasting
head_change-requires-clause-lasting c =
    let a = c.args.program.now in
    let growing = c.args.parts.now.growing.items in
    let lasting = c.args.parts.now.lasting.items in
    let tables = tables_in a c.args.parts.now.rows.items in
    let now = (arrived_in c.args.now.now) in
    let rules = rules_by a.form.collections a.form.rules c.args.parts.now.plans.items in
    let parts = c.loop-head.parts in
    let i = c.loop-head.head-index in
    let read = c.heads-head-items.result.now in
    let h = get_or read i 0 in
    let left = drop (i + 1) a.heads in
    let st = c.loop-head.invariant.0 in
    let held = c.deref.result.now in
    let m = mid_one a rules growing lasting tables now st parts c.loop-head.held.items held read i c.deref.ensures.value c.heads-head-items.ensures c.loop-head-test.true c.loop-head.invariant.1 in
    omega (arith, mid_within a rules growing lasting tables now st parts held h left m, ap (length {A = Bool}) m.lasting_is, st.last.many)

pub head_change-requires-clause-rows : goal.head_change-requires-clause-rows
head_change-requires-clause-rows c =
    let a = c.args.program.now in
    let growing = c.args.parts.now.growing.items in
    let lasting = c.args.parts.now.lasting.items in
    let tables = tables_in a c.args.parts.now.rows.items in
    let now = (arrived_in c.args.now.now) in
    let rules = rules_by a.form.collections a.form.rules c.args.parts.now.plans.items in
    let parts = c.loop-head.parts in
    let i = c.loop-head.head-index in
    let read = c.heads-head-items.result.now in
    let h = get_or read i 0 in
    let left = drop (i + 1) a.heads in
    let st = c.loop-head.invariant.0 in
    let held = c.deref.result.now in
    let m = mid_one a rules growing lasting tables now st parts c.loop-head.held.items held read i c.deref.ensures.value c.heads-head-items.ensures c.loop-head-test.true c.loop-head.invariant.1 in
    omega (arith, mid_within a rules growing lasting tables now st parts held h left m, m.rows_many)

pub head_change-requires-clause-bags : goal.head_change-requires-clause-bags
head_change-requires-clause-bags c =
    let a = c.args.program.now in
    let growing = c.args.parts.now.growing.items in
    let lasting = c.args.parts.now.lasting.items in
    let tables = tables_in a c.args.parts.now.rows.items in
    let now = (arrived_in c.args.now.now) in
    let rules = rules_by a.form.collections a.form.rules c.args.parts.now.plans.items in
    let parts = c.loop-head.parts in
    let i = c.loop-head.head-index in
    let read = c.heads-head-items.result.now in
    let h = get_or read i 0 in
    let left = drop (i + 1) a.heads in
    let st = c.loop-head.invariant.0 in
    let held = c.deref.result.now in
    let m = mid_one a rules growing lasting tables now st parts c.loop-head.held.items held read i c.deref.ensures.value c.heads-head-items.ensures c.loop-head-test.true c.loop-head.invariant.1 in
    omega (arith, mid_within a rules growing lasting tables now st parts held h left m, m.bags_many)

pub head_change-requires-clause-ready : goal.head_change-requires-clause-ready
head_change-requires-clause-ready c =
    let a = c.args.program.now in
    let growing = c.args.parts.now.growing.items in
    let lasting = c.args.parts.now.lasting.items in
    let tables = tables_in a c.args.parts.now.rows.items in
    let now = (arrived_in c.args.now.now) in
    let rules = rules_by a.form.collections a.form.rules c.args.parts.now.plans.items in
    let parts = c.loop-head.parts in
    let i = c.loop-head.head-index in
    let read = c.heads-head-items.result.now in
    let h = get_or read i 0 in
    let left = drop (i + 1) a.heads in
    let st = c.loop-head.invariant.0 in
    let held = c.deref.result.now in
    let m = mid_one a rules growing lasting tables now st parts c.loop-head.held.items held read i c.deref.ensures.value c.heads-head-items.ensures c.loop-head-test.true c.loop-head.invariant.1 in
    record {
      rules = rules;
      heads = heads_same a.form.collections a.form.rules rules c.rules-rules.result.now st.numbered c.rules-rules.ensures.numbered;
      ready = mid_ready a rules growing lasting tables now st parts held h left m;
    }

pub returns-in_err-change-clause-too_many : goal.returns-in_err-change-clause-too_many
returns-in_err-change-clause-too_many c =
    let a = c.args.program.now in
    let growing = c.args.parts.now.growing.items in
    let lasting = c.args.parts.now.lasting.items in
    let tables = tables_in a c.args.parts.now.rows.items in
    let now = (arrived_in c.args.now.now) in
    let rules = rules_by a.form.collections a.form.rules c.args.parts.now.plans.items in
    let parts = c.loop-head.parts in
    let i = c.loop-head.head-index in
    let read = c.heads-head-items.result.now in
    let h = get_or read i 0 in
    let left = drop (i + 1) a.heads in
    let st = c.loop-head.invariant.0 in
    let held = c.deref.result.now in
    let m = mid_one a rules growing lasting tables now st parts c.loop-head.held.items held read i c.deref.ensures.value c.heads-head-items.ensures c.loop-head-test.true c.loop-head.invariant.1 in
    let whole = c.ne-whole.result in
    let fault = c.in_err-change.field-0.0 in
    let parts2 = c.head_change.new.parts in
    let e = c.in_err-change.ensures in
    let can : CanTurn c.rules-rules.result.now h parts.plans.items held = record {
      rules = rules;
      heads = heads_same a.form.collections a.form.rules rules c.rules-rules.result.now st.numbered c.rules-rules.ensures.numbered;
      ready = mid_ready a rules growing lasting tables now st parts held h left m;
    } in
    let grow_is = ap (λ (l : List Bool). grows_at l h) m.growing_is in
    let last_is = ap (λ (l : List Bool). lasts_at l h) m.lasting_is in
    let changed : HasChanged a rules growing lasting tables now st parts held h left m parts2 whole (Err fault) = record {
      growing_is = ap (λ z. z.items) e.growing ∙ m.growing_is;
      lasting_is = ap (λ z. z.items) e.lasting ∙ m.lasting_is;
      rows = e.rows;
      bags = e.bags;
      others = e.others;
      grown = λ has grow. e.grown can (sym m.growing_is) has (grow_is ∙ grow);
      turned = λ was is at at2 given all none last. e.turned can was is at at2 (sym m.lasting_is) given all (grow_is ∙ none) (last_is ∙ last);
      made = λ was is at at2 given none passing. e.made can was is at at2 (sym m.lasting_is) given (grow_is ∙ none) (last_is ∙ passing);
    } in
    λ many. head_refused a rules growing lasting tables now st parts held h left m parts2 whole fault changed (fault_is c.from_residual-in_err-change.result fault c.from_residual-in_err-change.ensures.1 many)

pub put_change-requires : goal.put_change-requires
put_change-requires c =
    let a = c.args.program.now in
    let growing = c.args.parts.now.growing.items in
    let lasting = c.args.parts.now.lasting.items in
    let tables = tables_in a c.args.parts.now.rows.items in
    let now = (arrived_in c.args.now.now) in
    let rules = rules_by a.form.collections a.form.rules c.args.parts.now.plans.items in
    let parts = c.loop-head.parts in
    let i = c.loop-head.head-index in
    let read = c.heads-head-items.result.now in
    let h = get_or read i 0 in
    let left = drop (i + 1) a.heads in
    let st = c.loop-head.invariant.0 in
    let held = c.deref.result.now in
    let m = mid_one a rules growing lasting tables now st parts c.loop-head.held.items held read i c.deref.ensures.value c.heads-head-items.ensures c.loop-head-test.true c.loop-head.invariant.1 in
    omega (arith, mid_within a rules growing lasting tables now st parts held h left m, m.held_many, ap (length {A = Change}) c.deref.ensures.value)

pub loop-head-preserved : goal.loop-head-preserved
loop-head-preserved c =
    let a = c.args.program.now in
    let growing = c.args.parts.now.growing.items in
    let lasting = c.args.parts.now.lasting.items in
    let tables = tables_in a c.args.parts.now.rows.items in
    let now = (arrived_in c.args.now.now) in
    let rules = rules_by a.form.collections a.form.rules c.args.parts.now.plans.items in
    let parts = c.loop-head.parts in
    let i = c.loop-head.head-index in
    let read = c.heads-head-items.result.now in
    let h = get_or read i 0 in
    let left = drop (i + 1) a.heads in
    let st = c.loop-head.invariant.0 in
    let held = c.deref.result.now in
    let m = mid_one a rules growing lasting tables now st parts c.loop-head.held.items held read i c.deref.ensures.value c.heads-head-items.ensures c.loop-head-test.true c.loop-head.invariant.1 in
    let whole = c.ne-whole.result in
    let change = c.in_ok-change.change in
    let held2 = c.put_change.new.held.items in
    let parts2 = c.head_change.new.parts in
    let e = c.in_ok-change.ensures in
    let can : CanTurn c.rules-rules.result.now h parts.plans.items held = record {
      rules = rules;
      heads = heads_same a.form.collections a.form.rules rules c.rules-rules.result.now st.numbered c.rules-rules.ensures.numbered;
      ready = mid_ready a rules growing lasting tables now st parts held h left m;
    } in
    let grow_is = ap (λ (l : List Bool). grows_at l h) m.growing_is in
    let last_is = ap (λ (l : List Bool). lasts_at l h) m.lasting_is in
    let changed : HasChanged a rules growing lasting tables now st parts held h left m parts2 whole (Ok change) = record {
      growing_is = ap (λ z. z.items) e.growing ∙ m.growing_is;
      lasting_is = ap (λ z. z.items) e.lasting ∙ m.lasting_is;
      rows = e.rows;
      bags = e.bags;
      others = e.others;
      grown = λ has grow. e.grown can (sym m.growing_is) has (grow_is ∙ grow);
      turned = λ was is at at2 given all none last. e.turned can was is at at2 (sym m.lasting_is) given all (grow_is ∙ none) (last_is ∙ last);
      made = λ was is at at2 given none passing. e.made can was is at at2 (sym m.lasting_is) given (grow_is ∙ none) (last_is ∙ passing);
    } in
    let put = c.put_change.ensures.held ∙ ap (λ (l : List Change). slice_set l h change) (sym c.deref.ensures.value) in
    let same = c.as_slice-collections.ensures ∙ ap (λ (f : Form). f.collections) c.module-written.ensures.form in
    let collection = c.index-collections-number.result in
    let within : h < length c.as_slice-collections.result.now = omega (arith, mid_within a rules growing lasting tables now st parts held h left m, ap (length {A = Collection}) same) in
    let kind : kind_at a.form.collections h ≡ Some collection.kind = ap (λ (cs : List Collection). kind_at cs h) (sym same) ∙ kind_read c.as_slice-collections.result.now h collection within c.index-collections-number.is in
    let whole_is : whole ≡ not (sameb the_type collection.kind Output) = c.ne-whole.ensures ∙ ap (λ (x : Collection). not (sameb the_type x.kind Output)) (sym c.index-collections-number.is) in
    (st, head_next a rules growing lasting tables now st parts held h left m parts2 held2 change whole changed put c.put_change.ensures.set (λ other. whole_is ∙ no_output collection.kind (λ e. other (kind ∙ ap Some e))))

pub returns-clause-parts : goal.returns-clause-parts
returns-clause-parts c =
    let a = c.args.program.now in
    let growing = c.args.parts.now.growing.items in
    let lasting = c.args.parts.now.lasting.items in
    let tables = tables_in a c.args.parts.now.rows.items in
    let now = (arrived_in c.args.now.now) in
    let rules = rules_by a.form.collections a.form.rules c.args.parts.now.plans.items in
    let parts = c.loop-head.parts in
    let i = c.loop-head.head-index in
    let st = c.loop-head.invariant.0 in
    let held = c.loop-head.held.items in
    let m = mid_none a rules growing lasting tables now st parts held c.heads-head-items.result.now i c.heads-head-items.ensures (omega (arith, c.loop-head-test.false)) c.loop-head.invariant.1 in
    parts_end a rules growing lasting tables now st parts held m

pub returns-clause-tables : goal.returns-clause-tables
returns-clause-tables c =
    let a = c.args.program.now in
    let growing = c.args.parts.now.growing.items in
    let lasting = c.args.parts.now.lasting.items in
    let tables = tables_in a c.args.parts.now.rows.items in
    let now = (arrived_in c.args.now.now) in
    let rules = rules_by a.form.collections a.form.rules c.args.parts.now.plans.items in
    let parts = c.loop-head.parts in
    let i = c.loop-head.head-index in
    let st = c.loop-head.invariant.0 in
    let held = c.loop-head.held.items in
    let m = mid_none a rules growing lasting tables now st parts held c.heads-head-items.result.now i c.heads-head-items.ensures (omega (arith, c.loop-head-test.false)) c.loop-head.invariant.1 in
    tables_end a rules growing lasting tables now st parts held m

pub returns-clause-many : goal.returns-clause-many
returns-clause-many c =
    let a = c.args.program.now in
    let growing = c.args.parts.now.growing.items in
    let lasting = c.args.parts.now.lasting.items in
    let tables = tables_in a c.args.parts.now.rows.items in
    let now = (arrived_in c.args.now.now) in
    let rules = rules_by a.form.collections a.form.rules c.args.parts.now.plans.items in
    let parts = c.loop-head.parts in
    let i = c.loop-head.head-index in
    let st = c.loop-head.invariant.0 in
    let held = c.loop-head.held.items in
    let m = mid_none a rules growing lasting tables now st parts held c.heads-head-items.result.now i c.heads-head-items.ensures (omega (arith, c.loop-head-test.false)) c.loop-head.invariant.1 in
    m.held_many

pub returns-clause-outs : goal.returns-clause-outs
returns-clause-outs c =
    let a = c.args.program.now in
    let growing = c.args.parts.now.growing.items in
    let lasting = c.args.parts.now.lasting.items in
    let tables = tables_in a c.args.parts.now.rows.items in
    let now = (arrived_in c.args.now.now) in
    let rules = rules_by a.form.collections a.form.rules c.args.parts.now.plans.items in
    let parts = c.loop-head.parts in
    let i = c.loop-head.head-index in
    let st = c.loop-head.invariant.0 in
    let held = c.loop-head.held.items in
    let m = mid_none a rules growing lasting tables now st parts held c.heads-head-items.result.now i c.heads-head-items.ensures (omega (arith, c.loop-head-test.false)) c.loop-head.invariant.1 in
    puts_out a rules growing lasting tables now st parts held m (outs_in a held) refl

pub returns-clause-few : goal.returns-clause-few
returns-clause-few c =
    let a = c.args.program.now in
    let growing = c.args.parts.now.growing.items in
    let lasting = c.args.parts.now.lasting.items in
    let tables = tables_in a c.args.parts.now.rows.items in
    let now = (arrived_in c.args.now.now) in
    let rules = rules_by a.form.collections a.form.rules c.args.parts.now.plans.items in
    let parts = c.loop-head.parts in
    let i = c.loop-head.head-index in
    let st = c.loop-head.invariant.0 in
    let held = c.loop-head.held.items in
    let m = mid_none a rules growing lasting tables now st parts held c.heads-head-items.result.now i c.heads-head-items.ensures (omega (arith, c.loop-head-test.false)) c.loop-head.invariant.1 in
    fits_end a rules growing lasting tables now st parts held m
