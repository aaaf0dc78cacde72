use Rattle.std.proofs.Common.{◌≡◌, ◌+◌, ◌++◌, List, [], ◌∷◌, None, Some, take, drop, refl, sym, subst, ap, ◌∙◌}
use Rattle.std.specs.List.{filter_map}
use Rattle.std.proofs.lemmas.List.{append-nil}
use Rattle.blz_value.specs.declared.text.Str.{Str}
use Rattle.bloom_forms.specs.Form.{Accepted}
use Rattle.topo_forms.specs.declared.topology.Body.{Body}
use Rattle.topo_forms.specs.declared.topology.Body.TheVariants as bodies
use Rattle.topo_forms.specs.Valid.{file_in, needs_module}
use Rattle.command_checks.specs.Checks as check
use Rattle.command_checks.specs.Ran.{Stopped}
use Rattle.command_checks.specs.Ends.{files_states, source, Came}
use Rattle.command_checks.specs.Script.{Bytes}
use Rattle.command_checks.specs.Script.Ending.{gave}
use Rattle.command_checks.proofs.ScriptLemmas.{stop_handed}
use Rattle.command_checks.proofs.EachLemmas.{came_more, stop_among, taken_more, taken_at}
use Rattle.command_checks.proofs.module_file.module_files.Goals as goal
use Rattle.command_checks.proofs.module_file.module_files.Goals.{in-Module+in_ok-read+in_ok-add, in_default}

no_file : (body : Body) → ((file : Str) → body ≡ bodies.Module file → ⊥) → file_in body ≡ None
no_file (bodies.Module file) isnt = absurd (isnt file refl)
no_file (bodies.Stock stock) isnt = refl
no_file bodies.None isnt = refl

pub returns-in_err-read : goal.returns-in_err-read
returns-in_err-read g c =
    let cs = c.args.components.now in
    let i = c.loop-component.component-index in
    let one = c.component-item.result in
    let stop = c.in_err-read.field-0.0 in
    let a = source (g.F.Files.held c.args.files.now) (g.F.Files.steady c.args.files.now) (g.F.Files.faults c.args.files.now) in
    let b = source (g.F.Files.held c.loop-component.files) (g.F.Files.steady c.loop-component.files) (g.F.Files.faults c.loop-component.files) in
    let end = source (g.F.Files.held c.module_file.new.files) (g.F.Files.steady c.module_file.new.files) (g.F.Files.faults c.module_file.new.files) in
    let before = filter_map needs_module (take i cs) in
    let later = filter_map needs_module (drop (i + 1) cs) in
    let found : needs_module one ≡ Some c.in-Module.file = ap file_in c.in-Module.is in
    let stopped : Stopped (files_states b end) stop (check.module_file c.in-Module.file) =
    subst (λ (name : Bytes). Stopped (files_states b end) stop (check.module_file name)) c.as_str.ensures c.in_err-read.ensures in
    let all = stop_among a b end check.module_file before c.in-Module.file later c.loop-component.modules.items stop c.loop-component.invariant stopped in
    stop_handed (λ modules. modules.items) (files_states a end) (check.each check.module_file (filter_map needs_module cs)) c.from_residual.result stop c.from_residual.ensures.1
    (subst (λ (names : List Bytes). Stopped (files_states a end) stop (check.each check.module_file names))
    (sym (taken_at needs_module cs i one c.in-Module.file found c.loop-component-test.true c.component-item.is)) all)

pub loop-component-preserved : goal.loop-component-preserved
loop-component-preserved g c =
    let cs = c.args.components.now in
    let i = c.loop-component.component-index in
    let one = c.component-item.result in
    let a = source (g.F.Files.held c.args.files.now) (g.F.Files.steady c.args.files.now) (g.F.Files.faults c.args.files.now) in
    let b = source (g.F.Files.held c.loop-component.files) (g.F.Files.steady c.loop-component.files) (g.F.Files.faults c.loop-component.files) in
    let end = source (g.F.Files.held c.match-component.files) (g.F.Files.steady c.match-component.files) (g.F.Files.faults c.match-component.files) in
    let before = filter_map needs_module (take i cs) in
    elim c.match-component.branch [
      | in-Module+in_ok-read+in_ok-add w ↦
          let found : needs_module one ≡ Some w.in-Module.file = ap file_in w.in-Module.is in
          let read : Came (files_states b end) (check.module_file w.in-Module.file) (gave w.in_ok-read.read) =
          subst (λ files. Came (files_states b (source (g.F.Files.held files) (g.F.Files.steady files) (g.F.Files.faults files))) (check.module_file w.in-Module.file) (gave w.in_ok-read.read)) (sym w.files-is)
          (subst (λ (name : Bytes). Came (files_states b (source (g.F.Files.held w.module_file.new.files) (g.F.Files.steady w.module_file.new.files) (g.F.Files.faults w.module_file.new.files))) (check.module_file name) (gave w.in_ok-read.read)) w.as_str.ensures w.in_ok-read.ensures) in
          let came = came_more a b end check.module_file before w.in-Module.file c.loop-component.modules.items w.in_ok-read.read c.loop-component.invariant read in
          let items : c.match-component.modules.items ≡ c.loop-component.modules.items ++ w.in_ok-read.read ∷ [] = ap (λ v. v.items) w.modules-is ∙ w.in_ok-add.ensures in
          subst (λ (names : List Bytes). Came (files_states a end) (check.each check.module_file names) (gave c.match-component.modules.items))
          (sym (taken_more needs_module cs i one (Some w.in-Module.file) found c.loop-component-test.true c.component-item.is))
          (subst (λ (ms : List Accepted). Came (files_states a end) (check.each check.module_file (before ++ w.in-Module.file ∷ [])) (gave ms)) (sym items) came)
      | in_default w ↦
          let none : needs_module one ≡ None = no_file one.body w.in_default.not-Module in
          let same : filter_map needs_module (take (i + 1) cs) ≡ before = taken_more needs_module cs i one None none c.loop-component-test.true c.component-item.is ∙ append-nil before in
          let came : Came (files_states a end) (check.each check.module_file before) (gave c.loop-component.modules.items) =
          subst (λ files. Came (files_states a (source (g.F.Files.held files) (g.F.Files.steady files) (g.F.Files.faults files))) (check.each check.module_file before) (gave c.loop-component.modules.items)) (sym w.files-is)
          c.loop-component.invariant in
          subst (λ (names : List Bytes). Came (files_states a end) (check.each check.module_file names) (gave c.match-component.modules.items)) (sym same)
          (subst (λ (ms : List Accepted). Came (files_states a end) (check.each check.module_file before) (gave ms)) (sym (ap (λ v. v.items) w.modules-is)) came)
    ]
