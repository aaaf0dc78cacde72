use Rattle.std.proofs.Common.{◌≡◌, List, Ok, Err, Result, Option, IfOk}
use Rattle.std.specs.declared.alloc.AllocError.{AllocError}
use Rattle.bloom_forms.specs.declared.fault.ModuleFault.{ModuleFault}
use Rattle.bloom_forms.specs.declared.fault.ModuleKind.TheVariants.{TooMany}
use Rattle.bloom_forms.specs.declared.module.Collection.{Collection}
use Rattle.bloom_forms.specs.declared.facts.Facts.{Facts}
use Rattle.bloom_ast.specs.Code.Checking.{AreFew}
use Rattle.bloom_forms.specs.Faults.{kind_fault}
use Rattle.bloom_forms.specs.Form.{RuleForm, rule_forms}
use Rattle.bloom_ast.proofs.FaultPlaces.{collection_small, rule_small, few_from}
use Rattle.bloom_ast.proofs.checking.size_fault.Goals as goal

few_ok : (cs : List Collection) (f : Facts) (rules : List RuleForm) (r : Result (Option ModuleFault) AllocError) → IfOk r (λ fault. fault ≡ kind_fault f TooMany cs rules) → IfOk r (λ fault. AreFew cs rules fault)
few_ok cs f rules (Ok o) e = few_from cs f rules o e
few_ok cs f rules (Err e) h = tt

pub kind_fault-requires-clause-collections : goal.kind_fault-requires-clause-collections
kind_fault-requires-clause-collections c = collection_small c.args.collections.now

pub kind_fault-requires-clause-rules : goal.kind_fault-requires-clause-rules
kind_fault-requires-clause-rules c = rule_small c.args.collections.now c.no_facts-none.result (rule_forms c.args.rules.now)

pub returns-clause-few : goal.returns-clause-few
returns-clause-few c = few_ok c.args.collections.now c.no_facts-none.result (rule_forms c.args.rules.now) c.kind_fault.result c.kind_fault.ensures
