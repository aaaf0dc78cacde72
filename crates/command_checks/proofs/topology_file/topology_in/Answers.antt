-- What is read, or the refusal of what is wrong.
use Rattle.std.proofs.Common.{Ok, Err, ap, subst}
use Rattle.report_lines.specs.declared.refusal.Refusal.TheVariants as refusal
use Rattle.topo_read.specs.Document.{document_of}
use Rattle.topo_read.specs.Reading.{IsReading}
use Rattle.topo_read.specs.declared.fault.TopoTextFault.{TopoTextFault}
use Rattle.topo_forms.specs.declared.topology.Topology.{Topology}
use Rattle.command_checks.specs.Checks as check
use Rattle.command_checks.proofs.GivenLemmas.{formed_gives}
use Rattle.command_checks.proofs.RefusedLemmas.{refused_gives}
use Rattle.command_checks.proofs.topology_file.topology_in.Goals as goal

pub returns-in-Ok-clause-gives : goal.returns-in-Ok-clause-gives
returns-in-Ok-clause-gives c = formed_gives c.args.bytes.now (Ok c.in-Ok.topology) c.in-Ok.ensures.reading

pub returns-in-Ok-clause-allowed : goal.returns-in-Ok-clause-allowed
returns-in-Ok-clause-allowed c = c.in-Ok.ensures.allowed

pub returns-in-Err-NotToml-clause-gives : goal.returns-in-Err-NotToml-clause-gives
returns-in-Err-NotToml-clause-gives c =
    let no_document = subst (λ (fault : TopoTextFault). IsReading c.args.bytes.now (Err fault)) c.in-Err-NotToml.field-0-is c.in-Err-NotToml.ensures.reading in
    refused_gives (λ (t : Topology). t) (check.topology_in (document_of c.args.bytes.now)) refusal.NotToml c.refused.result (ap check.topology_in no_document) c.refused.ensures

pub returns-in-Err-Form-clause-gives : goal.returns-in-Err-Form-clause-gives
returns-in-Err-Form-clause-gives c =
    let path = c.in-Err-Form.path in
    let broken = subst (λ (fault : TopoTextFault). IsReading c.args.bytes.now (Err fault)) c.in-Err-Form.field-0-is c.in-Err-Form.ensures.reading in
    refused_gives (λ (t : Topology). t) (check.topology_in (document_of c.args.bytes.now)) (refusal.Form path) c.refused-in-Err-Form.result (formed_gives c.args.bytes.now (Err path) broken) c.refused-in-Err-Form.ensures
