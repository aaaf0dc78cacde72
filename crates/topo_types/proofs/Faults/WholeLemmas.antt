-- A topology without a fault, with its view, is as a Valid is to be.
use Rattle.std.proofs.Common.{◌≡◌, None, List, ap, sym, subst, ◌∙◌}
use Rattle.bloom_forms.specs.Form.{Accepted}
use Rattle.topo_forms.specs.declared.topology.Topology.{Topology}
use Rattle.topo_forms.specs.Allowed.{IsAllowed}
use Rattle.topo_forms.specs.Valid.{IsValid, IsWhole, AreModules}
use Rattle.topo_forms.specs.Validity.{fault_of}
use Rattle.topo_forms.specs.View.{View}
use Rattle.topo_forms.specs.ViewOf.{view_of, modules_in}
use Rattle.topo_forms.proofs.Views.GivenModules.{modules_law}
use Rattle.topo_forms.proofs.Views.ValidViews.{valid_law}

module _ (t : Topology) (modules : List Accepted) (v : View) (is : v ≡ view_of t modules) (allowed : IsAllowed t) (given : AreModules t modules) (clean : fault_of t modules ≡ None) where
  back : modules_in v ≡ modules
  back = ap modules_in is ∙ modules_law t modules given

  pub whole : IsWhole (record { topology = t; view = v })
  whole = record {
    allowed = allowed;
    given = subst (AreModules t) (sym back) given;
    clean = subst (λ (ms : List Accepted). fault_of t ms ≡ None) (sym back) clean;
    is = subst (λ (ms : List Accepted). v ≡ view_of t ms) (sym back) is;
  }

  pub valid : IsValid v
  valid = subst IsValid (sym is) (valid_law t modules allowed given clean)
