-- Word count: its topology, its modules and its view.
use Rattle.std.proofs.Common.{ℕ, ◌≡◌, pos, refl, None, Some, List, [], ◌∷◌, map}
use Rattle.std.specs.Prelude.{codes}
use Rattle.blz_value.specs.Bits.{bit_of, meets}
use Rattle.blz_value.specs.Closure.{within, closure, step}
use Rattle.bloom_forms.specs.declared.expr.NamedAgg.TheVariants.{Count}
use Rattle.bloom_forms.specs.declared.module.Kind.TheVariants.{Input, Output, Table}
use Rattle.bloom_forms.specs.declared.program.Program.TheVariants as program
use Rattle.bloom_forms.specs.Form.{Accepted}
use Rattle.bloom_forms.specs.Query.{Name}
use Rattle.bloom_forms.specs.Query.Query.{base, group}
use Rattle.bloom_forms.specs.declared.note.Note.TheVariants as note
use Rattle.bloom_forms.specs.declared.mode.Mode.{Mode}
use Rattle.bloom_forms.specs.declared.mode.Mode.TheVariants as mode
use Rattle.topo_forms.specs.declared.topology.ComponentEntry.{ComponentEntry}
use Rattle.topo_forms.specs.declared.topology.StreamEntry.{StreamEntry}
use Rattle.topo_forms.specs.declared.topology.Body.{Body}
use Rattle.topo_forms.specs.declared.topology.Body.TheVariants as body
use Rattle.topo_forms.specs.declared.topology.Stock.TheVariants as stock
use Rattle.topo_forms.specs.declared.topology.ModeName.TheVariants as written
use Rattle.topo_forms.specs.declared.topology.Spot.{Spot}
use Rattle.topo_forms.specs.declared.topology.Topology.{Topology}
use Rattle.blz_value.specs.declared.attrs.Attrs.{Attrs}
use Rattle.topo_forms.specs.Carried.{carries, carriers}
use Rattle.topo_forms.specs.Dependencies.{usable_fds}
use Rattle.topo_forms.specs.Regions.{regions}
use Rattle.topo_forms.specs.View.{View}
use Rattle.topo_forms.specs.ViewOf.{view_of}

abbrev pub counted : List Name
counted = codes "word" ∷ codes "batch" ∷ codes "n" ∷ []

abbrev pub worded : List Name
worded = codes "id" ∷ codes "batch" ∷ codes "at" ∷ codes "word" ∷ []

abbrev pub count_module : Accepted
count_module = record {
  form = record {
    name = codes "count_words";
    collections =
        record { kind = Input; name = codes "words"; columns = worded }
        ∷ record { kind = Output; name = codes "counts"; columns = counted }
        ∷ record { kind = Table; name = codes "seen"; columns = worded }
        ∷ [];
    rules =
        (codes "seen", base (codes "words"))
        ∷ (codes "counts", group (base (codes "seen")) (codes "word" ∷ codes "batch" ∷ []) Count (codes "n"))
        ∷ [];
  };
  heads = 2 ∷ 1 ∷ [];
}

abbrev pub commit_module : Accepted
commit_module = record {
  form = record {
    name = codes "commit";
    collections =
        record { kind = Input; name = codes "counts"; columns = counted }
        ∷ record { kind = Output; name = codes "commits"; columns = counted }
        ∷ record { kind = Table; name = codes "committed"; columns = counted }
        ∷ [];
    rules = (codes "committed", base (codes "counts")) ∷ (codes "commits", base (codes "committed")) ∷ [];
  };
  heads = 2 ∷ 1 ∷ [];
}

abbrev pub spot : Name → Name → Spot
spot component port = record { component = component; port = port }

abbrev pub bodied : Name → Body → ComponentEntry
bodied name b = record { name = name; body = b; inputs = []; outputs = []; notes = []; replicas = pos 1; mode = written.Free; key = [] }

abbrev pub splitting : ComponentEntry
splitting = bodied (codes "split") (body.Stock (stock.Split (codes "id" ∷ codes "text" ∷ codes "batch" ∷ []) (codes "text")))

abbrev pub stream : Name → Spot → List Spot → StreamEntry
stream name from to = record { name = name; from = from; to = to }

abbrev pub word_count : Topology
word_count = record {
  format = 2;
  sources = record { name = codes "tweets"; columns = codes "id" ∷ codes "text" ∷ codes "batch" ∷ []; types = []; seal = codes "batch" ∷ []; to = spot (codes "split") (codes "in") ∷ [] } ∷ [];
  components =
      splitting
      ∷ bodied (codes "count") (body.Module (codes "count.bloom"))
      ∷ bodied (codes "commit") (body.Module (codes "commit.bloom"))
      ∷ [];
  streams =
      stream (codes "words") (spot (codes "split") (codes "out")) (spot (codes "count") (codes "words") ∷ [])
      ∷ stream (codes "counts") (spot (codes "count") (codes "counts")) (spot (codes "commit") (codes "counts") ∷ [])
      ∷ stream (codes "commits") (spot (codes "commit") (codes "commits")) []
      ∷ [];
  fds = [];
}

-- the modes and the replicas of split, count and commit
pub record Coordination : Type 0 where
  pub split : Mode
  pub count : Mode
  pub commit : Mode
  pub replicas : ℕ

-- word count by numbers, with these modes, and with so many replicas of count and commit. The attributes are id 0, text 1, batch 2, at 3, word 4, n 5
abbrev pub word_count_with : Coordination → View
word_count_with by = record {
  attributes = codes "id" ∷ codes "text" ∷ codes "batch" ∷ codes "at" ∷ codes "word" ∷ codes "n" ∷ [];
  streams =
      record { name = codes "tweets"; origin = None; columns = Some 0 ∷ Some 1 ∷ Some 2 ∷ []; key = Some (record { bits = 4 }); to = (0, 0) ∷ [] }
      ∷ record { name = codes "words"; origin = Some (0, 0); columns = Some 0 ∷ Some 2 ∷ Some 3 ∷ Some 4 ∷ []; key = None; to = (1, 0) ∷ [] }
      ∷ record { name = codes "counts"; origin = Some (1, 0); columns = Some 4 ∷ Some 2 ∷ Some 5 ∷ []; key = None; to = (2, 0) ∷ [] }
      ∷ record { name = codes "commits"; origin = Some (2, 0); columns = Some 4 ∷ Some 2 ∷ Some 5 ∷ []; key = None; to = [] }
      ∷ [];
  components =
      record {
        name = codes "split";
        program = Some (program.Split (codes "id" ∷ codes "text" ∷ codes "batch" ∷ []) 1);
        mode = by.split;
        replicas = 1;
        ports = record { name = codes "in"; columns = 0 ∷ 1 ∷ 2 ∷ [] } ∷ [];
        outputs = record { name = codes "out"; columns = Some 0 ∷ Some 2 ∷ Some 3 ∷ Some 4 ∷ []; roots = Some 0 ∷ Some 2 ∷ None ∷ None ∷ []; gate = record { bits = 63 } } ∷ [];
        notes = (Some note.CR ∷ []) ∷ [];
      }
      ∷ record {
        name = codes "count";
        program = Some (program.Module count_module);
        mode = by.count;
        replicas = by.replicas;
        ports = record { name = codes "words"; columns = 0 ∷ 2 ∷ 3 ∷ 4 ∷ [] } ∷ [];
        outputs = record { name = codes "counts"; columns = Some 4 ∷ Some 2 ∷ Some 5 ∷ []; roots = Some 4 ∷ Some 2 ∷ None ∷ []; gate = record { bits = 20 } } ∷ [];
        notes = (Some (note.OW (record { bits = 20 })) ∷ []) ∷ [];
      }
      ∷ record {
        name = codes "commit";
        program = Some (program.Module commit_module);
        mode = by.commit;
        replicas = by.replicas;
        ports = record { name = codes "counts"; columns = 4 ∷ 2 ∷ 5 ∷ [] } ∷ [];
        outputs = record { name = codes "commits"; columns = Some 4 ∷ Some 2 ∷ Some 5 ∷ []; roots = Some 4 ∷ Some 2 ∷ Some 5 ∷ []; gate = record { bits = 63 } } ∷ [];
        notes = (Some note.CW ∷ []) ∷ [];
      }
      ∷ [];
  fds = [];
}

-- without coordination
abbrev pub free_at : ℕ → Coordination
free_at n = record { split = mode.Free; count = mode.Free; commit = mode.Free; replicas = n }

-- sealed by batch
abbrev pub batch : Attrs
batch = record { bits = 4 }

abbrev pub sealed_at : ℕ → Coordination
sealed_at n = record { split = mode.Pass batch; count = mode.Seal batch; commit = mode.Pass batch; replicas = n }

-- the view of the topology as it is written
pub word_count_view : view_of word_count (count_module ∷ commit_module ∷ []) ≡ word_count_with (free_at 1)
unfolding view_of bit_of meets within closure step
word_count_view = refl

-- without coordination only the source carries its key
pub carried_free : map (carries (word_count_with (free_at 3))) (0 ∷ 1 ∷ 2 ∷ 3 ∷ []) ≡ Some batch ∷ None ∷ None ∷ None ∷ []
unfolding carries carriers usable_fds bit_of meets within closure step
carried_free = refl

-- sealed by batch every stream does
pub carried_sealed : map (carries (word_count_with (sealed_at 3))) (0 ∷ 1 ∷ 2 ∷ 3 ∷ []) ≡ Some batch ∷ Some batch ∷ Some batch ∷ Some batch ∷ []
unfolding carries carriers usable_fds bit_of meets within closure step
carried_sealed = refl

-- three acyclic regions, in the order of the components
pub regions_in_order : regions (word_count_with (free_at 3)) ≡ 1 ∷ 2 ∷ 4 ∷ []
unfolding regions bit_of meets within closure step
regions_in_order = refl
