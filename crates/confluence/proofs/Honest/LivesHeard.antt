-- What an instance in mode Pass or Seal hears in a life, streams have sent to its ports.
use Rattle.std.proofs.Common.{◌≡◌, ap, sym, subst, ◌∙◌, ℕ, ◌<◌, ◌⊎◌, List, ◌++◌, length, inl, inr, Some, refl}
use Rattle.std.proofs.lemmas.Grind.{flat_map-append}
use Rattle.blz_value.specs.declared.attrs.Attrs.{Attrs}
use Rattle.blz_value.specs.Members.{Has}
use Rattle.blz_value.proofs.Membership.{Has-append_left, Has-from_flat_map}
use Rattle.bloom_forms.specs.declared.program.Program.{Program}
use Rattle.bloom_forms.specs.declared.mode.Mode.{Mode}
use Rattle.bloom_forms.specs.declared.mode.Mode.TheVariants.{Free, Pass, Seal, Order}
use Rattle.topo_forms.specs.Data.{Data}
use Rattle.topo_forms.specs.View.{View, program_of, mode_of, mode_key, replicas_of}
use Rattle.messages.specs.Messages.{Batch, Entry, all_pairs}
use Rattle.inbox.specs.Instances.{Instance, entries_of}
use Rattle.inbox.specs.Timesteps.{timesteps, Stands}
use Rattle.inbox.specs.Wiring.{Wiring, wiring_of, instance_at, instance_for}
use Rattle.inbox.specs.Executions.{Execution}
use Rattle.inbox.specs.Growth.{ComesFrom}
use Rattle.inbox.specs.Laws.{IsSent}
use Rattle.inbox.proofs.Executions.Sent.{history_holds}
use Rattle.inbox.proofs.TimestepLemmas.Whole.{entries_of-append}
use Rattle.inbox.proofs.WiringLemmas.{instance-wired}
use Rattle.inbox.proofs.TimestepLemmas.Widths.{timesteps-many}
use Rattle.inbox.proofs.TimestepLemmas.OfLives.{batches_heard}
use Rattle.inbox.specs.Sent.{IsHistory, AreSent}
use Rattle.inbox.proofs.Records.ArrivingLaw.{heard_law, arrivals_law}
use Rattle.inbox.proofs.Streams.InstancePorts.{ports_same}
use Rattle.inbox.proofs.Streams.CarriedKeys.{not_ordered}
use Rattle.confluence.specs.Partitions.{IsLived}
use Rattle.confluence.proofs.Honest.FromFeeds.{AllCome}
use Rattle.bloom_forms.specs.Steps.{AreArrivals}

-- a mode with a key is Pass or Seal
pub by_mode : (mode : Mode) (key : Attrs) → mode_key mode ≡ Some key → (mode ≡ Pass key) ⊎ (mode ≡ Seal key)
by_mode Free key e = cc
by_mode (Pass k) key e = inl (let same : Some k ≡ Some key = e in cc)
by_mode (Seal k) key e = inr (let same : Some k ≡ Some key = e in cc)
by_mode Order key e = cc

module _ (v : View) (d : Data) (x : Execution) (history : IsHistory v d x) (c j : ℕ) (there : c < length v.components) (replica : j < replicas_of v c) (batches : List Batch) (lived : IsLived x c j batches) where
  abbrev i : Instance
  i = instance_for v c j

  abbrev w : Wiring
  w = wiring_of v

  sent_all : IsSent w d x
  sent_all = history_holds w d history.steps x history.legal

  wired : instance_at w c j ≡ i
  wired = instance-wired v c j there replica

  -- all that is heard comes from feeds
  pub all_come : AllCome w d x i (all_pairs batches)
  all_come pair h =
      let m = Has-from_flat_map (λ batch. batch) pair batches h in
      let inside : Has m.0 lived.life.heard = subst (λ l. Has m.0 l) lived.first.with_more (Has-append_left m.0 batches lived.first.more m.1) in
      subst (λ k. ComesFrom w d x k pair) wired (sent_all.hears c j lived.life m.0 pair lived.lived inside m.2)

  module _ (key : Attrs) (mode : mode_key (mode_of v c) ≡ Some key) where
    -- a record that stands in a timestep was heard
    pub heard_standing : (entry : Entry) → Stands (timesteps i batches) entry → Has entry (entries_of i (all_pairs batches))
    heard_standing entry s = batches_heard i (mode_of v c) batches entry refl (not_ordered v history.valid c key mode) s

    -- and a stream has sent it to its port
    pub all_sent : AreSent v d x c (timesteps i batches)
    all_sent now port r h m =
        let heard = heard_standing (port, r) (record { now = now; among = h; there = m }) in
        let pairs : all_pairs lived.life.heard ≡ all_pairs batches ++ all_pairs lived.first.more = ap all_pairs (sym lived.first.with_more) ∙ flat_map-append (λ b. b) batches lived.first.more in
        let all : Has (port, r) (entries_of i (all_pairs lived.life.heard)) =
        subst (λ l. Has (port, r) l) (sym (ap (entries_of i) pairs ∙ entries_of-append i (all_pairs batches) (all_pairs lived.first.more))) (Has-append_left (port, r) (entries_of i (all_pairs batches)) (entries_of i (all_pairs lived.first.more)) heard) in
        heard_law v d x c j lived.life (port, r) history there replica lived.lived (subst (λ k. Has (port, r) (entries_of k (all_pairs lived.life.heard))) (sym wired) all)

    -- so timesteps are arrivals of the program
    pub all_arrive : (program : Program) → program_of v c ≡ Some program → AreArrivals program (timesteps i batches)
    all_arrive program body =
        arrivals_law v d x c program (timesteps i batches) history there body
        (λ now h. timesteps-many i batches now h ∙ ports_same v c j key mode program ((history.valid.components c there).runs program body)) all_sent
