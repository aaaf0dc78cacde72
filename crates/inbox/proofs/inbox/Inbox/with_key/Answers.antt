use Rattle.std.proofs.Common.{◌≡◌, ◌∙◌, ℕ, suc, List, [], ◌∷◌, ap, cond, refl, false, length, map}
use Rattle.topo_forms.specs.Feeds.{Feed, feeds, log_feeds}
use Rattle.topo_forms.specs.View.{View, is_order, mode_key, port_numbers}
use Rattle.inbox.specs.Code.Heard.{is_sealing}
use Rattle.messages.specs.Ports.{port_keys}
use Rattle.inbox.specs.Wiring.{port_for, feeds_for}
use Rattle.inbox.proofs.Keeping.Fresh.{has_none}
use Rattle.inbox.proofs.inbox.Inbox.with_key.Goals as goal

length-ports : (fs : List Feed) → length (map (λ (f : Feed). f.port) fs) ≡ length fs
length-ports [] = refl
length-ports (f ∷ fs) = ap suc (length-ports fs)

-- the ports of its feeds, where it hears
own_ports : (v : View) (c j : ℕ) (ports seen : List ℕ) (own read : List Feed) → is_order v c ≡ false → seen ≡ ports → ports ≡ map (λ (f : Feed). f.port) read → read ≡ own → own ≡ feeds_for v c j → seen ≡ map (λ (f : Feed). f.port) (feeds v c j)
own_ports v c j ports seen own read hears same are at is = same ∙ are ∙ ap (map (λ (f : Feed). f.port)) (at ∙ is ∙ ap (λ b. cond b (log_feeds v c) (feeds v c j)) hears)

pub returns-clause-feeds : goal.returns-clause-feeds
returns-clause-feeds c =
    let v = c.args.valid.now.view in
    c.in_ok-new.ensures.feeds.count
    ∙ ap (length {A = ℕ}) (own_ports v c.args.component c.args.replica c.in_ok-feed_ports.feed_ports.items c.deref-2.result.now c.in_ok-own.own.items c.deref.result.now c.requires.hears c.deref-2.ensures.value c.in_ok-feed_ports.ensures c.deref.ensures.value c.in_ok-own.ensures)
    ∙ length-ports (feeds v c.args.component c.args.replica)

pub returns-clause-heard : goal.returns-clause-heard
returns-clause-heard c = λ records.
    let v = c.args.valid.now.view in
    has_none v c.args.component c.args.replica records _ c.requires.hears (c.is_sealing.ensures ∙ ap is_sealing c.mode-mode.ensures)
    (port_keys c.in_ok-ports.ports.items) c.deref-2.result.now
    (c.in_ok-ports.ensures ∙ ap (λ key. map (λ p. port_for v c.args.component p key) (port_numbers v c.args.component)) (c.key_of.ensures ∙ ap mode_key c.mode-mode.ensures))
    (own_ports v c.args.component c.args.replica c.in_ok-feed_ports.feed_ports.items c.deref-2.result.now c.in_ok-own.own.items c.deref.result.now c.requires.hears c.deref-2.ensures.value c.in_ok-feed_ports.ensures c.deref.ensures.value c.in_ok-own.ensures)
    c.in_ok-new.ensures c.new-2.ensures.log c.new-2.ensures.places c.new-2.ensures.held
