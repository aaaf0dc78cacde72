-- The books of the instances at the start, one instance after the other, and of a net that made no step.
use Rattle.std.proofs.Common.{◌≡◌, ◌<◌, ◌+◌, ℕ, zero, suc, Some, true, false, List, [], ◌∷◌, ◌++◌, length, slice_get, refl, ap, ◌∙◌, sym, subst, inl, inr, ◌⊎◌, arith, cond}
use Rattle.blz_value.specs.Record.{Row}
use Rattle.blz_value.specs.declared.attrs.Attrs.{Attrs}
use Rattle.topo_forms.specs.Feeds.{feeds, log_feeds}
use Rattle.topo_forms.specs.View.{View, is_order, is_order_mode, replicas_of}
use Rattle.bloom_forms.specs.declared.mode.Mode.{Mode}
use Rattle.bloom_forms.specs.declared.mode.Mode.TheVariants.{Free, Pass, Seal}
use Rattle.inbox.specs.Inbox.{HasHeard, IsFrom, feeds_in}
use Rattle.inbox.specs.Wiring.{instance_for}
use Rattle.inbox.specs.declared.inbox.Inbox.{Inbox}
use Rattle.messages.specs.Lists.{Listed}
use Rattle.messages.specs.Known.{is_known}
use Rattle.sched_net.specs.Net.{ShowsInbox}
use Rattle.inbox.specs.Places.{instance_place}
use Rattle.sched_net.specs.Code.First.{first_seat, IsFirst, AreFirst}
use Rattle.sched_net.specs.declared.seated.Seated.{Seated}
use Rattle.messages.proofs.KnownLemmas.{none_known}
use Rattle.inbox.proofs.PlacesLemmas.{one_place, before-more}

-- ---- one instance

-- the modes in which an instance hears
pub hears_in : (m : Mode) → (m ≡ Free) ⊎ (((key : Attrs) × (m ≡ Pass key)) ⊎ ((key : Attrs) × (m ≡ Seal key))) → is_order_mode m ≡ false
hears_in m (inl free) = ap is_order_mode free
hears_in m (inr (inl pass)) = ap is_order_mode pass.1
hears_in m (inr (inr sealed)) = ap is_order_mode sealed.1

pub inbox_first : (v : View) (c r : ℕ) (l : Listed) (ear : Inbox) (indexes : List (List ℕ)) → is_order v c ≡ false → ((records : List Row) → HasHeard (instance_for v c r) records [] ear) → ((records : List Row) → IsFrom records ear)
    → feeds_in ear ≡ length (feeds v c r) → indexes ≡ [] → ShowsInbox v l c r (first_seat v c r) ear indexes
inbox_first v c r l ear indexes hears heard kept count none = record {
  hears = hears;
  heard = heard l.records;
  kept = kept l.records;
  feeds = count ∙ sym (ap (λ b. length (cond b (log_feeds v c) (feeds v c r))) hears);
  known = record {
    sound = λ feed index is. absurd (none_known feed index (subst (λ (known : List (List ℕ)). is_known known feed index ≡ true) none is));
    whole = λ feed index message below at h. absurd h;
  };
}

-- ---- all instances

found_last : {X : Type 0} (xs : List X) (x y : X) (n : ℕ) → slice_get (xs ++ x ∷ []) n ≡ Some y → (slice_get xs n ≡ Some y) ⊎ ((n ≡ length xs) × (x ≡ y))
found_last [] x y zero at = inr (refl, (let same : x ≡ y = cc in same))
found_last [] x y (suc n) at = cc
found_last (z ∷ xs) x y zero at = inl at
found_last (z ∷ xs) x y (suc n) at = elim (found_last xs x y n at) [
  | inl old ↦ inl old
  | inr new ↦ inr (ap suc new.0, new.1)
]

pub seats_more : (v : View) (seats : List Seated) (b : Seated) (c r : ℕ) → AreFirst v seats → r < replicas_of v c → length seats ≡ instance_place v c r → IsFirst v c r b → AreFirst v (seats ++ b ∷ [])
seats_more v seats b c r before within count first = record {
  each = λ d q s there inside at. elim (found_last seats b s (instance_place v d q) at) [
    | inl old ↦ before.each d q s there inside old
    | inr new ↦
        let one = one_place (replicas_of v) d q c r inside within (new.0 ∙ count) in
        subst (λ x. IsFirst v d q x) new.1 (subst (λ n. IsFirst v n q b) (sym one.0) (subst (λ m. IsFirst v c m b) (sym one.1) first))
  ];
}

-- the place after the last replica of a component is that of the next one
pub next_component : (v : View) (c : ℕ) → instance_place v c (replicas_of v c) ≡ instance_place v (c + 1) 0
next_component v c = omega (arith, before-more (replicas_of v) c)
