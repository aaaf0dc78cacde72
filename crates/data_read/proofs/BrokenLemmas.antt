-- Where no dependency is broken the data hold them.
use Rattle.std.proofs.Common.{◌≡◌, ℕ, zero, suc, ◌+◌, ◌<◌, List, [], ◌∷◌, ◌++◌, length, Option, Some, None, IsTrue, refl, ap, sym, subst, inl, inr, arith, append_assoc}
use Rattle.std.specs.List.{flat_map, enumerate_from}
use Rattle.std.specs.Option.{option_or}
use Rattle.blz_value.specs.Members.{Has}
use Rattle.blz_value.specs.Record.{Row}
use Rattle.blz_value.proofs.Membership.{Has-map, Has-append_left, Has-append_right}
use Rattle.blz_value.specs.declared.attrs.Fd.{Fd}
use Rattle.topo_forms.specs.Data.{Data, SourceData, source_data, has_both, HoldsFd, Holds}
use Rattle.topo_forms.specs.View.{View, stream_at, stream_attrs, source_count}
use Rattle.data_read.specs.declared.dependencies.BrokenFd.{BrokenFd}
use Rattle.data_read.specs.Broken.{Sides, sides_of, sides_in, all_sides, disagree, first_such, pair_or, broken_pair, broken_by, first_broken_from, first_broken}
use Rattle.data_read.proofs.EarliestLemmas.{AllAgree, agree_more}

no_pair : (o : Option Sides) (x : Sides) (rest : Option (Row × Row)) → pair_or o x rest ≡ None → (o ≡ None) × (rest ≡ None)
no_pair None x rest e = (refl, e)
no_pair (Some y) x rest e = cc

-- where no pair is broken all agree
all_agree : (earlier later : List Sides) → AllAgree earlier → broken_pair earlier later ≡ None → AllAgree (earlier ++ later)
all_agree earlier [] agree none = subst AllAgree (sym (append_none earlier)) agree
  where
    append_none : (xs : List Sides) → xs ++ [] ≡ xs
    append_none [] = refl
    append_none (x ∷ xs) = ap (λ ys. x ∷ ys) (append_none xs)
all_agree earlier (x ∷ xs) agree none =
    let step = no_pair (first_such (disagree x) earlier) x (broken_pair (earlier ++ x ∷ []) xs) none in
    subst AllAgree (append_assoc earlier (x ∷ []) xs) (all_agree (earlier ++ x ∷ []) xs (agree_more earlier x agree step.0) step.1)

Has-flat_map : {X Y : Type 0} (f : X → List Y) (x : X) (y : Y) (xs : List X) → Has x xs → Has y (f x) → Has y (flat_map f xs)
Has-flat_map f x y [] h k = absurd h
Has-flat_map f x y (z ∷ zs) (inl e) k = Has-append_left y (f z) (flat_map f zs) (subst (λ w. Has y (f w)) (sym e) k)
Has-flat_map f x y (z ∷ zs) (inr h) k = Has-append_right y (f z) (flat_map f zs) (Has-flat_map f x y zs h k)

numbered : (n s : ℕ) (d : Data) → s < length d → Has (n + s, source_data d s) (enumerate_from n d)
numbered n s [] lt = absurd (omega arith)
numbered n zero (x ∷ xs) lt = inl (let same : n ≡ n + 0 = omega arith in ap (λ (k : ℕ). let p : ℕ × SourceData = (k, x) in p) same)
numbered n (suc s) (x ∷ xs) lt =
    inr (let same : n + 1 + s ≡ n + suc s = omega arith in subst (λ (k : ℕ). Has (k, source_data xs s) (enumerate_from (n + 1) xs)) same (numbered (n + 1) s xs (omega arith)))

-- a record of a source with all columns is one of those that a dependency speaks of
spoken_of : (v : View) (d : Data) (fd : Fd) (s : ℕ) (row : Row) → s < length d → IsTrue (has_both fd (stream_attrs v s).bits) → Has row (source_data d s).rows
    → Has (sides_of fd (stream_at v s).columns row) (all_sides v fd d)
spoken_of v d fd s row lt both h =
    Has-flat_map (sides_in v fd) (s, source_data d s) (sides_of fd (stream_at v s).columns row) (enumerate_from 0 d)
    (let same : 0 + s ≡ s = omega arith in subst (λ (k : ℕ). Has (k, source_data d s) (enumerate_from 0 d)) same (numbered 0 s d lt))
    (rw both (Has-map (sides_of fd (stream_at v s).columns) row (source_data d s).rows h))

holds_of : (v : View) (d : Data) (fd : Fd) → length d ≡ source_count v → broken_pair [] (all_sides v fd d) ≡ None → HoldsFd v d fd
holds_of v d fd each none s u a b ls lu hs hu ma mb =
    all_agree [] (all_sides v fd d) (λ x y p q. absurd p) none (sides_of fd (stream_at v s).columns a) (sides_of fd (stream_at v u).columns b)
    (spoken_of v d fd s a (omega (arith, ls, each)) hs ma) (spoken_of v d fd u b (omega (arith, lu, each)) hu mb)

-- where the first is none, none is broken
none_of : (one rest : Option BrokenFd) → option_or one rest ≡ None → (one ≡ None) × (rest ≡ None)
none_of None rest e = (refl, e)
none_of (Some broken) rest e = cc

not_broken : (n : ℕ) (pair : Option (Row × Row)) → broken_by n pair ≡ None → pair ≡ None
not_broken n None e = refl
not_broken n (Some p) e = cc

each_holds : (v : View) (d : Data) (n : ℕ) (fds : List Fd) → length d ≡ source_count v → first_broken_from v n fds d ≡ None → (fd : Fd) → Has fd fds → HoldsFd v d fd
each_holds v d n [] each e fd h = absurd h
each_holds v d n (first ∷ fds) each e fd h =
    let this = none_of (broken_by n (broken_pair [] (all_sides v first d))) (first_broken_from v (n + 1) fds d) e in
    go (holds_of v d first each (not_broken n (broken_pair [] (all_sides v first d)) this.0)) (each_holds v d (n + 1) fds each this.1 fd) h
  where
    go : HoldsFd v d first → (Has fd fds → HoldsFd v d fd) → Has fd (first ∷ fds) → HoldsFd v d fd
    go here later (inl s) = subst (HoldsFd v d) s here
    go here later (inr m) = later m

pub unbroken_holds : (v : View) (d : Data) → length d ≡ source_count v → first_broken v d ≡ None → Holds v d
unbroken_holds v d each e fd h = each_holds v d 0 v.fds each e fd h
