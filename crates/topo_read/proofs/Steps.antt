-- Steps of reading that are bound together otherwise are the same steps.
use Rattle.std.proofs.Common.{◌≡◌, Result, Ok, Err, refl}
use Rattle.topo_read.specs.Fields.{◌>>=◌, Path}

-- the steps of a part are steps of the whole
pub inner : {A B C : Type 0} (m : Result A Path) (f : A → Result B Path) (g : B → Result C Path) (h : A → Result C Path) → ((x : A) → (f x >>= g) ≡ h x) → ((m >>= f) >>= g) ≡ (m >>= h)
inner (Ok x) f g h e = e x
inner (Err path) f g h e = refl

-- the same after the same step
pub after : {A B : Type 0} (m : Result A Path) (f g : A → Result B Path) → ((x : A) → f x ≡ g x) → (m >>= f) ≡ (m >>= g)
after (Ok x) f g e = e x
after (Err path) f g e = refl
