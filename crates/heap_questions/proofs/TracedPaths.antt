-- Paths and what was found.
use Rattle.std.proofs.Common.{append_assoc, ◌≡◌, ℕ, ◌+◌, ◌<◌, List, [], ◌∷◌, ◌++◌, length, refl, sym, ap, ◌∙◌, subst, arith, rules}
use Rattle.std.specs.Prelude.{slice_get, Option, Some, None, IsSome, option_and_then}
use Rattle.std.proofs.lemmas.Option.{none-some, same_Some}
use Rattle.hprof_text.specs.Image.{Image}
use Rattle.heap_questions.specs.Graph.{HasId, IsPathTo, object_with, named, followed, slot_names}
use Rattle.heap_questions.specs.Search.{Found, IsFound, IsSearched, IsSearchedTo, IsWayBack, Register, Slot}
use Rattle.std.proofs.lemmas.List.{append-nil}

some_first : {A B : Type 0} (f : A → Option B) (o : Option A) (y : B) → option_and_then f o ≡ Some y → IsSome o
some_first f None y h = absurd (none-some y h)
some_first f (Some o) y h = search rules

-- what has a slot that names something is an object
pub named_object : (image : Image) (x s y : ℕ) → named image x s ≡ Some y → HasId image x
unfolding named
named_object image x s y h = some_first (λ o. slot_names image.classes o s) (object_with image x) y h

-- what slots lead from to an object is an object
pub first_object : (image : Image) (x : ℕ) (slots : List ℕ) (y : ℕ) → followed image x slots ≡ Some y → HasId image y → HasId image x
first_object image x [] y h o = subst (HasId image) (sym (same_Some x y h)) o
first_object image x (s ∷ ss) y h o = after (named image x s) refl h
  where
    after : (n : Option ℕ) → named image x s ≡ n → option_and_then (λ z. followed image z ss) n ≡ Some y → HasId image x
    after None e h = absurd (none-some y h)
    after (Some z) e h = named_object image x s z e

-- what is found leads to what is found
pub leads_on : (image : Image) (queue : List Found) (n : ℕ) → IsSearchedTo image queue n → (slots : List ℕ) (x d y : ℕ) → d + length slots < n → IsFound queue x d → followed image x slots ≡ Some y → HasId image y → IsFound queue y (d + length slots)
leads_on image queue n s [] x d y l f h o = (f.0, f.1, f.2, f.3 ∙ same_Some x y h, omega (arith, f.4))
leads_on image queue n s (t ∷ ts) x d y l f h o = after (λ z k. leads_on image queue n s ts z (d + 1) y (omega (arith, l)) k) (named image x t) refl h
  where
    after : ((z : ℕ) → IsFound queue z (d + 1) → followed image z ts ≡ Some y → HasId image y → IsFound queue y (d + 1 + length ts)) → (n : Option ℕ) → named image x t ≡ n → option_and_then (λ z. followed image z ts) n ≡ Some y → IsFound queue y (d + length (t ∷ ts))
    after on None e h = absurd (none-some y h)
    after on (Some z) e h =
        let c = s.closed f.0 f.1 (omega (arith, l, f.4)) f.2 t z (ap (λ x. named image x t) f.3 ∙ e) (first_object image z ts y h o) in
        let k : IsFound queue z (d + 1) = (c.0, c.1, c.2, c.3, omega (arith, c.4, f.4)) in
        let r = on z k h o in
        (r.0, r.1, r.2, r.3, omega (arith, r.4))

-- each path of fewer than n slots leads to something that was found, at most as deep as it is long
pub path_found : (image : Image) (queue : List Found) (n r : ℕ) (slots : List ℕ) (x : ℕ) → IsSearchedTo image queue n → length slots < n → IsPathTo image r slots x → IsFound queue x (length slots)
path_found image queue n r slots x s l p = after (slice_get image.registers r) refl p.leads
  where
    after : (m : Option ℕ) → slice_get image.registers r ≡ m → option_and_then (λ z. followed image z slots) m ≡ Some x → IsFound queue x (length slots)
    after None e h = absurd (none-some x h)
    after (Some z) e h =
        let c = s.roots r z e (first_object image z slots x h p.there) in
        let k = leads_on image queue n s slots z 0 x (omega (arith, l)) c h p.there in
        (k.0, k.1, k.2, k.3, omega (arith, k.4))

-- so does each, if all was looked at
pub any_path_found : (image : Image) (queue : List Found) (r : ℕ) (slots : List ℕ) (x : ℕ) → IsSearched image queue → IsPathTo image r slots x → IsFound queue x (length slots)
any_path_found image queue r slots x s p = path_found image queue (length slots + 1) r slots x (s (length slots + 1)) (omega arith) p

-- ---- the way back

-- the chain of what stands here goes on to that of what is sought
abbrev pub GoesOn : List Found → ℕ → Found → List ℕ → Type 0
GoesOn queue index here slots = (k : ℕ) × (slice_get queue k ≡ Some here) × ((r : ℕ) (back : List ℕ) → IsWayBack queue k r back → IsWayBack queue index r (slots ++ back))

pub goes_on : (queue : List Found) (index : ℕ) (here : Found) → slice_get queue index ≡ Some here → GoesOn queue index here []
goes_on queue index here h = (index, h, λ r back i. i)

pub goes_on_more : (queue : List Found) (index : ℕ) (here next : Found) (slots : List ℕ) (parent s : ℕ) → GoesOn queue index here slots → here.via ≡ Slot s parent → slice_get queue parent ≡ Some next → GoesOn queue index next (slots ++ s ∷ [])
goes_on_more queue index here next slots parent s g e n = (parent, n, λ r back i. subst (IsWayBack queue index r) (sym (append_assoc slots (s ∷ []) back)) (g.2 r (s ∷ back) (here, parent, g.1, e, i)))

pub goes_on_ends : (queue : List Found) (index : ℕ) (here : Found) (slots : List ℕ) (register : ℕ) → GoesOn queue index here slots → here.via ≡ Register register → IsWayBack queue index register slots
goes_on_ends queue index here slots register g e = subst (IsWayBack queue index register) (append-nil slots) (g.2 register [] (here, g.1, e))
