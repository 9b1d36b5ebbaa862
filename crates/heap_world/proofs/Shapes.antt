-- What an event leaves of an object: its kind and its number of words.
use Rattle.std.proofs.Common.{◌≡◌, ℕ, length, refl, ◌∙◌, Some}
use Rattle.heap_region.specs.Regions.{Object, object_of}
use Rattle.heap_world.specs.State.{HeapState}

-- the id names an object of this one's kind with as many words
abbrev pub NamesLike : HeapState → Object → ℕ → Type 0
NamesLike w o x = (p : Object) × (object_of w.regions x ≡ Some p) × (p.kind ≡ o.kind) × (length p.words ≡ length o.words)

-- from w to v the object that the id names keeps kind and number of words
abbrev pub KeepsShape : HeapState → HeapState → ℕ → Type 0
KeepsShape w v x = (o : Object) → object_of w.regions x ≡ Some o → NamesLike v o x

-- and so does what was like it
pub names_like_after_kept_shape : (w v : HeapState) (x : ℕ) (o : Object) → KeepsShape w v x → NamesLike w o x → NamesLike v o x
names_like_after_kept_shape w v x o h n = let p = h n.0 n.1 in (p.0, p.1, p.2 ∙ n.2, p.3 ∙ n.3)

pub same_object_keeps_shape : (w v : HeapState) (x : ℕ) → object_of v.regions x ≡ object_of w.regions x → KeepsShape w v x
same_object_keeps_shape w v x same o e = (o, same ∙ e, refl, refl)
