-- The laws of what dumps tell.
use Rattle.std.specs.Prelude.{◌≡◌, ◌↔◌, ℕ, ◌<◌, ◌^◌, List, ◌++◌, slice_index, Some, Result, Ok}
use Rattle.heap_class.specs.declared.IdSize.{IdSize}
use Rattle.heap_world.specs.State.{HeapState}
use Rattle.heap_world.specs.Legal.{IsLegal}
use Rattle.heap_pins.specs.Images.{image_of}
use Rattle.hprof_text.specs.Image.{Image, IsDumpable}
use Rattle.hprof_text.specs.Fits.{ShowsWhole}
use Rattle.hprof_text.specs.Segments.{dump_text}
use Rattle.hprof_reader.specs.declared.fault.Fault.{Fault}
use Rattle.hprof_image.specs.Images.{dump_told, shown}

-- ---- images

-- an image within the limits of a dump, whose ids and words fit, and a time that fits
abbrev pub IsTellable : IdSize → Image → ℕ → Type 0
IsTellable ids image time = IsDumpable image × ShowsWhole ids image × (time < 2 ^ 64)

-- the dump of an image tells it
abbrev pub IsTold : IdSize → Image → ℕ → Type 0
IsTold ids image time =
    IsTellable ids image time → dump_told (dump_text ids image time) ≡ Some (shown ids time image)

-- the dump of a legal heap tells its image
abbrev pub IsLegalTold : IdSize → HeapState → ℕ → Type 0
IsLegalTold ids w time =
    IsLegal w → time < 2 ^ 64
    → dump_told (dump_text ids (image_of w) time) ≡ Some (shown ids time (image_of w))

-- two images, each with its size of identifiers and its time, have the same dump exactly if they show the same
abbrev pub AreShownAlike : IdSize → IdSize → Image → Image → ℕ → ℕ → Type 0
AreShownAlike ids other a b s t =
    IsTellable ids a s → IsTellable other b t
    → (dump_text ids a s ≡ dump_text other b t) ↔ (shown ids s a ≡ shown other t b)

-- ---- what is read

-- each number is a byte
abbrev pub AreBytes : List ℕ → Type 0
AreBytes bytes = (i : ℕ) → slice_index bytes i < 256

-- what `read` finds at the front of bytes fits and has its text there, and whatever fits is found where its text is
pub record ReadsTexts {A : Type 0} (text : A → List ℕ) (fits : A → Type 0)
    (read : List ℕ → Result (A × List ℕ) Fault) : Type 0 where
  pub found : (bytes : List ℕ) (x : A) (rest : List ℕ) → AreBytes bytes
      → read bytes ≡ Ok (x, rest) → fits x × (bytes ≡ text x ++ rest)
  pub only : (x : A) (rest : List ℕ) → fits x → read (text x ++ rest) ≡ Ok (x, rest)
