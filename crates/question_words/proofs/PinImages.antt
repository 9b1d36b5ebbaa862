-- The image of an open pin, or why it has none.
use Rattle.std.proofs.Common.{◌≡◌, ◌-◌, ℕ, Option, Some, None, true, false, refl, ap}
use Rattle.std.specs.Prelude.{Result, Ok, Err}
use Rattle.heap_class.specs.declared.Refusal.{Refusal}
use Rattle.heap_pins.specs.Pin.{pin_image}
use Rattle.heap_pins.specs.View.{PinShown}
use Rattle.hprof_text.specs.Image.{Image}
use Rattle.heap_trail.specs.Machine.{Machine}
use Rattle.heap_trail.specs.Pins.{PinState, Kept, Gone, pin_at}
use Rattle.heap_trail.specs.Views.{IsViewOf, view_refusal}
use Rattle.heap_class.specs.declared.Refusal.TheVariants.{NoMemory, NotRetained}
use Rattle.heap_pins.specs.Pin.{PinContents}
use Rattle.heap_trail.specs.Pins.{is_retained}
use Rattle.heap_trail.specs.Trail.{state_ago}
use Rattle.heap_trail.specs.Views.{ShowsAgo}
use Rattle.question_words.specs.declared.at.At.TheVariants.{Current, Pin, Place}
use Rattle.question_words.specs.Moments.{IsRefusedAt, image_at, image_of_pin}

pub no_image : (o : Option PinState) (e : Refusal) → view_refusal o ≡ Some e → image_of_pin o ≡ Err e
unfolding view_refusal image_of_pin
no_image None e h = cc
no_image (Some (Gone place cause)) e h = cc
no_image (Some (Kept place image given)) e h = cc

pub has_image : (m : Machine) (pin : ℕ) (v : PinShown) → IsViewOf m pin v → image_of_pin (pin_at pin m.pins) ≡ Ok (pin_image v.pin v.state)
unfolding image_of_pin
has_image m pin v h = ap image_of_pin h.image.2

-- ---- the state at a place

pub not_kept : (m : Machine) (at : ℕ) → is_retained at m.trail ≡ false → IsRefusedAt (image_at (Place at) m) NotRetained
unfolding image_at
not_kept m at e = rw e refl

pub no_room : (m : Machine) (at : ℕ) → is_retained at m.trail ≡ true → IsRefusedAt (image_at (Place at) m) NoMemory
unfolding image_at
no_room m at e = rw e refl

pub kept_image : (m : Machine) (at : ℕ) (p : PinContents) → is_retained at m.trail ≡ true → ShowsAgo m.trail (m.trail.place - at) p
    → Ok (pin_image p m.trail.current) ≡ image_at (Place at) m
unfolding image_at
kept_image m at p e shown = rw e (ap (λ (i : Image). let r : Result Image Refusal = Ok i in r) shown.image)

-- ---- the current state

pub current_room : (m : Machine) → IsRefusedAt (image_at Current m) NoMemory
unfolding image_at
current_room m = refl

pub current_image : (m : Machine) (p : PinContents) → ShowsAgo m.trail 0 p → Ok (pin_image p m.trail.current) ≡ image_at Current m
unfolding image_at state_ago
current_image m p shown = ap (λ (i : Image). let r : Result Image Refusal = Ok i in r) shown.image

pub pin_there : (m : Machine) (pin : ℕ) → image_of_pin (pin_at pin m.pins) ≡ image_at (Pin pin) m
unfolding image_at
pin_there m pin = refl
