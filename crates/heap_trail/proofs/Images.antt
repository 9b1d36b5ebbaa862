-- A pin that isn't lost keeps its place and its image.
use Rattle.std.proofs.Common.{◌≡◌, ◌≢◌, ◌⊎◌, ℕ, Bool, true, false, cond, List, [], ◌∷◌, ◌++◌, refl, sym, ap, ◌∙◌, Option, Some, None, Result, Ok, Err, map}
use Rattle.std.specs.Prelude.{nat_le, nat_lt, not, unwrap_or, find, filter, option_map, ◌==◌, if◌then◌else◌}
use Rattle.std.specs.List.{list_any}
use mathlib.Core.Logic.{inl, inr}
use Rattle.std.proofs.lemmas.Bool.{eqb-true}
use Rattle.heap_world.proofs.ChangedLookups.{same_or_not}
use Rattle.heap_class.specs.declared.LostCause.{LostCause}
use Rattle.heap_class.specs.declared.LostCause.TheVariants.{Rewound, Memory}
use Rattle.heap_class.specs.declared.Refusal.{Refusal}
use Rattle.heap_world.specs.State.{HeapState}
use Rattle.heap_step.specs.declared.Answer.{Answer}
use Rattle.heap_step.specs.declared.Event.{Event}
use Rattle.heap_step.specs.Apply.{applied}
use Rattle.hprof_text.specs.Image.{Image}
use Rattle.heap_trail.specs.declared.Action.{Action}
use Rattle.heap_trail.specs.declared.Action.TheVariants.{Step, Rewind, OpenPin, NextPiece, ClosePin}
use Rattle.heap_trail.specs.Limits.{last_place}
use Rattle.heap_trail.specs.Trail.{rewind_refusal}
use Rattle.heap_trail.specs.Pins.{Pins, PinState, Kept, Gone, pin_at, open_refusal, with_pin, without_pin, if_kept, each_kept, with_piece_given, after_rewind, with_lost}
use Rattle.heap_trail.specs.Machine.{Machine, Allocation, Granted, Denied, LosesPins, after_result, after_step_at, unless, after_rewind_by, after_open, counted, after_piece, after_close, acted, acted_under}
use Rattle.heap_trail.specs.Laws.{KeepsImage}

-- two kept states of a pin have the same place and image
abbrev pub SameImage : Option PinState → Option PinState → Type 0
SameImage a b = (p q : ℕ) (i j : Image) (g h : ℕ) → a ≡ Some (Kept p i g) → b ≡ Some (Kept q j h) → (q ≡ p) × (j ≡ i)

same_pin_same_image : (a b : Option PinState) → b ≡ a → SameImage a b
same_pin_same_image a b e p q i j g h here there =
    let k : Some (Kept p i g) ≡ Some (Kept q j h) = sym here ∙ sym e ∙ there in
    let x : q ≡ p = cc in
    let y : j ≡ i = cc in
    (x, y)

-- what a change of the kept pins may give
abbrev pub KeepsOrLoses : (ℕ → Image → ℕ → PinState) → Type 0
KeepsOrLoses f = (p : ℕ) (i : Image) (g q : ℕ) (j : Image) (h : ℕ) → f p i g ≡ Kept q j h → (q ≡ p) × (j ≡ i)

if_kept_same : (f : ℕ → Image → ℕ → PinState) → KeepsOrLoses f → (s : PinState) → SameImage (Some s) (Some (if_kept f s))
unfolding if_kept
if_kept_same f keeps (Kept p0 i0 g0) p q i j g h here there =
    let a : p0 ≡ p = cc here in
    let b : i0 ≡ i = cc here in
    let t : f p0 i0 g0 ≡ Kept q j h = cc there in
    let r = keeps p0 i0 g0 q j h t in
    (r.0 ∙ a, r.1 ∙ b)
if_kept_same f keeps (Gone at cause) p q i j g h here there = absurd (clash here)
  where
    clash : Some (Gone at cause) ≡ Some (Kept p i g) → ⊥
    clash e = cc

image_same_from_none : (b : Option PinState) → SameImage None b
image_same_from_none b p q i j g h here there = absurd (clash here)
  where
    clash : None ≡ Some (Kept p i g) → ⊥
    clash e = cc

image_same_to_none : (a : Option PinState) → SameImage a None
image_same_to_none a p q i j g h here there = absurd (clash there)
  where
    clash : None ≡ Some (Kept q j h) → ⊥
    clash e = cc

-- a change of each pin that isn't lost
image_same_in_changed_list : (f : ℕ → ℕ → Image → ℕ → PinState) → ((n : ℕ) → KeepsOrLoses (f n)) → (pin : ℕ) (xs : List (ℕ × PinState))
    → SameImage (option_map (λ (e : ℕ × PinState). e.1) (find (λ e. e.0 == pin) xs)) (option_map (λ (e : ℕ × PinState). e.1) (find (λ e. e.0 == pin) (map {B = ℕ × PinState} (λ e. (e.0, if_kept (f e.0) e.1)) xs)))
image_same_in_changed_list f keeps pin [] = image_same_from_none _
image_same_in_changed_list f keeps pin (x ∷ xs) = go (x.0 == pin) (image_same_in_changed_list f keeps pin xs)
  where
    go : (b : Bool) → SameImage (option_map (λ (e : ℕ × PinState). e.1) (find (λ e. e.0 == pin) xs)) (option_map (λ (e : ℕ × PinState). e.1) (find (λ e. e.0 == pin) (map {B = ℕ × PinState} (λ e. (e.0, if_kept (f e.0) e.1)) xs)))
        → SameImage (option_map (λ (e : ℕ × PinState). e.1) (cond b (Some x) (find (λ e. e.0 == pin) xs))) (option_map (λ (e : ℕ × PinState). e.1) (cond b (Some (x.0, if_kept (f x.0) x.1)) (find (λ e. e.0 == pin) (map {B = ℕ × PinState} (λ e. (e.0, if_kept (f e.0) e.1)) xs))))
    go true rest = if_kept_same (f x.0) (keeps x.0) x.1
    go false rest = rest

pub image_same_when_each_changed : (f : ℕ → ℕ → Image → ℕ → PinState) → ((n : ℕ) → KeepsOrLoses (f n)) → (pin : ℕ) (ps : Pins) → SameImage (pin_at pin ps) (pin_at pin (each_kept f ps))
unfolding pin_at each_kept
image_same_when_each_changed f keeps pin ps = image_same_in_changed_list f keeps pin ps.open_pins

given_piece_keeps_image : (place : ℕ) (image : Image) (a q : ℕ) (j : Image) (h : ℕ) → Kept place image a ≡ Kept q j h → (q ≡ place) × (j ≡ image)
given_piece_keeps_image place image a q j h e =
    let x : q ≡ place = cc in
    let y : j ≡ image = cc in
    (x, y)

lost_or_kept : (b : Bool) (cause : LostCause) (place : ℕ) (image : Image) (a q : ℕ) (j : Image) (h : ℕ) → (if b then Gone place cause else Kept place image a) ≡ Kept q j h → (q ≡ place) × (j ≡ image)
lost_or_kept true cause place image a q j h e = absurd (clash e)
  where
    clash : Gone place cause ≡ Kept q j h → ⊥
    clash e = cc
lost_or_kept false cause place image a q j h e = given_piece_keeps_image place image a q j h e

piece_same : (pin n : ℕ) (ps : Pins) → SameImage (pin_at n ps) (pin_at n (with_piece_given pin ps))
unfolding with_piece_given
piece_same pin n ps = image_same_when_each_changed _ (λ number place image given q j h e. given_piece_keeps_image place image _ q j h e) n ps

rewind_same : (to n : ℕ) (ps : Pins) → SameImage (pin_at n ps) (pin_at n (after_rewind to ps))
unfolding after_rewind
rewind_same to n ps = image_same_when_each_changed _ (λ number place image given q j h e. lost_or_kept (nat_lt to place) Rewound place image given q j h e) n ps

image_same_when_pins_lost : (pins : List ℕ) (n : ℕ) (ps : Pins) → SameImage (pin_at n ps) (pin_at n (with_lost pins ps))
unfolding with_lost
image_same_when_pins_lost pins n ps = image_same_when_each_changed _ (λ number place image given q j h e. lost_or_kept (list_any (λ k. k == number) pins) Memory place image given q j h e) n ps

-- a pin at the end
image_same_beside_opened_pin : (n : ℕ) (xs : List (ℕ × PinState)) (y : ℕ × PinState) → SameImage (option_map (λ (e : ℕ × PinState). e.1) (find (λ e. e.0 == n) xs)) (option_map (λ (e : ℕ × PinState). e.1) (find (λ e. e.0 == n) (xs ++ y ∷ [])))
image_same_beside_opened_pin n [] y = image_same_from_none _
image_same_beside_opened_pin n (x ∷ xs) y = go (x.0 == n) (image_same_beside_opened_pin n xs y)
  where
    go : (b : Bool) → SameImage (option_map (λ (e : ℕ × PinState). e.1) (find (λ e. e.0 == n) xs)) (option_map (λ (e : ℕ × PinState). e.1) (find (λ e. e.0 == n) (xs ++ y ∷ [])))
        → SameImage (option_map (λ (e : ℕ × PinState). e.1) (cond b (Some x) (find (λ e. e.0 == n) xs))) (option_map (λ (e : ℕ × PinState). e.1) (cond b (Some x) (find (λ e. e.0 == n) (xs ++ y ∷ []))))
    go true rest = same_pin_same_image (Some x.1) (Some x.1) refl
    go false rest = rest

-- one pin fewer
abbrev pub Left : ℕ → ℕ → List (ℕ × PinState) → Option (ℕ × PinState)
Left pin n xs = find (λ (e : ℕ × PinState). e.0 == n) (filter (λ e. not (e.0 == pin)) xs)

pub other_pin_left_by_closing : (pin n : ℕ) (xs : List (ℕ × PinState)) → n ≢ pin → Left pin n xs ≡ find (λ (e : ℕ × PinState). e.0 == n) xs
other_pin_left_by_closing pin n [] other = refl
other_pin_left_by_closing pin n (x ∷ xs) other = go (x.0 == pin) (x.0 == n) refl refl (other_pin_left_by_closing pin n xs other)
  where
    go : (b c : Bool) → (x.0 == pin) ≡ b → (x.0 == n) ≡ c → Left pin n xs ≡ find (λ (e : ℕ × PinState). e.0 == n) xs → Left pin n (x ∷ xs) ≡ find (λ (e : ℕ × PinState). e.0 == n) (x ∷ xs)
    go true true d e rest = absurd (other (sym (eqb-true x.0 n e) ∙ eqb-true x.0 pin d))
    go true false d e rest = rw (d, e) rest
    go false true d e rest = rw (d, e) refl
    go false false d e rest = rw (d, e) rest

pub closed_pin_not_left : (pin : ℕ) (xs : List (ℕ × PinState)) → Left pin pin xs ≡ None
closed_pin_not_left pin [] = refl
closed_pin_not_left pin (x ∷ xs) = go (x.0 == pin) refl (closed_pin_not_left pin xs)
  where
    go : (b : Bool) → (x.0 == pin) ≡ b → Left pin pin xs ≡ None → Left pin pin (x ∷ xs) ≡ None
    go true d rest = rw d rest
    go false d rest = rw (d, d) rest

closed_same : (pin n : ℕ) (ps : Pins) → SameImage (pin_at n ps) (pin_at n (without_pin pin ps))
unfolding pin_at without_pin
closed_same pin n ps = go (same_or_not n pin)
  where
    go : (n ≡ pin) ⊎ (n ≢ pin) → SameImage (option_map (λ (e : ℕ × PinState). e.1) (find (λ e. e.0 == n) ps.open_pins)) (option_map (λ (e : ℕ × PinState). e.1) (Left pin n ps.open_pins))
    go (inl e) = rw (e, closed_pin_not_left pin ps.open_pins) (image_same_to_none _)
    go (inr ne) = same_pin_same_image _ _ (ap (option_map (λ (e : ℕ × PinState). e.1)) (other_pin_left_by_closing pin n ps.open_pins ne))

-- ---- one action

KeepsImageOfPin : ℕ → Machine → Machine → Type 0
KeepsImageOfPin pin m n = SameImage (pin_at pin m.pins) (pin_at pin n.pins)

pins_same_after_result : (e : Event) (m : Machine) (r : Result (HeapState × Answer) Refusal) → (after_result e m r).0.pins ≡ m.pins
unfolding after_result
pins_same_after_result e m (Ok r) = refl
pins_same_after_result e m (Err r) = refl

pub pins_same_after_step : (m : Machine) (e : Event) (b : Bool) → (after_step_at b e m).0.pins ≡ m.pins
unfolding after_step_at
pins_same_after_step m e true = refl
pins_same_after_step m e false = pins_same_after_result e m (applied e m.trail.current)

rewound_same : (m : Machine) (n pin : ℕ) (r : Option Refusal) → SameImage (pin_at pin m.pins) (pin_at pin (unless r (after_rewind_by n) m).0.pins)
unfolding unless after_rewind_by
rewound_same m n pin None = rewind_same _ pin m.pins
rewound_same m n pin (Some r) = same_pin_same_image _ _ refl

image_same_after_opening : (m : Machine) (at pin : ℕ) (r : Option Refusal) → SameImage (pin_at pin m.pins) (pin_at pin (unless r (after_open at) m).0.pins)
unfolding unless after_open with_pin pin_at
image_same_after_opening m at pin None = image_same_beside_opened_pin pin m.pins.open_pins _
image_same_after_opening m at pin (Some r) = same_pin_same_image _ _ refl

image_same_after_counting : (m : Machine) (of pin : ℕ) (b : Bool) → SameImage (pin_at pin m.pins) (pin_at pin (counted b of m).pins)
unfolding counted
image_same_after_counting m of pin true = piece_same of pin m.pins
image_same_after_counting m of pin false = same_pin_same_image _ _ refl

image_same_after_piece : (m : Machine) (of time pin : ℕ) (s : Option PinState) → SameImage (pin_at pin m.pins) (pin_at pin (after_piece of time m s).0.pins)
unfolding after_piece
image_same_after_piece m of time pin None = same_pin_same_image _ _ refl
image_same_after_piece m of time pin (Some (Gone place cause)) = same_pin_same_image _ _ refl
image_same_after_piece m of time pin (Some (Kept place image given)) = image_same_after_counting m of pin _

close_same : (m : Machine) (of pin : ℕ) (s : Option PinState) → SameImage (pin_at pin m.pins) (pin_at pin (after_close of m s).0.pins)
unfolding after_close
close_same m of pin None = same_pin_same_image _ _ refl
close_same m of pin (Some s) = closed_same of pin m.pins

acted_same : (m : Machine) (a : Action) (pin : ℕ) → SameImage (pin_at pin m.pins) (pin_at pin (acted m a).0.pins)
unfolding acted
acted_same m (Step e) pin = same_pin_same_image _ _ (ap (pin_at pin) (pins_same_after_step m e (nat_le last_place m.trail.place)))
acted_same m (Rewind n) pin = rewound_same m n pin (rewind_refusal n m.trail)
acted_same m (OpenPin at) pin = image_same_after_opening m (unwrap_or at m.trail.place) pin (open_refusal (unwrap_or at m.trail.place) m.trail m.pins)
acted_same m (NextPiece of time) pin = image_same_after_piece m of time pin (pin_at of m.pins)
acted_same m (ClosePin of) pin = close_same m of pin (pin_at of m.pins)

-- what a pin is after some were lost was kept before
pin_kept_now_was_kept : (f : ℕ → Image → ℕ → PinState) → (s : PinState) (q : ℕ) (j : Image) (h : ℕ) → Some (if_kept f s) ≡ Some (Kept q j h) → (p : ℕ) × (i : Image) × (g : ℕ) × (Some s ≡ Some (Kept p i g))
unfolding if_kept
pin_kept_now_was_kept f (Kept p i g) q j h e = (p, i, g, refl)
pin_kept_now_was_kept f (Gone at cause) q j h e = absurd (clash e)
  where
    clash : Some (Gone at cause) ≡ Some (Kept q j h) → ⊥
    clash e = cc

-- the same pins, some of them lost because an allocation failed
abbrev pin_lost_if_listed : List ℕ → ℕ → ℕ → Image → ℕ → PinState
pin_lost_if_listed pins number place image given = if list_any (λ k. k == number) pins then Gone place Memory else Kept place image given

pin_kept_in_list_before_loss : (pins : List ℕ) (n : ℕ) (xs : List (ℕ × PinState)) (q : ℕ) (j : Image) (h : ℕ)
    → option_map (λ (e : ℕ × PinState). e.1) (find (λ e. e.0 == n) (map {B = ℕ × PinState} (λ e. (e.0, if_kept (pin_lost_if_listed pins e.0) e.1)) xs)) ≡ Some (Kept q j h)
    → (p : ℕ) × (i : Image) × (g : ℕ) × (option_map (λ (e : ℕ × PinState). e.1) (find (λ e. e.0 == n) xs) ≡ Some (Kept p i g))
pin_kept_in_list_before_loss pins n [] q j h e = absurd (clash e)
  where
    clash : None ≡ Some (Kept q j h) → ⊥
    clash e = cc
pin_kept_in_list_before_loss pins n (x ∷ xs) q j h e = go (x.0 == n) (pin_kept_in_list_before_loss pins n xs q j h) e
  where
    go : (b : Bool)
        → (option_map (λ (e : ℕ × PinState). e.1) (find (λ e. e.0 == n) (map {B = ℕ × PinState} (λ e. (e.0, if_kept (pin_lost_if_listed pins e.0) e.1)) xs)) ≡ Some (Kept q j h)
        → (p : ℕ) × (i : Image) × (g : ℕ) × (option_map (λ (e : ℕ × PinState). e.1) (find (λ e. e.0 == n) xs) ≡ Some (Kept p i g)))
        → option_map (λ (e : ℕ × PinState). e.1) (cond b (Some (x.0, if_kept (pin_lost_if_listed pins x.0) x.1)) (find (λ e. e.0 == n) (map {B = ℕ × PinState} (λ e. (e.0, if_kept (pin_lost_if_listed pins e.0) e.1)) xs))) ≡ Some (Kept q j h)
        → (p : ℕ) × (i : Image) × (g : ℕ) × (option_map (λ (e : ℕ × PinState). e.1) (cond b (Some x) (find (λ e. e.0 == n) xs)) ≡ Some (Kept p i g))
    go true rest e = pin_kept_now_was_kept (pin_lost_if_listed pins x.0) x.1 q j h e
    go false rest e = rest e

-- of two changes
image_same_through_two_changes : (a b c : Option PinState) → SameImage a b → SameImage b c → ((q : ℕ) (j : Image) (h : ℕ) → c ≡ Some (Kept q j h) → (p : ℕ) × (i : Image) × (g : ℕ) × (b ≡ Some (Kept p i g))) → SameImage a c
image_same_through_two_changes a b c x y was p q i j g h here there =
    let w = was q j h there in
    let l = x p w.0 i w.1 g w.2 here w.3 in
    let r = y w.0 q w.1 j w.2 h w.3 there in
    (r.0 ∙ l.0, r.1 ∙ l.1)

pin_kept_before_others_lost : (pins : List ℕ) (n : ℕ) (ps : Pins) (q : ℕ) (j : Image) (h : ℕ) → pin_at n (with_lost pins ps) ≡ Some (Kept q j h) → (p : ℕ) × (i : Image) × (g : ℕ) × (pin_at n ps ≡ Some (Kept p i g))
unfolding pin_at with_lost each_kept
pin_kept_before_others_lost pins n ps = pin_kept_in_list_before_loss pins n ps.open_pins

pub keeps_image : (m : Machine) (a : Action × Allocation) (pin : ℕ) → KeepsImage m a pin
unfolding acted_under
keeps_image m (a, Granted) pin = acted_same m a pin
keeps_image m (a, Denied) pin = same_pin_same_image _ _ refl
keeps_image m (a, LosesPins pins) pin = image_same_through_two_changes _ _ _ (acted_same m a pin) (image_same_when_pins_lost pins pin (acted m a).0.pins) (pin_kept_before_others_lost pins pin (acted m a).0.pins)
