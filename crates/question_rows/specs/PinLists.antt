-- The text of `pins`.
use Rattle.std.specs.Prelude.{◌≡◌, ℕ, List, ◌++◌, codes, flat_map, length, map}
use Rattle.heap_trail.specs.declared.listing.ListedPin.{ListedPin}
use Rattle.heap_trail.specs.declared.listing.PinStatus.{PinStatus}
use Rattle.heap_trail.specs.declared.listing.PinStatus.TheVariants.{Kept, Lost}
use Rattle.heap_trail.specs.Listings.{listed_pin}
use Rattle.heap_trail.specs.Pins.{Pins}
use Rattle.session_text.specs.Replies.{and_number, cause_text, line}
use Rattle.question_words.specs.Places.{IsTextOrNoMemory}
use Rattle.question_words.specs.Rows.{count_text}

-- a pin's place, and the number of the pieces given or why the pin is lost
unfoldable pub status_words : PinStatus → List ℕ
status_words (Kept place given) = (and_number place ++ codes " held") ++ and_number given
status_words (Lost place cause) = (and_number place ++ codes " lost ") ++ cause_text cause

-- the line of an open pin
unfoldable pub pin_text : ListedPin → List ℕ
pin_text pin = line ((codes "row" ++ and_number pin.number) ++ status_words pin.status)

-- the lines of the open pins, and their number
abbrev pub pins_text : Pins → List ℕ
pins_text p = flat_map pin_text (map listed_pin p.open_pins) ++ count_text (length p.open_pins)

-- the answer of `pins`
abbrev pub IsPinsText : Pins → List ℕ → Type 0
IsPinsText p text = IsTextOrNoMemory (λ text. text ≡ pins_text p) text
