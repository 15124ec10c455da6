-- The words of a recording, one by one.
--
-- kind w         the kind of a word, its bits 31 and 30: 0 quiet, 1 pulse, 2 end
-- amount w       its bits 29 to 0: the ticks of a quiet, the count of an end
-- side w         its bit 29: the polarity of a pulse
-- spare w        its bits 28 to 13: to be zero in a pulse
-- level w        its bits 12 to 0: the height of a pulse
-- sign p         the number of a polarity, which stands in bit 29
-- word_of e      the word of an event
-- cause_of f     the number of a flaw
-- fault f n      the flaw as a line's fault at the word of number n
-- Spoils f n w   w has the flaw f as the word of number n; the want of an end is a flaw of the whole, never of a word
-- Word           what a word may say: an event, that the line ends here, or a flaw
-- Says n w x     w says x as the word of number n
use Rattle.std.specs.Prelude.{◌≡◌, ℕ, ◌+◌, ◌*◌, ◌/◌, ◌%◌, ◌^◌, ◌<◌, ◌≤◌, ◌≢◌, Some, None, Ok, Err, Option, Result}
use Rattle.line.specs.declared.ending.LineFault.{LineFault}
use Rattle.line.specs.declared.event.Event.{Event}
use Rattle.line.specs.declared.event.Event.TheVariants.{Pulse, Quiet}
use Rattle.line.specs.declared.event.Polarity.{Polarity}
use Rattle.line.specs.declared.event.Polarity.TheVariants.{Negative, Positive}
use Rattle.line.specs.declared.recording.Flaw.{Flaw}
use Rattle.line.specs.declared.recording.Flaw.TheVariants.{UnknownKind, EmptyQuiet, UsedSpareBits, NoEnd, WrongCount}

abbrev pub kind : ℕ → ℕ
kind w = w / 2 ^ 30

abbrev pub amount : ℕ → ℕ
amount w = w % 2 ^ 30

abbrev pub side : ℕ → ℕ
side w = w / 2 ^ 29 % 2

abbrev pub spare : ℕ → ℕ
spare w = w / 2 ^ 13 % 2 ^ 16

abbrev pub level : ℕ → ℕ
level w = w % 2 ^ 13

abbrev pub sign : Polarity → ℕ
sign Negative = 0
sign Positive = 1

abbrev pub word_of : Event → ℕ
word_of (Quiet t) = t.count
word_of (Pulse p h) = 2 ^ 30 + 2 ^ 29 * sign p + h.mv

abbrev pub cause_of : Flaw → ℕ
cause_of UnknownKind = 4
cause_of EmptyQuiet = 5
cause_of UsedSpareBits = 6
cause_of NoEnd = 7
cause_of WrongCount = 8

abbrev pub fault : Flaw → ℕ → LineFault
fault f n = record { cause = cause_of f; place = n }

abbrev pub Spoils : Flaw → ℕ → ℕ → Type 0
Spoils UnknownKind n w = 3 ≤ kind w
Spoils EmptyQuiet n w = (kind w ≡ 0) × (amount w ≡ 0)
Spoils UsedSpareBits n w = (kind w ≡ 1) × (0 < spare w)
Spoils NoEnd n w = ⊥
Spoils WrongCount n w = (kind w ≡ 2) × (amount w ≢ n)

abbrev pub Word : Type 0
Word = Result (Option Event) Flaw

abbrev pub Says : ℕ → ℕ → Word → Type 0
Says n w (Ok (Some e)) = w ≡ word_of e
Says n w (Ok None) = (kind w ≡ 2) × (amount w ≡ n)
Says n w (Err f) = Spoils f n w
