-- The classes of bytes.
use Rattle.std.specs.Prelude.{ℕ, Bool, true, false, cond, ◌&&◌, ◌||◌, ◌==◌, nat_le}
use Rattle.text.specs.declared.class.Class.{Class}
use Rattle.text.specs.declared.class.Class.TheVariants.{Blank, Lower, Upper, Digit, Minus, Mark, Other}
use Rattle.text.specs.declared.class.Run.{Run}
use Rattle.text.specs.declared.class.Run.TheVariants.{Tails, Digits, Blanks}

abbrev pub within : ℕ → ℕ → ℕ → Bool
within a z b = nat_le a b && nat_le b z

-- ( ) { } , . : = $ @
abbrev pub mark : ℕ → Bool
mark b = b == 40 || (b == 41 || (b == 123 || (b == 125 || (b == 44 || (b == 46 || (b == 58 || (b == 61 || (b == 36 || b == 64))))))))

unfoldable pub class_of : ℕ → Class
class_of b =
    cond (b == 9 || (b == 10 || (b == 13 || b == 32))) Blank
    (cond (within 97 122 b) Lower
    (cond (b == 95 || within 65 90 b) Upper
    (cond (within 48 57 b) Digit
    (cond (b == 45) Minus
    (cond (mark b) Mark
    Other)))))

abbrev pub blank_class : Class → Bool
blank_class Blank = true
blank_class Lower = false
blank_class Upper = false
blank_class Digit = false
blank_class Minus = false
blank_class Mark = false
blank_class Other = false

abbrev pub lower_class : Class → Bool
lower_class Blank = false
lower_class Lower = true
lower_class Upper = false
lower_class Digit = false
lower_class Minus = false
lower_class Mark = false
lower_class Other = false

abbrev pub upper_class : Class → Bool
upper_class Blank = false
upper_class Lower = false
upper_class Upper = true
upper_class Digit = false
upper_class Minus = false
upper_class Mark = false
upper_class Other = false

abbrev pub digit_class : Class → Bool
digit_class Blank = false
digit_class Lower = false
digit_class Upper = false
digit_class Digit = true
digit_class Minus = false
digit_class Mark = false
digit_class Other = false

abbrev pub blank : ℕ → Bool
blank b = blank_class (class_of b)

abbrev pub lower : ℕ → Bool
lower b = lower_class (class_of b)

abbrev pub upper : ℕ → Bool
upper b = upper_class (class_of b)

abbrev pub digit : ℕ → Bool
digit b = digit_class (class_of b)

-- what a word or a line name goes on with: letters, digits and _
abbrev pub tail : ℕ → Bool
tail b = lower b || (upper b || digit b)

-- what a run consists of
abbrev pub passes : Run → ℕ → Bool
passes Tails = tail
passes Digits = digit
passes Blanks = blank
