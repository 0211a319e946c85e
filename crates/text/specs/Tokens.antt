-- The tokens of a text, one after another.
use Rattle.std.specs.Prelude.{ℕ, zero, suc, cond, List, [], ◌∷◌, take, Ok, Err, Result, ◌==◌, nat_lt}
use Rattle.std.specs.List.{prefix_len}
use Rattle.fault.specs.declared.Refusal.{Refusal}
use Rattle.fault.specs.declared.Refusal.TheVariants.{NoToken, LongName}
use Rattle.fault.specs.declared.Fault.{Fault}
use Rattle.text.specs.declared.class.Class.{Class}
use Rattle.text.specs.declared.class.Class.TheVariants as classes
use Rattle.text.specs.declared.token.Mark.{Mark}
use Rattle.text.specs.declared.token.Mark.TheVariants.{Open, Close, OpenBrace, CloseBrace, Comma, Stop, Colon, Equal, Dollar, At, Turn}
use Rattle.text.specs.declared.token.Sort.{Sort}
use Rattle.text.specs.declared.token.Sort.TheVariants.{Word, LineName, Number}
use Rattle.text.specs.declared.token.Sort.TheVariants as sorts
use Rattle.text.specs.Classes.{class_of, blank, digit, tail}
use Rattle.text.specs.Shapes.{name_limit}

pub data Tok : Type 0 where
  word : List ℕ → Tok
  name : List ℕ → Tok
  number : List ℕ → Tok
  mark : Mark → Tok

-- what stands at the front of a text: a token with so many bytes after its first, or a refusal
abbrev pub Front : Type 0
Front = Result (Sort × ℕ) Refusal

-- a word or a line name with so many bytes after its first
abbrev pub measured : Sort → ℕ → Front
measured s n = cond (nat_lt n name_limit) (Ok (s, n)) (Err LongName)

-- a number with so many digits after its minus sign
abbrev pub negative : ℕ → Front
negative n = cond (n == 0) (Err NoToken) (Ok (Number, n))

-- a refusal at its place
abbrev pub placed : ℕ → Front → Result (Sort × ℕ) Fault
placed at (Ok f) = Ok f
placed at (Err r) = Err (record { refusal = r; place = at })

abbrev pub colon : List ℕ → Front
colon [] = Ok (sorts.Mark Colon, 0)
colon (b ∷ bs) = cond (b == 45) (Ok (sorts.Mark Turn, 1)) (Ok (sorts.Mark Colon, 0))

-- the mark of one byte, other than the colon
abbrev pub single : ℕ → Mark
single b =
    cond (b == 40) Open
    (cond (b == 41) Close
    (cond (b == 123) OpenBrace
    (cond (b == 125) CloseBrace
    (cond (b == 44) Comma
    (cond (b == 46) Stop
    (cond (b == 61) Equal
    (cond (b == 36) Dollar
    At)))))))

abbrev pub by_class : Class → ℕ → List ℕ → Front
by_class classes.Blank b bs = Err NoToken
by_class classes.Lower b bs = measured Word (prefix_len tail bs)
by_class classes.Upper b bs = measured LineName (prefix_len tail bs)
by_class classes.Digit b bs = Ok (Number, prefix_len digit bs)
by_class classes.Minus b bs = negative (prefix_len digit bs)
by_class classes.Mark b bs = cond (b == 58) (colon bs) (Ok (sorts.Mark (single b), 0))
by_class classes.Other b bs = Err NoToken

abbrev pub front : ℕ → List ℕ → Front
front b bs = by_class (class_of b) b bs

abbrev pub tok : Sort → List ℕ → Tok
tok Word w = word w
tok LineName w = name w
tok Number w = number w
tok (sorts.Mark m) w = mark m

-- tokens with their places, ended by the text's end or by one fault
pub data Stream : Type 0 where
  token : Tok → ℕ → Stream → Stream
  end : ℕ → Stream
  fault : Fault → Stream

-- the stream that a front begins; `rest` is what stands past so many bytes more
abbrev pub first : (ℕ → Stream) → ℕ → ℕ → List ℕ → Front → Stream
first rest at b bs (Ok f) = token (tok f.0 (b ∷ take f.1 bs)) at (rest f.1)
first rest at b bs (Err r) = fault (record { refusal = r; place = at })

-- the tokens of a text whose first byte is at a place, past the first `skip` bytes
unfoldable pub tokens : ℕ → ℕ → List ℕ → Stream
tokens skip at [] = end at
tokens (suc k) at (b ∷ bs) = tokens k (suc at) bs
tokens zero at (b ∷ bs) = cond (blank b) (tokens zero (suc at) bs) (first (λ n. tokens n (suc at) bs) at b bs (front b bs))
