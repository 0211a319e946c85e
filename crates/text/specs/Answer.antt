-- What the lexer's answers say of the stream of tokens.
use Rattle.std.specs.Prelude.{◌≡◌, ℕ, ◌+◌, ◌<◌, Bool, true, List, length, Some, None, Ok, Err, Option, Result}
use Rattle.fault.specs.declared.Fault.{Fault}
use Rattle.text.specs.declared.token.Token.{Token}
use Rattle.text.specs.declared.token.Token.TheVariants.{Word, LineName, Number, Mark}
use Rattle.text.specs.declared.token.Found.{Found}
use Rattle.text.specs.Shapes.{is_word, is_name, is_number}
use Rattle.text.specs.Tokens.{Tok, word, name, number, mark, Stream, token, end, fault, tokens}

-- a token without its loan
abbrev pub shape : Token → Tok
shape (Word w) = word w.now
shape (LineName w) = name w.now
shape (Number w) = number w.now
shape (Mark m) = mark m

-- the stream that a token begins, or that a fault is
abbrev pub begun : Result Found Fault → Stream
begun (Ok x) = token (shape x.token) x.place (tokens 0 x.next x.rest.now)
begun (Err f) = fault f

-- the stream that an answer begins, where the text ends at a place
abbrev pub answer : ℕ → Result (Option Found) Fault → Stream
answer n (Ok None) = end n
answer n (Ok (Some x)) = begun (Ok x)
answer n (Err f) = fault f

-- what is left is shorter, and ends where the text did
abbrev pub Ahead : ℕ → List ℕ → Found → Type 0
Ahead at bs x = (x.next + length x.rest.now ≡ at + length bs) × (length x.rest.now < length bs)

abbrev pub GoesOn : ℕ → List ℕ → Result (Option Found) Fault → Type 0
GoesOn at bs (Ok None) = Unit {0}
GoesOn at bs (Ok (Some x)) = Ahead at bs x
GoesOn at bs (Err f) = Unit {0}

-- each token has the bytes of its sort
abbrev pub proper : Tok → Bool
proper (word w) = is_word w
proper (name w) = is_name w
proper (number w) = is_number w
proper (mark m) = true

abbrev pub Proper : Stream → Type 0
Proper (token t p s) = (proper t ≡ true) × Proper s
Proper (end n) = Unit {0}
Proper (fault f) = Unit {0}

-- every token of every text is proper
abbrev pub TokensProper : Type 0
TokensProper = (at : ℕ) (bs : List ℕ) → Proper (tokens 0 at bs)
