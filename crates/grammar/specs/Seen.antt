-- Tokens, as far as the grammar of hangs tells them apart.
use Rattle.std.specs.Prelude.{ℕ, List}
use Rattle.text.specs.declared.token.Mark.{Mark}
use Rattle.text.specs.declared.token.Mark.TheVariants as marks
use Rattle.text.specs.declared.packed.Name.{Name}
use Rattle.text.specs.Packed.{pack}
use Rattle.text.specs.Tokens as tokens
use Rattle.grammar.specs.declared.sign.Sign.{Sign}
use Rattle.grammar.specs.declared.sign.Sign.TheVariants as signs

pub data Seen : Type 0 where
  word : List ℕ → Seen
  number : List ℕ → Seen
  name : Name → Seen
  comma : Seen
  open_paren : Seen
  close_paren : Seen
  open_brace : Seen
  close_brace : Seen
  equal : Seen
  at_sign : Seen
  other : Seen

abbrev pub mark_seen : Mark → Seen
mark_seen marks.Open = open_paren
mark_seen marks.Close = close_paren
mark_seen marks.OpenBrace = open_brace
mark_seen marks.CloseBrace = close_brace
mark_seen marks.Comma = comma
mark_seen marks.Stop = other
mark_seen marks.Colon = other
mark_seen marks.Equal = equal
mark_seen marks.Dollar = other
mark_seen marks.At = at_sign
mark_seen marks.Turn = other

abbrev pub sees : tokens.Tok → Seen
sees (tokens.word w) = word w
sees (tokens.name w) = name (record { packed = pack w })
sees (tokens.number w) = number w
sees (tokens.mark m) = mark_seen m

-- a code's sign without its loan
abbrev pub seen : Sign → Seen
seen (signs.Word w) = word w.now
seen (signs.Number w) = number w.now
seen (signs.Name n) = name n
seen signs.Comma = comma
seen signs.Open = open_paren
seen signs.Close = close_paren
seen signs.OpenBrace = open_brace
seen signs.CloseBrace = close_brace
seen signs.Equal = equal
seen signs.At = at_sign
seen signs.Other = other
