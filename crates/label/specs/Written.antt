-- How a label is written.
use Rattle.std.specs.Prelude.{ℕ, List}
use Rattle.label.specs.declared.form.Form.{Form}
use Rattle.label.specs.declared.spelled.Spelled.{Spelled}

-- the most bytes of a label's token
abbrev pub token_limit : ℕ
token_limit = 11

-- a token's class and its bytes
abbrev pub told : Spelled → Form × List ℕ
told s = (s.form, s.bytes.items)
