-- The limits that a text and a plan share.
use Rattle.std.specs.Prelude.{ℕ}

-- the most ports of an atom
abbrev pub port_limit : ℕ
port_limit = 8

-- the most cells one inside another
abbrev pub depth_limit : ℕ
depth_limit = 16

-- the highest set
abbrev pub set_limit : ℕ
set_limit = 15
