-- The table of the names that stood.
use Rattle.std.specs.Prelude.{◌≡◌, ℕ, suc, cond, Option, List, [], ◌∷◌, position as std_position, ◌==◌}
use Rattle.text.specs.declared.packed.Name.{Name}
use Rattle.grammar.specs.declared.stand.Standing.{Standing}
use Rattle.grammar.specs.declared.table.Names.{Names}
use Rattle.grammar.specs.Seen.{Seen, word, number, name, comma, open_paren, close_paren, open_brace, close_brace, equal, at_sign, other}

abbrev pub names_of : Names → List Standing
names_of t = t.rows.items

-- the row of a name, or their number where it did not stand
unfoldable pub position : Name → List Standing → ℕ
position n [] = 0
position n (s ∷ ss) = cond (s.name.packed == n.packed) 0 (suc (position n ss))

-- the row of a name, if it stood
abbrev pub found : Name → List Standing → Option ℕ
found n ss = std_position (λ s. s.name.packed == n.packed) ss

-- the row of a token's name, if it has one that stood
abbrev pub Row : Seen → List Standing → Option ℕ → Type 0
Row (word w) ns r = Unit {0}
Row (number w) ns r = Unit {0}
Row (name n) ns r = r ≡ found n ns
Row comma ns r = Unit {0}
Row open_paren ns r = Unit {0}
Row close_paren ns r = Unit {0}
Row open_brace ns r = Unit {0}
Row close_brace ns r = Unit {0}
Row equal ns r = Unit {0}
Row at_sign ns r = Unit {0}
Row other ns r = Unit {0}
