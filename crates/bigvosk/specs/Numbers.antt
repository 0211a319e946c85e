-- Numbers in a command.
use Rattle.std.specs.Prelude.{ℕ, cond, ◌&&◌, List, Some, None, Option, nat_le}
use Rattle.text.specs.Classes.{digit}
use Rattle.text.specs.Numbers.{digits_value}
use Rattle.text.specs.Shapes.{begins}

-- the number that bytes write, if they are one digit or more and it is not above the most
unfoldable pub number_up_to : ℕ → List ℕ → Option ℕ
number_up_to most bytes = cond (begins digit digit bytes && nat_le (digits_value 0 bytes) most) (Some (digits_value 0 bytes)) None
