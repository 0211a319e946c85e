-- The line of places.
use Rattle.std.specs.Prelude.{◌≡◌, ℕ, ◌≤◌, List, [], ◌∷◌, ◌++◌, map, codes, decimal}
use Rattle.std.specs.List.{range_with_len}
use Rattle.order.specs.ShuffledOrder.{shuffled_place}
use Rattle.order.specs.Trying.{listing, most}
use Rattle.bigvosk.specs.declared.line.OrderName.{OrderName}
use Rattle.bigvosk.specs.declared.line.OrderName.TheVariants.{Written, Shuffled}
use Rattle.bigvosk.specs.Windows.{newline}

-- the place of the k-th try among n
abbrev pub place_by : OrderName → ℕ → ℕ → ℕ
place_by Written = λ n k. k
place_by (Shuffled seed) = shuffled_place seed

-- what the order answers among n, for 0 up to n in turn
unfoldable pub places_by : OrderName → ℕ → List ℕ
places_by order n = listing (place_by order) n

-- where the order has places for n, they are the place of each k below n in turn
abbrev pub PlacesOf : OrderName → ℕ → List ℕ → Type 0
PlacesOf order n places = n ≤ most → places ≡ map (place_by order n) (range_with_len 0 n)

-- a space and a decimal number for each
unfoldable pub spaced : List ℕ → List ℕ
spaced [] = []
spaced (n ∷ ns) = codes " " ++ (decimal n ++ spaced ns)

abbrev pub places_line : List ℕ → List ℕ
places_line places = codes "places" ++ (spaced places ++ newline)
