-- The value of digits, as far as a cap.
use Rattle.std.proofs.Common.{◌≡◌, ℕ, ◌+◌, ◌-◌, ◌*◌, ◌≤◌, min, List, [], ◌∷◌, fold, ◌∙◌, refl, ⊎_elim, arith}
use Rattle.std.proofs.lemmas.Bool.{cases_lt}
use Rattle.text.specs.Numbers.{digits_value}

pub value_ge : (n : ℕ) (cs : List ℕ) → n ≤ digits_value n cs
unfolding digits_value
value_ge n [] = omega arith
value_ge n (c ∷ cs) = let ih = value_ge (n * 10 + (c - 48)) cs in omega arith

-- from a number at or past the cap, the value stays so
pub value_capped : (cap n m : ℕ) (cs : List ℕ) → cap ≤ n → cap ≤ m → min (digits_value n cs) cap ≡ min (digits_value m cs) cap
value_capped cap n m cs h k = let a = value_ge n cs in let b = value_ge m cs in omega arith

-- one digit more, as far as the cap
value_step : (cap x : ℕ) (cs : List ℕ) → cap ≤ 4294967295 → min (digits_value (min (min x 4294967295) cap) cs) cap ≡ min (digits_value x cs) cap
value_step cap x cs w =
    ⊎_elim
    (λ h. let e : min (min x 4294967295) cap ≡ x = omega arith in rw e refl)
    (λ h. value_capped cap (min (min x 4294967295) cap) x cs (omega arith) h)
    (cases_lt x cap)

-- digits one after another, each time as far as the cap
pub value_fold : (cap n : ℕ) (cs : List ℕ) → cap ≤ 4294967295 → n ≤ cap → fold (λ m c. min (min (m * 10 + (c - 48)) 4294967295) cap) n cs ≡ min (digits_value n cs) cap
unfolding digits_value
value_fold cap n [] w h = omega arith
value_fold cap n (c ∷ cs) w h =
    let next = min (min (n * 10 + (c - 48)) 4294967295) cap in
    let ih : fold (λ m c. min (min (m * 10 + (c - 48)) 4294967295) cap) next cs ≡ min (digits_value next cs) cap = value_fold cap next cs w (omega arith) in
    ih ∙ value_step cap (n * 10 + (c - 48)) cs w
