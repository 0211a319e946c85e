-- The register with one atom more of a label, and with one less.
use Rattle.std.specs.Prelude.{ℕ, ◌+◌, ◌-◌, cond, List, [], ◌∷◌, Ok, Err, Result, nat_le}
use Rattle.std.specs.List.{prefix_len}
use Rattle.label.specs.Kind.{Kind}
use Rattle.plan.specs.declared.tables.Census.{Census}
use Rattle.plan.specs.Sound.{registered}

-- one atom more: its label's row counts it, or a new row goes before the first higher label
unfoldable pub added : {L : Type 0} → Kind L → L → List (Census L) → List (Census L)
added k l [] = record { label = l; atoms = 1 } ∷ []
added k l (c ∷ cs) =
    cond (k.lower l c.label) (record { label = l; atoms = 1 } ∷ (c ∷ cs))
    (cond (k.lower c.label l) (c ∷ added k l cs)
    (record { label = c.label; atoms = c.atoms + 1 } ∷ cs))

-- one atom less: its label's row counts it no more, and goes with the last
unfoldable pub taken : {L : Type 0} → Kind L → L → List (Census L) → List (Census L)
taken k l [] = []
taken k l (c ∷ cs) =
    cond (k.lower l c.label) (c ∷ cs)
    (cond (k.lower c.label l) (c ∷ taken k l cs)
    (cond (nat_le c.atoms 1) cs (record { label = c.label; atoms = c.atoms - 1 } ∷ cs)))

-- how many rows at the front have a lower label
abbrev pub below : {L : Type 0} → Kind L → L → List (Census L) → ℕ
below k l rows = prefix_len (λ c. k.lower c.label l) rows

-- the row of a label, or else the place at which a row of it would go
abbrev pub sought : {L : Type 0} → Kind L → L → List (Census L) → Result ℕ ℕ
sought k l rows = cond (registered k l rows) (Ok (below k l rows)) (Err (below k l rows))
