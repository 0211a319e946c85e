-- Plans that are the same but for the numbers of their links.
use Rattle.std.specs.Prelude.{◌≡◌, ℕ, ◌<◌, map}
use Rattle.plan.specs.declared.tables.FreeLink.{FreeLink}
use Rattle.plan.specs.Model.{Model, Node}
use Rattle.plan.specs.Sound.{count, ends}

-- an atom, a free link, a plan with each link renamed
abbrev pub node_by : {L : Type 0} → (ℕ → ℕ) → Node L → Node L
node_by f a = record { label = a.label; cell = a.cell; links = map f a.links }

abbrev pub free_by : (ℕ → ℕ) → FreeLink → FreeLink
free_by f x = record { name = x.name; link = f x.link }

abbrev pub renamed_by : {L : Type 0} → (ℕ → ℕ) → Model L → Model L
renamed_by f m = record { atoms = map (node_by f) m.atoms; cells = m.cells; free = map (free_by f) m.free; register = m.register }

-- a link stands on the plan
abbrev pub Stands : {L : Type 0} → Model L → ℕ → Type 0
Stands m x = 0 < count x (ends m)

-- different links that stand get different numbers
abbrev pub OneToOne : {L : Type 0} → (ℕ → ℕ) → Model L → Type 0
OneToOne f m = (x y : ℕ) → Stands m x → Stands m y → f x ≡ f y → x ≡ y

-- the second plan is the first with its links renamed one to one
pub record Renamed {L : Type 0} (m m' : Model L) : Type 0 where
  pub to : ℕ → ℕ
  pub one_to_one : OneToOne to m
  pub same : m' ≡ renamed_by to m

pub record RenamedEquivalence (L : Type 0) : Type 0 where
  pub reflexive : (m : Model L) → Renamed m m
  pub symmetric : (m n : Model L) → Renamed m n → Renamed n m
  pub transitive : (m n o : Model L) → Renamed m n → Renamed n o → Renamed m o
