-- The ends of links, by where they lie.
use Rattle.std.specs.Prelude.{◌≡◌, ℕ, ◌⊎◌, Some, None, Option}
use Rattle.std.specs.List.{slice_get}
use Rattle.label.specs.Kind.{Kind}
use Rattle.plan.specs.declared.tables.FreeLink.{FreeLink}
use Rattle.plan.specs.Model.{Model, Node}
use Rattle.placing.specs.Keeps.{SoundModel}
use Rattle.sameness.specs.Renaming.{Stands}

-- a port of an atom, by the atom's row and the port's number; or a free link, by its row
pub data End : Type 0 where
  port : ℕ → ℕ → End
  free : ℕ → End

abbrev pub port_of : {L : Type 0} → ℕ → Option (Node L) → Option ℕ
port_of j None = None
port_of j (Some a) = slice_get a.links j

abbrev pub free_of : Option FreeLink → Option ℕ
free_of None = None
free_of (Some r) = Some r.link

-- the link that an end lies on
abbrev pub link_at : {L : Type 0} → Model L → End → Option ℕ
link_at m (port i j) = port_of j (slice_get m.atoms i)
link_at m (free i) = free_of (slice_get m.free i)

-- a link has two ends and no others
pub record TwoEnds {L : Type 0} (m : Model L) (x : ℕ) : Type 0 where
  pub one : End
  pub other : End
  pub different : one ≡ other → ⊥
  pub one_lies : link_at m one ≡ Some x
  pub other_lies : link_at m other ≡ Some x
  pub no_third : (e : End) → link_at m e ≡ Some x → (e ≡ one) ⊎ (e ≡ other)

-- on a sound plan every link has
abbrev pub LinksPaired : {L : Type 0} → Kind L → Type 0
LinksPaired k = (m : Model _) → SoundModel k m → (x : ℕ) → Stands m x → TwoEnds m x
