-- What holds after every list of calls.
use Rattle.std.specs.Prelude.{◌≡◌, ℕ, suc, ◌+◌, ◌%◌, ◌<◌, ◌≤◌, Bool, true, cond, List, [], ◌∷◌, ◌++◌, length, ◌==◌}
use Rattle.label.specs.Kind.{Kind}
use Rattle.text.specs.declared.packed.Name.{Name}
use Rattle.grammar.specs.Reading.{hang_events}
use Rattle.plan.specs.Model.{Model, struck}
use Rattle.plan.specs.Sound.{atom_limit, atoms_of, cell_limit, count, free_limit, label_limit}
use Rattle.placing.specs.Counts.{cells_in, label_count, labels_in}
use Rattle.placing.specs.Keeps.{SoundModel}
use Rattle.placing.specs.Laws.{is_open}
use Rattle.grammar.specs.Events.{name_standings}
use Rattle.calls.specs.Calls.{Call, strike, Limits, after, answer, answers, made, next, texts, within}

-- limits of tables in which a plan can be struck
pub record FitLimits (l : Limits) : Type 0 where
  pub root : 0 < l.cells
  pub atoms : l.atoms ≤ atom_limit
  pub cells : l.cells ≤ cell_limit
  pub free : l.free ≤ free_limit
  pub labels : l.labels ≤ label_limit

module _ {L : Type 0} (k : Kind L) where
  -- a name stands just once in a text
  abbrev pub has_once : Name → List ℕ → Bool
  has_once n text = count n.packed (name_standings (hang_events k 0 text)) == 1

  -- in how many texts a name stands just once
  unfoldable pub once_texts : Name → List (List ℕ) → ℕ
  once_texts n [] = 0
  once_texts n (t ∷ ts) = cond (has_once n t) (suc (once_texts n ts)) (once_texts n ts)

  -- how many atoms of a label are written in texts, at any depth
  unfoldable pub written : L → List (List ℕ) → ℕ
  written x [] = 0
  written x (t ∷ ts) = label_count k x (hang_events k 0 t) + written x ts

  -- how many atoms
  unfoldable pub atoms_written : List (List ℕ) → ℕ
  atoms_written [] = 0
  atoms_written (t ∷ ts) = labels_in (hang_events k 0 t) + atoms_written ts

  -- how many cells
  unfoldable pub cells_written : List (List ℕ) → ℕ
  cells_written [] = 0
  cells_written (t ∷ ts) = cells_in (hang_events k 0 t) + cells_written ts

  -- of a plan in its limits, and the texts that were hung since it was struck
  pub record PlanLaws (l : Limits) (m : Model L) (ts : List (List ℕ)) : Type 0 where
    -- the plan is sound, and in its limits
    pub sound : SoundModel k m
    pub fits : within l m ≡ true
    -- a name is open exactly where it stands just once in an odd number of the texts
    pub open_names : (n : Name) → is_open n m.free ≡ (once_texts n ts % 2 == 1)
    -- of each label there are as many atoms as the texts have, at any depth
    pub labels : (x : L) → atoms_of k x m.atoms ≡ written x ts
    -- so too of all atoms, and of cells but for the root
    pub atom_number : length m.atoms ≡ atoms_written ts
    pub cell_number : length m.cells ≡ 1 + cells_written ts

  -- of calls on a struck plan
  pub record AfterLaws (l : Limits) (calls : List Call) : Type 0 where
    pub laws : PlanLaws l (made k l calls) (texts k l calls)
    -- where the list begins with a strike, what the plan was before it makes no difference
    pub anew : (m : Model L) → after k l m (strike ∷ calls) ≡ made k l calls
    -- one call more changes the plan that these make, and is answered by it
    pub plan_more : (c : Call) → made k l (calls ++ (c ∷ [])) ≡ next k l (made k l calls) c
    pub answer_more : (c : Call) → answers k l struck (calls ++ (c ∷ [])) ≡ answers k l struck calls ++ (answer k l (made k l calls) c ∷ [])

  -- in limits that fit
  abbrev pub AfterLaw : Type 0
  AfterLaw = (l : Limits) (calls : List Call) → FitLimits l → AfterLaws l calls
