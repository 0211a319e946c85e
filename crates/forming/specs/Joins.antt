-- Which ends lie on one link after a text.
use Rattle.std.specs.Prelude.{◌≡◌, ℕ, ◌≤◌, true, cond, ◌⊎◌, List, [], ◌∷◌, ◌++◌, map, length, is_some, Some, None, Option}
use Rattle.std.specs.Option.{option_map}
use Rattle.std.specs.List.{slice_get}
use Rattle.label.specs.Kind.{Kind}
use Rattle.text.specs.declared.packed.Name.{Name}
use Rattle.grammar.specs.Reading.{hang_events}
use Rattle.grammar.specs.Laws.{fault_of, text_tokens}
use Rattle.grammar.specs.Form.{Items, item_tokens}
use Rattle.plan.specs.Model.{Model}
use Rattle.plan.specs.Sound.{atom_limit, free_limit}
use Rattle.placing.specs.Answer.{hung_text}
use Rattle.placing.specs.Keeps.{SoundModel}
use Rattle.placing.specs.Links.{open_link}
use Rattle.forming.specs.Places.{connectors, once, written_atoms}

-- what ends hang together by: a link that the plan had, or a name of the text
pub data Point : Type 0 where
  old : ℕ → Point
  named : Name → Point

-- a list has something
abbrev pub Among : {A : Type 0} → A → List A → Type 0
Among x [] = ⊥
Among x (y ∷ ys) = (x ≡ y) ⊎ Among x ys

-- the smallest equivalence in which a connector joins its two names, and a name that stands once joins the free link of that name
pub data Joined {L : Type 0} (m : Model L) (h : Items) : Point → Point → Type 0 where
  by_connector : (a b : Name) → Among (a, b) (connectors h) → Joined m h (named a) (named b)
  by_name : (n : Name) (x : ℕ) → once h n ≡ true → open_link n m.free ≡ Some x → Joined m h (named n) (old x)
  same : (p : Point) → Joined m h p p
  back : (p q : Point) → Joined m h p q → Joined m h q p
  through : (p q r : Point) → Joined m h p q → Joined m h q r → Joined m h p r

-- an end of a link: a port, by its atom's row and its number there; or a free link, by its name
pub data End : Type 0 where
  port : ℕ → ℕ → End
  open_at : Name → End

abbrev pub at_row : {A : Type 0} → ℕ → Option (List A) → Option A
at_row j None = None
at_row j (Some xs) = slice_get xs j

-- the link of an end, if the plan has the end
abbrev pub end_link : {L : Type 0} → Model L → End → Option ℕ
end_link p (port i j) = at_row j (slice_get (map (λ a. a.links) p.atoms) i)
end_link p (open_at n) = open_link n p.free

-- the points of the ports: at the plan's atoms their old links, at the written atoms their names
abbrev pub port_points : {L : Type 0} → Kind L → Model L → Items → List (List Point)
port_points k m h = map (λ a. map old a.links) m.atoms ++ map (λ a. map named a.names) (written_atoms k 0 (length m.cells) h)

-- the point of a free link: a name that stands just once opens if it is not open, and closes if it is; any other stays open if it is
abbrev pub free_point : {L : Type 0} → Model L → Items → Name → Option Point
free_point m h n = cond (once h n) (cond (is_some (open_link n m.free)) None (Some (named n))) (option_map old (open_link n m.free))

-- the point of an end, if the plan after the text has the end
abbrev pub end_point : {L : Type 0} → Kind L → Model L → Items → End → Option Point
end_point k m h (port i j) = at_row j (slice_get (port_points k m h) i)
end_point k m h (open_at n) = free_point m h n

pub record LinksJoined {L : Type 0} (k : Kind L) (m : Model L) (bs : List ℕ) (h : Items) : Type 0 where
  -- the plan after the text has just the ends that have a point
  pub ends : (e : End) → is_some (end_link (hung_text k m bs) e) ≡ is_some (end_point k m h e)
  -- two ends lie on one link exactly where their points are joined
  pub joined : (e d : End) (p q : Point) → end_point k m h e ≡ Some p → end_point k m h d ≡ Some q → end_link (hung_text k m bs) e ≡ end_link (hung_text k m bs) d → Joined m h p q
  pub joins : (e d : End) (p q : Point) → end_point k m h e ≡ Some p → end_point k m h d ≡ Some q → Joined m h p q → end_link (hung_text k m bs) e ≡ end_link (hung_text k m bs) d

-- of a sound plan and every text without fault, where its atoms and free links are not too many
abbrev pub JoinLaw : {L : Type 0} → Kind L → Type 0
JoinLaw {L} k =
    (m : Model L) (bs : List ℕ) (h : Items) → SoundModel k m → fault_of (hang_events k 0 bs) ≡ None → item_tokens h ≡ text_tokens k bs
    → length (hung_text k m bs).atoms ≤ atom_limit → length (hung_text k m bs).free ≤ free_limit → LinksJoined k m bs h
