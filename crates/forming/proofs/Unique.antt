-- A text has at most one form.
use Rattle.std.proofs.Common.{◌≡◌, ℕ, Bool, true, false, cond, List, [], ◌∷◌, ◌++◌, sym, refl, ap, ◌∙◌, subst, ap₂, append_assoc, append-nil, arith}
use Rattle.text.specs.declared.packed.Name.{Name}
use Rattle.grammar.specs.Seen.{Seen, word, number, name, comma, open_paren, close_paren, open_brace, close_brace, equal, at_sign, other}
use Rattle.grammar.specs.Form.{Written, by_word, by_number, Items, none, atom, cell, connector, set, more_ports, port_tokens, joined, item_tokens}

-- where a list of items ends, the text ends or a brace closes
abbrev Ending : List Seen → Type 0
Ending [] = Unit {0}
Ending (word w ∷ ts) = ⊥
Ending (number w ∷ ts) = ⊥
Ending (name n ∷ ts) = ⊥
Ending (comma ∷ ts) = ⊥
Ending (open_paren ∷ ts) = ⊥
Ending (close_paren ∷ ts) = ⊥
Ending (open_brace ∷ ts) = ⊥
Ending (close_brace ∷ ts) = Unit {0}
Ending (equal ∷ ts) = ⊥
Ending (at_sign ∷ ts) = ⊥
Ending (other ∷ ts) = ⊥

-- where an item ends, so does its list or a comma stands
abbrev Going : List Seen → Type 0
Going [] = Unit {0}
Going (word w ∷ ts) = ⊥
Going (number w ∷ ts) = ⊥
Going (name n ∷ ts) = ⊥
Going (comma ∷ ts) = Unit {0}
Going (open_paren ∷ ts) = ⊥
Going (close_paren ∷ ts) = ⊥
Going (open_brace ∷ ts) = ⊥
Going (close_brace ∷ ts) = Unit {0}
Going (equal ∷ ts) = ⊥
Going (at_sign ∷ ts) = ⊥
Going (other ∷ ts) = ⊥

going : (ts : List Seen) → Ending ts → Going ts
going [] e = tt
going (word w ∷ ts) e = absurd e
going (number w ∷ ts) e = absurd e
going (name n ∷ ts) e = absurd e
going (comma ∷ ts) e = absurd e
going (open_paren ∷ ts) e = absurd e
going (close_paren ∷ ts) e = absurd e
going (open_brace ∷ ts) e = absurd e
going (close_brace ∷ ts) e = tt
going (equal ∷ ts) e = absurd e
going (at_sign ∷ ts) e = absurd e
going (other ∷ ts) e = absurd e

going_on : (h : Items) (s : List Seen) → Ending s → Going (joined h (item_tokens h) ++ s)
going_on none s e = going s e
going_on (atom w ns h) s e = tt
going_on (cell i h) s e = tt
going_on (connector a b h) s e = tt
going_on (set w h) s e = tt

-- ** ports

more_unique : (ns ms : List Name) (u v : List Seen) → more_ports ns ++ u ≡ more_ports ms ++ v → (ns ≡ ms) × (u ≡ v)
more_unique [] [] u v e = (refl, cc)
more_unique [] (m ∷ ms) u v e = absurd (let z : ◌≡◌ {A = ℕ} 0 1 = cc in omega arith)
more_unique (n ∷ ns) [] u v e = absurd (let z : ◌≡◌ {A = ℕ} 0 1 = cc in omega arith)
more_unique (n ∷ ns) (m ∷ ms) u v e =
    let same : n ≡ m = cc in
    let rest : more_ports ns ++ u ≡ more_ports ms ++ v = cc in
    let x = more_unique ns ms u v rest in
    (ap₂ (λ a b. a ∷ b) same x.0, x.1)

port_unique : (ns ms : List Name) (u v : List Seen) → Going u → Going v → port_tokens ns ++ u ≡ port_tokens ms ++ v → (ns ≡ ms) × (u ≡ v)
port_unique [] [] u v a b e = (refl, e)
port_unique [] (m ∷ ms) u v a b e = absurd (subst Going e a)
port_unique (n ∷ ns) [] u v a b e = absurd (subst Going (sym e) b)
port_unique (n ∷ ns) (m ∷ ms) u v a b e =
    let same : n ≡ m = cc in
    let rest : more_ports ns ++ u ≡ more_ports ms ++ v = cc in
    let x = more_unique ns ms u v rest in
    (ap₂ (λ a b. a ∷ b) same x.0, x.1)

-- ** items

abbrev One : Items → Items → Type 0
One h g = (s t : List Seen) → Ending s → Ending t → item_tokens h ++ s ≡ item_tokens g ++ t → (h ≡ g) × (s ≡ t)

abbrev empty : Items → Bool
empty none = true
empty (atom w ns h) = false
empty (cell i h) = false
empty (connector a b h) = false
empty (set w h) = false

joined_is : (h : Items) (ts : List Seen) → joined h ts ≡ cond (empty h) ts (comma ∷ ts)
joined_is none ts = refl
joined_is (atom w ns h) ts = refl
joined_is (cell i h) ts = refl
joined_is (connector a b h) ts = refl
joined_is (set w h) ts = refl

empty_tokens : (h : Items) → empty h ≡ true → item_tokens h ≡ []
empty_tokens none e = refl
empty_tokens (atom w ns h) e = absurd (let z : ◌≡◌ {A = ℕ} 0 1 = cc in omega arith)
empty_tokens (cell i h) e = absurd (let z : ◌≡◌ {A = ℕ} 0 1 = cc in omega arith)
empty_tokens (connector a b h) e = absurd (let z : ◌≡◌ {A = ℕ} 0 1 = cc in omega arith)
empty_tokens (set w h) e = absurd (let z : ◌≡◌ {A = ℕ} 0 1 = cc in omega arith)

joined_cases : (h g : Items) → One h g → (a b : Bool) → empty h ≡ a → empty g ≡ b → (s t : List Seen) → Ending s → Ending t → cond a (item_tokens h) (comma ∷ item_tokens h) ++ s ≡ cond b (item_tokens g) (comma ∷ item_tokens g) ++ t → (h ≡ g) × (s ≡ t)
joined_cases h g one true true x y s t es et e = one s t es et e
joined_cases h g one true false x y s t es et e = absurd (subst Ending (ap (λ ts. ts ++ s) (sym (empty_tokens h x)) ∙ e) es)
joined_cases h g one false true x y s t es et e = absurd (subst Ending (ap (λ ts. ts ++ t) (sym (empty_tokens g y)) ∙ sym e) et)
joined_cases h g one false false x y s t es et e = let i : item_tokens h ++ s ≡ item_tokens g ++ t = cc in one s t es et i

joined_one : (h g : Items) → One h g → (s t : List Seen) → Ending s → Ending t → joined h (item_tokens h) ++ s ≡ joined g (item_tokens g) ++ t → (h ≡ g) × (s ≡ t)
joined_one h g one s t es et e =
    joined_cases h g one (empty h) (empty g) refl refl s t es et (ap (λ ts. ts ++ s) (sym (joined_is h (item_tokens h))) ∙ e ∙ ap (λ ts. ts ++ t) (joined_is g (item_tokens g)))

atom_one : (w : Written) (ns ms : List Name) (h g : Items) → One h g → (s t : List Seen) → Ending s → Ending t → (port_tokens ns ++ joined h (item_tokens h)) ++ s ≡ (port_tokens ms ++ joined g (item_tokens g)) ++ t → (atom w ns h ≡ atom w ms g) × (s ≡ t)
atom_one w ns ms h g one s t es et e =
    let i = sym (append_assoc (port_tokens ns) (joined h (item_tokens h)) s) ∙ e ∙ append_assoc (port_tokens ms) (joined g (item_tokens g)) t in
    let x = port_unique ns ms (joined h (item_tokens h) ++ s) (joined g (item_tokens g) ++ t) (going_on h s es) (going_on g t et) i in
    let y = joined_one h g one s t es et x.1 in
    (ap₂ (atom w) x.0 y.0, y.1)

one : (h g : Items) → One h g
one none none s t es et e = (refl, e)
one none (atom (by_word w₂) ns₂ g) s t es et e = absurd (subst Ending e es)
one none (atom (by_number w₂) ns₂ g) s t es et e = absurd (subst Ending e es)
one none (cell i₂ g) s t es et e = absurd (subst Ending e es)
one none (connector a₂ b₂ g) s t es et e = absurd (subst Ending e es)
one none (set w₂ g) s t es et e = absurd (subst Ending e es)
one (atom (by_word w₁) ns₁ h) none s t es et e = absurd (subst Ending (sym e) et)
one (atom (by_word w₁) ns₁ h) (atom (by_word w₂) ns₂ g) s t es et e =
    let same : w₁ ≡ w₂ = cc in
    let rest : (port_tokens ns₁ ++ joined h (item_tokens h)) ++ s ≡ (port_tokens ns₂ ++ joined g (item_tokens g)) ++ t = cc in
    let x = atom_one (by_word w₁) ns₁ ns₂ h g (one h g) s t es et rest in
    (x.0 ∙ ap (λ w. atom (by_word w) ns₂ g) same, x.1)
one (atom (by_word w₁) ns₁ h) (atom (by_number w₂) ns₂ g) s t es et e = absurd (let z : ◌≡◌ {A = ℕ} 0 1 = cc in omega arith)
one (atom (by_word w₁) ns₁ h) (cell i₂ g) s t es et e = absurd (let z : ◌≡◌ {A = ℕ} 0 1 = cc in omega arith)
one (atom (by_word w₁) ns₁ h) (connector a₂ b₂ g) s t es et e = absurd (let z : ◌≡◌ {A = ℕ} 0 1 = cc in omega arith)
one (atom (by_word w₁) ns₁ h) (set w₂ g) s t es et e = absurd (let z : ◌≡◌ {A = ℕ} 0 1 = cc in omega arith)
one (atom (by_number w₁) ns₁ h) none s t es et e = absurd (subst Ending (sym e) et)
one (atom (by_number w₁) ns₁ h) (atom (by_word w₂) ns₂ g) s t es et e = absurd (let z : ◌≡◌ {A = ℕ} 0 1 = cc in omega arith)
one (atom (by_number w₁) ns₁ h) (atom (by_number w₂) ns₂ g) s t es et e =
    let same : w₁ ≡ w₂ = cc in
    let rest : (port_tokens ns₁ ++ joined h (item_tokens h)) ++ s ≡ (port_tokens ns₂ ++ joined g (item_tokens g)) ++ t = cc in
    let x = atom_one (by_number w₁) ns₁ ns₂ h g (one h g) s t es et rest in
    (x.0 ∙ ap (λ w. atom (by_number w) ns₂ g) same, x.1)
one (atom (by_number w₁) ns₁ h) (cell i₂ g) s t es et e = absurd (let z : ◌≡◌ {A = ℕ} 0 1 = cc in omega arith)
one (atom (by_number w₁) ns₁ h) (connector a₂ b₂ g) s t es et e = absurd (let z : ◌≡◌ {A = ℕ} 0 1 = cc in omega arith)
one (atom (by_number w₁) ns₁ h) (set w₂ g) s t es et e = absurd (let z : ◌≡◌ {A = ℕ} 0 1 = cc in omega arith)
one (cell i₁ h) none s t es et e = absurd (subst Ending (sym e) et)
one (cell i₁ h) (atom (by_word w₂) ns₂ g) s t es et e = absurd (let z : ◌≡◌ {A = ℕ} 0 1 = cc in omega arith)
one (cell i₁ h) (atom (by_number w₂) ns₂ g) s t es et e = absurd (let z : ◌≡◌ {A = ℕ} 0 1 = cc in omega arith)
one (cell i₁ h) (cell i₂ g) s t es et e =
    let u = joined h (item_tokens h) in
    let v = joined g (item_tokens g) in
    let rest : (item_tokens i₁ ++ (close_brace ∷ u)) ++ s ≡ (item_tokens i₂ ++ (close_brace ∷ v)) ++ t = cc in
    let x = one i₁ i₂ (close_brace ∷ (u ++ s)) (close_brace ∷ (v ++ t)) tt tt (sym (append_assoc (item_tokens i₁) (close_brace ∷ u) s) ∙ rest ∙ append_assoc (item_tokens i₂) (close_brace ∷ v) t) in
    let after = x.1 in
    let left : u ++ s ≡ v ++ t = cc in
    let y = joined_one h g (one h g) s t es et left in
    (ap₂ cell x.0 y.0, y.1)
one (cell i₁ h) (connector a₂ b₂ g) s t es et e = absurd (let z : ◌≡◌ {A = ℕ} 0 1 = cc in omega arith)
one (cell i₁ h) (set w₂ g) s t es et e = absurd (let z : ◌≡◌ {A = ℕ} 0 1 = cc in omega arith)
one (connector a₁ b₁ h) none s t es et e = absurd (subst Ending (sym e) et)
one (connector a₁ b₁ h) (atom (by_word w₂) ns₂ g) s t es et e = absurd (let z : ◌≡◌ {A = ℕ} 0 1 = cc in omega arith)
one (connector a₁ b₁ h) (atom (by_number w₂) ns₂ g) s t es et e = absurd (let z : ◌≡◌ {A = ℕ} 0 1 = cc in omega arith)
one (connector a₁ b₁ h) (cell i₂ g) s t es et e = absurd (let z : ◌≡◌ {A = ℕ} 0 1 = cc in omega arith)
one (connector a₁ b₁ h) (connector a₂ b₂ g) s t es et e =
    let first : a₁ ≡ a₂ = cc in
    let second : b₁ ≡ b₂ = cc in
    let rest : joined h (item_tokens h) ++ s ≡ joined g (item_tokens g) ++ t = cc in
    let x = joined_one h g (one h g) s t es et rest in
    (ap₂ (λ a b. connector a b h) first second ∙ ap (connector a₂ b₂) x.0, x.1)
one (connector a₁ b₁ h) (set w₂ g) s t es et e = absurd (let z : ◌≡◌ {A = ℕ} 0 1 = cc in omega arith)
one (set w₁ h) none s t es et e = absurd (subst Ending (sym e) et)
one (set w₁ h) (atom (by_word w₂) ns₂ g) s t es et e = absurd (let z : ◌≡◌ {A = ℕ} 0 1 = cc in omega arith)
one (set w₁ h) (atom (by_number w₂) ns₂ g) s t es et e = absurd (let z : ◌≡◌ {A = ℕ} 0 1 = cc in omega arith)
one (set w₁ h) (cell i₂ g) s t es et e = absurd (let z : ◌≡◌ {A = ℕ} 0 1 = cc in omega arith)
one (set w₁ h) (connector a₂ b₂ g) s t es et e = absurd (let z : ◌≡◌ {A = ℕ} 0 1 = cc in omega arith)
one (set w₁ h) (set w₂ g) s t es et e =
    let same : w₁ ≡ w₂ = cc in
    let rest : joined h (item_tokens h) ++ s ≡ joined g (item_tokens g) ++ t = cc in
    let x = joined_one h g (one h g) s t es et rest in
    (ap₂ set same x.0, x.1)

-- forms with the same tokens are the same
pub one_form : (h g : Items) → item_tokens h ≡ item_tokens g → h ≡ g
one_form h g e = (one h g [] [] tt tt (append-nil (item_tokens h) ∙ e ∙ sym (append-nil (item_tokens g)))).0
