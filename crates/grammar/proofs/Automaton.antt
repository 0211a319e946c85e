-- Tokens run through the phases to an end exactly where they are a hang's.
use Rattle.std.proofs.Common.{◌≡◌, ℕ, suc, ◌+◌, Bool, true, false, not, ◌&&◌, List, [], ◌∷◌, ◌++◌, length, sym, refl, ap, ◌∙◌, append_assoc, append-nil, arith}
use Rattle.std.proofs.lemmas.Bool.{false≢true, and_parts}
use Rattle.text.specs.declared.packed.Name.{Name}
use Rattle.grammar.specs.declared.stand.Phase.{Phase}
use Rattle.grammar.specs.declared.stand.Phase.TheVariants.{Start, Item, Label, Ports, Port, First, Second, Set, After}
use Rattle.grammar.specs.Seen.{Seen, word, number, name, comma, open_paren, close_paren, open_brace, close_brace, equal, at_sign, other}
use Rattle.grammar.specs.State.{next_phase, next_cells, with_set}
use Rattle.grammar.specs.Tests.{allowed, begins_item, inside}
use Rattle.grammar.specs.Reading.{may_end}
use Rattle.grammar.specs.Form.{Written, by_word, by_number, Items, none, atom, cell, connector, set, more_ports, port_tokens, joined, item_tokens, Formed}

-- each token is allowed at its place, and a hang may end after the last
abbrev pub runs : Phase → List Bool → List Seen → Bool
runs p cs [] = may_end p && not (inside cs)
runs p cs (t ∷ ts) = allowed p cs t && runs (next_phase p t) (next_cells cs t) ts

-- The tokens of items run.

-- what may stand where a list of items ends
abbrev Ending : List Bool → List Seen → Type 0
Ending cs s = (runs Start cs s ≡ true) × (runs Label cs s ≡ true) × (runs After cs s ≡ true)

abbrev Running : Items → List Bool → List Seen → Type 0
Running h cs s = (runs Start cs (item_tokens h ++ s) ≡ true) × (runs Label cs (joined h (item_tokens h) ++ s) ≡ true) × (runs After cs (joined h (item_tokens h) ++ s) ≡ true)

ports_run : (ns : List Name) (k : ℕ) (cs : List Bool) (s : List Seen) → runs After cs s ≡ true → runs (Port k) cs (more_ports ns ++ s) ≡ true
ports_run [] k cs s h = h
ports_run (n ∷ ns) k cs s h = ports_run ns (k + 1) cs s h

label_runs : (ns : List Name) (cs : List Bool) (s u : List Seen) → runs Label cs (s ++ u) ≡ true → runs After cs (s ++ u) ≡ true → runs Label cs ((port_tokens ns ++ s) ++ u) ≡ true
label_runs [] cs s u h g = h
label_runs (n ∷ ns) cs s u h g = ap (runs (Port 1) cs) (append_assoc (more_ports ns) s u) ∙ ports_run ns 1 cs (s ++ u) g

atom_runs : (w : Written) (ns : List Name) (h : Items) (cs : List Bool) (s : List Seen) → Running h cs s → Running (atom w ns h) cs s
atom_runs (by_word w) ns h cs s r = let x = label_runs ns cs (joined h (item_tokens h)) s r.1 r.2 in (x, x, x)
atom_runs (by_number w) ns h cs s r = let x = label_runs ns cs (joined h (item_tokens h)) s r.1 r.2 in (x, x, x)

-- a brace ends the list inside a cell
closed : (s : List Seen) (d : ℕ) → ((cs : List Bool) → length cs ≡ d → runs After cs s ≡ true) → (cs : List Bool) → length cs ≡ suc d → Ending cs (close_brace ∷ s)
closed s d f [] l = absurd (omega arith)
closed s d f (b ∷ bs) l = let h = f bs (omega arith) in (h, h, h)

with_set_length : (cs : List Bool) (d : ℕ) → length cs ≡ d → length (with_set cs) ≡ d
with_set_length [] d l = l
with_set_length (b ∷ bs) d l = l

-- what follows may depend on how many cells are open, and not on their sets
items_run : (h : Items) (d : ℕ) (s : List Seen) → ((cs : List Bool) → length cs ≡ d → Ending cs s) → (cs : List Bool) → length cs ≡ d → Running h cs s
items_run none d s e cs l = e cs l
items_run (atom w ns h) d s e cs l = atom_runs w ns h cs s (items_run h d s e cs l)
items_run (cell inner h) d s e cs l =
    let u = joined h (item_tokens h) in
    let c = closed (u ++ s) d (λ ds k. (items_run h d s e ds k).2) in
    let x = ap (runs Start (false ∷ cs)) (append_assoc (item_tokens inner) (close_brace ∷ u) s) ∙ (items_run inner (suc d) (close_brace ∷ (u ++ s)) c (false ∷ cs) (omega arith)).0 in
    (x, x, x)
items_run (connector a b h) d s e cs l = let x = (items_run h d s e cs l).2 in (x, x, x)
items_run (set w h) d s e cs l = let x = (items_run h d s e (with_set cs) (with_set_length cs d l)).2 in (x, x, x)

no_cells_ending : (cs : List Bool) → length cs ≡ 0 → Ending cs []
no_cells_ending [] l = (refl, refl, refl)
no_cells_ending (b ∷ bs) l = absurd (omega arith)

pub formed_runs : (ts : List Seen) → Formed ts → runs Start [] ts ≡ true
formed_runs ts f = ap (runs Start []) (sym (append-nil (item_tokens f.0) ∙ f.1)) ∙ (items_run f.0 0 [] no_cells_ending [] refl).0

-- Tokens that run are those of items.

-- for each open cell the items that stand after it
abbrev Levels : List Bool → Type 0
Levels [] = Unit {0}
Levels (b ∷ bs) = Items × Levels bs

abbrev closes : (cs : List Bool) → Levels cs → List Seen
closes [] ls = []
closes (b ∷ bs) ls = close_brace ∷ (joined ls.0 (item_tokens ls.0) ++ closes bs ls.1)

abbrev onward : Items → (cs : List Bool) → Levels cs → List Seen
onward h cs ls = joined h (item_tokens h) ++ closes cs ls

-- what is left from a phase on
abbrev Left : Phase → List Bool → List Seen → Type 0
Left Start cs ts = (h : Items) × (ls : Levels cs) × (ts ≡ item_tokens h ++ closes cs ls)
Left Item cs ts = (h : Items) × (ls : Levels cs) × ((s : List Seen) → joined h s ≡ comma ∷ s) × (ts ≡ item_tokens h ++ closes cs ls)
Left Label cs ts = (ns : List Name) × (h : Items) × (ls : Levels cs) × (ts ≡ port_tokens ns ++ onward h cs ls)
Left (Ports k) cs ts = (n : Name) × (ns : List Name) × (h : Items) × (ls : Levels cs) × (ts ≡ name n ∷ (more_ports ns ++ onward h cs ls))
Left (Port k) cs ts = (ns : List Name) × (h : Items) × (ls : Levels cs) × (ts ≡ more_ports ns ++ onward h cs ls)
Left First cs ts = (b : Name) × (h : Items) × (ls : Levels cs) × (ts ≡ equal ∷ (name b ∷ onward h cs ls))
Left Second cs ts = (b : Name) × (h : Items) × (ls : Levels cs) × (ts ≡ name b ∷ onward h cs ls)
Left Set cs ts = (w : List ℕ) × (h : Items) × (ls : Levels cs) × (ts ≡ number w ∷ onward h cs ls)
Left After cs ts = (h : Items) × (ls : Levels cs) × (ts ≡ onward h cs ls)

abbrev Rest : List Seen → Type 0
Rest ts = (p : Phase) (cs : List Bool) → runs p cs ts ≡ true → Left p cs ts

none_left : (p : Phase) (cs : List Bool) → runs p cs [] ≡ true → Left p cs []
none_left Start [] h = (none, tt, refl)
none_left Start (b ∷ bs) h = absurd (false≢true h)
none_left Item cs h = absurd (false≢true h)
none_left Label [] h = ([], none, tt, refl)
none_left Label (b ∷ bs) h = absurd (false≢true h)
none_left (Ports k) cs h = absurd (false≢true h)
none_left (Port k) cs h = absurd (false≢true h)
none_left First cs h = absurd (false≢true h)
none_left Second cs h = absurd (false≢true h)
none_left Set cs h = absurd (false≢true h)
none_left After [] h = (none, tt, refl)
none_left After (b ∷ bs) h = absurd (false≢true h)

-- a token with what is left after it
on : (t : Seen) {ts us : List Seen} → ts ≡ us → t ∷ ts ≡ t ∷ us
on t e = ap (λ s. t ∷ s) e

begun : (cs : List Bool) (t : Seen) (ts : List Seen) → Rest ts → begins_item t ≡ true → runs (next_phase Item t) (next_cells cs t) ts ≡ true → Left Item cs (t ∷ ts)
begun cs (word w) ts r h g = let x = r Label cs g in (atom (by_word w) x.0 x.1, x.2, λ s. refl, on (word w) (x.3 ∙ sym (append_assoc (port_tokens x.0) (joined x.1 (item_tokens x.1)) (closes cs x.2))))
begun cs (number w) ts r h g = let x = r Label cs g in (atom (by_number w) x.0 x.1, x.2, λ s. refl, on (number w) (x.3 ∙ sym (append_assoc (port_tokens x.0) (joined x.1 (item_tokens x.1)) (closes cs x.2))))
begun cs (name n) ts r h g = let x = r First cs g in (connector n x.0 x.1, x.2, λ s. refl, on (name n) x.3)
begun cs comma ts r h g = absurd (false≢true h)
begun cs open_paren ts r h g = absurd (false≢true h)
begun cs close_paren ts r h g = absurd (false≢true h)
begun cs open_brace ts r h g = let x = r Start (false ∷ cs) g in (cell x.0 x.1.0, x.1.1, λ s. refl, on open_brace (x.2 ∙ sym (append_assoc (item_tokens x.0) (close_brace ∷ joined x.1.0 (item_tokens x.1.0)) (closes cs x.1.1))))
begun cs close_brace ts r h g = absurd (false≢true h)
begun cs equal ts r h g = absurd (false≢true h)
begun [] at_sign ts r h g = let x = r Set [] g in (set x.0 x.1, x.2, λ s. refl, on at_sign x.3)
begun (b ∷ bs) at_sign ts r h g = let x = r Set (true ∷ bs) g in (set x.0 x.1, x.2, λ s. refl, on at_sign x.3)
begun cs other ts r h g = absurd (false≢true h)

start_left : (cs : List Bool) (t : Seen) (ts : List Seen) → Rest ts → runs Start cs (t ∷ ts) ≡ true → Left Start cs (t ∷ ts)
start_left cs (word w) ts r h = let x = begun cs (word w) ts r refl h in (x.0, x.1, x.3)
start_left cs (number w) ts r h = let x = begun cs (number w) ts r refl h in (x.0, x.1, x.3)
start_left cs (name n) ts r h = let x = begun cs (name n) ts r refl h in (x.0, x.1, x.3)
start_left cs comma ts r h = absurd (false≢true h)
start_left cs open_paren ts r h = absurd (false≢true h)
start_left cs close_paren ts r h = absurd (false≢true h)
start_left cs open_brace ts r h = let x = begun cs open_brace ts r refl h in (x.0, x.1, x.3)
start_left [] close_brace ts r h = absurd (false≢true h)
start_left (b ∷ bs) close_brace ts r h = let x = r After bs h in (none, (x.0, x.1), on close_brace x.2)
start_left cs equal ts r h = absurd (false≢true h)
start_left cs at_sign ts r h = let x = begun cs at_sign ts r refl h in (x.0, x.1, x.3)
start_left cs other ts r h = absurd (false≢true h)

item_left : (cs : List Bool) (t : Seen) (ts : List Seen) → Rest ts → runs Item cs (t ∷ ts) ≡ true → Left Item cs (t ∷ ts)
item_left cs t ts r h = let x = and_parts (begins_item t) (runs (next_phase Item t) (next_cells cs t) ts) h in begun cs t ts r x.0 x.1

after_left : (cs : List Bool) (t : Seen) (ts : List Seen) → Rest ts → runs After cs (t ∷ ts) ≡ true → Left After cs (t ∷ ts)
after_left cs (word w) ts r h = absurd (false≢true h)
after_left cs (number w) ts r h = absurd (false≢true h)
after_left cs (name n) ts r h = absurd (false≢true h)
after_left cs comma ts r h = let x = r Item cs h in (x.0, x.1, on comma x.3 ∙ ap (λ s. s ++ closes cs x.1) (sym (x.2 (item_tokens x.0))))
after_left cs open_paren ts r h = absurd (false≢true h)
after_left cs close_paren ts r h = absurd (false≢true h)
after_left cs open_brace ts r h = absurd (false≢true h)
after_left [] close_brace ts r h = absurd (false≢true h)
after_left (b ∷ bs) close_brace ts r h = let x = r After bs h in (none, (x.0, x.1), on close_brace x.2)
after_left cs equal ts r h = absurd (false≢true h)
after_left cs at_sign ts r h = absurd (false≢true h)
after_left cs other ts r h = absurd (false≢true h)

label_left : (cs : List Bool) (t : Seen) (ts : List Seen) → Rest ts → runs Label cs (t ∷ ts) ≡ true → Left Label cs (t ∷ ts)
label_left cs (word w) ts r h = absurd (false≢true h)
label_left cs (number w) ts r h = absurd (false≢true h)
label_left cs (name n) ts r h = absurd (false≢true h)
label_left cs comma ts r h = let x = after_left cs comma ts r h in ([], x.0, x.1, x.2)
label_left cs open_paren ts r h = let x = r (Ports 0) cs h in (x.0 ∷ x.1, x.2, x.3, on open_paren x.4)
label_left cs close_paren ts r h = absurd (false≢true h)
label_left cs open_brace ts r h = absurd (false≢true h)
label_left cs close_brace ts r h = let x = after_left cs close_brace ts r h in ([], x.0, x.1, x.2)
label_left cs equal ts r h = absurd (false≢true h)
label_left cs at_sign ts r h = absurd (false≢true h)
label_left cs other ts r h = absurd (false≢true h)

ports_left : (k : ℕ) (cs : List Bool) (t : Seen) (ts : List Seen) → Rest ts → runs (Ports k) cs (t ∷ ts) ≡ true → Left (Ports k) cs (t ∷ ts)
ports_left k cs (word w) ts r h = absurd (false≢true h)
ports_left k cs (number w) ts r h = absurd (false≢true h)
ports_left k cs (name n) ts r h = let x = r (Port (k + 1)) cs h in (n, x.0, x.1, x.2, on (name n) x.3)
ports_left k cs comma ts r h = absurd (false≢true h)
ports_left k cs open_paren ts r h = absurd (false≢true h)
ports_left k cs close_paren ts r h = absurd (false≢true h)
ports_left k cs open_brace ts r h = absurd (false≢true h)
ports_left k cs close_brace ts r h = absurd (false≢true h)
ports_left k cs equal ts r h = absurd (false≢true h)
ports_left k cs at_sign ts r h = absurd (false≢true h)
ports_left k cs other ts r h = absurd (false≢true h)

port_left : (k : ℕ) (cs : List Bool) (t : Seen) (ts : List Seen) → Rest ts → runs (Port k) cs (t ∷ ts) ≡ true → Left (Port k) cs (t ∷ ts)
port_left k cs (word w) ts r h = absurd (false≢true h)
port_left k cs (number w) ts r h = absurd (false≢true h)
port_left k cs (name n) ts r h = absurd (false≢true h)
port_left k cs comma ts r h = let x = r (Ports k) cs h in (x.0 ∷ x.1, x.2, x.3, on comma x.4)
port_left k cs open_paren ts r h = absurd (false≢true h)
port_left k cs close_paren ts r h = let x = r After cs h in ([], x.0, x.1, on close_paren x.2)
port_left k cs open_brace ts r h = absurd (false≢true h)
port_left k cs close_brace ts r h = absurd (false≢true h)
port_left k cs equal ts r h = absurd (false≢true h)
port_left k cs at_sign ts r h = absurd (false≢true h)
port_left k cs other ts r h = absurd (false≢true h)

first_left : (cs : List Bool) (t : Seen) (ts : List Seen) → Rest ts → runs First cs (t ∷ ts) ≡ true → Left First cs (t ∷ ts)
first_left cs (word w) ts r h = absurd (false≢true h)
first_left cs (number w) ts r h = absurd (false≢true h)
first_left cs (name n) ts r h = absurd (false≢true h)
first_left cs comma ts r h = absurd (false≢true h)
first_left cs open_paren ts r h = absurd (false≢true h)
first_left cs close_paren ts r h = absurd (false≢true h)
first_left cs open_brace ts r h = absurd (false≢true h)
first_left cs close_brace ts r h = absurd (false≢true h)
first_left cs equal ts r h = let x = r Second cs h in (x.0, x.1, x.2, on equal x.3)
first_left cs at_sign ts r h = absurd (false≢true h)
first_left cs other ts r h = absurd (false≢true h)

second_left : (cs : List Bool) (t : Seen) (ts : List Seen) → Rest ts → runs Second cs (t ∷ ts) ≡ true → Left Second cs (t ∷ ts)
second_left cs (word w) ts r h = absurd (false≢true h)
second_left cs (number w) ts r h = absurd (false≢true h)
second_left cs (name n) ts r h = let x = r After cs h in (n, x.0, x.1, on (name n) x.2)
second_left cs comma ts r h = absurd (false≢true h)
second_left cs open_paren ts r h = absurd (false≢true h)
second_left cs close_paren ts r h = absurd (false≢true h)
second_left cs open_brace ts r h = absurd (false≢true h)
second_left cs close_brace ts r h = absurd (false≢true h)
second_left cs equal ts r h = absurd (false≢true h)
second_left cs at_sign ts r h = absurd (false≢true h)
second_left cs other ts r h = absurd (false≢true h)

set_left : (cs : List Bool) (t : Seen) (ts : List Seen) → Rest ts → runs Set cs (t ∷ ts) ≡ true → Left Set cs (t ∷ ts)
set_left cs (word w) ts r h = absurd (false≢true h)
set_left cs (number w) ts r h = let x = r After cs h in (w, x.0, x.1, on (number w) x.2)
set_left cs (name n) ts r h = absurd (false≢true h)
set_left cs comma ts r h = absurd (false≢true h)
set_left cs open_paren ts r h = absurd (false≢true h)
set_left cs close_paren ts r h = absurd (false≢true h)
set_left cs open_brace ts r h = absurd (false≢true h)
set_left cs close_brace ts r h = absurd (false≢true h)
set_left cs equal ts r h = absurd (false≢true h)
set_left cs at_sign ts r h = absurd (false≢true h)
set_left cs other ts r h = absurd (false≢true h)

step : (p : Phase) (cs : List Bool) (t : Seen) (ts : List Seen) → Rest ts → runs p cs (t ∷ ts) ≡ true → Left p cs (t ∷ ts)
step Start cs t ts r h = start_left cs t ts r h
step Item cs t ts r h = item_left cs t ts r h
step Label cs t ts r h = label_left cs t ts r h
step (Ports k) cs t ts r h = ports_left k cs t ts r h
step (Port k) cs t ts r h = port_left k cs t ts r h
step First cs t ts r h = first_left cs t ts r h
step Second cs t ts r h = second_left cs t ts r h
step Set cs t ts r h = set_left cs t ts r h
step After cs t ts r h = after_left cs t ts r h

left : (ts : List Seen) → Rest ts
left [] p cs h = none_left p cs h
left (t ∷ ts) p cs h = step p cs t ts (left ts) h

pub runs_formed : (ts : List Seen) → runs Start [] ts ≡ true → Formed ts
runs_formed ts h = let x = left ts Start [] h in (x.0, sym (x.2 ∙ append-nil (item_tokens x.0)))

-- From every phase there is a way to an end.

abbrev closing : List Bool → List Seen
closing [] = []
closing (b ∷ bs) = close_brace ∷ closing bs

after_closing : (cs : List Bool) → runs After cs (closing cs) ≡ true
after_closing [] = refl
after_closing (b ∷ bs) = after_closing bs

label_closing : (cs : List Bool) → runs Label cs (closing cs) ≡ true
label_closing [] = refl
label_closing (b ∷ bs) = after_closing bs

start_closing : (cs : List Bool) → runs Start cs (closing cs) ≡ true
start_closing [] = refl
start_closing (b ∷ bs) = after_closing bs

pub finish : (p : Phase) (cs : List Bool) → (more : List Seen) × (runs p cs more ≡ true)
finish Start cs = (closing cs, start_closing cs)
finish Item cs = (word [] ∷ closing cs, label_closing cs)
finish Label cs = (closing cs, label_closing cs)
finish (Ports k) cs = (name (record { packed = 0 }) ∷ (close_paren ∷ closing cs), after_closing cs)
finish (Port k) cs = (close_paren ∷ closing cs, after_closing cs)
finish First cs = (equal ∷ (name (record { packed = 0 }) ∷ closing cs), after_closing cs)
finish Second cs = (name (record { packed = 0 }) ∷ closing cs, after_closing cs)
finish Set cs = (number [] ∷ closing cs, after_closing cs)
finish After cs = (closing cs, after_closing cs)
