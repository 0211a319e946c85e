-- The links of names, one after another.
use Rattle.std.proofs.Common.{◌≡◌, ℕ, suc, ◌+◌, ◌<◌, true, false, cond, eqb, List, [], ◌∷◌, ◌++◌, map, length, get_or, drop, filter, Some, None, Option, MatchOption, Bor, sym, refl, ap, ◌∙◌, ap₂, append_assoc, arith}
use Rattle.std.proofs.Math.Seq.{drop-cons}
use Rattle.std.specs.List.{find}
use Rattle.std.specs.Option.{option_copied, option_map, unwrap_or}
use Rattle.text.specs.declared.packed.Name.{Name}
use Rattle.plan.specs.declared.tables.FreeLink.{FreeLink}
use Rattle.std.proofs.lemmas.List.{get_or_default, get_or_past}
use Rattle.grammar.specs.declared.stand.Standing.{Standing}
use Rattle.grammar.specs.Names.{found, position}
use Rattle.grammar.proofs.Looking.{found_none, found_some}
use Rattle.plan.specs.declared.tables.Plan.{Plan}
use Rattle.plan.specs.Model.{model_of}
use Rattle.plan.specs.Sound.{count, port_links, rows}
use Rattle.placing.specs.Links.{closed, link_at, linked, links_from, open_link, unused}
use Rattle.placing.specs.Placing.{links_in}

-- what is read past the last name
abbrev pub no_standing : Standing
no_standing = record { name = record { packed = 0 }; twice = false; place = 0 }

-- the first row with a name
first_row : (n : Name) (s : List FreeLink) → option_map (λ f. f.link) (find (λ f. eqb f.name.packed n.packed) s) ≡ open_link n s
unfolding open_link
first_row n [] = refl
first_row n (f ∷ s) =
    let ih = first_row n s in
    elim (eqb f.name.packed n.packed) as (λ v. option_map (λ (g : FreeLink). g.link) (cond v (Some f) (find (λ g. eqb g.name.packed n.packed) s)) ≡ cond v (Some f.link) (open_link n s)) [ true ↦ refl | false ↦ ih ]

pub link_found : (n : Name) (s : List FreeLink) (row : Option (Bor FreeLink)) (o : Option ℕ) → option_map (λ y. y.now) row ≡ find (λ f. eqb f.name.packed n.packed) s → o ≡ option_map (λ y. y.now.link) row → o ≡ open_link n s
link_found n s None o e h = h ∙ ap (option_map (λ f. f.link)) e ∙ first_row n s
link_found n s (Some x) o e h = h ∙ ap (option_map (λ f. f.link)) e ∙ first_row n s

-- one name more
module _ (free : List FreeLink) (ns : List ℕ) (ss : List Standing) (i : ℕ) (d : Standing) (here : i < length ss) where
  after : drop i ss ≡ get_or ss i d ∷ drop (i + 1) ss
  after = let m : suc i ≡ i + 1 = omega arith in drop-cons ss i d here ∙ ap (λ j. get_or ss i d ∷ drop j ss) m

  links_closed : (x : ℕ) → closed free (get_or ss i d) ≡ Some x → links_from free ns (drop i ss) ≡ x ∷ links_from free ns (drop (i + 1) ss)
  unfolding links_from
  links_closed x e = ap (links_from free ns) after ∙ ap (λ o. linked o ns (λ left. links_from free left (drop (i + 1) ss))) e

  links_next : closed free (get_or ss i d) ≡ None → links_from free ns (drop i ss) ≡ get_or ns 0 0 ∷ links_from free (drop 1 ns) (drop (i + 1) ss)
  unfolding links_from
  links_next e = ap (links_from free ns) after ∙ ap (λ o. linked o ns (λ left. links_from free left (drop (i + 1) ss))) e

  pub one_closed : (links out : List ℕ) (x : ℕ) (w : List ℕ) → closed free (get_or ss i d) ≡ Some x → out ≡ links ++ (x ∷ []) → links ++ links_from free ns (drop i ss) ≡ w → out ++ links_from free ns (drop (i + 1) ss) ≡ w
  one_closed links out x w c o e = ap (λ s. s ++ links_from free ns (drop (i + 1) ss)) o ∙ append_assoc links (x ∷ []) _ ∙ ap (λ s. links ++ s) (sym (links_closed x c)) ∙ e

  pub one_new : (links out left : List ℕ) (x : ℕ) (w : List ℕ) → closed free (get_or ss i d) ≡ None → x ≡ get_or ns 0 0 → left ≡ drop 1 ns → out ≡ links ++ (x ∷ []) → links ++ links_from free ns (drop i ss) ≡ w → out ++ links_from free left (drop (i + 1) ss) ≡ w
  one_new links out left x w c is more o e =
      ap₂ (λ s ls. s ++ links_from free ls (drop (i + 1) ss)) o more ∙ append_assoc links (x ∷ []) _
      ∙ ap (λ y. links ++ (y ∷ links_from free (drop 1 ns) (drop (i + 1) ss))) is
      ∙ ap (λ s. links ++ s) (sym (links_next c)) ∙ e

pub links_none : (free : List FreeLink) (ns : List ℕ) → links_from free ns [] ≡ []
unfolding links_from
links_none free ns = refl

-- the next number, or 0 where none is left
pub next_number : (s t : List ℕ) (P : Type 0) (x : Option (Bor ℕ)) (r : Option ℕ) → MatchOption x ((length s ≡ 0) × P) (λ y. s ≡ y.now ∷ t) → r ≡ option_copied x → unwrap_or r 0 ≡ get_or s 0 0
next_number [] t P None r h e = ap (λ o. unwrap_or o 0) e
next_number (n ∷ s) t P None r h e = let z = h.0 in absurd (omega arith)
next_number s t P (Some y) r h e = ap (λ o. unwrap_or o 0) e ∙ sym (ap (λ l. get_or l 0 0) h)

pub linked_names : {L : Type 0} (p : Plan L) (ns : List Standing) (numbers : List ℕ) → numbers ≡ filter (λ x. eqb (count x (port_links (model_of p).atoms ++ map (λ f. f.link) (model_of p).free)) 0) (rows 0 8256) → links_from (model_of p).free numbers ns ≡ links_in (model_of p) ns
unfolding unused
linked_names p ns numbers e = ap (λ t. links_from (model_of p).free t ns) e

-- the link of a name, by its row
module _ (n : Name) (ns : List Standing) (links : List ℕ) (same : length links ≡ length ns) where
  pub row_within : (row : ℕ) → Some row ≡ found n ns → row < length links
  row_within row e = let h = found_some n ns row e in omega arith

  pub link_there : (row d : ℕ) → Some row ≡ found n ns → get_or links row d ≡ link_at ns links n
  link_there row d e =
      let h = found_some n ns row e in
      let within = row_within row e in
      get_or_default links row d 0 within ∙ ap (λ i. get_or links i 0) h.0

  pub link_missing : None ≡ found n ns → 0 ≡ link_at ns links n
  link_missing e = let h = found_none n ns e in sym (get_or_past links (position n ns) 0 (omega arith))
