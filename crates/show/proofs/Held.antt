-- What a buffer holds after bytes were written.
use Rattle.std.proofs.Common.{◌≡◌, ℕ, ◌+◌, ◌^◌, ◌<◌, ◌≤◌, List, [], ◌∷◌, ◌++◌, length, get_or, drop, set, fold, sym, refl, ap, ◌∙◌, subst, ap₂, ⊎_elim, append_assoc, append-nil, arith, length-append, length-take}
use Rattle.std.proofs.lemmas.List.{take_all, take-append-le, drop_all, drop_more, set_at, set_past, length_push}
use Rattle.std.proofs.lemmas.Bool.{cases_lt}
use Rattle.show.specs.Page.{Ink, inked, pasted}

-- bytes were written over what stood there
pub record Held (name : ℕ) (old bs : List ℕ) (i : Ink) : Type 0 where
  pub name_is : i.name ≡ name
  pub out_is : i.out ≡ pasted bs old
  pub len_is : i.len ≡ length bs

-- one byte more
paste_one : (bs old : List ℕ) (b : ℕ) → set (pasted bs old) (length bs) b ≡ pasted (bs ++ (b ∷ [])) old
paste_one bs old b =
    let l : length (bs ++ (b ∷ [])) ≡ length bs + 1 = length_push bs b in
    ⊎_elim
    (λ (h : length bs < length old).
    ap (λ t. set (t ++ drop (length bs) old) (length bs) b) (take_all (length old) bs (omega arith))
    ∙ ap (λ t. set (bs ++ t) (length bs) b) (drop_more old (length bs) 0 h)
    ∙ set_at bs (get_or old (length bs) 0) (drop (length bs + 1) old) b (length bs) refl
    ∙ sym (append_assoc bs (b ∷ []) (drop (length bs + 1) old))
    ∙ ap₂ (λ t n. t ++ drop n old) (sym (take_all (length old) (bs ++ (b ∷ [])) (omega arith))) (sym l))
    (λ (h : length old ≤ length bs).
    let e : length (pasted bs old) ≤ length bs = simp (length-append, length-take) (omega (arith, ap length (drop_all (length bs) old h))) in
    set_past (pasted bs old) (length bs) b e
    ∙ ap₂ (λ s t. s ++ t) (sym (take-append-le (length old) bs (b ∷ []) h)) (drop_all (length bs) old h ∙ sym (drop_all (length (bs ++ (b ∷ []))) old (omega arith))))
    (cases_lt (length bs) (length old))

held_one : (name : ℕ) (old bs : List ℕ) (i : Ink) (b : ℕ) → length bs + 1 < 2 ^ 64 → Held name old bs i → Held name old (bs ++ (b ∷ [])) (inked i b)
unfolding inked
held_one name old bs i b f h = record {
  name_is = h.name_is;
  out_is = ap₂ (λ o n. set o n b) h.out_is h.len_is ∙ paste_one bs old b;
  len_is = omega (arith, h.len_is, length_push bs b);
}

held_more : (name : ℕ) (old : List ℕ) (cs bs : List ℕ) (i : Ink) → length bs + length cs < 2 ^ 64 → Held name old bs i → Held name old (bs ++ cs) (fold inked i cs)
held_more name old [] bs i f h = let Is : List ℕ → Type 0 = λ t. Held name old t i in subst Is (sym (append-nil bs)) h
held_more name old (c ∷ cs) bs i f h =
    let Is : List ℕ → Type 0 = λ t. Held name old t (fold inked (inked i c) cs) in
    let l = length_push bs c in
    subst Is (append_assoc bs (c ∷ []) cs) (held_more name old cs (bs ++ (c ∷ [])) (inked i c) (omega arith) (held_one name old bs i c (omega arith) h))

-- a buffer that nothing was written to
abbrev pub blank : ℕ → List ℕ → Ink
blank name old = record { name = name; out = old; len = 0 }

held_none : (name : ℕ) (old : List ℕ) → Held name old [] (blank name old)
held_none name old = record { name_is = refl; out_is = sym (ap (λ x. x ++ old) (take_all (length old) [] (omega arith))); len_is = refl }

pub held : (name : ℕ) (old cs : List ℕ) → length cs < 2 ^ 64 → Held name old cs (fold inked (blank name old) cs)
held name old cs f = held_more name old cs [] (blank name old) (omega arith) (held_none name old)
