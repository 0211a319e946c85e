-- The laws of `tokens`.
use Rattle.std.proofs.Common.{◌≡◌, ℕ, zero, suc, ◌+◌, ◌<◌, ◌≤◌, true, false, eqb, List, [], ◌∷◌, length, get_or, take, drop, Ok, Err, sym, refl, ap, ◌∙◌, ap₂, cond, add-zero, add-one, one-add, arith, length-drop}
use Rattle.std.proofs.lemmas.Bool.{cond-true, cond-false, ne_eqb}
use Rattle.std.proofs.lemmas.List.{get_or-drop}
use Rattle.std.proofs.lemmas.List.Sums.{prefix_len_stops}
use Rattle.std.specs.List.{prefix_len}
use Rattle.fault.specs.declared.Refusal.{Refusal}
use Rattle.text.specs.declared.token.Sort.{Sort}
use Rattle.text.specs.declared.token.Sort.TheVariants as sorts
use Rattle.text.specs.declared.token.Mark.TheVariants.{Turn, Colon}
use Rattle.text.specs.Classes.{class_of, blank}
use Rattle.text.specs.Tokens.{token, end, fault, tokens, first, front, tok, mark}
use Rattle.text.proofs.Slices.{past, past_is}

pub tokens_skip : (s : List ℕ) (k at : ℕ) → k ≤ length s → tokens k at s ≡ tokens 0 (at + k) (drop k s)
unfolding tokens
tokens_skip s zero at h = rw add-zero refl
tokens_skip [] (suc k) at h = absurd (omega arith)
tokens_skip (b ∷ bs) (suc k) at h =
    let e : at + suc k ≡ suc at + k = omega arith in rw e (tokens_skip bs k (suc at) (omega arith))

pub tokens_none : (s : List ℕ) (at : ℕ) → length s ≡ 0 → tokens 0 at s ≡ end (at + length s)
unfolding tokens
tokens_none [] at h = rw add-zero refl
tokens_none (b ∷ bs) at h = absurd (omega arith)

-- blanks at the front
pub tokens_blanks : (s : List ℕ) (at : ℕ) → tokens 0 at s ≡ tokens 0 (at + prefix_len blank s) (drop (prefix_len blank s) s)
unfolding tokens
tokens_blanks [] at = rw add-zero refl
tokens_blanks (b ∷ bs) at =
    elim (blank b) as (λ v. (blank b ≡ v) → tokens 0 at (b ∷ bs) ≡ tokens 0 (at + cond v (1 + prefix_len blank bs) 0) (drop (cond v (1 + prefix_len blank bs) 0) (b ∷ bs))) [
      | true ↦ λ e. (let m : suc at + prefix_len blank bs ≡ at + suc (prefix_len blank bs) = omega arith in cond-true (blank b) _ _ e ∙ tokens_blanks bs (suc at) ∙ rw (one-add, m) refl)
      | false ↦ λ e. rw add-zero refl
    ] refl

-- the same at a number that is known to count them
pub past_blanks : (s : List ℕ) (at n : ℕ) → n ≡ prefix_len blank s → tokens 0 (at + n) (past n s) ≡ tokens 0 at s
past_blanks s at n e = rw (past_is n s, e) (sym (tokens_blanks s at))

pub only_blanks : (s : List ℕ) (at n : ℕ) → n ≡ prefix_len blank s → n ≤ length s → length (past n s) ≡ 0 → end (at + length s) ≡ tokens 0 at s
only_blanks s at n e h l =
    let d = length-drop n s in
    let p : length (drop n s) ≡ 0 = rw (← past_is n s) l in
    let m : at + length s ≡ at + n + length (past n s) = omega arith in ap end m ∙ sym (tokens_none (past n s) (at + n) l) ∙ past_blanks s at n e

pub bare_front : (s : List ℕ) (n : ℕ) → n ≡ prefix_len blank s → n < length s → blank (get_or (past n s) 0 0) ≡ false
bare_front s n e h = rw (past_is n s, get_or-drop n s 0 0, add-zero, e) (prefix_len_stops blank s 0 (rw e at h))

pub tokens_first : (s : List ℕ) (at n : ℕ) (k : Sort) → 0 < length s → blank (get_or s 0 0) ≡ false → front (get_or s 0 0) (drop 1 s) ≡ Ok (k, n) → n < length s → tokens 0 at s ≡ token (tok k (take (n + 1) s)) at (tokens 0 (at + n + 1) (drop (n + 1) s))
unfolding tokens
tokens_first [] at n k h t f lt = absurd (omega arith)
tokens_first (b ∷ bs) at n k h t f lt =
    let e : at + n + 1 ≡ suc at + n = omega arith in
    cond-false (blank b) _ _ t ∙ ap (first (λ m. tokens m (suc at) bs) at b bs) f ∙ rw (e, add-one) (ap (token (tok k (b ∷ take n bs)) at) (tokens_skip bs n (suc at) (omega arith)))

pub tokens_fault : (s : List ℕ) (at : ℕ) (r : Refusal) → 0 < length s → blank (get_or s 0 0) ≡ false → front (get_or s 0 0) (drop 1 s) ≡ Err r → tokens 0 at s ≡ fault (record { refusal = r; place = at })
unfolding tokens
tokens_fault [] at r h t f = absurd (omega arith)
tokens_fault (b ∷ bs) at r h t f = cond-false (blank b) _ _ t ∙ ap (first (λ m. tokens m (suc at) bs) at b bs) f

turn_front : (bs : List ℕ) → 0 < length bs → get_or bs 0 0 ≡ 45 → front 58 bs ≡ Ok (sorts.Mark Turn, 1)
unfolding class_of
turn_front [] h e = absurd (omega arith)
turn_front (c ∷ cs) h e = rw e

colon_front : (bs : List ℕ) → (0 < length bs → get_or bs 0 0 ≡ 45 → ⊥) → front 58 bs ≡ Ok (sorts.Mark Colon, 0)
unfolding class_of
colon_front [] h = refl
colon_front (c ∷ cs) h = cond-false (eqb c 45) _ _ (ne_eqb c 45 (h (omega arith)))

colon_bare : blank 58 ≡ false
unfolding class_of
colon_bare = refl

pub tokens_turn : (s : List ℕ) (at : ℕ) → 1 < length s → get_or s 0 0 ≡ 58 → get_or s 1 0 ≡ 45 → tokens 0 at s ≡ token (mark Turn) at (tokens 0 (at + 2) (past 2 s))
tokens_turn [] at h e f = absurd (omega arith)
tokens_turn (b ∷ bs) at h e f =
    let g : front b bs ≡ Ok (sorts.Mark Turn, 1) = rw e (turn_front bs (omega arith) f) in
    let t : blank b ≡ false = rw e colon_bare in
    tokens_first (b ∷ bs) at 1 (sorts.Mark Turn) (omega arith) t g (omega arith)
    ∙ ap₂ (λ n r. token (mark Turn) at (tokens 0 n r)) (omega arith) (sym (past_is 2 (b ∷ bs)))

pub tokens_colon : (s : List ℕ) (at : ℕ) → 0 < length s → get_or s 0 0 ≡ 58 → (1 < length s → get_or s 1 0 ≡ 45 → ⊥) → tokens 0 at s ≡ token (mark Colon) at (tokens 0 (at + 1) (past 1 s))
tokens_colon [] at h e f = absurd (omega arith)
tokens_colon (b ∷ bs) at h e f =
    let g : front b bs ≡ Ok (sorts.Mark Colon, 0) = rw e (colon_front bs (λ l. f (omega arith))) in
    let t : blank b ≡ false = rw e colon_bare in
    tokens_first (b ∷ bs) at 0 (sorts.Mark Colon) (omega arith) t g (omega arith)
    ∙ ap₂ (λ n r. token (mark Colon) at (tokens 0 n r)) (omega arith) (sym (past_is 1 (b ∷ bs)))
