-- The lines of a script, one at a time.
use Rattle.std.proofs.Common.{◌≡◌, ℕ, ◌<◌, Bool, true, false, cond, eqb, List, [], ◌∷◌, ◌++◌, length, sym, refl, ap, ◌∙◌, append_assoc, append-nil, arith}
use Rattle.label.specs.declared.named.KindName.{KindName}
use Rattle.bigvosk.specs.Commands.{command_of}
use Rattle.bigvosk.specs.Cuts.{before, past}
use Rattle.bigvosk.specs.Scripts.{lines_of, led, next_kind, printed, transcript, kind_after}
use Rattle.bigvosk.proofs.Cutting.{before_turn, past_turn}

-- the first line is what is before the first newline
lines_led : (b : ℕ) (bs : List ℕ) → (0 < length bs → lines_of bs ≡ before 10 bs ∷ lines_of (past 10 bs)) →
    led b (lines_of bs) ≡ (b ∷ before 10 bs) ∷ lines_of (past 10 bs)
unfolding lines_of before past
lines_led b [] h = refl
lines_led b (d ∷ bs) h = ap (led b) (h (omega arith))

lines_cut : (b : ℕ) (bs : List ℕ) (t : Bool) → (0 < length bs → lines_of bs ≡ before 10 bs ∷ lines_of (past 10 bs)) →
    cond t ([] ∷ lines_of bs) (led b (lines_of bs)) ≡ cond t [] (b ∷ before 10 bs) ∷ lines_of (cond t bs (past 10 bs))
lines_cut b bs true h = refl
lines_cut b bs false h = lines_led b bs h

pub lines_first : (s : List ℕ) → 0 < length s → lines_of s ≡ before 10 s ∷ lines_of (past 10 s)
unfolding lines_of
lines_first [] h = absurd (omega arith)
lines_first (b ∷ bs) h = rw (before_turn 10 b bs, past_turn 10 b bs) (lines_cut b bs (eqb b 10) (lines_first bs))

pub lines_none : (s : List ℕ) → length s ≡ 0 → lines_of s ≡ []
unfolding lines_of
lines_none [] h = refl
lines_none (b ∷ bs) h = absurd (omega arith)

-- one line of a script more
pub kind_on : (k : KindName) (s line rest : List ℕ) → 0 < length s → line ≡ before 10 s → rest ≡ past 10 s →
    kind_after (next_kind k (command_of line)) (lines_of rest) ≡ kind_after k (lines_of s)
unfolding kind_after
kind_on k s line rest h e f = rw (e, f) (sym (ap (kind_after k) (lines_first s h)))

pub print_on : (k : KindName) (out s line rest : List ℕ) → 0 < length s → line ≡ before 10 s → rest ≡ past 10 s →
    (out ++ printed k line) ++ transcript (next_kind k (command_of line)) (lines_of rest) ≡ out ++ transcript k (lines_of s)
unfolding transcript
print_on k out s line rest h e f =
    rw (e, f) (append_assoc out _ _ ∙ sym (ap (λ ls. out ++ transcript k ls) (lines_first s h)))

pub kind_end : (k : KindName) (s : List ℕ) → length s ≡ 0 → kind_after k (lines_of s) ≡ k
unfolding kind_after
kind_end k s h = ap (kind_after k) (lines_none s h)

pub print_end : (k : KindName) (out s : List ℕ) → length s ≡ 0 → out ++ transcript k (lines_of s) ≡ out
unfolding transcript
print_end k out s h = ap (λ ls. out ++ transcript k ls) (lines_none s h) ∙ append-nil out
