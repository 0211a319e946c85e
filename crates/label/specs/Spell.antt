-- Packed words: the bytes that they spell.
use Rattle.std.specs.Prelude.{◌≡◌, ℕ, ◌-◌, ◌≤◌, Bool, true, false, ◌&&◌, List, [], length, take, Some, None, ◌==◌, refl}
use Rattle.std.proofs.Common.{sym, ap, ap₂, ◌∙◌, ⊎_elim, arith}
use Rattle.std.proofs.lemmas.Bool.{and_left, and_parts, and_from, cases_Bool, cond-true, cond-false, eqb-true, eq-eqb, or_left}
use Rattle.text.specs.Shapes.{is_word, is_name}
use Rattle.text.specs.Packed.{digits, pack, spelling}
use Rattle.text.proofs.Order.{lossless}
use Rattle.text.proofs.Packing as packing
use Rattle.label.specs.declared.form.Form.TheVariants.{Word}
use Rattle.label.specs.Tokens.{read_word, word_label, word_token}

-- said of `text`, which packs them
pub eight_digits : (n : ℕ) → length (digits 8 n []) ≡ 8
eight_digits n = packing.eight_digits n

pub spelling_short : (n : ℕ) → length (spelling n) ≤ 8
spelling_short n = packing.spelling_short n

pub spelling_front : (n : ℕ) → take (length (spelling n)) (digits 8 n []) ≡ spelling n
spelling_front n = packing.spelling_front n

-- the token of a packed word, and what reading it gives
pub record WordShown (n : ℕ) : Type 0 where
  pub is : word_token n ≡ Some (Word, spelling n)
  pub whole : is_word (spelling n) ≡ true
  pub short : length (spelling n) ≤ 11
  pub back : read_word (spelling n) ≡ Some n

pub word_shown : (n : ℕ) → word_label n ≡ true → WordShown n
word_shown n h =
    let p = and_parts (is_word (spelling n)) (pack (spelling n) == n) h in
    let l = spelling_short n in
    record {
      is = cond-true (word_label n) (Some (Word, spelling n)) None h;
      whole = p.0;
      short = omega arith;
      back = cond-true (is_word (spelling n)) (Some (pack (spelling n))) None p.0 ∙ ap Some (eqb-true (pack (spelling n)) n p.1);
    }

-- what is read is a packed word
pub packed_mine : (bs : List ℕ) → is_word bs ≡ true → word_label (pack bs) ≡ true
packed_mine bs h =
    let e = lossless bs (or_left (is_word bs) (is_name bs) h) in
    and_from (is_word (spelling (pack bs))) (pack (spelling (pack bs)) == pack bs) (ap is_word e ∙ h) (eq-eqb _ _ (ap pack e))

pub word_mine : (bs : List ℕ) (n : ℕ) → read_word bs ≡ Some n → word_label n ≡ true
word_mine bs n h =
    ⊎_elim
    (λ t. let c : Some (pack bs) ≡ Some n = sym (cond-true (is_word bs) (Some (pack bs)) None t) ∙ h in let e : pack bs ≡ n = cc in ap word_label (sym e) ∙ packed_mine bs t)
    (λ f. let c : None ≡ Some n = sym (cond-false (is_word bs) (Some (pack bs)) None f) ∙ h in let z : ◌≡◌ {A = ℕ} 0 1 = cc in absurd (omega arith))
    (cases_Bool (is_word bs))

-- what the code tests of a number
pub packed_test : (number n p : ℕ) (bytes : List ℕ) (w : Bool) → bytes ≡ digits 8 number [] → n ≡ length (spelling number) → w ≡ is_word (take (n - 0) bytes) → p ≡ pack (take (n - 0) bytes) → (w && p == number) ≡ word_label number
packed_test number n p bytes w b c t q =
    let m : n - 0 ≡ length (spelling number) = omega arith in
    let e : take (n - 0) bytes ≡ spelling number = ap₂ take m b ∙ spelling_front number in
    ap₂ (λ x y. x && y == number) (t ∙ ap is_word e) (q ∙ ap pack e)

pub word_test : (number n : ℕ) (bytes : List ℕ) (w : Bool) → bytes ≡ digits 8 number [] → n ≡ length (spelling number) → w ≡ is_word (take (n - 0) bytes) → w ≡ false → w ≡ word_label number
word_test number n bytes w b c t f = let h = packed_test number n (pack (take (n - 0) bytes)) bytes w b c t refl in f ∙ sym (and_left w _ f) ∙ h
