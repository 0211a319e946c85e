-- The laws of the two kinds.
use Rattle.std.specs.Prelude.{◌≡◌, ℕ, true, false, List, ℤ, pos, negsuc, Some, None, Option, int_lt, nat_lt, refl}
use Rattle.std.proofs.Common.{sym, ap, ◌∙◌, arith}
use Rattle.std.proofs.lemmas.Bool.{cond-false, le-ltb}
use Rattle.std.proofs.lemmas.Bool.Decides.{nat_tests}
use Rattle.text.specs.Packed.{spelling}
use Rattle.std.specs.Fmt.{signed_decimal}
use Rattle.label.specs.declared.form.Form.{Form}
use Rattle.label.specs.declared.form.Form.TheVariants as forms
use Rattle.label.specs.declared.sure.SureWordOrNumber.{SureWordOrNumber}
use Rattle.label.specs.declared.sure.SureWordOrNumber.TheVariants as sures
use Rattle.label.specs.declared.word.WordLabel.{WordLabel}
use Rattle.label.specs.declared.word_or_number.WordOrNumber.{WordOrNumber}
use Rattle.label.specs.declared.word_or_number.WordOrNumber.TheVariants.{Word, Number}
use Rattle.label.specs.Kind.{Lawful, Shown, Sound}
use Rattle.std.specs.Option.{option_map}
use Rattle.label.specs.Tokens.{in_range, read_number, read_word, word_label}
use Rattle.label.specs.WordKind.{the_word, word_kind, word_raw}
use Rattle.label.specs.WordOrNumberKind.{mixed_kind, mixed_lower, mixed_mine, mixed_raw, mixed_token}
use Rattle.label.specs.Spell.{word_mine, word_shown}
use Rattle.label.specs.Digits.{number_mine, number_shown}
use Rattle.label.specs.SureLaws.{same_sure_word, same_sure_number}

-- the order of numbers
same_ltb : (a b : ℕ) → nat_lt a b ≡ false → nat_lt b a ≡ false → a ≡ b
same_ltb a b h k = grind (arith, nat_tests)

onward_ltb : (a b c : ℕ) → nat_lt a b ≡ true → nat_lt b c ≡ true → nat_lt a c ≡ true
onward_ltb a b c h k = grind (arith, nat_tests)

back_ltb : (a b : ℕ) → nat_lt a b ≡ true → nat_lt b a ≡ false
back_ltb a b h = grind (arith, nat_tests)

self_ltb : (a : ℕ) → nat_lt a a ≡ false
self_ltb a = le-ltb a a (omega arith)

never : {A : Type 0} → true ≡ false → A
never e = let z : ◌≡◌ {A = ℕ} 0 1 = cc in absurd (omega arith)

-- the order of numbers with a sign
same_ltZ : (a b : ℤ) → int_lt a b ≡ false → int_lt b a ≡ false → a ≡ b
same_ltZ (pos a) (pos b) h k = ap pos (same_ltb a b h k)
same_ltZ (pos a) (negsuc b) h k = never k
same_ltZ (negsuc a) (pos b) h k = never h
same_ltZ (negsuc a) (negsuc b) h k = ap negsuc (same_ltb a b k h)

onward_ltZ : (a b c : ℤ) → int_lt a b ≡ true → int_lt b c ≡ true → int_lt a c ≡ true
onward_ltZ (pos a) (pos b) (pos c) h k = onward_ltb a b c h k
onward_ltZ (pos a) (pos b) (negsuc c) h k = k
onward_ltZ (pos a) (negsuc b) c h k = never (sym h)
onward_ltZ (negsuc a) b (pos c) h k = refl
onward_ltZ (negsuc a) (pos b) (negsuc c) h k = never (sym k)
onward_ltZ (negsuc a) (negsuc b) (negsuc c) h k = onward_ltb c b a k h

back_ltZ : (a b : ℤ) → int_lt a b ≡ true → int_lt b a ≡ false
back_ltZ (pos a) (pos b) h = back_ltb a b h
back_ltZ (pos a) (negsuc b) h = never (sym h)
back_ltZ (negsuc a) (pos b) h = refl
back_ltZ (negsuc a) (negsuc b) h = back_ltb b a h

self_ltZ : (a : ℤ) → int_lt a a ≡ false
self_ltZ (pos a) = self_ltb a
self_ltZ (negsuc a) = self_ltb a

-- what a mapped answer comes from
from_mapped : {A B : Type 0} (f : A → B) (o : Option A) (y : B) → option_map f o ≡ Some y → (x : A) × (o ≡ Some x) × (f x ≡ y)
from_mapped f None y h = let z : ◌≡◌ {A = ℕ} 0 1 = cc in absurd (omega arith)
from_mapped f (Some x) y h = (x, refl, cc)

word_read_mine : (f : Form) (bs : List ℕ) (a : WordLabel) → word_kind.read f bs ≡ Some a → word_kind.mine a ≡ true
word_read_mine forms.Word bs a h =
    let m = from_mapped the_word (read_word bs) a h in
    ap (λ l. word_label l.0) (sym m.2) ∙ word_mine bs m.0 m.1
word_read_mine forms.Number bs a h = let z : ◌≡◌ {A = ℕ} 0 1 = cc in absurd (omega arith)

word_label_shown : (a : WordLabel) → word_kind.mine a ≡ true → Shown word_kind a
word_label_shown a h =
    let w = word_shown a.0 h in
    record { form = forms.Word; bytes = spelling a.0; is = w.is; whole = w.whole; short = w.short; back = ap (option_map the_word) w.back }

pub word_lawful : Lawful word_kind
word_lawful =
    record {
      not_itself = λ a m. self_ltb a.0;
      one_way = λ a b m n h. back_ltb a.0 b.0 h;
      same = λ a b m n h k. ap the_word (same_ltb a.0 b.0 h k);
      onward = λ a b c m n o h k. onward_ltb a.0 b.0 c.0 h k;
      shown = word_label_shown;
      unshown = λ a m. cond-false (word_label a.0) _ _ m;
      read_mine = word_read_mine;
    }

pub word_sound : Sound word_kind word_raw
word_sound = record { sure = λ s. s.word; apart = λ s t e. same_sure_word s t (ap (λ l. l.0) e) }

mixed_self : (a : WordOrNumber) → mixed_lower a a ≡ false
mixed_self (Word n) = self_ltb n
mixed_self (Number z) = self_ltZ z

mixed_one_way : (a b : WordOrNumber) → mixed_lower a b ≡ true → mixed_lower b a ≡ false
mixed_one_way (Word n) (Word m) h = back_ltb n m h
mixed_one_way (Word n) (Number z) h = never (sym h)
mixed_one_way (Number z) (Word n) h = refl
mixed_one_way (Number z) (Number y) h = back_ltZ z y h

mixed_same : (a b : WordOrNumber) → mixed_lower a b ≡ false → mixed_lower b a ≡ false → a ≡ b
mixed_same (Word n) (Word m) h k = ap Word (same_ltb n m h k)
mixed_same (Word n) (Number z) h k = never k
mixed_same (Number z) (Word n) h k = never h
mixed_same (Number z) (Number y) h k = ap Number (same_ltZ z y h k)

mixed_onward : (a b c : WordOrNumber) → mixed_lower a b ≡ true → mixed_lower b c ≡ true → mixed_lower a c ≡ true
mixed_onward (Word n) (Word m) (Word o) h k = onward_ltb n m o h k
mixed_onward (Word n) (Word m) (Number z) h k = k
mixed_onward (Word n) (Number y) c h k = never (sym h)
mixed_onward (Number x) b (Word o) h k = refl
mixed_onward (Number x) (Word m) (Number z) h k = never (sym k)
mixed_onward (Number x) (Number y) (Number z) h k = onward_ltZ x y z h k

mixed_shown : (a : WordOrNumber) → mixed_mine a ≡ true → Shown mixed_kind a
mixed_shown (Word n) h =
    let w = word_shown n h in
    record { form = forms.Word; bytes = spelling n; is = w.is; whole = w.whole; short = w.short; back = ap (option_map Word) w.back }
mixed_shown (Number z) h =
    let w = number_shown z h in
    record { form = forms.Number; bytes = signed_decimal z; is = w.is; whole = w.whole; short = w.short; back = ap (option_map Number) w.back }

mixed_unshown : (a : WordOrNumber) → mixed_mine a ≡ false → mixed_token a ≡ None
mixed_unshown (Word n) h = cond-false (word_label n) _ _ h
mixed_unshown (Number z) h = cond-false (in_range z) _ _ h

mixed_read_mine : (f : Form) (bs : List ℕ) (a : WordOrNumber) → mixed_kind.read f bs ≡ Some a → mixed_mine a ≡ true
mixed_read_mine forms.Word bs a h =
    let m = from_mapped Word (read_word bs) a h in
    ap mixed_mine (sym m.2) ∙ word_mine bs m.0 m.1
mixed_read_mine forms.Number bs a h =
    let m = from_mapped Number (read_number bs) a h in
    ap mixed_mine (sym m.2) ∙ number_mine bs m.0 m.1

pub mixed_lawful : Lawful mixed_kind
mixed_lawful =
    record {
      not_itself = λ a m. mixed_self a;
      one_way = λ a b m n h. mixed_one_way a b h;
      same = λ a b m n h k. mixed_same a b h k;
      onward = λ a b c m n o h k. mixed_onward a b c h k;
      shown = mixed_shown;
      unshown = mixed_unshown;
      read_mine = mixed_read_mine;
    }

mixed_sure : (s : SureWordOrNumber) → mixed_mine (mixed_raw s) ≡ true
mixed_sure (sures.Word s) = s.word
mixed_sure (sures.Number s) = s.fits

mixed_apart : (s t : SureWordOrNumber) → mixed_raw s ≡ mixed_raw t → s ≡ t
mixed_apart (sures.Word s) (sures.Word t) e = ap sures.Word (same_sure_word s t (cc))
mixed_apart (sures.Word s) (sures.Number t) e = let z : ◌≡◌ {A = ℕ} 0 1 = cc in absurd (omega arith)
mixed_apart (sures.Number s) (sures.Word t) e = let z : ◌≡◌ {A = ℕ} 0 1 = cc in absurd (omega arith)
mixed_apart (sures.Number s) (sures.Number t) e = ap sures.Number (same_sure_number s t (cc))

pub mixed_sound : Sound mixed_kind mixed_raw
mixed_sound = record { sure = mixed_sure; apart = mixed_apart }
