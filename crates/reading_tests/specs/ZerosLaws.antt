-- The laws of the kind that takes one token alone.
use Rattle.std.specs.Prelude.{◌≡◌, ℕ, true, List, [], ◌∷◌, Some, refl}
use Rattle.std.proofs.Common.{sym, ap, arith}
use Rattle.std.proofs.lemmas.Bool.Decides.{nat_tests}
use Rattle.text.specs.Classes.{class_of}
use Rattle.std.specs.List.{list_all}
use Rattle.label.specs.declared.form.Form.{Form}
use Rattle.label.specs.declared.form.Form.TheVariants.{Word, Number}
use Rattle.label.specs.Kind.{Lawful, Shown, Sound}
use Rattle.reading_tests.specs.declared.zeros.Zeros.{Zeros}
use Rattle.reading_tests.specs.Zeros.{zeros_kind, zeros_raw, zeros_read}

abbrev the_zeros : ℕ → Zeros
the_zeros n = record { held = n }

zeros_shown : (a : Zeros) → zeros_kind.mine a ≡ true → Shown zeros_kind a
unfolding class_of
zeros_shown a h =
    let e : a.held ≡ 0 = grind (arith, nat_tests) in
    record { form = Number; bytes = 48 ∷ []; is = grind (arith, nat_tests); whole = refl; short = omega arith; back = ap (λ n. Some (the_zeros n)) (sym e) }

zeros_read_mine : (f : Form) (bs : List ℕ) (a : Zeros) → zeros_read f bs ≡ Some a → zeros_kind.mine a ≡ true
zeros_read_mine Word bs a h = let z : ◌≡◌ {A = ℕ} 0 1 = cc in absurd (omega arith)
zeros_read_mine Number [] a h = let z : ◌≡◌ {A = ℕ} 0 1 = cc in absurd (omega arith)
zeros_read_mine Number (b ∷ c ∷ bs) a h = let z : ◌≡◌ {A = ℕ} 0 1 = cc in absurd (omega arith)
zeros_read_mine Number (b ∷ []) a h = grind (arith, nat_tests)

pub zeros_lawful : Lawful zeros_kind
zeros_lawful =
    record {
      not_itself = λ a m. refl;
      one_way = λ a b m n h. refl;
      same = λ a b m n h k. let e : a.held ≡ b.held = grind (arith, nat_tests) in ap the_zeros e;
      onward = λ a b c m n o h k. h;
      shown = zeros_shown;
      unshown = λ a m. grind (arith, nat_tests);
      read_mine = zeros_read_mine;
    }

pub zeros_sound : Sound zeros_kind zeros_raw
zeros_sound = record { sure = λ s. refl; apart = λ s t e. refl }
